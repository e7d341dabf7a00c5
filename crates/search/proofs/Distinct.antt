-- Lists with each entry once are no longer than the range they are of. Assumes nothing.
use Rattle.std.proofs.Common.{◌≡◌, ℕ, ◌<◌, ◌≤◌, Bool, true, false, ◌||◌, eqb, List, [], ◌∷◌, length, get_or, take, set, replicate, refl, ◌∙◌, arith, get_or-set_other}
use Rattle.std.proofs.lemmas.Bool.{or_parts, eqb-false}
use Rattle.std.proofs.lemmas.List.{length-replicate, length-set}
use Rattle.std.proofs.lemmas.List.Recursion.{same_from_clauses}
use Rattle.std.proofs.lemmas.Map.Steps.{length-le_from_distinct_below}
use Rattle.std.specs.List.{AllByRecursion, IsDistinct, list_any}
use Rattle.search.specs.Under.{has, Distinct}
use Rattle.search.proofs.Lists.{all_at}
use Rattle.search.proofs.Marks.{ones, ones_none, ones_front, no_mark}

apart : (x : ℕ) (xs : List ℕ) → has x xs ≡ false → AllByRecursion (λ y. eqb x y ≡ false) xs
apart x [] h = tt
apart x (y ∷ ys) h = let b = or_parts (eqb x y) (has x ys) h in (b.0, apart x ys b.1)

distinct : (xs : List ℕ) → Distinct xs → IsDistinct eqb xs
unfolding IsDistinct
distinct [] d = tt
distinct (x ∷ xs) d = (apart x xs d.0, distinct xs d.1)

-- of the numbers below n there are no more than n
pub pigeonhole : (n : ℕ) (xs : List ℕ) → Distinct xs → AllByRecursion (λ x. x < n) xs → length xs ≤ n
pigeonhole n xs d a = length-le_from_distinct_below xs n (distinct xs d) (λ q e. all_at (λ x. x < n) xs q a (listed q xs e))
  where
    listed : (q : ℕ) (ys : List ℕ) → list_any (eqb q) ys ≡ true → has q ys ≡ true
    listed q ys e = same_from_clauses (has q) (list_any (eqb q)) (λ y b. eqb q y || b) refl (λ _ _. refl) (λ _ _. refl) ys ∙ e

-- n marks, set at the entries
abbrev pub seen : ℕ → List ℕ → List Bool
seen n [] = replicate n false
seen n (x ∷ xs) = set (seen n xs) x true

pub seen_size : (n : ℕ) (xs : List ℕ) → length (seen n xs) ≡ n
seen_size n [] = length-replicate n false
seen_size n (x ∷ xs) = length-set (seen n xs) x true ∙ seen_size n xs

pub unseen : (n x : ℕ) (xs : List ℕ) → has x xs ≡ false → get_or (seen n xs) x false ≡ false
unseen n x [] h = no_mark n x
unseen n x (y ∷ xs) h =
    let b = or_parts (eqb x y) (has x xs) h in
    get_or-set_other (seen n xs) y x true false (eqb-false x y b.0) ∙ unseen n x xs b.1

-- as many are set as there are entries
pub counted : (n : ℕ) (xs : List ℕ) → Distinct xs → AllByRecursion (λ x. x < n) xs → ones (take n (seen n xs)) ≡ length xs
counted n [] d a = ones_none n n
counted n (x ∷ xs) d a = omega (arith, ones_front n x (seen n xs) a.0 (omega (arith, a.0, seen_size n xs)) (unseen n x xs d.0), counted n xs d.1 a.1)
