-- Ascending lists of vertices. Assumes nothing.
use Rattle.std.proofs.Common.{◌≡◌, ℕ, ◌<◌, ◌≤◌, true, false, ◌||◌, ◌⊎◌, eqb, List, [], ◌∷◌, ◌++◌, length, sym, refl, subst, inl, inr, ⊎_elim, arith}
use Rattle.std.proofs.ByRecursion.{All-push}
use Rattle.std.proofs.lemmas.Bool.{false≢true, eqb-true, eq-eqb, or_cases, or_left, or_right}
use Rattle.std.proofs.lemmas.List.Recursion.{or_push}
use Rattle.std.specs.List.{AllByRecursion}
use Rattle.search.specs.Under.{has, Ascending}

pub has_push : (w x : ℕ) (xs : List ℕ) → has w (xs ++ x ∷ []) ≡ (has w xs || eqb w x)
has_push w x xs = or_push (has w) (eqb w) refl (λ _ _. refl) xs x

-- an entry is the first or among the others
pub entry : (x y : ℕ) (ys : List ℕ) → has x (y ∷ ys) ≡ true → (x ≡ y) ⊎ (has x ys ≡ true)
entry x y ys h = ⊎_elim (λ (e : eqb x y ≡ true). inl (eqb-true x y e)) inr (or_cases (eqb x y) (has x ys) h)

pub has_first : (x : ℕ) (xs : List ℕ) → has x (x ∷ xs) ≡ true
has_first x xs = or_left (eqb x x) _ (eq-eqb x x refl)

pub all_at : (P : ℕ → Type 0) (xs : List ℕ) (x : ℕ) → AllByRecursion P xs → has x xs ≡ true → P x
all_at P [] x a h = absurd (false≢true h)
all_at P (y ∷ xs) x a h = ⊎_elim (λ (e : x ≡ y). subst P (sym e) a.0) (all_at P xs x a.1) (entry x y xs h)

pub ascending_push : (xs : List ℕ) (v : ℕ) → Ascending xs → AllByRecursion (λ x. x < v) xs → Ascending (xs ++ v ∷ [])
ascending_push [] v a b = (tt, tt)
ascending_push (x ∷ xs) v a b = (All-push (λ y. x < y) xs v a.0 b.0, ascending_push xs v a.1 b.1)

-- two ascending lists of the same are one
pub same_ascending : (xs ys : List ℕ) → Ascending xs → Ascending ys → ((v : ℕ) → has v xs ≡ true → has v ys ≡ true) →
    ((v : ℕ) → has v ys ≡ true → has v xs ≡ true) → xs ≡ ys
same_ascending [] [] a b f k = refl
same_ascending [] (y ∷ ys) a b f k = absurd (false≢true (k y (has_first y ys)))
same_ascending (x ∷ xs) [] a b f k = absurd (false≢true (f x (has_first x xs)))
same_ascending (x ∷ xs) (y ∷ ys) a b f k =
    let e : x ≡ y = omega (arith, lowest y ys x b.0 (f x (has_first x xs)), lowest x xs y a.0 (k y (has_first y ys))) in
    let r = same_ascending xs ys a.1 b.1 (later x y xs ys e a.0 f) (later y x ys xs (sym e) b.0 k) in
    cc
  where
    lowest : (q : ℕ) (qs : List ℕ) (p : ℕ) → AllByRecursion (λ z. q < z) qs → has p (q ∷ qs) ≡ true → q ≤ p
    lowest q qs p h e =
        ⊎_elim (λ (i : p ≡ q). omega arith) (λ (i : has p qs ≡ true). omega (arith, all_at (λ z. q < z) qs p h i)) (entry p q qs e)

    later : (p q : ℕ) (ps qs : List ℕ) → p ≡ q → AllByRecursion (λ z. p < z) ps → ((v : ℕ) → has v (p ∷ ps) ≡ true → has v (q ∷ qs) ≡ true) →
        (v : ℕ) → has v ps ≡ true → has v qs ≡ true
    later p q ps qs i h j v m =
        ⊎_elim (λ (o : v ≡ q). absurd (omega (arith, all_at (λ z. p < z) ps v h m))) (λ o. o) (entry v q qs (j v (or_right (eqb v p) _ m)))

-- where nothing can be taken, nothing is left
pub none_left : (xs : List ℕ) → (0 < length xs → false ≡ true) → xs ≡ []
none_left [] h = refl
none_left (x ∷ xs) h = absurd (false≢true (h (omega arith)))
