-- Bytes split at a byte, which they do in one way only. Assumes nothing.
use Rattle.std.proofs.Common.{◌≡◌, ℕ, zero, suc, Bool, true, not, ◌&&◌, eqb, List, [], ◌∷◌, ◌++◌, refl, subst, arith, ◌<◌, ◌+◌, take, drop, length, sym, ap, ◌∙◌, ◌≢◌, slice_index}
use Rattle.std.specs.Int.{IsInRange}
use Rattle.std.specs.List.{All}
use Rattle.std.proofs.lemmas.List.{take-append-drop, drop_more, get_or-take, length-take-le}
use Rattle.std.proofs.lemmas.Bool.{both_ways, not-true, and_parts, eq-eqb}
use Rattle.lines.specs.Parts.{Lacks, SplitsAt}

-- two ways to split at b are the same
pub same_split : (b : ℕ) (f f' r r' : List ℕ) → Lacks f b → Lacks f' b → f ++ b ∷ r ≡ f' ++ b ∷ r' → (f ≡ f') × (r ≡ r')
same_split b [] [] r r' p q e = (refl, cc)
same_split b [] (y ∷ f') r r' p q e = absurd (q 0 (omega arith) (cc))
same_split b (x ∷ f) [] r r' p q e = absurd (p 0 (omega arith) (cc))
same_split b (x ∷ f) (y ∷ f') r r' p q e =
    let head : x ≡ y = cc in
    let tail : f ++ b ∷ r ≡ f' ++ b ∷ r' = cc in
    let m = same_split b f f' r r' (λ k l. p (suc k) (omega arith)) (λ k l. q (suc k) (omega arith)) tail in
    let m0 = m.0 in
    (cc, m.1)

-- b does stand between f and r
pub not_lacked : (b : ℕ) (f r : List ℕ) → Lacks (f ++ b ∷ r) b → ⊥
not_lacked b [] r p = p 0 (omega arith) refl
not_lacked b (x ∷ f) r p = not_lacked b f r (λ k l. p (suc k) (omega arith))

-- where b stands but once, the bytes before any b are the bytes before that one
pub same_front : (b : ℕ) (f f' r r' : List ℕ) → Lacks f' b → Lacks r' b → f ++ b ∷ r ≡ f' ++ b ∷ r' → f ≡ f'
same_front b [] [] r r' p q e = refl
same_front b [] (y ∷ f') r r' p q e = absurd (p 0 (omega arith) (cc))
same_front b (x ∷ f) [] r r' p q e =
    let tail : r' ≡ f ++ b ∷ r = cc in
    absurd (not_lacked b f r (subst (λ t. Lacks t b) tail q))
same_front b (x ∷ f) (y ∷ f') r r' p q e =
    let head : x ≡ y = cc in
    let tail : f ++ b ∷ r ≡ f' ++ b ∷ r' = cc in
    let m = same_front b f f' r r' (λ k l. p (suc k) (omega arith)) q tail in
    cc

-- i is the first place of b in bytes
pub record FirstPlace (bytes : List ℕ) (b i : ℕ) : Type 0 where
  pub within : i < length bytes
  pub here : slice_index bytes i ≡ b
  pub before : (k : ℕ) → k < i → slice_index bytes k ≢ b

-- bytes split at the first place of b
pub split_at_place : (bytes : List ℕ) (b i : ℕ) → FirstPlace bytes b i → SplitsAt bytes b (take i bytes) (drop (i + 1) bytes)
split_at_place bytes b i p = record {
  whole = sym (take-append-drop i bytes) ∙ ap (λ t. take i bytes ++ t) (drop_more bytes i 0 p.within ∙ ap (λ x. x ∷ drop (i + 1) bytes) p.here);
  first = λ k l q. let m = length-take-le i bytes (omega (arith, p.within)) in p.before k (omega arith) (sym (get_or-take i bytes k 0 (omega arith)) ∙ q);
}

-- bytes lack b if each of their parts does
pub lacks_cons : (b x : ℕ) (xs : List ℕ) → (x ≡ b → ⊥) → Lacks xs b → Lacks (x ∷ xs) b
lacks_cons b x xs n p zero l q = n q
lacks_cons b x xs n p (suc k) l q = p k (omega arith) q

pub lacks_append : (b : ℕ) (xs ys : List ℕ) → Lacks xs b → Lacks ys b → Lacks (xs ++ ys) b
lacks_append b [] ys p q = q
lacks_append b (x ∷ xs) ys p q = lacks_cons b x (xs ++ ys) (p 0 (omega arith)) (lacks_append b xs ys (λ k l. p (suc k) (omega arith)) q)

-- a computed test that b stands nowhere in the bytes
abbrev pub lacking : ℕ → List ℕ → Bool
lacking b [] = true
lacking b (x ∷ xs) = not (eqb x b) && lacking b xs

pub lacks_by_test : (b : ℕ) (xs : List ℕ) → lacking b xs ≡ true → Lacks xs b
lacks_by_test b [] e k l q = omega arith
lacks_by_test b (x ∷ xs) e zero l q = both_ways (eqb x b) (not-true (eqb x b) (and_parts _ _ e).0) (eq-eqb x b q)
lacks_by_test b (x ∷ xs) e (suc k) l q = lacks_by_test b xs (and_parts _ _ e).1 k (omega arith) q

-- bytes in a range lack each byte outside it
pub lacks_outside : (low high b : ℕ) (bs : List ℕ) → All (IsInRange low high) bs → (IsInRange low high b → ⊥) → Lacks bs b
lacks_outside low high b bs w o k l q = o (subst (IsInRange low high) q (w k 0 l))
