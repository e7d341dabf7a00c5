-- The numbers that pass a test, as a list, and the list of a vertex's successors. Assumes nothing.
use Rattle.std.proofs.Common.{◌≡◌, ℕ, zero, suc, ◌+◌, ◌-◌, ◌<◌, ◌≤◌, Bool, true, false, eqb, [], ◌∷◌, Some, None, sym, refl, ◌∙◌, ⊎_elim, arith}
use Rattle.std.proofs.lemmas.Bool.{cond_both, cases_eq, eq-eqb, or_left, or_right}
use Rattle.std.specs.List.{AllByRecursion}
use Rattle.graph.specs.Model.{Model, NextSuccessor}
use Rattle.search.specs.Under.{has}
use Rattle.search.specs.Successors.{passing, successors_from}

-- each entry passes
pub passing_pass : (p : ℕ → Bool) (k v : ℕ) → AllByRecursion (λ w. p w ≡ true) (passing p v k)
passing_pass p zero v = tt
passing_pass p (suc k) v =
    let r = passing_pass p k (suc v) in
    cond_both (p v) _ _ (AllByRecursion (λ w. p w ≡ true)) (λ e. (e, r)) (λ e. r)

-- each of the numbers that passes is an entry
pub passing_has : (p : ℕ → Bool) (k v w : ℕ) → v ≤ w → w < v + k → p w ≡ true → has w (passing p v k) ≡ true
passing_has p zero v w l b e = absurd (omega arith)
passing_has p (suc k) v w l b e =
    cond_both (p v) _ _ (λ xs. has w xs ≡ true)
    (λ i. ⊎_elim
    (λ (q : v ≡ w). or_left (eqb w v) _ (eq-eqb w v (sym q)))
    (λ (ne : v ≡ w → ⊥). or_right (eqb w v) _ (passing_has p k (suc v) w (omega arith) (omega arith) e))
    (cases_eq v w))
    (λ i. passing_has p k (suc v) w (grind arith) (omega arith) e)

passing_none : (p : ℕ → Bool) (k v : ℕ) → ((i : ℕ) → v ≤ i → p i ≡ false) → passing p v k ≡ []
passing_none p zero v h = refl
passing_none p (suc k) v h = grind (arith, h v (omega arith), passing_none p k (suc v) (λ i l. h i (omega arith)))

passing_next : (p : ℕ → Bool) (k v w : ℕ) → v ≤ w → w < v + k → p w ≡ true → ((i : ℕ) → v ≤ i → i < w → p i ≡ false) →
    passing p v k ≡ w ∷ passing p (suc w) (v + k - suc w)
passing_next p zero v w l m a h = absurd (omega arith)
passing_next p (suc k) v w l m a h =
    ⊎_elim
    (λ (e : v ≡ w). let n : k ≡ v + suc k - suc w = omega arith in grind arith)
    (λ (ne : v ≡ w → ⊥). grind (arith, h v (omega arith) (omega arith), passing_next p k (suc v) w (omega arith) (omega arith) a (λ i a b. h i (omega arith) b)))
    (cases_eq v w)

pub successors_end : (g : Model) (u v : ℕ) → NextSuccessor g u v None → successors_from g u v ≡ []
successors_end g u v h = passing_none (g.arc u) (g.order - v) v h

pub successors_next : (g : Model) (u v w : ℕ) → NextSuccessor g u v (Some w) → successors_from g u v ≡ w ∷ successors_from g u (w + 1)
successors_next g u v w h =
    passing_next (g.arc u) (g.order - v) v w h.0 (omega (arith, h.1)) h.2 h.3 ∙
    (let e : suc w ≡ w + 1 = omega arith in
    let n : v + (g.order - v) - suc w ≡ g.order - (w + 1) = omega arith in
    cc)
