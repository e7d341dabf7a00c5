-- Two functions that meet the same extreme rule along the arcs are one. Assumes nothing.
use Rattle.std.proofs.Common.{◌≡◌, ℕ, ◌<◌, ◌⊎◌, sym, ap, ◌∙◌, subst, inl, inr}
use mathlib.Core.Logic.{∥∥₁_elim}
use native.Mathlib.Nat.{ℕ_set}
use Rattle.graph.specs.Model.{Model, Proper}
use Rattle.labels.specs.Rules.{Extreme, Predecessor}
use Rattle.labels.specs.Rising.{Rising, by_place}

module _ (Upto : ℕ → ℕ → Type 0) (antisymmetric : (a b : ℕ) → Upto a b → Upto b a → a ≡ b) where
  -- what is attained is up to what is extreme over the same values
  attained_upto :
      (Among : ℕ → Type 0) (value value' : ℕ → ℕ) (base base' m m' : ℕ) → base ≡ base' → ((u : ℕ) → Among u → value u ≡ value' u)
      → (m ≡ base) ⊎ ((u : ℕ) × Among u × (m ≡ value u)) → Extreme Upto Among value' base' m' → Upto m m'
  attained_upto Among value value' base base' m m' b same x e =
      elim x [
        | inl f ↦ subst (λ k. Upto k m') (sym (f ∙ b)) e.base_within
        | inr z ↦ subst (λ k. Upto k m') (sym (z.2 ∙ same z.0 z.1)) (e.within z.0 z.1)
      ]

  extreme_one :
      (Among : ℕ → Type 0) (value value' : ℕ → ℕ) (base base' m m' : ℕ) → base ≡ base' → ((u : ℕ) → Among u → value u ≡ value' u)
      → Extreme Upto Among value base m → Extreme Upto Among value' base' m' → m ≡ m'
  extreme_one Among value value' base base' m m' b same e e' =
      ∥∥₁_elim e.attained (ℕ_set _ _) (λ x. ∥∥₁_elim e'.attained (ℕ_set _ _) (λ y.
      antisymmetric m m' (attained_upto Among value value' base base' m m' b same x e')
      (attained_upto Among value' value base' base m' m (sym b) (λ u a. sym (same u a)) y e)))

  module _ (g : Model) (proper : Proper g) (place : ℕ → ℕ) (rises : Rising g place) (h base base' f f' : ℕ → ℕ) (bases : (v : ℕ) → v < g.order → base v ≡ base' v) where
    pub extreme_unique :
        ((v : ℕ) → v < g.order → Extreme Upto (Predecessor g v) (λ u. h (f u)) (base v) (f v))
        → ((v : ℕ) → v < g.order → Extreme Upto (Predecessor g v) (λ u. h (f' u)) (base' v) (f' v))
        → (v : ℕ) → v < g.order → f v ≡ f' v
    extreme_unique m m' =
        by_place g place (λ v. f v ≡ f' v) (λ v hv lower.
        extreme_one (Predecessor g v) (λ u. h (f u)) (λ u. h (f' u)) (base v) (base' v) (f v) (f' v) (bases v hv)
        (λ u a. ap h (lower u (proper.within u v a).0 (rises u v a))) (m v hv) (m' v hv))
