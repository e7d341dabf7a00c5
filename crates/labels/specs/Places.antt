-- A place for each vertex, higher along each arc: what is fed up to a place is reached, and the farthest place is reached. Assumes nothing.
use Rattle.std.specs.Prelude.{◌≡◌, ℕ, zero, suc, ◌+◌, ◌<◌, ◌≤◌, true, ◌⊎◌}
use Rattle.std.proofs.Common.{sym, subst, ◌∙◌, inl, inr, arith}
use Rattle.std.proofs.Math.Logic.{∥∥₁_elim, ∥∥₁_map, ∥∥₁_prop}
use Rattle.std.proofs.Math.Decide.{dec_lt}
use Rattle.graph.specs.Model.{Model, Proper}
use Rattle.graph.specs.Paths.{Path, stay, walk, Reaches}
use Rattle.graph.proofs.Paths.{join_paths}
use Rattle.labels.specs.Rising.{Rising, by_place}

abbrev pub Alone : Model → (ℕ → ℕ) → Type 0
Alone g place = (v w : ℕ) → v < g.order → w < g.order → place w ≡ place v → w ≡ v

-- each vertex placed above v and up to m has an arc from one placed at v or higher
abbrev pub Fed : Model → (ℕ → ℕ) → ℕ → ℕ → Type 0
Fed g place v m = (w : ℕ) → w < g.order → place v < place w → place w ≤ m → ∥ ((u : ℕ) × (g.arc u w ≡ true) × (place v ≤ place u)) ∥₁

-- far is the place, or is handed on along an arc
abbrev pub Handed : Model → (ℕ → ℕ) → (ℕ → ℕ) → Type 0
Handed g place far = (v : ℕ) → v < g.order → ∥ (far v ≡ place v) ⊎ ((w : ℕ) × (g.arc v w ≡ true) × (far v ≡ far w)) ∥₁

-- a mark comes from the source or along an arc
abbrev pub Sourced : Model → (ℕ → Type 0) → ℕ → Type 0
Sourced g mark source = (v : ℕ) → v < g.order → mark v → ∥ (source ≡ v) ⊎ ((u : ℕ) × (g.arc u v ≡ true) × mark u) ∥₁

module _ (g : Model) (proper : Proper g) (place : ℕ → ℕ) (rises : Rising g place) where
  pub fed_reached : Alone g place → (v m : ℕ) → v < g.order → Fed g place v m → (w : ℕ) → w < g.order → place v ≤ place w → place w ≤ m → Reaches g v w
  fed_reached alone v m hv fed =
      by_place g place (λ w. place v ≤ place w → place w ≤ m → Reaches g v w) (λ w hw lower low high.
      elim (dec_lt (place v) (place w)) [
        | yes h ↦ ∥∥₁_elim (fed w hw h high) ∥∥₁_prop (λ (u, a, below).
            let up : place u < place w = rises u w a in
            ∥∥₁_map (lower u (proper.within u w a).0 up below (omega arith)) (λ p. join_paths p (walk a stay)))
        | no h ↦ let e : w ≡ v = alone v w hv hw (omega arith) in ∣ subst (λ x. Path g v x) (sym e) stay ∣₁
      ])

  -- far v is the place of a vertex that v reaches
  handed_go :
      (far : ℕ → ℕ) → Handed g place far → (bound : ℕ) → ((v : ℕ) → v < g.order → place v < bound)
      → (k v : ℕ) → v < g.order → bound ≤ place v + k → ∥ ((w : ℕ) × (w < g.order) × Path g v w × (place w ≡ far v)) ∥₁
  handed_go far handed bound below zero v hv h = let b = below v hv in absurd (omega arith)
  handed_go far handed bound below (suc k) v hv h =
      let rec : (u : ℕ) → u < g.order → bound ≤ place u + k → ∥ ((w : ℕ) × (w < g.order) × Path g u w × (place w ≡ far u)) ∥₁ = handed_go far handed bound below k in
      ∥∥₁_elim (handed v hv) ∥∥₁_prop (elim [
        | inl e ↦ ∣ (v, hv, stay, sym e) ∣₁
        | inr x ↦ let up : place v < place x.0 = rises v x.0 x.1 in
            ∥∥₁_map (rec x.0 (proper.within v x.0 x.1).1 (omega arith)) (λ (w, hw, p, e). (w, hw, walk x.1 p, e ∙ sym x.2))
      ])

  -- the vertex placed at far v is reached from v
  pub handed_reached :
      Alone g place → (far : ℕ → ℕ) → Handed g place far → (bound : ℕ) → ((v : ℕ) → v < g.order → place v < bound)
      → (v w : ℕ) → v < g.order → w < g.order → place w ≡ far v → Reaches g v w
  handed_reached alone far handed bound below v w hv hw e =
      ∥∥₁_map (handed_go far handed bound below bound v hv (omega arith)) (λ (x, hx, p, f). subst (λ y. Path g v y) (alone w x hw hx (f ∙ sym e)) p)

  -- a marked vertex is reached from the source
  pub sourced_reached : (mark : ℕ → Type 0) (source : ℕ) → Sourced g mark source → (v : ℕ) → v < g.order → mark v → Reaches g source v
  sourced_reached mark source sourced =
      by_place g place (λ v. mark v → Reaches g source v) (λ v hv lower m.
      ∥∥₁_elim (sourced v hv m) ∥∥₁_prop (elim [
        | inl e ↦ ∣ subst (λ x. Path g source x) e stay ∣₁
        | inr x ↦ ∥∥₁_map (lower x.0 (proper.within x.0 v x.1).0 (rises x.0 v x.1) x.2) (λ p. join_paths p (walk x.1 stay))
      ]))
