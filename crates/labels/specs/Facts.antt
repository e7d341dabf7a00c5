-- What the rules say of reaching. Assumes nothing.
use Rattle.std.specs.Prelude.{◌≡◌, ℕ, suc, ◌+◌, ◌-◌, ◌<◌, ◌≤◌, true, refl}
use Rattle.std.proofs.Common.{sym, ◌∙◌, ⊎_elim}
use Rattle.std.proofs.Math.Path.{ap}
use Rattle.std.proofs.Math.Logic.{inl, inr, ∥∥₁_map}
use native.Mathlib.Omega.{arith}
use Rattle.graph.specs.Model.{Model, Proper, reversed}
use Rattle.graph.specs.Paths.{Path, Reaches, Cycle}
use Rattle.graph.specs.Square.{flagged}
use Rattle.graph.specs.Facts.{reversed_proper}
use Rattle.graph.proofs.Paths.{along_path, reverse_path}
use Rattle.labels.specs.declared.rule.Rule.TheVariants.{Positions, Arcs, Fars, Levels, Components, SupportBits}
use Rattle.labels.specs.Labels.{Labels, Supports, Forward, Backward, position, far}
use Rattle.labels.specs.Rules.{Rules, SureForward, SureBackward}
use Rattle.labels.specs.Rising.{Rising, rising, rising_le, no_cycle}
use Rattle.labels.specs.Places.{Alone, Fed, Handed, fed_reached, handed_reached, sourced_reached}

pub forward_row : (r : ℕ) → Forward r → r < 4
forward_row r h = omega arith

module _ (g : Model) (proper : Proper g) (labels : Labels) (supports : Supports) (rules : Rules g labels supports) where
  pub below : (r : ℕ) → r < 4 → (v : ℕ) → v < g.order → position labels r v < g.order
  below r hr v hv = (rules Positions v hv).below r hr

  pub alone : (r : ℕ) → r < 4 → Alone g (position labels r)
  alone r hr v w hv hw e = (rules Positions v hv).alone r hr w hw e

  pub rises : (r : ℕ) → r < 4 → Rising g (position labels r)
  rises r hr v w a = rules Arcs v (proper.within v w a).0 r hr w a

  pub acyclic : Cycle g → ⊥
  acyclic = no_cycle g (position labels 0) (rises 0 (omega arith))

  -- reaching another vertex raises the position
  pub position_le : (r : ℕ) → r < 4 → {s t : ℕ} → Path g s t → position labels r s ≤ position labels r t
  position_le r hr p = rising_le g (position labels r) (rises r hr) p

  pub up_rises : Rising g (λ v. (labels v).up)
  up_rises v w a = let h : (labels v).up + 1 ≤ (labels w).up = (rules Levels w (proper.within v w a).1).up.within v a in omega arith

  pub down_falls : Rising (reversed g) (λ v. (labels v).down)
  down_falls v w a = let h : (labels v).down + 1 ≤ (labels w).down = (rules Levels w (proper.within w v a).0).down.within v a in omega arith

  pub up_lt : {s t : ℕ} → ¬ (s ≡ t) → Path g s t → (labels s).up < (labels t).up
  up_lt ne p = ⊎_elim (λ e. absurd (ne e)) (λ h. h) (rising g (λ v. (labels v).up) up_rises p)

  pub down_lt : {s t : ℕ} → ¬ (s ≡ t) → Path g s t → (labels t).down < (labels s).down
  down_lt ne p = ⊎_elim (λ e. absurd (ne (sym e))) (λ h. h) (rising (reversed g) (λ v. (labels v).down) down_falls (reverse_path p))

  pub component_same : {s t : ℕ} → Path g s t → (labels t).component ≡ (labels s).component
  component_same p =
      along_path g (λ v w. (labels w).component ≡ (labels v).component) (λ v. refl) (λ u v w e f. f ∙ e) (λ v w a. rules Components v (proper.within v w a).0 w a) p

  -- forward rows
  pub far_high : (r : ℕ) → Forward r → {s t : ℕ} → t < g.order → Path g s t → position labels r t ≤ far labels r s
  far_high r hr {s} {t} ht p =
      let falls : far labels r t ≤ far labels r s =
      along_path g (λ v w. far labels r w ≤ far labels r v) (λ v. omega arith) (λ u v w h k. omega arith) (λ v w a. ((rules Fars v (proper.within v w a).0).forward r hr).within w a) p in
      let here : position labels r t ≤ far labels r t = ((rules Fars t ht).forward r hr).base_within in
      omega arith

  pub far_reached : (r : ℕ) → Forward r → (s t : ℕ) → s < g.order → t < g.order → position labels r t ≡ far labels r s → Reaches g s t
  far_reached r hr s t hs ht e =
      let four = forward_row r hr in
      handed_reached g proper (position labels r) (rises r four) (alone r four) (far labels r) (λ v hv. ((rules Fars v hv).forward r hr).attained)
      g.order (below r four) s t hs ht e

  pub sure_reached :
      (r : ℕ) → Forward r → (s t m : ℕ) → s < g.order → t < g.order → SureForward g (position labels r) s m
      → position labels r s ≤ position labels r t → position labels r t ≤ m → Reaches g s t
  sure_reached r hr s t m hs ht h low high =
      let four = forward_row r hr in
      fed_reached g proper (position labels r) (rises r four) (alone r four) s m hs h.fed t ht low high

  -- backward rows: the same on the reversed graph, with the places counted from the other end
  module _ (r : ℕ) (hr : Backward r) where
    place : ℕ → ℕ
    place v = g.order - position labels r v

    place_rises : Rising (reversed g) place
    unfolding place
    place_rises v w a = let h = rises r hr.high w v a in let b = below r hr.high v (proper.within w v a).1 in omega arith

    place_alone : Alone (reversed g) place
    unfolding place
    place_alone v w hv hw e =
        let b = below r hr.high v hv in
        let c = below r hr.high w hw in
        alone r hr.high v w hv hw (omega arith)

    place_below : (v : ℕ) → v < g.order → place v < suc g.order
    unfolding place
    place_below v hv = omega arith

    place_fed : (s m : ℕ) → s < g.order → SureBackward g (position labels r) s m → Fed (reversed g) place s (g.order - m)
    unfolding place
    place_fed s m hs h w hw low high =
        let b = below r hr.high s hs in
        let c = below r hr.high w hw in
        let d = h.high in
        ∥∥₁_map (h.fed w hw (omega arith) (omega arith)) (λ (u, a, le). (u, a, omega arith))

    place_handed : Handed (reversed g) place (λ v. g.order - far labels r v)
    unfolding place
    place_handed v hv =
        ∥∥₁_map ((rules Fars v hv).backward r hr).attained (elim [ inl e ↦ inl (ap (λ x. g.order - x) e) | inr x ↦ inr (x.0, x.1, ap (λ y. g.order - y) x.2) ])

    pub far_low : {s t : ℕ} → s < g.order → Path g s t → far labels r t ≤ position labels r s
    far_low {s} {t} hs p =
        let falls : far labels r t ≤ far labels r s =
        along_path g (λ v w. far labels r w ≤ far labels r v) (λ v. omega arith) (λ u v w h k. omega arith) (λ v w a. ((rules Fars w (proper.within v w a).1).backward r hr).within v a) p in
        let here : far labels r s ≤ position labels r s = ((rules Fars s hs).backward r hr).base_within in
        omega arith

    pub far_reached_back : (s t : ℕ) → s < g.order → t < g.order → position labels r s ≡ far labels r t → Reaches g s t
    unfolding place
    far_reached_back s t hs ht e =
        ∥∥₁_map
        (handed_reached (reversed g) (reversed_proper g proper) place place_rises place_alone (λ v. g.order - far labels r v) place_handed
        (suc g.order) place_below t s ht hs (ap (λ x. g.order - x) e))
        reverse_path

    pub sure_reached_back :
        (s t m : ℕ) → s < g.order → t < g.order → SureBackward g (position labels r) t m
        → position labels r s ≤ position labels r t → m ≤ position labels r s → Reaches g s t
    unfolding place
    sure_reached_back s t m hs ht h low high =
        ∥∥₁_map
        (fed_reached (reversed g) (reversed_proper g proper) place place_rises place_alone t (g.order - m) ht (place_fed t m ht h) s hs (omega arith) (omega arith))
        reverse_path

  -- bits
  pub from_reached : (i v : ℕ) → i < 16 → v < g.order → (flagged (labels v).from i ≡ true) → Reaches g (supports i) v
  from_reached i v hi hv b =
      sourced_reached g proper (position labels 0) (rises 0 (omega arith)) (λ x. flagged (labels x).from i ≡ true) (supports i) (λ x hx. ((rules SupportBits x hx).from i hi).0) v hv b

  pub to_reaches : (i v : ℕ) → i < 16 → v < g.order → (flagged (labels v).to i ≡ true) → Reaches g v (supports i)
  to_reaches i v hi hv b =
      ∥∥₁_map
      (sourced_reached (reversed g) (reversed_proper g proper) (λ x. (labels x).down) down_falls (λ x. flagged (labels x).to i ≡ true) (supports i) (λ x hx. ((rules SupportBits x hx).to i hi).0) v hv b)
      reverse_path

  pub from_kept : (i : ℕ) → i < 16 → {s t : ℕ} → Path g s t → (flagged (labels s).from i ≡ true) → flagged (labels t).from i ≡ true
  from_kept i hi p =
      along_path g (λ v w. (flagged (labels v).from i ≡ true) → flagged (labels w).from i ≡ true) (λ v b. b) (λ u v w f h b. h (f b))
      (λ v w a b. ((rules SupportBits w (proper.within v w a).1).from i hi).1 ∣ inr (v, a, b) ∣₁) p

  pub to_kept : (i : ℕ) → i < 16 → {s t : ℕ} → Path g s t → (flagged (labels t).to i ≡ true) → flagged (labels s).to i ≡ true
  to_kept i hi p =
      along_path g (λ v w. (flagged (labels w).to i ≡ true) → flagged (labels v).to i ≡ true) (λ v b. b) (λ u v w f h b. f (h b))
      (λ v w a b. ((rules SupportBits v (proper.within v w a).0).to i hi).1 ∣ inr (w, a, b) ∣₁) p
