-- The tests that compute agree with the rules. Assumes nothing.
use Rattle.std.proofs.Common.{◌≡◌, ℕ, zero, suc, ◌+◌, ◌<◌, ◌≤◌, Bool, true, false, ◌&&◌, ◌||◌, eqb, leb, ◌⊎◌, ◌↔◌, refl, arith}
use mathlib.Core.Bool.{beq, Bool-set}
use mathlib.Core.Logic.{∥∥₁_elim}
use Rattle.std.specs.Bool.{Decides}
use Rattle.std.proofs.lemmas.Bool.{false≢true, and_parts, and_from, leb-true, le-leb}
use Rattle.std.proofs.lemmas.Bool.Decides.{Decides-and, Decides-or, Decides-like, Decides-eqb, Decides-ltb}
use Rattle.graph.specs.Model.{Model, Proper}
use Rattle.graph.specs.Square.{flagged}
use Rattle.labels.specs.declared.rule.Rule.TheVariants.{Positions, Arcs, Sures, Fars, Levels, Components, SupportBits}
use Rattle.labels.specs.Labels.{Labels, Supports, Forward, Backward, position, sure, far}
use Rattle.labels.specs.Bounded.{some_below, all_below, ◌implies◌}
use Rattle.labels.specs.Rules.{Extreme, Greatest, Least, SureForward, SureBackward, BitExact, Predecessor, Successor, Placed, Rises, SureAllowed, FarExtreme, Levelled, Joined, SupportBitsExact}
use Rattle.labels.specs.Checks.{extreme, greatest, bit_exact, placed, rises, sure_forward, sure_backward, sure_allowed, far_forward, far_backward, far_extreme, levelled, joined, support_bits_exact}
use Rattle.labels.specs.Theorems.{RulesCompute}
use Rattle.labels.specs.BoundedLemmas.{itself, implies_tells, all_tells, some_tells}

beq_tells : {Q : Type 0} (a b : Bool) → Decides b Q → Decides (beq a b) ((a ≡ true) ↔ Q)
beq_tells true true d = (λ _. (λ _. d.0 refl, λ _. refl), λ _. refl)
beq_tells true false d = (λ t. absurd (false≢true t), λ h. d.1 (h.0 refl))
beq_tells false true d = (λ t. absurd (false≢true t), λ h. h.1 (d.0 refl))
beq_tells false false d = (λ _. (λ e. absurd (false≢true e), d.1), λ _. refl)

hidden : {P : Type 0} (b : Bool) → Decides b P → Decides b ∥ P ∥₁
hidden b d = (λ t. ∣ d.0 t ∣₁, λ h. ∥∥₁_elim h (Bool-set _ _) d.1)

le_tells : (a b : ℕ) → Decides (leb a b) (a ≤ b)
le_tells a b = (leb-true a b, le-leb a b)

-- of those below n that are among, where all that are among are below n
module _ (n : ℕ) (among : ℕ → Bool) (inside : (u : ℕ) → among u ≡ true → u < n) (p : ℕ → Bool) (P : ℕ → Type 0) (each : (u : ℕ) → Decides (p u) (P u)) where
  all_among : Decides (all_below n (λ u. among u implies p u)) ((u : ℕ) → among u ≡ true → P u)
  all_among =
      Decides-like _ (λ h u a. h u (inside u a) a) (λ h u _ a. h u a)
      (all_tells (λ u. among u implies p u) (λ u. among u ≡ true → P u) (λ u. implies_tells (among u) (p u) (itself (among u)) (each u)) n)

  some_among : Decides (some_below n (λ u. among u && p u)) ((u : ℕ) × (among u ≡ true) × P u)
  some_among =
      Decides-like _ (λ (u, _, (a, h)). (u, a, h)) (λ (u, a, h). (u, inside u a, (a, h)))
      (some_tells (λ u. among u && p u) (λ u. (among u ≡ true) × P u) (λ u. Decides-and (among u) (p u) (itself (among u)) (each u)) n)

-- an extreme, over any order that has a test
extreme_tells :
    (Upto : ℕ → ℕ → Type 0) (upto : ℕ → ℕ → Bool) → ((a b : ℕ) → Decides (upto a b) (Upto a b))
    → (n : ℕ) (among : ℕ → Bool) → ((u : ℕ) → among u ≡ true → u < n) → (value : ℕ → ℕ) (base m : ℕ)
    → Decides (extreme upto n among value base m) (Extreme Upto (λ u. among u ≡ true) value base m)
unfolding extreme
extreme_tells Upto upto tells n among inside value base m =
    Decides-like _ (λ (low, (all, some)). record { base_within = low; within = all; attained = some }) (λ h. (h.base_within, (h.within, h.attained)))
    (Decides-and _ _ (tells base m)
    (Decides-and _ _ (all_among n among inside (λ u. upto (value u) m) (λ u. Upto (value u) m) (λ u. tells (value u) m))
    (hidden _ (Decides-or _ _ (Decides-eqb m base) (some_among n among inside (λ u. eqb m (value u)) (λ u. m ≡ value u) (λ u. Decides-eqb m (value u)))))))

greatest_tells :
    (n : ℕ) (among : ℕ → Bool) → ((u : ℕ) → among u ≡ true → u < n) → (value : ℕ → ℕ) (base m : ℕ)
    → Decides (greatest n among value base m) (Greatest (λ u. among u ≡ true) value base m)
greatest_tells = extreme_tells (λ a b. a ≤ b) leb le_tells

-- the bits of one mask
module _ (n : ℕ) (supp : Supports) (among : ℕ → Bool) (inside : (u : ℕ) → among u ≡ true → u < n) (mask : ℕ → ℕ) (v i : ℕ) where
  -- v is support i, or one of those that are among has bit i
  bit_owed :
      Decides (eqb (supp i) v || some_below n (λ u. among u && flagged (mask u) i)) ∥ (supp i ≡ v) ⊎ ((u : ℕ) × (among u ≡ true) × (flagged (mask u) i ≡ true)) ∥₁
  bit_owed =
      hidden _ (Decides-or _ _ (Decides-eqb (supp i) v)
      (some_among n among inside (λ u. flagged (mask u) i) (λ u. flagged (mask u) i ≡ true) (λ u. itself (flagged (mask u) i))))

  -- what the test finds, and what makes it true
  pub bit_found : (eqb (supp i) v || some_below n (λ u. among u && flagged (mask u) i)) ≡ true → ∥ (supp i ≡ v) ⊎ ((u : ℕ) × (among u ≡ true) × (flagged (mask u) i ≡ true)) ∥₁
  bit_found t = bit_owed.0 t

  pub bit_made : ∥ (supp i ≡ v) ⊎ ((u : ℕ) × (among u ≡ true) × (flagged (mask u) i ≡ true)) ∥₁ → (eqb (supp i) v || some_below n (λ u. among u && flagged (mask u) i)) ≡ true
  bit_made t = bit_owed.1 t

  -- and v has the bit exactly then
  bit_tells : Decides (bit_exact n supp among mask v i) (BitExact supp (λ u. among u ≡ true) mask v i)
  unfolding bit_exact
  bit_tells = beq_tells (flagged (mask v) i) _ bit_owed

-- what holds in both forward rows, and in both backward rows
both_forward : (P : ℕ → Type 0) → P 0 → P 1 → (r : ℕ) → Forward r → P r
both_forward P a b zero h = a
both_forward P a b (suc zero) h = b
both_forward P a b (suc (suc r)) h = absurd (let z : ⊥ = omega arith in z)

both_backward : (P : ℕ → Type 0) → P 2 → P 3 → (r : ℕ) → Backward r → P r
both_backward P a b zero h = let l = h.low in absurd (let z : ⊥ = omega arith in z)
both_backward P a b (suc zero) h = let l = h.low in absurd (let z : ⊥ = omega arith in z)
both_backward P a b (suc (suc zero)) h = a
both_backward P a b (suc (suc (suc zero))) h = b
both_backward P a b (suc (suc (suc (suc r)))) h = let l = h.high in absurd (let z : ⊥ = omega arith in z)

row_two : Backward 2
row_two = record { low = omega arith; high = omega arith }

row_three : Backward 3
row_three = record { low = omega arith; high = omega arith }

-- a rule that is one test for forward rows and another for backward rows, each half by itself and both at once
module _ (fore back : ℕ → Bool) (Fore Back : ℕ → Type 0) where
  rows_sound :
      ((r : ℕ) → fore r ≡ true → Fore r) → ((r : ℕ) → back r ≡ true → Back r) → ((fore 0 && fore 1) && (back 2 && back 3)) ≡ true
      → ((r : ℕ) → Forward r → Fore r) × ((r : ℕ) → Backward r → Back r)
  rows_sound f h t =
      let a = and_parts (fore 0 && fore 1) (back 2 && back 3) t in
      let b = and_parts (fore 0) (fore 1) a.0 in
      let c = and_parts (back 2) (back 3) a.1 in
      (both_forward Fore (f 0 b.0) (f 1 b.1), both_backward Back (h 2 c.0) (h 3 c.1))

  rows_full :
      ((r : ℕ) → Fore r → fore r ≡ true) → ((r : ℕ) → Back r → back r ≡ true) → ((r : ℕ) → Forward r → Fore r) → ((r : ℕ) → Backward r → Back r)
      → ((fore 0 && fore 1) && (back 2 && back 3)) ≡ true
  rows_full f h p q =
      and_from (fore 0 && fore 1) (back 2 && back 3) (and_from (fore 0) (fore 1) (f 0 (p 0 (omega arith))) (f 1 (p 1 (omega arith))))
      (and_from (back 2) (back 3) (h 2 (q 2 row_two)) (h 3 (q 3 row_three)))

rows_tell :
    (fore back : ℕ → Bool) (Fore Back : ℕ → Type 0) → ((r : ℕ) → Decides (fore r) (Fore r)) → ((r : ℕ) → Decides (back r) (Back r))
    → Decides ((fore 0 && fore 1) && (back 2 && back 3)) (((r : ℕ) → Forward r → Fore r) × ((r : ℕ) → Backward r → Back r))
rows_tell fore back Fore Back f b =
    (rows_sound fore back Fore Back (λ r. (f r).0) (λ r. (b r).0), λ (h, k). rows_full fore back Fore Back (λ r. (f r).1) (λ r. (b r).1) h k)

module _ (g : Model) (proper : Proper g) (labels : Labels) (supp : Supports) (v : ℕ) where
  out : (w : ℕ) → g.arc v w ≡ true → w < g.order
  out w a = (proper.within v w a).1

  into : (u : ℕ) → g.arc u v ≡ true → u < g.order
  into u a = (proper.within u v a).0

  placed_tells : Decides (placed g labels supp v) (Placed g labels supp v)
  unfolding placed
  placed_tells =
      Decides-like _ (λ h. record { below = λ r hr. (h r hr).0; alone = λ r hr. (h r hr).1 }) (λ h r hr. (h.below r hr, h.alone r hr))
      (all_tells _ (λ r. (position labels r v < g.order) × ((w : ℕ) → w < g.order → position labels r w ≡ position labels r v → w ≡ v))
      (λ r. Decides-and _ _ (Decides-ltb (position labels r v) g.order)
      (all_tells _ (λ w. position labels r w ≡ position labels r v → w ≡ v)
      (λ w. implies_tells _ _ (Decides-eqb (position labels r w) (position labels r v)) (Decides-eqb w v)) g.order)) 4)

  rises_tells : Decides (rises g labels supp v) (Rises g labels supp v)
  unfolding rises
  rises_tells =
      all_tells _ (λ r. (w : ℕ) → g.arc v w ≡ true → position labels r v < position labels r w)
      (λ r. all_among g.order (g.arc v) out _ (λ w. position labels r v < position labels r w) (λ w. Decides-ltb (position labels r v) (position labels r w))) 4

  sure_forward_tells : (r : ℕ) → Decides (sure_forward g labels supp v r) (SureForward g (position labels r) v (sure labels r v))
  unfolding sure_forward
  sure_forward_tells r =
      let place : ℕ → ℕ = position labels r in
      let m = sure labels r v in
      Decides-like _ (λ (low, (high, fed)). record { low = low; high = high; fed = λ w hw up le. fed w hw (up, le) })
      (λ h. (h.low, (h.high, λ w hw (up, le). h.fed w hw up le)))
      (Decides-and _ _ (le_tells (place v) m)
      (Decides-and _ _ (Decides-ltb m g.order)
      (all_tells _ (λ w. (place v < place w) × (place w ≤ m) → ∥ ((u : ℕ) × (g.arc u w ≡ true) × (place v ≤ place u)) ∥₁)
      (λ w. implies_tells _ _ (Decides-and _ _ (Decides-ltb (place v) (place w)) (le_tells (place w) m))
      (hidden _ (some_among g.order (λ u. g.arc u w) (λ u a. (proper.within u w a).0) _ (λ u. place v ≤ place u) (λ u. le_tells (place v) (place u))))) g.order)))

  sure_backward_tells : (r : ℕ) → Decides (sure_backward g labels supp v r) (SureBackward g (position labels r) v (sure labels r v))
  unfolding sure_backward
  sure_backward_tells r =
      let place : ℕ → ℕ = position labels r in
      let m = sure labels r v in
      Decides-like _ (λ (high, fed). record { high = high; fed = λ w hw low lt. fed w hw (low, lt) })
      (λ h. (h.high, λ w hw (low, lt). h.fed w hw low lt))
      (Decides-and _ _ (le_tells m (place v))
      (all_tells _ (λ w. (m ≤ place w) × (place w < place v) → ∥ ((u : ℕ) × (g.arc w u ≡ true) × (place u ≤ place v)) ∥₁)
      (λ w. implies_tells _ _ (Decides-and _ _ (le_tells m (place w)) (Decides-ltb (place w) (place v)))
      (hidden _ (some_among g.order (g.arc w) (λ u a. (proper.within w u a).1) _ (λ u. place u ≤ place v) (λ u. le_tells (place u) (place v))))) g.order))

  sure_tells : Decides (sure_allowed g labels supp v) (SureAllowed g labels supp v)
  unfolding sure_allowed
  sure_tells =
      Decides-like _ (λ (f, b). record { forward = f; backward = b }) (λ h. (h.forward, h.backward))
      (rows_tell (sure_forward g labels supp v) (sure_backward g labels supp v)
      (λ r. SureForward g (position labels r) v (sure labels r v)) (λ r. SureBackward g (position labels r) v (sure labels r v)) sure_forward_tells sure_backward_tells)

  far_tells : Decides (far_extreme g labels supp v) (FarExtreme g labels supp v)
  unfolding far_extreme
  far_tells =
      Decides-like _ (λ (f, b). record { forward = f; backward = b }) (λ h. (h.forward, h.backward))
      (rows_tell (far_forward g labels supp v) (far_backward g labels supp v)
      (λ r. Greatest (Successor g v) (far labels r) (position labels r v) (far labels r v)) (λ r. Least (Predecessor g v) (far labels r) (position labels r v) (far labels r v))
      (λ r. greatest_tells g.order (g.arc v) out (far labels r) (position labels r v) (far labels r v))
      (λ r. extreme_tells (λ a b. b ≤ a) (λ a b. leb b a) (λ a b. le_tells b a) g.order (λ u. g.arc u v) into (far labels r) (position labels r v) (far labels r v)))

  levelled_tells : Decides (levelled g labels supp v) (Levelled g labels supp v)
  unfolding levelled
  levelled_tells =
      Decides-like _ (λ (up, down). record { up = up; down = down }) (λ h. (h.up, h.down))
      (Decides-and _ _ (greatest_tells g.order (λ u. g.arc u v) into (λ u. (labels u).up + 1) 0 (labels v).up)
      (greatest_tells g.order (g.arc v) out (λ w. (labels w).down + 1) 0 (labels v).down))

  joined_tells : Decides (joined g labels supp v) (Joined g labels supp v)
  unfolding joined
  joined_tells =
      all_among g.order (g.arc v) out _ (λ w. (labels w).component ≡ (labels v).component) (λ w. Decides-eqb (labels w).component (labels v).component)

  bits_tell : Decides (support_bits_exact g labels supp v) (SupportBitsExact g labels supp v)
  unfolding support_bits_exact
  bits_tell =
      Decides-like _ (λ h. record { from = λ i hi. (h i hi).0; to = λ i hi. (h i hi).1 }) (λ h i hi. (h.from i hi, h.to i hi))
      (all_tells _ (λ i. BitExact supp (Predecessor g v) (λ u. (labels u).from) v i × BitExact supp (Successor g v) (λ w. (labels w).to) v i)
      (λ i. Decides-and _ _ (bit_tells g.order supp (λ u. g.arc u v) into (λ u. (labels u).from) v i)
      (bit_tells g.order supp (g.arc v) out (λ w. (labels w).to) v i)) 16)

pub rules_compute_lem : RulesCompute
rules_compute_lem g proper labels supp Positions v = placed_tells g proper labels supp v
rules_compute_lem g proper labels supp Arcs v = rises_tells g proper labels supp v
rules_compute_lem g proper labels supp Sures v = sure_tells g proper labels supp v
rules_compute_lem g proper labels supp Fars v = far_tells g proper labels supp v
rules_compute_lem g proper labels supp Levels v = levelled_tells g proper labels supp v
rules_compute_lem g proper labels supp Components v = joined_tells g proper labels supp v
rules_compute_lem g proper labels supp SupportBits v = bits_tell g proper labels supp v
