-- The seven rules as tests that compute. Assumes nothing.
use Rattle.std.specs.Prelude.{ℕ, ◌+◌, Bool, ◌&&◌, ◌||◌, ◌==◌, nat_eq, nat_le, nat_lt}
use Rattle.std.specs.Bool.{beq}
use Rattle.graph.specs.Model.{Model}
use Rattle.graph.specs.Square.{flagged}
use Rattle.labels.specs.declared.rule.Rule.{Rule}
use Rattle.labels.specs.declared.rule.Rule.TheVariants.{Positions, Arcs, Sures, Fars, Levels, Components, SupportBits}
use Rattle.labels.specs.Labels.{Labels, Supports, position, sure, far}
use Rattle.labels.specs.Bounded.{some_below, all_below, ◌implies◌}

-- m is the base or the value of one below n that is among, and they are all up to m
unfoldable pub extreme : (ℕ → ℕ → Bool) → ℕ → (ℕ → Bool) → (ℕ → ℕ) → ℕ → ℕ → Bool
extreme upto n among value base m =
    upto base m && (all_below n (λ u. among u implies upto (value u) m) && (m == base || some_below n (λ u. among u && m == value u)))

-- m is the greatest of the base and of the values of those below n that are among
abbrev pub greatest : ℕ → (ℕ → Bool) → (ℕ → ℕ) → ℕ → ℕ → Bool
greatest = extreme nat_le

-- m is the least of the base and of the values of those below n that are among
abbrev pub least : ℕ → (ℕ → Bool) → (ℕ → ℕ) → ℕ → ℕ → Bool
least = extreme (λ a b. nat_le b a)

-- v has bit i of `mask` exactly when it is support i or one below n that is among has it
unfoldable pub bit_exact : ℕ → Supports → (ℕ → Bool) → (ℕ → ℕ) → ℕ → ℕ → Bool
bit_exact n supports among mask v i = beq (flagged (mask v) i) (supports i == v || some_below n (λ u. among u && flagged (mask u) i))

module _ (g : Model) (labels : Labels) (supports : Supports) (v : ℕ) where
  -- rule 1
  unfoldable pub placed : Bool
  placed =
      all_below 4 (λ r. nat_lt (position labels r v) g.order
      && all_below g.order (λ w. nat_eq (position labels r w) (position labels r v) implies nat_eq w v))

  -- rule 2
  unfoldable pub rises : Bool
  rises = all_below 4 (λ r. all_below g.order (λ w. g.arc v w implies nat_lt (position labels r v) (position labels r w)))

  -- rule 3 in a forward row
  unfoldable pub sure_forward : ℕ → Bool
  sure_forward r =
      nat_le (position labels r v) (sure labels r v) && (nat_lt (sure labels r v) g.order
      && all_below g.order (λ w. (nat_lt (position labels r v) (position labels r w) && nat_le (position labels r w) (sure labels r v))
      implies some_below g.order (λ u. g.arc u w && nat_le (position labels r v) (position labels r u))))

  -- rule 3 in a backward row
  unfoldable pub sure_backward : ℕ → Bool
  sure_backward r =
      nat_le (sure labels r v) (position labels r v)
      && all_below g.order (λ w. (nat_le (sure labels r v) (position labels r w) && nat_lt (position labels r w) (position labels r v))
      implies some_below g.order (λ u. g.arc w u && nat_le (position labels r u) (position labels r v)))

  -- rule 3
  unfoldable pub sure_allowed : Bool
  sure_allowed = (sure_forward 0 && sure_forward 1) && (sure_backward 2 && sure_backward 3)

  -- rule 4 in a forward row
  abbrev pub far_forward : ℕ → Bool
  far_forward r = greatest g.order (λ w. g.arc v w) (far labels r) (position labels r v) (far labels r v)

  -- rule 4 in a backward row
  abbrev pub far_backward : ℕ → Bool
  far_backward r = least g.order (λ u. g.arc u v) (far labels r) (position labels r v) (far labels r v)

  -- rule 4
  unfoldable pub far_extreme : Bool
  far_extreme = (far_forward 0 && far_forward 1) && (far_backward 2 && far_backward 3)

  -- rule 5
  unfoldable pub levelled : Bool
  levelled =
      greatest g.order (λ u. g.arc u v) (λ u. (labels u).up + 1) 0 (labels v).up
      && greatest g.order (λ w. g.arc v w) (λ w. (labels w).down + 1) 0 (labels v).down

  -- rule 6
  unfoldable pub joined : Bool
  joined = all_below g.order (λ w. g.arc v w implies nat_eq (labels w).component (labels v).component)

  -- rule 7
  unfoldable pub support_bits_exact : Bool
  support_bits_exact =
      all_below 16 (λ i. bit_exact g.order supports (λ u. g.arc u v) (λ u. (labels u).from) v i
      && bit_exact g.order supports (λ w. g.arc v w) (λ w. (labels w).to) v i)

-- the rule holds at the vertex
abbrev pub holds : Rule → Model → Labels → Supports → ℕ → Bool
holds Positions = placed
holds Arcs = rises
holds Sures = sure_allowed
holds Fars = far_extreme
holds Levels = levelled
holds Components = joined
holds SupportBits = support_bits_exact
