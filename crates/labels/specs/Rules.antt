-- The seven rules for labels. Each holds or fails at a vertex, whatever the graph, the labels and the supports are. Assumes nothing.
use Rattle.std.specs.Prelude.{◌≡◌, ℕ, ◌+◌, ◌<◌, ◌≤◌, true, ◌⊎◌, ◌↔◌}
use Rattle.graph.specs.Model.{Model}
use Rattle.graph.specs.Square.{flagged}
use Rattle.labels.specs.declared.rule.Rule.{Rule}
use Rattle.labels.specs.declared.rule.Rule.TheVariants.{Positions, Arcs, Sures, Fars, Levels, Components, SupportBits}
use Rattle.labels.specs.Labels.{Labels, Supports, Forward, Backward, position, sure, far}

-- u is a predecessor of v
abbrev pub Predecessor : Model → ℕ → ℕ → Type 0
Predecessor g v u = g.arc u v ≡ true

-- w is a successor of v
abbrev pub Successor : Model → ℕ → ℕ → Type 0
Successor g v w = g.arc v w ≡ true

-- m is the base or the value at one of those u that are among, and they are all up to m
pub record Extreme (Upto : ℕ → ℕ → Type 0) (Among : ℕ → Type 0) (value : ℕ → ℕ) (base m : ℕ) : Type 0 where
  pub base_within : Upto base m
  pub within : (u : ℕ) → Among u → Upto (value u) m
  pub attained : ∥ (m ≡ base) ⊎ ((u : ℕ) × Among u × (m ≡ value u)) ∥₁

-- m is the greatest of the base and of the values at those u that are among
abbrev pub Greatest : (ℕ → Type 0) → (ℕ → ℕ) → ℕ → ℕ → Type 0
Greatest = Extreme (λ a b. a ≤ b)

-- m is the least of the base and of the values at those u that are among
abbrev pub Least : (ℕ → Type 0) → (ℕ → ℕ) → ℕ → ℕ → Type 0
Least = Extreme (λ a b. b ≤ a)

-- m is allowed as sure of v in a forward row: each vertex placed above v and up to m has an arc from one placed at v or higher
pub record SureForward (g : Model) (place : ℕ → ℕ) (v m : ℕ) : Type 0 where
  pub low : place v ≤ m
  pub high : m < g.order
  pub fed : (w : ℕ) → w < g.order → place v < place w → place w ≤ m → ∥ ((u : ℕ) × (g.arc u w ≡ true) × (place v ≤ place u)) ∥₁

-- m is allowed as sure of v in a backward row: each vertex placed from m up to just below v has an arc to one placed at v or lower
pub record SureBackward (g : Model) (place : ℕ → ℕ) (v m : ℕ) : Type 0 where
  pub high : m ≤ place v
  pub fed : (w : ℕ) → w < g.order → m ≤ place w → place w < place v → ∥ ((u : ℕ) × (g.arc w u ≡ true) × (place u ≤ place v)) ∥₁

-- v has bit i of `mask` exactly when it is support i or one of those u that are among has it
abbrev pub BitExact : Supports → (ℕ → Type 0) → (ℕ → ℕ) → ℕ → ℕ → Type 0
BitExact supports Among mask v i = (flagged (mask v) i ≡ true) ↔ ∥ (supports i ≡ v) ⊎ ((u : ℕ) × Among u × (flagged (mask u) i ≡ true)) ∥₁

module _ (g : Model) (labels : Labels) (supports : Supports) (v : ℕ) where
  -- rule 1: in each row the position is below the number of vertices, and no other vertex has it
  pub record Placed : Type 0 where
    pub below : (r : ℕ) → r < 4 → position labels r v < g.order
    pub alone : (r : ℕ) → r < 4 → (w : ℕ) → w < g.order → position labels r w ≡ position labels r v → w ≡ v

  -- rule 2: in each row each arc from v goes to a higher position
  abbrev pub Rises : Type 0
  Rises = (r : ℕ) → r < 4 → (w : ℕ) → Successor g v w → position labels r v < position labels r w

  -- rule 3: sure is allowed, in each row
  pub record SureAllowed : Type 0 where
    pub forward : (r : ℕ) → Forward r → SureForward g (position labels r) v (sure labels r v)
    pub backward : (r : ℕ) → Backward r → SureBackward g (position labels r) v (sure labels r v)

  -- rule 4: in a forward row far is the greatest of the position and of far of the successors; in a backward row the least, over the predecessors
  pub record FarExtreme : Type 0 where
    pub forward : (r : ℕ) → Forward r → Greatest (Successor g v) (far labels r) (position labels r v) (far labels r v)
    pub backward : (r : ℕ) → Backward r → Least (Predecessor g v) (far labels r) (position labels r v) (far labels r v)

  -- rule 5: the up level is 0 without a predecessor, otherwise one more than the greatest up level of one; down is the same over the successors
  pub record Levelled : Type 0 where
    pub up : Greatest (Predecessor g v) (λ u. (labels u).up + 1) 0 (labels v).up
    pub down : Greatest (Successor g v) (λ w. (labels w).down + 1) 0 (labels v).down

  -- rule 6: v has the same component as each of its successors
  abbrev pub Joined : Type 0
  Joined = (w : ℕ) → Successor g v w → (labels w).component ≡ (labels v).component

  -- rule 7: bit i of `from` is set exactly when v is support i or a predecessor has the bit; `to` is the same over the successors
  pub record SupportBitsExact : Type 0 where
    pub from : (i : ℕ) → i < 16 → BitExact supports (Predecessor g v) (λ u. (labels u).from) v i
    pub to : (i : ℕ) → i < 16 → BitExact supports (Successor g v) (λ w. (labels w).to) v i

-- the rule holds at the vertex
abbrev pub Holds : Rule → Model → Labels → Supports → ℕ → Type 0
Holds Positions = Placed
Holds Arcs = Rises
Holds Sures = SureAllowed
Holds Fars = FarExtreme
Holds Levels = Levelled
Holds Components = Joined
Holds SupportBits = SupportBitsExact

-- the labels meet the rules: each holds at each vertex
abbrev pub Rules : Model → Labels → Supports → Type 0
Rules g labels supports = (k : Rule) (v : ℕ) → v < g.order → Holds k g labels supports v

-- the number of a rule: the rules are checked in this order
abbrev pub rule_number : Rule → ℕ
rule_number Positions = 1
rule_number Arcs = 2
rule_number Sures = 3
rule_number Fars = 4
rule_number Levels = 5
rule_number Components = 6
rule_number SupportBits = 7
