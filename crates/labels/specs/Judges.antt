-- What each test says of two vertices and their labels. Assumes nothing.
use Rattle.std.specs.Prelude.{ℕ, Bool, true, false, not, ◌&&◌, ◌||◌, Some, None, Option, ◌==◌, nat_le, nat_lt}
use Rattle.std.specs.declared.cmp.Ordering.{Ordering}
use Rattle.std.specs.Ordering.{is_lt, is_gt, is_eq}
use Rattle.graph.specs.Square.{flagged}
use Rattle.labels.specs.declared.label.Row.{Row}
use Rattle.labels.specs.declared.label.Label.{Label}
use Rattle.labels.specs.declared.decision.Verdict.{Verdict}
use Rattle.labels.specs.declared.decision.Verdict.TheVariants.{Yes, No}
use Rattle.labels.specs.declared.decision.Decision.{Decision}
use Rattle.labels.specs.Labels.{row}
use Rattle.labels.specs.Bounded.{some_below}

-- what is said of s and t with their labels, in this order: a decision, or nothing
abbrev pub Judge : Type 0
Judge = ℕ → ℕ → Label → Label → Option Decision

-- what the first says, or what the second says where the first says nothing
abbrev pub first : {A : Type 0} → Option A → Option A → Option A
first None o = o
first (Some d) o = Some d

-- the verdict where the condition holds, otherwise nothing
abbrev pub says : Bool → Verdict → Option Verdict
says true v = Some v
says false v = None

-- a verdict, if any, with the number of the test that gives it
abbrev pub on_ground : (ground : ℕ) → Option Verdict → Option Decision
on_ground ground None = None
on_ground ground (Some v) = Some (record { verdict = v; ground = ground })

-- some bit is set in both
unfoldable pub meets : ℕ → ℕ → Bool
meets m n = some_below 16 (λ i. flagged m i && flagged n i)

-- some bit is set in the first and not in the second
unfoldable pub exceeds : ℕ → ℕ → Bool
exceeds m n = some_below 16 (λ i. flagged m i && not (flagged n i))

-- 1: a vertex reaches itself
abbrev pub same : Judge
same s t a b = on_ground 1 (says (s == t) Yes)

-- 2: s has no arc out, or t has no arc in
abbrev pub ends : Judge
ends s t a b = on_ground 2 (says (a.down == 0 || b.up == 0) No)

-- 3: the components differ
abbrev pub components : Judge
components s t a b = on_ground 3 (says (not (a.component == b.component)) No)

-- 4: the up level does not rise, or the down level does not fall
abbrev pub levels : Judge
levels s t a b = on_ground 4 (says (nat_le b.up a.up || nat_le a.down b.down) No)

-- a row in its own direction, by the order in which each arc goes up, from one position to another
abbrev pub along_row : {P : Type 0} → (cmp : P → P → Ordering) → (from : P) → (to : P) → (sure : P) → (far : P) → Option Verdict
along_row cmp from to sure far =
    first (says (is_lt (cmp to from)) No)
    (first (says (not (is_gt (cmp to sure))) Yes)
    (first (says (is_eq (cmp to far)) Yes)
    (says (is_gt (cmp to far)) No)))

-- a forward row, with the row x of s and the row y of t
abbrev pub forward : Row → Row → Option Verdict
forward x y =
    first (says (nat_lt y.position x.position) No)
    (first (says (nat_le y.position x.sure) Yes)
    (first (says (y.position == x.far) Yes)
    (says (nat_lt x.far y.position) No)))

-- a backward row, with the row x of s and the row y of t
abbrev pub backward : Row → Row → Option Verdict
backward x y =
    first (says (nat_lt y.position x.position) No)
    (first (says (nat_le y.sure x.position) Yes)
    (first (says (x.position == y.far) Yes)
    (says (nat_lt x.position y.far) No)))

-- the rows in turn, with the label a of s and the label b of t
abbrev pub in_turn : Label → Label → Option Verdict
in_turn a b =
    first (forward (row a 0) (row b 0))
    (first (forward (row a 1) (row b 1))
    (first (backward (row a 2) (row b 2))
    (backward (row a 3) (row b 3))))

-- 5: the rows
abbrev pub orders : Judge
orders s t a b = on_ground 5 (in_turn a b)

-- 6: a support between s and t; or one that reaches s and not t, or that t reaches and s does not
abbrev pub supports : Judge
supports s t a b =
    on_ground 6
    (first (says (meets a.to b.from) Yes)
    (says (exceeds a.from b.from || exceeds b.to a.to) No))

-- the second is asked where the first says nothing
abbrev pub or_else : Judge → Judge → Judge
or_else j k s t a b = first (j s t a b) (k s t a b)

-- the six tests in their order
abbrev pub six : Judge
six = or_else same (or_else ends (or_else components (or_else levels (or_else orders supports))))
