-- Theorems on the rules and the six tests. Assumes nothing.
use Rattle.std.specs.Prelude.{◌≡◌, ℕ, ◌<◌, ◌≤◌, true, ◌||◌, ◌↔◌, Some, None, Option}
use Rattle.graph.specs.Model.{Model, Proper}
use Rattle.graph.specs.Paths.{Reaches, Cycle}
use Rattle.labels.specs.declared.rule.Rule.{Rule}
use Rattle.labels.specs.declared.decision.Verdict.{Verdict}
use Rattle.labels.specs.declared.decision.Decision.{Decision}
use Rattle.labels.specs.Labels.{Labels, Supports, Forward, Backward, position, sure}
use Rattle.labels.specs.Rules.{Rules, Holds, SureForward, SureBackward}
use Rattle.labels.specs.Checks.{holds}
use Rattle.labels.specs.Judges.{six}

-- the tests that compute agree with the rules
abbrev pub RulesCompute : Type 0
RulesCompute =
    (g : Model) → Proper g → (labels : Labels) (supports : Supports) (k : Rule) (v : ℕ)
    → (holds k g labels supports v ≡ true) ↔ Holds k g labels supports v

-- where the arcs hold a cycle, no labels meet the rules
abbrev pub CycleBreaksRules : Type 0
CycleBreaksRules = (g : Model) → Proper g → Cycle g → (labels : Labels) (supports : Supports) → Rules g labels supports → ⊥

-- the graph with each arc read both ways
abbrev pub undirected : Model → Model
undirected g = record { order = g.order; arc = λ u v. g.arc u v || g.arc v u }

-- u and v are in the same weakly connected component
abbrev pub Linked : Model → ℕ → ℕ → Type 0
Linked g = Reaches (undirected g)

-- the labels meet the rules, sure goes as far as it may, and the component is the lowest vertex of the weakly connected component
pub record Strongest (g : Model) (labels : Labels) (supports : Supports) : Type 0 where
  pub rules : Rules g labels supports
  pub sure_greatest : (v : ℕ) → v < g.order → (r : ℕ) → Forward r → (m : ℕ) → SureForward g (position labels r) v m → m ≤ sure labels r v
  pub sure_least : (v : ℕ) → v < g.order → (r : ℕ) → Backward r → (m : ℕ) → SureBackward g (position labels r) v m → sure labels r v ≤ m
  pub component_linked : (v : ℕ) → v < g.order → Linked g v (labels v).component
  pub component_lowest : (v : ℕ) → v < g.order → (w : ℕ) → Linked g v w → (labels v).component ≤ w

-- the two labellings have the same positions
abbrev pub SamePositions : Model → Labels → Labels → Type 0
SamePositions g rival labels = (r : ℕ) → r < 4 → (v : ℕ) → v < g.order → position rival r v ≡ position labels r v

-- the verdict of a decision, if there is one, without its ground
abbrev pub verdict_of : Option Decision → Option Verdict
verdict_of None = None
verdict_of (Some d) = Some d.verdict

-- whatever rival labels with the same positions and supports decide by the six tests, the strongest labels decide alike
abbrev pub RivalsDecideNoMore : Type 0
RivalsDecideNoMore =
    (g : Model) → Proper g → (labels rival : Labels) (supports : Supports)
    → Strongest g labels supports → Rules g rival supports → SamePositions g rival labels
    → (s t : ℕ) → s < g.order → t < g.order → (v : Verdict)
    → verdict_of (six s t (rival s) (rival t)) ≡ Some v → verdict_of (six s t (labels s) (labels t)) ≡ Some v
