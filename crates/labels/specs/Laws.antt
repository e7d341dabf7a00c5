-- What a verdict claims, and the laws of a test. Assumes nothing.
use Rattle.std.specs.Prelude.{◌≡◌, ℕ, ◌<◌, Option, IfSome, ◌≢◌}
use Rattle.graph.specs.Model.{Model, Proper}
use Rattle.graph.specs.Paths.{Reaches}
use Rattle.labels.specs.declared.label.Label.{Label}
use Rattle.labels.specs.declared.decision.Verdict.{Verdict}
use Rattle.labels.specs.declared.decision.Verdict.TheVariants.{Yes, No}
use Rattle.labels.specs.declared.decision.Decision.{Decision}
use Rattle.labels.specs.Labels.{Labels, Supports}
use Rattle.labels.specs.Rules.{Rules}
use Rattle.labels.specs.Judges.{Judge}

-- what a verdict claims of the graph: yes that s reaches t, no that it does not
abbrev pub Claim : Model → ℕ → ℕ → Verdict → Type 0
Claim g s t Yes = Reaches g s t
Claim g s t No = Reaches g s t → ⊥

-- what the verdict of the decision claims is so
pub record Right (g : Model) (s t : ℕ) (d : Decision) : Type 0 where
  pub claim : Claim g s t d.verdict

-- a decision, if there is one, is right
abbrev pub RightIfAny : Model → ℕ → ℕ → Option Decision → Type 0
RightIfAny g s t o = IfSome o (Right g s t)

-- a decision, if there is one, names a test by a number above 0
abbrev pub NumberedIfAny : Option Decision → Type 0
NumberedIfAny o = IfSome o (λ d. 0 < d.ground)

-- whatever is decided, on any labels, carries a number above 0
abbrev pub Numbered : Judge → Type 0
Numbered j = (s t : ℕ) (a b : Label) → NumberedIfAny (j s t a b)

-- on labels that meet the rules, what is decided of two different vertices is right
abbrev pub Lawful : Judge → Type 0
Lawful j =
    (g : Model) → Proper g → (labels : Labels) (supports : Supports) → Rules g labels supports
    → (s t : ℕ) → s < g.order → t < g.order → (s ≢ t) → RightIfAny g s t (j s t (labels s) (labels t))

-- where a and b are the labels of two different vertices s and t in labels that meet the rules, the answer is right
abbrev pub RightOnRules : ℕ → ℕ → Label → Label → Option Decision → Type 0
RightOnRules s t a b o =
    (g : Model) → Proper g → (labels : Labels) (supports : Supports) → Rules g labels supports
    → s < g.order → t < g.order → (s ≢ t) → a ≡ labels s → b ≡ labels t → RightIfAny g s t o
