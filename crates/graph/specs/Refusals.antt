-- The numbers and the texts of the refusals. Assumes nothing.
use Rattle.std.specs.Prelude.{ℕ, List, codes}
use Rattle.graph.specs.declared.refusal.Refusal.{Refusal}
use Rattle.graph.specs.declared.refusal.Refusal.TheVariants.{NoVertex, SameVertex, ArcPresent, LimitReached}

-- the number that stands for a refusal in printed lines
abbrev pub refusal_number : Refusal → ℕ
refusal_number NoVertex = 2
refusal_number SameVertex = 3
refusal_number ArcPresent = 4
refusal_number LimitReached = 5

-- what a refusal says
abbrev pub refusal_text : Refusal → List ℕ
refusal_text NoVertex = codes "there is no such vertex"
refusal_text SameVertex = codes "both ends of the arc are one vertex"
refusal_text ArcPresent = codes "the arc is there already"
refusal_text LimitReached = codes "the graph is full"
