-- The number and the text of the refusal of a graph with a cycle. Assumes nothing.
use Rattle.std.specs.Prelude.{ℕ, List, codes}
use Rattle.orders.specs.declared.Cyclic.{Cyclic}

-- the number that stands for the refusal in printed lines
abbrev pub refusal_number : Cyclic → ℕ
refusal_number c = 6

-- what the refusal says
abbrev pub refusal_text : Cyclic → List ℕ
refusal_text c = codes "the arcs hold a cycle"
