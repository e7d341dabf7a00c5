-- The numbers and the texts of the refusals, and when a question is refused. Assumes nothing.
use Rattle.std.specs.Prelude.{ℕ, cond, List, Some, None, Option, codes, nat_le, nat_lt}
use Rattle.search.specs.declared.Refusal.{Refusal}
use Rattle.search.specs.declared.Refusal.TheVariants.{NoVertex, ShortSlice}

-- the number that stands for a refusal in printed lines
abbrev pub refusal_number : Refusal → ℕ
refusal_number NoVertex = 2
refusal_number ShortSlice = 8

-- what a refusal says
abbrev pub refusal_text : Refusal → List ℕ
refusal_text NoVertex = codes "there is no such vertex"
refusal_text ShortSlice = codes "the slice is shorter than the number of vertices"

-- the refusal of a question about the vertex s, over n vertices, with a slice of that length; None where it is answered
abbrev pub refusal : ℕ → ℕ → ℕ → Option Refusal
refusal n s length = cond (nat_le n s) (Some NoVertex) (cond (nat_lt length n) (Some ShortSlice) None)

-- the refusal of a question about the vertices s and t: NoVertex where s is no vertex, else as of a question about t
abbrev pub refusal_of_two : ℕ → ℕ → ℕ → ℕ → Option Refusal
refusal_of_two n s t length = cond (nat_le n s) (Some NoVertex) (refusal n t length)
