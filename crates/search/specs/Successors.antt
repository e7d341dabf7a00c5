-- The numbers that pass a test, and the successors of a vertex, as ascending lists. Assumes nothing.
use Rattle.std.specs.Prelude.{ℕ, zero, suc, ◌-◌, Bool, cond, List, [], ◌∷◌}
use Rattle.graph.specs.Model.{Model}

-- those of the k numbers from v on that pass, ascending
abbrev pub passing : (ℕ → Bool) → ℕ → ℕ → List ℕ
passing p v zero = []
passing p v (suc k) = cond (p v) (v ∷ passing p (suc v) k) (passing p (suc v) k)

-- the successors of u that are not below v, ascending
abbrev pub successors_from : Model → ℕ → ℕ → List ℕ
successors_from g u v = passing (g.arc u) v (g.order - v)
