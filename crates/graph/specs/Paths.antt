-- Paths and cycles of a directed graph. Assumes nothing.
use Rattle.std.specs.Prelude.{◌≡◌, ℕ, true}
use Rattle.graph.specs.Model.{Model}

-- a chain of arcs; the chain of none joins each vertex to itself
pub data Path (g : Model) : ℕ → ℕ → Type 0 where
  stay : {u : ℕ} → Path g u u
  walk : {u v w : ℕ} → g.arc u v ≡ true → Path g v w → Path g u w

-- s reaches t where there is a path from s to t: that there is one, and not which
abbrev pub Reaches : Model → ℕ → ℕ → Type 0
Reaches g s t = ∥ Path g s t ∥₁

-- a cycle is a path of one or more arcs back to its start: an arc, and a path back
abbrev pub Cycle : Model → Type 0
Cycle g = (u : ℕ) × (v : ℕ) × (g.arc u v ≡ true) × Reaches g v u
