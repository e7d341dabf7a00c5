-- Orders of the vertices, given by the place of each. Assumes nothing.
use Rattle.std.specs.Prelude.{◌≡◌, ℕ, ◌-◌, ◌<◌, true, List, slice_index}
use Rattle.graph.specs.Model.{Model}

-- what a table gives each vertex
abbrev pub at : List ℕ → ℕ → ℕ
at table v = slice_index table v

-- the places 0 to n - 1, each of one of the vertices 0 to n - 1
pub record Positions (n : ℕ) (place : ℕ → ℕ) : Type 0 where
  pub within : (v : ℕ) → v < n → place v < n
  pub apart : (u v : ℕ) → u < n → v < n → place u ≡ place v → u ≡ v

-- an order in which each arc leads to a higher place
pub record Topological (g : Model) (place : ℕ → ℕ) : Type 0 where
  pub positions : Positions g.order place
  pub rises : (u v : ℕ) → g.arc u v ≡ true → place u < place v

-- the place counted from the other end
abbrev pub mirrored : ℕ → ℕ → ℕ
mirrored n p = n - 1 - p
