-- The graph that a `BitMatrix` stands for. Assumes nothing.
use Rattle.std.specs.Prelude.{◌≡◌, ℕ, ◌<◌, true, ◌≢◌}
use Rattle.graph.specs.Model.{Model, size}
use Rattle.graph.specs.Square.{at}
use Rattle.graph.specs.declared.matrix.BitMatrix.{BitMatrix}

abbrev pub matrix_model : BitMatrix → Model
matrix_model x = record { order = x.count; arc = at x.rows }

-- the arc limit: as many arcs as 64 vertices can have
abbrev pub matrix_arc_limit : BitMatrix → ℕ
matrix_arc_limit x = 4032

-- a matrix with 4032 arcs has every arc that its vertices can have
abbrev pub LimitOnlyWhenComplete : Type 0
LimitOnlyWhenComplete =
    (x : BitMatrix) → size (matrix_model x) ≡ 4032 →
    (u v : ℕ) → u < x.count → v < x.count → (u ≢ v) → (matrix_model x).arc u v ≡ true
