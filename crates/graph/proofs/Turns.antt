-- A turn of an iterator of successors, read at the graph and the vertex that it goes over. Assumes nothing.
use Rattle.std.proofs.Common.{◌≡◌, ℕ, Option}
use Rattle.graph.specs.Model.{Model}
use Rattle.graph.specs.Turns.{NextInTurn}

pub turn_at : {V : Type 0} (model : V → Model) {x y : V} {u v : ℕ} (from : ℕ) (r : Option ℕ) (after : ℕ) → x ≡ y → u ≡ v →
    NextInTurn (model x) u from r after → NextInTurn (model y) v from r after
turn_at model from r after ex eu t = rw (← ex, ← eu) t
