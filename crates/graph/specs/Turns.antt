-- The successors of a vertex in turn. Assumes nothing.
use Rattle.std.specs.Prelude.{◌≡◌, ℕ, ◌+◌, Some, None, Option}
use Rattle.graph.specs.Model.{Model, NextSuccessor}

-- r is the next successor of u that is not below `from`, and `after` is where to look for the one after it; none leaves `from` as it was
abbrev pub NextInTurn : Model → ℕ → ℕ → Option ℕ → ℕ → Type 0
NextInTurn g u from (Some v) after = NextSuccessor g u from (Some v) × (after ≡ v + 1)
NextInTurn g u from None after = NextSuccessor g u from None × (after ≡ from)
