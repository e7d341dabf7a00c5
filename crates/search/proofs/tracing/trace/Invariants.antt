use Rattle.std.proofs.Common.{◌-◌, length}
use Rattle.search.proofs.Going.{Going}
use Rattle.search.proofs.tracing.trace.Given as goal

abbrev pub invariant-walk : goal.invariant-walk
invariant-walk g l = Going (g.G.Digraph.model l.graph) l.s l.t l.path.items l.u

abbrev pub decreases-walk : goal.decreases-walk
decreases-walk g l = l.n - length l.path.items
