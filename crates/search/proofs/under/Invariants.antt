use Rattle.search.proofs.Listing.{Stands}
use Rattle.search.proofs.under.Given as goal

abbrev pub invariant-loop-v : goal.invariant-loop-v
invariant-loop-v g l = Stands (g.G.Digraph.model l.graph) l.s l.v l.initial.out l.out l.count
