use Rattle.std.proofs.Common.{◌≡◌}
use Rattle.graph.specs.Growth.{MoreVertices}
use Rattle.graph.proofs.growing.add_vertices.Given as goal

abbrev pub invariant-loop : goal.invariant-loop
invariant-loop g l =
    MoreVertices (g.G.Digraph.model l.initial.graph) (g.G.Digraph.model l.graph) l.counter
    × (g.G.GrowableDigraph.arc_limit l.graph ≡ g.G.GrowableDigraph.arc_limit l.initial.graph)
