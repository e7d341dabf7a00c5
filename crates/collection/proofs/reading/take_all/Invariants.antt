use Rattle.std.proofs.Common.{◌≡◌, length}
use Rattle.lines.specs.Reading.{unread}
use Rattle.collection.proofs.Lines.{Reading}
use Rattle.collection.proofs.reading.take_all.Given as goal

abbrev pub invariant-loop-line : goal.invariant-loop-line
invariant-loop-line g l =
    Reading g.G.Digraph.most (g.G.GrowableDigraph.arc_limit l.initial.graph) (g.G.Digraph.model l.initial.graph) l.input l.initial.out
    l.machine (g.G.Digraph.model l.graph) l.number (unread l.reader) l.out
    × (g.G.GrowableDigraph.arc_limit l.graph ≡ g.G.GrowableDigraph.arc_limit l.initial.graph)
    × (l.out.bytes.ghost_name ≡ l.initial.out.bytes.ghost_name)

abbrev pub decreases-loop-line : goal.decreases-loop-line
decreases-loop-line g l = length (unread l.reader)
