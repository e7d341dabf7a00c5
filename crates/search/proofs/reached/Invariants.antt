use Rattle.std.proofs.Common.{◌≡◌, ◌+◌, ◌-◌, length}
use Rattle.graph.specs.Paths.{Path}
use Rattle.search.proofs.Marks.{Holds, Late, Never, ones}
use Rattle.search.proofs.reached.Given as goal

-- the iterator stands at the successors of u, and each turn opens one vertex of those that were marked and not opened
abbrev pub invariant-loop-w : goal.invariant-loop-w
invariant-loop-w g l =
    let m = g.G.Digraph.model l.graph in
    (l.w-iterator.graph.now ≡ l.graph)
    × (l.w-iterator.vertex ≡ l.u)
    × Holds m l.s (Late l.u l.w-iterator.from) l.waiting.items l.marks
    × Path m l.s l.u
    × (ones l.marks + length l.initial.waiting.items ≡ length l.waiting.items + ones l.initial.marks)

abbrev pub invariant-search : goal.invariant-search
invariant-search g l = Holds (g.G.Digraph.model l.graph) l.s Never l.waiting.items l.marks

abbrev pub decreases-search : goal.decreases-search
decreases-search g l = 512 + length l.waiting.items - ones l.marks
