use Rattle.std.proofs.Common.{◌≡◌, ◌-◌, drop}
use Rattle.labels.specs.Labels.{label_at}
use Rattle.search.specs.Successors.{successors_from}
use Rattle.asking.specs.Search.{between, at, told}
use Rattle.asking.proofs.Steps.{Holds}
use Rattle.asking.proofs.oracle.Oracle.search.Given as goal

abbrev pub invariant-loop-w : goal.invariant-loop-w
invariant-loop-w g l =
    let m = g.G.Digraph.model l.self.graph.now in
    (l.w-iterator.graph.now ≡ l.self.graph.now)
    × (l.w-iterator.vertex ≡ l.u)
    × Holds m (told (g.T.Test.judges l.self.test.now) (label_at l.self.labels.now) l.t) l.s (at (successors_from m l.u l.w-iterator.from)) l.waiting.items l.marks l.count l.opened

abbrev pub invariant-search : goal.invariant-search
invariant-search g l =
    let m = g.G.Digraph.model l.self.graph.now in
    Holds m (told (g.T.Test.judges l.self.test.now) (label_at l.self.labels.now) l.t) l.s between l.waiting.items l.marks l.count l.opened
    × (drop l.count l.opened ≡ drop l.count l.initial.opened)

abbrev pub decreases-search : goal.decreases-search
decreases-search g l = (g.G.Digraph.model l.self.graph.now).order - l.count
