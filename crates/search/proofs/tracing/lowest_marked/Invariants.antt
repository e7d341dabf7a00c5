use Rattle.std.proofs.Common.{◌≡◌, ℕ, ◌<◌, true, false, get_or}
use Rattle.search.proofs.tracing.lowest_marked.Given as goal

abbrev pub invariant-loop-w : goal.invariant-loop-w
invariant-loop-w g l =
    (l.w-iterator.graph.now ≡ l.graph)
    × (l.w-iterator.vertex ≡ l.u)
    × ((k : ℕ) → k < l.w-iterator.from → (g.G.Digraph.model l.graph).arc l.u k ≡ true → get_or l.marks k false ≡ false)
