use Rattle.graph.specs.Square.{at}
use Rattle.graph.proofs.matrix.calls.BitMatrixDigraph.next_predecessor.Given as goal

abbrev pub ghost-lowest : goal.ghost-lowest
ghost-lowest a = λ k. at a.test.0.now.rows k a.test.1.now
