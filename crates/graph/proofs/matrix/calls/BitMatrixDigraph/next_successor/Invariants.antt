use Rattle.graph.specs.Square.{at}
use Rattle.graph.proofs.matrix.calls.BitMatrixDigraph.next_successor.Given as goal

abbrev pub ghost-lowest : goal.ghost-lowest
ghost-lowest a = at a.test.0.now.rows a.test.1.now
