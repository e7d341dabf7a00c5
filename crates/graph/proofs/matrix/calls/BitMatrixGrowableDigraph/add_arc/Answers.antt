use Rattle.std.proofs.Common.{arith}
use Rattle.std.proofs.lemmas.Grind.{common_steps}
use Rattle.graph.specs.Square.{at}
use Rattle.graph.proofs.Bits.{at_set, absent_room}
use Rattle.graph.proofs.matrix.calls.BitMatrixGrowableDigraph.add_arc.Goals as goal

pub invariant_of-self : goal.invariant_of-self
invariant_of-self c = grind (arith, common_steps, at_set c.args.self.now.rows c.args.u c.args.v)

pub returns-clause-grows : goal.returns-clause-grows
returns-clause-grows c =
    let x = c.args.self.now in
    grind (arith, common_steps, at_set x.rows c.args.u c.args.v, absent_room (at x.rows) x.count c.args.u c.args.v x.small)
