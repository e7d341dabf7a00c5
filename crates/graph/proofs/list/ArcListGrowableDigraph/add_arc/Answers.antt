use Rattle.std.proofs.Common.{arith}
use Rattle.std.proofs.lemmas.Grind.{common_steps}
use Rattle.graph.specs.ListModel.{entries, list_order}
use Rattle.graph.proofs.Grows.{drawn_push, size_push}
use Rattle.graph.proofs.list.ArcListGrowableDigraph.add_arc.Goals as goal

pub returns-clause-grows : goal.returns-clause-grows
returns-clause-grows c = (
  grind (arith, common_steps),
  record { order = omega arith; arcs = λ a b. grind (arith, common_steps, drawn_push (entries c.args.self.now) (list_order c.args.self.now) c.args.u c.args.v) },
)

pub returns-clause-limit : goal.returns-clause-limit
returns-clause-limit c = grind (arith, common_steps, size_push (entries c.args.self.now) (list_order c.args.self.now) c.args.u c.args.v)
