use Rattle.std.proofs.Common.{arith}
use Rattle.std.proofs.lemmas.Grind.{common_steps}
use Rattle.graph.specs.ListModel.{entries}
use Rattle.graph.proofs.Grows.{drawn_swept, size_swept}
use Rattle.graph.proofs.list.ArcListGrowableDigraph.add_vertex.Goals as goal

pub returns-clause-grows : goal.returns-clause-grows
returns-clause-grows c = (
  c.order-n.ensures,
  omega arith,
  record { order = omega arith; arcs = λ a b. grind (arith, common_steps, drawn_swept (entries c.args.self.now) c.order-n.result a b) },
)

pub returns-clause-limit : goal.returns-clause-limit
returns-clause-limit c = grind (arith, common_steps, size_swept (entries c.args.self.now) c.order-n.result)
