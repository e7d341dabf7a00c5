use Rattle.std.proofs.Common.{arith}
use Rattle.graph.specs.Model.{sum_below, pairs}
use Rattle.graph.proofs.list.ArcList.new.Goals as goal

pub returns-clause-limit : goal.returns-clause-limit
unfolding pairs sum_below
returns-clause-limit c = omega arith
