use Rattle.std.proofs.Common.{map, arith}
use Rattle.std.proofs.lemmas.Grind.{common_steps}
use Rattle.graph.specs.Table.{turned}
use Rattle.graph.specs.ListModel.{entries, list_order}
use Rattle.graph.proofs.Tables.{least_start, least_step, no_head, one_head}
use Rattle.graph.proofs.list.ArcList.next.Goals as goal

pub loop-arc-init : goal.loop-arc-init
loop-arc-init c = least_start _ _ _

pub loop-arc-preserved : goal.loop-arc-preserved
loop-arc-preserved c =
    least_step (map (turned c.args.direction) c.entries-arc-items.result.now) c.loop-arc.arc-index record { tail = 0; head = 0 } _ _ _ _
    (grind (arith, common_steps)) c.loop-arc.invariant _ (grind (arith, common_steps))

pub returns-then-best-n : goal.returns-then-best-n
returns-then-best-n c =
    one_head c.args.direction (entries c.args.self.now) (list_order c.args.self.now) c.args.u c.args.from c.loop-arc.best
    (grind (arith, common_steps, c.loop-arc.invariant)) (omega arith) (omega arith)

pub returns-else-best-n : goal.returns-else-best-n
returns-else-best-n c =
    no_head c.args.direction (entries c.args.self.now) (list_order c.args.self.now) c.args.u c.args.from c.loop-arc.best
    (grind (arith, common_steps, c.loop-arc.invariant)) (omega arith)
