use Rattle.std.proofs.Common.{take, map}
use Rattle.graph.specs.Table.{turned}
use Rattle.graph.proofs.Tables.{Least}
use Rattle.graph.proofs.list.ArcList.next.Given as goal

abbrev pub invariant-loop-arc : goal.invariant-loop-arc
invariant-loop-arc l = Least (take l.arc-index (map (turned l.direction) l.arc-items)) l.from l.u l.n l.best
