use Rattle.std.proofs.Common.{◌≡◌, map, take, drop}
use Rattle.graph.specs.Table.{swept}
use Rattle.graph.proofs.list.blot_out.Given as goal

-- the entries before this one are blotted out, and the others are as they were
abbrev pub invariant-loop-arc : goal.invariant-loop-arc
invariant-loop-arc l =
    (take l.arc-index l.arc-items ≡ map (swept l.n) (take l.arc-index l.initial.arc-items))
    × (drop l.arc-index l.arc-items ≡ drop l.arc-index l.initial.arc-items)
