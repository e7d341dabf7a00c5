use Rattle.std.proofs.Common.{◌≡◌, get_or, take, arith}
use Rattle.std.proofs.lemmas.Grind.{common_steps}
use Rattle.std.proofs.lemmas.List.{get_or-drop, map_more}
use Rattle.graph.specs.declared.list.Arc.{Arc}
use Rattle.graph.specs.Table.{swept}
use Rattle.graph.proofs.list.blot_out.Goals as goal

pub loop-arc-preserved : goal.loop-arc-preserved
loop-arc-preserved c =
    let d : Arc = record { tail = 0; head = 0 } in
    let T = c.loop-arc.arc-items in
    let T₀ = take c.args.taken c.args.table.now in
    let same : get_or T c.loop-arc.arc-index d ≡ get_or T₀ c.loop-arc.arc-index d = grind (arith, get_or-drop c.loop-arc.arc-index T 0 d, get_or-drop c.loop-arc.arc-index T₀ 0 d) in
    grind (arith, common_steps, map_more (swept c.args.n) T₀ c.loop-arc.arc-index d)
