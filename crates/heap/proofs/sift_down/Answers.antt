use Rattle.std.proofs.Common.{arith}
use Rattle.std.proofs.lemmas.Bool.{cases_eq}
use Rattle.std.proofs.lemmas.List.Edits.{swapped_from_swap}
use Rattle.heap.specs.Heaps.{parent}
use Rattle.heap.proofs.Sifts.{rearranged_more, sinks, turned, chained}
use Rattle.heap.proofs.sift_down.Goals as goal

pub returns-then-not-is_less-clause-heaped : goal.returns-then-not-is_less-clause-heaped
returns-then-not-is_less-clause-heaped g c h k z b d =
    let l = c.loop-parent in
    let edge = (l.invariant.sinking h d).edges k z b in
    let in_order = c.is_less.ensures d in
    let greatest = c.greater_child-child.ensures.greatest k z b in
    grind (arith, cases_eq (parent k) l.parent)

pub loop-parent-preserved : goal.loop-parent-preserved
loop-parent-preserved g c =
    let l = c.loop-parent in
    let child = c.greater_child-child in
    let w = c.swap in record {
      rearranged = rearranged_more w.new.self l.parent child.result _ (omega arith) (omega arith) (omega arith) w.ensures.after l.invariant.rearranged;
      sinking = λ h d.
          let less = c.is_less.ensures d in
          let swap = swapped_from_swap l.heap w.new.self l.parent child.result d (omega arith) (omega arith) w.ensures.after in
          sinks g.K.Ord.cmp (turned g.K.Ord.cmp g.met.K.Ord.total) (chained g.K.Ord.cmp g.met.K.Ord.total) _ _ l.parent child.result _ (omega arith) (omega arith) (omega arith) swap (grind arith)
          (λ k z b e. child.ensures.greatest k z b e d) (l.invariant.sinking h d);
    }

pub returns-clause-heaped : goal.returns-clause-heaped
returns-clause-heaped g c h k z b d = (c.loop-parent.invariant.sinking h d).edges k z b (omega arith)
