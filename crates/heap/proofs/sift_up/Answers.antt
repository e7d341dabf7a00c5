use Rattle.std.proofs.Common.{refl, arith}
use Rattle.std.proofs.lemmas.Bool.{cases_eq}
use Rattle.std.proofs.lemmas.List.Edits.{swapped_from_swap}
use Rattle.heap.proofs.Sifts.{rearranged_more, rises, turned, chained}
use Rattle.heap.proofs.sift_up.Goals as goal

pub returns-then-not-is_less-clause-heaped : goal.returns-then-not-is_less-clause-heaped
returns-then-not-is_less-clause-heaped g c h k z b d =
    let edge = (c.loop-child.invariant.rising h d).edges k z b in
    let in_order = c.is_less.ensures d in
    grind (arith, cases_eq k c.loop-child.child)

pub loop-child-preserved : goal.loop-child-preserved
loop-child-preserved g c =
    let l = c.loop-child in
    let w = c.swap in record {
      place = omega arith;
      rearranged = rearranged_more w.new.self _ l.child _ (omega arith) (omega arith) (omega arith) w.ensures.after l.invariant.rearranged;
      rising = λ h d.
          let less = c.is_less.ensures d in
          let swap = swapped_from_swap l.heap w.new.self _ l.child d (omega arith) (omega arith) w.ensures.after in
          rises g.K.Ord.cmp (turned g.K.Ord.cmp g.met.K.Ord.total) (chained g.K.Ord.cmp g.met.K.Ord.total) _ _ _ l.child _ refl (omega arith) (omega arith) swap (grind arith) (l.invariant.rising h d);
    }

pub returns-clause-heaped : goal.returns-clause-heaped
returns-clause-heaped g c h k z b d = (c.loop-child.invariant.rising h d).edges k z b (omega arith)
