use Rattle.std.proofs.Common.{arith}
use Rattle.heap.proofs.Sifts.{popped, turned, chained}
use Rattle.heap.proofs.pop.Goals as goal

pub returns-clause-popped : goal.returns-clause-popped
returns-clause-popped g c =
    let heap = c.args.heap.now in
    let top = c.index-heap-0 in
    let sifted = c.sift_down.ensures in
    popped g.K.Ord.cmp (turned g.K.Ord.cmp g.met.K.Ord.total) (chained g.K.Ord.cmp g.met.K.Ord.total) heap c.swap.new.self c.sift_down.new.heap c.args.len top.result
    (omega arith) (omega arith) c.swap.ensures.after top.is sifted.rearranged sifted.heaped
