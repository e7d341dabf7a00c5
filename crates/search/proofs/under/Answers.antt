use Rattle.std.proofs.Common.{◌≡◌, arith}
use Rattle.std.proofs.lemmas.Bool.{both_ways}
use Rattle.search.proofs.Listing.{stands_kept, stands_skipped, gathered, not_refused}
use Rattle.search.proofs.under.Goals as goal
use Rattle.search.proofs.under.Goals.{then-marks-v, else-marks-v}

pub loop-v-preserved : goal.loop-v-preserved
loop-v-preserved g c =
    let m = g.G.Digraph.model c.args.graph.now in
    let l = c.loop-v in
    let k = c.reached-marks.ensures l.v (omega arith) in
    elim c.if-marks-v.branch [
      | then-marks-v way ↦
          rw (way.out-is, way.count-is)
          (stands_kept m c.args.s c.args.out.now l.out l.count l.v l.invariant (omega (arith, c.in_ok-check_question.ensures.room)) (k.0 way.if-marks-v.true))
      | else-marks-v way ↦
          rw (way.out-is, way.count-is)
          (stands_skipped m c.args.s c.args.out.now l.out l.count l.v l.invariant (λ r. both_ways _ way.if-marks-v.false (k.1 r)))
    ]

pub returns : goal.returns
returns g c =
    let m = g.G.Digraph.model c.args.graph.now in
    let ok = c.in_ok-check_question.ensures in
    let e : c.loop-v.v ≡ m.order = omega arith in (
      not_refused m.order c.args.s _ (omega (arith, ok.vertices)) (omega (arith, ok.room)),
      gathered m c.args.s c.args.out.now c.loop-v.out c.loop-v.count (g.met.G.Digraph.proper c.args.graph.now) (omega (arith, ok.vertices)) (rw e at c.loop-v.invariant),
    )
