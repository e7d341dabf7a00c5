use Rattle.std.proofs.Common.{◌≡◌, ◌+◌, [], ◌∷◌, ◌++◌, length, ◌∙◌, arith, length-append}
use Rattle.search.proofs.Going.{going, too_long, no_way, arrived, leads_some, leads_none, nothing, something}
use Rattle.search.proofs.tracing.trace.Goals as goal

pub returns-then-len-n : goal.returns-then-len-n
returns-then-len-n g c =
    let p = g.met.G.Digraph.proper c.args.graph.now in
    let ok = c.in_ok-check_question.ensures in
    nothing _ p c.args.s c.args.t c.args.out.now (omega (arith, ok.vertices)) (omega (arith, ok.vertices)) (omega (arith, ok.room))
    (too_long _ p c.args.s c.args.t c.walk.path.items c.walk.u c.walk.invariant (omega (arith, ok.vertices)) c.walk-test.true (omega (arith, c.len.ensures.value)))

pub returns-in_default : goal.returns-in_default
returns-in_default g c =
    let p = g.met.G.Digraph.proper c.args.graph.now in
    let ok = c.in_ok-check_question.ensures in
    nothing _ p c.args.s c.args.t c.args.out.now (omega (arith, ok.vertices)) (omega (arith, ok.vertices)) (omega (arith, ok.room))
    (no_way _ p c.args.s c.args.t c.walk.path.items c.walk.u c.walk.invariant c.walk-test.true
    (λ v. leads_none _ c.args.t c.reaching-marks.result c.reaching-marks.ensures p c.walk.u v c.in_default.ensures))

pub walk-preserved : goal.walk-preserved
walk-preserved g c =
    let p = g.met.G.Digraph.proper c.args.graph.now in
    rw c.push.ensures.items (going _ p c.args.s c.args.t c.walk.path.items c.walk.u c.walk.invariant c.in-Some.v c.walk-test.true
    (leads_some _ c.args.t c.reaching-marks.result c.reaching-marks.ensures p c.walk.u c.in-Some.v c.in-Some.ensures) (omega (arith, c.len.ensures.value)))

pub returns : goal.returns
returns g c =
    let p = g.met.G.Digraph.proper c.args.graph.now in
    let ok = c.in_ok-check_question.ensures in
    let path = c.walk.path.items ++ c.args.t ∷ [] in
    let long : length path ≡ length c.walk.path.items + 1 = length-append c.walk.path.items (c.args.t ∷ []) in
    something _ p c.args.s c.args.t c.args.out.now (omega (arith, ok.vertices)) (omega (arith, ok.vertices)) (omega (arith, ok.room)) path
    (c.as_slice.ensures.value ∙ c.push-2.ensures.items) c.write_out.ensures.count c.write_out.ensures.written (omega arith) (omega (arith, c.walk.invariant.room))
    (arrived _ p c.args.s c.args.t c.walk.path.items c.walk.u c.walk.invariant c.walk-test.false)
