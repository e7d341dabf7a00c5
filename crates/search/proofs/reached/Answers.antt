use Rattle.std.proofs.Common.{rules, [], ◌++◌, ◌∷◌, lit<, Some, None, ap, ◌∙◌, arith}
use Rattle.std.proofs.lemmas.List.Elements.{Contains-push}
use Rattle.std.proofs.lemmas.List.Sums.{count_by-le-length}
use Rattle.graph.proofs.Turns.{turn_at}
use Rattle.search.proofs.Marks.{Holds, begins, opening, knowing, putting, leaving, ending, outside, Never, more, roomier}
use Rattle.search.proofs.Lists.{none_left}
use Rattle.search.proofs.reached.Goals as goal

pub returns-else-s-vertex_count : goal.returns-else-s-vertex_count
returns-else-s-vertex_count g c = search (rules, outside, g.met.G.Digraph.proper)

pub search-init : goal.search-init
search-init g c =
    rw (c.push.ensures.items, c.new-waiting.ensures) (begins (g.G.Digraph.model c.args.graph.now) c.args.s (g.met.G.Digraph.proper c.args.graph.now) (omega arith))

pub loop-w-init : goal.loop-w-init
loop-w-init g c =
    let m = g.G.Digraph.model c.args.graph.now in
    let of = c.of-w-items.ensures in
    let is = c.into_iter-w-iterator.ensures.into_iter_gives in
    let h : Holds m c.args.s Never (c.pop.new.self.items ++ c.in-Some.u ∷ []) c.search.marks = rw (← c.in-Some.ensures.items) c.search.invariant in (
      ap (λ i. i.graph.now) is ∙ of.graph,
      ap (λ i. i.vertex) is ∙ of.vertex,
      rw (ap (λ i. i.from) is ∙ of.from) (opening m c.args.s c.pop.new.self.items c.in-Some.u c.search.marks h),
      h.stacked c.in-Some.u (Contains-push c.pop.new.self.items c.in-Some.u),
      omega arith,
    )

pub search-smaller : goal.search-smaller
search-smaller g c = omega (arith, c.loop-w.invariant.4, count_by-le-length (λ b. b) c.search.marks, c.search.invariant.marks_size, c.in-Some.ensures.len)

pub search-preserved : goal.search-preserved
search-preserved g c =
    let inv = c.loop-w.invariant in
    let turn = turn_at g.G.Digraph.model c.loop-w.w-iterator.from None _ inv.0 inv.1 c.in-None.ensures.steps.2 in
    leaving _ c.args.s c.loop-w.waiting.items c.loop-w.marks c.in-Some.u c.loop-w.w-iterator.from inv.2 turn.0

pub push-requires-then-not-marks-w : goal.push-requires-then-not-marks-w
push-requires-then-not-marks-w g c =
    let inv = c.loop-w.invariant in
    let turn = turn_at g.G.Digraph.model c.loop-w.w-iterator.from (Some c.in-Some-w.w) _ inv.0 inv.1 c.in-Some-w.ensures.steps.2 in
    (lit< tt, omega (arith, roomier _ c.args.s c.loop-w.waiting.items c.loop-w.marks _ _ inv.2 c.in-Some-w.w turn.0.1 c.if-not-marks-w.true, inv.2.proper.small))

pub loop-w-preserved-then-not-marks-w : goal.loop-w-preserved-then-not-marks-w
loop-w-preserved-then-not-marks-w g c =
    let w = c.in-Some-w.w in
    let inv = c.loop-w.invariant in
    let turn = turn_at g.G.Digraph.model c.loop-w.w-iterator.from (Some w) _ inv.0 inv.1 c.in-Some-w.ensures.steps.2 in
    let new = c.if-not-marks-w.true in (
      ap (λ i. i.now) c.in-Some-w.ensures.steps.0 ∙ inv.0,
      c.in-Some-w.ensures.steps.1 ∙ inv.1,
      rw (turn.1, c.push-then-not-marks-w.ensures.items) (putting _ c.args.s c.loop-w.waiting.items c.loop-w.marks c.in-Some.u _ inv.2 w inv.3 turn.0 new),
      inv.3,
      omega (arith, inv.4, more _ c.args.s c.loop-w.waiting.items c.loop-w.marks _ _ inv.2 w turn.0.1 new, c.push-then-not-marks-w.ensures.len),
    )

pub loop-w-preserved : goal.loop-w-preserved
loop-w-preserved g c =
    let w = c.in-Some-w.w in
    let inv = c.loop-w.invariant in
    let turn = turn_at g.G.Digraph.model c.loop-w.w-iterator.from (Some w) _ inv.0 inv.1 c.in-Some-w.ensures.steps.2 in (
      ap (λ i. i.now) c.in-Some-w.ensures.steps.0 ∙ inv.0,
      c.in-Some-w.ensures.steps.1 ∙ inv.1,
      rw turn.1 (knowing _ c.args.s c.loop-w.waiting.items c.loop-w.marks c.in-Some.u _ inv.2 w turn.0 c.if-not-marks-w.false),
      inv.3,
      inv.4,
    )

pub returns-in_default : goal.returns-in_default
returns-in_default g c = search (rules, ending, none_left)
