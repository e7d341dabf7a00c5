use Rattle.std.proofs.Common.{rules, ◌≡◌, ◌+◌, [], ◌∷◌, ◌++◌, set, Some, None, refl, ap, ◌∙◌, arith, length-set}
use Rattle.graph.proofs.Turns.{turn_at}
use Rattle.labels.specs.declared.decision.Verdict.TheVariants.{Yes, No}
use Rattle.labels.specs.Labels.{label_at}
use Rattle.search.proofs.Lists.{none_left}
use Rattle.search.proofs.Listing.{rest_more}
use Rattle.asking.specs.Search.{between, told}
use Rattle.asking.proofs.Steps.{Holds, begins, opening, ending, leaving, finding, dropping, knowing, putting}
use Rattle.asking.proofs.Kept.{searched}
use Rattle.asking.proofs.oracle.Oracle.search.Goals as goal

pub search-init : goal.search-init
search-init g c =
    let tells = told (g.T.Test.judges c.args.self.now.test.now) (label_at c.args.self.now.labels.now) c.args.t in (
      rw (c.push.ensures.items, c.new-waiting.ensures)
          (begins _ tells c.args.s c.args.opened.now (g.met.G.Digraph.proper c.args.self.now.graph.now) c.requires.vertex),
      refl {a = c.args.opened.now},
    )

pub loop-w-init : goal.loop-w-init
loop-w-init g c =
    let tells = told (g.T.Test.judges c.args.self.now.test.now) (label_at c.args.self.now.labels.now) c.args.t in
    let of = c.of-w-items.ensures in
    let is = c.into_iter-w-iterator.ensures.into_iter_gives in
    let m = g.G.Digraph.model c.args.self.now.graph.now in
    let h : Holds m tells c.args.s between (c.pop.new.self.items ++ c.in-Some.u ∷ []) c.search.marks c.search.count c.search.opened =
    rw (← c.in-Some.ensures.items) c.search.invariant.0 in (
      ap (λ i. i.graph.now) is ∙ of.graph,
      ap (λ i. i.vertex) is ∙ of.vertex,
      rw (ap (λ i. i.from) is ∙ of.from) (opening m tells c.args.s c.pop.new.self.items c.search.marks c.search.count c.search.opened c.in-Some.u h (omega arith)),
    )

pub search-preserved : goal.search-preserved
search-preserved g c =
    let tells = told (g.T.Test.judges c.args.self.now.test.now) (label_at c.args.self.now.labels.now) c.args.t in
    let inv = c.loop-w.invariant in
    let turn = turn_at g.G.Digraph.model c.loop-w.w-iterator.from None _ inv.0 inv.1 c.in-None.ensures.steps.2 in (
      leaving {tells = tells} c.in-Some.u c.loop-w.w-iterator.from inv.2 turn.0,
      rest_more c.search.opened c.args.opened.now c.search.count c.in-Some.u c.search.invariant.1,
    )

pub loop-w-preserved-else-eq : goal.loop-w-preserved-else-eq
loop-w-preserved-else-eq g c =
    let tells = told (g.T.Test.judges c.args.self.now.test.now) (label_at c.args.self.now.labels.now) c.args.t in
    let inv = c.loop-w.invariant in
    let turn = turn_at g.G.Digraph.model c.loop-w.w-iterator.from (Some c.in-Some-w.w) _ inv.0 inv.1 c.in-Some-w.ensures.steps.2 in
    let no : c.in-Some-tell.decision.verdict ≡ No = search rules in (
      ap (λ i. i.now) c.in-Some-w.ensures.steps.0 ∙ inv.0,
      c.in-Some-w.ensures.steps.1 ∙ inv.1,
      rw turn.1 (dropping {tells = tells} c.in-Some.u c.loop-w.w-iterator.from inv.2 c.in-Some-w.w turn.0 c.in-Some-tell.decision c.in-Some-tell.ensures no),
    )

pub loop-w-preserved-then-not-marks-w : goal.loop-w-preserved-then-not-marks-w
loop-w-preserved-then-not-marks-w g c =
    let tells = told (g.T.Test.judges c.args.self.now.test.now) (label_at c.args.self.now.labels.now) c.args.t in
    let inv = c.loop-w.invariant in
    let turn = turn_at g.G.Digraph.model c.loop-w.w-iterator.from (Some c.in-Some-w.w) _ inv.0 inv.1 c.in-Some-w.ensures.steps.2 in (
      ap (λ i. i.now) c.in-Some-w.ensures.steps.0 ∙ inv.0,
      c.in-Some-w.ensures.steps.1 ∙ inv.1,
      rw (turn.1, c.push-then-not-marks-w.ensures.items)
          (putting {tells = tells} c.in-Some.u c.loop-w.w-iterator.from inv.2 c.in-Some-w.w turn.0 c.in_default-tell.ensures c.if-not-marks-w.true),
    )

pub loop-w-preserved : goal.loop-w-preserved
loop-w-preserved g c =
    let tells = told (g.T.Test.judges c.args.self.now.test.now) (label_at c.args.self.now.labels.now) c.args.t in
    let inv = c.loop-w.invariant in
    let turn = turn_at g.G.Digraph.model c.loop-w.w-iterator.from (Some c.in-Some-w.w) _ inv.0 inv.1 c.in-Some-w.ensures.steps.2 in (
      ap (λ i. i.now) c.in-Some-w.ensures.steps.0 ∙ inv.0,
      c.in-Some-w.ensures.steps.1 ∙ inv.1,
      rw turn.1 (knowing {tells = tells} c.in-Some.u c.loop-w.w-iterator.from inv.2 c.in-Some-w.w turn.0 c.in_default-tell.ensures c.if-not-marks-w.false),
    )

pub returns-in_default : goal.returns-in_default
returns-in_default g c =
    let tells = told (g.T.Test.judges c.args.self.now.test.now) (label_at c.args.self.now.labels.now) c.args.t in
    let inv = c.search.invariant in
    searched _ (g.met.G.Digraph.proper c.args.self.now.graph.now) tells c.args.s c.args.opened.now c.search.opened No c.search.count c.searched.result
    c.requires.vertex c.requires.untold
    (ending {tells = tells} inv.0 (none_left _ c.in_default.ensures.variant.1)) (omega (arith, inv.0.room)) (omega arith) inv.1 c.searched.ensures

pub returns-then-eq : goal.returns-then-eq
returns-then-eq g c =
    let tells = told (g.T.Test.judges c.args.self.now.test.now) (label_at c.args.self.now.labels.now) c.args.t in
    let inv = c.loop-w.invariant in
    let turn = turn_at g.G.Digraph.model c.loop-w.w-iterator.from (Some c.in-Some-w.w) _ inv.0 inv.1 c.in-Some-w.ensures.steps.2 in
    let yes : c.in-Some-tell.decision.verdict ≡ Yes = search rules in
    let opened = set c.search.opened c.search.count c.in-Some.u in
    searched _ (g.met.G.Digraph.proper c.args.self.now.graph.now) tells c.args.s c.args.opened.now opened Yes (c.search.count + 1) c.searched-then-eq.result
    c.requires.vertex c.requires.untold
    (finding {tells = tells} c.in-Some.u c.loop-w.w-iterator.from inv.2 c.in-Some-w.w turn.0 c.in-Some-tell.decision c.in-Some-tell.ensures yes)
    (omega (arith, inv.2.room)) (omega (arith, inv.2.room, length-set c.search.opened c.search.count c.in-Some.u))
    (rest_more c.search.opened c.args.opened.now c.search.count c.in-Some.u c.search.invariant.1) c.searched-then-eq.ensures
