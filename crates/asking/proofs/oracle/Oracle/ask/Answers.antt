use Rattle.std.proofs.Common.{[], refl, arith}
use Rattle.labels.specs.Labels.{label_at}
use Rattle.asking.proofs.Verdicts.{found_right}
use Rattle.asking.proofs.oracle.Oracle.ask.Goals as goal

pub returns-in-Some-clause-right : goal.returns-in-Some-clause-right
returns-in-Some-clause-right g c = λ supports rules.
    found_right _ (g.met.G.Digraph.proper c.args.self.now.graph.now) (g.T.Test.judges c.args.self.now.test.now) (g.met.T.Test.lawful c.args.self.now.test.now)
    (label_at c.args.self.now.labels.now) supports rules c.args.t (omega (arith, c.in_ok-check_question.ensures.vertices)) c.args.s c.from.result [] (omega (arith, c.in_ok-check_question.ensures.vertices))
    (rw (← c.in-Some.ensures, c.from.ensures) (refl, refl, refl))

pub returns-clause-right : goal.returns-clause-right
returns-clause-right g c = λ supports rules.
    found_right _ (g.met.G.Digraph.proper c.args.self.now.graph.now) (g.T.Test.judges c.args.self.now.test.now) (g.met.T.Test.lawful c.args.self.now.test.now)
    (label_at c.args.self.now.labels.now) supports rules c.args.t (omega (arith, c.in_ok-check_question.ensures.vertices)) c.args.s c.search.result _ (omega (arith, c.in_ok-check_question.ensures.vertices)) c.search.ensures.found
