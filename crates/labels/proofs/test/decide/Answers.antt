use Rattle.labels.specs.Lawful.{lawful_answer}
use Rattle.labels.proofs.test.decide.Goals as goal

pub returns-clause-right : goal.returns-clause-right
returns-clause-right g c =
    let x = c.args.test.now in
    lawful_answer (g.T.Test.judges x) (g.met.T.Test.lawful x) c.args.s.vertex c.args.t.vertex c.args.s.label c.args.t.label c.judge.result c.judge.ensures
