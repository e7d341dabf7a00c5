use Rattle.asking.proofs.Determined.{one_answer_lem}
use Rattle.asking.proofs.oracle.one_answer.Goals as goal

pub returns : goal.returns
returns c = one_answer_lem
