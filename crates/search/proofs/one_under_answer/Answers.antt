use Rattle.search.proofs.Determined.{one_under_answer_lem}
use Rattle.search.proofs.one_under_answer.Goals as goal

pub returns : goal.returns
returns c = one_under_answer_lem
