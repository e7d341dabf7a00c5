use Rattle.search.proofs.Determined.{one_trace_answer_lem}
use Rattle.search.proofs.tracing.one_trace_answer.Goals as goal

pub returns : goal.returns
returns c = one_trace_answer_lem
