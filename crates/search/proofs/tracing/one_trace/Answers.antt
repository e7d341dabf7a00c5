use Rattle.search.proofs.Traces.{trace_one}
use Rattle.search.proofs.tracing.one_trace.Goals as goal

pub returns : goal.returns
returns c g s t p q a b = trace_one g t a b
