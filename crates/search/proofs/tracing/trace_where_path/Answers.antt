use Rattle.search.proofs.Traces.{trace_where_path_lem, trace_reaches}
use Rattle.search.proofs.tracing.trace_where_path.Goals as goal

pub returns : goal.returns
returns c g k n s t b = (trace_where_path_lem g k n s t b, λ p r. trace_reaches g t r)
