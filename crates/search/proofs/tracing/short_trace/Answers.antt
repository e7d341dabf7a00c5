use Rattle.search.proofs.Traces.{trace_short}
use Rattle.search.proofs.tracing.short_trace.Goals as goal

pub returns : goal.returns
returns c = trace_short
