use Rattle.search.proofs.Traces.{no_cycle_where_rising_lem}
use Rattle.search.proofs.tracing.no_cycle_where_rising.Goals as goal

pub returns : goal.returns
returns c = no_cycle_where_rising_lem
