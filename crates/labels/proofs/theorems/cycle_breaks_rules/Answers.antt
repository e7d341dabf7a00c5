use Rattle.labels.specs.Facts as fact
use Rattle.labels.proofs.theorems.cycle_breaks_rules.Goals as goal

pub returns : goal.returns
returns c g proper cycle labels supports rules = fact.acyclic g proper labels supports rules cycle
