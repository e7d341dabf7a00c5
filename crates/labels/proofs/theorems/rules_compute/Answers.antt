use Rattle.labels.proofs.Agree.{rules_compute_lem}
use Rattle.labels.proofs.theorems.rules_compute.Goals as goal

pub returns : goal.returns
returns c = rules_compute_lem
