use Rattle.labels.proofs.Example.{example_meets_rules_lem}
use Rattle.labels.proofs.theorems.example_meets_rules.Goals as goal

pub returns-clause-met : goal.returns-clause-met
returns-clause-met c = example_meets_rules_lem
