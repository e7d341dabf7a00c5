use Rattle.std.proofs.Common.{arith}
use Rattle.std.proofs.lemmas.Bool.{true_from_ne_false}
use Rattle.graph.specs.Square.{at}
use Rattle.graph.proofs.Bits.{absent_room}
use Rattle.graph.proofs.matrix.calls.limit_only_when_complete.Goals as goal

pub returns : goal.returns
returns c x full u v lu lv ne = true_from_ne_false _ (λ f. omega (arith, absent_room (at x.rows) x.count u v x.small lu lv ne f x.apart))
