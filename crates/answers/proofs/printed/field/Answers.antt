use Rattle.answers.proofs.Room.{gains_then}
use Rattle.answers.proofs.printed.field.Goals as goal

pub returns : goal.returns
returns g c = gains_then c.text.ensures c.number.ensures
