use Rattle.std.proofs.Common.{arith}
use Rattle.answers.proofs.Room.{gains_then, gained_whole, fault_short}
use Rattle.answers.proofs.printed.fault.Goals as goal

pub returns : goal.returns
returns c =
    gained_whole _ (omega (arith, fault_short c.args.number c.args.at c.ranges.number.fits c.ranges.at.fits)) c.new-line.ensures
    (gains_then c.field.ensures (gains_then c.field-2.ensures c.text.ensures))
