use Rattle.std.proofs.Common.{arith}
use Rattle.answers.proofs.Room.{gains_then, gains_pair, gained_whole, ask_short}
use Rattle.answers.proofs.printed.ask.Goals as goal

pub returns : goal.returns
returns c =
    gained_whole _ (omega (arith, ask_short c.args.s c.args.t c.args.verdict c.args.ground c.args.opened c.ranges.s.fits c.ranges.t.fits c.ranges.ground.fits c.ranges.opened.fits)) c.new-line.ensures
    (gains_then c.text.ensures (gains_then (gains_pair _ _ c.list.ensures) (gains_then c.text-2.ensures (gains_then (rw c.word.ensures at c.text-3.ensures) (gains_then c.field.ensures (gains_then c.field-2.ensures c.text-4.ensures))))))
