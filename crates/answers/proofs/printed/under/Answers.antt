use Rattle.answers.specs.Texts.{Gains}
use Rattle.answers.specs.Printed.{under_line}
use Rattle.answers.proofs.Room.{gains_then, gained, gained_whole, under_short}
use Rattle.answers.proofs.printed.under.Goals as goal

pub returns : goal.returns
returns c =
    let all : Gains c.new-line.result (under_line c.args.s c.args.list.now) _ =
    gains_then c.field.ensures (gains_then c.field-2.ensures (gains_then c.text.ensures (gains_then c.list.ensures c.text-2.ensures))) in
    record {
      front = gained c.new-line.ensures all;
      whole = λ few small. gained_whole _ (under_short c.args.s c.args.list.now c.ranges.s.fits few small) c.new-line.ensures all;
    }
