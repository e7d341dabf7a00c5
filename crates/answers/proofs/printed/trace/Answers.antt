use Rattle.std.proofs.Common.{sym}
use Rattle.answers.specs.Texts.{Gains}
use Rattle.answers.specs.Printed.{path_text, trace_line}
use Rattle.answers.proofs.Room.{gains_then, gains_pair, gained, gained_whole, gains_path_none, gains_path_some, trace_short}
use Rattle.answers.proofs.printed.trace.Goals as goal
use Rattle.answers.proofs.printed.trace.Goals.{then-is_empty, else-is_empty}

path : (c : goal.After-text-3) → Gains c.text-2.new.self (path_text c.args.path.now) c.if-is_empty.line
path c =
    elim c.if-is_empty.branch [
      | then-is_empty w ↦ rw w.line-is (gains_path_none _ (sym w.if-is_empty.ensures) w.text-then-is_empty.ensures)
      | else-is_empty w ↦ rw w.line-is (gains_path_some _ (sym w.if-is_empty.ensures) w.list-else-is_empty.ensures)
    ]

pub returns : goal.returns
returns c =
    let all : Gains c.new-line.result (trace_line c.args.s c.args.t c.args.path.now) _ =
    gains_then c.text.ensures (gains_then (gains_pair _ _ c.list.ensures) (gains_then c.field.ensures (gains_then c.text-2.ensures (gains_then (path c) c.text-3.ensures)))) in
    record {
      front = gained c.new-line.ensures all;
      whole = λ few small. gained_whole _ (trace_short c.args.s c.args.t c.args.path.now c.ranges.s.fits c.ranges.t.fits few small) c.new-line.ensures all;
    }
