use Rattle.std.proofs.Common.{◌≡◌, rules, arith}
use Rattle.lines.specs.Parts.{form}
use Rattle.lines.proofs.Forms.{no_sign, too_long, parses_to, parses_to_none}
use Rattle.lines.proofs.parse_line.Goals as goal

pub returns-then-bytes-gt-LONGEST : goal.returns-then-bytes-gt-LONGEST
returns-then-bytes-gt-LONGEST c = parses_to_none _ (too_long c.args.bytes.now (omega arith))

pub returns-in_err-word : goal.returns-in_err-word
returns-in_err-word c = rw c.from_residual.ensures (parses_to_none _ (no_sign _ c.in_err-word.ensures))

pub returns : goal.returns
returns c =
    let whole : c.args.bytes.now ≡ form c.in_ok-word.word.now c.in_ok-word.value.now = search rules in
    parses_to _ _ (rw whole c.parse_value.ensures)
