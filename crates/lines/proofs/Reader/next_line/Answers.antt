use Rattle.std.proofs.Common.{sym, refl}
use Rattle.std.proofs.lemmas.Result.{err_from_is_err_and}
use Rattle.std.proofs.lemmas.Bool.{eqb-false}
use Rattle.lines.proofs.LineFeeds.{begins_with_none_unended, begins_with_none_ill}
use Rattle.lines.proofs.Reader.next_line.Goals as goal

pub returns-in_err-bytes : goal.returns-in_err-bytes
returns-in_err-bytes c =
    let error = err_from_is_err_and c.from_residual.result c.from_residual.ensures.1 in
    let lacks = rw c.in_err-bytes.ensures.ok_part at c.split_at_first.ensures in
    rw error.1 (begins_with_none_unended _ (eqb-false _ 0 (sym c.if-is_empty.ensures)) lacks, refl)

pub returns-in_err-line : goal.returns-in_err-line
returns-in_err-line c =
    let error = err_from_is_err_and c.from_residual-in_err-line.result c.from_residual-in_err-line.ensures.1 in
    let parts = rw c.in_ok-bytes.ensures.ok_part at c.split_at_first.ensures in
    rw error.1 (begins_with_none_ill _ _ _ (eqb-false _ 0 (sym c.if-is_empty.ensures)) parts (c.parse_line.ensures.none.0 c.in_err-line.ensures.ok_part), refl)
