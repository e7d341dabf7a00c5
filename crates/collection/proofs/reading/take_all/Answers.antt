use Rattle.std.proofs.Common.{◌∙◌, rules}
use Rattle.std.proofs.lemmas.Result.{err_from_is_err_and}
use Rattle.collection.proofs.Lines.{line_taken, line_stopped, form_fails, file_ends, file_stops}
use Rattle.collection.proofs.reading.take_all.Goals as goal

pub returns-in_err-line-clause-done : goal.returns-in_err-line-clause-done
returns-in_err-line-clause-done g c =
    let p = err_from_is_err_and c.from_residual.result c.from_residual.ensures.1 in
    let b = c.in_err-line.ensures in
    form_fails c.loop-line.invariant.0 _ _ _ _ p.0 c.next_line.ensures b.0 p.1 p.2.0 (p.2.1 ∙ b.1)

pub returns-in_err-on-clause-done : goal.returns-in_err-on-clause-done
returns-in_err-on-clause-done g c =
    let p = err_from_is_err_and c.from_residual-in_err-on.result c.from_residual-in_err-on.ensures.1 in
    let s = c.in_err-on.ensures in
    line_stopped c.loop-line.invariant.0 c.in-Some.line _ c.take_line.new.machine _ c.take_line.new.out _ c.take_line.result _ _ p.0
    c.loop-line.invariant.1 s.0 p.1 p.2.0 (p.2.1 ∙ s.1) (rw (c.in_ok-line.ensures, c.in-Some.is) at c.next_line.ensures) c.take_line.ensures.done

pub loop-line-preserved : goal.loop-line-preserved
loop-line-preserved g c = (
  line_taken c.loop-line.invariant.0 c.in-Some.line _ c.take_line.new.machine _ c.take_line.new.out _ c.take_line.result c.loop-line.invariant.1 c.in_ok-on.ensures
      (rw (c.in_ok-line.ensures, c.in-Some.is) at c.next_line.ensures) c.take_line.ensures.done c.take_line.ensures.few,
  c.take_line.ensures.limit ∙ c.loop-line.invariant.1,
  c.take_line.ensures.lent ∙ c.loop-line.invariant.2,
)

pub returns-then-eq-clause-done : goal.returns-then-eq-clause-done
returns-then-eq-clause-done g c =
    let h = c.if-eq.ensures in
    file_ends c.loop-line.invariant.0 (rw (c.in_ok-line.ensures, c.in_default.is) at c.next_line.ensures).0 (search rules)

pub returns-else-eq-clause-done : goal.returns-else-eq-clause-done
returns-else-eq-clause-done g c =
    let h = c.if-eq.ensures in
    file_stops c.loop-line.invariant.0 (rw (c.in_ok-line.ensures, c.in_default.is) at c.next_line.ensures).0 (search rules)
