use Rattle.std.proofs.Common.{rules, arith}
use Rattle.std.proofs.lemmas.Result.{err_from_is_err_and}
use Rattle.collection.specs.Runs.{refused, unanswered, no_room}
use Rattle.collection.proofs.reading.take_line.Goals as goal

pub returns-in_err-step-clause-done : goal.returns-in_err-step-clause-done
returns-in_err-step-clause-done g c = search (rules, refused)

pub returns-in_err-answer-clause-done : goal.returns-in_err-answer-clause-done
returns-in_err-answer-clause-done g c = search (rules, unanswered)

pub returns-in_err-append-clause-done : goal.returns-in_err-append-clause-done
returns-in_err-append-clause-done g c =
    let p = err_from_is_err_and c.from_residual-in_err-append.result c.from_residual-in_err-append.ensures.1 in
    let b = c.in_err-append.ensures.appends in
    let size = c.requires.size in
    rw (p.1, p.2) (
      no_room _ _ c.as_slice.result.now c.in_ok-step.ensures.moves (rw c.as_slice.ensures.bytes c.in_ok-answer.ensures) (λ fits. omega (arith, b.0)),
      b.1,
      b.2,
    )
