use Rattle.lines.proofs.Pairs.{no_pair, pair_parts}
use Rattle.lines.proofs.parse_pair.Goals as goal

pub returns-in_err-m : goal.returns-in_err-m
returns-in_err-m c = rw c.from_residual.ensures (no_pair c.args.bytes.now c.in_err-m.ensures)

pub returns-in_err-parse_number : goal.returns-in_err-parse_number
returns-in_err-parse_number c =
    rw c.from_residual-in_err-parse_number.ensures
    (λ m n w. c.in_err-parse_number.ensures m (pair_parts _ _ _ c.in_ok-m.ensures m n w).0)

pub returns-in_err-parse_number-2 : goal.returns-in_err-parse_number-2
returns-in_err-parse_number-2 c =
    rw c.from_residual-in_err-parse_number-2.ensures
    (λ m n w. c.in_err-parse_number-2.ensures n (pair_parts _ _ _ c.in_ok-m.ensures m n w).1)
