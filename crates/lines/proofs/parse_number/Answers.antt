use Rattle.std.proofs.Common.{refl, ◌≡◌, ◌+◌, ◌*◌, ◌<◌, length, get_or, take, sym, ap, ◌∙◌, subst, ⊎_elim, arith, rules}
use Rattle.std.specs.Str.Parse.{digits_value, AllDigits}
use Rattle.std.specs.Int.{IsInRange}
use Rattle.std.proofs.lemmas.List.{take_all, length-take}
use Rattle.std.proofs.lemmas.Bool.{eqb-true, eqb-false}
use Rattle.lines.proofs.Numbers.{not_empty, not_long, not_padded, all_digits, value_step, digits_step, five_digits, in_16_bits}
use Rattle.lines.proofs.parse_number.Goals as goal

pub returns-then-is_empty : goal.returns-then-is_empty
returns-then-is_empty c n w =
    ⊎_elim (λ e. not_empty c.args.bytes.now n w (eqb-true _ _ (sym c.is_empty.ensures ∙ e)))
    (λ p. not_long c.args.bytes.now n w p.1) c.then-is_empty.either

pub returns-then-has_leading_zero : goal.returns-then-has_leading_zero
returns-then-has_leading_zero c n w = not_padded c.args.bytes.now n w (c.if-has_leading_zero.ensures.0 refl)

pub returns-then-not-is_ascii_digit : goal.returns-then-not-is_ascii_digit
returns-then-not-is_ascii_digit c n w =
    let d = all_digits c.args.bytes.now n w c.loop-digit.digit-index c.loop-digit-test.true in
    let o = c.if-not-is_ascii_digit.ensures.cases in
    search rules

pub loop-digit-preserved : goal.loop-digit-preserved
loop-digit-preserved c =
    let s = c.args.bytes.now in
    let i = c.loop-digit.digit-index in
    let d : IsInRange 48 57 (get_or s i 0) = c.if-not-is_ascii_digit.ensures.cases in
    let v : c.loop-digit.n * 10 + c.from.result ≡ digits_value 10 (take (i + 1) s) = ap (λ x. c.loop-digit.n * 10 + x) c.from.ensures ∙ value_step s i c.loop-digit.n c.loop-digit-test.true c.loop-digit.invariant.0 d in
    let ds = digits_step s i c.loop-digit-test.true c.loop-digit.invariant.1 d in
    let short = five_digits (take (i + 1) s) ds (omega (arith, length-take (i + 1) s)) in
    (v, ds, omega arith)

pub returns : goal.returns
returns c =
    let s = c.args.bytes.now in
    let all = take_all c.loop-digit.digit-index s c.loop-digit-test.false in
    let some : 0 < length s = omega (arith, eqb-false (length s) 0 (sym c.if-is_empty.ensures)) in
    rw c.ok.ensures.value
    (in_16_bits s c.loop-digit.n (c.loop-digit.invariant.0 ∙ ap (digits_value 10) all) (subst (AllDigits 10) all c.loop-digit.invariant.1) some (λ q. let yes = c.if-has_leading_zero.ensures.1 q in cc) c.try_from.result c.try_from.ensures)
