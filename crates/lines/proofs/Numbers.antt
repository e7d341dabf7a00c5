-- A number in decimal: its bytes, and what the tests of `parse_number` say of them. Assumes nothing.
use Rattle.std.proofs.Common.{◌≡◌, ℕ, ◌+◌, ◌-◌, ◌*◌, ◌^◌, ◌<◌, ◌≤◌, List, length, get_or, take, Ok, Err, decimal, Result, sym, ap, ◌∙◌, subst, ⊎_elim, arith, MatchOption}
use Rattle.std.specs.List.{All}
use Rattle.std.proofs.lemmas.Str.Parse.{tells_by_index}
use Rattle.std.proofs.lemmas.List.Elements.{All-from_get_or}
use Rattle.std.specs.Result.{OkIff, result_ok}
use Rattle.std.specs.Str.Parse.{digits_value, AllDigits}
use Rattle.std.specs.Int.{IsInRange}
use Rattle.std.specs.Char.{digit_value as digitValue}
use Rattle.std.proofs.lemmas.Str.Parse.{IsNumeralModel, numerals_by_value, tells_digits, digit_at, digits_value_short}
use Rattle.std.proofs.lemmas.Fmt.{decimal-digits_value, digits_decimal, digits_value-decimal, decimal_nonempty, length-decimal-le, first_decimal, decimal_digit, decimal_injective}
use Rattle.std.proofs.lemmas.Int.Digits.{digits_value_more, digits_more}
use Rattle.std.proofs.lemmas.Str.{digit_value_digit}
use Rattle.std.proofs.lemmas.Bool.{cases_lt}
use Rattle.lines.specs.Parts.{Lacks, WritesNumber}
use Rattle.lines.proofs.Splits.{lacks_outside}

base_ten : IsNumeralModel (AllDigits 10) (digits_value 10)
base_ten = numerals_by_value (AllDigits 10) tells_digits

-- a number is written with digits alone
pub decimal_digits : (n : ℕ) → n < 2 ^ 16 → All (IsInRange 48 57) (decimal n)
decimal_digits n h = All-from_get_or (IsInRange 48 57) (decimal n) 0 (digits_decimal (numerals_by_value _ tells_by_index) n (omega arith))

-- so a number lacks every other byte
pub decimal_lacks : (n b : ℕ) → n < 2 ^ 16 → (48 ≤ b → b ≤ 57 → ⊥) → Lacks (decimal n) b
decimal_lacks n b h o = lacks_outside 48 57 b (decimal n) (decimal_digits n h) (λ p. o p.0 p.1)

-- a number has five digits at most
pub decimal_short : (n : ℕ) → n < 2 ^ 16 → length (decimal n) ≤ 5
decimal_short n h = length-decimal-le 5 n (omega arith) (omega arith) (omega arith)

pub same_number : (m n : ℕ) → m < 2 ^ 16 → n < 2 ^ 16 → decimal m ≡ decimal n → m ≡ n
same_number m n h l e = decimal_injective m n (omega arith) (omega arith) e

module _ (s : List ℕ) (n : ℕ) (w : WritesNumber s n) where
  fits_64 : n < 2 ^ 64
  fits_64 = omega (arith, w.fits)

  pub not_empty : length s ≡ 0 → ⊥
  not_empty e = omega (arith, decimal_nonempty n fits_64, ap length w.text)

  pub not_long : 5 < length s → ⊥
  not_long h = omega (arith, decimal_short n w.fits, ap length w.text)

  pub not_padded : (1 < length s) × (get_or s 0 0 ≡ 48) → ⊥
  not_padded q =
      let h = q.0 in
      let z = q.1 in
      ⊎_elim (λ p. omega (arith, first_decimal n p fits_64, ap (λ t. get_or t 0 0) w.text))
      (λ p. let e : n ≡ 0 = omega arith in omega (arith, ap length (w.text ∙ ap decimal e ∙ decimal_digit 0 (omega arith))))
      (cases_lt 0 n)

  digits : AllDigits 10 s
  digits = subst (AllDigits 10) (sym w.text) (digits_decimal base_ten n fits_64)

  pub all_digits : (i : ℕ) → i < length s → IsInRange 48 57 (get_or s i 0)
  all_digits i h = digit_at s i digits h

  has_value : digits_value 10 s ≡ n
  has_value = ap (digits_value 10) w.text ∙ digits_value-decimal base_ten n fits_64

-- what the loop keeps, at the next digit
digit_value : (c : ℕ) → IsInRange 48 57 c → digitValue c ≡ c - 48
digit_value c h = let e = digit_value_digit c h in omega arith

pub value_step : (s : List ℕ) (i n : ℕ) → i < length s → n ≡ digits_value 10 (take i s) → IsInRange 48 57 (get_or s i 0) → n * 10 + (get_or s i 0 - 48) ≡ digits_value 10 (take (i + 1) s)
value_step s i n h e d = let v = digits_value_more 10 s i h in let x = digit_value (get_or s i 0) d in omega arith

pub digits_step : (s : List ℕ) (i : ℕ) → i < length s → AllDigits 10 (take i s) → IsInRange 48 57 (get_or s i 0) → AllDigits 10 (take (i + 1) s)
digits_step s i h e d = let x = digit_value (get_or s i 0) d in digits_more 10 s i h e (omega arith)

pub five_digits : (s : List ℕ) → AllDigits 10 s → length s ≤ 5 → digits_value 10 s < 100000
five_digits s d h = digits_value_short base_ten s 5 d h

-- digits without a leading zero write their value
writes_value : (s : List ℕ) → AllDigits 10 s → 0 < length s → ((1 < length s) × (get_or s 0 0 ≡ 48) → ⊥) → digits_value 10 s < 2 ^ 16 → WritesNumber s (digits_value 10 s)
writes_value s d some lead fits =
    let alone : get_or s 0 0 ≡ 48 → length s ≡ 1 = λ z. ⊎_elim (λ p. absurd (lead (p, z))) (λ p. omega arith) (cases_lt 1 (length s)) in
    record { fits = fits; text = sym (decimal-digits_value base_ten s d some alone (omega arith)) }

-- what `parse_number` answers of digits of the value n: n, where 16 bits hold it
module _ {E : Type 0} (s : List ℕ) (n : ℕ) (v : n ≡ digits_value 10 s) (d : AllDigits 10 s) (some : 0 < length s) (lead : (1 < length s) × (get_or s 0 0 ≡ 48) → ⊥) where
  pub in_16_bits : (r : Result ℕ E) → OkIff r (n < 2 ^ 16) n → MatchOption (result_ok r) ((m : ℕ) → WritesNumber s m → ⊥) (WritesNumber s)
  in_16_bits (Ok x) h = subst (WritesNumber s) (sym (h.1 ∙ v)) (writes_value s d some lead (omega (arith, h.0)))
  in_16_bits (Err e) h = λ m w. h (omega (arith, has_value s m w, w.fits))
