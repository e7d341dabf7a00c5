use Rattle.std.proofs.Common.{◌≡◌, ◌<◌, take}
use Rattle.std.specs.Str.Parse.{digits_value, AllDigits}
use Rattle.lines.proofs.parse_number.Given as goal

abbrev pub invariant-loop-digit : goal.invariant-loop-digit
invariant-loop-digit l = (l.n ≡ digits_value 10 (take l.digit-index l.bytes)) × AllDigits 10 (take l.digit-index l.bytes) × (l.n < 100000)
