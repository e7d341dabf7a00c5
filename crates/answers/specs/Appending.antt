-- The output, and what an append does to it. Assumes nothing.
use Rattle.std.specs.Prelude.{◌≡◌, ℕ, ◌+◌, ◌<◌, ◌≤◌, List, ◌++◌, length, take, drop, Ok, Err, Result}
use Rattle.answers.specs.declared.output.Output.{Output}
use Rattle.answers.specs.declared.output.NoRoom.{NoRoom}

-- all bytes of the output
abbrev pub whole : Output → List ℕ
whole o = o.bytes.now

-- the bytes that are written
abbrev pub text_of : Output → List ℕ
text_of o = take o.used (whole o)

-- the bytes past them
abbrev pub beyond : Output → List ℕ
beyond o = drop o.used (whole o)

-- p is o with the bytes xs behind what was written, and the bytes past those as they were
pub record Grows (o : Output) (xs : List ℕ) (p : Output) : Type 0 where
  pub used : p.used ≡ o.used + length xs
  pub text : text_of p ≡ text_of o ++ xs
  pub past : beyond p ≡ drop (length xs) (beyond o)

-- appending xs so that n bytes are free after it: written whole, or refused with nothing changed
abbrev pub Appended : Output → List ℕ → ℕ → Result (Unit {0}) NoRoom → Output → Type 0
Appended o xs n (Ok u) p = (o.used + length xs + n ≤ length (whole o)) × Grows o xs p
Appended o xs n (Err e) p = (length (whole o) < o.used + length xs + n) × (p.used ≡ o.used) × (whole p ≡ whole o)
