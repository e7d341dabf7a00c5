-- The parts of a line: its keyword, and the numbers that follow. Assumes nothing.
use Rattle.std.specs.Prelude.{◌≡◌, ℕ, ◌^◌, ◌<◌, List, ◌∷◌, ◌++◌, length, decimal, ◌≢◌, slice_index}
use Rattle.lines.specs.Forms.{decimal_pair}

-- the byte between the keyword and what follows
abbrev pub equals_sign : ℕ
equals_sign = 61

-- the bytes of a line with word before the sign and value after it
abbrev pub form : List ℕ → List ℕ → List ℕ
form word value = word ++ equals_sign ∷ value

-- the byte b stands nowhere in bytes
abbrev pub Lacks : List ℕ → ℕ → Type 0
Lacks bytes b = (k : ℕ) → k < length bytes → slice_index bytes k ≢ b

-- front and back are what stands before and after the first b in bytes
pub record SplitsAt (bytes : List ℕ) (b : ℕ) (front back : List ℕ) : Type 0 where
  pub whole : bytes ≡ front ++ b ∷ back
  pub first : Lacks front b

-- bytes are n in decimal, without leading zeros, and n is at most 65,535
pub record WritesNumber (bytes : List ℕ) (n : ℕ) : Type 0 where
  pub fits : n < 2 ^ 16
  pub text : bytes ≡ decimal n

-- bytes are m, a comma and n, both in decimal and at most 65,535
pub record WritesPair (bytes : List ℕ) (m n : ℕ) : Type 0 where
  pub fits_m : m < 2 ^ 16
  pub fits_n : n < 2 ^ 16
  pub text : bytes ≡ decimal_pair m n
