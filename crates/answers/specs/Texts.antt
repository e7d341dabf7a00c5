-- Texts as lists of bytes. Assumes nothing.
use Rattle.std.specs.Prelude.{◌≡◌, ℕ, List, ◌++◌, take, codes, decimal}
use Rattle.std.specs.List.{join_by}

-- numbers in decimal, with commas between them
abbrev pub commas : List ℕ → List ℕ
commas = join_by decimal (codes ",")

-- the part of a text that a line buffer has room for: all of it up to 2560 bytes
unfoldable pub kept : List ℕ → List ℕ
kept xs = take 2560 xs

-- after holds what before held and the bytes xs behind it, as far as there is room
pub record Gains (before xs after : List ℕ) : Type 0 where
  pub is : after ≡ kept (before ++ xs)
