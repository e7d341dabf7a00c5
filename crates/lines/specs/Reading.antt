-- An input that is read line by line. Assumes nothing.
use Rattle.std.specs.Prelude.{◌≡◌, ℕ, ◌<◌, List, [], ◌∷◌, ◌++◌, length, Some, None, Ok, Err, Option, Result}
use Rattle.lines.specs.declared.Line.{Line}
use Rattle.lines.specs.declared.NoForm.{NoForm}
use Rattle.lines.specs.declared.Reader.{Reader}
use Rattle.lines.specs.Forms.{written, Fits}

-- the byte that ends a line
abbrev pub line_feed : ℕ
line_feed = 10

-- what a reader has yet to read
abbrev pub unread : Reader → List ℕ
unread r = r.rest.now

-- input is the line l in its permitted form, then a line feed, then rest
pub record BeginsWith (input : List ℕ) (l : Line) (rest : List ℕ) : Type 0 where
  pub fits : Fits l
  pub text : input ≡ written l ++ line_feed ∷ rest

-- something stands in input, and it begins with no line and line feed
pub record BeginsWithNone (input : List ℕ) : Type 0 where
  pub nonempty : 0 < length input
  pub none : (l : Line) (rest : List ℕ) → BeginsWith input l rest → ⊥

-- what a step of a reader answers where before is unread, and what it leaves unread after
abbrev pub Steps : List ℕ → Result (Option Line) NoForm → List ℕ → Type 0
Steps before (Ok None) after = (before ≡ []) × (after ≡ before)
Steps before (Ok (Some l)) after = BeginsWith before l after
Steps before (Err e) after = BeginsWithNone before × (after ≡ before)
