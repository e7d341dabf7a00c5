-- The permitted forms of a line, and what `parse_line` answers. Assumes nothing.
use Rattle.std.specs.Prelude.{◌≡◌, ℕ, ◌^◌, ◌<◌, ◌↔◌, List, ◌∷◌, ◌++◌, Some, None, codes, decimal, Option}
use Rattle.lines.specs.declared.Line.{Line}
use Rattle.lines.specs.declared.Line.TheVariants.{Library, Papers, Arc, End, Ask, Trace, Under}

-- the byte between two numbers
abbrev pub comma : ℕ
comma = 44

-- two numbers in decimal, without leading zeros, and the comma between them
abbrev pub decimal_pair : ℕ → ℕ → List ℕ
decimal_pair m n = decimal m ++ comma ∷ decimal n

-- the bytes of a line, without its line feed
abbrev pub written : Line → List ℕ
written (Library n) = codes "library=" ++ decimal n
written (Papers n) = codes "papers=" ++ decimal n
written (Arc u v) = codes "arc=" ++ decimal_pair u v
written (End n) = codes "end=" ++ decimal n
written (Ask s t) = codes "ask=" ++ decimal_pair s t
written (Trace s t) = codes "trace=" ++ decimal_pair s t
written (Under s) = codes "under=" ++ decimal s

-- each number of a line is at most 65,535
abbrev pub Fits : Line → Type 0
Fits (Library n) = n < 2 ^ 16
Fits (Papers n) = n < 2 ^ 16
Fits (Arc u v) = (u < 2 ^ 16) × (v < 2 ^ 16)
Fits (End n) = n < 2 ^ 16
Fits (Ask s t) = (s < 2 ^ 16) × (t < 2 ^ 16)
Fits (Trace s t) = (s < 2 ^ 16) × (t < 2 ^ 16)
Fits (Under s) = s < 2 ^ 16

-- bytes are the permitted form of the line l
pub record Writes (bytes : List ℕ) (l : Line) : Type 0 where
  pub fits : Fits l
  pub text : bytes ≡ written l

-- bytes are the permitted form of no line
abbrev pub WritesNone : List ℕ → Type 0
WritesNone bytes = (l : Line) → Writes bytes l → ⊥

-- what bytes parse to: `Some l` exactly when they are the form of l, `None` exactly when they are the form of no line
-- (from left to right the answer is sound, and from right to left it is complete)
pub record ParsesTo (bytes : List ℕ) (answer : Option Line) : Type 0 where
  pub some : (l : Line) → (answer ≡ Some l) ↔ Writes bytes l
  pub none : (answer ≡ None) ↔ WritesNone bytes
