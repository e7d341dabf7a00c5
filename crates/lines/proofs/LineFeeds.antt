-- No line has a line feed in its form, so a line is what stands before the first. Assumes nothing.
use Rattle.std.proofs.Common.{ℕ, List, length, ◌≢◌, sym, ◌∙◌, subst, arith, ◌^◌, ◌<◌, decimal, ◌≡◌, true, ◌++◌}
use Rattle.lines.specs.declared.Line.{Line}
use Rattle.lines.specs.Forms.{written, Fits, WritesNone, comma, decimal_pair}
use Rattle.lines.specs.Parts.{Lacks, SplitsAt}
use Rattle.lines.specs.Reading.{line_feed, BeginsWith, BeginsWithNone}
use Rattle.lines.proofs.Splits.{same_split, not_lacked, lacks_outside, lacks_cons, lacks_append, lacking, lacks_by_test}
use Rattle.lines.proofs.Forms.{written_bytes}
use Rattle.lines.proofs.Numbers.{decimal_lacks}

pub number_lacks : (n : ℕ) → n < 2 ^ 16 → Lacks (decimal n) line_feed
number_lacks n h = decimal_lacks n line_feed h (λ l u. omega arith)

-- a word that lacks the line feed lacks it with a number behind it, and with two
pub one_number : (word : List ℕ) → lacking line_feed word ≡ true → (n : ℕ) → n < 2 ^ 16 → Lacks (word ++ decimal n) line_feed
one_number word e n h = lacks_append line_feed word (decimal n) (lacks_by_test line_feed word e) (number_lacks n h)

pub two_numbers : (word : List ℕ) → lacking line_feed word ≡ true → (m n : ℕ) → (m < 2 ^ 16) × (n < 2 ^ 16) → Lacks (word ++ decimal_pair m n) line_feed
two_numbers word e m n h =
    lacks_append line_feed word _ (lacks_by_test line_feed word e)
    (lacks_append line_feed (decimal m) _ (number_lacks m h.0) (lacks_cons line_feed comma (decimal n) (λ q. omega arith) (number_lacks n h.1)))

form_lacks : (l : Line) → Fits l → Lacks (written l) line_feed
form_lacks l f = lacks_outside 44 122 line_feed (written l) (written_bytes l f) (λ p. omega arith)

-- bytes with no line feed begin with no line, and so do bytes whose first part, up to it, is none
pub no_line_feed : (input : List ℕ) → Lacks input line_feed → (l : Line) (rest : List ℕ) → BeginsWith input l rest → ⊥
no_line_feed input p l rest b = not_lacked line_feed (written l) rest (subst (λ t. Lacks t line_feed) b.text p)

pub no_form : (input front back : List ℕ) → SplitsAt input line_feed front back → WritesNone front → (l : Line) (rest : List ℕ) → BeginsWith input l rest → ⊥
no_form input front back p n l rest b =
    let e = same_split line_feed front (written l) back rest p.first (form_lacks l b.fits) (sym p.whole ∙ b.text) in
    n l (record { fits = b.fits; text = e.0 })

-- the same, where the input is not at its end
pub begins_with_none_unended : (input : List ℕ) → length input ≢ 0 → Lacks input line_feed → BeginsWithNone input
begins_with_none_unended input some p = record { nonempty = omega arith; none = no_line_feed input p }

pub begins_with_none_ill : (input front back : List ℕ) → length input ≢ 0 → SplitsAt input line_feed front back → WritesNone front → BeginsWithNone input
begins_with_none_ill input front back some p n = record { nonempty = omega arith; none = no_form input front back p n }
