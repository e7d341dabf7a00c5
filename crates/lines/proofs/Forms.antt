-- The permitted form of a line: its keyword, the sign and its numbers, and the line that they tell. Assumes nothing.
use Rattle.std.proofs.Common.{◌≡◌, ℕ, ◌^◌, ◌<◌, ◌≤◌, List, ◌∷◌, length, Some, None, codes, decimal, Option, sym, refl, ap, ◌∙◌, subst, arith, rules, MatchOption}
use Rattle.std.specs.Int.{IsInRange}
use Rattle.std.specs.List.{All}
use Rattle.std.proofs.lemmas.List.{length-append}
use Rattle.std.proofs.lemmas.List.Elements.{All-from_recursion, All-cons, All-append, All-weaker}
use Rattle.lines.specs.declared.Line.{Line}
use Rattle.lines.specs.declared.Line.TheVariants.{Library, Papers, Arc, End, Ask, Trace, Under}
use Rattle.lines.specs.Forms.{comma, decimal_pair, written, Fits, Writes, WritesNone, ParsesTo}
use Rattle.lines.specs.Parts.{equals_sign, form, Lacks, SplitsAt}
use Rattle.lines.proofs.Splits.{same_split, same_front, not_lacked, lacks_outside}
use Rattle.lines.proofs.Numbers.{decimal_digits, decimal_short, same_number}
use Rattle.lines.proofs.Pairs.{same_pair}

-- the word that a line begins with
abbrev pub keyword : Line → List ℕ
keyword (Library n) = codes "library"
keyword (Papers n) = codes "papers"
keyword (Arc u v) = codes "arc"
keyword (End n) = codes "end"
keyword (Ask s t) = codes "ask"
keyword (Trace s t) = codes "trace"
keyword (Under s) = codes "under"

-- what follows the sign
abbrev numbers : Line → List ℕ
numbers (Library n) = decimal n
numbers (Papers n) = decimal n
numbers (Arc u v) = decimal_pair u v
numbers (End n) = decimal n
numbers (Ask s t) = decimal_pair s t
numbers (Trace s t) = decimal_pair s t
numbers (Under s) = decimal s

in_parts : (l : Line) → written l ≡ form (keyword l) (numbers l)
in_parts (Library n) = refl
in_parts (Papers n) = refl
in_parts (Arc u v) = refl
in_parts (End n) = refl
in_parts (Ask s t) = refl
in_parts (Trace s t) = refl
in_parts (Under s) = refl

-- a keyword is made of small letters
keyword_letters : (l : Line) → All (IsInRange 97 122) (keyword l)
keyword_letters (Library n) = All-from_recursion (IsInRange 97 122) (codes "library") (search rules)
keyword_letters (Papers n) = All-from_recursion (IsInRange 97 122) (codes "papers") (search rules)
keyword_letters (Arc u v) = All-from_recursion (IsInRange 97 122) (codes "arc") (search rules)
keyword_letters (End n) = All-from_recursion (IsInRange 97 122) (codes "end") (search rules)
keyword_letters (Ask s t) = All-from_recursion (IsInRange 97 122) (codes "ask") (search rules)
keyword_letters (Trace s t) = All-from_recursion (IsInRange 97 122) (codes "trace") (search rules)
keyword_letters (Under s) = All-from_recursion (IsInRange 97 122) (codes "under") (search rules)

keyword_lacks : (l : Line) → Lacks (keyword l) equals_sign
keyword_lacks l = lacks_outside 97 122 equals_sign (keyword l) (keyword_letters l) (λ p. omega arith)

-- bytes with no sign are no line
pub no_sign : (bytes : List ℕ) → Lacks bytes equals_sign → WritesNone bytes
no_sign bytes p l w = not_lacked equals_sign (keyword l) (numbers l) (subst (λ t. Lacks t equals_sign) (w.text ∙ in_parts l) p)

-- the parts of the form of l, split at the sign
pub split_form : (bytes word value : List ℕ) (l : Line) → SplitsAt bytes equals_sign word value → Writes bytes l → (word ≡ keyword l) × (value ≡ numbers l)
split_form bytes word value l p w =
    same_split equals_sign word (keyword l) value (numbers l) p.first (keyword_lacks l) (sym p.whole ∙ w.text ∙ in_parts l)

-- what follows the sign is made of digits and commas
one_number : (n : ℕ) → n < 2 ^ 16 → All (IsInRange 44 57) (decimal n)
one_number n h = All-weaker (IsInRange 48 57) (IsInRange 44 57) (λ x p. (omega arith, p.1)) (decimal n) (decimal_digits n h)

two_numbers : (m n : ℕ) → (m < 2 ^ 16) × (n < 2 ^ 16) → All (IsInRange 44 57) (decimal_pair m n)
two_numbers m n h = All-append (IsInRange 44 57) (decimal m) _ (one_number m h.0) (All-cons (IsInRange 44 57) comma (decimal n) (omega arith, omega arith) (one_number n h.1))

numbers_bytes : (l : Line) → Fits l → All (IsInRange 44 57) (numbers l)
numbers_bytes (Library n) f = one_number n f
numbers_bytes (Papers n) f = one_number n f
numbers_bytes (Arc u v) f = two_numbers u v f
numbers_bytes (End n) f = one_number n f
numbers_bytes (Ask s t) f = two_numbers s t f
numbers_bytes (Trace s t) f = two_numbers s t f
numbers_bytes (Under s) f = one_number s f

-- so the whole line is made of bytes from the comma to the letter z
pub written_bytes : (l : Line) → Fits l → All (IsInRange 44 122) (written l)
written_bytes l f =
    let word = All-weaker (IsInRange 97 122) (IsInRange 44 122) (λ x p. (omega arith, p.1)) (keyword l) (keyword_letters l) in
    let value = All-weaker (IsInRange 44 57) (IsInRange 44 122) (λ x p. (p.0, omega arith)) (numbers l) (numbers_bytes l f) in
    rw (in_parts l) (All-append (IsInRange 44 122) (keyword l) _ word (All-cons (IsInRange 44 122) equals_sign (numbers l) (omega arith, omega arith) value))

-- and no line has more than 17 bytes
short_pair : (m n : ℕ) → (m < 2 ^ 16) × (n < 2 ^ 16) → length (decimal_pair m n) ≤ 11
short_pair m n h = omega (arith, length-append (decimal m) (comma ∷ decimal n), decimal_short m h.0, decimal_short n h.1)

written_short : (l : Line) → Fits l → length (written l) ≤ 17
written_short (Library n) f = omega (arith, length-append (codes "library=") (decimal n), decimal_short n f)
written_short (Papers n) f = omega (arith, length-append (codes "papers=") (decimal n), decimal_short n f)
written_short (Arc u v) f = omega (arith, length-append (codes "arc=") (decimal_pair u v), short_pair u v f)
written_short (End n) f = omega (arith, length-append (codes "end=") (decimal n), decimal_short n f)
written_short (Ask s t) f = omega (arith, length-append (codes "ask=") (decimal_pair s t), short_pair s t f)
written_short (Trace s t) f = omega (arith, length-append (codes "trace=") (decimal_pair s t), short_pair s t f)
written_short (Under s) f = omega (arith, length-append (codes "under=") (decimal s), decimal_short s f)

pub too_long : (bytes : List ℕ) → 17 < length bytes → WritesNone bytes
too_long bytes h l w = omega (arith, written_short l w.fits, ap length w.text)

-- a word that is no keyword begins no line
pub no_keyword : (word value : List ℕ) → ((l : Line) → word ≡ keyword l → ⊥) → WritesNone (form word value)
no_keyword word value none l w =
    none l
    (same_front equals_sign word (keyword l) value (numbers l) (keyword_lacks l)
    (lacks_outside 44 57 equals_sign (numbers l) (numbers_bytes l w.fits) (λ p. omega arith)) (w.text ∙ in_parts l))

not_both : {A : Type 0} (x : A) → Some x ≡ None → ⊥
not_both x e = let z : ◌≡◌ {A = ℕ} 0 1 = cc in omega arith

-- two lines of one form are the same
pub same_line : (l m : Line) → Fits l → Fits m → written l ≡ written m → l ≡ m
same_line (Library n) m f g e = search (rules, same_number)
same_line (Papers n) m f g e = search (rules, same_number)
same_line (Arc u v) m f g e = search (rules, same_pair)
same_line (End n) m f g e = search (rules, same_number)
same_line (Ask s t) m f g e = search (rules, same_pair)
same_line (Trace s t) m f g e = search (rules, same_pair)
same_line (Under s) m f g e = search (rules, same_number)

parses_to_some : (bytes : List ℕ) (l : Line) → Writes bytes l → ParsesTo bytes (Some l)
parses_to_some bytes l w = record {
  some = λ m. ((λ e. let same : l ≡ m = cc in subst (Writes bytes) same w), λ v. ap Some (same_line l m w.fits v.fits (sym w.text ∙ v.text)));
  none = ((λ e. absurd (not_both l e)), λ n. absurd (n l w));
}

pub parses_to_none : (bytes : List ℕ) → WritesNone bytes → ParsesTo bytes None
parses_to_none bytes n = record {
  some = λ m. ((λ e. absurd (not_both m (sym e))), λ v. absurd (n m v));
  none = ((λ e. n), λ p. refl);
}

-- what `parse_value` answers, of the bytes of the whole line
pub parses_to : (bytes : List ℕ) (answer : Option Line) → MatchOption answer (WritesNone bytes) (Writes bytes) → ParsesTo bytes answer
parses_to bytes None n = parses_to_none bytes n
parses_to bytes (Some l) w = parses_to_some bytes l w
