-- What a line in the making keeps. Assumes nothing.
use Rattle.std.proofs.Common.{eqb, true, false, ◌≡◌, ℕ, ◌+◌, ◌-◌, ◌*◌, ◌^◌, ◌<◌, ◌≤◌, min, zero, suc, List, [], ◌∷◌, ◌++◌, length, take, get_or, set, codes, decimal, sym, refl, ap, ◌∙◌, subst, arith, append_assoc, length-append}
use Rattle.std.specs.List.{All, flat_map}
use Rattle.std.proofs.Math.Seq.{take-append-add}
use Rattle.std.proofs.lemmas.Bool.{eqb-true, eqb-false}
use Rattle.std.proofs.lemmas.Fmt.{length-decimal-le}
use Rattle.std.proofs.lemmas.Grind.{flat_map-append}
use Rattle.std.proofs.lemmas.List.{append-nil, take_all, take_more, take_more_set, take-append-le, take_min, length-take, length-take-le}
use Rattle.std.proofs.lemmas.List.Concat.{length-flat_map}
use Rattle.std.proofs.lemmas.List.Elements.{All-head, All-tail, All-weaker}
use Rattle.std.proofs.lemmas.List.Sums.{sum_by-le}
use Rattle.answers.specs.Texts.{kept, commas, Gains}
use Rattle.answers.specs.Printed.{header_line, verdict_word, ask_line, path_text, trace_line, under_line, fault_line}
use Rattle.lines.specs.Forms.{decimal_pair}
use Rattle.labels.specs.declared.decision.Verdict.{Verdict}
use Rattle.labels.specs.declared.decision.Verdict.TheVariants.{Yes, No}

-- over any room, so that antt does not count it out
module _ {X : Type 0} where
  take_front : (n : ℕ) (xs ys : List X) → take n (take n xs ++ ys) ≡ take n (xs ++ ys)
  take_front zero xs ys = refl
  take_front (suc n) [] ys = refl
  take_front (suc n) (x ∷ xs) ys = ap (λ t. x ∷ t) (take_front n xs ys)

kept_more : (xs ys : List ℕ) → kept (kept xs ++ ys) ≡ kept (xs ++ ys)
unfolding kept
kept_more xs ys = take_front 2560 xs ys

-- a short text is kept whole
kept_all : (xs : List ℕ) → length xs ≤ 2560 → kept xs ≡ xs
unfolding kept
kept_all xs h = take_all 2560 xs h

-- as many bytes as there is room for
pub kept_behind : (h xs : List ℕ) → length h ≤ 2560 → kept (h ++ xs) ≡ h ++ take (min (2560 - length h) (length xs)) xs
unfolding kept
kept_behind h xs few =
    let e : 2560 ≡ length h + (2560 - length h) = omega arith in
    ap (λ n. take n (h ++ xs)) e ∙ take-append-add h xs (2560 - length h) ∙ ap (λ t. h ++ t) (sym (take_min (2560 - length h) xs))

-- nothing is gained by nothing
gains_none : (h : List ℕ) → length h ≤ 2560 → Gains h [] h
gains_none h few = record { is = sym (ap kept (append-nil h) ∙ kept_all h few) }

pub gains_empty : {h : List ℕ} (xs : List ℕ) → length h ≤ 2560 → length xs ≡ 0 → Gains h (commas xs) h
gains_empty {h = h} [] few e = gains_none h few
gains_empty (x ∷ xs) few e = absurd (omega arith)

-- a byte where there is room, and where there is none
pub gains_byte : (bytes : List ℕ) (n b : ℕ) → length bytes ≡ 2560 → n < 2560 → Gains (take n bytes) (b ∷ []) (take (n + 1) (set bytes n b))
gains_byte bytes n b e h =
    let l = length-take-le n bytes (omega arith) in
    record { is = take_more_set bytes n b (omega arith) ∙ sym (kept_all (take n bytes ++ b ∷ []) (omega (arith, length-append (take n bytes) (b ∷ [])))) }

pub gains_full : (bytes : List ℕ) (n b : ℕ) → length bytes ≡ 2560 → n ≤ 2560 → 2560 ≤ n → Gains (take n bytes) (b ∷ []) (take n bytes)
unfolding kept
gains_full bytes n b e h g =
    let l = length-take-le n bytes (omega arith) in
    let s : take 2560 (take n bytes) ≡ take n bytes = take_all 2560 (take n bytes) (omega arith) in
    record { is = sym (take-append-le 2560 (take n bytes) (b ∷ []) (omega arith) ∙ s) }

-- one text after another
pub gains_then : {h a z xs ys : List ℕ} → Gains h xs a → Gains a ys z → Gains h (xs ++ ys) z
gains_then {h = h} {xs = xs} {ys = ys} p q = record { is = q.is ∙ ap (λ t. kept (t ++ ys)) p.is ∙ kept_more (h ++ xs) ys ∙ ap kept (append_assoc h xs ys) }

-- what has gained has no more than there is room for
kept_room : (xs : List ℕ) → length (kept xs) ≤ 2560
unfolding kept
kept_room xs = omega (arith, length-take 2560 xs)

pub gains_no_more : {h xs z : List ℕ} → Gains h xs z → Gains z [] z
gains_no_more {h = h} {xs = xs} {z = z} p = gains_none z (rw p.is (kept_room (h ++ xs)))

-- what an empty line has gained is kept
pub gained : {r z xs : List ℕ} → r ≡ [] → Gains r xs z → z ≡ kept xs
gained {xs = xs} e p = p.is ∙ ap (λ t. kept (t ++ xs)) e

-- and all of it, if it is short
pub gained_whole : {r z : List ℕ} (xs : List ℕ) → length xs ≤ 2560 → r ≡ [] → Gains r xs z → z ≡ xs
gained_whole xs short e p = gained e p ∙ kept_all xs short

-- numbers, each behind a comma
abbrev pub behind_commas : List ℕ → List ℕ
behind_commas = flat_map (λ x. codes "," ++ decimal x)

-- a list of numbers, with one more
commas_push : (xs : List ℕ) (x : ℕ) → 0 < length xs → commas (xs ++ x ∷ []) ≡ commas xs ++ 44 ∷ decimal x
commas_push [] x h = absurd (omega arith)
commas_push (y ∷ ys) x h =
    let one : behind_commas (ys ++ x ∷ []) ≡ behind_commas ys ++ 44 ∷ decimal x = rw (flat_map-append, append-nil) refl in
    ap (λ t. decimal y ++ t) one ∙ sym (append_assoc (decimal y) (behind_commas ys) (44 ∷ decimal x))

pub commas_first : (xs : List ℕ) (i : ℕ) → i ≡ 0 → 0 < length xs → commas (take i xs) ++ decimal (get_or xs i 0) ≡ commas (take (i + 1) xs)
commas_first [] i z h = absurd (omega arith)
commas_first (x ∷ xs) i z h =
    ap (λ j. commas (take j (x ∷ xs)) ++ decimal (get_or (x ∷ xs) j 0)) z ∙ sym (append-nil (decimal x)) ∙ ap (λ j. commas (take (j + 1) (x ∷ xs))) (sym z)

pub commas_more : (xs : List ℕ) (i : ℕ) → 0 < i → i < length xs → commas (take i xs) ++ (44 ∷ [] ++ decimal (get_or xs i 0)) ≡ commas (take (i + 1) xs)
commas_more xs i z h =
    let l = length-take-le i xs (omega arith) in
    sym (commas_push (take i xs) (get_or xs i 0) (omega arith)) ∙ ap commas (sym (take_more xs i 0 h))

-- one number more behind the others
pub behind_more : {h z y : List ℕ} (xs : List ℕ) (i : ℕ) → i < length xs → Gains h (behind_commas (take i xs)) y → Gains y (44 ∷ decimal (get_or xs i 0)) z → Gains h (behind_commas (take (i + 1) xs)) z
behind_more xs i h p q = rw (take_more xs i 0 h, flat_map-append, append-nil) (gains_then p q)

-- the first number, and the others behind commas
pub commas_whole : {h a z : List ℕ} (xs rest : List ℕ) (x i : ℕ) → xs ≡ x ∷ rest → length rest ≤ i → Gains h (decimal x) a → Gains a (behind_commas (take i rest)) z → Gains h (commas xs) z
commas_whole xs rest x i e all p q = rw e (gains_then p (rw (take_all i rest all) at q))

-- two numbers
pub gains_pair : {h z : List ℕ} (m n : ℕ) → Gains h (commas (m ∷ n ∷ [])) z → Gains h (decimal_pair m n) z
gains_pair m n p = rw append-nil at p

-- numbers below 1000 take at most four bytes each
commas_short : (xs : List ℕ) → All (λ x. x < 1000) xs → length (commas xs) ≤ 4 * length xs
commas_short [] a = omega arith
commas_short (x ∷ xs) a =
    let head = All-head (λ y. y < 1000) x xs a in
    let bytes : ℕ → List ℕ = λ y. codes "," ++ decimal y in
    let four : All (λ y. length (bytes y) ≤ 4) xs = All-weaker (λ y. y < 1000) (λ y. length (bytes y) ≤ 4) (λ y b. omega (arith, length-decimal-le 3)) xs (All-tail (λ y. y < 1000) x xs a) in
    omega (arith, length-append (decimal x) (behind_commas xs), length-flat_map bytes xs, sum_by-le (λ y. length (bytes y)) 4 xs four, length-decimal-le 3)

-- what is printed of a path
pub path_none : (p : List ℕ) → eqb (length p) 0 ≡ true → codes "none" ≡ path_text p
path_none [] e = refl
path_none (x ∷ p) e = absurd (omega (arith, eqb-true (length (x ∷ p)) 0 e))

pub path_some : (p : List ℕ) → eqb (length p) 0 ≡ false → commas p ≡ path_text p
path_some [] e = absurd (eqb-false (length {A = ℕ} []) 0 e refl)
path_some (x ∷ p) e = refl

-- what has gained the one or the other has gained what is printed of the path
pub gains_path_none : {h z : List ℕ} (path : List ℕ) → eqb (length path) 0 ≡ true → Gains h (codes "none") z → Gains h (path_text path) z
gains_path_none {h = h} {z = z} path e p = subst (λ t. Gains h t z) (path_none path e) p

pub gains_path_some : {h z : List ℕ} (path : List ℕ) → eqb (length path) 0 ≡ false → Gains h (commas path) z → Gains h (path_text path) z
gains_path_some {h = h} {z = z} path e p = subst (λ t. Gains h t z) (path_some path e) p

path_short : (path : List ℕ) → All (λ x. x < 1000) path → length (path_text path) ≤ 4 * length path + 4
path_short [] a = omega arith
path_short (x ∷ path) a = omega (arith, commas_short (x ∷ path) a)

word_short : (v : Verdict) → length (verdict_word v) ≤ 3
word_short Yes = omega arith
word_short No = omega arith

-- each printed line is short enough to be kept whole
pub header_short : (l n m : ℕ) → l < 2 ^ 16 → n < 2 ^ 16 → m < 2 ^ 16 → length (header_line l n m) ≤ 64
header_short l n m p q r = simp length-append (omega (arith, length-decimal-le 5))

pub fault_short : (f k : ℕ) → f < 2 ^ 16 → k < 2 ^ 32 → length (fault_line f k) ≤ 64
fault_short f k p q = simp length-append (omega (arith, length-decimal-le 10))

pub ask_short : (s t : ℕ) (v : Verdict) (k o : ℕ) → s < 2 ^ 16 → t < 2 ^ 16 → k < 2 ^ 16 → o < 2 ^ 16 → length (ask_line s t v k o) ≤ 128
ask_short s t v k o p q r u = simp length-append (omega (arith, length-decimal-le 5, word_short))

pub under_short : (s : ℕ) (list : List ℕ) → s < 2 ^ 16 → length list ≤ 512 → All (λ x. x < 1000) list → length (under_line s list) ≤ 2560
under_short s list p q a = let c = commas_short list a in simp length-append (omega (arith, length-decimal-le 5))

pub trace_short : (s t : ℕ) (path : List ℕ) → s < 2 ^ 16 → t < 2 ^ 16 → length path ≤ 512 → All (λ x. x < 1000) path → length (trace_line s t path) ≤ 2560
trace_short s t path p q few a = let c = path_short path a in simp length-append (omega (arith, length-decimal-le 5))
