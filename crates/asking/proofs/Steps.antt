-- What holds of the code's variables as a search runs. Assumes nothing.
use Rattle.std.proofs.Common.{◌≡◌, ℕ, zero, suc, ◌+◌, ◌<◌, ◌≤◌, Bool, true, false, cond, ◌||◌, List, [], ◌∷◌, ◌++◌, reverse, length, get_or, take, set, replicate, Some, None, Option, sym, refl, ap, ◌∙◌, ⊎_elim, arith, get_or-set_other, get_or-set_same, length-append}
use Rattle.std.proofs.lemmas.Bool.{cond_both, cases_eq, eq-eqb, ne_eqb}
use Rattle.std.proofs.lemmas.List.{take_more_set, length-replicate, length-set, reverse-append}
use Rattle.std.specs.List.{AllByRecursion}
use Rattle.graph.specs.Model.{Model, Proper, NextSuccessor, sum_below}
use Rattle.graph.proofs.Bits.{sum_full}
use Rattle.graph.proofs.Counts.{sum_max, sum_one}
use Rattle.labels.specs.declared.decision.Verdict.{Verdict}
use Rattle.labels.specs.declared.decision.Verdict.TheVariants.{Yes, No}
use Rattle.labels.specs.declared.decision.Decision.{Decision}
use Rattle.asking.specs.Search.{Place, between, at, Runs, ends, opens, finds, drops, knows, puts, leaves}
use Rattle.search.specs.Under.{has, Distinct}
use Rattle.search.specs.Successors.{successors_from}
use Rattle.search.proofs.Distinct.{pigeonhole}
use Rattle.search.proofs.Lists.{has_first}
use Rattle.search.proofs.Successors.{successors_end, successors_next}
use Rattle.search.proofs.Marks.{no_mark}

-- what holds of the waiting vertices, the marks, and the slice of opened vertices with how many they are, in a search from s that stands at `place`
pub record Holds (m : Model) (tells : ℕ → Option Decision) (s : ℕ) (place : Place) (waiting : List ℕ) (marks : List Bool) (count : ℕ) (opened : List ℕ) : Type 0 where
  pub small : m.order ≤ 512
  pub room : count + length waiting ≤ m.order
  pub marks_size : length marks ≡ 512
  pub put : List ℕ
  pub put_size : length put ≡ count + length waiting
  pub once : Distinct put
  pub inside : AllByRecursion (λ v. v < m.order) put
  pub marks_put : (w : ℕ) → w < m.order → get_or marks w false ≡ has w put
  pub runs : (v : Verdict) (all : List ℕ) → Runs m tells place (reverse waiting) put (take count opened) v all →
      Runs m tells between (s ∷ []) (s ∷ []) [] v all

-- the same at another place, from where the search ends as it does from here
moved : {m : Model} {tells : ℕ → Option Decision} {s : ℕ} {place : Place} {waiting : List ℕ} {marks : List Bool} {count : ℕ} {opened : List ℕ} →
    (h : Holds m tells s place waiting marks count opened) → (place' : Place) →
    ((v : Verdict) (all : List ℕ) → Runs m tells place' (reverse waiting) h.put (take count opened) v all →
    Runs m tells place (reverse waiting) h.put (take count opened) v all) →
    Holds m tells s place' waiting marks count opened
moved h place' f = record {
  small = h.small;
  room = h.room;
  marks_size = h.marks_size;
  put = h.put;
  put_size = h.put_size;
  once = h.once;
  inside = h.inside;
  marks_put = h.marks_put;
  runs = λ v all r. h.runs v all (f v all r);
}

-- the marks after one more, beside the list of those put
marks_more : (marks : List Bool) (w x : ℕ) (put : List ℕ) → w < length marks → get_or marks x false ≡ has x put → get_or (set marks w true) x false ≡ has x (w ∷ put)
marks_more marks w x put l e =
    ⊎_elim
    (λ (q : x ≡ w). ap (λ y. get_or (set marks w true) y false) q ∙ get_or-set_same marks w true false l ∙ sym (ap (λ y. y || has x put) (eq-eqb x w q)))
    (λ (q : x ≡ w → ⊥). get_or-set_other marks w x true false q ∙ e ∙ sym (ap (λ y. y || has x put) (ne_eqb x w q)))
    (cases_eq x w)

-- how many of the first n marks are set
abbrev pub set_marks : ℕ → List Bool → ℕ
set_marks n marks = sum_below (λ w. cond (get_or marks w false) 1 0) n

-- no more than n are
pub set_marks_le : (n : ℕ) (marks : List Bool) → set_marks n marks ≤ n
set_marks_le n marks =
    sum_full (λ w. cond (get_or marks w false) 1 0) n (λ k. cond_both (get_or marks k false) 1 0 (λ x. x ≤ 1) (λ _. omega arith) (λ _. omega arith))

-- one more, where there was no mark
pub one_mark_more : (n w : ℕ) (marks : List Bool) → w < n → w < length marks → get_or marks w false ≡ false → set_marks n (set marks w true) ≡ set_marks n marks + 1
one_mark_more n w marks b l e =
    sum_one (λ x. cond (get_or marks x false) 1 0) (λ x. cond (get_or (set marks w true) x false) 1 0) n w b
    (ap (λ x. cond x 1 0) (get_or-set_same marks w true false l) ∙ sym (ap (λ x. cond x 1 0 + 1) e))
    (λ k ne. ap (λ x. cond x 1 0) (get_or-set_other marks w k true false ne))

-- of distinct numbers below n each is one of these
set_marks_put : (n : ℕ) (put : List ℕ) → Distinct put → AllByRecursion (λ v. v < n) put → sum_below (λ w. cond (has w put) 1 0) n ≡ length put
set_marks_put n [] d a = omega (arith, sum_max (λ w. cond (has w []) 1 0) n 0 (λ w _. omega arith))
set_marks_put n (x ∷ xs) d a =
    omega (
      arith,
      set_marks_put n xs d.1 a.1,
      sum_one (λ w. cond (has w xs) 1 0) (λ w. cond (has w (x ∷ xs)) 1 0) n x a.0
          (ap (λ b. cond b 1 0) (has_first x xs) ∙ sym (ap (λ b. cond b 1 0 + 1) d.0))
          (λ k ne. ap (λ b. cond (b || has k xs) 1 0) (ne_eqb k x ne)),
    )

-- the marks of a list are as many as those numbers
set_marks_same : (n : ℕ) (marks : List Bool) (put : List ℕ) → ((w : ℕ) → w < n → get_or marks w false ≡ has w put) → set_marks n marks ≡ sum_below (λ w. cond (has w put) 1 0) n
unfolding sum_below
set_marks_same zero marks put h = refl
set_marks_same (suc n) marks put h =
    let top = ap {B = ℕ} (λ b. cond b 1 0) (h n (omega arith)) in
    omega (arith, set_marks_same n marks put (λ w l. h w (omega arith)))

module _ {m : Model} {tells : ℕ → Option Decision} {s : ℕ} {place : Place} {waiting : List ℕ} {marks : List Bool} {count : ℕ} {opened : List ℕ}
    (h : Holds m tells s place waiting marks count opened) where
  -- as many marks are set as vertices were put
  pub marked : set_marks m.order marks ≡ count + length waiting
  marked = set_marks_same m.order marks h.put h.marks_put ∙ set_marks_put m.order h.put h.once h.inside ∙ h.put_size

  -- there is room for one vertex more
  pub roomier : (w : ℕ) → w < m.order → get_or marks w false ≡ false → count + length waiting < m.order
  roomier w b k =
      let l : w < length marks = omega (arith, h.marks_size, h.small) in
      omega (arith, marked, one_mark_more m.order w marks b l k, set_marks_le m.order (set marks w true))

module _ (m : Model) (tells : ℕ → Option Decision) (s : ℕ) where
  pub begins : (opened : List ℕ) → Proper m → s < m.order → Holds m tells s between (s ∷ []) (set (replicate 512 false) s true) 0 opened
  begins opened p l = record {
    small = p.small;
    room = omega arith;
    marks_size = length-set (replicate 512 false) s true ∙ length-replicate 512 false;
    put = s ∷ [];
    put_size = omega arith;
    once = (refl, tt);
    inside = (l, tt);
    marks_put = λ w b. marks_more (replicate 512 false) s w [] (simp length-replicate (omega (arith, p.small))) (no_mark 512 w);
    runs = λ v all r. r;
  }

  -- the vertex put last is opened
  pub opening : (waiting : List ℕ) (marks : List Bool) (count : ℕ) (opened : List ℕ) (u : ℕ) →
      Holds m tells s between (waiting ++ u ∷ []) marks count opened → m.order ≤ length opened →
      Holds m tells s (at (successors_from m u 0)) waiting marks (count + 1) (set opened count u)
  opening waiting marks count opened u h long =
      let one = length-append waiting (u ∷ []) in
      let few : count < length opened = omega (arith, h.room, one) in
      record {
        small = h.small;
        room = omega (arith, h.room, one);
        marks_size = h.marks_size;
        put = h.put;
        put_size = omega (arith, h.put_size, one);
        once = h.once;
        inside = h.inside;
        marks_put = h.marks_put;
        runs = λ v all r. h.runs v all (rw reverse-append (opens (rw (take_more_set opened count u few) at r)));
      }

module _ {m : Model} {tells : ℕ → Option Decision} {s : ℕ} {waiting : List ℕ} {marks : List Bool} {count : ℕ} {opened : List ℕ} where
  pub ending : Holds m tells s between waiting marks count opened → waiting ≡ [] → Runs m tells between (s ∷ []) (s ∷ []) [] No (take count opened)
  ending h e = h.runs No (take count opened) (rw e ends)

  module _ (u from : ℕ) (h : Holds m tells s (at (successors_from m u from)) waiting marks count opened) where
    pub leaving : NextSuccessor m u from None → Holds m tells s between waiting marks count opened
    leaving n = moved h between (λ v all r. rw (successors_end m u from n) (leaves r))

    module _ (w : ℕ) (n : NextSuccessor m u from (Some w)) where
      pub finding : (d : Decision) → Some d ≡ tells w → d.verdict ≡ Yes → Runs m tells between (s ∷ []) (s ∷ []) [] Yes (take count opened)
      finding d e y = h.runs Yes (take count opened) (rw (successors_next m u from w n) (finds (sym e) y))

      pub dropping : (d : Decision) → Some d ≡ tells w → d.verdict ≡ No → Holds m tells s (at (successors_from m u (w + 1))) waiting marks count opened
      dropping d e i = moved h _ (λ v all r. rw (successors_next m u from w n) (drops (sym e) i r))

      pub knowing : None ≡ tells w → get_or marks w false ≡ true → Holds m tells s (at (successors_from m u (w + 1))) waiting marks count opened
      knowing e k = moved h _ (λ v all r. rw (successors_next m u from w n) (knows (sym e) (sym (h.marks_put w n.1) ∙ k) r))

      pub putting : None ≡ tells w → get_or marks w false ≡ false →
          Holds m tells s (at (successors_from m u (w + 1))) (waiting ++ w ∷ []) (set marks w true) count opened
      putting e k =
          let new : has w h.put ≡ false = sym (h.marks_put w n.1) ∙ k in
          let one = length-append waiting (w ∷ []) in
          record {
            small = h.small;
            room = omega (arith, h.put_size, one, pigeonhole m.order (w ∷ h.put) (new, h.once) (n.1, h.inside));
            marks_size = length-set marks w true ∙ h.marks_size;
            put = w ∷ h.put;
            put_size = omega (arith, h.put_size, one);
            once = (new, h.once);
            inside = (n.1, h.inside);
            marks_put = λ x b. marks_more marks w x h.put (omega (arith, h.marks_size, h.small, n.1)) (h.marks_put x b);
            runs = λ v all r. h.runs v all (rw (successors_next m u from w n) (puts (sym e) new (rw reverse-append at r)));
          }
