-- What holds as the vertices that s reaches are marked. Assumes nothing.
use Rattle.std.proofs.Common.{◌++◌, ◌≡◌, ℕ, zero, suc, ◌+◌, ◌<◌, ◌≤◌, Bool, true, false, cond, ◌⊎◌, List, [], ◌∷◌, length, get_or, take, set, replicate, Some, None, sym, refl, ap, ◌∙◌, subst, inl, inr, ⊎_elim, arith, get_or-set_other, get_or-set_same, length-append}
use mathlib.Core.Bool.{Bool-set}
use mathlib.Core.Logic.{∥∥₁_elim}
use Rattle.std.proofs.lemmas.Bool.{cases_eq, cases_lt, both_ways}
use Rattle.std.proofs.lemmas.List.{get_or-replicate, get_or-take, get_or_past, length-replicate, length-set, length-take}
use Rattle.std.specs.List.{Contains, count_by}
use Rattle.std.proofs.Math.Seq.{take-set-lt}
use Rattle.std.proofs.lemmas.List.Elements.{Contains-append_left, Contains-push, Contains-push_cases}
use Rattle.std.proofs.lemmas.List.Sums.{count_by-le-length, sum_by-set}
use Rattle.graph.specs.Model.{Model, Proper, NextSuccessor}
use Rattle.graph.specs.Paths.{Path, stay, walk}
use Rattle.search.specs.Under.{Marked}
use Rattle.graph.proofs.Paths.{join_paths, no_path, path_inside}

-- how many marks are set
abbrev pub ones : List Bool → ℕ
ones marks = count_by (λ b. b) marks

pub ones_set : (marks : List Bool) (w : ℕ) → w < length marks → get_or marks w false ≡ false → ones (set marks w true) ≡ ones marks + 1
ones_set marks w l e = grind (arith, sum_by-set (λ b. cond b 1 0) marks w true false l)

-- and how many of the first n
pub ones_front : (n w : ℕ) (marks : List Bool) → w < n → w < length marks → get_or marks w false ≡ false → ones (take n (set marks w true)) ≡ ones (take n marks) + 1
ones_front n w marks h l e =
    ap ones (take-set-lt n marks w true h) ∙ ones_set (take n marks) w (omega (arith, length-take n marks)) (get_or-take n marks w false h ∙ e)

-- of the first n no more than n are set
pub ones_le : (n : ℕ) (xs : List Bool) → ones (take n xs) ≤ n
ones_le n xs = omega (arith, count_by-le-length (λ b. b) (take n xs), length-take n xs)

-- and none where no mark is
pub ones_none : (n k : ℕ) → ones (take n (replicate k false)) ≡ 0
ones_none zero k = refl
ones_none (suc n) zero = refl
ones_none (suc n) (suc k) = ones_none n k

pub no_mark : (n k : ℕ) → get_or (replicate n false) k false ≡ false
no_mark n k = ⊎_elim (get_or-replicate n k false false) (λ (l : n ≤ k). get_or_past (replicate n false) k false (simp length-replicate l)) (cases_lt k n)

-- the arcs out of u, from `from` on
abbrev pub Late : ℕ → ℕ → ℕ → ℕ → Type 0
Late u from x w = (x ≡ u) × (from ≤ w)

abbrev pub Never : ℕ → ℕ → Type 0
Never x w = ⊥

-- what holds of the waiting vertices and the marks, where the arcs that `late` names are yet to be looked at: all other arcs out of marked
-- vertices lead to marks, but for those of the waiting ones
pub record Holds (m : Model) (s : ℕ) (late : ℕ → ℕ → Type 0) (waiting : List ℕ) (marks : List Bool) : Type 0 where
  pub proper : Proper m
  pub marks_size : length marks ≡ 512
  pub room : length waiting ≤ ones (take m.order marks)
  pub stacked : (x : ℕ) → Contains waiting x → Path m s x
  pub start : get_or marks s false ≡ true
  pub sound : (x : ℕ) → get_or marks x false ≡ true → Path m s x
  pub closed : (x w : ℕ) → get_or marks x false ≡ true → m.arc x w ≡ true → (Contains waiting x → ⊥) → (late x w → ⊥) → get_or marks w false ≡ true

-- some mark is set where any is counted
some_mark : (n : ℕ) (marks : List Bool) → 0 < ones (take n marks) → (k : ℕ) × (k < n) × (get_or marks k false ≡ true)
some_mark zero marks h = absurd (omega arith)
some_mark (suc n) [] h = absurd (omega arith)
some_mark (suc n) (true ∷ marks) h = (0, omega arith, refl)
some_mark (suc n) (false ∷ marks) h = let found = some_mark n marks h in (suc found.0, omega (arith, found.1), found.2)

-- a path to a vertex begins at a vertex
starts_below : {m : Model} → Proper m → {a b : ℕ} → Path m a b → b < m.order → a < m.order
starts_below k stay l = l
starts_below k (walk {u} {v} e p) l = (k.within u v e).0

module _ {m : Model} {s : ℕ} {late : ℕ → ℕ → Type 0} {waiting : List ℕ} {marks : List Bool} (h : Holds m s late waiting marks) where
  -- no more wait than there are places
  pub tight : length waiting ≤ 512
  tight = omega (arith, h.room, ones_le m.order marks, h.proper.small)

  -- each that waits is a vertex
  pub stacked_below : (x : ℕ) → Contains waiting x → x < m.order
  stacked_below x i =
      let found = some_mark m.order marks (omega (arith, h.room, i.1)) in
      path_inside m h.proper (h.stacked x i) (starts_below h.proper (h.sound found.0 found.2) found.1)

-- the same, where other arcs are yet to be looked at
turned : {m : Model} {s : ℕ} {late : ℕ → ℕ → Type 0} (late' : ℕ → ℕ → Type 0) {waiting : List ℕ} {marks : List Bool} → Holds m s late waiting marks →
    ((x w : ℕ) → get_or marks x false ≡ true → m.arc x w ≡ true → (Contains waiting x → ⊥) → (late' x w → ⊥) → get_or marks w false ≡ true) →
    Holds m s late' waiting marks
turned late' h f = search f

-- a mark is at w, or was there before
set_mark : (marks : List Bool) (w x : ℕ) → get_or (set marks w true) x false ≡ true → (x ≡ w) ⊎ (get_or marks x false ≡ true)
set_mark marks w x e = ⊎_elim inl (λ (ne : x ≡ w → ⊥). inr (sym (get_or-set_other marks w x true false ne) ∙ e)) (cases_eq x w)

module _ (m : Model) (s : ℕ) where
  pub begins : Proper m → s < m.order → Holds m s Never (s ∷ []) (set (replicate 512 false) s true)
  begins p l =
      let none = replicate 512 false in
      let lm : s < length none = simp length-replicate (omega (arith, p.small)) in
      let only : (x : ℕ) → get_or (set none s true) x false ≡ true → x ≡ s =
      λ x e. ⊎_elim (λ (q : x ≡ s). q) (λ i. absurd (both_ways _ (no_mark 512 x) i)) (set_mark none s x e) in
      record {
        proper = p;
        marks_size = length-set none s true ∙ length-replicate 512 false;
        room = omega (arith, ones_front m.order s none l lm (no_mark 512 s));
        stacked = λ x i. ⊎_elim (λ (k, l, _). absurd (omega (arith, l))) (λ (q : s ≡ x). subst (Path m s) q stay) (Contains-push_cases [] s x i);
        start = get_or-set_same none s true false lm;
        sound = λ x e. subst (Path m s) (sym (only x e)) stay;
        closed = λ x w e a f g. absurd (f (subst (Contains (s ∷ [])) (sym (only x e)) (Contains-push [] s)));
      }

  -- a vertex is opened
  pub opening : (waiting : List ℕ) (u : ℕ) (marks : List Bool) → Holds m s Never (waiting ++ u ∷ []) marks → Holds m s (Late u 0) waiting marks
  opening waiting u marks h = record {
    proper = h.proper;
    marks_size = h.marks_size;
    room = omega (arith, h.room, length-append waiting (u ∷ []));
    stacked = λ x i. h.stacked x (Contains-append_left waiting (u ∷ []) x i);
    start = h.start;
    sound = h.sound;
    closed = λ x w e a f g. h.closed x w e a (λ i. ⊎_elim f (λ (q : u ≡ x). g (sym q, omega arith)) (Contains-push_cases waiting u x i)) (λ n. n);
  }

  -- an arc out of u that is still late is to w, or is so from w on
  passes : (u from w : ℕ) → NextSuccessor m u from (Some w) → (x y : ℕ) → m.arc x y ≡ true → (y ≡ w → ⊥) → (Late u (w + 1) x y → ⊥) → Late u from x y → ⊥
  passes u from w n x y a ne f (q, l) =
      ⊎_elim (λ (b : y < w). both_ways (m.arc u y) (n.3 y l b) (subst (λ z. m.arc z y ≡ true) q a)) (λ (b : w ≤ y). f (q, omega arith)) (cases_lt y w)

  module _ (waiting : List ℕ) (marks : List Bool) (u from : ℕ) (h : Holds m s (Late u from) waiting marks) where
    pub knowing : (w : ℕ) → NextSuccessor m u from (Some w) → get_or marks w false ≡ true → Holds m s (Late u (w + 1)) waiting marks
    knowing w n e = turned _ h (λ x y ex a f g.
        ⊎_elim (λ (q : y ≡ w). ap (λ z. get_or marks z false) q ∙ e) (λ ne. h.closed x y ex a f (passes u from w n x y a ne g)) (cases_eq y w))

    pub more : (w : ℕ) → w < m.order → get_or marks w false ≡ false → ones (set marks w true) ≡ ones marks + 1
    more w b e = ones_set marks w (omega (arith, h.marks_size, h.proper.small)) e

    -- of those below m.order, of which w is not marked yet, fewer wait than there are
    more_in_front : (w : ℕ) → w < m.order → get_or marks w false ≡ false → ones (take m.order (set marks w true)) ≡ ones (take m.order marks) + 1
    more_in_front w b e = ones_front m.order w marks b (omega (arith, h.marks_size, h.proper.small)) e

    pub roomier : (w : ℕ) → w < m.order → get_or marks w false ≡ false → length waiting < m.order
    roomier w b e =
        let after = take m.order (set marks w true) in
        omega (arith, h.room, more_in_front w b e, count_by-le-length (λ b. b) after, length-take m.order (set marks w true))

    pub putting : (w : ℕ) → Path m s u → NextSuccessor m u from (Some w) → get_or marks w false ≡ false →
        Holds m s (Late u (w + 1)) (waiting ++ w ∷ []) (set marks w true)
    putting w r n e =
        let here : get_or (set marks w true) w false ≡ true = get_or-set_same marks w true false (omega (arith, h.marks_size, h.proper.small, n.1)) in
        let there = join_paths r (walk n.2 stay) in
        let grows : (x : ℕ) → (x ≡ w) ⊎ (get_or marks x false ≡ true) → get_or (set marks w true) x false ≡ true =
        λ x o. ⊎_elim (λ (q : x ≡ w). ap (λ y. get_or (set marks w true) y false) q ∙ here)
        (λ (ne : x ≡ w → ⊥). get_or-set_other marks w x true false ne ∙ ⊎_elim (λ q. absurd (ne q)) (λ i. i) o)
        (cases_eq x w) in
        record {
          proper = h.proper;
          marks_size = length-set marks w true ∙ h.marks_size;
          room = omega (arith, h.room, more_in_front w n.1 e, length-append waiting (w ∷ []));
          stacked = λ x i. ⊎_elim (h.stacked x) (λ (q : w ≡ x). subst (Path m s) q there) (Contains-push_cases waiting w x i);
          start = grows s (inr h.start);
          sound = λ x ex. ⊎_elim (λ (q : x ≡ w). subst (Path m s) (sym q) there) (h.sound x) (set_mark marks w x ex);
          closed = λ x y ex a f g. grows y (⊎_elim inl (λ (ne : y ≡ w → ⊥). ⊎_elim
              (λ (q : x ≡ w). absurd (f (subst (Contains (waiting ++ w ∷ [])) (sym q) (Contains-push waiting w))))
              (λ i. inr (h.closed x y i a (λ j. f (Contains-append_left waiting (w ∷ []) x j)) (passes u from w n x y a ne g)))
              (set_mark marks w x ex)) (cases_eq y w));
        }

    pub leaving : NextSuccessor m u from None → Holds m s Never waiting marks
    leaving n = turned _ h (λ x y ex a f _. h.closed x y ex a f (λ (q, l). both_ways (m.arc u y) (n y l) (subst (λ z. m.arc z y ≡ true) q a)))

  -- with none waiting the marks are closed under arcs
  shut : (marks : List Bool) → Holds m s Never [] marks → {x y : ℕ} → Path m x y → get_or marks x false ≡ true → get_or marks y false ≡ true
  shut marks h stay e = e
  shut marks h (walk {u} {v} a p) e = shut marks h p (h.closed u v e a (λ i. omega (arith, i.1)) (λ b. b))

  pub ending : (waiting : List ℕ) (marks : List Bool) → Holds m s Never waiting marks → waiting ≡ [] → Marked m s marks
  ending waiting marks h e v b = (
    λ q. ∣ h.sound v q ∣₁,
    λ r. ∥∥₁_elim r (Bool-set _ _) (λ p. shut marks (rw e at h) p h.start),
  )

  -- a start that is no vertex reaches none
  pub outside : Proper m → m.order ≤ s → Marked m s (replicate 512 false)
  outside p l x b = (
    λ q. absurd (both_ways _ (no_mark 512 x) q),
    λ r. absurd (no_path (λ q. omega (arith, starts_below p q b)) r),
  )
