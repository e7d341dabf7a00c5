-- What a scan of a table of arcs keeps. Assumes nothing.
use Rattle.std.proofs.Common.{◌≡◌, ℕ, ◌+◌, ◌<◌, ◌≤◌, Bool, true, false, cond, not, ◌&&◌, ◌||◌, eqb, ltb, leb, List, [], ◌∷◌, ◌++◌, length, get_or, map, take, Some, None, Option, refl, sym, ap, ◌∙◌, subst, arith, min}
use Rattle.std.proofs.lemmas.Bool.Decides.{nat_tests}
use Rattle.std.proofs.lemmas.List.{map-id, get_or-take, length-take}
use Rattle.std.proofs.lemmas.List.Folds.{list_any-append, list_any_more, list_any_at}
use Rattle.std.specs.List.{list_any}
use Rattle.graph.specs.Model.{NextSuccessor}
use Rattle.graph.specs.Table.{is_arc, has, drawn, head_from, nearer_to, turned, along}
use Rattle.graph.specs.declared.list.Arc.{Arc}
use Rattle.graph.specs.declared.list.Direction.{Direction}
use Rattle.graph.specs.declared.list.Direction.TheVariants.{Forward, Backward}

pub has_any : (es : List Arc) (u v : ℕ) → list_any (is_arc u v) es ≡ has es u v
unfolding has
has_any [] u v = refl
has_any (e ∷ es) u v = ap (λ b. is_arc u v e || b) (has_any es u v)

pub has_push : (es : List Arc) (e : Arc) (u v : ℕ) → has (es ++ e ∷ []) u v ≡ (has es u v || is_arc u v e)
has_push es e u v = grind (arith, nat_tests, list_any-append (is_arc u v) es (e ∷ []), has_any)

-- a pair that stands below m is there
pub has_at : (es : List Arc) (i m : ℕ) (d : Arc) (u v : ℕ) → i < m → i < length es → (get_or es i d).tail ≡ u → (get_or es i d).head ≡ v → has (take m es) u v ≡ true
has_at es i m d u v lm l a b =
    sym (has_any (take m es) u v) ∙ list_any_at (is_arc u v) (take m es) i d (omega (arith, length-take m es)) (grind (arith, nat_tests, get_or-take m es i d lm))

-- the least place so far, below n, not below from and other than u, at which any test p is true; n where there is none
pub record LeastPassing (p : ℕ → Bool) (from u n best : ℕ) : Type 0 where
  pub top : best ≤ n
  pub hit : best < n → (p best ≡ true) × (best ≡ u → ⊥) × (from ≤ best)
  pub none : (w : ℕ) → from ≤ w → w < best → (w ≡ u → ⊥) → p w ≡ true → ⊥

-- at first nothing passes
pub passing_start : (p : ℕ → Bool) (from u n : ℕ) → ((w : ℕ) → p w ≡ false) → LeastPassing p from u n n
passing_start p from u n h = grind (arith, nat_tests, h)

-- the best so far after an entry that gives the vertex o, or none
abbrev pub after_entry : ℕ → Option ℕ → ℕ → ℕ
after_entry from None best = best
after_entry from (Some v) best = nearer_to from v best

-- which is the lesser of the best and of v, n standing for a v below `from`
pub nearer_min : (from v n best : ℕ) → best ≤ n → min best (cond (leb from v) v n) ≡ nearer_to from v best
nearer_min from v n best h = grind (arith, nat_tests)

-- the new entry lies at y, and counts if t
module _ (p q : ℕ → Bool) (t : Bool) (y from u n best : ℕ) (adds : (w : ℕ) → q w ≡ (p w || (t && eqb y w))) (l : LeastPassing p from u n best) where
  pub least_takes : t ≡ true → (y ≡ u → ⊥) → from ≤ y → y < best → LeastPassing q from u n y
  least_takes e ne le lt = grind (arith, nat_tests, adds, l.none)

  pub least_keeps : (t ≡ true → (y ≡ u → ⊥) → from ≤ y → best ≤ y) → LeastPassing q from u n best
  least_keeps far = grind (arith, nat_tests, adds, l.hit, l.none, far)

  -- b says whether it is nearer than the best so far
  pub by_near : (b : Bool) → (leb from y && ltb y best) ≡ b → t ≡ true → (y ≡ u → ⊥) → LeastPassing q from u n (cond b y best)
  by_near true k counts ne = least_takes counts ne (grind (arith, nat_tests)) (grind (arith, nat_tests))
  by_near false k counts ne = least_keeps (λ _ _ le. grind (arith, nat_tests))

  -- b says whether it counts and gives another vertex than u
  pub by_count : (b : Bool) → (t && not (eqb y u)) ≡ b → LeastPassing q from u n (after_entry from (cond b (Some y) None) best)
  by_count true k = by_near (leb from y && ltb y best) refl (grind (arith, nat_tests)) (grind (arith, nat_tests))
  by_count false k = least_keeps (λ counts ne _. grind (arith, nat_tests))

  -- so a step of the scan, where the entry gives the vertex o, or none
  pub passing_step : (o : Option ℕ) → o ≡ cond (t && not (eqb y u)) (Some y) None → LeastPassing q from u n (after_entry from o best)
  passing_step o e = subst (λ x. LeastPassing q from u n (after_entry from x best)) (sym e) (by_count (t && not (eqb y u)) refl)

-- the tail of an arc from another vertex to v
abbrev pub tail_to : ℕ → Arc → Option ℕ
tail_to v e = cond (eqb e.head v && not (eqb e.tail v)) (Some e.tail) None

-- one step of a scan for the heads of u's arcs, and for the tails
module _ (T : List Arc) (i : ℕ) (d : Arc) (from u n best : ℕ) (lt : i < length T) where
  pub head_step : LeastPassing (λ w. has (take i T) u w) from u n best → (o : Option ℕ) → o ≡ head_from u (get_or T i d) → (b : ℕ) → b ≡ after_entry from o best →
      LeastPassing (λ w. has (take (i + 1) T) u w) from u n b
  head_step l o e b is =
      let adds = λ (w : ℕ). simp has_any at (list_any_more (is_arc u w) T i d lt) in
      subst (LeastPassing (λ w. has (take (i + 1) T) u w) from u n) (sym is)
      (passing_step (λ w. has (take i T) u w) (λ w. has (take (i + 1) T) u w) (eqb (get_or T i d).tail u) (get_or T i d).head from u n best adds l o e)

  -- what one entry more gives, read backward
  pub more_tail : (w : ℕ) → has (take (i + 1) T) w u ≡ (has (take i T) w u || (eqb (get_or T i d).head u && eqb (get_or T i d).tail w))
  more_tail w =
      let more = simp has_any at (list_any_more (is_arc w u) T i d lt) in
      grind (arith, nat_tests, more)

  pub tail_step : LeastPassing (λ w. has (take i T) w u) from u n best → (o : Option ℕ) → o ≡ tail_to u (get_or T i d) → (b : ℕ) → b ≡ after_entry from o best →
      LeastPassing (λ w. has (take (i + 1) T) w u) from u n b
  tail_step l o e b is =
      subst (LeastPassing (λ w. has (take (i + 1) T) w u) from u n) (sym is)
      (passing_step (λ w. has (take i T) w u) (λ w. has (take (i + 1) T) w u) (eqb (get_or T i d).head u) (get_or T i d).tail from u n best more_tail l o e)

-- the same of what entries join u to
abbrev pub Least : List Arc → ℕ → ℕ → ℕ → ℕ → Type 0
Least es from u n best = LeastPassing (λ w. has es u w) from u n best

pub least_start : (from u n : ℕ) → Least [] from u n n
least_start from u n = passing_start _ from u n (λ w. sym (has_any [] u w))

pub least_step : (T : List Arc) (i : ℕ) (d : Arc) (from u n best : ℕ) → i < length T → Least (take i T) from u n best →
    (b : ℕ) → b ≡ after_entry from (head_from u (get_or T i d)) best → Least (take (i + 1) T) from u n b
least_step T i d from u n best lt l b is = head_step T i d from u n best lt l _ refl b is

-- below the best of a whole scan of the first i = m entries, over n = N vertices, nothing is drawn
module _ (T : List Arc) (i m : ℕ) (all : i ≡ m) (from u n N best : ℕ) (order : n ≡ N) where
  pub head_off : LeastPassing (λ w. has (take i T) u w) from u n best → (w : ℕ) → from ≤ w → w < best → drawn (take m T) N u w ≡ true → ⊥
  head_off l w a b e = grind (arith, nat_tests, l.none w)

  pub tail_off : LeastPassing (λ w. has (take i T) w u) from u n best → (w : ℕ) → from ≤ w → w < best → drawn (take m T) N w u ≡ true → ⊥
  tail_off l w a b e = grind (arith, nat_tests, l.none w)

  -- where none passed, nothing is drawn from there on
  pub passing_no_head : LeastPassing (λ w. has (take i T) u w) from u n best → n ≤ best → (w : ℕ) → from ≤ w → drawn (take m T) N u w ≡ false
  passing_no_head l up w a = grind (arith, nat_tests, l.none w)

  pub passing_no_tail : LeastPassing (λ w. has (take i T) w u) from u n best → n ≤ best → (w : ℕ) → from ≤ w → drawn (take m T) N w u ≡ false
  passing_no_tail l up w a = grind (arith, nat_tests, l.none w)

  -- where one passed, it is the first that is drawn
  pub passing_one_head : LeastPassing (λ w. has (take i T) u w) from u n best → best < n → u < n →
      (from ≤ best) × (best < N) × (drawn (take m T) N u best ≡ true) × ((w : ℕ) → from ≤ w → w < best → drawn (take m T) N u w ≡ false)
  passing_one_head l lt ut = (
    grind (arith, l.hit lt),
    omega arith,
    grind (arith, nat_tests, l.hit lt),
    λ w a b. grind (arith, nat_tests, l.none w),
  )

  pub passing_one_tail : LeastPassing (λ w. has (take i T) w u) from u n best → best < n → u < n →
      (from ≤ best) × (best < N) × (drawn (take m T) N best u ≡ true) × ((w : ℕ) → from ≤ w → w < best → drawn (take m T) N w u ≡ false)
  passing_one_tail l lt ut = (
    grind (arith, l.hit lt),
    omega arith,
    grind (arith, nat_tests, l.hit lt),
    λ w a b. grind (arith, nat_tests, l.none w),
  )

-- a list read backward has v→u where it had u→v
has_backward : (es : List Arc) (u v : ℕ) → has (map (turned Backward) es) u v ≡ has es v u
unfolding has
has_backward [] u v = refl
has_backward (e ∷ es) u v = grind (arith, nat_tests, has_backward es u v)

-- the answers of a whole scan of the entries, read either way
pub no_head : (d : Direction) (T : List Arc) (N u from best : ℕ) → Least (map (turned d) T) from u N best → N ≤ best →
    NextSuccessor (along d (record { order = N; arc = drawn T N })) u from None
no_head Forward T N u from best l le = grind (arith, nat_tests, map-id T, l.none)
no_head Backward T N u from best l le = grind (arith, nat_tests, has_backward T u, l.none)

pub one_head : (d : Direction) (T : List Arc) (N u from best : ℕ) → Least (map (turned d) T) from u N best → best < N → u < N →
    NextSuccessor (along d (record { order = N; arc = drawn T N })) u from (Some best)
one_head Forward T N u from best l lt lu = grind (arith, nat_tests, map-id T, l.hit lt, l.none)
one_head Backward T N u from best l lt lu = grind (arith, nat_tests, has_backward T u, l.hit lt, l.none)
