-- Where what is said is right, the verdict of a search is right. Assumes nothing.
use Rattle.std.proofs.Common.{◌≡◌, ℕ, ◌-◌, ◌<◌, Bool, true, false, eqb, List, [], ◌∷◌, ◌++◌, Some, None, Option, sym, refl, ap, ◌∙◌, subst, ⊎_elim, arith}
use mathlib.Core.Logic.{∥∥₁_map}
use Rattle.std.proofs.lemmas.Bool.{cases_Bool, eqb-true, eqb-false, eq-eqb, ne_eqb, false≢true, or_cases, or_left, or_right, or_from, both_ways}
use Rattle.std.proofs.ByRecursion.{All-weaker}
use Rattle.std.specs.List.{AllByRecursion}
use Rattle.graph.specs.Model.{Model, Proper}
use Rattle.graph.specs.Paths.{Path, stay, walk, Reaches}
use Rattle.graph.proofs.Paths.{join_paths, no_path}
use Rattle.labels.specs.declared.decision.Verdict.{Verdict}
use Rattle.labels.specs.declared.decision.Verdict.TheVariants.{Yes, No}
use Rattle.labels.specs.declared.decision.Decision.{Decision}
use Rattle.labels.specs.Labels.{Labels, Supports}
use Rattle.labels.specs.Rules.{Rules}
use Rattle.labels.specs.Judges.{Judge, first, says, on_ground}
use Rattle.labels.specs.Laws.{Claim, RightIfAny, Lawful}
use Rattle.asking.specs.declared.answer.Answer.{Answer}
use Rattle.asking.specs.Search.{Place, between, at, told, Runs, ends, opens, finds, drops, knows, puts, leaves}
use Rattle.search.specs.Under.{has}
use Rattle.asking.specs.Questions.{Found, RightVerdict}
use Rattle.search.proofs.Lists.{has_push, has_first, entry}
use Rattle.search.specs.Successors.{successors_from}
use Rattle.search.proofs.Successors.{passing_pass, passing_has}
use Rattle.asking.proofs.Kept.{Ahead, Kept, kept_starts, kept_opens, kept_passes, kept_puts, kept_leaves}

-- x is among the successors that are left
abbrev pub Left : Place → ℕ → Type 0
Left between x = ⊥
Left (at ws) x = has x ws ≡ true

-- the head of an arc out of an opened vertex was put, or does not reach t, or is yet to be looked at
pub data Fine (m : Model) (t : ℕ) (place : Place) (put : List ℕ) (x : ℕ) : Type 0 where
  was_put : has x put ≡ true → Fine m t place put x
  leads_off : (Reaches m x t → ⊥) → Fine m t place put x
  is_left : Left place x → Fine m t place put x

record Sure (m : Model) (s t : ℕ) (place : Place) (waiting put opened : List ℕ) : Type 0 where
  reached : AllByRecursion (λ w. Path m s w) waiting
  looks : Ahead (λ w. Path m s w) place
  -- the head of an arc out of an opened vertex was put, or is yet to be looked at, or does not reach t
  closed : (u w : ℕ) → has u opened ≡ true → m.arc u w ≡ true → (has w put ≡ true → ⊥) → (Left place w → ⊥) → Reaches m w t → ⊥
  apart : has t put ≡ false
  start : has s put ≡ true

-- with none waiting no opened vertex reaches t
shut : (m : Model) (s t : ℕ) (put opened : List ℕ) → Kept m between [] put opened → Sure m s t between [] put opened →
    {x y : ℕ} → Path m x y → y ≡ t → has x opened ≡ true → ⊥
shut m s t put opened k i stay q h = both_ways (has t put) i.apart (k.same t ∙ ap (λ y. has y opened) (sym q) ∙ h)
shut m s t put opened k i (walk {u} {v} a p) q h =
    i.closed u v h a (λ j. shut m s t put opened k i p q (sym (k.same v) ∙ j)) (λ b. b) ∣ subst (Path m v) q p ∣₁

-- what `closed` of `Sure` says of a head is one of these three
pub fine : (m : Model) (t : ℕ) (place : Place) (put : List ℕ) (x : ℕ) → ((has x put ≡ true → ⊥) → (Left place x → ⊥) → Reaches m x t → ⊥) → Fine m t place put x
fine m t between put x f =
    ⊎_elim (λ (e : has x put ≡ true). was_put e) (λ (e : has x put ≡ false). leads_off (f (λ i. both_ways (has x put) e i) (λ b. b))) (cases_Bool (has x put))
fine m t (at ws) put x f =
    ⊎_elim (λ (e : has x put ≡ true). was_put e)
    (λ (e : has x put ≡ false). ⊎_elim (λ (i : has x ws ≡ true). is_left i)
    (λ (i : has x ws ≡ false). leads_off (f (λ j. both_ways (has x put) e j) (λ j. both_ways (has x ws) i j)))
    (cases_Bool (has x ws)))
    (cases_Bool (has x put))

-- with none waiting, of such a head that leads to t it cannot be that it was not opened
pub next : (m : Model) (t : ℕ) (put opened : List ℕ) → Kept m between [] put opened → {v y : ℕ} → Path m v y → y ≡ t →
    Fine m t between put v → (has v opened ≡ true → ⊥) → ⊥
next m t put opened k {v} p q (was_put j) f = f (sym (k.same v) ∙ j)
next m t put opened k {v} p q (leads_off j) f = j ∣ subst (Path m v) q p ∣₁
next m t put opened k {v} p q (is_left j) f = j

-- a successor that is no more to be looked at
pub passed : (m : Model) (t w : ℕ) (rest put put' : List ℕ) → ((x : ℕ) → has x put ≡ true → has x put' ≡ true) → Fine m t (at rest) put' w →
    (x : ℕ) → Fine m t (at (w ∷ rest)) put x → Fine m t (at rest) put' x
passed m t w rest put put' grows here x (was_put h) = was_put (grows x h)
passed m t w rest put put' grows here x (leads_off f) = leads_off f
passed m t w rest put put' grows here x (is_left h) =
    ⊎_elim (λ (p : x ≡ w). subst (λ y. Fine m t (at rest) put' y) (sym p) here) (λ (p : has x rest ≡ true). is_left p) (entry x w rest h)

-- a head of the vertices opened before, as one more is opened
pub old_opens : (m : Model) (t u : ℕ) (put : List ℕ) (w : ℕ) → Fine m t between put w → Fine m t (at (successors_from m u 0)) put w
old_opens m t u put w (was_put h) = was_put h
old_opens m t u put w (leads_off f) = leads_off f
old_opens m t u put w (is_left b) = absurd b

-- and as it is left
pub old_leaves : (m : Model) (t : ℕ) (put : List ℕ) (w : ℕ) → Fine m t (at []) put w → Fine m t between put w
old_leaves m t put w (was_put h) = was_put h
old_leaves m t put w (leads_off f) = leads_off f
old_leaves m t put w (is_left b) = absurd (false≢true b)

module _ (m : Model) (proper : Proper m) (tells : ℕ → Option Decision) (s t : ℕ)
    (right : (w : ℕ) → w < m.order → RightIfAny m w t (tells w)) (goal : (w : ℕ) → tells w ≡ None → w ≡ t → ⊥) where
  -- what a decision says of a vertex is so
  claimed : (w : ℕ) (d : Decision) (v : Verdict) → w < m.order → tells w ≡ Some d → d.verdict ≡ v → Claim m w t v
  claimed w d v b e i = subst (Claim m w t) i (subst (RightIfAny m w t) e (right w b)).claim

  sure_starts : (s ≡ t → ⊥) → Sure m s t between (s ∷ []) (s ∷ []) []
  sure_starts ne = record {
    reached = (stay, tt);
    looks = tt;
    closed = λ u w h. absurd (false≢true h);
    apart = or_from (eqb t s) _ (ne_eqb t s (λ q. ne (sym q))) refl;
    start = has_first s [];
  }

  sure_opens : {u : ℕ} {waiting put opened : List ℕ} → Sure m s t between (u ∷ waiting) put opened → Sure m s t (at (successors_from m u 0)) waiting put (opened ++ u ∷ [])
  sure_opens {u} {waiting} {put} {opened} i = record {
    reached = i.reached.1;
    looks = All-weaker (λ w. m.arc u w ≡ true) _ (λ w a. join_paths i.reached.0 (walk a stay)) _ (passing_pass (m.arc u) (m.order - 0) 0);
    closed = λ x w h a np nl. ⊎_elim
        (λ (p : has x opened ≡ true). i.closed x w p a np (λ b. b))
        (λ (p : eqb x u ≡ true). absurd (nl (passing_has (m.arc u) (m.order - 0) 0 w (omega arith) (omega (arith, (proper.within x w a).1)) (rw (← eqb-true x u p) a))))
        (or_cases (has x opened) (eqb x u) (sym (has_push x u opened) ∙ h));
    apart = i.apart;
    start = i.start;
  }

  sure_passes : {w : ℕ} {rest waiting put opened : List ℕ} → Sure m s t (at (w ∷ rest)) waiting put opened →
      ((has w put ≡ true → ⊥) → Reaches m w t → ⊥) → Sure m s t (at rest) waiting put opened
  sure_passes {w} {rest} {waiting} {put} i here = record {
    reached = i.reached;
    looks = i.looks.1;
    closed = λ u x h a np nl r. i.closed u x h a np
        (λ j. ⊎_elim (λ (q : x ≡ w). subst (λ y. (has y put ≡ true → ⊥) → Reaches m y t → ⊥) (sym q) here np r) nl (entry x w rest j)) r;
    apart = i.apart;
    start = i.start;
  }

  -- the same where that head was put, or does not reach t, or comes again
  sure_passes_fine : (w : ℕ) (rest waiting put opened : List ℕ) → Sure m s t (at (w ∷ rest)) waiting put opened →
      Fine m t (at rest) put w → Sure m s t (at rest) waiting put opened
  sure_passes_fine w rest waiting put opened i here = record {
    reached = i.reached;
    looks = i.looks.1;
    closed = λ u x h a np nl r. i.closed u x h a np
        (λ j. ⊎_elim (λ (q : x ≡ w). denied x np nl r (subst (Fine m t (at rest) put) (sym q) here)) nl (entry x w rest j)) r;
    apart = i.apart;
    start = i.start;
  }
    where
      denied : (x : ℕ) → (has x put ≡ true → ⊥) → (has x rest ≡ true → ⊥) → Reaches m x t → Fine m t (at rest) put x → ⊥
      denied x np nl r (was_put j) = np j
      denied x np nl r (leads_off f) = f r
      denied x np nl r (is_left j) = nl j

  sure_puts : {w : ℕ} {rest waiting put opened : List ℕ} → Sure m s t (at (w ∷ rest)) waiting put opened →
      (w ≡ t → ⊥) → Sure m s t (at rest) (w ∷ waiting) (w ∷ put) opened
  sure_puts {w} {rest} i ne = record {
    reached = (i.looks.0, i.reached);
    looks = i.looks.1;
    closed = λ u x h a np nl. i.closed u x h a (λ j. np (or_right (eqb x w) _ j))
        (λ j. ⊎_elim (λ (q : x ≡ w). np (or_left (eqb x w) _ (eq-eqb x w q))) nl (entry x w rest j));
    apart = or_from (eqb t w) _ (ne_eqb t w (λ q. ne (sym q))) i.apart;
    start = or_right (eqb s w) _ i.start;
  }

  sure_leaves : {waiting put opened : List ℕ} → Sure m s t (at []) waiting put opened → Sure m s t between waiting put opened
  sure_leaves i = search (i, i.closed, false≢true)

  exact : {place : Place} {waiting put opened all : List ℕ} {v : Verdict} → Runs m tells place waiting put opened v all →
      Kept m place waiting put opened → Sure m s t place waiting put opened → Claim m s t v
  exact (ends {put} {opened}) k i = no_path (λ p. shut m s t put opened k i p refl (sym (k.same s) ∙ i.start))
  exact (opens r) k i = exact r (kept_opens m proper k) (sure_opens i)
  exact (finds {w} {d} e y) k i = ∥∥₁_map (claimed w d Yes k.ahead.0 e y) (λ p. join_paths i.looks.0 p)
  exact (drops {w} {d} e n r) k i = exact r (kept_passes m proper k) (sure_passes i (λ _. claimed w d No k.ahead.0 e n))
  exact (knows e h r) k i = exact r (kept_passes m proper k) (sure_passes i (λ np _. np h))
  exact (puts {w} e h r) k i = exact r (kept_puts m proper k h) (sure_puts i (goal w e))
  exact (leaves r) k i = exact r (kept_leaves m proper k) (sure_leaves i)

  pub found_claim : (o : Option Decision) (a : Answer) (all : List ℕ) → s < m.order → tells s ≡ o → Found m tells s o a all → Claim m s t a.verdict
  found_claim (Some d) a all b e f = claimed s d a.verdict b e (sym f.0)
  found_claim None a all b e f = exact f.0 (kept_starts m proper s b) (sure_starts (goal s e))

pub verdict_right : (m : Model) (s t : ℕ) (v : Verdict) → Claim m s t v → RightVerdict m s t v
verdict_right m s t Yes c = record { yes_only = λ _. c; yes_all = λ _. refl; no_only = λ e. absurd (cc); no_all = λ f. absurd (f c) }
verdict_right m s t No c = record { yes_only = λ e. absurd (cc); yes_all = λ r. absurd (c r); no_only = λ _. c; no_all = λ _. refl }

-- what is said first, where the equality holds
pub said_same : (b : Bool) (o : Option Decision) → b ≡ true → first (on_ground 1 (says b Yes)) o ≡ Some (record { verdict = Yes; ground = 1 })
said_same true o e = refl
said_same false o e = absurd (false≢true e)

-- and where it does not
pub said_other : (b : Bool) (o : Option Decision) → b ≡ false → first (on_ground 1 (says b Yes)) o ≡ o
said_other true o e = absurd (false≢true (sym e))
said_other false o e = refl

-- what the equality says of w and t is right, and it says something of t
module _ (m : Model) (w t : ℕ) (o : Option Decision) where
  pub first_right : (b : Bool) → eqb w t ≡ b → ((w ≡ t → ⊥) → RightIfAny m w t o) → RightIfAny m w t (first (on_ground 1 (says b Yes)) o)
  first_right true e f = record { claim = subst (Reaches m w) (eqb-true w t e) ∣ stay ∣₁ }
  first_right false e f = f (eqb-false w t e)

  pub first_goal : (b : Bool) → eqb w t ≡ b → first (on_ground 1 (says b Yes)) o ≡ None → w ≡ t → ⊥
  first_goal true e none q = cc
  first_goal false e none q = eqb-false w t e q

module _ (m : Model) (proper : Proper m) (judge : Judge) (lawful : Lawful judge) (labels : Labels) (supports : Supports)
    (rules : Rules m labels supports) (t : ℕ) (bt : t < m.order) where
  told_right : (w : ℕ) → w < m.order → RightIfAny m w t (told judge labels t w)
  told_right w b = first_right m w t _ (eqb w t) refl (lawful m proper labels supports rules w t b bt)

  told_goal : (w : ℕ) → told judge labels t w ≡ None → w ≡ t → ⊥
  told_goal w = first_goal m w t _ (eqb w t) refl

  -- what the definition answers is right
  pub found_right : (s : ℕ) (a : Answer) (all : List ℕ) → s < m.order →
      Found m (told judge labels t) s (told judge labels t s) a all → RightVerdict m s t a.verdict
  found_right s a all b f =
      verdict_right m s t a.verdict
      (found_claim m proper (told judge labels t) s t told_right told_goal (told judge labels t s) a all b refl f)
