-- A search puts no vertex twice, and so opens none twice. Assumes nothing.
use Rattle.std.proofs.Common.{◌≡◌, ℕ, ◌-◌, ◌<◌, Bool, true, false, ◌||◌, eqb, List, [], ◌∷◌, ◌++◌, Option, sym, refl, ap, ◌∙◌, ⊎_elim, ◌≤◌, length, take, drop, None, subst}
use mathlib.Core.Bool.{or-false, or_assoc, or_comm}
use Rattle.std.proofs.lemmas.Bool.{eqb-false, ne_eqb, or_parts, or_from, or_right, both_ways}
use Rattle.std.proofs.ByRecursion.{All-weaker, All-push}
use Rattle.std.proofs.lemmas.List.{length-take-le}
use Rattle.std.specs.List.{AllByRecursion}
use Rattle.graph.specs.Model.{Model, Proper}
use Rattle.labels.specs.declared.decision.Verdict.{Verdict}
use Rattle.labels.specs.declared.decision.Decision.{Decision}
use Rattle.asking.specs.declared.answer.Answer.{Answer}
use Rattle.asking.specs.Questions.{Answered}
use Rattle.asking.specs.Search.{Place, between, at, Runs, ends, opens, finds, drops, knows, puts, leaves}
use Rattle.search.specs.Under.{has}
use Rattle.search.specs.Under.{Distinct}
use Rattle.search.proofs.Lists.{has_push, has_first, entry}
use Rattle.search.specs.Successors.{successors_from}
use Rattle.search.proofs.Successors.{passing_pass}

-- the first of three comes last
or_moves : (a b d : Bool) → ((a || b) || d) ≡ (b || (d || a))
or_moves a b d = or_assoc a b d ∙ or_comm a (b || d) ∙ or_assoc b d a

distinct_push : (xs : List ℕ) (x : ℕ) → Distinct xs → has x xs ≡ false → Distinct (xs ++ x ∷ [])
distinct_push [] x k h = (h, tt)
distinct_push (y ∷ xs) x k h =
    let p = or_parts (eqb x y) (has x xs) h in
    (has_push y x xs ∙ or_from (has y xs) (eqb y x) k.0 (ne_eqb y x (λ q. eqb-false x y p.0 (sym q))), distinct_push xs x k.1 p.1)

-- what holds of each successor that is left
abbrev pub Ahead : (ℕ → Type 0) → Place → Type 0
Ahead P between = Unit {0}
Ahead P (at ws) = AllByRecursion P ws

-- what the lists of a search have in common
pub record Kept (m : Model) (place : Place) (waiting put opened : List ℕ) : Type 0 where
  pub same : (x : ℕ) → has x put ≡ (has x waiting || has x opened)
  pub apart : (x : ℕ) → has x waiting ≡ true → has x opened ≡ false
  pub waits : Distinct waiting
  pub once : Distinct opened
  pub inside : AllByRecursion (λ v. v < m.order) waiting
  pub within : AllByRecursion (λ v. v < m.order) opened
  pub ahead : Ahead (λ v. v < m.order) place

module _ (m : Model) (proper : Proper m) where
  pub kept_starts : (s : ℕ) → s < m.order → Kept m between (s ∷ []) (s ∷ []) []
  kept_starts s b = record {
    same = λ x. sym (or-false (has x (s ∷ [])));
    apart = λ x h. refl;
    waits = (refl, tt);
    once = tt;
    inside = (b, tt);
    within = tt;
    ahead = tt;
  }

  pub kept_opens : {u : ℕ} {waiting put opened : List ℕ} → Kept m between (u ∷ waiting) put opened → Kept m (at (successors_from m u 0)) waiting put (opened ++ u ∷ [])
  kept_opens {u} {waiting} {put} {opened} k = record {
    same = λ x. k.same x ∙ or_moves (eqb x u) (has x waiting) (has x opened) ∙ ap (λ b. has x waiting || b) (sym (has_push x u opened));
    apart = λ x h. has_push x u opened ∙
        or_from (has x opened) (eqb x u) (k.apart x (or_right (eqb x u) _ h))
        (ne_eqb x u (λ q. both_ways (has u waiting) k.waits.0 (ap (λ y. has y waiting) (sym q) ∙ h)));
    waits = k.waits.1;
    once = distinct_push opened u k.once (k.apart u (has_first u waiting));
    inside = k.inside.1;
    within = All-push (λ v. v < m.order) opened u k.within k.inside.0;
    ahead = All-weaker (λ w. m.arc u w ≡ true) _ (λ w a. (proper.within u w a).1) _ (passing_pass (m.arc u) (m.order - 0) 0);
  }

  pub kept_passes : {w : ℕ} {rest waiting put opened : List ℕ} → Kept m (at (w ∷ rest)) waiting put opened → Kept m (at rest) waiting put opened
  kept_passes k = search k

  pub kept_puts : {w : ℕ} {rest waiting put opened : List ℕ} → Kept m (at (w ∷ rest)) waiting put opened → has w put ≡ false →
      Kept m (at rest) (w ∷ waiting) (w ∷ put) opened
  kept_puts {w} {rest} {waiting} {put} {opened} k h =
      let new = or_parts (has w waiting) (has w opened) (sym (k.same w) ∙ h) in
      record {
        same = λ x. ap (λ b. eqb x w || b) (k.same x) ∙ sym (or_assoc (eqb x w) (has x waiting) (has x opened));
        apart = λ x i. ⊎_elim (λ (e : x ≡ w). rw e new.1) (k.apart x) (entry x w waiting i);
        waits = (new.0, k.waits);
        once = k.once;
        inside = (k.ahead.0, k.inside);
        within = k.within;
        ahead = k.ahead.1;
      }

  pub kept_leaves : {waiting put opened : List ℕ} → Kept m (at []) waiting put opened → Kept m between waiting put opened
  kept_leaves k = search k

  -- the vertices opened in the end are distinct
  pub opened_once : {tells : ℕ → Option Decision} {place : Place} {waiting put opened all : List ℕ} {v : Verdict} →
      Runs m tells place waiting put opened v all → Kept m place waiting put opened → Distinct all × AllByRecursion (λ x. x < m.order) all
  opened_once ends k = (k.once, k.within)
  opened_once (opens r) k = opened_once r (kept_opens k)
  opened_once (finds e y) k = (k.once, k.within)
  opened_once (drops e n r) k = opened_once r (kept_passes k)
  opened_once (knows e h r) k = opened_once r (kept_passes k)
  opened_once (puts e h r) k = opened_once r (kept_puts k h)
  opened_once (leaves r) k = opened_once r (kept_leaves k)

  -- what a search answered is as promised
  pub searched : (tells : ℕ → Option Decision) (s : ℕ) (before after : List ℕ) (v : Verdict) (count : ℕ) (a : Answer) → s < m.order → tells s ≡ None →
      Runs m tells between (s ∷ []) (s ∷ []) [] v (take count after) → count ≤ m.order → count ≤ length after → drop count after ≡ drop count before →
      a ≡ record { verdict = v; ground = 0; opened = count } → Answered m tells s before after a
  searched tells s before after v count a b e runs few long rest is =
      let once = opened_once runs (kept_starts s b) in
      subst (Answered m tells s before after) (sym is) (record {
        found = rw e (runs, refl, sym (length-take-le count after long));
        few = few;
        distinct = once.0;
        vertices = once.1;
        rest = rest;
      })
