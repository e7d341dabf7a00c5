-- What holds as the list is written. Assumes nothing.
use Rattle.std.proofs.Common.{◌≡◌, ℕ, ◌+◌, ◌<◌, ◌≤◌, true, eqb, List, length, take, drop, set, None, length-append, [], ◌∷◌, ◌++◌, sym, ap, ◌∙◌, subst, ⊎_elim, arith}
use mathlib.Core.Bool.{Bool-set}
use mathlib.Core.Logic.{∥∥₁_elim}
use Rattle.std.proofs.lemmas.Bool.{cases_eq, eq-eqb, or_left, or_right}
use Rattle.std.proofs.lemmas.Bool.Decides.{nat_tests}
use Rattle.std.proofs.lemmas.List.{take_more_set, drop-set-lt, drop-drop}
use Rattle.std.proofs.ByRecursion.{All-weaker, All-push}
use Rattle.std.specs.List.{AllByRecursion}
use Rattle.graph.specs.Model.{Model, Proper}
use Rattle.graph.specs.Paths.{Reaches}
use Rattle.search.specs.Refusals.{refusal}
use Rattle.search.specs.Under.{has, Ascending, UnderWritten}
use Rattle.graph.proofs.Paths.{path_inside}
use Rattle.search.proofs.Lists.{has_push, ascending_push}

pub rest_more : (out before : List ℕ) (count u : ℕ) → drop count out ≡ drop count before → drop (count + 1) (set out count u) ≡ drop (count + 1) before
rest_more out before count u e =
    let l : count < count + 1 = omega arith in
    drop-set-lt (count + 1) out count u l ∙ sym (drop-drop 1 count out) ∙ ap (drop 1) e ∙ drop-drop 1 count before

pub not_refused : (n s room : ℕ) → s < n → n ≤ room → refusal n s room ≡ None
not_refused n s room b r = grind (arith, nat_tests)

-- the list has the vertices below v that s reaches
pub record Gathers (m : Model) (s v : ℕ) (list : List ℕ) : Type 0 where
  pub few : length list ≤ v
  pub ascending : Ascending list
  pub only : AllByRecursion (λ x. (x < v) × Reaches m s x) list
  pub all : (x : ℕ) → x < v → Reaches m s x → has x list ≡ true

module _ (m : Model) (s : ℕ) where
  pub gathers_none : Gathers m s 0 []
  gathers_none = record { few = omega arith; ascending = tt; only = tt; all = λ x i. absurd (omega arith) }

  module _ (v : ℕ) (list : List ℕ) (h : Gathers m s v list) where
    pub keeps : Reaches m s v → Gathers m s (v + 1) (list ++ v ∷ [])
    keeps r = record {
      few = omega (arith, h.few, length-append list (v ∷ []));
      ascending = ascending_push list v h.ascending (All-weaker _ (λ x. x < v) (λ x i. i.0) list h.only);
      only = All-push (λ x. (x < v + 1) × Reaches m s x) list v
          (All-weaker _ (λ x. (x < v + 1) × Reaches m s x) (λ x i. (omega (arith, i.0), i.1)) list h.only) (omega arith, r);
      all = λ x i q. has_push x v list ∙
          ⊎_elim (λ (j : x ≡ v). or_right _ (eqb x v) (eq-eqb x v j)) (λ (j : x ≡ v → ⊥). or_left _ (eqb x v) (h.all x (omega arith) q)) (cases_eq x v);
    }

    pub skips : (Reaches m s v → ⊥) → Gathers m s (v + 1) list
    skips f = record {
      few = omega (arith, h.few);
      ascending = h.ascending;
      only = All-weaker _ (λ x. (x < v + 1) × Reaches m s x) (λ x i. (omega (arith, i.0), i.1)) list h.only;
      all = λ x i q. ⊎_elim (λ (j : x ≡ v). absurd (f (subst (λ y. Reaches m s y) j q))) (λ (j : x ≡ v → ⊥). h.all x (omega arith) q) (cases_eq x v);
    }

-- the first `count` entries of the slice are such a list, and the others are as before
abbrev pub Stands : Model → ℕ → ℕ → List ℕ → List ℕ → ℕ → Type 0
Stands m s v before out count = Gathers m s v (take count out) × ((count ≤ v) × (drop count out ≡ drop count before))

module _ (m : Model) (s : ℕ) (before out : List ℕ) (count : ℕ) where
  pub stands_kept : (v : ℕ) → Stands m s v before out count → v < length out → Reaches m s v → Stands m s (v + 1) before (set out count v) (count + 1)
  stands_kept v (h, (le, rest)) room r =
      (subst (Gathers m s (v + 1)) (sym (take_more_set out count v (omega arith))) (keeps m s v (take count out) h r), (omega arith, rest_more out before count v rest))

  pub stands_skipped : (v : ℕ) → Stands m s v before out count → (Reaches m s v → ⊥) → Stands m s (v + 1) before out count
  stands_skipped v (h, (le, rest)) f = (skips m s v (take count out) h f, (omega arith, rest))

  pub gathered : Proper m → s < m.order → Stands m s m.order before out count → UnderWritten m s before out count
  gathered k b (h, (few, rest)) = record {
    lists = record {
      ascending = h.ascending;
      only = All-weaker _ (λ x. Reaches m s x) (λ x i. i.1) (take count out) h.only;
      all = λ x r. ∥∥₁_elim r (Bool-set _ _) (λ p. h.all x (path_inside m k p b) r);
    };
    few = few;
    below = All-weaker _ (λ x. x < m.order) (λ x i. i.0) (take count out) h.only;
    rest = rest;
  }
