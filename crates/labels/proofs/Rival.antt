-- Labels with the strongest entries decide all that rival labels decide. Assumes nothing.
use Rattle.std.proofs.Common.{◌≡◌, ℕ, ◌+◌, ◌<◌, ◌≤◌, Bool, true, false, not, ◌||◌, eqb, ltb, leb, Some, None, Option, sym, refl, ap, ◌∙◌, inl, inr, arith}
use Rattle.std.specs.Option.{IsSome}
use mathlib.Core.Bool.{Bool-set, false≢true}
use mathlib.Core.Logic.{∥∥₁_elim, ∥∥₁_map}
use native.Mathlib.Nat.{ℕ_set}
use Rattle.std.proofs.lemmas.Bool.Decides.{nat_tests}
use Rattle.std.proofs.lemmas.Bool.{or_cases, or_left, or_right, eq-eqb, cases_eq}
use Rattle.graph.specs.Model.{Model, Proper, reversed}
use Rattle.graph.specs.Paths.{Path}
use Rattle.graph.specs.Square.{flagged}
use Rattle.graph.specs.Facts.{reversed_proper}
use Rattle.graph.proofs.Paths.{along_path, reverse_path, path_inside}
use Rattle.labels.specs.declared.rule.Rule.TheVariants.{Sures, Fars, Levels, Components, SupportBits}
use Rattle.labels.specs.declared.label.Row.{Row}
use Rattle.labels.specs.declared.decision.Verdict.{Verdict}
use Rattle.labels.specs.declared.decision.Verdict.TheVariants.{Yes, No}
use Rattle.labels.specs.declared.decision.Decision.{Decision}
use Rattle.labels.specs.Labels.{Labels, Supports, Forward, Backward, position, sure, far, row}
use Rattle.labels.specs.Rules.{Rules, SureForward, SureBackward}
use Rattle.labels.specs.Judges.{Judge, first, says, on_ground, meets, exceeds, same, ends, components, levels, forward, backward, orders, supports, or_else, six}
use Rattle.labels.specs.Laws.{Claim, RightIfAny}
use Rattle.labels.specs.Theorems.{undirected, Strongest, SamePositions, verdict_of, RivalsDecideNoMore}
use Rattle.labels.specs.BoundedLemmas.{meets_tells, exceeds_tells}
use Rattle.labels.specs.Facts as fact
use Rattle.labels.specs.Facts.{forward_row}
use Rattle.labels.proofs.Unique.{extreme_unique}
use Rattle.labels.specs.Lawful.{six_lawful}

first_mono : {A : Type 0} (o p o' p' : Option A) → (IsSome o → IsSome o') → (IsSome p → IsSome p') → IsSome (first o p) → IsSome (first o' p')
first_mono None p None p' f h d = h d
first_mono None p (Some x) p' f h d = refl
first_mono (Some x) p None p' f h d = absurd (false≢true (f refl))
first_mono (Some x) p (Some y) p' f h d = refl

says_mono : (b b' : Bool) (v : Verdict) → (b ≡ true → b' ≡ true) → IsSome (says b v) → IsSome (says b' v)
says_mono true true v f d = refl
says_mono true false v f d = f refl
says_mono false true v f d = refl
says_mono false false v f d = d

next_mono : (b b' : Bool) (v : Verdict) (o o' : Option Verdict) → (b ≡ true → b' ≡ true) → (IsSome o → IsSome o') → IsSome (first (says b v) o) → IsSome (first (says b' v) o')
next_mono b b' v o o' f h = first_mono (says b v) o (says b' v) o' (says_mono b b' v f) h

ground_mono : (k : ℕ) (o o' : Option Verdict) → (IsSome o → IsSome o') → IsSome (on_ground k o) → IsSome (on_ground k o')
ground_mono k None None f d = d
ground_mono k None (Some y) f d = refl
ground_mono k (Some x) None f d = f refl
ground_mono k (Some x) (Some y) f d = refl

or_mono : (a b c d : Bool) → (a ≡ true → c ≡ true) → (b ≡ true → d ≡ true) → (a || b) ≡ true → (c || d) ≡ true
or_mono a b c d f h t = elim (or_cases a b t) [ inl k ↦ or_left c d (f k) | inr k ↦ or_right c d (h k) ]

-- positions below the order are all that the sure rule reads
sure_forward_moves :
    (g : Model) → Proper g → (place place' : ℕ → ℕ) → ((v : ℕ) → v < g.order → place v ≡ place' v)
    → (v m : ℕ) → v < g.order → SureForward g place v m → SureForward g place' v m
sure_forward_moves g proper place place' same v m hv h =
    let e = same v hv in
    let low = h.low in
    record {
      low = omega arith;
      high = h.high;
      fed = λ w hw up le. let f = same w hw in
          ∥∥₁_map (h.fed w hw (omega arith) (omega arith)) (λ (u, a, k). let d = same u (proper.within u w a).0 in (u, a, omega arith));
    }

sure_backward_moves :
    (g : Model) → Proper g → (place place' : ℕ → ℕ) → ((v : ℕ) → v < g.order → place v ≡ place' v)
    → (v m : ℕ) → v < g.order → SureBackward g place v m → SureBackward g place' v m
sure_backward_moves g proper place place' same v m hv h =
    let e = same v hv in
    let high = h.high in
    record {
      high = omega arith;
      fed = λ w hw up le. let f = same w hw in
          ∥∥₁_map (h.fed w hw (omega arith) (omega arith)) (λ (u, a, k). let d = same u (proper.within w u a).1 in (u, a, omega arith));
    }

-- what a support reaches is marked
from_set :
    (g : Model) (proper : Proper g) (labels : Labels) (supp : Supports) (rules : Rules g labels supp)
    → (i v : ℕ) → i < 16 → v < g.order → Path g (supp i) v → flagged (labels v).from i ≡ true
from_set g proper labels supp rules i v hi hv p =
    let hs : supp i < g.order = path_inside (reversed g) (reversed_proper g proper) (reverse_path p) hv in
    fact.from_kept g proper labels supp rules i hi p (((rules SupportBits (supp i) hs).from i hi).1 ∣ inl refl ∣₁)

to_set :
    (g : Model) (proper : Proper g) (labels : Labels) (supp : Supports) (rules : Rules g labels supp)
    → (i v : ℕ) → i < 16 → v < g.order → Path g v (supp i) → flagged (labels v).to i ≡ true
to_set g proper labels supp rules i v hi hv p =
    let hs : supp i < g.order = path_inside g proper p hv in
    fact.to_kept g proper labels supp rules i hi p (((rules SupportBits (supp i) hs).to i hi).1 ∣ inl refl ∣₁)

-- any two labellings with the same supports have the same bits
from_moves :
    (g : Model) (proper : Proper g) (labels labels' : Labels) (supp : Supports) → Rules g labels supp → Rules g labels' supp
    → (i v : ℕ) → i < 16 → v < g.order → flagged (labels v).from i ≡ true → flagged (labels' v).from i ≡ true
from_moves g proper labels labels' supp rules rules' i v hi hv b =
    ∥∥₁_elim (fact.from_reached g proper labels supp rules i v hi hv b) (Bool-set _ _) (from_set g proper labels' supp rules' i v hi hv)

to_moves :
    (g : Model) (proper : Proper g) (labels labels' : Labels) (supp : Supports) → Rules g labels supp → Rules g labels' supp
    → (i v : ℕ) → i < 16 → v < g.order → flagged (labels v).to i ≡ true → flagged (labels' v).to i ≡ true
to_moves g proper labels labels' supp rules rules' i v hi hv b =
    ∥∥₁_elim (fact.to_reaches g proper labels supp rules i v hi hv b) (Bool-set _ _) (to_set g proper labels' supp rules' i v hi hv)

-- the bits of the first mask are set in the second
abbrev Carried : ℕ → ℕ → Type 0
Carried m n = (i : ℕ) → i < 16 → flagged m i ≡ true → flagged n i ≡ true

meets_moves : (m n m' n' : ℕ) → Carried m m' → Carried n n' → meets m n ≡ true → meets m' n' ≡ true
meets_moves m n m' n' f h t = let (i, hi, (a, b)) = (meets_tells m n).0 t in (meets_tells m' n').1 (i, hi, (f i hi a, h i hi b))

exceeds_moves : (m n m' n' : ℕ) → Carried m m' → Carried n' n → exceeds m n ≡ true → exceeds m' n' ≡ true
exceeds_moves m n m' n' f h t = let (i, hi, (a, b)) = (exceeds_tells m n).0 t in (exceeds_tells m' n').1 (i, hi, (f i hi a, λ c. b (h i hi c)))

-- one row: the same positions and far, and a sure place that decides no less
forward_mono :
    (x y x' y' : Row) → x.position ≡ x'.position → y.position ≡ y'.position → x.sure ≤ x'.sure → x.far ≡ x'.far
    → IsSome (forward x y) → IsSome (forward x' y')
forward_mono x y x' y' px py sx fx =
    next_mono (ltb y.position x.position) (ltb y'.position x'.position) No _ _ (λ t. grind (arith, nat_tests))
    (next_mono (leb y.position x.sure) (leb y'.position x'.sure) Yes _ _ (λ t. grind (arith, nat_tests))
    (next_mono (eqb y.position x.far) (eqb y'.position x'.far) Yes _ _ (λ t. grind (arith, nat_tests))
    (says_mono _ _ No (λ t. grind (arith, nat_tests)))))

backward_mono :
    (x y x' y' : Row) → x.position ≡ x'.position → y.position ≡ y'.position → y'.sure ≤ y.sure → y.far ≡ y'.far
    → IsSome (backward x y) → IsSome (backward x' y')
backward_mono x y x' y' px py sy fy =
    next_mono (ltb y.position x.position) (ltb y'.position x'.position) No _ _ (λ t. grind (arith, nat_tests))
    (next_mono (leb y.sure x.position) (leb y'.sure x'.position) Yes _ _ (λ t. grind (arith, nat_tests))
    (next_mono (eqb x.position y.far) (eqb x'.position y'.far) Yes _ _ (λ t. grind (arith, nat_tests))
    (says_mono _ _ No (λ t. grind (arith, nat_tests)))))

module _ (g : Model) (proper : Proper g) (labels rival : Labels) (supp : Supports) (strongest : Strongest g labels supp) (rules' : Rules g rival supp) (placed : SamePositions g rival labels) where
  rules : Rules g labels supp
  rules = strongest.rules

  up_same : (v : ℕ) → v < g.order → (rival v).up ≡ (labels v).up
  up_same =
      extreme_unique (λ a b. a ≤ b) (λ a b h k. omega arith) g proper (position labels 0) (fact.rises g proper labels supp rules 0 (omega arith)) (λ x. x + 1) (λ _. 0) (λ _. 0)
      (λ v. (rival v).up) (λ v. (labels v).up) (λ v hv. refl) (λ v hv. (rules' Levels v hv).up) (λ v hv. (rules Levels v hv).up)

  down_same : (v : ℕ) → v < g.order → (rival v).down ≡ (labels v).down
  down_same =
      extreme_unique (λ a b. a ≤ b) (λ a b h k. omega arith) (reversed g) (reversed_proper g proper) (λ v. (labels v).down) (fact.down_falls g proper labels supp rules) (λ x. x + 1) (λ _. 0) (λ _. 0)
      (λ v. (rival v).down) (λ v. (labels v).down) (λ v hv. refl) (λ v hv. (rules' Levels v hv).down) (λ v hv. (rules Levels v hv).down)

  far_same : (r : ℕ) → Forward r → (v : ℕ) → v < g.order → far rival r v ≡ far labels r v
  far_same r hr =
      extreme_unique (λ a b. a ≤ b) (λ a b h k. omega arith) (reversed g) (reversed_proper g proper) (λ v. (labels v).down) (fact.down_falls g proper labels supp rules) (λ x. x) (position rival r) (position labels r)
      (far rival r) (far labels r) (placed r (forward_row r hr)) (λ v hv. (rules' Fars v hv).forward r hr) (λ v hv. (rules Fars v hv).forward r hr)

  far_same_back : (r : ℕ) → Backward r → (v : ℕ) → v < g.order → far rival r v ≡ far labels r v
  far_same_back r hr =
      extreme_unique (λ a b. b ≤ a) (λ a b h k. omega arith) g proper (position labels 0) (fact.rises g proper labels supp rules 0 (omega arith)) (λ x. x) (position rival r) (position labels r)
      (far rival r) (far labels r) (placed r hr.high) (λ v hv. (rules' Fars v hv).backward r hr) (λ v hv. (rules Fars v hv).backward r hr)

  sure_more : (r : ℕ) → Forward r → (v : ℕ) → v < g.order → sure rival r v ≤ sure labels r v
  sure_more r hr v hv =
      strongest.sure_greatest v hv r hr (sure rival r v)
      (sure_forward_moves g proper (position rival r) (position labels r) (placed r (forward_row r hr)) v (sure rival r v) hv ((rules' Sures v hv).forward r hr))

  sure_less : (r : ℕ) → Backward r → (v : ℕ) → v < g.order → sure labels r v ≤ sure rival r v
  sure_less r hr v hv =
      strongest.sure_least v hv r hr (sure rival r v)
      (sure_backward_moves g proper (position rival r) (position labels r) (placed r hr.high) v (sure rival r v) hv ((rules' Sures v hv).backward r hr))

  -- the rival's component is the same along arcs read either way
  rival_linked : {u v : ℕ} → Path (undirected g) u v → (rival v).component ≡ (rival u).component
  rival_linked p =
      along_path (undirected g) (λ u v. (rival v).component ≡ (rival u).component) (λ v. refl) (λ u v w e f. f ∙ e)
      (λ v w a. elim (or_cases (g.arc v w) (g.arc w v) a) [
        | inl k ↦ rules' Components v (proper.within v w k).0 w k
        | inr k ↦ sym (rules' Components w (proper.within w v k).0 v k)
      ]) p

  component_same : (s t : ℕ) → s < g.order → t < g.order → (labels s).component ≡ (labels t).component → (rival s).component ≡ (rival t).component
  component_same s t hs ht e =
      ∥∥₁_elim (strongest.component_linked s hs) (ℕ_set _ _) (λ p. ∥∥₁_elim (strongest.component_linked t ht) (ℕ_set _ _) (λ q.
      sym (rival_linked p) ∙ ap (λ x. (rival x).component) e ∙ rival_linked q))

  module _ (s t : ℕ) (hs : s < g.order) (ht : t < g.order) where
    ends_mono : IsSome (ends s t (rival s) (rival t)) → IsSome (ends s t (labels s) (labels t))
    ends_mono =
        let d = down_same s hs in
        let u = up_same t ht in
        ground_mono 2 _ _ (says_mono (eqb (rival s).down 0 || eqb (rival t).up 0) (eqb (labels s).down 0 || eqb (labels t).up 0) No (λ k. grind (arith, nat_tests)))

    components_mono : IsSome (components s t (rival s) (rival t)) → IsSome (components s t (labels s) (labels t))
    components_mono =
        let same = component_same s t hs ht in
        ground_mono 3 _ _
        (says_mono (not (eqb (rival s).component (rival t).component)) (not (eqb (labels s).component (labels t).component)) No (λ k. grind (arith, nat_tests)))

    levels_mono : IsSome (levels s t (rival s) (rival t)) → IsSome (levels s t (labels s) (labels t))
    levels_mono =
        let ds = down_same s hs in
        let us = up_same s hs in
        let dt = down_same t ht in
        let ut = up_same t ht in
        ground_mono 4 _ _
        (says_mono (leb (rival t).up (rival s).up || leb (rival s).down (rival t).down) (leb (labels t).up (labels s).up || leb (labels s).down (labels t).down) No
        (λ k. grind (arith, nat_tests)))

    fore : (r : ℕ) → Forward r → IsSome (forward (row (rival s) r) (row (rival t) r)) → IsSome (forward (row (labels s) r) (row (labels t) r))
    fore r hr =
        forward_mono (row (rival s) r) (row (rival t) r) (row (labels s) r) (row (labels t) r)
        (placed r (forward_row r hr) s hs) (placed r (forward_row r hr) t ht) (sure_more r hr s hs) (far_same r hr s hs)

    back : (r : ℕ) → Backward r → IsSome (backward (row (rival s) r) (row (rival t) r)) → IsSome (backward (row (labels s) r) (row (labels t) r))
    back r hr =
        backward_mono (row (rival s) r) (row (rival t) r) (row (labels s) r) (row (labels t) r)
        (placed r hr.high s hs) (placed r hr.high t ht) (sure_less r hr t ht) (far_same_back r hr t ht)

    orders_mono : IsSome (orders s t (rival s) (rival t)) → IsSome (orders s t (labels s) (labels t))
    orders_mono =
        ground_mono 5 _ _
        (first_mono _ _ _ _ (fore 0 (omega arith))
        (first_mono _ _ _ _ (fore 1 (omega arith))
        (first_mono _ _ _ _ (back 2 (record { low = omega arith; high = omega arith }))
        (back 3 (record { low = omega arith; high = omega arith })))))

    supports_mono : IsSome (supports s t (rival s) (rival t)) → IsSome (supports s t (labels s) (labels t))
    supports_mono =
        let from : (v : ℕ) → v < g.order → Carried (rival v).from (labels v).from = λ v hv i hi. from_moves g proper rival labels supp rules' rules i v hi hv in
        let from' : (v : ℕ) → v < g.order → Carried (labels v).from (rival v).from = λ v hv i hi. from_moves g proper labels rival supp rules rules' i v hi hv in
        let to : (v : ℕ) → v < g.order → Carried (rival v).to (labels v).to = λ v hv i hi. to_moves g proper rival labels supp rules' rules i v hi hv in
        let to' : (v : ℕ) → v < g.order → Carried (labels v).to (rival v).to = λ v hv i hi. to_moves g proper labels rival supp rules rules' i v hi hv in
        ground_mono 6 _ _
        (next_mono (meets (rival s).to (rival t).from) (meets (labels s).to (labels t).from) Yes _ _ (meets_moves _ _ _ _ (to s hs) (from t ht))
        (says_mono _ _ No
        (or_mono (exceeds (rival s).from (rival t).from) (exceeds (rival t).to (rival s).to) (exceeds (labels s).from (labels t).from) (exceeds (labels t).to (labels s).to)
        (exceeds_moves _ _ _ _ (from s hs) (from' t ht)) (exceeds_moves _ _ _ _ (to t ht) (to' s hs)))))

    all_mono : IsSome (six s t (rival s) (rival t)) → IsSome (six s t (labels s) (labels t))
    all_mono =
        first_mono _ _ _ _ (λ d. d)
        (first_mono _ _ _ _ ends_mono
        (first_mono _ _ _ _ components_mono
        (first_mono _ _ _ _ levels_mono
        (first_mono _ _ _ _ orders_mono supports_mono))))

-- two right decisions agree
claims_agree : (g : Model) (s t : ℕ) (v w : Verdict) → Claim g s t v → Claim g s t w → v ≡ w
claims_agree g s t Yes Yes c d = refl
claims_agree g s t Yes No c d = absurd (d c)
claims_agree g s t No Yes c d = absurd (c d)
claims_agree g s t No No c d = refl

agree :
    (g : Model) (s t : ℕ) (o p : Option Decision) (v : Verdict) → RightIfAny g s t o → RightIfAny g s t p → (IsSome o → IsSome p)
    → verdict_of o ≡ Some v → verdict_of p ≡ Some v
agree g s t None p v c d f e = cc
agree g s t (Some x) None v c d f e = absurd (false≢true (f refl))
agree g s t (Some x) (Some y) v c d f e = ap (λ w. Some w) (claims_agree g s t y.verdict x.verdict d.claim c.claim) ∙ e

same_first : (s t : ℕ) (rest : Judge) → s ≡ t → (a b a' b' : _) → verdict_of (or_else same rest s t a b) ≡ verdict_of (or_else same rest s t a' b')
same_first s t rest e a b a' b' = rw (eq-eqb s t e)

pub rivals_decide_no_more_lem : RivalsDecideNoMore
rivals_decide_no_more_lem g proper labels rival supp strongest rules' placed s t hs ht v e =
    elim (cases_eq s t) [
      | inl same-vertex ↦
          sym (same_first s t (or_else ends (or_else components (or_else levels (or_else orders supports)))) same-vertex (rival s) (rival t) (labels s) (labels t)) ∙ e
      | inr ne ↦
          agree g s t (six s t (rival s) (rival t)) (six s t (labels s) (labels t)) v
          (six_lawful g proper rival supp rules' s t hs ht ne) (six_lawful g proper labels supp strongest.rules s t hs ht ne)
          (all_mono g proper labels rival supp strongest rules' placed s t hs ht) e
    ]
