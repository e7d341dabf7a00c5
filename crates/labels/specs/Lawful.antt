-- Each test is lawful. Assumes nothing.
use Rattle.std.specs.Prelude.{◌≡◌, ℕ, ◌<◌, true, ◌||◌, Option, ◌==◌, ◌≢◌, nat_lt}
use Rattle.std.proofs.Common.{inl, inr, arith}
use Rattle.std.proofs.Math.Logic.{∥∥₁_elim, ∥∥₁_map, ∥∥₁_prop}
use Rattle.std.proofs.lemmas.Bool.Decides.{nat_tests}
use Rattle.std.proofs.lemmas.Bool.{or_cases, eqb-true, ltb-false, leb-true}
use Rattle.graph.specs.Model.{Model, Proper}
use Rattle.graph.specs.Paths.{Reaches}
use Rattle.graph.specs.Square.{flagged}
use Rattle.graph.proofs.Paths.{join_paths, no_path}
use Rattle.labels.specs.declared.label.Label.{Label}
use Rattle.labels.specs.declared.decision.Decision.{Decision}
use Rattle.labels.specs.declared.decision.Verdict.TheVariants.{Yes, No}
use Rattle.labels.specs.declared.rule.Rule.TheVariants.{Sures}
use Rattle.labels.specs.Labels.{Labels, Supports, Forward, Backward, position, sure, row}
use Rattle.labels.specs.Rules.{Rules}
use Rattle.labels.specs.Judges.{Judge, meets, exceeds, same, ends, components, levels, forward, backward, orders, supports, or_else, six}
use Rattle.labels.specs.Laws.{Claim, Right, RightOnRules, Lawful, NumberedIfAny, Numbered}
use Rattle.labels.specs.BoundedLemmas.{meets_tells, exceeds_tells}
use Rattle.labels.specs.Facts as fact
use Rattle.labels.specs.Facts.{forward_row}
use Rattle.labels.specs.Decisions.{ClaimIfAny, claim_says, claim_next, holds_first, right_grounded}

pub same_lawful : Lawful same
same_lawful g proper labels supp rules s t hs ht ne = right_grounded g s t 1 _ (claim_says g s t (s == t) Yes (λ e. absurd (ne (eqb-true s t e))))

pub ends_lawful : Lawful ends
ends_lawful g proper labels supp rules s t hs ht ne =
    right_grounded g s t 2 _ (claim_says g s t _ No (λ e. no_path (λ p.
    let up = fact.up_lt g proper labels supp rules ne p in
    let down = fact.down_lt g proper labels supp rules ne p in
    grind (arith, nat_tests))))

pub components_lawful : Lawful components
components_lawful g proper labels supp rules s t hs ht ne =
    right_grounded g s t 3 _ (claim_says g s t _ No (λ e. no_path (λ p.
    let same = fact.component_same g proper labels supp rules p in
    grind (arith, nat_tests))))

pub levels_lawful : Lawful levels
levels_lawful g proper labels supp rules s t hs ht ne =
    right_grounded g s t 4 _ (claim_says g s t _ No (λ e. no_path (λ p.
    let up = fact.up_lt g proper labels supp rules ne p in
    let down = fact.down_lt g proper labels supp rules ne p in
    grind (arith, nat_tests))))

module _ (g : Model) (proper : Proper g) (labels : Labels) (supp : Supports) (rules : Rules g labels supp) (s t : ℕ) (hs : s < g.order) (ht : t < g.order) where
  lower : (r : ℕ) → r < 4 → nat_lt (position labels r t) (position labels r s) ≡ true → Reaches g s t → ⊥
  lower r hr k =
      no_path (λ p. let le = fact.position_le g proper labels supp rules r hr p in grind (arith, nat_tests))

  forward_right : (r : ℕ) → Forward r → ClaimIfAny g s t (forward (row (labels s) r) (row (labels t) r))
  forward_right r hr =
      claim_next g s t _ No _ (lower r (forward_row r hr)) (λ k.
      let le = ltb-false (position labels r t) (position labels r s) k in
      claim_next g s t _ Yes _
      (λ j. fact.sure_reached g proper labels supp rules r hr s t (sure labels r s) hs ht ((rules Sures s hs).forward r hr) le (leb-true _ _ j))
      (λ _. claim_next g s t _ Yes _
      (λ j. fact.far_reached g proper labels supp rules r hr s t hs ht (eqb-true _ _ j))
      (λ _. claim_says g s t _ No (λ j. no_path (λ p.
      let high = fact.far_high g proper labels supp rules r hr ht p in
      grind (arith, nat_tests))))))

  backward_right : (r : ℕ) → Backward r → ClaimIfAny g s t (backward (row (labels s) r) (row (labels t) r))
  backward_right r hr =
      claim_next g s t _ No _ (lower r hr.high) (λ k.
      let le = ltb-false (position labels r t) (position labels r s) k in
      claim_next g s t _ Yes _
      (λ j. fact.sure_reached_back g proper labels supp rules r hr s t (sure labels r t) hs ht ((rules Sures t ht).backward r hr) le (leb-true _ _ j))
      (λ _. claim_next g s t _ Yes _
      (λ j. fact.far_reached_back g proper labels supp rules r hr s t hs ht (eqb-true _ _ j))
      (λ _. claim_says g s t _ No (λ j. no_path (λ p.
      let low = fact.far_low g proper labels supp rules r hr hs p in
      grind (arith, nat_tests))))))

pub orders_lawful : Lawful orders
orders_lawful g proper labels supp rules s t hs ht ne =
    let fore = forward_right g proper labels supp rules s t hs ht in
    let back = backward_right g proper labels supp rules s t hs ht in
    right_grounded g s t 5 _
    (holds_first (Claim g s t) _ _ (fore 0 (omega arith))
    (holds_first (Claim g s t) _ _ (fore 1 (omega arith))
    (holds_first (Claim g s t) _ _ (back 2 (record { low = omega arith; high = omega arith }))
    (back 3 (record { low = omega arith; high = omega arith })))))

-- a bit that is set in the first mask and not in the second is not handed on
not_handed : (m n : ℕ) → ((i : ℕ) → i < 16 → flagged m i ≡ true → flagged n i ≡ true) → exceeds m n ≢ true
not_handed m n kept e = let (i, hi, (set, unset)) = (exceeds_tells m n).0 e in unset (kept i hi set)

pub supports_lawful : Lawful supports
supports_lawful g proper labels supp rules s t hs ht ne =
    right_grounded g s t 6 _
    (claim_next g s t (meets (labels s).to (labels t).from) Yes _
    (λ k. let (i, hi, (to, from)) = (meets_tells (labels s).to (labels t).from).0 k in
    ∥∥₁_elim (fact.to_reaches g proper labels supp rules i s hi hs to) ∥∥₁_prop (λ p.
    ∥∥₁_map (fact.from_reached g proper labels supp rules i t hi ht from) (λ q. join_paths p q)))
    (λ _. claim_says g s t (exceeds (labels s).from (labels t).from || exceeds (labels t).to (labels s).to) No (λ k. no_path (λ p.
    elim (or_cases (exceeds (labels s).from (labels t).from) (exceeds (labels t).to (labels s).to) k) [
      | inl j ↦ not_handed (labels s).from (labels t).from (λ i hi. fact.from_kept g proper labels supp rules i hi p) j
      | inr j ↦ not_handed (labels t).to (labels s).to (λ i hi. fact.to_kept g proper labels supp rules i hi p) j
    ]))))

pub or_else_lawful : (j k : Judge) → Lawful j → Lawful k → Lawful (or_else j k)
or_else_lawful j k a b g proper labels supp rules s t hs ht ne =
    holds_first (Right g s t) _ _ (a g proper labels supp rules s t hs ht ne) (b g proper labels supp rules s t hs ht ne)

pub six_lawful : Lawful six
six_lawful =
    search (or_else_lawful, same_lawful, ends_lawful, components_lawful, levels_lawful, orders_lawful, supports_lawful) depth 7

-- what a lawful test answers on two labels that stand in labels that meet the rules
pub lawful_answer : (j : Judge) → Lawful j → (s t : ℕ) (a b : Label) (o : Option Decision) → o ≡ j s t a b → RightOnRules s t a b o
lawful_answer j law s t a b o e g proper labels supp rules hs ht ne p q =
    rw (e, p, q) (law g proper labels supp rules s t hs ht ne)

-- and its number
pub numbered_answer : (j : Judge) → Numbered j → (s t : ℕ) (a b : Label) (o : Option Decision) → o ≡ j s t a b → NumberedIfAny o
numbered_answer j law s t a b o e = rw e (law s t a b)
