-- What a question says that is not refused, and the lines that answer `ask`, `trace` and `under`. Assumes nothing.
use Rattle.std.proofs.Common.{◌≡◌, ℕ, ◌<◌, ◌≤◌, Bool, true, false, eqb, List, length, take, None, sym, refl, subst, arith}
use Rattle.std.proofs.lemmas.Bool.{eqb-true, eqb-false}
use Rattle.std.proofs.lemmas.Bool.Decides.{nat_tests}
use Rattle.std.proofs.lemmas.List.{length-take, length-take-le}
use Rattle.std.proofs.ByRecursion.{All-weaker}
use Rattle.std.specs.List.{AllByRecursion}
use Rattle.graph.specs.Model.{Model, Proper}
use Rattle.graph.specs.Paths.{Reaches, stay}
use Rattle.labels.specs.declared.decision.Verdict.TheVariants.{Yes}
use Rattle.labels.specs.Judges.{first, says, on_ground}
use Rattle.labels.specs.Laws.{RightIfAny}
use Rattle.search.specs.Refusals.{refusal, refusal_of_two}
use Rattle.search.specs.Under.{UnderWritten, Under as Reached}
use Rattle.search.specs.Trace.{TraceWritten}
use Rattle.answers.specs.Printed.{trace_line, under_line}
use Rattle.asking.specs.declared.answer.Answer.{Answer}
use Rattle.asking.specs.Questions.{Found, RightVerdict}
use Rattle.asking.proofs.Verdicts.{found_claim, verdict_right}
use Rattle.collection.specs.Moves.{equality, TraceOrNone}

-- a question that is not refused names vertices
pub vertex : (n s room : ℕ) → refusal n s room ≡ None → s < n
vertex n s room e = grind (arith, nat_tests)

pub vertices : (n s t room : ℕ) → refusal_of_two n s t room ≡ None → (s < n) × (t < n)
vertices n s t room e = (grind (arith, nat_tests), grind (arith, nat_tests))

-- the first n entries that `under` wrote, of which k is another name, are printed whole
pub under_text : (g : Model) → Proper g → (s : ℕ) (before list text : List ℕ) (n k : ℕ) → k ≡ n → UnderWritten g s before list n →
    (length (take k list) ≤ 512 → AllByRecursion (λ x. x < 1000) (take k list) → text ≡ under_line s (take k list)) →
    (reached : List ℕ) × Reached g s reached × (text ≡ under_line s reached)
under_text g p s before list text n k e done prints =
    let small = p.small in
    let few = done.few in
    let within : AllByRecursion (λ x. x < 1000) (take n list) = All-weaker (λ x. x < g.order) (λ x. x < 1000) (λ x l. omega arith) (take n list) done.below in (
      take k list,
      subst (λ j. Reached g s (take j list)) (sym e) done.lists,
      prints (omega (arith, length-take k list)) (subst (λ j. AllByRecursion (λ x. x < 1000) (take j list)) (sym e) within),
    )

-- the same of the first n entries that `trace` wrote
pub trace_text : (g : Model) → Proper g → (s t : ℕ) (before list text : List ℕ) (n k : ℕ) → k ≡ n → 512 ≤ length list → TraceWritten g s t before list n →
    (length (take k list) ≤ 512 → AllByRecursion (λ x. x < 1000) (take k list) → text ≡ trace_line s t (take k list)) →
    (path : List ℕ) × TraceOrNone g s t path × (text ≡ trace_line s t path)
trace_text g p s t before list text n k e long done prints =
    let small = p.small in
    let few = done.few in
    let len = length-take-le n list (omega arith) in
    let within : AllByRecursion (λ x. x < 1000) (take n list) = All-weaker (λ x. x < g.order) (λ x. x < 1000) (λ x l. omega arith) (take n list) done.below in
    let found : TraceOrNone g s t (take n list) = record { found = λ l. done.found (omega arith); none = λ z. done.none (omega arith) } in (
      take k list,
      subst (λ j. TraceOrNone g s t (take j list)) (sym e) found,
      prints (omega (arith, length-take k list)) (subst (λ j. AllByRecursion (λ x. x < 1000) (take j list)) (sym e) within),
    )

-- what the equality says is right
pub equal_right : (g : Model) (t w : ℕ) (b : Bool) → eqb w t ≡ b → RightIfAny g w t (first (on_ground 1 (says b Yes)) (on_ground 1 (says b Yes)))
equal_right g t w true e = record { claim = subst (Reaches g w) (eqb-true w t e) ∣ stay ∣₁ }
equal_right g t w false e = tt

-- and it says something of the goal
pub unequal : (t w : ℕ) (b : Bool) → eqb w t ≡ b → first (on_ground 1 (says b Yes)) (on_ground 1 (says b Yes)) ≡ None → w ≡ t → ⊥
unequal t w true e none = λ _. cc
unequal t w false e none = eqb-false w t e

-- so the search with no other test answers right
pub equality_right : (g : Model) → Proper g → (s t : ℕ) (a : Answer) (all : List ℕ) → s < g.order → Found g (equality t) s (equality t s) a all → RightVerdict g s t a.verdict
equality_right g p s t a all b f =
    verdict_right g s t a.verdict
    (found_claim g p (equality t) s t (λ w _. equal_right g t w (eqb w t) refl) (λ w. unequal t w (eqb w t) refl) (equality t s) a all b refl f)
