-- The promise leaves one answer and one content of the slice. Assumes nothing.
use Rattle.std.proofs.Common.{◌≡◌, ℕ, List, length, take, Some, None, Ok, Err, Option, Result, sym, refl, ap, ◌∙◌}
use Rattle.graph.specs.Model.{Model}
use Rattle.labels.specs.declared.decision.Verdict.{Verdict}
use Rattle.labels.specs.declared.decision.Verdict.TheVariants.{Yes, No}
use Rattle.labels.specs.declared.decision.Decision.{Decision}
use Rattle.asking.specs.declared.answer.Answer.{Answer}
use Rattle.search.specs.declared.Refusal.{Refusal}
use Rattle.search.proofs.Determined.{clash, same_refusal, same_written}
use Rattle.asking.specs.Search.{Place, Runs, ends, opens, finds, drops, knows, puts, leaves}
use Rattle.asking.specs.Questions.{Found, Asked}

-- a test says one thing at most
yes_or_no : {A : Type 0} (o : Option Decision) (d e : Decision) → o ≡ Some d → d.verdict ≡ Yes → o ≡ Some e → e.verdict ≡ No → A
yes_or_no o d e p q i j = absurd (cc)

told_or_not : {A : Type 0} (o : Option Decision) (d : Decision) → o ≡ Some d → o ≡ None → A
told_or_not o d p q = absurd (cc)

-- from one place the search ends in one way
one_end : (g : Model) (tells : ℕ → Option Decision) {place : Place} {waiting put opened all all' : List ℕ} {v v' : Verdict} →
    Runs g tells place waiting put opened v all → Runs g tells place waiting put opened v' all' → (v ≡ v') × (all ≡ all')
one_end g tells ends ends = (refl, refl)
one_end g tells (opens r) (opens q) = one_end g tells r q
one_end g tells (finds e y) (finds e' y') = (refl, refl)
one_end g tells (finds e y) (drops e' n' q) = absurd (cc)
one_end g tells (finds e y) (knows e' h' q) = absurd (cc)
one_end g tells (finds e y) (puts e' h' q) = absurd (cc)
one_end g tells (drops e n r) (finds e' y') = absurd (cc)
one_end g tells (drops e n r) (drops e' n' q) = one_end g tells r q
one_end g tells (drops e n r) (knows e' h' q) = absurd (cc)
one_end g tells (drops e n r) (puts e' h' q) = absurd (cc)
one_end g tells (knows e h r) (finds e' y') = absurd (cc)
one_end g tells (knows e h r) (drops e' n' q) = absurd (cc)
one_end g tells (knows e h r) (knows e' h' q) = one_end g tells r q
one_end g tells (knows e h r) (puts e' h' q) = absurd (cc)
one_end g tells (puts e h r) (finds e' y') = absurd (cc)
one_end g tells (puts e h r) (drops e' n' q) = absurd (cc)
one_end g tells (puts e h r) (knows e' h' q) = absurd (cc)
one_end g tells (puts e h r) (puts e' h' q) = one_end g tells r q
one_end g tells (leaves r) (leaves q) = one_end g tells r q

same_answer : (a b : Answer) → a.verdict ≡ b.verdict → a.ground ≡ b.ground → a.opened ≡ b.opened → a ≡ b
same_answer a b v k n = λ i. record { verdict = v i; ground = k i; opened = n i }

-- one answer, and one list of opened vertices
one_found : (g : Model) (tells : ℕ → Option Decision) (s : ℕ) (o : Option Decision) (a b : Answer) (after after' : List ℕ) →
    Found g tells s o a (take a.opened after) → Found g tells s o b (take b.opened after') →
    (a ≡ b) × (take a.opened after ≡ take b.opened after')
one_found g tells s (Some d) a b after after' f h = (
  same_answer a b (f.0 ∙ sym h.0) (f.1 ∙ sym h.1) (f.2 ∙ sym h.2),
  ap (λ x. take x after) f.2 ∙ sym (ap (λ x. take x after') h.2),
)
one_found g tells s None a b after after' f h =
    let q = one_end g tells f.0 h.0 in
    (same_answer a b q.0 (f.1 ∙ sym h.1) (f.2 ∙ ap length q.1 ∙ sym h.2), q.1)

pub one_answer_lem : (g : Model) (tells : ℕ → Option Decision) (s t : ℕ) (before after after' : List ℕ) (r r' : Result Answer Refusal) →
    Asked g tells s t before after r → Asked g tells s t before after' r' → (r ≡ r') × (after ≡ after')
one_answer_lem g tells s t before after after' (Ok a) (Ok b) h i =
    let q = one_found g tells s (tells s) a b after after' h.1.found i.1.found in
    (ap Ok q.0, same_written before after after' a.opened b.opened (ap (λ x. x.opened) q.0) q.1 h.1.rest i.1.rest)
one_answer_lem g tells s t before after after' (Ok a) (Err d) h i = clash _ d h.0 i.0
one_answer_lem g tells s t before after after' (Err c) (Ok b) h i = clash _ c i.0 h.0
one_answer_lem g tells s t before after after' (Err c) (Err d) h i = (ap Err (same_refusal _ c d h.0 i.0), h.1 ∙ sym i.1)
