-- What is promised of an answer, from what was done for it. Assumes nothing.
use Rattle.std.proofs.Common.{◌≡◌, ℕ, ◌<◌, ◌≤◌, List, length, take, Some, Ok, Option, sym, refl, subst, arith}
use Rattle.graph.specs.Model.{Model, Proper}
use Rattle.labels.specs.declared.decision.Decision.{Decision}
use Rattle.labels.specs.Labels.{Labels, Supports}
use Rattle.labels.specs.Rules.{Rules}
use Rattle.labels.specs.Judges.{Judge}
use Rattle.labels.specs.Laws.{Lawful}
use Rattle.asking.specs.declared.answer.Answer.{Answer}
use Rattle.search.proofs.Going.{neither_refused}
use Rattle.asking.specs.Search.{told}
use Rattle.asking.specs.Questions.{Found, Answered, Asked, AnsweredRight}
use Rattle.asking.proofs.Verdicts.{found_right}

-- a test answered
pub tested : (m : Model) (tells : ℕ → Option Decision) (s : ℕ) (before after : List ℕ) (d : Decision) (a : Answer) → tells s ≡ Some d → after ≡ before →
    a ≡ record { verdict = d.verdict; ground = d.ground; opened = 0 } → Answered m tells s before after a
tested m tells s before after d a e same is =
    subst (Answered m tells s before after) (sym is) (record {
      found = subst (λ o. Found m tells s o (record { verdict = d.verdict; ground = d.ground; opened = 0 }) (take 0 after)) (sym e) (refl, refl, refl);
      few = omega arith;
      distinct = tt;
      vertices = tt;
      rest = same;
    })

-- both clauses of `ask`, of a question that names vertices and a slice with room for all
pub promised : (m : Model) → Proper m → (judge : Judge) → Lawful judge → (labels : Labels) (s t : ℕ) (before after : List ℕ) (a : Answer) →
    s < m.order → t < m.order → m.order ≤ length before → Answered m (told judge labels t) s before after a →
    record {
      asked : Asked m (told judge labels t) s t before after (Ok a);
      right : (supports : Supports) → Rules m labels supports → AnsweredRight m s t (Ok a);
    }
promised m proper judge lawful labels s t before after a bs bt room k = record {
  asked = (neither_refused m.order s t (length before) bs bt room, k);
  right = λ supports rules. found_right m proper judge lawful labels supports rules t bt s a (take a.opened after) bs k.found;
}
