-- What is promised of the answer to a question. Assumes nothing.
use Rattle.std.specs.Prelude.{◌≡◌, ℕ, ◌<◌, ◌≤◌, List, [], ◌∷◌, length, take, drop, Some, None, Ok, Err, Option, Result}
use Rattle.std.specs.List.{AllByRecursion}
use Rattle.graph.specs.Model.{Model}
use Rattle.graph.specs.Paths.{Reaches}
use Rattle.labels.specs.declared.decision.Verdict.{Verdict}
use Rattle.labels.specs.declared.decision.Verdict.TheVariants.{Yes, No}
use Rattle.labels.specs.declared.decision.Decision.{Decision}
use Rattle.asking.specs.declared.answer.Answer.{Answer}
use Rattle.search.specs.declared.Refusal.{Refusal}
use Rattle.search.specs.Refusals.{refusal_of_two}
use Rattle.asking.specs.Search.{Runs, between}
use Rattle.search.specs.Under.{Distinct}

-- the answer of this verdict, on this ground, with so many vertices opened
abbrev pub answer_of : (verdict : Verdict) → (ground : ℕ) → (opened : ℕ) → Answer
answer_of verdict ground opened = record { verdict = verdict; ground = ground; opened = opened }

-- the answer and the list of opened vertices, by what is said of s: a decision is the answer, and a pass starts the search with s alone
abbrev pub Found : Model → (ℕ → Option Decision) → ℕ → Option Decision → Answer → List ℕ → Type 0
Found g tells s (Some d) a all = (a.verdict ≡ d.verdict) × (a.ground ≡ d.ground) × (a.opened ≡ 0)
Found g tells s None a all = Runs g tells between (s ∷ []) (s ∷ []) [] a.verdict all × (a.ground ≡ 0) × (a.opened ≡ length all)

-- the first entries of the slice are the opened vertices, as many as the answer says, and the others are as before
pub record Answered (g : Model) (tells : ℕ → Option Decision) (s : ℕ) (before after : List ℕ) (a : Answer) : Type 0 where
  pub found : Found g tells s (tells s) a (take a.opened after)
  pub few : a.opened ≤ g.order
  pub distinct : Distinct (take a.opened after)
  pub vertices : AllByRecursion (λ v. v < g.order) (take a.opened after)
  pub rest : drop a.opened after ≡ drop a.opened before

-- what `ask` answers of s and t, and what the slice holds after; `tells` is what is said of each vertex and t
abbrev pub Asked : Model → (ℕ → Option Decision) → ℕ → ℕ → List ℕ → List ℕ → Result Answer Refusal → Type 0
Asked g tells s t before after (Ok a) = (refusal_of_two g.order s t (length before) ≡ None) × Answered g tells s before after a
Asked g tells s t before after (Err e) = (refusal_of_two g.order s t (length before) ≡ Some e) × (after ≡ before)

-- yes exactly where s reaches t, and no exactly where it does not
pub record RightVerdict (g : Model) (s t : ℕ) (v : Verdict) : Type 0 where
  pub yes_only : v ≡ Yes → Reaches g s t
  pub yes_all : Reaches g s t → v ≡ Yes
  pub no_only : v ≡ No → Reaches g s t → ⊥
  pub no_all : (Reaches g s t → ⊥) → v ≡ No

-- an answer, if it is no refusal, has the right verdict
abbrev pub AnsweredRight : Model → ℕ → ℕ → Result Answer Refusal → Type 0
AnsweredRight g s t (Ok a) = RightVerdict g s t a.verdict
AnsweredRight g s t (Err e) = Unit {0}

-- no two answers, and no two slices, are as promised
abbrev pub OneAnswer : Type 0
OneAnswer =
    (g : Model) (tells : ℕ → Option Decision) (s t : ℕ) (before after after' : List ℕ) (r r' : Result Answer Refusal) →
    Asked g tells s t before after r → Asked g tells s t before after' r' → (r ≡ r') × (after ≡ after')
