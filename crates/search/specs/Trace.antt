-- The path from one vertex to another by the lowest successors that reach the end. Assumes nothing.
use Rattle.std.specs.Prelude.{◌≡◌, ℕ, ◌<◌, ◌≤◌, Bool, true, false, List, [], ◌∷◌, length, take, drop, Some, None, Ok, Err, Option, Result, ◌≢◌, slice_index_or}
use Rattle.std.specs.List.{AllByRecursion}
use Rattle.graph.specs.Model.{Model, Proper}
use Rattle.graph.specs.Paths.{Reaches, Cycle}
use Rattle.search.specs.declared.Refusal.{Refusal}
use Rattle.search.specs.Refusals.{refusal_of_two}

-- r is the lowest successor of u that is marked, or None where u has none
abbrev pub LowestMarked : Model → List Bool → ℕ → Option ℕ → Type 0
LowestMarked g marks u (Some v) =
    (v < g.order) × (g.arc u v ≡ true) × (slice_index_or marks v false ≡ true) × ((k : ℕ) → k < v → g.arc u k ≡ true → slice_index_or marks k false ≡ false)
LowestMarked g marks u None = (k : ℕ) → g.arc u k ≡ true → slice_index_or marks k false ≡ false

-- v is the lowest successor of u that reaches t
pub record Leads (g : Model) (t u v : ℕ) : Type 0 where
  pub joined : g.arc u v ≡ true
  pub reaches : Reaches g v t
  pub lowest : (k : ℕ) → k < v → g.arc u k ≡ true → Reaches g k t → ⊥

-- Trace g t s list: the list starts at s, each next vertex is the lowest successor that reaches t, and it ends where it comes to t
pub data Trace (g : Model) (t : ℕ) : ℕ → List ℕ → Type 0 where
  arrives : {u : ℕ} → u ≡ t → Trace g t u (u ∷ [])
  goes : {u v : ℕ} {rest : List ℕ} → (u ≢ t) → Leads g t u v → Trace g t v rest → Trace g t u (u ∷ rest)

-- the first `count` entries of the slice are the trace, or there is none and `count` is 0; the others are as before
pub record TraceWritten (g : Model) (s t : ℕ) (before after : List ℕ) (count : ℕ) : Type 0 where
  pub found : 0 < count → Trace g t s (take count after)
  pub none : count ≡ 0 → (list : List ℕ) → Trace g t s list → ⊥
  pub few : count ≤ g.order
  pub below : AllByRecursion (λ v. v < g.order) (take count after)
  pub rest : drop count after ≡ drop count before

-- what `trace` answers of s and t, and what the slice holds after
abbrev pub TraceAnswer : Model → ℕ → ℕ → List ℕ → List ℕ → Result ℕ Refusal → Type 0
TraceAnswer g s t before after (Ok count) = (refusal_of_two g.order s t (length before) ≡ None) × TraceWritten g s t before after count
TraceAnswer g s t before after (Err e) = (refusal_of_two g.order s t (length before) ≡ Some e) × (after ≡ before)

-- an answer, where there is one, is 0 exactly where s does not reach t
abbrev pub ZeroUnlessReaches : Model → ℕ → ℕ → Result ℕ Refusal → Type 0
ZeroUnlessReaches g s t (Ok count) = (count ≡ 0 → Reaches g s t → ⊥) × ((Reaches g s t → ⊥) → count ≡ 0)
ZeroUnlessReaches g s t (Err e) = Unit {0}

-- from s to t there is one trace at most
abbrev pub OneTrace : Type 0
OneTrace = (g : Model) (s t : ℕ) (p q : List ℕ) → Trace g t s p → Trace g t s q → p ≡ q

-- no two answers, and no two slices, are as promised
abbrev pub OneTraceAnswer : Type 0
OneTraceAnswer =
    (g : Model) (s t : ℕ) (before after after' : List ℕ) (r r' : Result ℕ Refusal) → length after ≡ length before → length after' ≡ length before →
    TraceAnswer g s t before after r → TraceAnswer g s t before after' r' → (r ≡ r') × (after ≡ after')

-- a trace has at most as many vertices as the graph, cycles or none
abbrev pub ShortTrace : Type 0
ShortTrace = (g : Model) (s t : ℕ) (p : List ℕ) → Proper g → s < g.order → Trace g t s p → length p ≤ g.order

-- without a cycle there is a trace exactly where there is a path
abbrev pub TraceWherePath : Type 0
TraceWherePath =
    (g : Model) → Proper g → (Cycle g → ⊥) → (s t : ℕ) → s < g.order →
    (Reaches g s t → (p : List ℕ) × Trace g t s p) × ((p : List ℕ) → Trace g t s p → Reaches g s t)

-- each arc leads to a higher position
abbrev pub Rises : Model → (ℕ → ℕ) → Type 0
Rises g place = (u v : ℕ) → g.arc u v ≡ true → place u < place v

-- where positions rise along every arc there is no cycle
abbrev pub NoCycleWhereRising : Type 0
NoCycleWhereRising = (g : Model) (place : ℕ → ℕ) → Rises g place → Cycle g → ⊥
