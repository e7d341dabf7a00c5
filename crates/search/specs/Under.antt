-- The vertices that a vertex reaches, as a list. Assumes nothing.
use Rattle.std.specs.Prelude.{◌≡◌, ℕ, ◌<◌, ◌≤◌, Bool, true, false, ◌||◌, List, [], ◌∷◌, length, take, drop, Some, None, Ok, Err, Result, ◌==◌, slice_index_or}
use Rattle.std.specs.List.{AllByRecursion}
use Rattle.graph.specs.Model.{Model}
use Rattle.graph.specs.Paths.{Reaches}
use Rattle.search.specs.declared.Refusal.{Refusal}
use Rattle.search.specs.Refusals.{refusal}

-- a mark is set exactly at the vertices that s reaches
abbrev pub Marked : Model → ℕ → List Bool → Type 0
Marked g s marks = (v : ℕ) → v < g.order → (slice_index_or marks v false ≡ true → Reaches g s v) × (Reaches g s v → slice_index_or marks v false ≡ true)

-- w stands in the list
abbrev pub has : ℕ → List ℕ → Bool
has w [] = false
has w (x ∷ xs) = w == x || has w xs

-- no entry stands twice in the list
abbrev pub Distinct : List ℕ → Type 0
Distinct [] = Unit {0}
Distinct (x ∷ xs) = (has x xs ≡ false) × Distinct xs

-- each entry is below all that follow it
abbrev pub Ascending : List ℕ → Type 0
Ascending [] = Unit {0}
Ascending (x ∷ xs) = AllByRecursion (λ y. x < y) xs × Ascending xs

-- the list has the vertices that s reaches, itself too, and no others, ascending
pub record Under (g : Model) (s : ℕ) (list : List ℕ) : Type 0 where
  pub ascending : Ascending list
  pub only : AllByRecursion (λ v. Reaches g s v) list
  pub all : (v : ℕ) → Reaches g s v → has v list ≡ true

-- the first `count` entries of the slice are the list, and the others are as before
pub record UnderWritten (g : Model) (s : ℕ) (before after : List ℕ) (count : ℕ) : Type 0 where
  pub lists : Under g s (take count after)
  pub few : count ≤ g.order
  pub below : AllByRecursion (λ v. v < g.order) (take count after)
  pub rest : drop count after ≡ drop count before

-- what `under` answers of s, and what the slice holds after
abbrev pub UnderAnswer : Model → ℕ → List ℕ → List ℕ → Result ℕ Refusal → Type 0
UnderAnswer g s before after (Ok count) = (refusal g.order s (length before) ≡ None) × UnderWritten g s before after count
UnderAnswer g s before after (Err e) = (refusal g.order s (length before) ≡ Some e) × (after ≡ before)

-- no two answers, and no two slices, are as promised
abbrev pub OneUnderAnswer : Type 0
OneUnderAnswer =
    (g : Model) (s : ℕ) (before after after' : List ℕ) (r r' : Result ℕ Refusal) → length after ≡ length before → length after' ≡ length before →
    UnderAnswer g s before after r → UnderAnswer g s before after' r' → (r ≡ r') × (after ≡ after')
