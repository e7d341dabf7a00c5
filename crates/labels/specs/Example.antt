-- A small graph, with labels that meet the rules. Assumes nothing.
use Rattle.std.specs.Prelude.{◌≡◌, ℕ, List, [], ◌∷◌, Some, slice_index_or}
use Rattle.graph.specs.Model.{Model, Proper}
use Rattle.graph.specs.Table.{drawn}
use Rattle.graph.specs.declared.list.Arc.{Arc}
use Rattle.labels.specs.declared.label.Row.{Row}
use Rattle.labels.specs.declared.label.Label.{Label}
use Rattle.labels.specs.declared.decision.Verdict.{Verdict}
use Rattle.labels.specs.declared.decision.Verdict.TheVariants.{Yes, No}
use Rattle.labels.specs.Labels.{Labels, Supports, zero_label}
use Rattle.labels.specs.Rules.{Rules}
use Rattle.labels.specs.Judges.{six}

-- the arcs 0→2, 1→2, 1→3 and 2→4
abbrev pub example_arcs : List Arc
example_arcs =
    record { tail = 0; head = 2 } ∷ (record { tail = 1; head = 2 } ∷ (record { tail = 1; head = 3 } ∷ (record { tail = 2; head = 4 } ∷ [])))

-- six vertices, of which the last has no arc
abbrev pub example : Model
example = record { order = 6; arc = drawn example_arcs 6 }

-- a row with its position, sure and far
abbrev entry : ℕ → ℕ → ℕ → Row
entry p s f = record { position = p; sure = s; far = f }

-- a label with its four rows, levels, component and bits
abbrev written : Row → Row → Row → Row → ℕ → ℕ → ℕ → ℕ → ℕ → Label
written a b c d up down component from to =
    record { rows = a ∷ (b ∷ (c ∷ (d ∷ []))); up = up; down = down; component = component; from = from; to = to }

-- the labels of the vertices 0 to 5
abbrev pub example_table : List Label
example_table =
    written (entry 3 5 5) (entry 0 0 3) (entry 2 2 2) (entry 1 1 1) 0 2 0 4 21 ∷
    (written (entry 1 2 5) (entry 1 4 4) (entry 0 0 0) (entry 2 2 2) 0 2 0 2 27 ∷
    (written (entry 4 5 5) (entry 2 3 3) (entry 3 2 0) (entry 3 1 1) 1 1 0 7 17 ∷
    (written (entry 2 2 2) (entry 4 4 4) (entry 1 0 0) (entry 5 5 2) 1 0 0 10 8 ∷
    (written (entry 5 5 5) (entry 3 3 3) (entry 4 2 0) (entry 4 1 1) 2 0 0 23 16 ∷
    (written (entry 0 0 0) (entry 5 5 5) (entry 5 5 5) (entry 0 0 0) 0 0 5 32 32 ∷ [])))))

-- the label of each vertex
abbrev pub example_labels : Labels
example_labels v = slice_index_or example_table v zero_label

-- supports 0 to 5; there are no others
abbrev pub example_supports : Supports
example_supports i = slice_index_or (2 ∷ (1 ∷ (0 ∷ (3 ∷ (4 ∷ (5 ∷ [])))))) i 65535

-- the graph is proper, and its labels meet the rules
abbrev pub ExampleMeetsRules : Type 0
ExampleMeetsRules = Proper example × Rules example example_labels example_supports

-- the verdict, by the test of this number, is what the six tests say of s and t
abbrev pub Answer : (s : ℕ) → (t : ℕ) → (verdict : Verdict) → (ground : ℕ) → Type 0
Answer s t verdict ground = six s t (example_labels s) (example_labels t) ≡ Some (record { verdict = verdict; ground = ground })

-- what the six tests say of some vertices
abbrev pub ExampleAnswers : Type 0
ExampleAnswers = Answer 0 0 Yes 1 × Answer 4 0 No 2 × Answer 0 5 No 2 × Answer 2 3 No 4 × Answer 0 3 No 5 × Answer 1 3 Yes 5 × Answer 1 4 Yes 5
