-- Labels of vertices, and how their parts are read. Assumes nothing.
use Rattle.std.specs.Prelude.{ℕ, ◌<◌, ◌≤◌, List, [], ◌∷◌, slice_index_or}
use Rattle.labels.specs.declared.label.Row.{Row}
use Rattle.labels.specs.declared.label.Label.{Label}

-- a label for each vertex; labels of numbers that are no vertices are never looked at
abbrev pub Labels : Type 0
Labels = ℕ → Label

-- the vertex that is support i, for i from 0 to 15; where that number is no vertex, there is no support i
abbrev pub Supports : Type 0
Supports = ℕ → ℕ

-- the row of zeros
abbrev pub zero_row : Row
zero_row = record { position = 0; sure = 0; far = 0 }

-- the label of zeros
abbrev pub zero_label : Label
zero_label = record { rows = zero_row ∷ (zero_row ∷ (zero_row ∷ (zero_row ∷ []))); up = 0; down = 0; component = 0; from = 0; to = 0 }

-- the label of each vertex, where past the end of the list there are labels of zeros
abbrev pub label_at : List Label → Labels
label_at labels v = slice_index_or labels v zero_label

-- row r of a label
abbrev pub row : Label → ℕ → Row
row l r = slice_index_or l.rows r zero_row

-- the position of v in row r
abbrev pub position : Labels → ℕ → ℕ → ℕ
position labels r v = (row (labels v) r).position

-- the sure position of v in row r
abbrev pub sure : Labels → ℕ → ℕ → ℕ
sure labels r v = (row (labels v) r).sure

-- the far position of v in row r
abbrev pub far : Labels → ℕ → ℕ → ℕ
far labels r v = (row (labels v) r).far

-- rows 0 and 1 are forward
abbrev pub Forward : ℕ → Type 0
Forward r = r < 2

-- rows 2 and 3 are backward
pub record Backward (r : ℕ) : Type 0 where
  pub low : 2 ≤ r
  pub high : r < 4
