-- A table of arcs, and which pairs it draws. Assumes nothing.
use Rattle.std.specs.Prelude.{ℕ, Bool, false, cond, not, ◌&&◌, ◌||◌, List, [], ◌∷◌, Some, None, Option, ◌==◌, nat_le, nat_lt}
use Rattle.graph.specs.Model.{Model, reversed}
use Rattle.graph.specs.declared.list.Arc.{Arc}
use Rattle.graph.specs.declared.list.Direction.{Direction}
use Rattle.graph.specs.declared.list.Direction.TheVariants.{Forward, Backward}

-- the entry is u→v
abbrev pub is_arc : ℕ → ℕ → Arc → Bool
is_arc u v e = e.tail == u && e.head == v

-- some entry is u→v
unfoldable pub has : List Arc → ℕ → ℕ → Bool
has [] u v = false
has (e ∷ es) u v = is_arc u v e || has es u v

-- an entry draws an arc only if it joins two different vertices below n
abbrev pub drawn : List Arc → ℕ → ℕ → ℕ → Bool
drawn es n u v = (nat_lt u n && nat_lt v n) && (not (u == v) && has es u v)

-- the head of an arc from u to another vertex
abbrev pub head_from : ℕ → Arc → Option ℕ
head_from u e = cond (e.tail == u && not (e.head == u)) (Some e.head) None

-- v, if it is not below `from` and lower than the best so far
abbrev pub nearer_to : ℕ → ℕ → ℕ → ℕ
nearer_to from v best = cond (nat_le from v && nat_lt v best) v best

-- an entry, blotted out if it names n
abbrev pub swept : ℕ → Arc → Arc
swept n e = cond (e.tail == n || e.head == n) record { tail = 0; head = 0 } e

-- the arc as it is read that way
abbrev pub turned : Direction → Arc → Arc
turned Forward e = e
turned Backward e = record { tail = e.head; head = e.tail }

-- the graph with its arcs read that way
abbrev pub along : Direction → Model → Model
along Forward g = g
along Backward g = reversed g
