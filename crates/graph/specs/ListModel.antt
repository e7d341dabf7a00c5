-- The graph that an `ArcList` stands for, whatever its fields hold. Assumes nothing.
use Rattle.std.specs.Prelude.{ℕ, ◌+◌, ◌-◌, min, List, length, take}
use Rattle.graph.specs.Model.{Model, size}
use Rattle.graph.specs.Table.{drawn}
use Rattle.graph.specs.declared.list.Arc.{Arc}
use Rattle.graph.specs.declared.list.ArcList.{ArcList}

-- the places of the table that may hold an arc: all of them, or 4096 if that is less
abbrev pub places : ArcList → ℕ
places x = min (length x.table.now) 4096

-- how many places are taken
abbrev pub taken : ArcList → ℕ
taken x = min x.used (places x)

-- the entries that are read
abbrev pub entries : ArcList → List Arc
entries x = take (taken x) x.table.now

-- the number of vertices
abbrev pub list_order : ArcList → ℕ
list_order x = min x.count 512

abbrev pub list_model : ArcList → Model
list_model x = record { order = list_order x; arc = drawn (entries x) (list_order x) }

-- the arc limit: the arcs that are there and the places that are free; a new list has all places free, and no call changes the sum
abbrev pub list_arc_limit : ArcList → ℕ
list_arc_limit x = size (list_model x) + (places x - taken x)
