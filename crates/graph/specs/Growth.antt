-- What the calls that make a graph grow promise. Assumes nothing.
use Rattle.std.specs.Prelude.{◌≡◌, ℕ, ◌+◌, ◌<◌, ◌≤◌, true, false, ◌&&◌, ◌||◌, Ok, Err, Result, ◌==◌, ◌≢◌}
use Rattle.graph.specs.Model.{Model, size}
use Rattle.graph.specs.declared.refusal.Refusal.{Refusal}
use Rattle.graph.specs.declared.refusal.Refusal.TheVariants.{NoVertex, SameVertex, ArcPresent, LimitReached}

-- g' has k vertices more than g, and the same arcs: so the new vertices have none
pub record MoreVertices (g g' : Model) (k : ℕ) : Type 0 where
  pub order : g'.order ≡ g.order + k
  pub arcs : (a b : ℕ) → g'.arc a b ≡ g.arc a b

-- g' has the vertices of g, its arcs and u→v
pub record OneArcMore (g g' : Model) (u v : ℕ) : Type 0 where
  pub order : g'.order ≡ g.order
  pub arcs : (a b : ℕ) → g'.arc a b ≡ (g.arc a b || (a == u && b == v))

-- adding one vertex to g, which leaves g': the answer is the new vertex, or the refusal at the vertex limit
abbrev pub VertexAdded : ℕ → Model → Model → Result ℕ Refusal → Type 0
VertexAdded limit g g' (Ok v) = (v ≡ g.order) × (g.order < limit) × MoreVertices g g' 1
VertexAdded limit g g' (Err e) = (e ≡ LimitReached) × (g.order ≡ limit) × (g' ≡ g)

-- adding k vertices to g, all or none
abbrev pub VerticesAdded : ℕ → ℕ → Model → Model → Result (Unit {0}) Refusal → Type 0
VerticesAdded limit k g g' (Ok _) = (g.order + k ≤ limit) × MoreVertices g g' k
VerticesAdded limit k g g' (Err e) = (e ≡ LimitReached) × (limit < g.order + k) × (g' ≡ g)

-- the arc u→v can be added, where `limit` is the arc limit
pub record ArcFree (limit : ℕ) (g : Model) (u v : ℕ) : Type 0 where
  pub tail : u < g.order
  pub head : v < g.order
  pub apart : u ≡ v → ⊥
  pub absent : g.arc u v ≡ false
  pub room : size g < limit

-- why the arc u→v is refused: each reason is given only where none before it holds
abbrev pub ArcRefused : ℕ → Model → ℕ → ℕ → Refusal → Type 0
ArcRefused limit g u v NoVertex = (u < g.order) → (v < g.order) → ⊥
ArcRefused limit g u v SameVertex = (u < g.order) × (v < g.order) × (u ≡ v)
ArcRefused limit g u v ArcPresent = (u < g.order) × (v < g.order) × (u ≢ v) × (g.arc u v ≡ true)
ArcRefused limit g u v LimitReached = (u < g.order) × (v < g.order) × (u ≢ v) × (g.arc u v ≡ false) × (size g ≡ limit)

-- adding the arc u→v to g, which leaves g'
abbrev pub ArcAdded : ℕ → Model → Model → ℕ → ℕ → Result (Unit {0}) Refusal → Type 0
ArcAdded limit g g' u v (Ok _) = ArcFree limit g u v × OneArcMore g g' u v
ArcAdded limit g g' u v (Err e) = ArcRefused limit g u v e × (g' ≡ g)
