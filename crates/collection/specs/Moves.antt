-- What a line of a collection file does, and what answers it. Assumes nothing.
use Rattle.std.specs.Prelude.{◌≡◌, ℕ, ◌+◌, ◌<◌, List, [], length, Ok, Err, Option, Result, ◌≢◌}
use Rattle.graph.specs.Model.{Model}
use Rattle.graph.specs.Growth.{VerticesAdded, ArcAdded}
use Rattle.graph.specs.declared.refusal.Refusal.{Refusal}
use Rattle.search.specs.declared.Refusal.TheVariants.{NoVertex}
use Rattle.search.specs.Under.{Under as Reached}
use Rattle.lines.specs.declared.Line.{Line}
use Rattle.lines.specs.declared.Line.TheVariants.{Library, Papers, Arc, End, Ask, Trace, Under}
use Rattle.answers.specs.Printed.{header_line, ask_line, trace_line, under_line}
use Rattle.labels.specs.declared.decision.Decision.{Decision}
use Rattle.labels.specs.Judges.{same}
use Rattle.asking.specs.declared.answer.Answer.{Answer}
use Rattle.labels.specs.Labels.{label_at}
use Rattle.asking.specs.Search.{told}
use Rattle.asking.specs.Questions.{Found, RightVerdict}
use Rattle.search.specs.Trace.{Trace as Traced}
use Rattle.collection.specs.declared.faults.Fault.{Fault}
use Rattle.collection.specs.declared.faults.Fault.TheVariants.{Growth, Question, Order}
use Rattle.collection.specs.declared.machine.Place.{Place}
use Rattle.collection.specs.declared.machine.Place.TheVariants.{BeforeLibrary, BeforePapers, AmongArcs, AmongQuestions}
use Rattle.collection.specs.declared.machine.Machine.{Machine}

-- before the first line
abbrev pub start : Machine
start = record { place = BeforeLibrary; library = 0; arcs = 0 }

-- the place where a line of this kind stands
abbrev pub home : Line → Place
home (Library n) = BeforeLibrary
home (Papers n) = BeforePapers
home (Arc u v) = AmongArcs
home (End n) = AmongArcs
home (Ask s t) = AmongQuestions
home (Trace s t) = AmongQuestions
home (Under s) = AmongQuestions

-- a refusal to grow as a fault
abbrev pub carried : Result (Unit {0}) Refusal → Result (Unit {0}) Fault
carried (Ok x) = Ok x
carried (Err e) = Err (Growth e)

-- m after a call that was answered, m' after one that was refused
abbrev pub after : Result (Unit {0}) Refusal → Machine → Machine → Machine
after (Ok x) m m' = m
after (Err e) m m' = m'

-- the end of the arcs: the count is the number of arc lines, or out of place
pub record Counted (m : Machine) (count : ℕ) (r : Result (Unit {0}) Fault) (m' : Machine) : Type 0 where
  pub right : count ≡ m.arcs → (r ≡ Ok tt) × (m' ≡ record { place = AmongQuestions; library = m.library; arcs = m.arcs })
  pub wrong : (count ≢ m.arcs) → (r ≡ Err Order) × (m' ≡ m)

-- what a line does in its place, from m and g to m' and g': `most` is the vertex limit and `limit` the arc limit
abbrev pub Does : ℕ → ℕ → Machine → Model → Line → Result (Unit {0}) Fault → Machine → Model → Type 0
Does most limit m g (Library k) r m' g' = (r ≡ Ok tt) × (m' ≡ record { place = BeforePapers; library = k; arcs = m.arcs }) × (g' ≡ g)
Does most limit m g (Papers k) r m' g' =
    (q : Result (Unit {0}) Refusal) × VerticesAdded most k g g' q × (r ≡ carried q)
    × (m' ≡ after q (record { place = AmongArcs; library = m.library; arcs = m.arcs }) m)
Does most limit m g (Arc u v) r m' g' =
    (q : Result (Unit {0}) Refusal) × ArcAdded limit g g' u v q × (r ≡ carried q)
    × (m' ≡ after q (record { place = AmongArcs; library = m.library; arcs = m.arcs + 1 }) m)
Does most limit m g (End k) r m' g' = Counted m k r m' × (g' ≡ g)
Does most limit m g (Ask s t) r m' g' = (r ≡ Ok tt) × (m' ≡ m) × (g' ≡ g)
Does most limit m g (Trace s t) r m' g' = (r ≡ Ok tt) × (m' ≡ m) × (g' ≡ g)
Does most limit m g (Under s) r m' g' = (r ≡ Ok tt) × (m' ≡ m) × (g' ≡ g)

-- a line in its place does what it says, and elsewhere it is out of place and changes nothing
pub record Moves (most limit : ℕ) (m : Machine) (g : Model) (l : Line) (r : Result (Unit {0}) Fault) (m' : Machine) (g' : Model) : Type 0 where
  pub there : m.place ≡ home l → Does most limit m g l r m' g'
  pub elsewhere : (m.place ≢ home l) → (r ≡ Err Order) × (m' ≡ m) × (g' ≡ g)

-- what is said of a vertex v and the goal t by no test but the equality: yes where they are the same
abbrev pub equality : ℕ → ℕ → Option Decision
equality t v = told same (label_at []) t v

-- the line that answers `ask` of two vertices: the search opens the vertices `all`, with no test but the equality; yes exactly where s reaches t
abbrev pub AskText : Model → ℕ → ℕ → List ℕ → Type 0
AskText g s t text =
    (s < g.order) × (t < g.order) × ((a : Answer) × (all : List ℕ) × Found g (equality t) s (equality t s) a all
    × RightVerdict g s t a.verdict × (text ≡ ask_line s t a.verdict a.ground a.opened))

-- the trace from s to t, or the empty list where there is none
pub record TraceOrNone (g : Model) (s t : ℕ) (path : List ℕ) : Type 0 where
  pub found : 0 < length path → Traced g t s path
  pub none : length path ≡ 0 → (list : List ℕ) → Traced g t s list → ⊥

-- the line that answers `trace` of two vertices
abbrev pub TraceText : Model → ℕ → ℕ → List ℕ → Type 0
TraceText g s t text = (s < g.order) × (t < g.order) × ((path : List ℕ) × TraceOrNone g s t path × (text ≡ trace_line s t path))

-- the line that answers `under` of a vertex
abbrev pub UnderText : Model → ℕ → List ℕ → Type 0
UnderText g s text = (s < g.order) × ((list : List ℕ) × Reached g s list × (text ≡ under_line s list))

-- the fault of a question where s or t is no vertex
abbrev pub NotVertices : Model → ℕ → ℕ → Fault → Type 0
NotVertices g s t f = (s < g.order → t < g.order → ⊥) × (f ≡ Question NoVertex)

-- the text that answers a line: the end of the arcs by what was read, `ask` by a search, `trace` by the path, and `under` by the vertices that are reached
abbrev pub Answers : Machine → Model → Line → List ℕ → Type 0
Answers m g (Library n) text = text ≡ []
Answers m g (Papers n) text = text ≡ []
Answers m g (Arc u v) text = text ≡ []
Answers m g (End n) text = text ≡ header_line m.library g.order m.arcs
Answers m g (Ask s t) text = AskText g s t text
Answers m g (Trace s t) text = TraceText g s t text
Answers m g (Under s) text = UnderText g s text

-- why a line is not answered: a vertex that it names is none
abbrev pub Unanswered : Model → Line → Fault → Type 0
Unanswered g (Library n) f = ⊥
Unanswered g (Papers n) f = ⊥
Unanswered g (Arc u v) f = ⊥
Unanswered g (End n) f = ⊥
Unanswered g (Ask s t) f = NotVertices g s t f
Unanswered g (Trace s t) f = NotVertices g s t f
Unanswered g (Under s) f = NotVertices g s s f
