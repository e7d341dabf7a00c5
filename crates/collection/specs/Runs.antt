-- The reading of a collection file from its first line to its end or its first fault, and all that is printed. Assumes nothing.
use Rattle.std.specs.Prelude.{◌≡◌, ℕ, ◌+◌, ◌<◌, ◌≤◌, List, [], ◌++◌, length, drop, Some, None, Ok, Err, Option, Result, ◌≢◌}
use Rattle.graph.specs.Model.{Model, Empty}
use Rattle.lines.specs.declared.Line.{Line}
use Rattle.lines.specs.Reading.{BeginsWith, BeginsWithNone}
use Rattle.answers.specs.Printed.{fault_line}
use Rattle.collection.specs.declared.faults.Fault.{Fault}
use Rattle.collection.specs.declared.faults.Fault.TheVariants.{Form, Order, Size}
use Rattle.collection.specs.declared.faults.FileFault.{FileFault}
use Rattle.collection.specs.declared.machine.Machine.{Machine}
use Rattle.collection.specs.declared.machine.Place.TheVariants.{AmongQuestions}
use Rattle.collection.specs.declared.reading.Finished.{Finished}
use Rattle.collection.specs.Faults.{fault_number}
use Rattle.collection.specs.Moves.{Moves, Answers, Unanswered, start}

-- behind `used` bytes the output takes the text and has 64 bytes left, which are kept for a fault
abbrev pub Fits : ℕ → List ℕ → Type 0
Fits used text = used + length text + 64 ≤ 65536

-- a line is taken, answered, and its answer printed
pub record Taken (most limit : ℕ) (m : Machine) (g : Model) (used : ℕ) (l : Line) (m' : Machine) (g' : Model) (text : List ℕ) : Type 0 where
  pub moves : Moves most limit m g l (Ok tt) m' g'
  pub answers : Answers m' g' l text
  pub fits : Fits used text

-- a line that ends the reading: it is refused, or its answer is, or the answer finds no room
pub data Stopped (most limit : ℕ) (m : Machine) (g : Model) (used : ℕ) (l : Line) : Fault → Type 0 where
  refused : {f : Fault} (m' : Machine) (g' : Model) → Moves most limit m g l (Err f) m' g' → Stopped most limit m g used l f
  unanswered : {f : Fault} (m' : Machine) (g' : Model) → Moves most limit m g l (Ok tt) m' g' → Unanswered g' l f → Stopped most limit m g used l f
  no_room : (m' : Machine) (g' : Model) (text : List ℕ) →
      Moves most limit m g l (Ok tt) m' g' → Answers m' g' l text → (Fits used text → ⊥) → Stopped most limit m g used l Size

-- from the machine m and the graph g, before line n, with `used` bytes printed: reading the input prints the text and ends so
pub data Reads (most limit : ℕ) : Machine → Model → ℕ → ℕ → List ℕ → List ℕ → Result (Unit {0}) FileFault → Type 0 where
  whole : {m : Machine} {g : Model} {n used : ℕ} → m.place ≡ AmongQuestions → Reads most limit m g n used [] [] (Ok tt)
  early : {m : Machine} {g : Model} {n used : ℕ} → (m.place ≢ AmongQuestions) →
      Reads most limit m g n used [] [] (Err (record { fault = Order; line = n }))
  no_form : {m : Machine} {g : Model} {n used : ℕ} {input : List ℕ} → BeginsWithNone input →
      Reads most limit m g n used input [] (Err (record { fault = Form; line = n }))
  stopped : {m : Machine} {g : Model} {n used : ℕ} {input rest : List ℕ} {l : Line} {f : Fault} →
      BeginsWith input l rest → Stopped most limit m g used l f → Reads most limit m g n used input [] (Err (record { fault = f; line = n }))
  taken : {m m' : Machine} {g g' : Model} {n used : ℕ} {input rest text more : List ℕ} {l : Line} {r : Result (Unit {0}) FileFault} →
      BeginsWith input l rest → Taken most limit m g used l m' g' text → Reads most limit m' g' (n + 1) (used + length text) rest more r →
      Reads most limit m g n used input (text ++ more) r

-- all that is printed: the answers, and the fault where there is one
abbrev pub printed : List ℕ → Result (Unit {0}) FileFault → List ℕ
printed text (Ok x) = text
printed text (Err e) = text ++ fault_line (fault_number e.fault) e.line

-- the fault where there is one
abbrev pub fault_of : Result (Unit {0}) FileFault → Option FileFault
fault_of (Ok x) = None
fault_of (Err e) = Some e

-- an input of at most 16384 bytes is read onto an empty graph of at most 512 vertices and 1024 arcs; a longer one is not read
pub record Outcome (input text : List ℕ) (r : Result (Unit {0}) FileFault) : Type 0 where
  pub long : 16384 < length input → (text ≡ []) × (r ≡ Err (record { fault = Size; line = 0 }))
  pub read : length input ≤ 16384 → (g : Model) × Empty g × Reads 512 1024 start g 1 0 input text r

-- an output of 65536 bytes begins with what is printed, and its other bytes are as before; any other output is refused as it is
pub record Done (input before : List ℕ) (f : Finished) (after : List ℕ) : Type 0 where
  pub other : (length before ≢ 65536) → (f ≡ record { written = 0; fault = Some (record { fault = Size; line = 0 }) }) × (after ≡ before)
  pub sized : length before ≡ 65536 → (text : List ℕ) × (r : Result (Unit {0}) FileFault) × Outcome input text r
      × (f ≡ record { written = length (printed text r); fault = fault_of r }) × (after ≡ printed text r ++ drop (length (printed text r)) before)
