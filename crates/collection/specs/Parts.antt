-- What the parts of a run promise each other. Assumes nothing.
use Rattle.std.specs.Prelude.{◌≡◌, ℕ, ◌+◌, ◌≤◌, List, length, Ok, Err, Result}
use Rattle.graph.specs.Model.{Model}
use Rattle.lines.specs.declared.Line.{Line}
use Rattle.answers.specs.declared.output.Output.{Output}
use Rattle.answers.specs.Appending.{whole, Grows}
use Rattle.collection.specs.declared.faults.Fault.{Fault}
use Rattle.collection.specs.declared.faults.FileFault.{FileFault}
use Rattle.collection.specs.declared.machine.Machine.{Machine}
use Rattle.collection.specs.Moves.{start}
use Rattle.collection.specs.Runs.{Taken, Stopped, Reads, Outcome}

-- one line, from the output o to o': its answer is appended, or it is stopped and the output stays
abbrev pub LineDone : ℕ → ℕ → Machine → Model → Output → Line → Result (Unit {0}) Fault → Machine → Model → Output → Type 0
LineDone most limit m g o l (Ok x) m' g' o' = (text : List ℕ) × Taken most limit m g o.used l m' g' text × Grows o text o'
LineDone most limit m g o l (Err f) m' g' o' = Stopped most limit m g o.used l f × (o'.used ≡ o.used) × (whole o' ≡ whole o)

-- o' is o with the text, all of its 65536 bytes and room for a fault
pub record Printed (o : Output) (text : List ℕ) (o' : Output) : Type 0 where
  pub grows : Grows o text o'
  pub size : length (whole o') ≡ 65536
  pub spare : o'.used + 64 ≤ 65536

-- all lines of an input, from an output of which nothing is written
abbrev pub AllDone : ℕ → ℕ → Model → List ℕ → Output → Result (Unit {0}) FileFault → Output → Type 0
AllDone most limit g input o r o' = (text : List ℕ) × Reads most limit start g 1 0 input text r × Printed o text o'

-- the same, with the graph and the input's length looked after
abbrev pub InputDone : List ℕ → Output → Result (Unit {0}) FileFault → Output → Type 0
InputDone input o r o' = (text : List ℕ) × Outcome input text r × Printed o text o'
