-- The numbers and the texts of the faults, and the lines that they came from. Assumes nothing.
use Rattle.std.specs.Prelude.{◌≡◌, ℕ, List, ◌++◌, Ok, Err, Result, codes, decimal}
use Rattle.graph.specs.Refusals.{refusal_number as growth_number, refusal_text as growth_text}
use Rattle.search.specs.Refusals.{refusal_number as question_number, refusal_text as question_text}
use Rattle.collection.specs.declared.faults.At.{At}
use Rattle.collection.specs.declared.faults.Fault.{Fault}
use Rattle.collection.specs.declared.faults.FileFault.{FileFault}
use Rattle.collection.specs.declared.faults.Fault.TheVariants.{Growth, Question, Size, Form, Order}

-- the number that stands for a fault in printed lines
abbrev pub fault_number : Fault → ℕ
fault_number (Growth e) = growth_number e
fault_number (Question e) = question_number e
fault_number Size = 8
fault_number Form = 9
fault_number Order = 10

-- what a fault says
abbrev pub fault_text : Fault → List ℕ
fault_text (Growth e) = growth_text e
fault_text (Question e) = question_text e
fault_text Size = codes "the input or the output is not of a permitted size, or the output is full"
fault_text Form = codes "the line has no permitted form"
fault_text Order = codes "the line is out of place, the count at end is wrong, or the file stops early"

-- what a fault with its line says
abbrev pub file_fault_text : FileFault → List ℕ
file_fault_text f = codes "line " ++ decimal f.line ++ codes ": " ++ fault_text f.fault

-- r is s, with the line n at an error
abbrev pub Placed : {T E : Type 0} → Result T E → ℕ → Result T (At E) → Type 0
Placed s n (Ok x) = s ≡ Ok x
Placed s n (Err e) = (s ≡ Err e.error) × (e.line ≡ n)
