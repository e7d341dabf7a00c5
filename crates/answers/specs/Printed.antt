-- The printed lines, each with its line feed. Assumes nothing.
use Rattle.std.specs.Prelude.{ℕ, List, [], ◌∷◌, ◌++◌, length, codes, decimal}
use Rattle.labels.specs.declared.decision.Verdict.{Verdict}
use Rattle.labels.specs.declared.decision.Verdict.TheVariants.{Yes, No}
use Rattle.lines.specs.declared.Line.TheVariants.{Library, Ask, Trace, Under}
use Rattle.lines.specs.Forms.{written}
use Rattle.answers.specs.Texts.{commas}

-- what was read: the library's number, how many vertices and how many arcs
abbrev pub header_line : ℕ → ℕ → ℕ → List ℕ
header_line l n m = written (Library l) ++ (codes " papers=" ++ (decimal n ++ (codes " arcs=" ++ (decimal m ++ codes "\n"))))

-- the word for a verdict
abbrev pub verdict_word : Verdict → List ℕ
verdict_word Yes = codes "yes"
verdict_word No = codes "no"

-- the question whether s reaches t, the verdict, the number of the test that gave it or 0, and how many vertices were opened
abbrev pub ask_line : (s : ℕ) → (t : ℕ) → Verdict → (ground : ℕ) → (opened : ℕ) → List ℕ
ask_line s t v ground opened =
    written (Ask s t) ++ (codes " answer=" ++ (verdict_word v ++ (codes " ground=" ++ (decimal ground ++ (codes " opened=" ++ (decimal opened ++ codes "\n"))))))

-- the vertices of a path, or the word for none
abbrev pub path_text : List ℕ → List ℕ
path_text [] = codes "none"
path_text (x ∷ xs) = commas (x ∷ xs)

-- the question for a path from s to t, how many vertices it has, and which
abbrev pub trace_line : ℕ → ℕ → List ℕ → List ℕ
trace_line s t path = written (Trace s t) ++ (codes " length=" ++ (decimal (length path) ++ (codes " path=" ++ (path_text path ++ codes "\n"))))

-- the question, how many vertices s reaches, and which
abbrev pub under_line : ℕ → List ℕ → List ℕ
under_line s list = written (Under s) ++ (codes " count=" ++ (decimal (length list) ++ (codes " list=" ++ (commas list ++ codes "\n"))))

-- a fault by its number, and the line where it was found
abbrev pub fault_line : ℕ → ℕ → List ℕ
fault_line f k = codes "fault=" ++ (decimal f ++ (codes " line=" ++ (decimal k ++ codes "\n")))
