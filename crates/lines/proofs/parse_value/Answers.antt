use Rattle.std.proofs.Common.{◌≡◌, rules}
use Rattle.lines.specs.declared.Line.{Line}
use Rattle.lines.proofs.Forms.{keyword, no_keyword}
use Rattle.lines.proofs.parse_value.Goals as goal

pub returns-else-eq-7 : goal.returns-else-eq-7
returns-else-eq-7 c =
    let none : (l : Line) → c.args.word.now ≡ keyword l → ⊥ = search rules in
    no_keyword c.args.word.now c.args.value.now none
