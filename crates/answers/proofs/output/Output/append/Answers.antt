use Rattle.std.proofs.Common.{refl, arith}
use Rattle.std.proofs.lemmas.List.{drop-drop}
use Rattle.std.proofs.lemmas.Slice.{take-put_mid, drop-put_mid}
use Rattle.answers.proofs.output.Output.append.Goals as goal

pub returns-clause-appends : goal.returns-clause-appends
returns-clause-appends c = (
  omega arith,
  record {
    used = refl;
    text = grind (arith, take-put_mid);
    past = grind (arith, drop-put_mid, drop-drop);
  },
)
