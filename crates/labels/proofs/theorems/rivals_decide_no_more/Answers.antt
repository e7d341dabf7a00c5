use Rattle.labels.proofs.Rival.{rivals_decide_no_more_lem}
use Rattle.labels.proofs.theorems.rivals_decide_no_more.Goals as goal

pub returns : goal.returns
returns c = rivals_decide_no_more_lem
