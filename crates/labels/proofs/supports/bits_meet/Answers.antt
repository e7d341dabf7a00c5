use Rattle.std.proofs.Common.{arith}
use Rattle.labels.proofs.Masks.{meets_mask}
use Rattle.labels.proofs.supports.bits_meet.Goals as goal

pub returns : goal.returns
returns c = meets_mask c.args.m c.args.n (omega arith)
