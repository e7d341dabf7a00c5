use Rattle.std.proofs.Common.{arith}
use Rattle.labels.proofs.Masks.{exceeds_mask}
use Rattle.labels.proofs.supports.bits_exceed.Goals as goal

pub returns : goal.returns
returns c = exceeds_mask c.args.m c.args.n (omega arith)
