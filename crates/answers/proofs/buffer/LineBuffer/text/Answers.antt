use Rattle.std.proofs.Common.{◌∙◌, sym}
use Rattle.answers.proofs.Room.{kept_behind}
use Rattle.answers.proofs.buffer.LineBuffer.text.Goals as goal

pub returns : goal.returns
returns c = rw (← c.self.view_is) (record { is = rw c.write.ensures.count at c.write.ensures.bytes ∙ sym (kept_behind c.self.inside.bytes.items c.args.s.now c.self.invariant) })
