use Rattle.std.proofs.Common.{take}
use Rattle.answers.specs.Texts.{Gains}
use Rattle.answers.proofs.Room.{behind_commas}
use Rattle.answers.proofs.buffer.LineBuffer.list.Given as goal

abbrev pub invariant-loop-x : goal.invariant-loop-x
invariant-loop-x l = Gains l.initial.self (behind_commas (take l.x-index l.rest)) l.self
