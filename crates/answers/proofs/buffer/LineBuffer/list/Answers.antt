use Rattle.std.proofs.Common.{arith}
use Rattle.answers.proofs.Room.{gains_empty, gains_then, gains_no_more, behind_more, commas_whole}
use Rattle.answers.proofs.buffer.LineBuffer.list.Goals as goal

pub returns-in_default : goal.returns-in_default
returns-in_default c = rw (← c.self.view_is) (gains_empty c.args.xs.now c.self.invariant (omega (arith, c.in_default.ensures.cases)))

pub loop-x-init : goal.loop-x-init
loop-x-init c = gains_no_more c.number.ensures

pub loop-x-preserved : goal.loop-x-preserved
loop-x-preserved c = behind_more _ c.loop-x.x-index c.loop-x-test.true c.loop-x.invariant (gains_then c.byte.ensures c.number-in-loop-x.ensures)

pub returns : goal.returns
returns c = commas_whole _ c.in-Some.rest.now c.in-Some.first.now c.loop-x.x-index c.in-Some.ensures.cases.0 c.loop-x-test.false c.number.ensures c.loop-x.invariant
