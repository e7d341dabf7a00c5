use Rattle.std.proofs.Common.{arith}
use Rattle.answers.proofs.Room.{gains_then, gained_whole, header_short}
use Rattle.answers.proofs.printed.header.Goals as goal

pub returns : goal.returns
returns c =
    gained_whole _ (omega (arith, header_short c.args.library c.args.vertices c.args.arcs c.ranges.library.fits c.ranges.vertices.fits c.ranges.arcs.fits)) c.new-line.ensures
    (gains_then c.field.ensures (gains_then c.field-2.ensures (gains_then c.field-3.ensures c.text.ensures)))
