use Rattle.std.proofs.Common.{◌∙◌, rules}
use Rattle.collection.proofs.Closing.{closed}
use Rattle.collection.proofs.reading.run.Goals as goal

pub returns-clause-done : goal.returns-clause-done
returns-clause-done c =
    closed c.args.input.now c.args.output.now _ c.used-2.result c.new-out.result c.read_input.new.out c.read_input.result
    c.if-output-ne-OUTPUT.false c.new-out.ensures.used c.new-out.ensures.same c.read_input.ensures.done
    c.in-Err.fault c.from.result c.as_slice.result.now c.append.result c.append.new.self
    c.in-Err.is c.from.ensures c.from.type_inv (search rules) (c.as_slice.ensures.bytes ∙ c.fault-line.ensures) c.append.ensures.appends c.used-2.ensures (search rules)
