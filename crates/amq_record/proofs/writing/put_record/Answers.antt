use Rattle.std.proofs.Common.{arith}
use Rattle.amq_record.specs.Layouts.{values_of}
use Rattle.amq_record.proofs.Layouts.{length_spelled}
use Rattle.amq_record.proofs.writing.put_record.Goals as goal

pub put_fields-requires-clause-room : goal.put_fields-requires-clause-room
put_fields-requires-clause-room c = omega (arith, length_spelled c.args.rec.now c.of.result c.layout.result (values_of c.of-2.result) c.of.ensures c.layout.ensures c.of-2.ensures)

pub returns-clause-len : goal.returns-clause-len
returns-clause-len c = omega (arith, length_spelled c.args.rec.now c.of.result c.layout.result (values_of c.of-2.result) c.of.ensures c.layout.ensures c.of-2.ensures, c.put_fields.ensures.len)
