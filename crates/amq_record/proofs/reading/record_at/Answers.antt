use Rattle.std.proofs.Common.{arith}
use Rattle.amq_record.proofs.Found.{is_found, is_none}
use Rattle.amq_record.proofs.reading.record_at.Goals as goal

pub returns-clause-stands : goal.returns-clause-stands
returns-clause-stands c = is_found c.args.bytes.now c.args.fid c.args.version c.args.place c.spot_at.result (λ i. omega (arith, c.type_inv.bytes i)) c.spot_at.ensures

pub returns-clause-none : goal.returns-clause-none
returns-clause-none c = is_none c.args.bytes.now c.args.fid c.args.version c.args.place c.spot_at.result (omega arith) c.spot_at.ensures
