use Rattle.amq_record.proofs.Records.{read_past}
use Rattle.amq_record.proofs.reading.spot_at.Goals as goal

pub returns-else-place-bytes : goal.returns-else-place-bytes
returns-else-place-bytes c = read_past c.args.bytes.now c.args.fid c.args.version c.args.place c.if-place-bytes.false
