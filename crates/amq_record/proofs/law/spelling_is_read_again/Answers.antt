use Rattle.amq_record.proofs.Records.{written_stands}
use Rattle.amq_record.proofs.law.spelling_is_read_again.Goals as goal

pub returns : goal.returns
returns c = written_stands
