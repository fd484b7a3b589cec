use Rattle.amq_record.proofs.Records.{no_beginning}
use Rattle.amq_record.proofs.law.no_spelling_begins_another.Goals as goal

pub returns : goal.returns
returns c = no_beginning
