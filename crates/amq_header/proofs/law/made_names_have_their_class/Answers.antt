use Rattle.amq_header.proofs.Made.{data_is_read, compacted_is_read, temporary_is_read}
use Rattle.amq_header.proofs.law.made_names_have_their_class.Goals as goal

pub returns-clause-data : goal.returns-clause-data
returns-clause-data c = data_is_read

pub returns-clause-compacted : goal.returns-clause-compacted
returns-clause-compacted c = compacted_is_read

pub returns-clause-temporary : goal.returns-clause-temporary
returns-clause-temporary c = temporary_is_read
