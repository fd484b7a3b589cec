use Rattle.amq_header.proofs.Made.{data_differ, compacted_differ, temporary_differ}
use Rattle.amq_header.proofs.law.made_names_differ.Goals as goal

pub returns-clause-data : goal.returns-clause-data
returns-clause-data c = data_differ

pub returns-clause-compacted : goal.returns-clause-compacted
returns-clause-compacted c = compacted_differ

pub returns-clause-temporary : goal.returns-clause-temporary
returns-clause-temporary c = temporary_differ
