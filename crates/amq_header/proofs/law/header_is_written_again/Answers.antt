use Rattle.amq_header.proofs.HeaderLaws.{written_again}
use Rattle.amq_header.proofs.law.header_is_written_again.Goals as goal

pub returns : goal.returns
returns c = written_again
