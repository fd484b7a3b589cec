use Rattle.amq_header.proofs.HeaderLaws.{read_again}
use Rattle.amq_header.proofs.law.header_is_read_again.Goals as goal

pub returns : goal.returns
returns c = read_again
