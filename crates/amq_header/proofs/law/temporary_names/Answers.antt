use Rattle.amq_header.proofs.Exclusive.{temporary_is}
use Rattle.amq_header.proofs.law.temporary_names.Goals as goal

pub returns : goal.returns
returns c = temporary_is
