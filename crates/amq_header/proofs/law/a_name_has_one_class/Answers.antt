use Rattle.amq_header.proofs.Exclusive.{one_class}
use Rattle.amq_header.proofs.law.a_name_has_one_class.Goals as goal

pub returns : goal.returns
returns c = one_class
