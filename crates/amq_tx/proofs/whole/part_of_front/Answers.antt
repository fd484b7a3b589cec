use Rattle.amq_tx.proofs.WholeParts.{part_front}
use Rattle.amq_tx.proofs.whole.part_of_front.Goals as goal

pub returns : goal.returns
returns c = part_front
