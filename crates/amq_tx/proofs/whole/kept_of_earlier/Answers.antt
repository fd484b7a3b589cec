use Rattle.amq_tx.proofs.WholeKept.{kept_earlier}
use Rattle.amq_tx.proofs.whole.kept_of_earlier.Goals as goal

pub returns : goal.returns
returns c = kept_earlier
