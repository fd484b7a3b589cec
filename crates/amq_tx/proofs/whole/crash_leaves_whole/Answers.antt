use Rattle.amq_tx.proofs.WholeKept.{left_is_whole}
use Rattle.amq_tx.proofs.whole.crash_leaves_whole.Goals as goal

pub returns : goal.returns
returns c = left_is_whole
