use Rattle.amq_tx.proofs.WholeKept.{left_is_kept}
use Rattle.amq_tx.proofs.whole.crash_leaves_kept.Goals as goal

pub returns : goal.returns
returns c = left_is_kept
