use Rattle.std.proofs.Common.{length}
use Rattle.amq_io.proofs.listing.+list.Given as goal

abbrev pub decreases-list : goal.decreases-list
decreases-list l = length l.files.now
