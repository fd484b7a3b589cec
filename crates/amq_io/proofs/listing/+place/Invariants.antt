use Rattle.std.proofs.Common.{length}
use Rattle.amq_io.proofs.listing.+place.Given as goal

abbrev pub decreases-place : goal.decreases-place
decreases-place l = length l.listed.now
