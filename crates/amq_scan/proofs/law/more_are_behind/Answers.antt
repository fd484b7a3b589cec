use Rattle.amq_scan.proofs.Written.{spots_more}
use Rattle.amq_scan.proofs.law.more_are_behind.Goals as goal

pub returns : goal.returns
returns c = spots_more
