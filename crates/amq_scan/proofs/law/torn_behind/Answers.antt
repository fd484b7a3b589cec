use Rattle.amq_scan.proofs.Written.{torn_written}
use Rattle.amq_scan.proofs.law.torn_behind.Goals as goal

pub returns : goal.returns
returns c = torn_written
