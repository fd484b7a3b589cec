use Rattle.amq_scan.proofs.Written.{scan_of_written}
use Rattle.amq_scan.proofs.law.written_are_found.Goals as goal

pub returns : goal.returns
returns c = scan_of_written
