use Rattle.amq_scan.proofs.Directories.{directory_left}
use Rattle.amq_scan.proofs.law.a_crash_leaves_a_part_of_a_directory.Goals as goal

pub returns : goal.returns
returns c = directory_left
