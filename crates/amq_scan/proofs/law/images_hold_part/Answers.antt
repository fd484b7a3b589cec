use Rattle.amq_scan.proofs.Images.{left_part}
use Rattle.amq_scan.proofs.law.images_hold_part.Goals as goal

pub returns : goal.returns
returns c = left_part
