use Rattle.std.specs.Prelude.{Contains}
use Rattle.amq_scan.proofs.Parts.{has_contains, all_by}
use Rattle.amq_scan.specs.Images.{IsOutside}
use Rattle.amq_scan.proofs.Images.{left_durable}
use Rattle.amq_scan.proofs.law.images_hold_durable.Goals as goal

pub returns : goal.returns
returns c = λ pending reading image fid version found left l. all_by (λ s. IsOutside pending s → Contains left s) found (λ s h outside. has_contains left s (left_durable pending reading image fid version found left l s h outside))
