use Rattle.amq_scan.proofs.Scans.{same_scan}
use Rattle.amq_scan.proofs.law.one_scan.Goals as goal

pub returns : goal.returns
returns c = λ bytes fid version a b fits p q. same_scan bytes fid version 16 a b fits p q
