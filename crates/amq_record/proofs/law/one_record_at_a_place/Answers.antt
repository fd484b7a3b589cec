use Rattle.amq_record.proofs.Records.{one_record}
use Rattle.amq_record.proofs.law.one_record_at_a_place.Goals as goal

pub returns : goal.returns
returns c = λ bytes fid version s t fits a b same. one_record bytes fid version s t fits same a b
