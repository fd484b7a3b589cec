use Rattle.amq_pool.proofs.Contents.{no_record}
use Rattle.amq_pool.proofs.law.a_prepared_file_has_no_record.Goals as goal

pub returns : goal.returns
returns c = λ config id fid is. no_record config id is fid
