use Rattle.amq_pool.proofs.Contents.{file_long, has_header}
use Rattle.amq_pool.proofs.law.a_prepared_file_has_its_header.Goals as goal

pub returns-clause-size : goal.returns-clause-size
returns-clause-size c = file_long

pub returns-clause-header : goal.returns-clause-header
returns-clause-header c = has_header
