use Rattle.amq_pool.proofs.Contents.{durable}
use Rattle.amq_pool.proofs.law.a_prepared_file_is_durable.Goals as goal

pub returns : goal.returns
returns c = durable
