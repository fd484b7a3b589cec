use Rattle.amq_tx.proofs.Steps.{refused_follows}
use Rattle.amq_tx.proofs.law.follows_refused.Goals as goal

pub returns : goal.returns
returns c = refused_follows
