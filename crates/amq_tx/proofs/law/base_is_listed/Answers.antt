use Rattle.amq_tx.proofs.Begins.{live_listed, opened_listed}
use Rattle.amq_tx.proofs.law.base_is_listed.Goals as goal

pub returns : goal.returns
returns c = record { live = live_listed; opened = opened_listed }
