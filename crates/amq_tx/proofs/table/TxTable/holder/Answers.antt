use Rattle.std.proofs.Common.{◌∙◌}
use Rattle.amq_tx.proofs.Refusals.{holder_is}
use Rattle.amq_tx.proofs.table.TxTable.holder.Goals as goal

pub returns-clause-journal : goal.returns-clause-journal
returns-clause-journal c = λ base steps k. c.holder_of.ensures ∙ holder_is _ base steps k c.args.except c.args.id
