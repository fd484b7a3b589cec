use Rattle.std.proofs.Common.{◌∙◌}
use Rattle.amq_tx.proofs.table.TxTable.count_in.Goals as goal

pub returns-clause-journal : goal.returns-clause-journal
returns-clause-journal c = λ base steps k below. c.count_of_turn.ensures ∙ k.counts c.args.tx c.args.file below
