use Rattle.std.proofs.Common.{◌∙◌}
use Rattle.amq_tx.proofs.Refusals.{refusals_are}
use Rattle.amq_tx.proofs.table.TxTable.check.Goals as goal

pub returns-clause-journal : goal.returns-clause-journal
returns-clause-journal c = λ base steps k. c.try_refusals.ensures ∙ refusals_are _ base steps k c.args.command.now
