use Rattle.std.proofs.Common.{◌∙◌}
use Rattle.amq_model.specs.Texts.{in_doubt_lines}
use Rattle.amq_print.proofs.Joins.{on_err}
use Rattle.amq_cli.proofs.Reporting.{lines_part, lines_sent}
use Rattle.amq_cli.proofs.report.write_in_doubts.Goals as goal

pub returns-in_err-write_in_doubt-clause-part : goal.returns-in_err-write_in_doubt-clause-part
returns-in_err-write_in_doubt-clause-part g c =
    on_err c.from_residual.result
    (lines_part in_doubt_lines c.args.transactions.now c.args.waiting.now.items c.loop-transaction.transaction-index c.transaction-item.result c.loop-transaction.waiting.items (g.K.Sink.taken c.args.sink.now) (g.K.Sink.taken c.loop-transaction.sink) (g.K.Sink.taken c.write_in_doubt.new.sink) c.loop-transaction-test.true c.transaction-item.is
    c.loop-transaction.invariant.sent c.in_err-write_in_doubt.ensures.part)

pub loop-transaction-preserved : goal.loop-transaction-preserved
loop-transaction-preserved g c = record {
  sent = lines_sent in_doubt_lines c.args.transactions.now c.args.waiting.now.items c.loop-transaction.transaction-index c.transaction-item.result c.loop-transaction.waiting.items c.write_in_doubt.new.waiting.items (g.K.Sink.taken c.args.sink.now) (g.K.Sink.taken c.loop-transaction.sink) (g.K.Sink.taken c.write_in_doubt.new.sink)
      c.loop-transaction-test.true c.transaction-item.is c.loop-transaction.invariant.sent c.in_ok-write_in_doubt.ensures.ok;
  sound = c.in_ok-write_in_doubt.ensures.sound ∙ c.loop-transaction.invariant.sound;
}
