use Rattle.std.proofs.Common.{◌∙◌}
use Rattle.amq_model.specs.Texts.{entry_line}
use Rattle.amq_print.proofs.Joins.{on_err}
use Rattle.amq_cli.proofs.Reporting.{lines_part, lines_sent}
use Rattle.amq_cli.proofs.report.write_entries.Goals as goal

pub returns-in_err-write_entry-clause-part : goal.returns-in_err-write_entry-clause-part
returns-in_err-write_entry-clause-part g c =
    on_err c.from_residual.result
    (lines_part entry_line c.args.entries.now c.args.waiting.now.items c.loop-entry.entry-index c.entry-item.result c.loop-entry.waiting.items (g.K.Sink.taken c.args.sink.now) (g.K.Sink.taken c.loop-entry.sink) (g.K.Sink.taken c.write_entry.new.sink) c.loop-entry-test.true c.entry-item.is
    c.loop-entry.invariant.sent c.in_err-write_entry.ensures.part)

pub loop-entry-preserved : goal.loop-entry-preserved
loop-entry-preserved g c = record {
  sent = lines_sent entry_line c.args.entries.now c.args.waiting.now.items c.loop-entry.entry-index c.entry-item.result c.loop-entry.waiting.items c.write_entry.new.waiting.items (g.K.Sink.taken c.args.sink.now) (g.K.Sink.taken c.loop-entry.sink) (g.K.Sink.taken c.write_entry.new.sink)
      c.loop-entry-test.true c.entry-item.is c.loop-entry.invariant.sent c.in_ok-write_entry.ensures.ok;
  sound = c.in_ok-write_entry.ensures.sound ∙ c.loop-entry.invariant.sound;
}
