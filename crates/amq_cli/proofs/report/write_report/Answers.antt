use Rattle.amq_model.specs.Texts.{report_of}
use Rattle.amq_cli.proofs.Reporting.{whole_part}
use Rattle.amq_cli.proofs.report.write_report.Goals as goal

pub returns-in-Ok-clause-part : goal.returns-in-Ok-clause-part
returns-in-Ok-clause-part g c = whole_part (report_of c.args.state.now) (g.K.Sink.taken c.args.sink.now) (g.K.Sink.taken c.write_lines.new.sink) c.in-Ok.ensures.ok
