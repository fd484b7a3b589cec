use Rattle.std.proofs.Common.{subst, sym}
use Rattle.amq_model.specs.declared.state.LoadState.{LoadState}
use Rattle.amq_model.specs.LoadCalls.{Makes}
use Rattle.amq_cli.specs.declared.status.Status.{Status}
use Rattle.amq_cli.specs.Offline.{HasPrintCalls}
use Rattle.amq_cli.proofs.Loading.{written_calls, refused_calls}
use Rattle.amq_cli.proofs.print.print.Goals as goal

pub returns-in-Ok-clause-calls : goal.returns-in-Ok-clause-calls
returns-in-Ok-clause-calls g c =
    written_calls c.write_report.result (g.K.Sink.faults c.args.sink.now) (g.K.Sink.faults c.write_report.new.sink) (g.D.Disk.past c.args.disk.now) (g.D.Disk.past c.load_state.new.disk) c.write_report.ensures.status c.in-Ok.ensures.calls

pub returns-in-Err-clause-calls : goal.returns-in-Err-clause-calls
returns-in-Err-clause-calls g c =
    let old = g.D.Disk.past c.args.disk.now in
    let new = g.D.Disk.past c.load_state.new.disk in
    subst (λ (s : Status). Makes (HasPrintCalls s) old new) (sym c.status_of_load.ensures) (refused_calls LoadState c.in-Err.fault old new c.in-Err.ensures.calls)
