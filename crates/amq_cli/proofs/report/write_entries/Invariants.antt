use Rattle.std.proofs.Common.{◌≡◌, ◌++◌, take}
use Rattle.std.specs.List.{flat_map}
use Rattle.amq_model.specs.Texts.{entry_line}
use Rattle.amq_cli.specs.Report.{IsSent}
use Rattle.amq_cli.proofs.report.write_entries.Given as goal

-- so many lines are sent or wait
abbrev pub invariant-loop-entry : goal.invariant-loop-entry
invariant-loop-entry g l = record {
  sent : IsSent (l.fn.waiting.items ++ flat_map entry_line (take l.entry-index l.entries)) l.waiting.items (g.K.Sink.taken l.fn.sink) (g.K.Sink.taken l.sink);
  sound : g.K.Sink.faults l.sink ≡ g.K.Sink.faults l.fn.sink;
}
