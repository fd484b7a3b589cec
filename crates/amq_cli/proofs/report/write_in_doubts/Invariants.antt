use Rattle.std.proofs.Common.{◌≡◌, ◌++◌, take}
use Rattle.std.specs.List.{flat_map}
use Rattle.amq_model.specs.Texts.{in_doubt_lines}
use Rattle.amq_cli.specs.Report.{IsSent}
use Rattle.amq_cli.proofs.report.write_in_doubts.Given as goal

-- so many lines are sent or wait
abbrev pub invariant-loop-transaction : goal.invariant-loop-transaction
invariant-loop-transaction g l = record {
  sent : IsSent (l.fn.waiting.items ++ flat_map in_doubt_lines (take l.transaction-index l.transactions)) l.waiting.items (g.K.Sink.taken l.fn.sink) (g.K.Sink.taken l.sink);
  sound : g.K.Sink.faults l.sink ≡ g.K.Sink.faults l.fn.sink;
}
