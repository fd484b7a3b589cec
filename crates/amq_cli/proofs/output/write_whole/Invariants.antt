use Rattle.std.proofs.Common.{◌≡◌, ◌≤◌, ◌-◌, length}
use Rattle.amq_cli.proofs.Pieces.{IsTaken}
use Rattle.amq_cli.proofs.output.write_whole.Given as goal

-- so many bytes are written
abbrev pub invariant-loop-written : goal.invariant-loop-written
invariant-loop-written g l = record {
  within : l.written ≤ length l.bytes;
  taken : IsTaken l.written l.bytes (g.K.Sink.taken l.fn.sink) (g.K.Sink.taken l.sink);
  sound : g.K.Sink.faults l.sink ≡ g.K.Sink.faults l.fn.sink;
}

abbrev pub decreases-loop-written : goal.decreases-loop-written
decreases-loop-written g l = length l.bytes - l.written
