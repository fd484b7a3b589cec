use Rattle.std.proofs.Common.{◌≡◌, ◌+◌, ◌≤◌, ◌++◌, List, length, true, None}
use Rattle.std.specs.Prelude.{All, IsTrue, reverse}
use Rattle.amq_model.specs.declared.script.Line.{Line}
use Rattle.amq_io.specs.Cause.{NoneFailed}
use Rattle.amq_engine.specs.Receipts.{GoesOn}
use Rattle.amq_cli.specs.Offline.{lists_of}
use Rattle.amq_cli.specs.Replay.{is_built}
use Rattle.amq_cli.specs.Labelled.{number_in}
use Rattle.amq_cli.specs.Playing.{HasPlayed, KeepsFirst, StandsOn}
use Rattle.amq_cli.specs.Replaying.{KeepsFiles}
use Rattle.amq_cli.proofs.replay.replay.Given as goal

-- what was answered, and what is left
abbrev pub invariant-loop-line : goal.invariant-loop-line
invariant-loop-line g l =
    record {
      built : All (λ line. IsTrue (is_built line)) l.lines.items;
      played : (done : List Line) × (done ++ reverse l.lines.items ≡ l.fn.lines.items) × HasPlayed l.fn.engine.config.buffer_timeout done (number_in l.labels) l.number l.engine l.text.items;
      few : l.number + length l.lines.items ≤ length l.fn.lines.items + 1;
      unclosed : l.engine.closed ≡ None;
      config : l.engine.config ≡ l.fn.engine.config;
      base : l.engine.chronicle.base ≡ l.fn.engine.chronicle.base;
      faults : NoneFailed (g.D.Disk.faults l.fn.engine.disk) (g.D.Disk.faults l.engine.disk);
      goes : GoesOn (g.D.Disk.past l.fn.engine.disk) (g.D.Disk.past l.engine.disk);
      first : KeepsFirst (lists_of l.fn.engine.chronicle) (lists_of l.engine.chronicle);
      stands : StandsOn l.fn.engine l.engine;
      files : KeepsFiles g.D.Disk.past true l.fn.engine l.engine;
    }

abbrev pub decreases-loop-line : goal.decreases-loop-line
decreases-loop-line g l = length l.lines.items
