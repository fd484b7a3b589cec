use Rattle.std.proofs.Common.{◌≡◌, drop}
use Rattle.std.specs.Prelude.{reverse}
use Rattle.amq_io.specs.MemoryFile.{all_picked}
use Rattle.amq_io.proofs.memory_file.pick_ranges.Given as goal

abbrev pub invariant-loop-i : goal.invariant-loop-i
invariant-loop-i l = l.bytes ≡ all_picked l.pick l.fn.bytes (reverse (drop l.i l.pending))
