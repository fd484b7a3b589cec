use Rattle.std.proofs.Common.{take}
use Rattle.amq_io.specs.Left.{AreTorn}
use Rattle.amq_io.proofs.crash.left_files.Given as goal

abbrev pub invariant-loop-entry : goal.invariant-loop-entry
invariant-loop-entry l = AreTorn l.pick (take l.entry-index l.entries) l.left.items
