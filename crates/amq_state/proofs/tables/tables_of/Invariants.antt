use Rattle.std.proofs.Common.{take}
use Rattle.amq_state.specs.Follows.{Follows}
use Rattle.amq_state.proofs.tables.tables_of.Given as goal

abbrev pub invariant-loop-placed : goal.invariant-loop-placed
invariant-loop-placed l = Follows (take l.placed-index l.list) l.tables
