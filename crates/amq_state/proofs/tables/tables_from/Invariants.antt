use Rattle.amq_state.specs.Follows.{Follows}
use Rattle.amq_state.proofs.tables.tables_from.Given as goal

abbrev pub invariant-loop-placed : goal.invariant-loop-placed
invariant-loop-placed l = Follows l.yielded l.tables
