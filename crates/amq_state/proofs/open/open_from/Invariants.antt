use Rattle.std.proofs.Common.{◌≡◌, ◌++◌, map}
use Rattle.amq_state.specs.Parts.{open_at}
use Rattle.amq_state.proofs.open.open_from.Given as goal

abbrev pub invariant-loop-tx : goal.invariant-loop-tx
invariant-loop-tx l = l.open.items ++ map open_at l.tx-iterator ≡ map open_at l.turns.entries
