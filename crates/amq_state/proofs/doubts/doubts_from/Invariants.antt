use Rattle.std.proofs.Common.{◌≡◌, ◌++◌}
use Rattle.std.specs.List.{filter_map}
use Rattle.amq_state.specs.Parts.{doubt_at}
use Rattle.amq_state.proofs.doubts.doubts_from.Given as goal

abbrev pub invariant-loop-tx : goal.invariant-loop-tx
invariant-loop-tx l = l.doubts.items ++ filter_map doubt_at l.tx-iterator ≡ filter_map doubt_at l.fn.turns.entries
