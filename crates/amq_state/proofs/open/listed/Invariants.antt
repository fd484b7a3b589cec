use Rattle.std.proofs.Common.{◌≡◌, ◌++◌}
use Rattle.amq_state.proofs.open.listed.Given as goal

abbrev pub invariant-loop-id : goal.invariant-loop-id
invariant-loop-id l = l.entries.items ++ l.id-iterator ≡ l.fn.last.entries
