use Rattle.std.proofs.Common.{◌≡◌, drop}
use Rattle.amq_model.specs.Effect.{ascending}
use Rattle.amq_state.proofs.numbers.each_once.Given as goal

abbrev pub invariant-loop-i : goal.invariant-loop-i
invariant-loop-i l = l.seen.keys ≡ ascending (drop l.i l.numbers)
