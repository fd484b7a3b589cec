use Rattle.std.proofs.Common.{◌≡◌, take, map}
use Rattle.amq_model.specs.Effect.{doubt_of}
use Rattle.amq_state.proofs.law.plain_doubts.Given as goal

abbrev pub invariant-loop-i : goal.invariant-loop-i
invariant-loop-i l = l.doubts.items ≡ map (doubt_of l.list) (take l.i l.numbers.items)
