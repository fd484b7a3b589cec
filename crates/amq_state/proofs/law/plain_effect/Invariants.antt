use Rattle.std.proofs.Common.{◌≡◌, take}
use Rattle.amq_model.specs.Effect.{in_effect}
use Rattle.amq_state.specs.Backward.{values}
use Rattle.amq_state.proofs.law.plain_effect.Given as goal

abbrev pub invariant-loop-i : goal.invariant-loop-i
invariant-loop-i l = values l.effect.items ≡ in_effect (take l.i l.list)
