use Rattle.std.proofs.Common.{◌≡◌, map, take}
use Rattle.amq_state.specs.Plain.{numbered}
use Rattle.amq_state.proofs.law.prepared_numbers.Given as goal

abbrev pub invariant-loop-tx : goal.invariant-loop-tx
invariant-loop-tx l = l.numbers.items ≡ map (λ x. x.0) (numbered (take l.tx-index l.prepared))
