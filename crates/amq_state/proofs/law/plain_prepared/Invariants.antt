use Rattle.std.proofs.Common.{◌≡◌, ◌++◌, take, drop}
use Rattle.amq_model.specs.Effect.{prepared, prepared_from}
use Rattle.amq_state.specs.Plain.{numbered}
use Rattle.amq_state.proofs.law.plain_prepared.Given as goal

abbrev pub invariant-loop-i : goal.invariant-loop-i
invariant-loop-i l = prepared l.list ≡ numbered l.prepared.items ++ prepared_from (take l.i l.list) (drop l.i l.list)
