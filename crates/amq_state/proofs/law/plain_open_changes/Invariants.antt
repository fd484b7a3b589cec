use Rattle.std.proofs.Common.{◌≡◌, take}
use Rattle.amq_model.specs.Effect.{open_changes}
use Rattle.amq_state.specs.Backward.{values}
use Rattle.amq_state.proofs.law.plain_open_changes.Given as goal

abbrev pub invariant-loop-placed : goal.invariant-loop-placed
invariant-loop-placed l = values l.open.items ≡ open_changes l.tx (take l.placed-index l.list)
