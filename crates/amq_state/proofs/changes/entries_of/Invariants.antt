use Rattle.std.proofs.Common.{◌≡◌, take}
use Rattle.std.specs.List.{filter_map}
use Rattle.amq_model.specs.Effect.{entry_of}
use Rattle.amq_state.specs.Backward.{values}
use Rattle.amq_state.proofs.changes.entries_of.Given as goal

abbrev pub invariant-loop-placed : goal.invariant-loop-placed
invariant-loop-placed l = l.entries.items ≡ filter_map entry_of (take l.placed-index (values l.changes))
