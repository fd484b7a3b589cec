use Rattle.std.proofs.Common.{◌≡◌}
use Rattle.std.specs.List.{filter_map}
use Rattle.amq_model.specs.Effect.{entry_of, removal_of}
use Rattle.amq_state.specs.Held.{held}
use Rattle.amq_state.proofs.owned.parts_of.Given as goal

abbrev pub invariant-loop-placed : goal.invariant-loop-placed
invariant-loop-placed l = record {
  entries : l.entries.items ≡ filter_map entry_of (held l.yielded);
  removals : l.removals.items ≡ filter_map removal_of (held l.yielded);
}
