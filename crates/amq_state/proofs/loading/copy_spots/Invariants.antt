use Rattle.std.proofs.Common.{◌≡◌, ◌++◌, map, take}
use Rattle.amq_state.specs.Fed.{placed_of}
use Rattle.amq_state.proofs.loading.copy_spots.Given as goal

abbrev pub invariant-loop-spot : goal.invariant-loop-spot
invariant-loop-spot l = l.list.items ≡ l.fn.list.items ++ map (placed_of l.file) (take l.spot-index l.spots)
