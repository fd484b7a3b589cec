use Rattle.std.proofs.Common.{◌≡◌, map, take}
use Rattle.amq_tx.proofs.opening.ids_from.Given as goal

abbrev pub invariant-loop-id : goal.invariant-loop-id
invariant-loop-id l = l.ids.items ≡ map (λ t. t.0) (take l.id-index l.id-items)
