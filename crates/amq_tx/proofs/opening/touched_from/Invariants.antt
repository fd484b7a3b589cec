use Rattle.std.proofs.Common.{◌≡◌, ℕ, nat_eq, take}
use Rattle.std.specs.List.{flat_map}
use Rattle.std.specs.HashMap.{get}
use Rattle.amq_tx.specs.Parts.{listed}
use Rattle.amq_tx.specs.Starting.{touches_of}
use Rattle.amq_tx.proofs.opening.touched_from.Given as goal

abbrev pub invariant-loop-open : goal.invariant-loop-open
invariant-loop-open l = (q : ℕ) → listed (get nat_eq l.touched q) ≡ flat_map (touches_of q) (take l.open-index l.opened)
