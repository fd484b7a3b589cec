use Rattle.std.proofs.Common.{◌≡◌, ℕ, nat_eq, ◌++◌, take}
use Rattle.std.specs.HashMap.{get}
use Rattle.amq_tx.specs.Parts.{listed}
use Rattle.amq_tx.specs.Starting.{ends_of}
use Rattle.amq_tx.proofs.opening.hold_all.Given as goal

abbrev pub invariant-loop-id : goal.invariant-loop-id
invariant-loop-id l = (q : ℕ) → listed (get nat_eq l.touched q) ≡ listed (get nat_eq l.initial.touched q) ++ ends_of q l.opened.tx (take l.id-index l.id-items)
