use Rattle.std.proofs.Common.{◌≡◌, ℕ, nat_eq, if◌then◌else◌, take}
use Rattle.std.specs.List.{list_any}
use Rattle.std.specs.HashMap.{get}
use Rattle.amq_tx.specs.State.{without}
use Rattle.amq_tx.specs.Parts.{listed}
use Rattle.amq_tx.proofs.ending.let_go.Given as goal

abbrev pub invariant-loop-id : goal.invariant-loop-id
invariant-loop-id l = (q : ℕ) → listed (get nat_eq l.touched q) ≡ (if list_any (nat_eq q) (take l.id-index l.ids) then without l.tx (listed (get nat_eq l.initial.touched q)) else listed (get nat_eq l.initial.touched q))
