use Rattle.std.proofs.Common.{◌≡◌, ◌≤◌, ◌+◌, ℕ, nat_eq, if◌then◌else◌, length, take}
use Rattle.std.specs.List.{list_any}
use Rattle.std.specs.Map.{lookup}
use Rattle.std.specs.HashMap.{get}
use Rattle.std.specs.HashSet.{contains, spare}
use Rattle.amq_tx.specs.Refusing.{live_after}
use Rattle.amq_tx.specs.Parts.{listed}
use Rattle.amq_tx.proofs.ending.take_effect.Given as goal

abbrev pub invariant-loop-id : goal.invariant-loop-id
invariant-loop-id l = record {
  live : (q : ℕ) → contains nat_eq l.live q ≡ (if list_any (nat_eq q) (take l.id-index l.ids) then live_after (lookup (nat_eq l.tx) (listed (get nat_eq l.touched q))) (contains nat_eq l.initial.live q) else contains nat_eq l.initial.live q);
  room : length l.ids ≤ spare l.live + l.id-index;
}
