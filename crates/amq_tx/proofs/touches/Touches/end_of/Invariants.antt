use Rattle.std.proofs.Common.{◌≡◌, nat_eq, drop}
use Rattle.std.specs.Map.{lookup}
use Rattle.amq_tx.proofs.touches.Touches.end_of.Given as goal

-- what is left decides as all does
abbrev pub invariant-loop-number : goal.invariant-loop-number
invariant-loop-number l = lookup (nat_eq l.tx) (drop l.number-index l.self.others.items) ≡ lookup (nat_eq l.tx) l.self.others.items
