use Rattle.std.proofs.Common.{◌≡◌, ◌-◌, ◌≤◌, drop}
use Rattle.amq_loader.specs.Parts.{shared_id}
use Rattle.amq_loader.proofs.parts.check_ids.Given as goal

-- what is left decides as all does
abbrev pub invariant-loop-i : goal.invariant-loop-i
invariant-loop-i l = record { some : 1 ≤ l.i; same : shared_id l.parts ≡ shared_id (drop (l.i - 1) l.parts) }
