use Rattle.std.proofs.Common.{◌≡◌, drop}
use Rattle.amq_tx.specs.State.{first_but}
use Rattle.amq_tx.proofs.touches.Touches.first_but.Given as goal

-- what is left decides as all does
abbrev pub invariant-loop-number : goal.invariant-loop-number
invariant-loop-number l = first_but l.except (drop l.number-index l.self.others.items) ≡ first_but l.except l.self.others.items
