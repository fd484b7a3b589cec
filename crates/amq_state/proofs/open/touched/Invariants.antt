use Rattle.std.proofs.Common.{◌≡◌, ℕ, drop}
use Rattle.std.specs.Ordering.{nat_cmp}
use Rattle.std.specs.BTreeMap.{get}
use Rattle.amq_state.specs.Held.{held}
use Rattle.amq_state.proofs.TouchedLaws.{end_if_touched}
use Rattle.amq_state.proofs.open.touched.Given as goal

abbrev pub invariant-loop-i : goal.invariant-loop-i
invariant-loop-i l = (id : ℕ) → get nat_cmp l.last id ≡ end_if_touched id (drop l.i (held l.changes))
