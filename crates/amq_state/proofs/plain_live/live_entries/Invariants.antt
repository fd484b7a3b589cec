use Rattle.std.proofs.Common.{◌≡◌, ℕ, drop}
use Rattle.std.specs.Prelude.{reverse}
use Rattle.std.specs.List.{list_any}
use Rattle.std.specs.Ordering.{nat_cmp}
use Rattle.std.specs.BTreeSet.{contains}
use Rattle.amq_model.specs.Effect.{deletes, remaining}
use Rattle.amq_state.specs.Backward.{values}
use Rattle.amq_state.proofs.plain_live.live_entries.Given as goal

abbrev pub invariant-loop-i : goal.invariant-loop-i
invariant-loop-i l = record {
  deleted : (id : ℕ) → contains nat_cmp l.deleted id ≡ list_any (deletes id) (drop l.i (values l.effect));
  entries : reverse l.entries.items ≡ remaining (drop l.i (values l.effect));
}
