use Rattle.std.proofs.Common.{◌≡◌, ◌++◌, ℕ, List, vec_len}
use Rattle.std.specs.Prelude.{reverse}
use Rattle.std.specs.List.{filter_map, list_any}
use Rattle.std.specs.Ordering.{nat_cmp}
use Rattle.std.specs.BTreeSet.{contains}
use Rattle.amq_model.specs.declared.record.Placed.{Placed}
use Rattle.amq_model.specs.Effect.{deletes, entry_of, remaining}
use Rattle.amq_state.specs.Held.{held}
use Rattle.amq_state.proofs.live.live_records.Given as goal

-- those that are done with stand behind those that are left
abbrev pub invariant-loop-placed : goal.invariant-loop-placed
invariant-loop-placed l = record {
  done : List Placed;
  all : held l.effect.items ++ done ≡ held l.fn.effect.items;
  deleted : (id : ℕ) → contains nat_cmp l.deleted id ≡ list_any (deletes id) done;
  live : reverse (filter_map entry_of (held l.live.items)) ≡ remaining done;
}

abbrev pub decreases-loop-placed : goal.decreases-loop-placed
decreases-loop-placed l = vec_len l.effect
