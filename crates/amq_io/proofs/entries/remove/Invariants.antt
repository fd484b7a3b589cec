use Rattle.std.proofs.Common.{◌≡◌, ◌≤◌, ℕ, List, vec_len, vec_capacity}
use Rattle.std.specs.FinMap as map
use Rattle.amq_io.specs.Entries.{files_of, synced_of}
use Rattle.amq_io.proofs.entries.remove.Given as goal

abbrev pub invariant-loop-i : goal.invariant-loop-i
invariant-loop-i l = record {
  others : (q : List ℕ) → (q ≡ l.name → ⊥) → map.get (files_of l.files.items) q ≡ map.get (files_of l.fn.files.items) q;
  synced : (q : List ℕ) → (q ≡ l.name → ⊥) → map.get (synced_of l.files.items) q ≡ map.get (synced_of l.fn.files.items) q;
  room : vec_capacity l.files ≡ vec_capacity l.fn.files;
  len : vec_len l.files ≤ vec_len l.fn.files;
}

abbrev pub decreases-loop-i : goal.decreases-loop-i
decreases-loop-i l = vec_len l.files
