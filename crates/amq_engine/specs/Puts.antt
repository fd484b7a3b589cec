-- What it leaves to put bytes behind the last, at each moment of it.
use Rattle.std.specs.Prelude.{◌≡◌, ◌⊎◌, ℕ, ◌+◌, ◌<◌, ◌≤◌, List, [], length, Some}
use Rattle.std.specs.FinMap as map
use Rattle.amq_model.specs.Files.{FileName, Files, File, IsPending, overlaid}

-- The bytes read as before or as put, and nothing else is newly pending.
pub record IsPutting (place : ℕ) (bytes : List ℕ) (old new : File) : Type 0 where
  pub reads : (new.bytes ≡ old.bytes) ⊎ (new.bytes ≡ overlaid old.bytes place bytes)
  pub pending : (i : ℕ) → IsPending new.pending i → IsPending old.pending i ⊎ ((place ≤ i) × (i < place + length bytes))

pub record Puts (n : FileName) (place : ℕ) (bytes : List ℕ) (o s : Files) : Type 0 where
  pub others : (q : FileName) → (q ≡ n → ⊥) → map.get s q ≡ map.get o q
  pub this : (old : File) → map.get o n ≡ Some old → (new : File) × (map.get s n ≡ Some new) × IsPutting place bytes old new

-- in the end
pub record Put (n : FileName) (place : ℕ) (bytes : List ℕ) (o s : Files) : Type 0 where
  pub others : (q : FileName) → (q ≡ n → ⊥) → map.get s q ≡ map.get o q
  pub this : (old : File) → map.get o n ≡ Some old → map.get s n ≡ Some (record { bytes = overlaid old.bytes place bytes; pending = [] })
