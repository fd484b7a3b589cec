-- What a crash leaves of a disk in memory.
use Rattle.std.specs.Prelude.{◌≡◌, ℕ, ◌<◌, length, slice_index, List, [], Option, None, Some}
use Rattle.std.specs.FinMap as map
use Rattle.amq_model.specs.Files.{FileName, File, Files, IsPending, IsTorn}
use Rattle.amq_io.specs.declared.pick.Pick.{Pick}
use Rattle.amq_io.specs.declared.pick.Pick.TheVariants.{Keep, Revert, Fill}

-- what becomes of a pending byte, by what it reads and what it was when it was last synced
abbrev pub picked_byte : Pick → ℕ → ℕ → ℕ
picked_byte Keep read synced = read
picked_byte Revert read synced = synced
picked_byte (Fill fill) read synced = fill

-- The bytes that a crash leaves of a file, with this pick for the pending ones. A list is read as 00 behind its end.
pub record IsTornBy (pick : Pick) (old : File) (synced new : List ℕ) : Type 0 where
  pub torn : IsTorn old.pending old.bytes new
  pub picks : (i : ℕ) → i < length old.bytes → IsPending old.pending i → slice_index new i ≡ picked_byte pick (slice_index old.bytes i) (slice_index synced i)

-- the bytes of a file that may not be there
abbrev pub bytes_in : Option File → List ℕ
bytes_in None = []
bytes_in (Some file) = file.bytes

-- the file that is left of another, with nothing pending
abbrev pub IsTornFile : Pick → Option File → Option File → Option File → Type 0
IsTornFile pick None synced None = Unit {0}
IsTornFile pick (Some old) synced (Some new) = IsTornBy pick old (bytes_in synced) new.bytes × (new.pending ≡ [])
IsTornFile pick None synced (Some new) = ⊥
IsTornFile pick (Some old) synced None = ⊥

-- the directory that a crash leaves of another, with nothing pending
abbrev pub IsLeftOf : Pick → Files → Files → Files → Type 0
IsLeftOf pick old synced new = (n : FileName) → IsTornFile pick (map.get old n) (map.get synced n) (map.get new n)
