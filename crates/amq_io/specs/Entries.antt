-- What the entries of a disk in memory stand for.
use Rattle.std.specs.Prelude.{◌≡◌, ℕ, zero, suc, ◌+◌, ◌≤◌, List, [], ◌∷◌, length, IfSome, string_bytes}
use Rattle.std.specs.FinMap as map
use Rattle.amq_model.specs.Files.{FileName, File, Files}
use Rattle.amq_model.specs.Calls.{Call, listing, reading, creating, writing, syncing, renaming, removing}
use Rattle.amq_io.specs.Versions.{Versions}
use Rattle.amq_io.specs.Synced.{durable}
use Rattle.amq_io.specs.declared.entries.Entry.{Entry}
use Rattle.amq_io.specs.declared.asked.Asked.{Asked}
use Rattle.amq_io.specs.declared.asked.Asked.TheVariants as asked

-- The directory of entries, with one of their versions. At a name that stands twice, the first entry counts.
abbrev pub files_by : (Versions → File) → List Entry → Files
files_by version [] = map.empty
files_by version (e ∷ es) = map.insert (files_by version es) e.name (version e.file)

-- the directory as it reads
abbrev pub files_of : List Entry → Files
files_of es = files_by (λ v. v.read) es

-- the directory as it was last synced
abbrev pub synced_of : List Entry → Files
synced_of es = files_by (λ v. durable v.synced) es

-- both are the same
pub record IsUnchanged (old new : List Entry) : Type 0 where
  pub read : files_of new ≡ files_of old
  pub synced : synced_of new ≡ synced_of old

-- a file of which nothing is pending, under its name
abbrev pub durable_pair : FileName → List ℕ → FileName × File
durable_pair name bytes = (name, durable bytes)

-- an entry of it
abbrev pub durable_entry : FileName → List ℕ → Entry
durable_entry name bytes = record { name = name; file = record { read = durable bytes; synced = bytes } }

-- the first entry of that name stands at i
abbrev pub IsFirst : FileName → List Entry → ℕ → Type 0
IsFirst n [] i = ⊥
IsFirst n (e ∷ es) zero = e.name ≡ n
IsFirst n (e ∷ es) (suc i) = (e.name ≡ n → ⊥) × IsFirst n es i

-- no entry has that name
abbrev pub IsAbsent : FileName → List Entry → Type 0
IsAbsent n [] = Unit {0}
IsAbsent n (e ∷ es) = (e.name ≡ n → ⊥) × IsAbsent n es

-- the call that was asked for
abbrev pub call_of : Asked → Call
call_of asked.List = listing
call_of (asked.Read n) = reading (string_bytes n)
call_of (asked.Create n len fill) = creating n len fill
call_of (asked.WriteAt n place bytes) = writing (string_bytes n) place bytes.items
call_of (asked.Sync n) = syncing (string_bytes n)
call_of (asked.Rename from to) = renaming (string_bytes from) to
call_of (asked.Remove n) = removing (string_bytes n)

-- a write stays inside its file
abbrev pub IsInside : Call → Files → Type 0
IsInside listing s = Unit {0}
IsInside (reading n) s = Unit {0}
IsInside (creating n len fill) s = Unit {0}
IsInside (writing n place bytes) s = IfSome (map.get s n) (λ f. place + length bytes ≤ length f.bytes)
IsInside (syncing n) s = Unit {0}
IsInside (renaming from to) s = Unit {0}
IsInside (removing n) s = Unit {0}
