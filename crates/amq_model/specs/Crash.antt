-- What a crash may leave of a directory, at every moment since one.
use Rattle.std.specs.Prelude.{◌≡◌, ◌⊎◌, ℕ, ◌^◌, ◌%◌, ◌≤◌, Bool, true, false, List, [], ◌∷◌, length, map, filter, not, if◌then◌else◌, Option, None, Some, option_map, Contains, All}
use Rattle.std.specs.FinMap as finite
use Rattle.amq_model.specs.declared.directory.Control.{Control}
use Rattle.amq_model.specs.RecordAt.{Spot}
use Rattle.amq_model.specs.Scan.{IsScan}
use Rattle.amq_model.specs.Names.{same}
use Rattle.amq_model.specs.Directory.{FileOf, file_of, SaysControl, data_files, placed}
use Rattle.amq_model.specs.Files.{FileName, File, Files, Image, IsImage, IsReading}
use Rattle.amq_model.specs.Calls.{Call, Part, Outcome, Event, Past, listing, creating, writing, syncing, renaming, removing, fine, no_room, broken, whole, short, absent, done, partly, content}

-- ---- what settles a failed call

-- the name that a file had before it was renamed
abbrev pub name_before : FileName → FileName → FileName → FileName
name_before from to n = if same n to then from else n

-- without this name
abbrev pub other_names : FileName → List FileName → List FileName
other_names n names = filter (λ m. not (same m n)) names

-- the names before a rename of this file, if it is there
abbrev pub names_before : Option File → FileName → FileName → List FileName → List FileName
names_before None from to names = names
names_before (Some file) from to names = map (name_before from to) names

-- The files that were synced since, by their names before a call, where the disk reads `told` then. A name is that of
-- a file, so it is followed through renames, and is another file's behind a create, also where those failed and the
-- disk reads them as done.
abbrev pub synced_since : Call → Outcome → Files → List FileName → List FileName
synced_since (syncing n) fine told names = n ∷ names
synced_since (creating n len fill) fine told names = other_names n names
synced_since (creating n len fill) (broken whole) told names = other_names n names
synced_since (creating n len fill) (broken (short k)) told names = other_names n names
synced_since (creating n len fill) (broken absent) told names = other_names n names
synced_since (renaming from to) fine told names = names_before (finite.get told from) from to names
synced_since (renaming from to) (broken whole) told names = names_before (finite.get told from) from to names
synced_since _ _ told names = names

-- What later calls that answered Ok settle: which files are there, if there was a list, and what the files of these
-- names hold, which were synced.
pub record Settling : Type 0 where
  pub listed : Bool
  pub synced : List FileName

-- a list that answered Ok is among the later calls
abbrev pub listed_since : Call → Outcome → Bool → Bool
listed_since listing fine listed = true
listed_since _ _ listed = listed

-- what is settled by this call and those behind it, where the disk reads `told` before it
abbrev pub settled_since : Call → Outcome → Files → Settling → Settling
settled_since call outcome told later = record { listed = listed_since call outcome later.listed; synced = synced_since call outcome told later.synced }

-- Which part a failed call may have done, where the disk reads `part` of it: that one alone, of a create, rename or
-- remove with a list behind it, and of a write to a file that was synced since.
abbrev pub MayHaveDone : Settling → Call → Part → Part → Type 0
MayHaveDone later (creating n len fill) part other = later.listed ≡ true → other ≡ part
MayHaveDone later (writing n place bytes) part other = Contains later.synced n → other ≡ part
MayHaveDone later (renaming from to) part other = later.listed ≡ true → other ≡ part
MayHaveDone later (removing n) part other = later.listed ≡ true → other ≡ part
MayHaveDone later _ part other = Unit {0}

-- A list that answered Ok tells which files are there, and how long they are. That follows from what it settles, and
-- is said here so that it needs no proof.
abbrev pub AgreesWithList : Call → Files → Files → Type 0
AgreesWithList listing told s = (n : FileName) → option_map (λ f. length f.bytes) (finite.get s n) ≡ option_map (λ f. length f.bytes) (finite.get told n)
AgreesWithList _ told s = Unit {0}

-- ---- readings

-- A reading of the moment before a call goes on to one of the moment after it. `later` is what calls behind it settle.
abbrev pub Next : Settling → Call → Outcome → Files → Files → Files → Type 0
Next later call fine told s new = (new ≡ done call s) × AgreesWithList call told s
Next later call no_room told s new = new ≡ s
Next later call (broken part) told s new = (other : Part) × MayHaveDone later call part other × (new ≡ partly call other s)

-- The readings behind these calls, where `later` is what calls behind them settle.
abbrev pub ReadsBefore : Settling → Files → List Event → Files → Type 0
ReadsBefore later start [] s = s ≡ start
ReadsBefore later start (e ∷ es) s = (old : Files) × ReadsBefore (settled_since e.call e.outcome (content start es) later) start es old × Next later e.call e.outcome (content start es) old s

-- nothing was called since
abbrev pub nothing_since : Settling
nothing_since = record { listed = false; synced = [] }

-- The readings of this moment: what the disk reads, and for each call that failed and isn't settled those in which
-- it was done, wasn't done, or, for a create, was done in part.
abbrev pub Reads : Files → List Event → Files → Type 0
Reads start es s = ReadsBefore nothing_since start es s

-- the readings while a call is under way
abbrev pub ReadsDuring : Files → List Event → Call → Files → Type 0
ReadsDuring start es call s = (old : Files) × Reads start es old × (part : Part) × (s ≡ partly call part old)

-- the readings of every moment from t on, up to now: earlier ones, those inside the last call, and those behind it
abbrev pub ReadsSince : Files → List Event → ℕ → ℕ → Files → Type 0
ReadsSince start [] now t s = (t ≤ now) × (s ≡ start)
ReadsSince start (e ∷ es) now t s = ReadsSince start es e.before t s
    ⊎ ((t ≤ e.before) × ReadsDuring start es e.call s)
    ⊎ ((t ≤ now) × Reads start (e ∷ es) s)

-- What a crash at any moment from the end of call number t on may leave, with the reading that it is left of.
abbrev pub MayLeave : Option Past → ℕ → Image → Image → Type 0
MayLeave None t reading image = ⊥
MayLeave (Some p) t reading image = (s : Files) × ReadsSince p.start p.calls p.moment t s × IsReading s reading × IsImage s image

-- ---- false records

-- the record is found, with the same fields, by the scan of the file of that name in the reading
pub record IsFoundIn (reading : Image) (f : FileOf) (s : Spot) : Type 0 where
  pub bytes : List ℕ
  pub there : finite.get reading f.name ≡ Some bytes
  pub spots : List Spot
  pub scan : IsScan bytes ((file_of f.name bytes).id % 2 ^ 31) (file_of f.name bytes).version spots
  pub found : Contains (map (placed (file_of f.name bytes).id) spots) (placed f.id s)

-- Each record that is found in a data file of the image is found at the same place in the reading.
abbrev pub NoFalseRecord : Image → Image → Type 0
NoFalseRecord reading image = (control : Option Control) → SaysControl (finite.entries image) control →
    All (λ f. (spots : List Spot) → IsScan f.bytes (f.id % 2 ^ 31) f.version spots → All (IsFoundIn reading f) spots) (data_files (finite.entries image) control)
