-- What a disk in memory stands for: its record of calls.
use Rattle.std.specs.Prelude.{◌≡◌, ◌≢◌, ℕ, Bool, true, false, List, [], ◌∷◌, Option, None, Some, All, Result, Ok, Err}
use Rattle.std.specs.FinMap as finite
use Rattle.amq_model.specs.declared.refusal.DiskCall.{DiskCall}
use Rattle.amq_model.specs.Files.{FileName, File, Files, Image, IsReading}
use Rattle.amq_model.specs.Calls.{Call, Outcome, fine, broken, undone, Past, Event, counted, content}
use Rattle.amq_model.specs.Crash.{MayLeave}
use Rattle.amq_io.specs.Failing.{is_to_fail}
use Rattle.amq_io.specs.Synced.{last_synced}
use Rattle.amq_io.specs.declared.disk.DiskError.{DiskError}
use Rattle.amq_io.specs.declared.disk.DiskError.TheVariants as error
use Rattle.amq_io.specs.declared.asked.PastCall.{PastCall}
use Rattle.amq_io.specs.Entries.{call_of}

-- a call that was made to fail did nothing
abbrev pub outcome_of : Bool → Outcome
outcome_of true = broken undone
outcome_of false = fine

-- a call of the record
abbrev pub event_of : PastCall → Event
event_of c = record { call = call_of c.asked; outcome = outcome_of c.failed; before = c.before }

-- the directory of these files
abbrev pub from_pairs : List (FileName × File) → Files
from_pairs [] = finite.empty
from_pairs (p ∷ ps) = finite.insert (from_pairs ps) p.0 p.1

-- the files at first, the calls, the newest first, the moment, the numbers of the calls that are to fail, the count of faults and the call that failed last
pub record Memory : Type 0 where
  pub start : List (FileName × File)
  pub calls : List Event
  pub moment : ℕ
  pub fails : List ℕ
  pub faults : ℕ
  pub last : Option DiskCall

-- its record of calls
abbrev pub past_of : Memory → Past
past_of m = record { start = from_pairs m.start; calls = m.calls; moment = m.moment }

-- what it reads
abbrev pub content_of : Memory → Files
content_of m = content (from_pairs m.start) m.calls

-- the directory with each file as it was last synced
abbrev pub last_synced_of : Memory → Files
last_synced_of m = last_synced (from_pairs m.start) m.calls

-- A call behind the others, which are counted from 1. It fails exactly where its number is to fail, and does nothing then; or there was no memory for it, and it wasn't made.
abbrev pub RunsAsTold : {T : Type 0} → DiskCall → Call → Result T DiskError → Memory → Memory → Type 0
RunsAsTold name call (Ok x) old new = (is_to_fail old.fails (counted old.moment) ≡ false) × (new ≡ record { start = old.start; calls = record { call = call; outcome = fine; before = old.moment } ∷ old.calls; moment = counted old.moment; fails = old.fails; faults = old.faults; last = old.last })
RunsAsTold name call (Err error.Failed) old new = (is_to_fail old.fails (counted old.moment) ≡ true) × (new ≡ record { start = old.start; calls = record { call = call; outcome = broken undone; before = old.moment } ∷ old.calls; moment = counted old.moment; fails = old.fails; faults = counted old.faults; last = Some name })
RunsAsTold name call (Err error.NoMemory) old new = new ≡ record { start = old.start; calls = old.calls; moment = counted old.moment; fails = old.fails; faults = old.faults; last = old.last }

-- What the new disk reads is one of the things that a crash of the old one at this moment may leave.
abbrev pub MayBeLeft : Memory → Memory → Type 0
MayBeLeft old new = (reading image : Image) → IsReading (content_of old) reading → IsReading (content_of new) image → MayLeave (Some (past_of old)) old.moment reading image

-- these files are there, nothing of them is pending, and no other file is there
pub record HoldsFiles (files : List (FileName × List ℕ)) (s : Files) : Type 0 where
  pub each : All (λ f. finite.get s f.0 ≡ Some (record { bytes = f.1; pending = [] })) files
  pub others : (n : FileName) → All (λ f. f.0 ≢ n) files → finite.get s n ≡ None

-- no call was made
pub record IsFresh (m : Memory) : Type 0 where
  pub calls : m.calls ≡ []
  pub moment : m.moment ≡ 0
  pub faults : m.faults ≡ 0
  pub last : m.last ≡ None
