-- Which data files there are behind calls of a disk, and which files the calls leave alone.
use Rattle.std.specs.Prelude.{◌≡◌, ◌⊎◌, ℕ, ◌+◌, ◌-◌, ◌^◌, ◌<◌, ◌≤◌, Bool, true, false, nat_le, if◌then◌else◌, fold, List, [], take, drop, length, Option, None, Some, IsTrue}
use Rattle.std.specs.Int.{w64, from_be_bytes}
use Rattle.std.specs.FinMap as finite
use Rattle.amq_model.specs.declared.config.Config.{Config}
use Rattle.amq_model.specs.declared.command.Command.{Command}
use Rattle.amq_model.specs.declared.record.Placed.{Placed}
use Rattle.amq_model.specs.Answers.{history_of}
use Rattle.amq_model.specs.Names.{is_data}
use Rattle.amq_model.specs.Directory.{data_files}
use Rattle.amq_model.specs.Files.{FileName, File, Files, Image, IsReading}
use Rattle.amq_model.specs.Calls.{Past, content}
use Rattle.amq_model.specs.Leaves.{Leaves, Syncs, Told, IsThere, IsSyncedFile, SparesAllBut}
use Rattle.amq_model.specs.Legal.{rolled_back}
use Rattle.amq_header.specs.Classes.{data_name, temporary_name}
use Rattle.amq_loader.specs.Loads.{is_leftover, IsTidy}
use Rattle.amq_engine.specs.Lists.{Lists}
use Rattle.amq_engine.specs.Opening.{HasNumbers, StandsFrom, NextNeedsFile}
use Rattle.amq_engine.specs.Receipts.{IsLastCount}
use Rattle.amq_engine.specs.Engine.{EngineOf, prepares}

-- ---- the data files

-- the id and the length of a file, where it is long enough for a header
abbrev pub id_and_length : Option File → Option (ℕ × ℕ)
id_and_length None = None
id_and_length (Some file) = if nat_le 16 (length file.bytes) then Some (from_be_bytes w64 (take 8 (drop 8 file.bytes)), length file.bytes) else None

-- the id and the length of the data file of that name, where one is there
abbrev pub data_file_at : FileName → Files → Option (ℕ × ℕ)
data_file_at n s = if is_data n then id_and_length (finite.get s n) else None

-- each name has the data file that it had, by id and length, or none as before
abbrev pub HasSameFiles : Files → Files → Type 0
HasSameFiles o s = (n : FileName) → data_file_at n s ≡ data_file_at n o

-- the name of a data file with a number above the first one, up to the last
abbrev pub IsNumbered : ℕ → ℕ → FileName → Type 0
IsNumbered first last n = (k : ℕ) × (first < k) × (k ≤ last) × (n ≡ data_name k)

-- Under the name of each number above the first one, up to the last, stands a data file of this size with the number as its id; each other name has the data file that it had, or none as before.
pub record HasFilesMade (size first last : ℕ) (o s : Files) : Type 0 where
  pub made : (k : ℕ) → first < k → k ≤ last → data_file_at (data_name k) s ≡ Some (k, size)
  pub others : (n : FileName) → (IsNumbered first last n → ⊥) → data_file_at n s ≡ data_file_at n o

-- so many data files are there
pub record HasCount (count : ℕ) (s : Files) : Type 0 where
  pub image : Image
  pub reading : IsReading s image
  pub is : length (data_files (finite.entries image) None) ≡ count

-- the data file of that name has this id
abbrev pub HasId : ℕ → Files → FileName → Type 0
HasId id s n = (len : ℕ) × (data_file_at n s ≡ Some (id, len))

-- ---- what is left alone

-- the name of a data file with a number from the first one to the last, or the name under which that file is prepared
abbrev pub IsPreparing : ℕ → ℕ → FileName → Type 0
IsPreparing first last n = (k : ℕ) × (first ≤ k) × (k ≤ last) × ((n ≡ data_name k) ⊎ (n ≡ temporary_name k))

-- the file in use, by its name, or one that is prepared now
abbrev pub IsUsedOrNew : FileName → ℕ → ℕ → FileName → Type 0
IsUsedOrNew used first last n = (n ≡ used) ⊎ IsPreparing first last n

-- All files but those of these names, which depend on what was read at first, are as they were, at each moment and in the end.
abbrev pub LeavesAllBut : (Files → FileName → Type 0) → Option Past → Option Past → Type 0
LeavesAllBut Among None new = new ≡ None
LeavesAllBut Among (Some old) new = Leaves (SparesAllBut (Among (content old.start old.calls))) (SparesAllBut (Among (content old.start old.calls))) (Some old) new

-- a file that a command may write to: the one in use, by its id; and where the command prepares one, that with the next number
abbrev pub IsCommandFile : {D C : Type 0} → EngineOf D C → Command → Files → FileName → Type 0
IsCommandFile e command s n = HasId e.file s n ⊎ (IsTrue (prepares e command) × IsPreparing (e.highest + 1) (e.highest + 1) n)

-- all files but those of these names have the bytes that they had, and no place is pending that wasn't
abbrev pub SyncsAllBut : (FileName → Type 0) → Files → Files → Type 0
SyncsAllBut Among o s = (n : FileName) → (Among n → ⊥) → IsSyncedFile (finite.get o n) (finite.get s n)

-- what an opening may remove or make: a compacted or temporary file that was there; and for each number above the first one, up to the last, the data file and the file that it is prepared as
abbrev pub IsRenewed : Option Past → ℕ → ℕ → FileName → Type 0
IsRenewed old first last n = (IsTrue (is_leftover n) × Told old (IsThere n)) ⊎ IsPreparing (first + 1) last n

-- ---- what calls have done

-- The calls kept the files so, at each moment and in the end, and the data files in the end are those that there were and those of the numbers above the first one, up to the last.
pub record Works (Keeps : Files → Files → Type 0) (size first last : ℕ) (old new : Option Past) : Type 0 where
  pub keeps : Leaves Keeps Keeps old new
  pub files : Told old (λ o. Told new (HasFilesMade size first last o))

-- The same up to a number that is the most where all was done, and else that or the one before it.
pub record Worked (done : Bool) (Keeps : Files → Files → Type 0) (size first most : ℕ) (old new : Option Past) : Type 0 where
  pub last : ℕ
  pub least : first ≤ last
  pub within : last ≤ most
  pub near : most ≤ last + 1
  pub all : done ≡ true → last ≡ most
  pub works : Works Keeps size first last old new

-- The same up to some number that a file may have: the number reached where all was done, and else that or the one behind it; files of numbers from `from` on may be written to.
pub record WorkedTo (done : Bool) (size from first reached : ℕ) (old new : Option Past) : Type 0 where
  pub most : ℕ
  pub limit : most ≤ 2 ^ 31 - 1
  pub all : done ≡ true → most ≡ reached
  pub next : most ≤ reached + 1
  pub worked : Worked done (SparesAllBut (IsPreparing from most)) size first most old new
  pub least : reached ≤ worked.last

-- ---- an opening

-- What an opening leaves, on a disk that tells: no file is written to but leftovers that were there and the files of the new numbers, up to the highest; the data files are those that there were and those of the new numbers; and they are as many as the configuration asks for, or the numbers are spent.
pub record HasOpenedFiles (config : Config) (highest : ℕ) (old new : Option Past) : Type 0 where
  pub files : ℕ
  pub before : ℕ
  pub had : Told old (HasNumbers files before)
  pub begun : before < highest
  pub works : Works (SyncsAllBut (IsRenewed old before highest)) config.file_size before highest old new
  pub count : Told new (HasCount (files + (highest - before)))
  pub enough : (config.min_files ≤ files + (highest - before)) ⊎ (highest ≡ 2 ^ 31 - 1)
  pub most : highest ≤ 2 ^ 31 - 1

-- ---- a run

-- the file of the last append, or this one where there is none
abbrev pub file_of_last : ℕ → List Placed → ℕ
file_of_last first history = fold (λ _ p. p.file) first history

-- Which data files there are behind calls from an opening on that made this history: those that there were, and those of the next numbers, as many as the history needs, and where all was done as the configuration asks for; no more than one of these two needs, but where not all was done maybe one, which may be there or not; the calls wrote to no file but the new ones and leftovers that were there; and where all was done no leftover is there.
pub record HasFilesOf (done : Bool) (config : Config) (history : List Placed) (old new : Option Past) : Type 0 where
  pub files : ℕ
  pub before : ℕ
  pub had : Told old (HasNumbers files before)
  pub most : ℕ
  pub limit : most ≤ 2 ^ 31 - 1
  pub begun : before < most
  pub worked : Worked done (SyncsAllBut (IsRenewed old before most)) config.file_size before most old new
  pub stands : file_of_last before history ≤ worked.last
  pub enough : done ≡ true → (config.min_files ≤ files + (most - before)) ⊎ (most ≡ 2 ^ 31 - 1)
  pub tidy : done ≡ true → Told new IsTidy
  pub no_more : (most ≤ (if done then file_of_last (before + 1) history else file_of_last (before + 1) history + 1)) ⊎ (files + (most - before) ≤ config.min_files)

-- The same of the calls so far of a journal whose greatest number this is, and whose history stands from the head of the first new file on, up to this end of the file in use.
pub record HasFilesSoFar (done : Bool) (config : Config) (file end highest : ℕ) (l : Lists) (old new : Option Past) : Type 0 where
  pub files : HasFilesOf done config (history_of l.steps) old new
  pub reached : highest ≤ files.worked.last
  pub next : files.most ≤ highest + 1
  pub all : done ≡ true → files.most ≡ highest
  pub begun : files.before < file
  pub stands : StandsFrom config (files.before + 1) file end l

-- How an opening failed that had begun its first file, in calls behind that, of which the highest number was reached: a rollback is still owed that needs a further file; or no further file was asked for; or no rollback is owed and the last receipt counts all appends.
abbrev pub FailedFlushed : Config → ℕ → ℕ → List ℕ → Option Past → Option Past → Lists → Type 0
FailedFlushed config first highest txs old new l =
    let last = file_of_last first (history_of l.steps) in
    ((length l.steps < length txs) × NextNeedsFile config l × (highest ≡ last)) ⊎ ((highest ≡ last) × WorkedTo true config.file_size first first highest old new) ⊎ ((length l.steps ≡ length txs) × IsLastCount (length (history_of l.steps)) l.receipts)

-- What an opening that failed leaves where it may have begun its first file: the files of what it appended, and further ones. Of these it asked for one where a rollback is still owed that needs it; for none else before all were appended and the last receipt counted them; and then for those of the least number.
pub record HasBegunFiles (config : Config) (l : Lists) (old new : Option Past) : Type 0 where
  pub files : HasFilesOf false config (history_of l.steps) old new
  pub flushed : (let last = file_of_last (files.before + 1) (history_of l.steps) in ((length l.steps < length (rolled_back l.base)) × NextNeedsFile config l × (files.most ≤ last + 1)) ⊎ (files.most ≤ last) ⊎ ((length l.steps ≡ length (rolled_back l.base)) × IsLastCount (length (history_of l.steps)) l.receipts))

-- what an opening that failed leaves: nothing appended and all files with the bytes that they had, or the files that it had begun
abbrev pub HasFailedFiles : Config → Lists → Option Past → Option Past → Type 0
HasFailedFiles config l old new = ((l.steps ≡ []) × Leaves Syncs Syncs old new) ⊎ HasBegunFiles config l old new
