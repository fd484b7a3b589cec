-- What an opening finds, and what it leaves.
use Rattle.std.specs.Prelude.{◌≡◌, ◌⊎◌, ℕ, ◌+◌, ◌-◌, ◌^◌, ◌<◌, ◌≤◌, nat_lt, if◌then◌else◌, fold, List, [], ◌∷◌, length, take, All, Contains, true, false, Option, None, Some, IsTrue, IfSome}
use Rattle.std.specs.FinMap as finite
use Rattle.amq_model.specs.declared.config.Config.{Config}
use Rattle.amq_model.specs.declared.record.Placed.{Placed}
use Rattle.amq_model.specs.declared.record.Record.TheVariants as r
use Rattle.amq_model.specs.declared.history.Step.{Step}
use Rattle.amq_model.specs.declared.command.Command.TheVariants.{Rollback}
use Rattle.amq_model.specs.declared.directory.OpenFault.{OpenFault}
use Rattle.amq_model.specs.declared.directory.OpenFault.TheVariants as o
use Rattle.amq_model.specs.Names.{is_data, control_name}
use Rattle.amq_model.specs.RecordAt.{len_of}
use Rattle.amq_model.specs.Directory.{IsRead, data_files, fault}
use Rattle.amq_model.specs.Answers.{history_of}
use Rattle.amq_model.specs.Legal.{rolled_back, needs_file, end_of, OpensPartly}
use Rattle.amq_model.specs.Files.{FileName, Files, Image, IsReading}
use Rattle.amq_model.specs.Calls.{Past}
use Rattle.amq_model.specs.Leaves.{Told, IsThere, OnlyAsks}
use Rattle.amq_io.specs.Cause.{Rose, Faults, NoneFailed}
use Rattle.amq_loader.specs.declared.faults.LoadFault.{LoadFault}
use Rattle.amq_loader.specs.declared.faults.LoadFault.TheVariants as f
use Rattle.amq_loader.specs.Loads.{IsFaulty, highest_number, is_leftover}
use Rattle.amq_loader.specs.Bases.{AreApart}
use Rattle.amq_pool.specs.Pools.{ids_of}
use Rattle.amq_engine.specs.Lists.{Lists}
use Rattle.amq_engine.specs.Directory.{files_from}
use Rattle.amq_engine.specs.Engine.{IsBlank}

-- the directory has no fault and no control file, and these are the records of its data files, one file behind the other
pub record HasBase (wanted : ℕ) (base : List Placed) (s : Files) : Type 0 where
  pub image : Image
  pub reading : IsReading s image
  pub uncontrolled : finite.get image control_name ≡ None
  pub read : IsRead (finite.entries image) None base
  pub faultless : fault (finite.entries image) None wanted ≡ None

-- so many data files, and the greatest number of a file or a name
pub record HasNumbers (files highest : ℕ) (s : Files) : Type 0 where
  pub image : Image
  pub reading : IsReading s image
  pub count : files ≡ length (data_files (finite.entries image) None)
  pub is : highest ≡ highest_number (finite.entries image) (data_files (finite.entries image) None)

-- the steps are the opening's rollbacks, all of them, and each was appended
abbrev pub AreRolledBack : List Placed → List Step → Type 0
AreRolledBack base steps = (length steps ≡ length (rolled_back base)) × (length (history_of steps) ≡ length (rolled_back base)) × OpensPartly 1 (rolled_back base) steps

-- where a record of this length stands behind what ends there in that file: right there, where it ends within the file size, else first in the file with the next number
abbrev pub place_behind : Config → ℕ → ℕ → ℕ → ℕ × ℕ
place_behind config file end len = if nat_lt config.file_size (end + len) then (file + 1, 16) else (file, end)

-- each of these records stands so behind the one before it, and the first behind what ends there in that file
abbrev pub StandBehind : Config → ℕ → ℕ → List Placed → Type 0
StandBehind config file end [] = Unit {0}
StandBehind config file end (p ∷ ps) = ((p.file, p.place) ≡ place_behind config file end (len_of p.rec)) × StandBehind config p.file (p.place + len_of p.rec) ps

-- where a rollback stands behind what ends there in that file: right there, where it ends within the file size, else first in the file with the next number
abbrev pub rollback_behind : Config → ℕ → ℕ → ℕ → Placed
rollback_behind config file end tx =
    if nat_lt config.file_size (end + len_of (r.Rollback tx)) then record { file = file + 1; place = 16; compact = 0; rec = r.Rollback tx } else record { file = file; place = end; compact = 0; rec = r.Rollback tx }

-- the rollbacks of these transactions, one behind the other
abbrev pub rollbacks_behind : Config → ℕ → ℕ → List ℕ → List Placed
rollbacks_behind config file end [] = []
rollbacks_behind config file end (tx ∷ txs) = let p = rollback_behind config file end tx in p ∷ rollbacks_behind config p.file (p.place + len_of p.rec) txs

-- Each step appended its record, and these are the first of the base's rollbacks, from the head of the file on that has the number behind all that there were.
pub record AreFirstRollbacks (config : Config) (l : Lists) (s : Files) : Type 0 where
  pub files : ℕ
  pub before : ℕ
  pub had : HasNumbers files before s
  pub placed : history_of l.steps ≡ take (length l.steps) (rollbacks_behind config (before + 1) 16 (rolled_back l.base))

-- The file in use is that of the last append, or the one that was begun, and the last append ends there.
abbrev pub EndsIn : ℕ → List Placed → ℕ → ℕ → Type 0
EndsIn first history file end = (file ≡ fold (λ _ p. p.file) first history) × (end ≡ end_of history)

-- The history stands so from the head of the first file on, and the file in use and the end in it are those of its last record.
abbrev pub StandsFrom : Config → ℕ → ℕ → ℕ → Lists → Type 0
StandsFrom config first file end l = StandBehind config first 16 (history_of l.steps) × EndsIn first (history_of l.steps) file end

-- The history is the rollbacks of these transactions, from the head of the file on that has the number behind all that there were; the file in use is that of the last one, and the prepared files have the numbers behind it; they are as many as make the least number of files, unless numbers are spent, and no more.
pub record IsFilled (config : Config) (txs : List ℕ) (history : List Placed) (file end highest : ℕ) (free : List ℕ) (s : Files) : Type 0 where
  pub files : ℕ
  pub before : ℕ
  pub had : HasNumbers files before s
  pub unspent : before < 2 ^ 31 - 1
  pub placed : history ≡ rollbacks_behind config (before + 1) 16 txs
  pub begun : before < file
  pub within : file ≤ highest
  pub most : highest ≤ 2 ^ 31 - 1
  pub ends : EndsIn (before + 1) history file end
  pub prepared : free ≡ ids_of (files_from (file + 1) (highest - file))
  pub enough : (config.min_files ≤ files + (highest - before)) ⊎ (highest ≡ 2 ^ 31 - 1)
  pub no_more : (highest ≡ file) ⊎ (files + (highest - before) ≤ config.min_files)

-- the next rollback, right behind the last append, would end behind the file size
abbrev pub NextNeedsFile : Config → Lists → Type 0
NextNeedsFile config l = IsTrue (needs_file (history_of l.steps) config (Rollback 0))

-- The next rollback needs a further file, and the last append stands in the one of the greatest number.
abbrev pub NeedsFile : Config → Lists → Type 0
NeedsFile config l = (length l.steps < length (rolled_back l.base)) × NextNeedsFile config l × (fold (λ _ p. p.file) 0 (history_of l.steps) ≡ 2 ^ 31 - 1)

-- Why an opening failed: exactly the first fault of the directory, where it was only asked and nothing was noted; exactly where a file has the control file's name; exactly where the directory has no fault and the numbers of files are spent, or are when the rollbacks need a further file; for a disk call only where the count of faults rose, and then the one that failed last; or want of memory, where no disk call failed.
abbrev pub HasOpenCause : Config → OpenFault → Option Lists → Option Past → Option Past → Faults → Faults → Type 0
HasOpenCause config o.NotBuilt lists old new was now = OnlyAsks old new × Told old (IsThere control_name) × IfSome lists IsBlank × NoneFailed was now
HasOpenCause config (o.Directory found) lists old new was now = OnlyAsks old new × Told old (IsFaulty config.user_version found) × IfSome lists IsBlank × NoneFailed was now
HasOpenCause config (o.FileIdsSpent highest) lists old new was now =
    NoneFailed was now × (((2 ^ 31 - 1 ≤ highest) × OnlyAsks old new × IfSome lists IsBlank × Told old (λ s. (files : ℕ) × (base : List Placed) × HasBase config.user_version base s × HasNumbers files highest s)) ⊎ ((highest ≡ 2 ^ 31 - 1) × IfSome lists (λ l. NeedsFile config l × Told old (HasBase config.user_version l.base))))
HasOpenCause config (o.Disk call) lists old new was now = Rose was.0 now.0 × (now.1 ≡ Some call)
HasOpenCause config o.NoMemory lists old new was now = NoneFailed was now

-- Why a rollback of the opening wasn't appended: exactly where it needs a further file and numbers are spent; for a disk call, or for want of memory, as above.
abbrev pub HasRollCause : Config → OpenFault → Option Lists → Faults → Faults → Type 0
HasRollCause config o.NotBuilt lists was now = ⊥
HasRollCause config (o.Directory found) lists was now = ⊥
HasRollCause config (o.FileIdsSpent highest) lists was now = (highest ≡ 2 ^ 31 - 1) × IfSome lists (NeedsFile config) × NoneFailed was now
HasRollCause config (o.Disk call) lists was now = Rose was.0 now.0 × (now.1 ≡ Some call)
HasRollCause config o.NoMemory lists was now = NoneFailed was now

-- ---- within an opening

-- The names are of files that are there, differ, and none is a data file's or the control file's. No other compacted or temporary file is there.
pub record AreLeft (names : List FileName) (s : Files) : Type 0 where
  pub there : All (λ n. IsThere n s) names
  pub apart : AreApart names
  pub are : (n : FileName) → Contains names n → is_leftover n ≡ true
  pub others : (n : FileName) → Contains names n → (is_data n ≡ false) × (n ≡ control_name → ⊥)
  pub all : (n : FileName) → is_leftover n ≡ true → (Contains names n → ⊥) → finite.get s n ≡ None

-- a fault of the load, as the opening's
abbrev pub load_fault : LoadFault → OpenFault
load_fault (f.Directory found) = o.Directory found
load_fault (f.Disk call) = o.Disk call
load_fault f.NoMemory = o.NoMemory
load_fault f.NotBuilt = o.NotBuilt
