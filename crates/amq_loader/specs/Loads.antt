-- What a directory gives when it is loaded.
use Rattle.std.specs.Prelude.{◌≡◌, ℕ, ◌+◌, ◌≤◌, Bool, ◌||◌, max, fold, filter, List, [], ◌∷◌, ◌++◌, length, map, Option, Some, None, IsTrue, IfSome}
use Rattle.std.specs.List.{filter_map, AllByRecursion}
use Rattle.std.specs.FinMap as finite
use Rattle.amq_model.specs.declared.directory.DataFile.{DataFile}
use Rattle.amq_model.specs.declared.directory.DirFault.{DirFault}
use Rattle.amq_model.specs.declared.state.LoadState.{LoadState}
use Rattle.amq_model.specs.Names.{is_data, is_compacted, is_temporary, control_name, data_number}
use Rattle.amq_model.specs.Effect.{result_of}
use Rattle.amq_model.specs.Ids.{live_numbers}
use Rattle.amq_model.specs.Open.{open_txs, highest_of}
use Rattle.amq_model.specs.Directory.{Listing, FileOf, data_files, fault, fault_of, IsJoined, HasFault, Loads}
use Rattle.amq_model.specs.Files.{FileName, Files, Image, IsReading}
use Rattle.amq_header.specs.Classes.{number_in, temporary_number}
use Rattle.amq_loader.specs.declared.loaded.Loaded.{Loaded}

-- ---- names

-- the N of a data file's, a compacted file's or a temporary name, if it has one
abbrev pub number_of : List ℕ → Option ℕ
number_of name = elim (number_in name) [ Some n ↦ n | None ↦ elim (temporary_number name) [ Some n ↦ n | None ↦ None ] ]

-- a compacted or temporary file
abbrev pub is_leftover : List ℕ → Bool
is_leftover name = is_compacted name || is_temporary name

-- the names of the leftovers, ascending
abbrev pub leftovers_of : Listing → List (List ℕ)
leftovers_of listing = filter is_leftover (map (λ f. f.0) listing)

-- the greatest of these files' ids and of the N of all names, 0 where there is none
abbrev pub highest_number : Listing → List FileOf → ℕ
highest_number listing files = fold max 0 (map (λ f. f.id) files ++ filter_map (λ f. number_of f.0) listing)

-- a data file without its bytes
abbrev pub data_file : FileOf → DataFile
data_file f = record { name = f.name; id = f.id; len = length f.bytes; version = f.version }

-- ---- what is loaded

-- the ids ascend, each at least this
abbrev pub AreRising : ℕ → List FileOf → Type 0
AreRising least [] = Unit {0}
AreRising least (f ∷ fs) = (least ≤ f.id) × AreRising (f.id + 1) fs

-- a data file as it was read: with a header, and without a fault of its own
pub record IsSoundFile (wanted highest : ℕ) (f : FileOf) : Type 0 where
  pub named : IsTrue (is_data f.name)
  pub long : 16 ≤ length f.bytes
  pub faultless : fault_of wanted f ≡ None
  pub id : f.id ≤ highest
  pub number : IfSome (data_number f.name) (λ n. n ≤ highest)

-- What is loaded is that of data files that were read, whatever the disk tells: the records are those of their scans, one file behind the other, and the rest is that of these records.
pub record IsLoad (wanted : ℕ) (l : Loaded) : Type 0 where
  pub read : List FileOf
  pub files : l.files ≡ map data_file read
  pub rising : AreRising 0 read
  pub sound : AllByRecursion (IsSoundFile wanted l.highest_file) read
  pub joined : IsJoined read l.base
  pub state : l.state ≡ result_of l.base
  pub live : l.live ≡ live_numbers l.base
  pub opened : l.open_txs ≡ open_txs l.base
  pub highest_tx : l.highest_tx ≡ highest_of l.base
  pub control : l.control ≡ None

-- What is loaded is what the directory has: its data files, which have no fault, all their records, the greatest number, and the leftovers. It has no control file.
pub record IsLoadOf (wanted : ℕ) (l : Loaded) (s : Files) : Type 0 where
  pub image : Image
  pub reading : IsReading s image
  pub uncontrolled : finite.get image control_name ≡ None
  pub faultless : fault (finite.entries image) None wanted ≡ None
  pub files : l.files ≡ map data_file (data_files (finite.entries image) None)
  pub joined : IsJoined (data_files (finite.entries image) None) l.base
  pub highest_file : l.highest_file ≡ highest_number (finite.entries image) (data_files (finite.entries image) None)
  pub leftovers : l.leftovers ≡ leftovers_of (finite.entries image)

-- the directory has this fault, and no control file
pub record IsFaulty (wanted : ℕ) (found : DirFault) (s : Files) : Type 0 where
  pub image : Image
  pub reading : IsReading s image
  pub uncontrolled : finite.get image control_name ≡ None
  pub is : HasFault (finite.entries image) wanted (Some found)

-- the directory has no control file, and loading it gives this state
pub record IsStateOf (wanted : ℕ) (state : LoadState) (s : Files) : Type 0 where
  pub image : Image
  pub reading : IsReading s image
  pub uncontrolled : finite.get image control_name ≡ None
  pub loads : Loads (finite.entries image) wanted state

-- no compacted and no temporary file is there
abbrev pub IsTidy : Files → Type 0
IsTidy s = (n : FileName) → IsTrue (is_leftover n) → finite.get s n ≡ None
