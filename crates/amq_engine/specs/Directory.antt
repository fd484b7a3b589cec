-- What the directory of a journal has: closed files, the file in use, and files that are prepared.
use Rattle.std.specs.Prelude.{◌≡◌, ◌⊎◌, ℕ, zero, suc, ◌+◌, ◌-◌, ◌^◌, ◌<◌, ◌≤◌, List, [], ◌∷◌, ◌++◌, length, take, map, Some, None, IsTrue}
use Rattle.std.specs.FinMap as finite
use Rattle.amq_model.specs.declared.config.Config.{Config}
use Rattle.amq_model.specs.declared.record.Placed.{Placed}
use Rattle.amq_model.specs.Names.{is_data, data_number, control_name}
use Rattle.amq_model.specs.Directory.{placed}
use Rattle.amq_model.specs.Files.{FileName, Files, File, IsPending}
use Rattle.amq_scan.specs.Written.{Item, IsFill, file_bytes, spots_from, end_from}
use Rattle.amq_scan.specs.Segments.{Segment, records_of, AreClosed, IsClosedDirectory}
use Rattle.amq_pool.specs.declared.pool.PoolFile.{PoolFile}
use Rattle.amq_pool.specs.Pools.{header_for, file_for, numbered_file}

-- ---- records

-- records written one behind the other from the head of a file on
abbrev pub placed_in : ℕ → List Item → List Placed
placed_in id items = map (placed id) (spots_from 2 16 items)

-- the first records of a file, as its scan finds them
abbrev pub segment : PoolFile → List Item → Segment
segment f items = record { name = f.name; id = f.id; spots = spots_from 2 16 items }

-- prepared files have no records
abbrev pub bare : List PoolFile → List Segment
bare files = map (λ f. segment f []) files

-- ---- names and ids

-- a data file by its name and its id
abbrev pub named_file : Segment → PoolFile
named_file g = record { name = g.name; id = g.id }

-- the files of a journal, in the order of their ids
abbrev pub all_files : List Segment → PoolFile → List PoolFile → List PoolFile
all_files closed used free = map named_file closed ++ used ∷ free

-- one of them has this name
abbrev pub HasName : FileName → List PoolFile → Type 0
HasName n [] = ⊥
HasName n (f ∷ fs) = (f.name ≡ n) ⊎ HasName n fs

-- The ids ascend from the least one on, none is above the highest number, and no number of a name; no two files have one name.
abbrev pub AreListed : ℕ → ℕ → List PoolFile → Type 0
AreListed highest least [] = Unit {0}
AreListed highest least (f ∷ fs) = (least ≤ f.id) × (f.id ≤ highest) × ((n : ℕ) × (data_number f.name ≡ Some n) × (n ≤ highest)) × (HasName f.name fs → ⊥) × AreListed highest (f.id + 1) fs

-- the files with these numbers, as they are named when they are prepared
abbrev pub files_from : ℕ → ℕ → List PoolFile
files_from first zero = []
files_from first (suc n) = numbered_file first ∷ files_from (first + 1) n

-- ---- the directory

-- The file in use reads as its header, a front of these records, and filling. Nothing of its first `sure` records is pending, and nothing at all where those are all.
pub record IsInUse (config : Config) (used : PoolFile) (sure : ℕ) (items : List Item) (s : Files) : Type 0 where
  pub file : File
  pub there : finite.get s used.name ≡ Some file
  pub put : ℕ
  pub fill : List ℕ
  pub ahead : sure ≤ put
  pub most : put ≤ length items
  pub bytes : file.bytes ≡ file_bytes 2 used.id (header_for config used.id) (take put items) fill
  pub filled : IsFill fill
  pub size : length file.bytes ≡ config.file_size
  pub behind : (i : ℕ) → IsPending file.pending i → end_from 2 16 (take sure items) ≤ i
  pub still : sure ≡ length items → (i : ℕ) → IsPending file.pending i → ⊥

-- the files are there as they were prepared
abbrev pub ArePrepared : Config → Files → List PoolFile → Type 0
ArePrepared config s [] = Unit {0}
ArePrepared config s (f ∷ fs) = (finite.get s f.name ≡ Some (file_for config f.id)) × ArePrepared config s fs

-- The directory has these data files and no other, and no control file. Files of other names may be there, and data files' names with fewer than 16 bytes.
pub record Stands (config : Config) (closed : List Segment) (used : PoolFile) (sure : ℕ) (items : List Item) (free : List PoolFile) (s : Files) : Type 0 where
  pub closed_there : AreClosed config.user_version s closed
  pub used_there : IsInUse config used sure items s
  pub free_there : ArePrepared config s free
  pub only : (n : FileName) (file : File) → IsTrue (is_data n) → 16 ≤ length file.bytes → finite.get s n ≡ Some file → HasName n (all_files closed used free)
  pub uncontrolled : finite.get s control_name ≡ None

-- the same, where one more file may be prepared: the one whose preparation ended in a failed call
abbrev pub StandsNow : Config → List Segment → PoolFile → ℕ → List Item → ℕ → List PoolFile → Files → Type 0
StandsNow config closed used sure items highest free s =
    Stands config closed used sure items free s
    ⊎ ((highest < 2 ^ 31 - 1) × Stands config closed used sure items (free ++ numbered_file (highest + 1) ∷ []) s)

-- ---- before the first file

-- no file is there
abbrev pub IsEmpty : Files → Type 0
IsEmpty s = (q : FileName) → finite.get s q ≡ None

-- ---- when all is durable

-- The directory's data files hold the base and then this history; nothing of them is pending, and there are no others and no control file.
pub record IsJournal (wanted : ℕ) (base history : List Placed) (s : Files) : Type 0 where
  pub files : List Segment
  pub is : IsClosedDirectory wanted files s
  pub records : records_of files ≡ base ++ history
