-- What is read of the data files of a directory.
use Rattle.std.specs.Prelude.{◌≡◌, ℕ, ◌^◌, ◌%◌, Bool, false, ◌&&◌, nat_lt, nat_le, ◌==◌, if◌then◌else◌, List, [], ◌∷◌, ◌++◌, length, take, map, max, fold, Option, Some, None, Result, Ok, Err, IsTrue, IfSome}
use Rattle.std.specs.List.{filter_map, AllByRecursion}
use Rattle.std.specs.FinMap as finite
use Rattle.amq_model.specs.declared.record.Placed.{Placed}
use Rattle.amq_model.specs.declared.directory.DirFault.{DirFault}
use Rattle.amq_model.specs.declared.directory.DirFault.TheVariants.{TooLong, Version, UserVersion, TwoFiles}
use Rattle.amq_model.specs.RecordAt.{Spot}
use Rattle.amq_model.specs.Scan.{IsScan}
use Rattle.amq_model.specs.Names.{is_data}
use Rattle.amq_model.specs.Directory.{Listing, FileOf, file_of, files_by_name, data_files, fault_of, first_of_them, fault, placed}
use Rattle.amq_model.specs.Files.{File, Files}
use Rattle.amq_model.specs.Calls.{Past}
use Rattle.amq_model.specs.Leaves.{Told, HasBytes}
use Rattle.amq_io.specs.declared.disk.FileInfo.{FileInfo}
use Rattle.amq_header.specs.declared.header.Header.{Header}
use Rattle.amq_loader.specs.declared.faults.LoadFault.{LoadFault}
use Rattle.amq_loader.specs.declared.faults.LoadFault.TheVariants as f
use Rattle.amq_loader.specs.declared.part.Part.{Part}
use Rattle.amq_loader.specs.Loads.{data_file, number_of, AreRising}

-- ---- one file

-- the fault of a data file of this length, with this header
abbrev pub fault_from : ℕ → List ℕ → ℕ → Header → Option DirFault
fault_from wanted name len header =
    if nat_lt 268435456 len then Some (TooLong name len) else (
    if header.version == 2 then (if header.user_version == wanted then None else Some (UserVersion name header.user_version wanted)) else Some (Version name header.version))

-- the records are those of the scan of these bytes
pub record HasRecords (bytes : List ℕ) (id version : ℕ) (records : List Placed) : Type 0 where
  pub spots : List Spot
  pub scan : IsScan bytes (id % 2 ^ 31) version spots
  pub are : records ≡ map (placed id) spots

-- the part is what is kept of the file
pub record IsPartOf (f : FileOf) (p : Part) : Type 0 where
  pub file : p.file ≡ data_file f
  pub records : HasRecords f.bytes f.id f.version p.records

-- a file of these bytes is a data file with a header
abbrev pub is_counted : List ℕ → List ℕ → Bool
is_counted name bytes = nat_le 16 (length bytes) && is_data name

-- the part of a data file with a header and without a fault
pub record IsSoundPart (wanted : ℕ) (name bytes : List ℕ) (p : Part) : Type 0 where
  pub counts : IsTrue (is_counted name bytes)
  pub faultless : fault_of wanted (file_of name bytes) ≡ None
  pub part : IsPartOf (file_of name bytes) p

-- what is found in a file of these bytes: a part exactly where it is a data file with a header
abbrev pub IsFound : ℕ → List ℕ → List ℕ → Option Part → Type 0
IsFound wanted name bytes None = is_counted name bytes ≡ false
IsFound wanted name bytes (Some p) = IsSoundPart wanted name bytes p

-- the file of these bytes is a data file with this fault
pub record IsFaultHere (wanted : ℕ) (name bytes : List ℕ) (found : DirFault) : Type 0 where
  pub counts : IsTrue (is_counted name bytes)
  pub is : fault_of wanted (file_of name bytes) ≡ Some found

-- no fault but that of the file
abbrev pub HasFaultHere : {T : Type 0} → ℕ → List ℕ → List ℕ → Result T LoadFault → Type 0
HasFaultHere wanted name bytes (Ok x) = Unit {0}
HasFaultHere wanted name bytes (Err (f.Directory found)) = IsFaultHere wanted name bytes found
HasFaultHere wanted name bytes (Err f.NoMemory) = Unit {0}
HasFaultHere wanted name bytes (Err f.NotBuilt) = ⊥
HasFaultHere wanted name bytes (Err (f.Disk call)) = ⊥

-- ---- one file of a disk

-- the file is there with its length
pub record IsListedFile (info : FileInfo) (s : Files) : Type 0 where
  pub file : File
  pub there : finite.get s info.name ≡ Some file
  pub len : info.len ≡ length file.bytes

-- what was found in the file of that name, which has these bytes if the disk tells any
pub record IsFoundIn (wanted : ℕ) (name : List ℕ) (past : Option Past) (found : Option Part) : Type 0 where
  pub bytes : List ℕ
  pub told : Told past (HasBytes name bytes)
  pub is : IsFound wanted name bytes found

-- the file of that name is a data file with this fault
abbrev pub IsFaultIn : ℕ → List ℕ → DirFault → Files → Type 0
IsFaultIn wanted name found s = IfSome (finite.get s name) (λ f. IsFaultHere wanted name f.bytes found)

-- ---- several files

-- the parts are what is kept of the files, one for one
abbrev pub ArePartsOf : List FileOf → List Part → Type 0
ArePartsOf [] [] = Unit {0}
ArePartsOf (f ∷ fs) (p ∷ ps) = IsPartOf f p × ArePartsOf fs ps
ArePartsOf [] (p ∷ ps) = ⊥
ArePartsOf (f ∷ fs) [] = ⊥

-- the files of the directory with their bytes, ascending by name
abbrev pub listing_of : Files → Listing
listing_of s = map {B = List ℕ × List ℕ} (λ e. (e.0, e.1.bytes)) (finite.entries s)

-- What was found in the first files of a directory, those of these names; the order is that of the names.
pub record AreFound (wanted : ℕ) (names : List (List ℕ)) (past : Option Past) (parts : List Part) : Type 0 where
  pub listing : Listing
  pub named : map (λ f. f.0) listing ≡ names
  pub told : Told past (λ s. listing ≡ take (length listing) (listing_of s))
  pub faultless : AllByRecursion (λ f. fault_of wanted f ≡ None) (files_by_name listing None)
  pub kept : ArePartsOf (files_by_name listing None) parts

-- the first fault of a file, in the order of the names, whatever else there is
abbrev pub IsFirstFault : ℕ → DirFault → Files → Type 0
IsFirstFault wanted found s = (otherwise : Option DirFault) → first_of_them (fault_of wanted) (files_by_name (listing_of s) None) otherwise ≡ Some found

-- What was loaded of all files of a directory, which have these names: no fault, and the parts by the ids.
pub record AreLoaded (wanted : ℕ) (names : List (List ℕ)) (past : Option Past) (parts : List Part) : Type 0 where
  pub listing : Listing
  pub named : map (λ f. f.0) listing ≡ names
  pub told : Told past (λ s. listing ≡ listing_of s)
  pub faultless : fault listing None wanted ≡ None
  pub rising : AreRising 0 (data_files listing None)
  pub kept : ArePartsOf (data_files listing None) parts

-- the directory has this fault, if it has no control file
abbrev pub IsFault : ℕ → DirFault → Files → Type 0
IsFault wanted found s = fault (listing_of s) None wanted ≡ Some found

-- ---- parts by their ids

-- behind those of a lesser id, before those of the same
abbrev pub part_placed : Part → List Part → List Part
part_placed p [] = p ∷ []
part_placed p (q ∷ qs) = if nat_lt q.file.id p.file.id then q ∷ part_placed p qs else p ∷ q ∷ qs

abbrev pub parts_by_id : List Part → List Part
parts_by_id [] = []
parts_by_id (p ∷ ps) = part_placed p (parts_by_id ps)

-- the least id that two share, with the first two names
abbrev pub shared_id : List Part → Option DirFault
shared_id [] = None
shared_id (p ∷ ps) = elim ps [ [] ↦ None | q ∷ qs ↦ (if p.file.id == q.file.id then Some (TwoFiles p.file.id p.file.name q.file.name) else shared_id ps) ]

-- the records, one file behind the other
abbrev pub all_records : List Part → List Placed
all_records [] = []
all_records (p ∷ ps) = p.records ++ all_records ps

-- the greatest of the files' ids and of the N of these names, 0 where there is none
abbrev pub highest_in : List Part → List (List ℕ) → ℕ
highest_in parts names = fold max 0 (map (λ p. p.file.id) parts ++ filter_map number_of names)
