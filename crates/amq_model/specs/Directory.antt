-- The data files of a directory, and what loading it gives.
use Rattle.std.specs.Prelude.{◌≡◌, ℕ, ◌^◌, ◌%◌, Bool, not, ◌&&◌, ◌||◌, nat_lt, nat_le, ◌==◌, if◌then◌else◌, List, [], ◌∷◌, ◌++◌, length, take, drop, map, Option, Some, None, is_some}
use Rattle.std.specs.Int.{w32, w64, from_be_bytes}
use Rattle.std.specs.List.{filter_map, list_any}
use Rattle.amq_model.specs.declared.record.Placed.{Placed}
use Rattle.amq_model.specs.declared.state.LoadState.{LoadState}
use Rattle.amq_model.specs.declared.directory.DirFault.{DirFault}
use Rattle.amq_model.specs.declared.directory.DirFault.TheVariants.{TooLong, Version, UserVersion, TwoFiles}
use Rattle.amq_model.specs.RecordAt.{Spot}
use Rattle.amq_model.specs.Scan.{IsScan}
use Rattle.amq_model.specs.Effect.{result_of}
use Rattle.amq_model.specs.Names.{same, is_data, is_compacted, compacted, control_name}
use Rattle.amq_model.specs.declared.directory.Control.{Control}
use Rattle.amq_model.specs.ControlFile.{IsControl}

-- the files of a directory: names with bytes, ascending by name, each once
abbrev pub Listing : Type 0
Listing = List (List ℕ × List ℕ)

-- the bytes of the file of that name, if it is there
abbrev pub bytes_of : List ℕ → Listing → Option (List ℕ)
bytes_of name [] = None
bytes_of name (f ∷ fs) = if same f.0 name then Some f.1 else bytes_of name fs

-- the name is one of these
abbrev pub named : List ℕ → List (List ℕ) → Bool
named name names = list_any (same name) names

-- what the control file of the listing says, if it is there and readable
abbrev pub SaysControl : Listing → Option Control → Type 0
SaysControl listing (Some c) = (bytes : List ℕ) × (bytes_of control_name listing ≡ Some bytes) × IsControl bytes c
SaysControl listing None = (bytes : List ℕ) (c : Control) → bytes_of control_name listing ≡ Some bytes → IsControl bytes c → ⊥

-- a data file with its header
pub record FileOf : Type 0 where
  pub name : List ℕ
  pub version : ℕ
  pub user_version : ℕ
  pub id : ℕ
  pub bytes : List ℕ

-- what the first 16 bytes say
abbrev pub file_of : List ℕ → List ℕ → FileOf
file_of name bytes = record { name = name; version = from_be_bytes w32 (take 4 bytes); user_version = from_be_bytes w32 (take 4 (drop 4 bytes)); id = from_be_bytes w64 (take 8 (drop 8 bytes)); bytes = bytes }

-- The file of that name counts, with this control file or with none: old names are left out, and a listed .cmp
-- file that is there takes the place of the file without .cmp.
abbrev pub counts : Listing → Option Control → List ℕ → Bool
counts listing None name = is_data name
counts listing (Some c) name = (is_compacted name && named name c.news) || (is_data name && not (named name c.olds) && not (named (compacted name) c.news && is_some (bytes_of (compacted name) listing)))

-- the files that count and have a header, ascending by name
abbrev pub files_by_name : Listing → Option Control → List FileOf
files_by_name listing c = filter_map (λ f. if nat_le 16 (length f.1) && counts listing c f.0 then Some (file_of f.0 f.1) else None) listing

-- behind those of a lesser id, before those of the same
abbrev pub placed_by_id : FileOf → List FileOf → List FileOf
placed_by_id f [] = f ∷ []
placed_by_id f (g ∷ gs) = if nat_lt g.id f.id then g ∷ placed_by_id f gs else f ∷ g ∷ gs

abbrev pub by_id : List FileOf → List FileOf
by_id [] = []
by_id (f ∷ fs) = placed_by_id f (by_id fs)

-- the data files, ascending by id
abbrev pub data_files : Listing → Option Control → List FileOf
data_files listing c = by_id (files_by_name listing c)

-- the first fault of one file
abbrev pub fault_of : ℕ → FileOf → Option DirFault
fault_of wanted f =
    if nat_lt 268435456 (length f.bytes) then Some (TooLong f.name (length f.bytes)) else (
    if f.version == 2 then (if f.user_version == wanted then None else Some (UserVersion f.name f.user_version wanted)) else Some (Version f.name f.version))

-- the least id that two files share, with the first two names
abbrev pub shared : List FileOf → Option DirFault
shared [] = None
shared (f ∷ fs) = elim fs [ [] ↦ None | g ∷ gs ↦ (if f.id == g.id then Some (TwoFiles f.id f.name g.name) else shared fs) ]

-- the first of a list that there is, else another
abbrev pub first_of_them : {A B : Type 0} → (A → Option B) → List A → Option B → Option B
first_of_them p [] otherwise = otherwise
first_of_them p (x ∷ xs) otherwise = elim (p x) [ Some y ↦ Some y | None ↦ first_of_them p xs otherwise ]

-- the first fault of the directory: by file in the order of names, then the least shared id
abbrev pub fault : Listing → Option Control → ℕ → Option DirFault
fault listing c wanted = first_of_them (fault_of wanted) (files_by_name listing c) (shared (data_files listing c))

-- the record at a spot of a file
abbrev pub placed : ℕ → Spot → Placed
placed file s = record { file = file; place = s.place; compact = s.compact; rec = s.rec }

-- the records of the files, one file behind the other
abbrev pub IsJoined : List FileOf → List Placed → Type 0
IsJoined [] l = l ≡ []
IsJoined (f ∷ fs) l = (spots : List Spot) × IsScan f.bytes (f.id % 2 ^ 31) f.version spots × (rest : List Placed) × IsJoined fs rest × (l ≡ map (placed f.id) spots ++ rest)

-- the control file's names that count, the data files, and all their records, one file behind the other
pub record IsRead (listing : Listing) (control : Option Control) (records : List Placed) : Type 0 where
  pub says : SaysControl listing control
  pub joined : IsJoined (data_files listing control) records

-- the directory has this fault, or none
pub record HasFault (listing : Listing) (wanted : ℕ) (found : Option DirFault) : Type 0 where
  pub control : Option Control
  pub says : SaysControl listing control
  pub is : found ≡ fault listing control wanted

-- loading the directory gives this state
pub record Loads (listing : Listing) (wanted : ℕ) (state : LoadState) : Type 0 where
  pub control : Option Control
  pub records : List Placed
  pub read : IsRead listing control records
  pub sound : fault listing control wanted ≡ None
  pub is : state ≡ result_of records
