-- The data files of a directory by the records that their scans find.
use Rattle.std.specs.Prelude.{◌≡◌, ◌⊎◌, ℕ, ◌+◌, ◌-◌, ◌^◌, ◌%◌, ◌≤◌, List, [], ◌∷◌, ◌++◌, length, take, drop, map, None, Some, IsTrue}
use Rattle.std.specs.FinMap as finite
use Rattle.amq_model.specs.declared.record.Placed.{Placed}
use Rattle.amq_model.specs.RecordAt.{Spot}
use Rattle.amq_model.specs.Scan.{IsScan}
use Rattle.amq_model.specs.Kept.{IsPart}
use Rattle.amq_model.specs.Names.{is_data, control_name}
use Rattle.amq_model.specs.Files.{FileName, Files, File, Image, IsPending}
use Rattle.amq_model.specs.Directory.{file_of, data_files, fault, placed, IsJoined, SaysControl}

-- a data file by its name, its id, and the records of its scan
pub record Segment : Type 0 where
  pub name : FileName
  pub id : ℕ
  pub spots : List Spot

-- its records, with its id
abbrev pub records_in : Segment → List Placed
records_in g = map (placed g.id) g.spots

-- the records of the files, one file behind the other
abbrev pub records_of : List Segment → List Placed
records_of [] = []
records_of (g ∷ gs) = records_in g ++ records_of gs

-- the ids ascend, each at least this
abbrev pub AreAscending : ℕ → List Segment → Type 0
AreAscending least [] = Unit {0}
AreAscending least (g ∷ gs) = (least ≤ g.id) × AreAscending (g.id + 1) gs

-- one of them has this name
abbrev pub IsNamed : FileName → List Segment → Type 0
IsNamed n [] = ⊥
IsNamed n (g ∷ gs) = (g.name ≡ n) ⊎ IsNamed n gs

-- where the last of these spots ends, or else this place
abbrev pub end_of_spots : ℕ → List Spot → ℕ
end_of_spots place [] = place
end_of_spots place (s ∷ ss) = end_of_spots (s.place + s.len) ss

-- A data file without a fault, whose scan finds these records.
pub record IsSegment (wanted : ℕ) (g : Segment) (bytes : List ℕ) : Type 0 where
  pub named : IsTrue (is_data g.name)
  pub long : 16 ≤ length bytes
  pub short : length bytes ≤ 268435456
  pub version : (file_of g.name bytes).version ≡ 2
  pub user_version : (file_of g.name bytes).user_version ≡ wanted
  pub id : (file_of g.name bytes).id ≡ g.id
  pub scan : IsScan bytes (g.id % 2 ^ 31) 2 g.spots

-- The file is there, and nothing of its header and its first `sure` records is pending.
pub record IsThere (wanted sure : ℕ) (s : Files) (g : Segment) : Type 0 where
  pub file : File
  pub there : finite.get s g.name ≡ Some file
  pub is : IsSegment wanted g file.bytes
  pub behind : (i : ℕ) → IsPending file.pending i → end_of_spots 16 (take sure g.spots) ≤ i

-- so are all of them, where `sure` counts the records of all
abbrev pub AreThere : ℕ → ℕ → Files → List Segment → Type 0
AreThere wanted sure s [] = Unit {0}
AreThere wanted sure s (g ∷ gs) = IsThere wanted sure s g × AreThere wanted (sure - length g.spots) s gs

-- The file is there, its scan finds these records, and nothing of it is pending.
pub record IsClosed (wanted : ℕ) (s : Files) (g : Segment) : Type 0 where
  pub file : File
  pub there : finite.get s g.name ≡ Some file
  pub is : IsSegment wanted g file.bytes
  pub still : (i : ℕ) → IsPending file.pending i → ⊥

abbrev pub AreClosed : ℕ → Files → List Segment → Type 0
AreClosed wanted s [] = Unit {0}
AreClosed wanted s (g ∷ gs) = IsClosed wanted s g × AreClosed wanted s gs

-- The directory has these data files, of which the first `sure` records are durable, and no other; and no control file. Files of other names may be there, and data files' names with fewer than 16 bytes.
pub record IsDirectory (wanted sure : ℕ) (gs : List Segment) (s : Files) : Type 0 where
  pub ascending : AreAscending 0 gs
  pub there : AreThere wanted sure s gs
  pub only : (n : FileName) (file : File) → IsTrue (is_data n) → 16 ≤ length file.bytes → finite.get s n ≡ Some file → IsNamed n gs
  pub uncontrolled : finite.get s control_name ≡ None

-- The directory has these data files, nothing of them is pending, and no other; and no control file.
pub record IsClosedDirectory (wanted : ℕ) (gs : List Segment) (s : Files) : Type 0 where
  pub ascending : AreAscending 0 gs
  pub there : AreClosed wanted s gs
  pub only : (n : FileName) (file : File) → IsTrue (is_data n) → 16 ≤ length file.bytes → finite.get s n ≡ Some file → IsNamed n gs
  pub uncontrolled : finite.get s control_name ≡ None

-- What is left of such a directory: no fault, no control file, and the sure records with a part of the others.
pub record IsLeftOf (wanted sure : ℕ) (gs : List Segment) (image : Image) : Type 0 where
  pub sound : fault (finite.entries image) None wanted ≡ None
  pub uncontrolled : finite.get image control_name ≡ None
  pub says : SaysControl (finite.entries image) None
  pub rest : List Placed
  pub some : IsPart rest (drop sure (records_of gs))
  pub joined : IsJoined (data_files (finite.entries image) None) (take sure (records_of gs) ++ rest)
