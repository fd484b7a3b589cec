-- The directory that a journal begins on, once all of it is durable.
use Rattle.std.specs.Prelude.{◌≡◌, ℕ, ◌≤◌, List, [], ◌∷◌, length, Option, Some, None, Contains, All}
use Rattle.std.specs.List.{AllByRecursion}
use Rattle.std.specs.FinMap as finite
use Rattle.amq_model.specs.declared.record.Placed.{Placed}
use Rattle.amq_model.specs.declared.directory.DataFile.{DataFile}
use Rattle.amq_model.specs.Names.{data_number}
use Rattle.amq_model.specs.Files.{FileName, Files}
use Rattle.amq_model.specs.Calls.{Past}
use Rattle.amq_model.specs.Leaves.{AllReads, IsThere, SparesAllBut}
use Rattle.amq_scan.specs.Segments.{Segment, records_of, AreAscending, IsNamed, IsClosedDirectory}

-- The number of each name isn't above the highest, and no two files have one name.
abbrev pub AreNamed : ℕ → List Segment → Type 0
AreNamed highest [] = Unit {0}
AreNamed highest (g ∷ gs) = ((n : ℕ) × (data_number g.name ≡ Some n) × (n ≤ highest)) × (IsNamed g.name gs → ⊥) × AreNamed highest gs

-- an id up to the highest, and no more records than a file has room for
pub record IsBaseFile (highest : ℕ) (g : Segment) : Type 0 where
  pub id : g.id ≤ highest
  pub few : length g.spots ≤ 268435456

-- Data files with these records, and no other data file and no control file; nothing of them is pending.
pub record IsBase (past : Option Past) (wanted highest : ℕ) (base : List Placed) : Type 0 where
  pub files : List Segment
  pub records : records_of files ≡ base
  pub ascending : AreAscending 0 files
  pub named : AreNamed highest files
  pub each : AllByRecursion (IsBaseFile highest) files
  pub reads : AllReads past (IsClosedDirectory wanted files)

-- the files are there
abbrev pub AreThere : List DataFile → Files → Type 0
AreThere files s = All (λ f. IsThere f.name s) files

-- the names differ
abbrev pub AreApart : List FileName → Type 0
AreApart [] = Unit {0}
AreApart (n ∷ ns) = (Contains ns n → ⊥) × AreApart ns

-- while files of these names are removed: all others are as they were
abbrev pub Clears : List FileName → Files → Files → Type 0
Clears names o s = SparesAllBut (λ n. Contains names n) o s

-- in the end: none of them is there
pub record Cleared (names : List FileName) (o s : Files) : Type 0 where
  pub others : Clears names o s
  pub gone : (n : FileName) → Contains names n → finite.get s n ≡ None
