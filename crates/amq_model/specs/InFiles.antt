-- Records as they stand in data files.
use Rattle.std.specs.Prelude.{◌≡◌, ◌+◌, ◌≤◌, List, [], ◌∷◌, Contains, All}
use Rattle.amq_model.specs.declared.record.Placed.{Placed}
use Rattle.amq_model.specs.declared.directory.DataFile.{DataFile}
use Rattle.amq_model.specs.RecordAt.{whole_len}
use Rattle.amq_model.specs.Records.{IsInOrder}

-- The record stands in this file, behind its header, and ends within its length.
pub record IsInFile (p : Placed) (f : DataFile) : Type 0 where
  pub id : f.id ≡ p.file
  pub behind : 16 ≤ p.place
  pub within : p.place + whole_len f.version p.rec ≤ f.len

-- it stands so in one of these files
abbrev pub IsInOne : List DataFile → Placed → Type 0
IsInOne files p = (f : DataFile) × Contains files f × IsInFile p f

-- where both stand in one file, which is one of these, the first ends before the second begins
abbrev pub EndsBefore : List DataFile → Placed → Placed → Type 0
EndsBefore files p q = p.file ≡ q.file → (f : DataFile) × Contains files f × (f.id ≡ p.file) × (p.place + whole_len f.version p.rec ≤ q.place)

-- each ends before those behind it
abbrev pub NoneOverlap : List DataFile → List Placed → Type 0
NoneOverlap files [] = Unit {0}
NoneOverlap files (p ∷ ps) = All (EndsBefore files p) ps × NoneOverlap files ps

-- The records are in order, each stands in one of these files and ends within its length, and no two of one file overlap.
pub record AreInFiles (files : List DataFile) (base : List Placed) : Type 0 where
  pub order : IsInOrder base
  pub each : All (IsInOne files) base
  pub apart : NoneOverlap files base
