-- What preparing a file leaves, at each moment of it.
use Rattle.std.specs.Prelude.{◌≡◌, ◌⊎◌, ℕ, List, [], replicate, Some, None}
use Rattle.std.specs.FinMap as map
use Rattle.amq_model.specs.Files.{FileName, Files, File, overlaid}

-- the file when it is prepared: header and filling, nothing pending
abbrev pub prepared_file : ℕ → ℕ → List ℕ → File
prepared_file len fill header = record { bytes = overlaid (replicate len fill) 0 header; pending = [] }

-- The file of that name is as it was, or is there whole and the temporary one is gone. Other files are as they were.
pub record Prepares (temporary name : FileName) (len fill : ℕ) (header : List ℕ) (o s : Files) : Type 0 where
  pub others : (n : FileName) → (n ≡ temporary → ⊥) → (n ≡ name → ⊥) → map.get s n ≡ map.get o n
  pub final : (map.get s name ≡ map.get o name) ⊎ ((map.get s name ≡ Some (prepared_file len fill header)) × (map.get s temporary ≡ None))

-- in the end
pub record Prepared (temporary name : FileName) (len fill : ℕ) (header : List ℕ) (o s : Files) : Type 0 where
  pub others : (n : FileName) → (n ≡ temporary → ⊥) → (n ≡ name → ⊥) → map.get s n ≡ map.get o n
  pub final : map.get s name ≡ Some (prepared_file len fill header)
  pub gone : map.get s temporary ≡ None

-- all files but the temporary one are as they were
abbrev pub Spares : FileName → Files → Files → Type 0
Spares temporary o s = (n : FileName) → (n ≡ temporary → ⊥) → map.get s n ≡ map.get o n
