-- The control file of a compaction.
use Rattle.std.specs.Prelude.{◌≡◌, ℕ, ◌≤◌, List, ◌∷◌, ◌++◌, length, take, drop, All, Contains, IsTrue}
use Rattle.std.specs.Int.{w16, to_be_bytes}
use Rattle.std.specs.List.{flat_map}
use Rattle.amq_model.specs.declared.record.Record.TheVariants.{Add}
use Rattle.amq_model.specs.RecordAt.{Spot, long, word}
use Rattle.amq_model.specs.Scan.{IsScan}
use Rattle.amq_model.specs.Names.{is_data, is_compacted, compacted}
use Rattle.amq_model.specs.declared.directory.Control.{Control}

-- two bytes of length, and the name
abbrev pub sized_name : List ℕ → List ℕ
sized_name name = to_be_bytes w16 (length name) ++ name

-- the old names, the new names, and no renames
abbrev pub control_body : Control → List ℕ
control_body c = word (length c.olds) ++ flat_map sized_name c.olds ++ word (length c.news) ++ flat_map sized_name c.news ++ word 0

-- the bytes are a control file with these names
pub record IsControl (bytes : List ℕ) (c : Control) : Type 0 where
  pub whole : 16 ≤ length bytes
  pub version : take 4 bytes ≡ word 2
  pub id : take 8 (drop 8 bytes) ≡ long 0
  pub spot : Spot
  pub others : List Spot
  pub scan : IsScan bytes 0 2 (spot ∷ others)
  pub more : List ℕ
  pub first : spot.rec ≡ Add 1 0 (control_body c ++ more)
  pub olds : All (λ name. IsTrue (is_data name)) c.olds
  pub news : All (λ name. IsTrue (is_compacted name)) c.news
  pub apart : All (λ name. Contains c.news (compacted name) → ⊥) c.olds
