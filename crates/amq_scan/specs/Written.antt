-- Records written one behind the other.
use Rattle.std.specs.Prelude.{ℕ, ◌+◌, ◌≤◌, List, [], ◌∷◌, ◌++◌, All}
use Rattle.amq_model.specs.Files.{Range, IsPending}
use Rattle.amq_model.specs.declared.record.Record.{Record}
use Rattle.amq_model.specs.RecordAt.{Spot, IsRecord, IsCompact, spelling, whole_len}

-- a record with its compact count
pub record Item : Type 0 where
  pub compact : ℕ
  pub rec : Record

-- it can be written
pub record IsItem (version : ℕ) (x : Item) : Type 0 where
  pub values : IsRecord x.rec
  pub small : IsCompact version x.compact

-- their bytes, one behind the other
abbrev pub spelled : ℕ → ℕ → List Item → List ℕ
spelled version fid [] = []
spelled version fid (x ∷ xs) = spelling version fid x.compact x.rec ++ spelled version fid xs

-- where they stand from a place on
abbrev pub spots_from : ℕ → ℕ → List Item → List Spot
spots_from version place [] = []
spots_from version place (x ∷ xs) = record { place = place; len = whole_len version x.rec; compact = x.compact; rec = x.rec } ∷ spots_from version (place + whole_len version x.rec) xs

-- where they end
abbrev pub end_from : ℕ → ℕ → List Item → ℕ
end_from version place [] = place
end_from version place (x ∷ xs) = end_from version (place + whole_len version x.rec) xs

-- each byte is above the kinds, so no record begins here
abbrev pub IsFill : List ℕ → Type 0
IsFill bytes = All (λ b. 20 ≤ b) bytes

-- the bytes of a file: its header, records one behind the other, and filling
abbrev pub file_bytes : ℕ → ℕ → List ℕ → List Item → List ℕ → List ℕ
file_bytes version fid header items fill = header ++ (spelled version fid items ++ fill)

-- everything that is pending lies behind this place
abbrev pub IsBehind : ℕ → List Range → Type 0
IsBehind end pending = (i : ℕ) → IsPending pending i → end ≤ i
