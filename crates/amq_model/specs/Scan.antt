-- The records of a file: the covering list.
use Rattle.std.specs.Prelude.{ℕ, ◌+◌, ◌<◌, ◌≤◌, List, [], ◌∷◌}
use Rattle.amq_model.specs.RecordAt.{Spot, RecordAt, NoneAt}

-- These spots, ascending and not overlapping, each hold a record, and at no place from `from` on that none of them covers does one stand.
abbrev pub IsScanFrom : List ℕ → ℕ → ℕ → ℕ → List Spot → Type 0
IsScanFrom bytes fid version from [] = (p : ℕ) → from ≤ p → NoneAt bytes fid version p
IsScanFrom bytes fid version from (s ∷ ss) = (from ≤ s.place) × ((p : ℕ) → from ≤ p → p < s.place → NoneAt bytes fid version p) × RecordAt bytes fid version s × IsScanFrom bytes fid version (s.place + s.len) ss

-- the scan of a file begins behind the header
abbrev pub IsScan : List ℕ → ℕ → ℕ → List Spot → Type 0
IsScan bytes fid version spots = IsScanFrom bytes fid version 16 spots
