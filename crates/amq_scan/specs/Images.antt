-- The records of a file and those of what a crash may leave of it.
use Rattle.std.specs.Prelude.{ℕ, ◌+◌, ◌<◌, ◌≤◌, List, All, Contains}
use Rattle.amq_model.specs.Files.{Range, IsPending, IsTorn}
use Rattle.amq_model.specs.RecordAt.{Spot}
use Rattle.amq_model.specs.Scan.{IsScan}

-- no byte of the record is pending
abbrev pub IsOutside : List Range → Spot → Type 0
IsOutside pending s = (i : ℕ) → s.place ≤ i → i < s.place + s.len → IsPending pending i → ⊥

-- Each record that is found in the image is found, with the same fields, at the same place in the reading.
abbrev pub NoFalseRecord : List ℕ → List ℕ → ℕ → ℕ → Type 0
NoFalseRecord reading image fid version = (found left : List Spot) → IsScan reading fid version found → IsScan image fid version left → All (Contains found) left

-- A file and what a crash left of it, each with its records.
pub record IsLeft (pending : List Range) (reading image : List ℕ) (fid version : ℕ) (found left : List Spot) : Type 0 where
  pub torn : IsTorn pending reading image
  pub found_is : IsScan reading fid version found
  pub left_is : IsScan image fid version left
  pub none_false : All (Contains found) left
