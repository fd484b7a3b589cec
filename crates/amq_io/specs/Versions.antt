-- A file of a disk in memory: as it reads, and the bytes that were last synced.
use Rattle.std.specs.Prelude.{ℕ, List}
use Rattle.amq_model.specs.Files.{File}

pub record Versions : Type 0 where
  pub read : File
  pub synced : List ℕ
