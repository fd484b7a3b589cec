-- What clauses see of a pool, and the files that it prepares.
use Rattle.std.specs.Prelude.{ℕ, ◌+◌, ◌-◌, ◌^◌, ◌<◌, ◌≤◌, List, [], ◌∷◌, ◌++◌, map, Some, All, ◌≡◌}
use Rattle.amq_model.specs.declared.config.Config.{Config}
use Rattle.amq_model.specs.Configs.{IsConfig}
use Rattle.amq_model.specs.Files.{Files, File}
use Rattle.amq_model.specs.Names.{data_number}
use Rattle.amq_header.specs.Headers.{header_bytes}
use Rattle.amq_header.specs.Classes.{data_name, temporary_name}
use Rattle.amq_pool.specs.declared.pool.PoolFile.{PoolFile}
use Rattle.amq_pool.specs.Prepare.{prepared_file, Prepares, Prepared, Spares}

-- the parameters, the greatest number so far, and the files that are prepared, in order
pub record PoolOf : Type 0 where
  pub config : Config
  pub highest : ℕ
  pub prepared : List PoolFile

-- their ids
abbrev pub ids_of : List PoolFile → List ℕ
ids_of files = map (λ f. f.id) files

-- the name is a data file's, and its number isn't above the greatest one
abbrev pub IsNamed : ℕ → PoolFile → Type 0
IsNamed highest f = (n : ℕ) × (data_number f.name ≡ Some n) × (n ≤ highest)

-- the ids ascend, above the first number and up to the last
abbrev pub AscendWithin : ℕ → List ℕ → ℕ → Type 0
AscendWithin low [] high = low ≤ high
AscendWithin low (id ∷ ids) high = (low < id) × AscendWithin id ids high

-- The ids are numbers of files, ascending, and no id and no number of a name is above the greatest number so far.
pub record IsPool (p : PoolOf) : Type 0 where
  pub config : IsConfig p.config
  pub named : All (IsNamed p.highest) p.prepared
  pub given : AscendWithin 0 (ids_of p.prepared) p.highest
  pub numbers : AscendWithin 0 (ids_of p.prepared) (2 ^ 31 - 1)

-- a file with this number as its id and in its name
abbrev pub numbered_file : ℕ → PoolFile
numbered_file id = record { name = data_name id; id = id }

-- the pool with one more file, which has the next number
abbrev pub with_next : PoolOf → PoolOf
with_next p = record { config = p.config; highest = p.highest + 1; prepared = p.prepared ++ numbered_file (p.highest + 1) ∷ [] }

-- the pool with this file before the others
abbrev pub with_first : PoolFile → PoolOf → PoolOf
with_first file p = record { config = p.config; highest = p.highest; prepared = file ∷ p.prepared }

-- the header of a file of this number: version 2, the journal's user version, and the number
abbrev pub header_for : Config → ℕ → List ℕ
header_for config id = header_bytes (record { version = 2; user_version = config.user_version; id = id })

-- the file of this number when it is prepared: the header, then bytes 4a up to the length, nothing pending
abbrev pub file_for : Config → ℕ → File
file_for config id = prepared_file config.file_size 74 (header_for config id)

-- while the file of this number is prepared
abbrev pub Making : Config → ℕ → Files → Files → Type 0
Making config id = Prepares (temporary_name id) (data_name id) config.file_size 74 (header_for config id)

-- when it is
abbrev pub Made : Config → ℕ → Files → Files → Type 0
Made config id = Prepared (temporary_name id) (data_name id) config.file_size 74 (header_for config id)

-- when it isn't for want of memory
abbrev pub Unmade : ℕ → Files → Files → Type 0
Unmade id = Spares (temporary_name id)
