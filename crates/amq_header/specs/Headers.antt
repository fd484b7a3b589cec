-- The header of a data file.
use Rattle.std.specs.Prelude.{ℕ, ◌^◌, ◌<◌, List, [], ◌++◌, length, nat_le, if◌then◌else◌, Option, Some, None}
use Rattle.amq_model.specs.RecordAt.{long, word}
use Rattle.amq_model.specs.Directory.{FileOf, file_of}
use Rattle.amq_header.specs.declared.header.Header.{Header}

-- each field fits its width in the file
pub record IsHeader (header : Header) : Type 0 where
  pub version : header.version < 2 ^ 32
  pub user_version : header.user_version < 2 ^ 32
  pub id : header.id < 2 ^ 64

-- version, user version and file id, the highest byte first
abbrev pub header_bytes : Header → List ℕ
header_bytes h = word h.version ++ (word h.user_version ++ long h.id)

-- the header's part of what a file's bytes say
abbrev pub header_of : FileOf → Header
header_of f = record { version = f.version; user_version = f.user_version; id = f.id }

-- what the first 16 bytes say, if there are so many
abbrev pub header_in : List ℕ → Option Header
header_in bytes = if nat_le 16 (length bytes) then Some (header_of (file_of [] bytes)) else None
