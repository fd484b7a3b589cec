-- Where a record stands: the layout of the nine kinds.
use Rattle.std.specs.Prelude.{◌≡◌, ℕ, ◌+◌, ◌-◌, ◌^◌, ◌<◌, ◌≤◌, List, [], ◌∷◌, ◌++◌, length, take, drop, slice_index, if◌then◌else◌, ◌==◌}
use Rattle.std.specs.Int.{w32, w64, to_be_bytes}
use Rattle.amq_model.specs.declared.record.Record.{Record}
use Rattle.amq_model.specs.declared.record.Record.TheVariants.{Add, Update, AddTx, UpdateTx, DeleteTx, Delete, Prepare, Commit, Rollback}

-- the kind's number, the first byte of a record
abbrev pub kind_of : Record → ℕ
kind_of (Add id user_type body) = 11
kind_of (Update id user_type body) = 12
kind_of (AddTx tx id user_type body) = 13
kind_of (UpdateTx tx id user_type body) = 14
kind_of (DeleteTx tx id body) = 15
kind_of (Delete id) = 16
kind_of (Prepare tx count extra) = 17
kind_of (Commit tx count) = 18
kind_of (Rollback tx) = 19

-- eight bytes, the highest first
unfoldable pub long : ℕ → List ℕ
long n = to_be_bytes w64 n

-- four bytes, the highest first
unfoldable pub word : ℕ → List ℕ
word n = to_be_bytes w32 n

-- what stands between the compact count and the check size
abbrev pub fields_of : Record → List ℕ
fields_of (Add id user_type body) = long id ++ (word (length body) ++ user_type ∷ body)
fields_of (Update id user_type body) = long id ++ (word (length body) ++ user_type ∷ body)
fields_of (AddTx tx id user_type body) = long tx ++ (long id ++ (word (length body) ++ user_type ∷ body))
fields_of (UpdateTx tx id user_type body) = long tx ++ (long id ++ (word (length body) ++ user_type ∷ body))
fields_of (DeleteTx tx id body) = long tx ++ (long id ++ (word (length body) ++ body))
fields_of (Delete id) = long id
fields_of (Prepare tx count extra) = long tx ++ (word count ++ (word (length extra) ++ extra))
fields_of (Commit tx count) = long tx ++ word count
fields_of (Rollback tx) = long tx

-- the whole length in version 2
abbrev pub len_of : Record → ℕ
len_of (Add id user_type body) = 23 + length body
len_of (Update id user_type body) = 23 + length body
len_of (AddTx tx id user_type body) = 31 + length body
len_of (UpdateTx tx id user_type body) = 31 + length body
len_of (DeleteTx tx id body) = 30 + length body
len_of (Delete id) = 18
len_of (Prepare tx count extra) = 26 + length extra
len_of (Commit tx count) = 22
len_of (Rollback tx) = 18

-- the whole length: in version 1 a record has no compact count
abbrev pub whole_len : ℕ → Record → ℕ
whole_len version rec = if version == 1 then len_of rec - 1 else len_of rec

-- in version 1 there is no compact count
abbrev pub compact_bytes : ℕ → ℕ → List ℕ
compact_bytes version compact = if version == 1 then [] else compact ∷ []

-- the one spelling of a record for a version, a file id and a compact count
abbrev pub spelling : ℕ → ℕ → ℕ → Record → List ℕ
spelling version fid compact rec = kind_of rec ∷ word fid ++ (compact_bytes version compact ++ (fields_of rec ++ word (whole_len version rec)))

-- each number is a byte
abbrev pub IsBytes : List ℕ → Type 0
IsBytes bytes = (i : ℕ) → slice_index bytes i < 256

-- a body's length has its highest bit clear
pub record IsBody (body : List ℕ) : Type 0 where
  pub short : length body < 2 ^ 31
  pub bytes : IsBytes body

-- each field fits its width in the file
abbrev pub IsRecord : Record → Type 0
IsRecord (Add id user_type body) = (id < 2 ^ 64) × (user_type < 256) × IsBody body
IsRecord (Update id user_type body) = (id < 2 ^ 64) × (user_type < 256) × IsBody body
IsRecord (AddTx tx id user_type body) = (tx < 2 ^ 64) × (id < 2 ^ 64) × (user_type < 256) × IsBody body
IsRecord (UpdateTx tx id user_type body) = (tx < 2 ^ 64) × (id < 2 ^ 64) × (user_type < 256) × IsBody body
IsRecord (DeleteTx tx id body) = (tx < 2 ^ 64) × (id < 2 ^ 64) × IsBody body
IsRecord (Delete id) = id < 2 ^ 64
IsRecord (Prepare tx count extra) = (tx < 2 ^ 64) × (count < 2 ^ 32) × IsBody extra
IsRecord (Commit tx count) = (tx < 2 ^ 64) × (count < 2 ^ 32)
IsRecord (Rollback tx) = tx < 2 ^ 64

-- where a record stands in a file, and what it says
pub record Spot : Type 0 where
  pub place : ℕ
  pub len : ℕ
  pub compact : ℕ
  pub rec : Record

-- a compact count is a byte, and 0 in version 1
abbrev pub IsCompact : ℕ → ℕ → Type 0
IsCompact version compact = (compact < 256) × (version ≡ 1 → compact ≡ 0)

-- A whole record of this version and file id stands there: it ends within the bytes, its check size is its
-- length, and what stands there is its one spelling.
pub record RecordAt (bytes : List ℕ) (fid version : ℕ) (s : Spot) : Type 0 where
  pub values : IsRecord s.rec
  pub compact : IsCompact version s.compact
  pub len : s.len ≡ whole_len version s.rec
  pub within : s.place + s.len ≤ length bytes
  pub spelled : take s.len (drop s.place bytes) ≡ spelling version fid s.compact s.rec

-- no record of this version and file id stands there
abbrev pub NoneAt : List ℕ → ℕ → ℕ → ℕ → Type 0
NoneAt bytes fid version place = (s : Spot) → s.place ≡ place → RecordAt bytes fid version s → ⊥
