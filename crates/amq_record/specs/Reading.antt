-- Reading a record from left to right.
use Rattle.std.specs.Prelude.{◌≡◌, ℕ, Bool, ◌-◌, ◌^◌, List, [], ◌∷◌, length, take, drop, Option, Some, None, nat_lt, ◌==◌, ◌&&◌, if◌then◌else◌}
use Rattle.std.specs.Int.{Width, w32, w64, byte_len, from_be_bytes}
use Rattle.amq_model.specs.declared.record.Record.{Record}
use Rattle.amq_model.specs.RecordAt.{Spot}
use Rattle.amq_record.specs.declared.layout.BodyForm.{BodyForm}
use Rattle.amq_record.specs.declared.layout.BodyForm.TheVariants.{Absent, Sized, Typed}
use Rattle.amq_record.specs.declared.layout.Layout.{Layout}
use Rattle.amq_record.specs.Layouts.{Values, kind_numbered, layout_of, record_from}

-- a step, and then the next with its value
infixl 10 ◌>>=◌
abbrev pub ◌>>=◌ : {A B : Type 0} → Option A → (A → Option B) → Option B
None >>= f = None
(Some x) >>= f = f x

-- What a function returned, seen by view, is what reading gives.
abbrev pub Gives : {X Y : Type 0} → (X → Y) → Option X → Option Y → Type 0
Gives view None read = read ≡ None
Gives view (Some x) read = read ≡ Some (view x)

-- A field is a value and the bytes behind it.
abbrev pub Field : Type 0 → Type 0
Field A = List ℕ → Option (A × List ℕ)

-- one byte
abbrev pub byte_at : Field ℕ
byte_at [] = None
byte_at (b ∷ bytes) = Some (b, bytes)

-- a number of this width, the highest byte first
abbrev pub number_at : Width → Field ℕ
number_at w bytes = if nat_lt (length bytes) (byte_len w) then None else Some (from_be_bytes w (take (byte_len w) bytes), drop (byte_len w) bytes)

-- this many bytes
abbrev pub bytes_at : ℕ → Field (List ℕ)
bytes_at len bytes = if nat_lt (length bytes) len then None else Some (take len bytes, drop len bytes)

-- a length with its highest bit clear
unfoldable pub len_at : Field ℕ
len_at bytes = do
  n ← number_at w32 bytes
  if nat_lt n.0 (2 ^ 31) then Some n else None

-- a length, and that many bytes
unfoldable pub sized_at : Field (List ℕ)
sized_at bytes = do
  n ← len_at bytes
  bytes_at n.0 n.1

-- a length, a type, and that many bytes
unfoldable pub typed_at : Field (ℕ × List ℕ)
typed_at bytes = do
  n ← len_at bytes
  t ← byte_at n.1
  b ← bytes_at n.0 t.1
  Some ((t.0, b.0), b.1)

-- one field and the next
abbrev pub both_at : {A B : Type 0} → Field A → Field B → Field (A × B)
both_at first second bytes = first bytes >>= λ a. second a.1 >>= λ b. Some ((a.0, b.0), b.1)

-- a field whose value is made into another
abbrev pub as_at : {A B : Type 0} → (A → B) → Field A → Field B
as_at make field bytes = field bytes >>= λ a. Some (make a.0, a.1)

-- eight bytes
abbrev pub long_at : Field ℕ
long_at bytes = number_at w64 bytes

-- four bytes
abbrev pub word_at : Field ℕ
word_at bytes = number_at w32 bytes

-- a number that may be there, or 0
abbrev pub if_at : Bool → Field ℕ → Field ℕ
if_at there field bytes = if there then field bytes else Some (0, bytes)

-- a user type and a body of this form
abbrev pub body_at : BodyForm → Field (ℕ × List ℕ)
body_at Absent bytes = Some ((0, []), bytes)
body_at Sized bytes = as_at (λ body. (0, body)) sized_at bytes
body_at Typed bytes = typed_at bytes

-- the fields of a layout
unfoldable pub layout_at : Layout → Field Values
layout_at l bytes = both_at (if_at l.tx long_at) (both_at (if_at l.id long_at) (both_at (if_at l.count word_at) (body_at l.body))) bytes

-- the fields of the kind with this number
unfoldable pub fields_at : ℕ → Field Record
fields_at number bytes = do
  kind ← kind_numbered number
  values ← layout_at (layout_of kind) bytes
  Some (record_from kind values.0, values.1)

-- in version 1 there is no compact count
unfoldable pub compact_at : ℕ → Field ℕ
compact_at version bytes = if version == 1 then Some (0, bytes) else byte_at bytes

-- kind, file id and compact count
abbrev pub head_at : ℕ → Field (ℕ × (ℕ × ℕ))
head_at version bytes = both_at byte_at (both_at word_at (compact_at version)) bytes

-- the record at the front, if it has this file id and its check size is its length
unfoldable pub front_of : ℕ → ℕ → ℕ → List ℕ → Option Spot
front_of fid version place bytes = do
  head ← head_at version bytes
  rec ← fields_at head.0.0 head.1
  size ← word_at rec.1
  if head.0.1.0 == fid && size.0 == length bytes - length size.1 then Some (record { place = place; len = size.0; compact = head.0.1.1; rec = rec.0 }) else None

-- the record at a place
unfoldable pub read_at : List ℕ → ℕ → ℕ → ℕ → Option Spot
read_at bytes fid version place = front_of fid version place (drop place bytes)
