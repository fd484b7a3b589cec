-- A directory as a disk reads it: its files by their names, each with its bytes and its pending ranges.
use Rattle.std.specs.Prelude.{◌≡◌, ◌⊎◌, ℕ, ◌+◌, ◌<◌, ◌≤◌, List, [], ◌∷◌, ◌++◌, length, take, drop, replicate, Option, None, Some, option_map, slice_index}
use Rattle.std.specs.Ordering.{nat_cmp}
use Rattle.std.specs.Cmp.Lexicographic.{slice_cmp}
use Rattle.std.specs.FinMap as map

-- the bytes of a name
abbrev pub FileName : Type 0
FileName = List ℕ

-- a range is its place and its length
abbrev pub Range : Type 0
Range = ℕ × ℕ

-- what a file reads, and the ranges of it that aren't durable
pub record File : Type 0 where
  pub bytes : List ℕ
  pub pending : List Range

-- the files by their names
abbrev pub Files : Type 0
Files = map.FinMap (slice_cmp nat_cmp) File

-- the byte at i is in a pending range
abbrev pub IsPending : List Range → ℕ → Type 0
IsPending [] i = ⊥
IsPending (r ∷ rs) i = ((r.0 ≤ i) × (i < r.0 + r.1)) ⊎ IsPending rs i

-- the bytes with others from a place on
abbrev pub overlaid : List ℕ → ℕ → List ℕ → List ℕ
overlaid old place bytes = take place old ++ bytes ++ drop (place + length bytes) old

-- the directory with another file of this name, where there is one
abbrev pub put_where : Option File → (File → File) → Files → FileName → Files
put_where None f s n = s
put_where (Some file) f s n = map.insert s n (f file)

-- the file of that name is changed so
abbrev pub changed : FileName → (File → File) → Files → Files
changed n f s = put_where (map.get s n) f s n

-- a new file, all of it pending
abbrev pub created : FileName → ℕ → ℕ → Files → Files
created n len fill s = map.insert s n (record { bytes = replicate len fill; pending = (0, len) ∷ [] })

-- bytes are written, and their range is pending
abbrev pub written : FileName → ℕ → List ℕ → Files → Files
written n place bytes = changed n (λ f. record { bytes = overlaid f.bytes place bytes; pending = (place, length bytes) ∷ f.pending })

-- nothing is written, and the range is pending
abbrev pub pended : FileName → ℕ → ℕ → Files → Files
pended n place len = changed n (λ f. record { bytes = f.bytes; pending = (place, len) ∷ f.pending })

-- nothing of the file is pending
abbrev pub synced : FileName → Files → Files
synced n = changed n (λ f. record { bytes = f.bytes; pending = [] })

-- the file stands under the other name, and replaces one there
abbrev pub move_where : Option File → FileName → FileName → Files → Files
move_where None from to s = s
move_where (Some file) from to s = map.insert (map.remove s from) to file

-- a file has another name, with its pending ranges
abbrev pub renamed : FileName → FileName → Files → Files
renamed from to s = move_where (map.get s from) from to s

-- no file has the name
abbrev pub removed : FileName → Files → Files
removed n s = map.remove s n

-- The bytes are the same outside the pending ranges, and any bytes inside them. A byte is below 256.
pub record IsTorn (pending : List Range) (old new : List ℕ) : Type 0 where
  pub len : length new ≡ length old
  pub same : (i : ℕ) → i < length old → (IsPending pending i → ⊥) → slice_index new i ≡ slice_index old i
  pub bytes : (i : ℕ) → slice_index new i < 256

-- names with bytes: what a crash leaves, or what a reading has
abbrev pub Image : Type 0
Image = map.FinMap (slice_cmp nat_cmp) (List ℕ)

-- one file of it
abbrev pub IsFileImage : Option File → Option (List ℕ) → Type 0
IsFileImage None None = Unit {0}
IsFileImage (Some file) (Some bytes) = IsTorn file.pending file.bytes bytes
IsFileImage None (Some bytes) = ⊥
IsFileImage (Some file) None = ⊥

-- what a crash may leave of what read so: the same names and lengths, the same bytes outside the pending ranges
abbrev pub IsImage : Files → Image → Type 0
IsImage s image = (n : FileName) → IsFileImage (map.get s n) (map.get image n)

-- the bytes that a directory reads
abbrev pub IsReading : Files → Image → Type 0
IsReading s reading = (n : FileName) → map.get reading n ≡ option_map (λ f. f.bytes) (map.get s n)
