-- Directories of files of 64 bytes: what closed files, the file in use and prepared ones are, and what a directory holds.
use Rattle.std.proofs.Common.{◌≡◌, ◌⊎◌, inl, inr, ℕ, zero, suc, ◌+◌, ◌-◌, ◌^◌, ◌≤◌, Bool, true, false, cond, List, [], ◌∷◌, ◌++◌, length, take, drop, replicate, slice_index, codes, None, Some, refl, sym, ap, subst, ◌∙◌, arith}
use Rattle.std.specs.Prelude.{All, ◌%◌, map}
use Rattle.std.specs.FinMap as finite
use Rattle.std.specs.Fmt.{digits}
use Rattle.std.specs.Ordering.{eq_by_cmp, nat_cmp}
use Rattle.std.specs.Cmp.Lexicographic.{slice_cmp}
use Rattle.std.proofs.lemmas.Cmp.{nat_list_cmp_total}
use Rattle.std.proofs.lemmas.List.{append-nil}
use Rattle.std.proofs.lemmas.List.Elements.{All-nil, All-cons, All-head, All-tail, All-replicate}
use Rattle.std.proofs.lemmas.Option.{same_Some, none-some}
use Rattle.amq_model.specs.declared.config.Config.{Config}
use Rattle.amq_model.specs.declared.record.Record.TheVariants.{Add}
use Rattle.amq_model.specs.declared.record.Placed.{Placed}
use Rattle.amq_model.specs.RecordAt.{Spot, long, word}
use Rattle.amq_model.specs.Scan.{IsScan}
use Rattle.amq_model.specs.Directory.{placed}
use Rattle.amq_model.specs.Files.{FileName, Range, Files, File, IsPending}
use Rattle.amq_model.specs.Names.{data_number, control_name}
use Rattle.amq_model.proofs.Lookups.{same_true, get-insert_same}
use Rattle.amq_model.proofs.Literals.{unequal}
use Rattle.amq_model.proofs.Crashes.{file, nothing, one, has_one}
use Rattle.amq_header.specs.Classes.{data_name}
use Rattle.amq_record.specs.Reading.{compact_at, read_at, front_of, fields_at, layout_at, typed_at, sized_at, len_at}
use Rattle.amq_scan.specs.Written.{Item, IsFill, file_bytes}
use Rattle.amq_scan.specs.Segments.{Segment, records_of, AreAscending, IsNamed, end_of_spots, IsSegment, IsThere, AreThere, IsDirectory, IsClosed, AreClosed, IsClosedDirectory}
use Rattle.amq_scan.proofs.Examples.{scan_by_reading, header, add_hi, hi_at, yo_at}
use Rattle.amq_scan.proofs.Scans.{same_scan}
use Rattle.amq_pool.specs.declared.pool.PoolFile.{PoolFile}
use Rattle.amq_pool.specs.Pools.{numbered_file, header_for, file_for}
use Rattle.amq_engine.specs.Directory.{placed_in, segment, bare, named_file, all_files, HasName, AreListed, files_from, IsInUse, ArePrepared, IsEmpty, Stands, StandsNow, IsJournal}
use Rattle.amq_engine.specs.Engine.{Holds}
use Rattle.amq_engine.proofs.Segments.{number_names}

abbrev config : Config
config = record { file_size = 64; min_files = 2; pool_files = None; compact_min_files = 10; compact_percentage = 30; buffer_size = 64; buffer_timeout = 3; user_version = 0 }

-- ---- names

abbrev first : FileName
first = data_name 1

abbrev second : FileName
second = data_name 2

abbrev third : FileName
third = data_name 3

-- the name that is written out
pub the_first_name : first ≡ codes "activemq-data-1.amq"
unfolding digits
the_first_name = refl

first_number : data_number first ≡ Some 1
unfolding digits
first_number = refl

second_number : data_number second ≡ Some 2
unfolding digits
second_number = refl

third_number : data_number third ≡ Some 3
unfolding digits
third_number = refl

-- names of different numbers differ
names_differ : (a b : FileName) (m n : ℕ) → data_number a ≡ Some m → data_number b ≡ Some n → a ≡ b → m ≡ n
names_differ a b m n is has e = same_Some m n (sym is ∙ ap data_number e ∙ has)

first_isnt_second : first ≡ second → ⊥
first_isnt_second e = omega (arith, names_differ first second 1 2 first_number second_number e)

second_isnt_first : second ≡ first → ⊥
second_isnt_first e = first_isnt_second (sym e)

-- ---- records and files

-- two records of 25 bytes
abbrev hi : Item
hi = record { compact = 0; rec = Add 1 7 (0x68 ∷ 0x69 ∷ []) }

abbrev yo : Item
yo = record { compact = 0; rec = Add 2 7 (0x79 ∷ 0x6f ∷ []) }

-- the first file with one of them, and without
abbrev with_hi : List ℕ
with_hi = header 1 ++ (add_hi ++ replicate 23 74)

abbrev without : List ℕ
without = header 1 ++ replicate 48 74

-- the data file of a number with these records
abbrev with_records : ℕ → List Spot → Segment
with_records id spots = record { name = data_name id; id = id; spots = spots }

-- the first file with its record
abbrev one_record : Segment
one_record = with_records 1 (hi_at 16 ∷ [])

-- the records as a list has them
abbrev hi_placed : Placed
hi_placed = placed 1 (hi_at 16)

abbrev yo_placed : Placed
yo_placed = placed 1 (yo_at 41)

-- records stand one behind the other, from place 16 on
pub two_records_are_placed : placed_in 2 (hi ∷ yo ∷ []) ≡ placed 2 (hi_at 16) ∷ placed 2 (yo_at 41) ∷ []
two_records_are_placed = refl

-- a file by its name, its id and its records
pub a_segment : segment (numbered_file 1) (hi ∷ []) ≡ one_record
a_segment = refl

-- prepared files have none
pub two_without_records : bare (numbered_file 2 ∷ numbered_file 3 ∷ []) ≡ with_records 2 [] ∷ with_records 3 [] ∷ []
two_without_records = refl

-- a segment's name and id
pub a_named_file : named_file one_record ≡ numbered_file 1
a_named_file = refl

filling : (n : ℕ) → IsFill (replicate n 74)
filling n = All-replicate (λ b. 20 ≤ b) n 74 (omega arith)

hi_is_found : IsScan with_hi 1 2 (hi_at 16 ∷ [])
unfolding compact_at read_at front_of fields_at layout_at typed_at sized_at len_at
hi_is_found = scan_by_reading _ 1 (hi_at 16 ∷ []) refl refl refl

hi_in_a_segment : IsSegment 0 one_record with_hi
unfolding digits
hi_in_a_segment = record { named = refl; long = omega arith; short = omega arith; version = refl; user_version = refl; id = refl; scan = hi_is_found }

-- the bytes of prepared files
prepared_first : (file_for config 1).bytes ≡ without
unfolding long word
prepared_first = refl

prepared_second : (file_for config 2).bytes ≡ header 2 ++ replicate 48 74
unfolding long word
prepared_second = refl

nothing_in_the_second : IsScan (header 2 ++ replicate 48 74) 2 2 []
unfolding compact_at read_at front_of fields_at layout_at typed_at sized_at len_at
nothing_in_the_second = scan_by_reading _ 2 [] refl refl refl

nothing_in_the_first : IsScan without 1 2 []
unfolding compact_at read_at front_of fields_at layout_at typed_at sized_at len_at
nothing_in_the_first = scan_by_reading _ 1 [] refl refl refl

first_without_records : IsSegment 0 (with_records 1 []) (file_for config 1).bytes
unfolding digits
first_without_records = subst (IsSegment 0 (with_records 1 [])) (sym prepared_first) (record { named = refl; long = omega arith; short = omega arith; version = refl; user_version = refl; id = refl; scan = nothing_in_the_first })

second_without_records : IsSegment 0 (with_records 2 []) (file_for config 2).bytes
unfolding digits
second_without_records = subst (IsSegment 0 (with_records 2 [])) (sym prepared_second) (record { named = refl; long = omega arith; short = omega arith; version = refl; user_version = refl; id = refl; scan = nothing_in_the_second })

-- ---- directories

-- a directory of one file has no other name
named_one : (n : FileName) (f g : File) (q : FileName) → finite.get (one n f) q ≡ Some g → n ≡ q
named_one n f g q there = by (eq_by_cmp (slice_cmp nat_cmp) q n) refl (sym (has_one n f q) ∙ there) where
  by : (b : Bool) → eq_by_cmp (slice_cmp nat_cmp) q n ≡ b → cond b (Some f) None ≡ Some g → n ≡ q
  by true is e = sym (same_true q n is)
  by false is e = absurd (none-some g e)

-- its one file is there, and no other of its name
there_is_one : (n : FileName) (f : File) → finite.get (one n f) n ≡ Some f
there_is_one n f = get-insert_same nothing n f

is_the_one : (n : FileName) (f g : File) → finite.get (one n f) n ≡ Some g → f ≡ g
is_the_one n f g there = same_Some f g (sym (there_is_one n f) ∙ there)

-- the first two files of a journal
abbrev both : File → File → Files
both f g = finite.insert (one first f) second g

in_both : (f g : File) (q : FileName) → finite.get (both f g) q ≡ cond (eq_by_cmp (slice_cmp nat_cmp) q second) (Some g) (finite.get (one first f) q)
in_both f g q = finite.get-insert nat_list_cmp_total (one first f) second g q

first_there : (f g : File) → finite.get (both f g) first ≡ Some f
unfolding digits
first_there f g = in_both f g first ∙ there_is_one first f

second_there : (f g : File) → finite.get (both f g) second ≡ Some g
second_there f g = get-insert_same (one first f) second g

no_control_in_both : (f g : File) → finite.get (both f g) control_name ≡ None
unfolding digits
no_control_in_both f g = in_both f g control_name ∙ has_one first f control_name

no_third_in_both : (f g : File) → finite.get (both f g) third ≡ None
unfolding digits
no_third_in_both f g = in_both f g third ∙ has_one first f third

-- they are the only ones
one_of_both : (f g x : File) (n : FileName) → finite.get (both f g) n ≡ Some x → (first ≡ n) ⊎ (second ≡ n)
one_of_both f g x n there = by (eq_by_cmp (slice_cmp nat_cmp) n second) refl (sym (in_both f g n) ∙ there) where
  by : (b : Bool) → eq_by_cmp (slice_cmp nat_cmp) n second ≡ b → cond b (Some g) (finite.get (one first f) n) ≡ Some x → (first ≡ n) ⊎ (second ≡ n)
  by true is e = inr (sym (same_true n second is))
  by false is e = inl (named_one first f x n e)

-- ---- numbers of files

-- three files from number 2 on
pub three_from_two : files_from 2 3 ≡ numbered_file 2 ∷ numbered_file 3 ∷ numbered_file 4 ∷ []
three_from_two = refl

-- and none
pub none_from_two : files_from 2 0 ≡ []
none_from_two = refl

-- the id of the first one
abbrev id_of_first : List PoolFile → ℕ
id_of_first [] = 0
id_of_first (f ∷ fs) = f.id

-- two files from number 1 on don't begin with number 2
pub not_from_the_second : files_from 1 2 ≡ numbered_file 2 ∷ numbered_file 3 ∷ [] → ⊥
not_from_the_second e = let id : ◌≡◌ {A = ℕ} 1 2 = ap id_of_first e in omega (arith, id)

-- closed files, the file in use and prepared ones, in the order of their numbers
pub all_three_files : all_files (one_record ∷ []) (numbered_file 2) (numbered_file 3 ∷ []) ≡ files_from 1 3
all_three_files = refl

-- the second file is one of two
pub the_second_is_there : HasName second (numbered_file 1 ∷ numbered_file 2 ∷ [])
the_second_is_there = inr (inl refl)

-- it isn't the first one
pub the_second_isnt_there : HasName second (numbered_file 1 ∷ []) → ⊥
the_second_isnt_there (inl e) = first_isnt_second e
the_second_isnt_there (inr none) = none

-- the files of numbers 1 and 2
pub two_are_listed : AreListed 2 1 (numbered_file 1 ∷ numbered_file 2 ∷ [])
two_are_listed = (omega arith, omega arith, (1, first_number, omega arith), apart, (omega arith, omega arith, (2, second_number, omega arith), (λ none. none), tt)) where
  apart : HasName first (numbered_file 2 ∷ []) → ⊥
  apart (inl e) = second_isnt_first e
  apart (inr none) = none

-- the greater id stands first
pub not_in_order : AreListed 2 1 (numbered_file 2 ∷ numbered_file 1 ∷ []) → ⊥
not_in_order l = omega (arith, l.4.0)

-- an id above the highest number
pub an_id_above : AreListed 1 1 (numbered_file 1 ∷ numbered_file 2 ∷ []) → ⊥
an_id_above l = omega (arith, l.4.1)

-- the number of a name above the highest one
pub a_name_above : AreListed 2 1 (record { name = third; id = 2 } ∷ []) → ⊥
a_name_above l = let named = l.2 in let n : 3 ≡ named.0 = same_Some 3 named.0 (sym third_number ∙ named.1) in omega (arith, n, named.2)

-- a name that is no data file's
pub another_name : AreListed 2 1 (record { name = codes "notes.txt"; id = 1 } ∷ []) → ⊥
another_name l = let named = l.2 in none-some named.0 named.1

-- two files of one name
pub one_name_twice : AreListed 2 1 (record { name = first; id = 1 } ∷ record { name = first; id = 2 } ∷ []) → ⊥
one_name_twice l = l.3 (inl refl)

-- ids begin at any number
pub an_id_of_none : AreListed 2 0 (record { name = first; id = 0 } ∷ numbered_file 2 ∷ [])
an_id_of_none = (omega arith, omega arith, (1, first_number, omega arith), apart, (omega arith, omega arith, (2, second_number, omega arith), (λ none. none), tt)) where
  apart : HasName first (numbered_file 2 ∷ []) → ⊥
  apart (inl e) = second_isnt_first e
  apart (inr none) = none

-- and at none below the least one
pub an_id_below : AreListed 2 1 (record { name = first; id = 0 } ∷ []) → ⊥
an_id_below l = omega (arith, l.0)

-- ---- no file

-- a directory without a file
pub an_empty_directory : IsEmpty nothing
an_empty_directory n = finite.get-empty (slice_cmp nat_cmp) n

-- a directory with one, whatever its name
pub not_empty_with_a_file : (n : FileName) (f : File) → IsEmpty (one n f) → ⊥
not_empty_with_a_file n f none = none-some f (sym (none n) ∙ there_is_one n f)

-- ---- closed files

-- its record is found, and nothing is pending
pub a_closed_file : IsClosed 0 (one first (file with_hi [])) one_record
a_closed_file = record { file = file with_hi []; there = there_is_one first (file with_hi []); is = hi_in_a_segment; still = λ i p. p }

-- so are all that there are
pub the_closed_files : AreClosed 0 (one first (file with_hi [])) (one_record ∷ [])
the_closed_files = (a_closed_file, tt)

-- one of two isn't there
pub one_closed_file_too_few : AreClosed 0 (one first (file with_hi [])) (one_record ∷ with_records 2 [] ∷ []) → ⊥
unfolding digits
one_closed_file_too_few c = none-some c.1.0.file (sym (has_one first (file with_hi []) second) ∙ c.1.0.there)

-- a closed file whose last byte is pending
pub a_pending_byte : IsClosed 0 (one first (file with_hi ((63, 1) ∷ []))) one_record → ⊥
a_pending_byte c =
    let still : (i : ℕ) → IsPending ((63, 1) ∷ []) i → ⊥ = subst (λ (f : File). (i : ℕ) → IsPending f.pending i → ⊥) (sym (is_the_one first (file with_hi ((63, 1) ∷ [])) c.file c.there)) c.still in
    still 63 (inl (omega arith, omega arith))

-- a file that isn't there
pub no_closed_file : IsClosed 0 nothing one_record → ⊥
no_closed_file c = none-some c.file (sym (finite.get-empty (slice_cmp nat_cmp) first) ∙ c.there)

-- a record that isn't told
pub a_record_too_few : IsClosed 0 (one first (file with_hi [])) (with_records 1 []) → ⊥
a_record_too_few c =
    let scan : IsScan with_hi 1 2 [] = subst (λ (f : File). IsScan f.bytes 1 2 []) (sym (is_the_one first (file with_hi []) c.file c.there)) c.is.scan in
    let same : hi_at 16 ∷ [] ≡ [] = same_scan with_hi 1 2 16 (hi_at 16 ∷ []) [] (omega arith) hi_is_found scan in
    absurd cc

-- a file of another user version
pub another_user_version : IsClosed 7 (one first (file with_hi [])) one_record → ⊥
another_user_version c =
    let is : IsSegment 7 one_record with_hi = subst (λ (f : File). IsSegment 7 one_record f.bytes) (sym (is_the_one first (file with_hi []) c.file c.there)) c.is in
    let version : 0 ≡ 7 = is.user_version in
    omega (arith, version)

-- ---- the file in use

-- its record is durable
all_durable : (s : Files) → finite.get s first ≡ Some (file with_hi []) → IsInUse config (numbered_file 1) 1 (hi ∷ []) s
unfolding long word
all_durable s there = record {
  file = file with_hi [];
  there = there;
  put = 1;
  fill = replicate 23 74;
  ahead = omega arith;
  most = omega arith;
  bytes = refl;
  filled = filling 23;
  size = refl;
  behind = λ i p. absurd p;
  still = λ e i p. p;
}

-- the file in use with a durable record
pub one_durable_record : IsInUse config (numbered_file 1) 1 (hi ∷ []) (one first (file with_hi []))
one_durable_record = all_durable (one first (file with_hi [])) (there_is_one first (file with_hi []))

-- its record waits in the buffer
pub one_record_that_waits : IsInUse config (numbered_file 1) 0 (hi ∷ []) (one first (file without []))
unfolding long word
one_record_that_waits = record {
  file = file without [];
  there = there_is_one first (file without []);
  put = 0;
  fill = replicate 48 74;
  ahead = omega arith;
  most = omega arith;
  bytes = refl;
  filled = filling 48;
  size = refl;
  behind = λ i p. absurd p;
  still = λ e i p. p;
}

-- its record was written, and may be lost
pub one_pending_record : IsInUse config (numbered_file 1) 0 (hi ∷ []) (one first (file with_hi ((16, 25) ∷ [])))
unfolding long word
one_pending_record = record {
  file = file with_hi ((16, 25) ∷ []);
  there = there_is_one first (file with_hi ((16, 25) ∷ []));
  put = 1;
  fill = replicate 23 74;
  ahead = omega arith;
  most = omega arith;
  bytes = refl;
  filled = filling 23;
  size = refl;
  behind = behind;
  still = λ e i p. absurd (omega (arith, e));
} where
  behind : (i : ℕ) → IsPending ((16, 25) ∷ []) i → 16 ≤ i
  behind i (inl p) = p.0
  behind i (inr p) = absurd p

-- what is pending of the one file in use
pending_of : (f : File) (sure : ℕ) (items : List Item) (u : IsInUse config (numbered_file 1) sure items (one first f)) → f ≡ u.file
pending_of f sure items u = is_the_one first f u.file u.there

-- a record that may be lost isn't durable
pub a_pending_record_isnt_durable : IsInUse config (numbered_file 1) 1 (hi ∷ []) (one first (file with_hi ((16, 25) ∷ []))) → ⊥
a_pending_record_isnt_durable u =
    let behind : (i : ℕ) → IsPending ((16, 25) ∷ []) i → 41 ≤ i = subst (λ (f : File). (i : ℕ) → IsPending f.pending i → 41 ≤ i) (sym (pending_of _ _ _ u)) u.behind in
    omega (arith, behind 16 (inl (omega arith, omega arith)))

-- where all is durable, nothing is pending behind it either
pub nothing_pending_behind_all : IsInUse config (numbered_file 1) 1 (hi ∷ []) (one first (file with_hi ((50, 1) ∷ []))) → ⊥
nothing_pending_behind_all u =
    let still : (i : ℕ) → IsPending ((50, 1) ∷ []) i → ⊥ = subst (λ (f : File). (i : ℕ) → IsPending f.pending i → ⊥) (sym (pending_of _ _ _ u)) (u.still refl) in
    still 50 (inl (omega arith, omega arith))

-- a durable record is there
pub a_durable_record_is_there : IsInUse config (numbered_file 1) 1 (hi ∷ []) (one first (file without [])) → ⊥
unfolding long word
a_durable_record_is_there u = unequal 74 11 tt (ap (λ (l : List ℕ). slice_index l 16) bytes) where
  all : u.put ≡ 1
  all = omega (arith, u.ahead, u.most)

  bytes : without ≡ file_bytes 2 1 (header_for config 1) (hi ∷ []) u.fill
  bytes = ap (λ (f : File). f.bytes) (pending_of _ _ _ u) ∙ u.bytes ∙ ap (λ (n : ℕ). file_bytes 2 1 (header_for config 1) (take n (hi ∷ [])) u.fill) all

-- a file of another length
pub another_length : IsInUse config (numbered_file 1) 0 [] (one first (file (take 63 without) [])) → ⊥
another_length u = let size : 63 ≡ 64 = subst (λ (f : File). length f.bytes ≡ 64) (sym (pending_of _ _ _ u)) u.size in omega (arith, size)

-- ---- prepared files

-- header and filling, and nothing is pending
pub the_second_is_prepared : ArePrepared config (one second (file_for config 2)) (numbered_file 2 ∷ [])
the_second_is_prepared = (there_is_one second (file_for config 2), tt)

-- a file that wasn't synced
pub not_synced : ArePrepared config (one second (file (file_for config 2).bytes ((0, 64) ∷ []))) (numbered_file 2 ∷ []) → ⊥
not_synced a =
    let same : file (file_for config 2).bytes ((0, 64) ∷ []) ≡ file_for config 2 = is_the_one second (file (file_for config 2).bytes ((0, 64) ∷ [])) (file_for config 2) a.0 in
    let pending : ◌≡◌ {A = List Range} ((0, 64) ∷ []) [] = ap (λ (f : File). f.pending) same in
    absurd cc

-- a file with a record
pub not_prepared_with_a_record : ArePrepared config (one first (file with_hi [])) (numbered_file 1 ∷ []) → ⊥
unfolding long word
not_prepared_with_a_record a = unequal 11 74 tt (ap (λ (f : File). slice_index f.bytes 16) (is_the_one first (file with_hi []) (file_for config 1) a.0))

-- a file that isn't there
pub not_prepared_at_all : ArePrepared config nothing (numbered_file 2 ∷ []) → ⊥
not_prepared_at_all a = none-some (file_for config 2) (sym (finite.get-empty (slice_cmp nat_cmp) second) ∙ a.0)

-- ---- the directory of a journal

-- a file of one byte
abbrev short : File
short = file (0 ∷ []) []

-- the first file has a record, all of it durable, and the second one is prepared
abbrev first_two : Files
first_two = both (file with_hi []) (file_for config 2)

named_both : (f g x : File) (n : FileName) → finite.get (both f g) n ≡ Some x → HasName n (numbered_file 1 ∷ numbered_file 2 ∷ [])
named_both f g x n there = by (one_of_both f g x n there) where
  by : (first ≡ n) ⊎ (second ≡ n) → HasName n (numbered_file 1 ∷ numbered_file 2 ∷ [])
  by (inl e) = inl e
  by (inr e) = inr (inl e)

-- a prepared file in use, with no record yet
second_in_use : (s : Files) → finite.get s second ≡ Some (file_for config 2) → IsInUse config (numbered_file 2) 0 [] s
unfolding long word
second_in_use s there = record {
  file = file_for config 2;
  there = there;
  put = 0;
  fill = replicate 48 74;
  ahead = omega arith;
  most = omega arith;
  bytes = refl;
  filled = filling 48;
  size = refl;
  behind = λ i p. absurd p;
  still = λ e i p. p;
}

-- the first file is in use
pub one_in_use_and_one_prepared : Stands config [] (numbered_file 1) 1 (hi ∷ []) (numbered_file 2 ∷ []) first_two
one_in_use_and_one_prepared = record {
  closed_there = tt;
  used_there = all_durable first_two (first_there (file with_hi []) (file_for config 2));
  free_there = (second_there (file with_hi []) (file_for config 2), tt);
  only = λ n x is size there. named_both (file with_hi []) (file_for config 2) x n there;
  uncontrolled = no_control_in_both (file with_hi []) (file_for config 2);
}

-- the same directory when the journal went on: the first file is closed, and the second one is in use
pub one_closed_and_one_in_use : Stands config (one_record ∷ []) (numbered_file 2) 0 [] [] first_two
one_closed_and_one_in_use = record {
  closed_there = (record { file = file with_hi []; there = first_there (file with_hi []) (file_for config 2); is = hi_in_a_segment; still = λ i p. p }, tt);
  used_there = second_in_use first_two (second_there (file with_hi []) (file_for config 2));
  free_there = tt;
  only = λ n x is size there. named_both (file with_hi []) (file_for config 2) x n there;
  uncontrolled = no_control_in_both (file with_hi []) (file_for config 2);
}

-- a data file that isn't listed
pub one_file_too_many : Stands config [] (numbered_file 1) 1 (hi ∷ []) [] first_two → ⊥
one_file_too_many s = the_second_isnt_there (s.only second (file_for config 2) (number_names second 2 second_number) second_without_records.long (second_there (file with_hi []) (file_for config 2)))

-- a data file's name with one byte isn't a data file
pub beside_a_short_file : Stands config [] (numbered_file 1) 1 (hi ∷ []) [] (both (file with_hi []) short)
beside_a_short_file = record {
  closed_there = tt;
  used_there = all_durable (both (file with_hi []) short) (first_there (file with_hi []) short);
  free_there = tt;
  only = λ n x is size there. by x n size there (one_of_both (file with_hi []) short x n there);
  uncontrolled = no_control_in_both (file with_hi []) short;
} where
  by : (x : File) (n : FileName) → 16 ≤ length x.bytes → finite.get (both (file with_hi []) short) n ≡ Some x → (first ≡ n) ⊎ (second ≡ n) → HasName n (numbered_file 1 ∷ [])
  by x n size there (inl e) = inl e
  by x n size there (inr e) =
      let same : short ≡ x = same_Some short x (sym (second_there (file with_hi []) short) ∙ ap (finite.get (both (file with_hi []) short)) e ∙ there) in
      absurd (omega (arith, size, ap (λ (f : File). length f.bytes) same))

-- a prepared file that isn't there
pub one_file_too_few : Stands config [] (numbered_file 1) 1 (hi ∷ []) (numbered_file 2 ∷ []) (one first (file with_hi [])) → ⊥
unfolding digits
one_file_too_few s = none-some (file_for config 2) (sym (has_one first (file with_hi []) second) ∙ s.free_there.0)

-- a control file
pub beside_a_control_file : (closed : List Segment) (used : PoolFile) (sure : ℕ) (items : List Item) (free : List PoolFile) (f : File) → Stands config closed used sure items free (one control_name f) → ⊥
beside_a_control_file closed used sure items free f s = none-some f (sym s.uncontrolled ∙ there_is_one control_name f)

-- as the journal knows it
pub as_it_is_known : StandsNow config [] (numbered_file 1) 1 (hi ∷ []) 2 (numbered_file 2 ∷ []) first_two
as_it_is_known = inl one_in_use_and_one_prepared

-- the second file was prepared by a call that failed, and its number isn't counted
pub one_more_is_prepared : StandsNow config [] (numbered_file 1) 1 (hi ∷ []) 1 [] first_two
one_more_is_prepared = inr (omega arith, one_in_use_and_one_prepared)

-- where the numbers are spent there is no such file
pub no_more_numbers : StandsNow config [] (numbered_file 1) 1 (hi ∷ []) (2 ^ 31 - 1) [] first_two → ⊥
no_more_numbers (inl s) = one_file_too_many s
no_more_numbers (inr s) = omega (arith, s.0)

-- ---- a whole journal

named_segments : (f g x : File) (a b : List Spot) (n : FileName) → finite.get (both f g) n ≡ Some x → IsNamed n (with_records 1 a ∷ with_records 2 b ∷ [])
named_segments f g x a b n there = by (one_of_both f g x n there) where
  by : (first ≡ n) ⊎ (second ≡ n) → IsNamed n (with_records 1 a ∷ with_records 2 b ∷ [])
  by (inl e) = inl e
  by (inr e) = inr (inl e)

the_two_files : IsDirectory 0 1 (one_record ∷ with_records 2 [] ∷ []) first_two
the_two_files = record {
  ascending = (omega arith, (omega arith, tt));
  there = (
    record { file = file with_hi []; there = first_there (file with_hi []) (file_for config 2); is = hi_in_a_segment; behind = λ i p. absurd p },
    (record { file = file_for config 2; there = second_there (file with_hi []) (file_for config 2); is = second_without_records; behind = λ i p. absurd p }, tt),
  );
  only = λ n x is size there. named_segments (file with_hi []) (file_for config 2) x (hi_at 16 ∷ []) [] n there;
  uncontrolled = no_control_in_both (file with_hi []) (file_for config 2);
}

-- the first file has its record, the second one none, and nothing is pending
two_closed_files : IsClosedDirectory 0 (one_record ∷ with_records 2 [] ∷ []) first_two
two_closed_files = record {
  ascending = the_two_files.ascending;
  there = (
    record { file = file with_hi []; there = first_there (file with_hi []) (file_for config 2); is = hi_in_a_segment; still = λ i p. p },
    (record { file = file_for config 2; there = second_there (file with_hi []) (file_for config 2); is = second_without_records; still = λ i p. p }, tt),
  );
  only = the_two_files.only;
  uncontrolled = the_two_files.uncontrolled;
}

-- what an opening leaves: two files without a record
pub a_journal_that_began : IsJournal 0 [] [] (both (file_for config 1) (file_for config 2))
a_journal_that_began = record {
  files = with_records 1 [] ∷ with_records 2 [] ∷ [];
  is = record {
    ascending = (omega arith, (omega arith, tt));
    there = (
      record { file = file_for config 1; there = first_there (file_for config 1) (file_for config 2); is = first_without_records; still = λ i p. p },
      (record { file = file_for config 2; there = second_there (file_for config 1) (file_for config 2); is = second_without_records; still = λ i p. p }, tt),
    );
    only = λ n x is size there. named_segments (file_for config 1) (file_for config 2) x [] [] n there;
    uncontrolled = no_control_in_both (file_for config 1) (file_for config 2);
  };
  records = refl;
}

-- one record in the first file
pub a_journal_of_one_record : IsJournal 0 [] (hi_placed ∷ []) first_two
a_journal_of_one_record = record { files = one_record ∷ with_records 2 [] ∷ []; is = two_closed_files; records = refl }

-- the record was there at the opening, and no other was appended
pub a_journal_of_a_base : IsJournal 0 (hi_placed ∷ []) [] first_two
a_journal_of_a_base = record { files = one_record ∷ with_records 2 [] ∷ []; is = two_closed_files; records = refl }

-- ---- what a reading holds

-- the one file of a directory
one_file : (f x : File) (q : FileName) → finite.get (one first f) q ≡ Some x → f ≡ x
one_file f x q there = is_the_one first f x (ap (finite.get (one first f)) (named_one first f x q there) ∙ there)

-- a segment of a directory whose one file is prepared has no record
no_spots : (wanted sure : ℕ) (g : Segment) → IsThere wanted sure (one first (file_for config 1)) g → [] ≡ g.spots
no_spots wanted sure g t = same_scan without 1 2 16 [] g.spots (omega arith) nothing_in_the_first (subst (λ (n : ℕ). IsScan without (n % 2 ^ 31) 2 g.spots) (sym id) is.scan) where
  is : IsSegment wanted g without
  is = subst (IsSegment wanted g) (ap (λ (f : File). f.bytes) (sym (one_file (file_for config 1) t.file g.name t.there)) ∙ prepared_first) t.is

  id : 1 ≡ g.id
  id = is.id

-- nor have those before others
none_read : (wanted sure : ℕ) (gs hs : List Segment) → AreThere wanted sure (one first (file_for config 1)) (gs ++ hs) → records_of gs ≡ []
none_read wanted sure [] hs there = refl
none_read wanted sure (g ∷ gs) hs there =
    ap (λ (l : List Spot). map (placed g.id) l ++ records_of gs) (sym (no_spots wanted sure g there.0)) ∙ none_read wanted (sure - length g.spots) gs hs there.1

-- each segment of a directory whose one file has the record has it
all_read : (wanted : ℕ) (pending : List Range) (g : Segment) (x : File) → finite.get (one first (file with_hi pending)) g.name ≡ Some x → IsSegment wanted g x.bytes → (1 ≡ g.id) × (hi_at 16 ∷ [] ≡ g.spots)
all_read wanted pending g x there segment = (id, same_scan with_hi 1 2 16 (hi_at 16 ∷ []) g.spots (omega arith) hi_is_found (subst (λ (n : ℕ). IsScan with_hi (n % 2 ^ 31) 2 g.spots) (sym id) is.scan)) where
  is : IsSegment wanted g with_hi
  is = subst (IsSegment wanted g) (ap (λ (f : File). f.bytes) (sym (one_file (file with_hi pending) x g.name there))) segment

  id : 1 ≡ g.id
  id = is.id

-- closed files are there
closed_are_there : (wanted sure : ℕ) (s : Files) (gs : List Segment) → AreClosed wanted s gs → AreThere wanted sure s gs
closed_are_there wanted sure s [] c = tt
closed_are_there wanted sure s (g ∷ gs) c = (record { file = c.0.file; there = c.0.there; is = c.0.is; behind = λ i p. absurd (c.0.still i p) }, closed_are_there wanted (sure - length g.spots) s gs c.1)

-- a lost record
pub a_record_is_lost : IsJournal 0 [] (hi_placed ∷ []) (one first (file_for config 1)) → ⊥
a_record_is_lost j = absurd (let e : hi_placed ∷ [] ≡ [] = sym j.records ∙ none in cc) where
  none : records_of j.files ≡ []
  none = none_read 0 1 j.files [] (subst (AreThere 0 1 (one first (file_for config 1))) (sym (append-nil j.files)) (closed_are_there 0 1 (one first (file_for config 1)) j.files j.is.there))

-- a lost record of the base
pub a_record_of_the_base_is_lost : IsJournal 0 (hi_placed ∷ []) [] (one first (file_for config 1)) → ⊥
a_record_of_the_base_is_lost j = a_record_is_lost (record { files = j.files; is = j.is; records = j.records })

-- a byte behind the record is pending
pub a_byte_is_pending : IsJournal 0 [] (hi_placed ∷ []) (one first (file with_hi ((63, 1) ∷ []))) → ⊥
a_byte_is_pending j = by j.files (j.is.only first (file with_hi ((63, 1) ∷ [])) (number_names first 1 first_number) (omega arith) (there_is_one first (file with_hi ((63, 1) ∷ [])))) j.is.there where
  by : (gs : List Segment) → IsNamed first gs → AreClosed 0 (one first (file with_hi ((63, 1) ∷ []))) gs → ⊥
  by [] named closed = named
  by (g ∷ gs) (inl e) closed =
      let still : (i : ℕ) → IsPending ((63, 1) ∷ []) i → ⊥ = subst (λ (f : File). (i : ℕ) → IsPending f.pending i → ⊥) (sym (one_file (file with_hi ((63, 1) ∷ [])) closed.0.file g.name closed.0.there)) closed.0.still in
      still 63 (inl (omega arith, omega arith))
  by (g ∷ gs) (inr h) closed = by gs h closed.1

-- a directory of the first file with its record, of which so many are durable
one_listed : (wanted sure : ℕ) (pending : List Range) → ((i : ℕ) → IsPending pending i → end_of_spots 16 (take sure (hi_at 16 ∷ [])) ≤ i) → wanted ≡ 0 → IsDirectory wanted sure (one_record ∷ []) (one first (file with_hi pending))
unfolding digits
one_listed wanted sure pending behind is = record {
  ascending = (omega arith, tt);
  there = (record { file = file with_hi pending; there = there_is_one first (file with_hi pending); is = subst (λ (n : ℕ). IsSegment n one_record with_hi) (sym is) hi_in_a_segment; behind = behind }, tt);
  only = λ n x named size there. inl (named_one first (file with_hi pending) x n there);
  uncontrolled = has_one first (file with_hi pending) control_name;
}

-- behind its header and its header alone
from_sixteen : (i : ℕ) → IsPending ((16, 25) ∷ []) i → 16 ≤ i
from_sixteen i (inl p) = p.0
from_sixteen i (inr p) = absurd p

-- a record of this file
abbrev InFile : ℕ → Placed → Type 0
InFile n p = p.file ≡ n

-- the whole history is durable
pub all_is_durable : Holds 0 [] 1 (hi_placed ∷ []) (one first (file with_hi []))
all_is_durable = record {
  files = one_record ∷ [];
  sure = 1;
  put = 1;
  enough = omega arith;
  ahead = omega arith;
  within = omega arith;
  is = one_listed 0 1 [] (λ i p. absurd p) refl;
  records = refl;
  last = 1;
  one = All-nil _;
}

-- its first record was written and may be lost, and the second one wasn't written yet
pub one_is_pending_and_one_waits : Holds 0 [] 0 (hi_placed ∷ yo_placed ∷ []) (one first (file with_hi ((16, 25) ∷ [])))
one_is_pending_and_one_waits = record {
  files = one_record ∷ [];
  sure = 0;
  put = 1;
  enough = omega arith;
  ahead = omega arith;
  within = omega arith;
  is = one_listed 0 0 ((16, 25) ∷ []) from_sixteen refl;
  records = refl;
  last = 1;
  one = All-cons (InFile 1) hi_placed [] refl (All-nil (InFile 1));
}

-- the journal went on, and the record of the second file wasn't written yet
pub one_in_another_file_waits : Holds 0 [] 1 (hi_placed ∷ placed 2 (yo_at 16) ∷ []) first_two
one_in_another_file_waits = record {
  files = one_record ∷ with_records 2 [] ∷ [];
  sure = 1;
  put = 1;
  enough = omega arith;
  ahead = omega arith;
  within = omega arith;
  is = the_two_files;
  records = refl;
  last = 2;
  one = All-nil _;
}

-- the record is the base's, and the history is empty
pub a_base_alone : Holds 0 (hi_placed ∷ []) 0 [] (one first (file with_hi []))
a_base_alone = record {
  files = one_record ∷ [];
  sure = 0;
  put = 0;
  enough = omega arith;
  ahead = omega arith;
  within = omega arith;
  is = one_listed 0 1 [] (λ i p. absurd p) refl;
  records = refl;
  last = 1;
  one = All-nil _;
}

-- a durable record is lost
pub a_durable_record_is_lost : Holds 0 [] 1 (hi_placed ∷ []) (one first (file_for config 1)) → ⊥
a_durable_record_is_lost h = absurd (let e : [] ≡ hi_placed ∷ [] = sym none ∙ h.records ∙ ap (λ (n : ℕ). take n (hi_placed ∷ [])) all in cc) where
  all : h.put ≡ 1
  all = omega (arith, h.enough, h.ahead, h.within)

  none : records_of h.files ≡ []
  none = none_read 0 (0 + h.sure) h.files [] (subst (AreThere 0 (0 + h.sure) (one first (file_for config 1))) (sym (append-nil h.files)) h.is.there)

-- behind no record
behind_none : (n : ℕ) → end_of_spots 41 (take n []) ≡ 41
behind_none zero = refl
behind_none (suc n) = refl

-- where the record is pending, none is durable
low : (wanted sure : ℕ) (g : Segment) → IsThere wanted sure (one first (file with_hi ((16, 25) ∷ []))) g → 1 ≤ sure → ⊥
low wanted sure g t some = by sure some behind where
  spots : hi_at 16 ∷ [] ≡ g.spots
  spots = (all_read wanted ((16, 25) ∷ []) g t.file t.there t.is).1

  behind : end_of_spots 16 (take sure (hi_at 16 ∷ [])) ≤ 16
  behind = subst (λ (l : List Spot). end_of_spots 16 (take sure l) ≤ 16) (sym spots)
      (subst (λ (f : File). (i : ℕ) → IsPending f.pending i → end_of_spots 16 (take sure g.spots) ≤ i) (sym (one_file (file with_hi ((16, 25) ∷ [])) t.file g.name t.there)) t.behind 16 (inl (omega arith, omega arith)))

  by : (n : ℕ) → 1 ≤ n → end_of_spots 16 (take n (hi_at 16 ∷ [])) ≤ 16 → ⊥
  by zero some end = omega (arith, some)
  by (suc n) some end = let e : end_of_spots 41 (take n []) ≤ 16 = end in omega (arith, e, behind_none n)

-- a record of the base may be lost
pub a_pending_base : Holds 0 (hi_placed ∷ []) 0 [] (one first (file with_hi ((16, 25) ∷ []))) → ⊥
a_pending_base h = by h.files h.is.there h.records where
  by : (gs : List Segment) → AreThere 0 (1 + h.sure) (one first (file with_hi ((16, 25) ∷ []))) gs → records_of gs ≡ hi_placed ∷ take h.put [] → ⊥
  by [] there records = absurd cc
  by (g ∷ gs) there records = low 0 (1 + h.sure) g there.0 (omega arith)

-- a receipt counts a record that may be lost
pub a_pending_record_isnt_sure : Holds 0 [] 1 (hi_placed ∷ []) (one first (file with_hi ((16, 25) ∷ []))) → ⊥
a_pending_record_isnt_sure h = by h.files h.is.there h.records where
  written : 1 ≤ h.put
  written = omega (arith, h.enough, h.ahead)

  by : (gs : List Segment) → AreThere 0 (0 + h.sure) (one first (file with_hi ((16, 25) ∷ []))) gs → records_of gs ≡ take h.put (hi_placed ∷ []) → ⊥
  by [] there records = none h.put written records where
    none : (n : ℕ) → 1 ≤ n → [] ≡ take n (hi_placed ∷ []) → ⊥
    none zero some e = omega (arith, some)
    none (suc n) some e = absurd cc
  by (g ∷ gs) there records = low 0 (0 + h.sure) g there.0 (omega (arith, h.enough))

-- a record that isn't of the history
pub a_record_of_no_history : Holds 0 [] 0 [] (one first (file with_hi [])) → ⊥
a_record_of_no_history h = by (0 + h.sure) h.files h.is.there (h.is.only first (file with_hi []) (number_names first 1 first_number) (omega arith) (there_is_one first (file with_hi []))) (h.records ∙ ap (λ (n : ℕ). take n []) none) where
  none : h.put ≡ 0
  none = omega (arith, h.within)

  by : (n : ℕ) (gs : List Segment) → AreThere 0 n (one first (file with_hi [])) gs → IsNamed first gs → records_of gs ≡ [] → ⊥
  by n [] there named records = named
  by n (g ∷ gs) there named records = absurd (let e : placed g.id (hi_at 16) ∷ records_of gs ≡ [] = ap (λ (l : List Spot). map (placed g.id) l ++ records_of gs) (all_read 0 [] g there.0.file there.0.there there.0.is).1 ∙ records in cc)

-- ---- what isn't durable stands in one file

-- the second file with its record
abbrev with_yo : List ℕ
with_yo = header 2 ++ (0x0b ∷ 0 ∷ 0 ∷ 0 ∷ 2 ∷ 0 ∷ 0 ∷ 0 ∷ 0 ∷ 0 ∷ 0 ∷ 0 ∷ 0 ∷ 2 ∷ 0 ∷ 0 ∷ 0 ∷ 2 ∷ 7 ∷ 0x79 ∷ 0x6f ∷ 0 ∷ 0 ∷ 0 ∷ 0x19 ∷ replicate 23 74)

yo_is_found : IsScan with_yo 2 2 (yo_at 16 ∷ [])
unfolding compact_at read_at front_of fields_at layout_at typed_at sized_at len_at
yo_is_found = scan_by_reading _ 2 (yo_at 16 ∷ []) refl refl refl

-- each of two files has a record that is pending
abbrev first_pending : File
first_pending = file with_hi ((16, 25) ∷ [])

abbrev second_pending : File
second_pending = file with_yo ((16, 25) ∷ [])

abbrev two_pending : Files
two_pending = both first_pending second_pending

abbrev two_records : List Placed
two_records = hi_placed ∷ placed 2 (yo_at 16) ∷ []

-- what a segment of that directory has: the first file's record, or the second one's
abbrev IsFirst : Segment → File → Type 0
IsFirst g x = (first ≡ g.name) × (first_pending ≡ x) × (1 ≡ g.id) × (hi_at 16 ∷ [] ≡ g.spots)

abbrev IsSecond : Segment → File → Type 0
IsSecond g x = (second ≡ g.name) × (second_pending ≡ x) × (2 ≡ g.id) × (yo_at 16 ∷ [] ≡ g.spots)

which : (g : Segment) (x : File) → finite.get two_pending g.name ≡ Some x → IsSegment 0 g x.bytes → IsFirst g x ⊎ IsSecond g x
which g x there segment = by (one_of_both first_pending second_pending x g.name there) where
  of_first : IsSegment 0 g with_hi → (1 ≡ g.id) × (hi_at 16 ∷ [] ≡ g.spots)
  of_first is = let id : 1 ≡ g.id = is.id in (id, same_scan with_hi 1 2 16 (hi_at 16 ∷ []) g.spots (omega arith) hi_is_found (subst (λ (n : ℕ). IsScan with_hi (n % 2 ^ 31) 2 g.spots) (sym id) is.scan))

  of_second : IsSegment 0 g with_yo → (2 ≡ g.id) × (yo_at 16 ∷ [] ≡ g.spots)
  of_second is = let id : 2 ≡ g.id = is.id in (id, same_scan with_yo 2 2 16 (yo_at 16 ∷ []) g.spots (omega arith) yo_is_found (subst (λ (n : ℕ). IsScan with_yo (n % 2 ^ 31) 2 g.spots) (sym id) is.scan))

  by : (first ≡ g.name) ⊎ (second ≡ g.name) → IsFirst g x ⊎ IsSecond g x
  by (inl e) =
      let x_is : first_pending ≡ x = same_Some first_pending x (sym (first_there first_pending second_pending) ∙ ap (finite.get two_pending) e ∙ there) in
      let so = of_first (subst (λ (f : File). IsSegment 0 g f.bytes) (sym x_is) segment) in
      inl (e, x_is, so.0, so.1)
  by (inr e) =
      let x_is : second_pending ≡ x = same_Some second_pending x (sym (second_there first_pending second_pending) ∙ ap (finite.get two_pending) e ∙ there) in
      let so = of_second (subst (λ (f : File). IsSegment 0 g f.bytes) (sym x_is) segment) in
      inr (e, x_is, so.0, so.1)

-- files of which one is listed have a record
some_record : (n : ℕ) (name : FileName) (gs : List Segment) → AreThere 0 n two_pending gs → IsNamed name gs → records_of gs ≡ [] → ⊥
some_record n name [] there named none = named
some_record n name (g ∷ gs) there named none = by (which g there.0.file there.0.there there.0.is) where
  by : IsFirst g there.0.file ⊎ IsSecond g there.0.file → ⊥
  by (inl is) = absurd (let e : placed g.id (hi_at 16) ∷ records_of gs ≡ [] = ap (λ (l : List Spot). map (placed g.id) l ++ records_of gs) is.3 ∙ none in cc)
  by (inr is) = absurd (let e : placed g.id (yo_at 16) ∷ records_of gs ≡ [] = ap (λ (l : List Spot). map (placed g.id) l ++ records_of gs) is.3 ∙ none in cc)

-- the first file isn't behind others
first_goes_first : (n least : ℕ) (gs : List Segment) → AreThere 0 n two_pending gs → AreAscending least gs → IsNamed first gs → least ≤ 1
first_goes_first n least [] there rises named = absurd named
first_goes_first n least (g ∷ gs) there rises (inl e) = by (which g there.0.file there.0.there there.0.is) where
  by : IsFirst g there.0.file ⊎ IsSecond g there.0.file → least ≤ 1
  by (inl is) = omega (arith, rises.0, is.2)
  by (inr is) = absurd (first_isnt_second (sym (is.0 ∙ e)))
first_goes_first n least (g ∷ gs) there rises (inr named) = omega (arith, rises.0, first_goes_first (n - length g.spots) (g.id + 1) gs there.1 rises.1 named)

-- two records that may be lost stand in two files
pub pending_in_two_files : Holds 0 [] 0 two_records two_pending → ⊥
pending_in_two_files h = by h.files h.is.there h.is.ascending first_named second_named h.records where
  first_named : IsNamed first h.files
  first_named = h.is.only first first_pending (number_names first 1 first_number) (omega arith) (first_there first_pending second_pending)

  second_named : IsNamed second h.files
  second_named = h.is.only second second_pending (number_names second 2 second_number) (omega arith) (second_there first_pending second_pending)

  -- where both are on the disk and none is durable
  apart : h.sure ≡ 0 → h.put ≡ 2 → ⊥
  apart none all =
      let one : All (InFile h.last) two_records = subst (λ (n : ℕ). All (InFile h.last) (drop n (take 2 two_records))) none (subst (λ (n : ℕ). All (InFile h.last) (drop h.sure (take n two_records))) all h.one) in
      omega (arith, All-head (InFile h.last) hi_placed (placed 2 (yo_at 16) ∷ []) one, All-head (InFile h.last) (placed 2 (yo_at 16)) [] (All-tail (InFile h.last) hi_placed (placed 2 (yo_at 16) ∷ []) one))

  -- no record of the first file is durable
  unsure : (g : Segment) (t : IsThere 0 (0 + h.sure) two_pending g) → IsFirst g t.file → h.sure ≡ 0
  unsure g t is = of h.sure refl where
    of : (n : ℕ) → n ≡ h.sure → h.sure ≡ 0
    of zero e = sym e
    of (suc n) e =
        let behind : end_of_spots 16 (take (0 + h.sure) (hi_at 16 ∷ [])) ≤ 16 = subst (λ (l : List Spot). end_of_spots 16 (take (0 + h.sure) l) ≤ 16) (sym is.3)
        (subst (λ (f : File). (i : ℕ) → IsPending f.pending i → end_of_spots 16 (take (0 + h.sure) g.spots) ≤ i) (sym is.1) t.behind 16 (inl (omega arith, omega arith))) in
        let more : suc n ≡ 0 + h.sure = omega (arith, e) in
        let end : end_of_spots 41 (take n []) ≤ 16 = subst (λ (k : ℕ). end_of_spots 16 (take k (hi_at 16 ∷ [])) ≤ 16) (sym more) behind in
        absurd (omega (arith, end, behind_none n))

  -- both are on the disk
  both_put : (g : Segment) (gs : List Segment) → hi_at 16 ∷ [] ≡ g.spots → 1 ≡ g.id → (records_of gs ≡ [] → ⊥) → (n : ℕ) → n ≤ 2 → records_of (g ∷ gs) ≡ take n two_records → n ≡ 2
  both_put g gs spots id some n most records = of n most (ap (λ (l : List Spot). map (placed g.id) l ++ records_of gs) spots ∙ records) where
    of : (n : ℕ) → n ≤ 2 → placed g.id (hi_at 16) ∷ records_of gs ≡ take n two_records → n ≡ 2
    of zero most e = absurd cc
    of (suc zero) most e = absurd (some cc)
    of (suc (suc n)) most e = omega (arith, most)

  by : (gs : List Segment) → AreThere 0 (0 + h.sure) two_pending gs → AreAscending 0 gs → IsNamed first gs → IsNamed second gs → records_of gs ≡ take h.put two_records → ⊥
  by [] there rises one other records = one
  by (g ∷ gs) there rises one other records = of (which g there.0.file there.0.there there.0.is) one other where
    of : IsFirst g there.0.file ⊎ IsSecond g there.0.file → IsNamed first (g ∷ gs) → IsNamed second (g ∷ gs) → ⊥
    of (inl is) one (inl e) = first_isnt_second (is.0 ∙ e)
    of (inl is) one (inr named) = apart (unsure g there.0 is) (both_put g gs is.3 is.2 (some_record (0 + h.sure - length g.spots) second gs there.1 named) h.put (omega (arith, h.within)) records)
    of (inr is) (inl e) other = second_isnt_first (is.0 ∙ e)
    of (inr is) (inr named) other = omega (arith, is.2, first_goes_first (0 + h.sure - length g.spots) (g.id + 1) gs there.1 rises.1 named)
