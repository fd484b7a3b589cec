-- What directories give when they are loaded, computed.
use Rattle.std.proofs.Common.{◌≡◌, ℕ, Bool, true, false, cond, T, eqb, List, [], ◌∷◌, ◌++◌, length, map, Option, None, Some, option_map, codes, refl, sym, ap, subst, ◌∙◌, arith}
use Rattle.std.specs.FinMap as finite
use Rattle.std.specs.Ordering.{eq_by_cmp, nat_cmp}
use Rattle.std.specs.Cmp.Lexicographic.{slice_cmp}
use Rattle.std.proofs.lemmas.Cmp.{nat_list_cmp_total}
use Rattle.std.proofs.lemmas.Option.{none-some}
use Rattle.amq_model.specs.declared.record.Record.TheVariants.{Add}
use Rattle.amq_model.specs.declared.record.Placed.{Placed}
use Rattle.amq_model.specs.declared.state.LoadState.{LoadState}
use Rattle.amq_model.specs.declared.state.EntryKind.TheVariants as kinds
use Rattle.amq_model.specs.declared.directory.Control.{Control}
use Rattle.amq_model.specs.declared.directory.DataFile.{DataFile}
use Rattle.amq_model.specs.declared.directory.DirFault.{DirFault}
use Rattle.amq_model.specs.declared.directory.DirFault.TheVariants.{TooLong, Version, UserVersion, TwoFiles}
use Rattle.amq_model.specs.RecordAt.{Spot}
use Rattle.amq_model.specs.Scan.{IsScan}
use Rattle.amq_model.specs.Names.{control_name}
use Rattle.amq_model.specs.Effect.{result_of}
use Rattle.amq_model.specs.Directory.{Listing, FileOf, file_of, data_files, fault_of, fault, SaysControl, IsJoined, IsRead, HasFault, Loads, placed}
use Rattle.amq_model.specs.Files.{FileName, File, Files, Image, IsReading}
use Rattle.amq_model.proofs.Crashes.{file}
use Rattle.amq_model.proofs.Literals.{unequal}
use Rattle.amq_record.specs.Reading.{compact_at, read_at, front_of, fields_at, layout_at, typed_at, sized_at, len_at}
use Rattle.amq_scan.proofs.Scans.{same_scan}
use Rattle.amq_scan.proofs.Examples.{scan_by_reading, header, add_hi, hi_at, yo_at}
use Rattle.amq_loader.specs.declared.loaded.Loaded.{Loaded}
use Rattle.amq_loader.specs.Loads.{number_of, is_leftover, leftovers_of, highest_number, data_file, AreRising, IsSoundFile, IsLoad, IsLoadOf, IsFaulty, IsStateOf}

-- ---- names

pub of_a_data_file : number_of (codes "activemq-data-9.amq") ≡ Some 9
of_a_data_file = refl

pub of_a_compacted_file : number_of (codes "activemq-data-12.amq.cmp") ≡ Some 12
of_a_compacted_file = refl

pub of_a_temporary_file : number_of (codes "activemq-data-9.amq.tmp") ≡ Some 9
of_a_temporary_file = refl

pub of_a_temporary_compacted_file : number_of (codes "activemq-data-3.amq.cmp.tmp") ≡ Some 3
of_a_temporary_compacted_file = refl

pub with_leading_zeros : number_of (codes "activemq-data-0000000000000000012.amq") ≡ Some 12
with_leading_zeros = refl

pub with_twenty_digits : number_of (codes "activemq-data-00000000000000000012.amq") ≡ None
with_twenty_digits = refl

pub of_the_control_file : number_of control_name ≡ None
of_the_control_file = refl

pub of_the_temporary_control_file : number_of (codes "journal-rename-control.ctr.tmp") ≡ None
of_the_temporary_control_file = refl

pub of_notes : number_of (codes "notes.txt") ≡ None
of_notes = refl

-- ---- leftovers

-- the names of these files, without their bytes
abbrev names : List (List ℕ) → Listing
names [] = []
names (n ∷ ns) = (n, []) ∷ names ns

pub compacted_and_temporary_files_are_left : leftovers_of (names (
    codes "activemq-data-1.amq" ∷ codes "activemq-data-1.amq.cmp" ∷ codes "activemq-data-1.amq.tmp" ∷ codes "activemq-data-1.amq.tmp.tmp" ∷ codes "activemq-data-2.amq.cmp.tmp"
    ∷ codes "journal-rename-control.ctr" ∷ codes "journal-rename-control.ctr.tmp" ∷ codes "notes.txt" ∷ codes "notes.txt.tmp" ∷ []))
    ≡ codes "activemq-data-1.amq.cmp" ∷ codes "activemq-data-1.amq.tmp" ∷ codes "activemq-data-2.amq.cmp.tmp" ∷ codes "journal-rename-control.ctr.tmp" ∷ []
compacted_and_temporary_files_are_left = refl

pub a_data_file_is_none : is_leftover (codes "activemq-data-1.amq") ≡ false
a_data_file_is_none = refl

-- ---- numbers

abbrev highest_of_all : Listing → ℕ
highest_of_all listing = highest_number listing (data_files listing None)

pub of_no_file : highest_of_all [] ≡ 0
of_no_file = refl

pub of_the_name : highest_of_all ((codes "activemq-data-9.amq", header 3) ∷ []) ≡ 9
of_the_name = refl

pub of_the_header : highest_of_all ((codes "activemq-data-9.amq", header 30) ∷ []) ≡ 30
of_the_header = refl

-- a file that is too short for a header has no id, but a name
pub of_a_short_file : highest_of_all ((codes "activemq-data-9.amq", 0 ∷ 0 ∷ []) ∷ []) ≡ 9
of_a_short_file = refl

-- the id of a file that is no data file doesn't count
pub of_a_leftover : highest_of_all ((codes "activemq-data-2.amq", header 1) ∷ (codes "activemq-data-9.amq.tmp", header 30) ∷ (codes "notes.txt", header 40) ∷ []) ≡ 9
of_a_leftover = refl

pub of_leading_zeros : highest_of_all ((codes "activemq-data-0012.amq", header 3) ∷ []) ≡ 12
of_leading_zeros = refl

-- twenty digits are no data file's name
pub of_twenty_digits : highest_of_all ((codes "activemq-data-00000000000000000012.amq", header 3) ∷ []) ≡ 0
of_twenty_digits = refl

-- ---- directories

-- the files of a directory, each of them durable
abbrev pub durably : Listing → List (FileName × File)
durably [] = []
durably (e ∷ es) = (e.0, file e.1 []) ∷ durably es

-- their names ascend
abbrev Ascends : Listing → Type 0
Ascends listing = T (finite.is_sorted (slice_cmp nat_cmp) listing) × T (finite.is_sorted (slice_cmp nat_cmp) (durably listing))

abbrev pub directory : Listing → Files
directory listing = finite.from_sorted (durably listing)

abbrev image_of : Listing → Image
image_of listing = finite.from_sorted listing

found_bytes : (n : FileName) (es : Listing) → finite.find (slice_cmp nat_cmp) n es ≡ option_map (λ f. f.bytes) (finite.find (slice_cmp nat_cmp) n (durably es))
found_bytes n [] = refl
found_bytes n (e ∷ es) = by (eq_by_cmp (slice_cmp nat_cmp) n e.0) (found_bytes n es) where
  by : (b : Bool) → finite.find (slice_cmp nat_cmp) n es ≡ option_map (λ f. f.bytes) (finite.find (slice_cmp nat_cmp) n (durably es)) → cond b (Some e.1) (finite.find (slice_cmp nat_cmp) n es) ≡ option_map (λ (f : File). f.bytes) (cond b (Some (file e.1 [])) (finite.find (slice_cmp nat_cmp) n (durably es)))
  by true rest = refl
  by false rest = rest

reads : (listing : Listing) → Ascends listing → IsReading (directory listing) (image_of listing)
reads listing sorted n = finite.get-from_sorted (slice_cmp nat_cmp) listing n sorted.0 ∙ found_bytes n listing ∙ sym (ap (option_map (λ (f : File). f.bytes)) (finite.get-from_sorted (slice_cmp nat_cmp) (durably listing) n sorted.1))

-- what the directory has, is so of its image
pub of_image : (listing : Listing) → Ascends listing → (P : Listing → Type 0) → P listing → P (finite.entries (image_of listing))
of_image listing sorted P is = subst P (sym (finite.entries-from_sorted (slice_cmp nat_cmp) listing sorted.0)) is

-- and of each that the directory reads
entries_are : (listing : Listing) → Ascends listing → (image : Image) → IsReading (directory listing) image → finite.entries image ≡ listing
entries_are listing sorted image reading =
    ap finite.entries (finite.same_map nat_list_cmp_total (finite.slice_cmp-IsAntisymmetric finite.nat_cmp-IsAntisymmetric) image (image_of listing) (λ q. reading q ∙ sym (reads listing sorted q)))
    ∙ finite.entries-from_sorted (slice_cmp nat_cmp) listing sorted.0

pub from_image : (listing : Listing) → Ascends listing → (image : Image) → IsReading (directory listing) image → (P : Listing → Type 0) → P (finite.entries image) → P listing
from_image listing sorted image reading P is = subst P (entries_are listing sorted image reading) is

no_such_file : (listing : Listing) → Ascends listing → finite.find (slice_cmp nat_cmp) control_name listing ≡ None → finite.get (image_of listing) control_name ≡ None
no_such_file listing sorted none = finite.get-from_sorted (slice_cmp nat_cmp) listing control_name sorted.0 ∙ none

-- ---- one file with one record

abbrev pub with_hi : List ℕ
with_hi = header 1 ++ add_hi

pub hi_is_found : IsScan with_hi 1 2 (hi_at 16 ∷ [])
unfolding compact_at read_at front_of fields_at layout_at typed_at sized_at len_at
hi_is_found = scan_by_reading _ 1 (hi_at 16 ∷ []) refl refl refl

abbrev pub one_file : Listing
one_file = (codes "activemq-data-1.amq", with_hi) ∷ []

abbrev hi_live : LoadState
hi_live = record { live = record { kind = kinds.Add; id = 1; user_type = 7; body = 0x68 ∷ 0x69 ∷ [] } ∷ []; in_doubt = [] }

abbrev pub one_loaded : Loaded
one_loaded = record {
  files = record { name = codes "activemq-data-1.amq"; id = 1; len = 41; version = 2 } ∷ [];
  base = record { file = 1; place = 16; compact = 0; rec = Add 1 7 (0x68 ∷ 0x69 ∷ []) } ∷ [];
  state = hi_live;
  live = 1 ∷ [];
  open_txs = [];
  highest_tx = 0;
  highest_file = 1;
  control = None;
  leftovers = [];
}

one_sound : IsSoundFile 0 1 (file_of (codes "activemq-data-1.amq") with_hi)
one_sound = record { named = refl; long = omega arith; faultless = refl; id = omega arith; number = omega arith }

pub one_is_loaded : IsLoad 0 one_loaded
one_is_loaded = record {
  read = file_of (codes "activemq-data-1.amq") with_hi ∷ [];
  files = refl;
  rising = (omega arith, tt);
  sound = (one_sound, tt);
  joined = (hi_at 16 ∷ [], hi_is_found, [], refl, refl);
  state = refl;
  live = refl;
  opened = refl;
  highest_tx = refl;
  control = refl;
}

pub one_is_loaded_of : IsLoadOf 0 one_loaded (directory one_file)
one_is_loaded_of = record {
  image = image_of one_file;
  reading = reads one_file (tt, tt);
  uncontrolled = no_such_file one_file (tt, tt) refl;
  faultless = of_image one_file (tt, tt) (λ l. fault l None 0 ≡ None) refl;
  files = of_image one_file (tt, tt) (λ l. one_loaded.files ≡ map data_file (data_files l None)) refl;
  joined = of_image one_file (tt, tt) (λ l. IsJoined (data_files l None) one_loaded.base) (hi_at 16 ∷ [], hi_is_found, [], refl, refl);
  highest_file = of_image one_file (tt, tt) (λ l. 1 ≡ highest_number l (data_files l None)) refl;
  leftovers = of_image one_file (tt, tt) (λ l. [] ≡ leftovers_of l) refl;
}

abbrev empty_state : LoadState
empty_state = record { live = []; in_doubt = [] }

pub the_state_is_another : IsLoad 0 (record one_loaded { state = empty_state }) → ⊥
the_state_is_another h = unequal 0 1 tt (ap (λ (s : LoadState). length s.live) h.state)

pub an_id_above_the_highest : IsSoundFile 0 0 (file_of (codes "activemq-data-1.amq") with_hi) → ⊥
an_id_above_the_highest h = omega (arith, h.id)

pub a_name_above_the_highest : IsSoundFile 0 1 (file_of (codes "activemq-data-9.amq") with_hi) → ⊥
a_name_above_the_highest h = omega (arith, h.number)

-- a record of the file is missing
pub a_record_is_missing : IsLoadOf 0 (record one_loaded { base = [] }) (directory one_file) → ⊥
a_record_is_missing h = by (from_image one_file (tt, tt) h.image h.reading (λ l. IsJoined (data_files l None) []) h.joined) where
  by : IsJoined (file_of (codes "activemq-data-1.amq") with_hi ∷ []) [] → ⊥
  by (spots, scan, rest, others, is) =
      let same : hi_at 16 ∷ [] ≡ spots = same_scan with_hi 1 2 16 (hi_at 16 ∷ []) spots (omega arith) hi_is_found scan in
      let e : [] ≡ placed 1 (hi_at 16) ∷ rest = is ∙ ap (λ (l : List Spot). map (placed 1) l ++ rest) (sym same) in
      absurd cc

-- ---- two files, out of order of name and id

-- a file of id 2 with an ADD of id 2, type 7 and body yo
abbrev with_yo : List ℕ
with_yo = header 2 ++ (0x0b ∷ 0 ∷ 0 ∷ 0 ∷ 2 ∷ 0 ∷ 0 ∷ 0 ∷ 0 ∷ 0 ∷ 0 ∷ 0 ∷ 0 ∷ 2 ∷ 0 ∷ 0 ∷ 0 ∷ 2 ∷ 7 ∷ 0x79 ∷ 0x6f ∷ 0 ∷ 0 ∷ 0 ∷ 0x19 ∷ [])

yo_is_found : IsScan with_yo 2 2 (yo_at 16 ∷ [])
unfolding compact_at read_at front_of fields_at layout_at typed_at sized_at len_at
yo_is_found = scan_by_reading _ 2 (yo_at 16 ∷ []) refl refl refl

abbrev two_files : Listing
two_files = (codes "activemq-data-2.amq", with_yo) ∷ (codes "activemq-data-9.amq", with_hi) ∷ []

abbrev two_loaded : Loaded
two_loaded = record {
  files = record { name = codes "activemq-data-9.amq"; id = 1; len = 41; version = 2 } ∷ record { name = codes "activemq-data-2.amq"; id = 2; len = 41; version = 2 } ∷ [];
  base = record { file = 1; place = 16; compact = 0; rec = Add 1 7 (0x68 ∷ 0x69 ∷ []) } ∷ record { file = 2; place = 16; compact = 0; rec = Add 2 7 (0x79 ∷ 0x6f ∷ []) } ∷ [];
  state = record { live = record { kind = kinds.Add; id = 1; user_type = 7; body = 0x68 ∷ 0x69 ∷ [] } ∷ record { kind = kinds.Add; id = 2; user_type = 7; body = 0x79 ∷ 0x6f ∷ [] } ∷ []; in_doubt = [] };
  live = 1 ∷ 2 ∷ [];
  open_txs = [];
  highest_tx = 0;
  highest_file = 9;
  control = None;
  leftovers = [];
}

two_joined : IsJoined (file_of (codes "activemq-data-9.amq") with_hi ∷ file_of (codes "activemq-data-2.amq") with_yo ∷ []) two_loaded.base
two_joined = (hi_at 16 ∷ [], hi_is_found, placed 2 (yo_at 16) ∷ [], (yo_at 16 ∷ [], yo_is_found, [], refl, refl), refl)

pub two_are_loaded : IsLoad 0 two_loaded
two_are_loaded = record {
  read = file_of (codes "activemq-data-9.amq") with_hi ∷ file_of (codes "activemq-data-2.amq") with_yo ∷ [];
  files = refl;
  rising = (omega arith, (omega arith, tt));
  sound = (
    record { named = refl; long = omega arith; faultless = refl; id = omega arith; number = omega arith },
    (record { named = refl; long = omega arith; faultless = refl; id = omega arith; number = omega arith }, tt),
  );
  joined = two_joined;
  state = refl;
  live = refl;
  opened = refl;
  highest_tx = refl;
  control = refl;
}

pub two_are_loaded_of : IsLoadOf 0 two_loaded (directory two_files)
two_are_loaded_of = record {
  image = image_of two_files;
  reading = reads two_files (tt, tt);
  uncontrolled = no_such_file two_files (tt, tt) refl;
  faultless = of_image two_files (tt, tt) (λ l. fault l None 0 ≡ None) refl;
  files = of_image two_files (tt, tt) (λ l. two_loaded.files ≡ map data_file (data_files l None)) refl;
  joined = of_image two_files (tt, tt) (λ l. IsJoined (data_files l None) two_loaded.base) two_joined;
  highest_file = of_image two_files (tt, tt) (λ l. 9 ≡ highest_number l (data_files l None)) refl;
  leftovers = of_image two_files (tt, tt) (λ l. [] ≡ leftovers_of l) refl;
}

-- the ids' order isn't that of the names
pub against_their_ids : AreRising 0 (file_of (codes "activemq-data-2.amq") with_yo ∷ file_of (codes "activemq-data-9.amq") with_hi ∷ []) → ⊥
against_their_ids h = omega (arith, h.1.0)

pub in_the_order_of_names : IsLoadOf 0 (record two_loaded { files = record { name = codes "activemq-data-2.amq"; id = 2; len = 41; version = 2 } ∷ record { name = codes "activemq-data-9.amq"; id = 1; len = 41; version = 2 } ∷ [] }) (directory two_files) → ⊥
in_the_order_of_names h = unequal 2 1 tt (ap (first_id 0) (from_image two_files (tt, tt) h.image h.reading (λ l. record { name = codes "activemq-data-2.amq"; id = 2; len = 41; version = 2 } ∷ record { name = codes "activemq-data-9.amq"; id = 1; len = 41; version = 2 } ∷ [] ≡ map data_file (data_files l None)) h.files)) where
  first_id : ℕ → List DataFile → ℕ
  first_id none [] = none
  first_id none (f ∷ fs) = f.id

-- ---- an id above 31 bits

-- id 2 ^ 31 + 1, whose lowest 31 bits the records carry
abbrev with_high_id : List ℕ
with_high_id = 0 ∷ 0 ∷ 0 ∷ 2 ∷ 0 ∷ 0 ∷ 0 ∷ 0 ∷ 0 ∷ 0 ∷ 0 ∷ 0 ∷ 128 ∷ 0 ∷ 0 ∷ 1 ∷ add_hi

high_is_found : IsScan with_high_id 1 2 (hi_at 16 ∷ [])
unfolding compact_at read_at front_of fields_at layout_at typed_at sized_at len_at
high_is_found = scan_by_reading _ 1 (hi_at 16 ∷ []) refl refl refl

pub the_file_is_the_whole_id : IsJoined (file_of (codes "activemq-data-1.amq") with_high_id ∷ []) (record { file = 2147483649; place = 16; compact = 0; rec = Add 1 7 (0x68 ∷ 0x69 ∷ []) } ∷ [])
the_file_is_the_whole_id = (hi_at 16 ∷ [], high_is_found, [], refl, refl)

-- two ids that differ there alone are two
pub not_of_one_id : fault ((codes "activemq-data-1.amq", with_high_id) ∷ (codes "activemq-data-2.amq", with_hi) ∷ []) None 0 ≡ None
not_of_one_id = refl

-- ---- no data file: what another opening left, and notes

abbrev with_notes : Listing
with_notes = (codes "activemq-data-9.amq.tmp", 0x4a ∷ []) ∷ (codes "notes.txt", 0x68 ∷ 0x69 ∷ []) ∷ []

abbrev leftover_loaded : Loaded
leftover_loaded = record {
  files = [];
  base = [];
  state = empty_state;
  live = [];
  open_txs = [];
  highest_tx = 0;
  highest_file = 9;
  control = None;
  leftovers = codes "activemq-data-9.amq.tmp" ∷ [];
}

pub nothing_is_loaded : IsLoad 0 leftover_loaded
nothing_is_loaded = record { read = []; files = refl; rising = tt; sound = tt; joined = refl; state = refl; live = refl; opened = refl; highest_tx = refl; control = refl }

pub nothing_is_loaded_of : IsLoadOf 0 leftover_loaded (directory with_notes)
nothing_is_loaded_of = record {
  image = image_of with_notes;
  reading = reads with_notes (tt, tt);
  uncontrolled = no_such_file with_notes (tt, tt) refl;
  faultless = of_image with_notes (tt, tt) (λ l. fault l None 0 ≡ None) refl;
  files = of_image with_notes (tt, tt) (λ l. [] ≡ map data_file (data_files l None)) refl;
  joined = of_image with_notes (tt, tt) (λ l. IsJoined (data_files l None) []) refl;
  highest_file = of_image with_notes (tt, tt) (λ l. 9 ≡ highest_number l (data_files l None)) refl;
  leftovers = of_image with_notes (tt, tt) (λ l. codes "activemq-data-9.amq.tmp" ∷ [] ≡ leftovers_of l) refl;
}

-- the number of a temporary name counts
pub without_the_number_of_a_leftover : IsLoadOf 0 (record leftover_loaded { highest_file = 0 }) (directory with_notes) → ⊥
without_the_number_of_a_leftover h = unequal 0 9 tt (from_image with_notes (tt, tt) h.image h.reading (λ l. 0 ≡ highest_number l (data_files l None)) h.highest_file)

-- the leftover isn't told
pub without_the_leftover : IsLoadOf 0 (record leftover_loaded { leftovers = [] }) (directory with_notes) → ⊥
without_the_leftover h = unequal 0 1 tt (ap length (from_image with_notes (tt, tt) h.image h.reading (λ l. [] ≡ leftovers_of l) h.leftovers))

-- a data file's name with fewer bytes than a header: no data file, but its number counts
abbrev short_file : Listing
short_file = (codes "activemq-data-9.amq", 0 ∷ 0 ∷ []) ∷ []

pub a_short_file_is_passed_over : IsLoadOf 0 (record leftover_loaded { leftovers = [] }) (directory short_file)
a_short_file_is_passed_over = record {
  image = image_of short_file;
  reading = reads short_file (tt, tt);
  uncontrolled = no_such_file short_file (tt, tt) refl;
  faultless = of_image short_file (tt, tt) (λ l. fault l None 0 ≡ None) refl;
  files = of_image short_file (tt, tt) (λ l. [] ≡ map data_file (data_files l None)) refl;
  joined = of_image short_file (tt, tt) (λ l. IsJoined (data_files l None) []) refl;
  highest_file = of_image short_file (tt, tt) (λ l. 9 ≡ highest_number l (data_files l None)) refl;
  leftovers = of_image short_file (tt, tt) (λ l. [] ≡ leftovers_of l) refl;
}

-- ---- faults

-- one byte above the limit, whatever the header says
pub too_long : (wanted : ℕ) (bytes : List ℕ) → length bytes ≡ 268435457 → fault_of wanted (file_of (codes "activemq-data-1.amq") bytes) ≡ Some (TooLong (codes "activemq-data-1.amq") 268435457)
too_long wanted bytes len = rw (len) refl

pub not_too_long : (wanted len : ℕ) (bytes : List ℕ) → length bytes ≡ 268435456 → fault_of wanted (file_of (codes "activemq-data-1.amq") bytes) ≡ Some (TooLong (codes "activemq-data-1.amq") len) → ⊥
not_too_long wanted len bytes is fault = by (eqb (file_of (codes "activemq-data-1.amq") bytes).version 2) (eqb (file_of (codes "activemq-data-1.amq") bytes).user_version wanted) (sym (rw (is) refl) ∙ fault) where
  f : FileOf
  f = file_of (codes "activemq-data-1.amq") bytes

  by : (a b : Bool) → cond a (cond b None (Some (UserVersion f.name f.user_version wanted))) (Some (Version f.name f.version)) ≡ Some (TooLong (codes "activemq-data-1.amq") len) → ⊥
  by true true e = absurd cc
  by true false e = absurd cc
  by false b e = absurd cc

-- a header of this version, user version and id
abbrev header_of : ℕ → ℕ → ℕ → List ℕ
header_of version user id = 0 ∷ 0 ∷ 0 ∷ version ∷ 0 ∷ 0 ∷ 0 ∷ user ∷ 0 ∷ 0 ∷ 0 ∷ 0 ∷ 0 ∷ 0 ∷ 0 ∷ id ∷ []

-- a directory without a control file has this fault
is_faulty : (wanted : ℕ) (found : DirFault) (listing : Listing) → Ascends listing → finite.find (slice_cmp nat_cmp) control_name listing ≡ None → SaysControl listing None → Some found ≡ fault listing None wanted → IsFaulty wanted found (directory listing)
is_faulty wanted found listing sorted none says is = record {
  image = image_of listing;
  reading = reads listing sorted;
  uncontrolled = no_such_file listing sorted none;
  is = record { control = None; says = of_image listing sorted (λ l. SaysControl l None) says; is = of_image listing sorted (λ l. Some found ≡ fault l None wanted) is };
}

abbrev pub of_version_3 : Listing
of_version_3 = (codes "activemq-data-1.amq", header_of 3 0 1) ∷ []

pub version_3 : IsFaulty 0 (Version (codes "activemq-data-1.amq") 3) (directory of_version_3)
version_3 = is_faulty 0 _ of_version_3 (tt, tt) refl (λ bytes c e. absurd cc) refl

-- it isn't passed over
pub version_3_is_not_loaded : (l : Loaded) → IsLoadOf 0 l (directory of_version_3) → ⊥
version_3_is_not_loaded l h = none-some _ (sym (from_image of_version_3 (tt, tt) h.image h.reading (λ l. fault l None 0 ≡ None) h.faultless))

pub another_user_version : IsFaulty 0 (UserVersion (codes "activemq-data-1.amq") 7 0) (directory ((codes "activemq-data-1.amq", header_of 2 7 1) ∷ []))
another_user_version = is_faulty 0 _ ((codes "activemq-data-1.amq", header_of 2 7 1) ∷ []) (tt, tt) refl (λ bytes c e. absurd cc) refl

-- the version goes first
pub both_versions : IsFaulty 0 (Version (codes "activemq-data-1.amq") 3) (directory ((codes "activemq-data-1.amq", header_of 3 7 1) ∷ []))
both_versions = is_faulty 0 _ ((codes "activemq-data-1.amq", header_of 3 7 1) ∷ []) (tt, tt) refl (λ bytes c e. absurd cc) refl

-- three files of one id, and two of a lesser one
abbrev of_one_id : Listing
of_one_id = (codes "activemq-data-1.amq", header 5) ∷ (codes "activemq-data-2.amq", header 3) ∷ (codes "activemq-data-3.amq", header 5) ∷ (codes "activemq-data-4.amq", header 5) ∷ (codes "activemq-data-9.amq", header 3) ∷ []

pub the_least_id : IsFaulty 0 (TwoFiles 3 (codes "activemq-data-2.amq") (codes "activemq-data-9.amq")) (directory of_one_id)
the_least_id = is_faulty 0 _ of_one_id (tt, tt) refl (λ bytes c e. absurd cc) refl

abbrev three_of_one_id : Listing
three_of_one_id = (codes "activemq-data-1.amq", header 5) ∷ (codes "activemq-data-3.amq", header 5) ∷ (codes "activemq-data-4.amq", header 5) ∷ []

pub the_first_two_names : IsFaulty 0 (TwoFiles 5 (codes "activemq-data-1.amq") (codes "activemq-data-3.amq")) (directory three_of_one_id)
the_first_two_names = is_faulty 0 _ three_of_one_id (tt, tt) refl (λ bytes c e. absurd cc) refl

-- none of the two is taken
pub two_of_one_id_are_not_loaded : (l : Loaded) → IsLoadOf 0 l (directory three_of_one_id) → ⊥
two_of_one_id_are_not_loaded l h = none-some _ (sym (from_image three_of_one_id (tt, tt) h.image h.reading (λ l. fault l None 0 ≡ None) h.faultless))

-- a fault of a file goes before a shared id, also where its name comes last
pub a_version_before_a_shared_id : IsFaulty 0 (Version (codes "activemq-data-9.amq") 4) (directory ((codes "activemq-data-1.amq", header 5) ∷ (codes "activemq-data-3.amq", header 5) ∷ (codes "activemq-data-9.amq", header_of 4 0 6) ∷ []))
a_version_before_a_shared_id = is_faulty 0 _ ((codes "activemq-data-1.amq", header 5) ∷ (codes "activemq-data-3.amq", header 5) ∷ (codes "activemq-data-9.amq", header_of 4 0 6) ∷ []) (tt, tt) refl (λ bytes c e. absurd cc) refl

-- without a control file the fault is that of all data files
the_fault : (listing : Listing) → Ascends listing → (wanted : ℕ) (found : DirFault) → ((c : Control) → SaysControl listing (Some c) → ⊥) → IsFaulty wanted found (directory listing) → Some found ≡ fault listing None wanted
the_fault listing sorted wanted found none h = by (from_image listing sorted h.image h.reading (λ l. HasFault l wanted (Some found)) h.is) where
  by : HasFault listing wanted (Some found) → Some found ≡ fault listing None wanted
  by f = of f.control f.says f.is where
    of : (c : Option Control) → SaysControl listing c → Some found ≡ fault listing c wanted → Some found ≡ fault listing None wanted
    of None says is = is
    of (Some c) says is = absurd (none c says)

pub a_sound_directory : (found : DirFault) → IsFaulty 0 found (directory one_file) → ⊥
a_sound_directory found h = none-some found (sym (the_fault one_file (tt, tt) 0 found (λ c says. let e : None ≡ Some says.0 = says.1 in none-some _ e) h))

pub the_later_file : IsFaulty 0 (Version (codes "activemq-data-2.amq") 4) (directory ((codes "activemq-data-1.amq", header_of 3 0 1) ∷ (codes "activemq-data-2.amq", header_of 4 0 2) ∷ [])) → ⊥
the_later_file h = unequal 4 3 tt (ap found_version (the_fault ((codes "activemq-data-1.amq", header_of 3 0 1) ∷ (codes "activemq-data-2.amq", header_of 4 0 2) ∷ []) (tt, tt) 0 _ (λ c says. let e : None ≡ Some says.0 = says.1 in none-some _ e) h)) where
  found_version : Option DirFault → ℕ
  found_version (Some (Version name found)) = found
  found_version _ = 0

-- ---- a control file

abbrev pub controlled : Listing
controlled = (codes "activemq-data-1.amq", header_of 3 0 1) ∷ (control_name, 0 ∷ []) ∷ []

-- it isn't built whether that has a fault
there_is_one : (image : Image) → IsReading (directory controlled) image → finite.get image control_name ≡ None → ⊥
there_is_one image reading none = none-some _ (sym none ∙ reading control_name ∙ ap (option_map (λ (f : File). f.bytes)) (finite.get-from_sorted (slice_cmp nat_cmp) (durably controlled) control_name tt))

pub with_a_control_file_no_fault : (found : DirFault) → IsFaulty 0 found (directory controlled) → ⊥
with_a_control_file_no_fault found h = there_is_one h.image h.reading h.uncontrolled

pub with_a_control_file_no_load : (l : Loaded) → IsLoadOf 0 l (directory controlled) → ⊥
with_a_control_file_no_load l h = there_is_one h.image h.reading h.uncontrolled

-- ---- states

-- without a control file the state is that of all data files
the_state : (listing : Listing) → Ascends listing → (wanted : ℕ) (state : LoadState) → ((c : Control) → SaysControl listing (Some c) → ⊥) → IsStateOf wanted state (directory listing)
    → (records : List Placed) × IsJoined (data_files listing None) records × (fault listing None wanted ≡ None) × (state ≡ result_of records)
the_state listing sorted wanted state none h = by (from_image listing sorted h.image h.reading (λ l. Loads l wanted state) h.loads) where
  Found : Type 0
  Found = (records : List Placed) × IsJoined (data_files listing None) records × (fault listing None wanted ≡ None) × (state ≡ result_of records)

  by : Loads listing wanted state → Found
  by f = of f.control f.read f.sound where
    of : (c : Option Control) → IsRead listing c f.records → fault listing c wanted ≡ None → Found
    of None read sound = (f.records, read.joined, sound, f.is)
    of (Some c) read sound = absurd (none c read.says)

pub the_state_of_one_file : IsStateOf 0 hi_live (directory one_file)
the_state_of_one_file = record {
  image = image_of one_file;
  reading = reads one_file (tt, tt);
  uncontrolled = no_such_file one_file (tt, tt) refl;
  loads = of_image one_file (tt, tt) (λ l. Loads l 0 hi_live) (record {
    control = None;
    records = one_loaded.base;
    read = record { says = λ bytes c e. absurd cc; joined = (hi_at 16 ∷ [], hi_is_found, [], refl, refl) };
    sound = refl;
    is = refl;
  });
}

uncontrolled_one : (c : Control) → SaysControl one_file (Some c) → ⊥
uncontrolled_one c says = let e : None ≡ Some says.0 = says.1 in none-some _ e

pub no_other_state : IsStateOf 0 empty_state (directory one_file) → ⊥
no_other_state h = by (the_state one_file (tt, tt) 0 empty_state uncontrolled_one h) where
  by : (records : List Placed) × IsJoined (file_of (codes "activemq-data-1.amq") with_hi ∷ []) records × (fault one_file None 0 ≡ None) × (empty_state ≡ result_of records) → ⊥
  by (records, (spots, scan, rest, others, is), sound, state) =
      let same : hi_at 16 ∷ [] ≡ spots = same_scan with_hi 1 2 16 (hi_at 16 ∷ []) spots (omega arith) hi_is_found scan in
      let all : records ≡ one_loaded.base = is ∙ ap (λ (l : List Spot). map (placed 1) l ++ rest) (sym same) ∙ ap (λ (l : List Placed). placed 1 (hi_at 16) ∷ l) others in
      unequal 0 1 tt (ap (λ (s : LoadState). length s.live) (state ∙ ap result_of all))

pub a_faulty_directory_has_none : (state : LoadState) → IsStateOf 0 state (directory of_version_3) → ⊥
a_faulty_directory_has_none state h = none-some _ (sym (the_state of_version_3 (tt, tt) 0 state (λ c says. let e : None ≡ Some says.0 = says.1 in none-some _ e) h).2)

pub with_a_control_file_no_state : (wanted : ℕ) (state : LoadState) → IsStateOf wanted state (directory controlled) → ⊥
with_a_control_file_no_state wanted state h = there_is_one h.image h.reading h.uncontrolled
