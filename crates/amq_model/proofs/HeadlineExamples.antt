-- The headline's words, of one file that a crash tore and of one that holds no record.
use Rattle.std.proofs.Common.{◌≡◌, inl, inr, ⊎_elim, ℕ, zero, suc, ◌+◌, ◌-◌, ◌≤◌, ◌%◌, ◌^◌, cond, List, [], ◌∷◌, ◌++◌, length, take, drop, map, slice_index, slice_get, Option, Some, None, IfSome, All, Contains, unwrap_or, codes, refl, sym, ap, subst, ◌∙◌, arith}
use Rattle.std.specs.FinMap as finite
use Rattle.std.proofs.lemmas.Bool.{cases_lt}
use Rattle.std.proofs.lemmas.List.{ext_get_or, drop-drop, append-nil}
use Rattle.amq_model.specs.declared.record.Record.{Record}
use Rattle.amq_model.specs.declared.record.Record.TheVariants.{Add, Update, AddTx, UpdateTx, DeleteTx, Delete, Prepare, Commit, Rollback}
use Rattle.amq_model.specs.declared.record.Placed.{Placed}
use Rattle.amq_model.specs.declared.directory.Control.{Control}
use Rattle.amq_model.specs.declared.state.LoadState.{LoadState}
use Rattle.amq_model.specs.RecordAt.{Spot, RecordAt, NoneAt, long, word, kind_of}
use Rattle.amq_model.specs.Scan.{IsScan, IsScanFrom}
use Rattle.amq_model.specs.Effect.{result_of, live, open_changes}
use Rattle.amq_model.specs.Directory.{FileOf, Listing, file_of, SaysControl, Loads, IsJoined, data_files, placed}
use Rattle.amq_model.specs.Files.{FileName, Files, Image, IsTorn, IsFileImage, IsImage, pended}
use Rattle.amq_model.specs.Calls.{Past, listing, fine, noted, undone}
use Rattle.amq_model.specs.Crash.{IsFoundIn, NoFalseRecord, MayLeave}
use Rattle.amq_model.specs.Kept.{IsKept, IsPart, IsWhole, closing_tx}
use Rattle.amq_model.specs.Leaves.{IsLeftNow, LeavesNothingNew, LeftSince}
use Rattle.amq_model.specs.Headline.{LoadsKept, RecoversSince}
use Rattle.amq_model.specs.Names.{control_name}
use Rattle.amq_model.proofs.Literals.{are_bytes, unequal, read_at, at_least, none_behind}
use Rattle.amq_model.proofs.Lookups.{same_other}
use Rattle.amq_model.proofs.Alone.{IsHeader, alone, one_loads}
use Rattle.amq_model.proofs.Scans.{header, adds, broken, second, second_stands, none_before, behind_a_broken_record, stopped_short, a_fault_loads_nothing}
use Rattle.amq_model.proofs.Crashes.{a, file, one, has_one, is_image, is_reading, at_name, durable, two, failed_write, not_written, only_the_first}

-- ---- a directory of one file

abbrev name : FileName
name = codes "activemq-data-1.amq"

entries_of : (bytes : List ℕ) → finite.entries (one name bytes) ≡ (name, bytes) ∷ []
entries_of bytes = alone name bytes (one name bytes) (has_one name bytes name) (λ q ne. has_one name bytes q ∙ ap (λ b. cond b (Some bytes) None) (same_other q name ne))

-- what is asked of each data file is asked of the one
of_the_one : (bytes : List ℕ) (P : FileOf → Type 0) → data_files ((name, bytes) ∷ []) None ≡ file_of name bytes ∷ [] → P (file_of name bytes)
    → (control : Option Control) → SaysControl (finite.entries (one name bytes)) control → All P (data_files (finite.entries (one name bytes)) control)
of_the_one bytes P files has control says = subst (λ (l : Listing). All P (data_files l control)) (sym (entries_of bytes)) (by control (subst (λ (l : Listing). SaysControl l control) (entries_of bytes) says)) where
  single : All P (file_of name bytes ∷ [])
  single zero d low = has
  single (suc k) d low = absurd (omega arith)

  by : (control : Option Control) → SaysControl ((name, bytes) ∷ []) control → All P (data_files ((name, bytes) ∷ []) control)
  by None says = subst (All P) (sym files) single
  by (Some c) (found, there, more) = absurd cc

uncontrolled : (bytes : List ℕ) → SaysControl ((name, bytes) ∷ []) None
uncontrolled bytes found c there = absurd cc

unnamed : (bytes : List ℕ) → finite.get (one name bytes) control_name ≡ None
unnamed bytes = has_one name bytes control_name

-- it is the one file that the image has
of_one : (bytes found : List ℕ) → finite.get (one name bytes) name ≡ Some found → found ≡ bytes
of_one bytes found is = let e : Some found ≡ Some bytes = sym is ∙ has_one name bytes name in cc

-- ---- no false record

abbrev first : Spot
first = record { place = 16; len = 25; compact = 0; rec = Add 1 7 (0x68 ∷ 0x69 ∷ []) }

-- both records of the file
abbrev both : List ℕ
both = adds 0x19

first_stands : RecordAt both 1 2 first
unfolding long word
first_stands = record {
  values = (omega arith, omega arith, record { short = omega arith; bytes = are_bytes (0x68 ∷ 0x69 ∷ []) tt });
  compact = (omega arith, λ e. refl);
  len = refl;
  within = omega arith;
  spelled = refl;
}

-- from the second record on both files have the same bytes
same_from : (n : ℕ) → 41 ≤ n → drop n both ≡ drop n broken
same_from n low = let e : n ≡ 41 + (n - 41) = omega arith in ap (λ k. drop k both) e ∙ sym (drop-drop (n - 41) 41 both) ∙ drop-drop (n - 41) 41 broken ∙ ap (λ k. drop k broken) (sym e)

same_record : (s : Spot) → 41 ≤ s.place → RecordAt broken 1 2 s → RecordAt both 1 2 s
same_record s low found = record { values = found.values; compact = found.compact; len = found.len; within = found.within; spelled = ap (take s.len) (same_from s.place low) ∙ found.spelled }

back : (s : Spot) → 41 ≤ s.place → RecordAt both 1 2 s → RecordAt broken 1 2 s
back s low found = record { values = found.values; compact = found.compact; len = found.len; within = found.within; spelled = ap (take s.len) (sym (same_from s.place low)) ∙ found.spelled }

none_there : (p : ℕ) → 41 ≤ p → NoneAt broken 1 2 p → NoneAt both 1 2 p
none_there p low none s is found = none s is (back s (omega (arith, is)) found)

scan_behind : (from : ℕ) (ss : List Spot) → 41 ≤ from → IsScanFrom broken 1 2 from ss → IsScanFrom both 1 2 from ss
scan_behind from [] low scan = λ p le. none_there p (omega (arith, low, le)) (scan p le)
scan_behind from (s ∷ ss) low scan = (
  scan.0,
  λ p le lt. none_there p (omega (arith, low, le)) (scan.1 p le lt),
  same_record s (omega (arith, low, scan.0)) scan.2,
  scan_behind (s.place + s.len) ss (omega (arith, low, scan.0)) scan.3,
)

-- none of the torn file's records stands before the second one
from_second : (ss : List Spot) → IsScan broken 1 2 ss → IsScanFrom broken 1 2 41 ss
from_second [] scan = λ p le. scan p (omega (arith, le))
from_second (s ∷ ss) scan = (
  ⊎_elim (λ e. absurd (none_before s.place scan.0 e s refl scan.2)) (λ e. e) (cases_lt s.place 41),
  λ p le lt. scan.1 p (omega (arith, le)) lt,
  scan.2,
  scan.3,
)

found_further : (f : Spot → Placed) (x : Spot) (ss : List Spot) (p : Placed) → Contains (map f ss) p → Contains (map f (x ∷ ss)) p
found_further f x ss p (i, low, is) = (suc i, omega (arith, low), is)

all_found : (f : Spot → Placed) (ss : List Spot) → All (λ s. Contains (map f ss) (f s)) ss
all_found f [] i d low = absurd (omega (arith, low))
all_found f (s ∷ ss) zero d low = (0, omega arith, refl)
all_found f (s ∷ ss) (suc i) d low = found_further f s ss _ (all_found f ss i d (omega (arith, low)))

-- The first record was torn, and the second is left: it is found where the reading has it.
pub none_is_false : NoFalseRecord (one name both) (one name broken)
none_is_false = of_the_one broken (λ f. (spots : List Spot) → IsScan f.bytes (f.id % 2 ^ 31) f.version spots → All (IsFoundIn (one name both) f) spots) refl found where
  found : (spots : List Spot) → IsScan broken 1 2 spots → All (IsFoundIn (one name both) (file_of name broken)) spots
  found spots scan i d low = record {
    bytes = both;
    there = has_one name both name;
    spots = first ∷ spots;
    scan = (omega arith, λ p le lt. absurd (omega (arith, le, lt)), first_stands, scan_behind 41 spots (omega arith) (from_second spots scan));
    found = found_further (placed 1) first spots _ (all_found (placed 1) spots i d low);
  }

-- A record that the reading hasn't is a false one: a header alone was there.
pub one_is_false : NoFalseRecord (one name (header 2 1)) (one name broken) → ⊥
one_is_false h = by (h None (subst (λ (l : Listing). SaysControl l None) (sym (entries_of broken)) (uncontrolled broken))) where
  Each : FileOf → Type 0
  Each f = (spots : List Spot) → IsScan f.bytes (f.id % 2 ^ 31) f.version spots → All (IsFoundIn (one name (header 2 1)) f) spots

  never : IsFoundIn (one name (header 2 1)) (file_of name broken) second → ⊥
  never found = by found.bytes (of_one (header 2 1) found.bytes found.there) found.spots found.scan found.found where
    by : (bytes : List ℕ) → bytes ≡ header 2 1 → (spots : List Spot) → IsScan bytes ((file_of name bytes).id % 2 ^ 31) (file_of name bytes).version spots → Contains (map (placed (file_of name bytes).id) spots) (placed 1 second) → ⊥
    by bytes is = subst (λ (bytes : List ℕ). (spots : List Spot) → IsScan bytes ((file_of name bytes).id % 2 ^ 31) (file_of name bytes).version spots → Contains (map (placed (file_of name bytes).id) spots) (placed 1 second) → ⊥) (sym is) here where
      here : (spots : List Spot) → IsScan (header 2 1) 1 2 spots → Contains (map (placed 1) spots) (placed 1 second) → ⊥
      here [] scan (i, low, at) = omega (arith, low)
      here (s ∷ ss) scan contains = none_behind (header 2 1) 1 s.place scan.0 s refl scan.2

  by : All Each (data_files (finite.entries (one name broken)) None) → ⊥
  by all = never ((subst (λ (l : Listing). All Each (data_files l None)) (entries_of broken) all) 0 (file_of name broken) (omega arith) (second ∷ []) behind_a_broken_record 0 second (omega arith))

-- the file with the first record alone, and with another body in it
abbrev alone_at_16 : List ℕ → List ℕ
alone_at_16 body = header 2 1 ++ 0x0b ∷ 0 ∷ 0 ∷ 0 ∷ 1 ∷ 0 ∷ 0 ∷ 0 ∷ 0 ∷ 0 ∷ 0 ∷ 0 ∷ 0 ∷ 1 ∷ 0 ∷ 0 ∷ 0 ∷ 2 ∷ 7 ∷ body ++ 0 ∷ 0 ∷ 0 ∷ 0x19 ∷ []

abbrev other : Spot
other = record { place = 16; len = 25; compact = 0; rec = Add 1 7 (0x68 ∷ 0 ∷ []) }

other_stands : RecordAt (alone_at_16 (0x68 ∷ 0 ∷ [])) 1 2 other
unfolding long word
other_stands = record {
  values = (omega arith, omega arith, record { short = omega arith; bytes = are_bytes (0x68 ∷ 0 ∷ []) tt });
  compact = (omega arith, λ e. refl);
  len = refl;
  within = omega arith;
  spelled = refl;
}

other_scan : IsScan (alone_at_16 (0x68 ∷ 0 ∷ [])) 1 2 (other ∷ [])
other_scan = (omega arith, λ p le lt. absurd (omega (arith, le, lt)), other_stands, λ p low. none_behind (alone_at_16 (0x68 ∷ 0 ∷ [])) 1 p low)

-- a placed record of a scan stands in the file
stands : (bytes : List ℕ) (from : ℕ) (ss : List Spot) (p : Placed) → IsScanFrom bytes 1 2 from ss → Contains (map (placed 1) ss) p → (s : Spot) × RecordAt bytes 1 2 s × (placed 1 s ≡ p)
stands bytes from [] p scan (i, low, is) = absurd (omega (arith, low))
stands bytes from (s ∷ ss) p scan (zero, low, is) = (s, scan.2, is)
stands bytes from (s ∷ ss) p scan (suc i, low, is) = stands bytes (s.place + s.len) ss p scan.3 (i, omega (arith, low), is)

its_body : (len : ℕ) → RecordAt (alone_at_16 (0x68 ∷ 0x69 ∷ [])) 1 2 (record { place = 16; len = len; compact = 0; rec = Add 1 7 (0x68 ∷ 0 ∷ []) }) → ⊥
unfolding long word
its_body len found = let size = found.len in unequal 0x69 0 tt (read_at (alone_at_16 (0x68 ∷ 0x69 ∷ [])) 1 _ 20 (omega arith) found)

not_other : (s : Spot) → RecordAt (alone_at_16 (0x68 ∷ 0x69 ∷ [])) 1 2 s → placed 1 s ≡ placed 1 other → ⊥
not_other s found is = by s.place s.len s.compact s.rec found (ap (λ p. p.place) is) (ap (λ p. p.compact) is) (ap (λ p. p.rec) is) where
  by : (place len compact : ℕ) (rec : Record) → RecordAt (alone_at_16 (0x68 ∷ 0x69 ∷ [])) 1 2 (record { place = place; len = len; compact = compact; rec = rec }) → place ≡ 16 → compact ≡ 0 → rec ≡ other.rec → ⊥
  by place len compact rec found at count says =
      let Found : ℕ → ℕ → Record → Type 0 = λ p c r. RecordAt (alone_at_16 (0x68 ∷ 0x69 ∷ [])) 1 2 (record { place = p; len = len; compact = c; rec = r }) in
      its_body len (subst (λ r. Found 16 0 r) says (subst (λ c. Found 16 c rec) count (subst (λ p. Found p compact rec) at found)))

-- So is a record of the same place with another body: its middle was lost.
pub another_body : NoFalseRecord (one name (alone_at_16 (0x68 ∷ 0x69 ∷ []))) (one name (alone_at_16 (0x68 ∷ 0 ∷ []))) → ⊥
another_body h = by (h None (subst (λ (l : Listing). SaysControl l None) (sym (entries_of torn)) (uncontrolled torn))) where
  torn : List ℕ
  torn = alone_at_16 (0x68 ∷ 0 ∷ [])

  Each : FileOf → Type 0
  Each f = (spots : List Spot) → IsScan f.bytes (f.id % 2 ^ 31) f.version spots → All (IsFoundIn (one name (alone_at_16 (0x68 ∷ 0x69 ∷ []))) f) spots

  never : IsFoundIn (one name (alone_at_16 (0x68 ∷ 0x69 ∷ []))) (file_of name (alone_at_16 (0x68 ∷ 0 ∷ []))) other → ⊥
  never found = by found.bytes (of_one (alone_at_16 (0x68 ∷ 0x69 ∷ [])) found.bytes found.there) found.spots found.scan found.found where
    Never : List ℕ → Type 0
    Never bytes = (spots : List Spot) → IsScan bytes ((file_of name bytes).id % 2 ^ 31) (file_of name bytes).version spots → Contains (map (placed (file_of name bytes).id) spots) (placed 1 other) → ⊥

    by : (bytes : List ℕ) → bytes ≡ alone_at_16 (0x68 ∷ 0x69 ∷ []) → Never bytes
    by bytes is = subst Never (sym is) (λ spots scan contains. let s = stands (alone_at_16 (0x68 ∷ 0x69 ∷ [])) 16 spots (placed 1 other) scan contains in not_other s.0 s.1 s.2)

  by : All Each (data_files (finite.entries (one name torn)) None) → ⊥
  by all = never ((subst (λ (l : Listing). All Each (data_files l None)) (entries_of torn) all) 0 (file_of name torn) (omega arith) (other ∷ []) other_scan 0 other (omega arith))

-- ---- what loads to a kept part

abbrev at : ℕ → Record → Placed
at place rec = record { file = 1; place = place; compact = 0; rec = rec }

-- the history of the file with both records
abbrev history : List Placed
history = at 16 (Add 1 7 (0x68 ∷ 0x69 ∷ [])) ∷ at 41 (Add 2 7 (0x79 ∷ 0x6f ∷ [])) ∷ []

abbrev kept_second : List Placed
kept_second = at 41 (Add 2 7 (0x79 ∷ 0x6f ∷ [])) ∷ []

second_is_kept : IsKept [] history 0 kept_second
second_is_kept = record { rest = kept_second; counted = omega arith; front = refl; some = inr (inl (refl, tt)); whole = whole } where
  whole : IsWhole [] history kept_second
  whole zero h p = λ e f s. subst (λ (q : Placed). IfSome (closing_tx q.rec) (λ tx. All (Contains kept_second) (open_changes tx (take h history)))) (ap (λ o. unwrap_or o (at 41 (Add 2 7 (0x79 ∷ 0x6f ∷ [])))) e) tt
  whole (suc k) h p = λ e f s. absurd cc

nothing_is_kept : (durable : ℕ) → (all : List Placed) → durable ≤ length all → take durable all ≡ [] → IsKept [] all durable []
nothing_is_kept durable all few none = record { rest = []; counted = few; front = sym none ∙ sym (append-nil (take durable all)); some = tt; whole = λ k h p e f s. absurd (by k p e) } where
  by : (k : ℕ) (p : Placed) → slice_get [] k ≡ Some p → ⊥
  by zero p e = cc
  by (suc k) p e = cc

is_header : IsHeader (header 2 1) 1 0
is_header = record { size = refl; version = refl; user_version = refl; id = refl; low = refl }

loads_alone : (bytes : List ℕ) (spots : List Spot) → take 16 bytes ≡ header 2 1 → length bytes ≤ 268435456 → IsScan bytes 1 2 spots → Loads (finite.entries (one name bytes)) 0 (result_of (map (placed 1) spots))
loads_alone bytes spots front short scan = subst (λ (l : Listing). Loads l 0 (result_of (map (placed 1) spots))) (sym (entries_of bytes)) (one_loads name (header 2 1) bytes 1 0 spots refl refl is_header front short scan)

-- the first record is lost, the second one is left
pub a_later_one_is_kept : LoadsKept [] history 0 0 (one name broken)
a_later_one_is_kept = record { kept = kept_second; is = second_is_kept; uncontrolled = unnamed broken; loads = loads_alone broken (second ∷ []) refl (omega arith) behind_a_broken_record }

-- nothing is left, of a history of which nothing was durable
pub nothing_needs_to_be_kept : LoadsKept [] history 0 0 (one name (header 2 1))
nothing_needs_to_be_kept = record { kept = []; is = nothing_is_kept 0 history (omega arith) refl; uncontrolled = unnamed (header 2 1); loads = loads_alone (header 2 1) [] refl (omega arith) (λ p low. none_behind (header 2 1) 1 p low) }

-- a receipt doesn't count more than there is
pub more_than_there_is : LoadsKept [] [] 5 0 (one name (header 2 1)) → ⊥
more_than_there_is l = absurd (omega (arith, l.is.counted))

-- a directory with a control file isn't one that loads so
pub a_control_file_is_not_kept : (bytes : List ℕ) (base all : List Placed) (durable : ℕ) → LoadsKept base all durable 0 (one control_name bytes) → ⊥
a_control_file_is_not_kept bytes base all durable h = let e : Some bytes ≡ None = sym (has_one control_name bytes control_name) ∙ h.uncontrolled in absurd cc

-- a file with another version has a fault
pub a_fault_is_not_kept : (base all : List Placed) (durable : ℕ) → LoadsKept base all durable 0 (one name (header 3 1)) → ⊥
a_fault_is_not_kept base all durable h = a_fault_loads_nothing (result_of (base ++ h.kept)) (subst (λ (l : Listing). Loads l 0 (result_of (base ++ h.kept))) (entries_of (header 3 1)) h.loads)

-- what a header alone loads to
header_loads : (state : LoadState) → Loads ((name, header 2 1) ∷ []) 0 state → state.live ≡ []
header_loads state h = by h.control h.read.says h.read.joined where
  by : (control : Option Control) → SaysControl ((name, header 2 1) ∷ []) control → IsJoined (data_files ((name, header 2 1) ∷ []) control) h.records → state.live ≡ []
  by None says ([], scan, rest, is_rest, is) = ap (λ s. s.live) h.is ∙ ap live (is ∙ is_rest)
  by None says (s ∷ ss, scan, rest, is_rest, is) = absurd (none_behind (header 2 1) 1 s.place scan.0 s refl scan.2)
  by (Some c) (bytes, there, more) joined = absurd cc

-- A lost durable record isn't allowed.
pub a_lost_durable_record : LoadsKept [] (take 1 history) 1 0 (one name (header 2 1)) → ⊥
a_lost_durable_record h = by h.is.rest h.is.some h.is.front where
  none : live h.kept ≡ []
  none = header_loads (result_of h.kept) (subst (λ (l : Listing). Loads l 0 (result_of h.kept)) (entries_of (header 2 1)) h.loads)

  by : (rest : List Placed) → IsPart rest [] → h.kept ≡ take 1 history ++ rest → ⊥
  by [] some front = let e : ◌≡◌ {A = ℕ} 1 0 = ap (λ l. length (live l)) (sym front) ∙ ap length none in omega arith
  by (x ∷ xs) some front = some

-- the torn file's one record is an add
adds_one : (s : Spot) → s.place ≡ 41 → RecordAt broken 1 2 s → length (live (placed 1 s ∷ [])) ≡ 1
adds_one s is found = by s.rec (let size = at_least s.rec in let len = found.len in ap (λ p. slice_index broken (p + 0)) (sym is) ∙ read_at broken 1 s 0 (omega arith) found) where
  by : (rec : Record) → 11 ≡ kind_of rec → length (live (record { file = 1; place = s.place; compact = s.compact; rec = rec } ∷ [])) ≡ 1
  by (Add id user_type body) kind = refl
  by (Update id user_type body) kind = refl
  by (AddTx tx id user_type body) kind = absurd (unequal 11 13 tt kind)
  by (UpdateTx tx id user_type body) kind = absurd (unequal 11 14 tt kind)
  by (DeleteTx tx id body) kind = absurd (unequal 11 15 tt kind)
  by (Delete id) kind = absurd (unequal 11 16 tt kind)
  by (Prepare tx count extra) kind = absurd (unequal 11 17 tt kind)
  by (Commit tx count) kind = absurd (unequal 11 18 tt kind)
  by (Rollback tx) kind = absurd (unequal 11 19 tt kind)

one_stands : (spots : List Spot) → IsScan broken 1 2 spots → length (live (map (placed 1) spots)) ≡ 1
one_stands [] scan = absurd (stopped_short scan)
one_stands (s ∷ []) scan = adds_one s (⊎_elim
    (λ e. absurd (none_before s.place scan.0 e s refl scan.2))
    (λ e. ⊎_elim (λ lt. absurd (scan.1 41 (omega arith) lt second refl second_stands)) (λ le. omega (arith, e, le)) (cases_lt 41 s.place))
    (cases_lt s.place 41)) scan.2
one_stands (s ∷ t ∷ ts) scan = absurd (⊎_elim
    (λ e. none_before s.place scan.0 e s refl scan.2)
    (λ e. omega (arith, e, at_least s.rec, scan.2.len, scan.3.0, at_least t.rec, scan.3.2.len, scan.3.2.within))
    (cases_lt s.place 41))

-- what the torn file loads to
broken_loads : (state : LoadState) → Loads ((name, broken) ∷ []) 0 state → length state.live ≡ 1
broken_loads state h = by h.control h.read.says h.read.joined where
  by : (control : Option Control) → SaysControl ((name, broken) ∷ []) control → IsJoined (data_files ((name, broken) ∷ []) control) h.records → length state.live ≡ 1
  by None says (spots, scan, rest, is_rest, is) = ap (λ s. length s.live) h.is ∙ ap (λ l. length (live l)) (is ∙ ap (λ l. map (placed 1) spots ++ l) is_rest ∙ append-nil (map (placed 1) spots)) ∙ one_stands spots scan
  by (Some c) (bytes, there, more) joined = absurd cc

-- Nor is a record that wasn't written: the history has none.
pub an_unwritten_record : LoadsKept [] [] 0 0 (one name broken) → ⊥
an_unwritten_record h = by h.is.rest h.is.some h.is.front where
  one_live : length (live h.kept) ≡ 1
  one_live = broken_loads (result_of h.kept) (subst (λ (l : Listing). Loads l 0 (result_of h.kept)) (entries_of broken) h.loads)

  by : (rest : List Placed) → IsPart rest [] → h.kept ≡ rest → ⊥
  by [] some front = let e : ◌≡◌ {A = ℕ} 0 1 = ap (λ l. length (live l)) (sym front) ∙ one_live in omega arith
  by (x ∷ xs) some front = some

-- nor the second record without the first one, where both are durable
pub a_hole_in_what_is_durable : LoadsKept [] history 2 0 (one name broken) → ⊥
a_hole_in_what_is_durable h = by h.is.rest h.is.some h.is.front where
  one_live : length (live h.kept) ≡ 1
  one_live = broken_loads (result_of h.kept) (subst (λ (l : Listing). Loads l 0 (result_of h.kept)) (entries_of broken) h.loads)

  by : (rest : List Placed) → IsPart rest [] → h.kept ≡ history ++ rest → ⊥
  by [] some front = let e : ◌≡◌ {A = ℕ} 2 1 = ap (λ l. length (live l)) (sym front) ∙ one_live in omega arith
  by (x ∷ xs) some front = some

-- ---- what a crash may leave now

abbrev quiet : Past
quiet = record { start = two; calls = []; moment = 0 }

-- a list that answered leaves nothing new
pub after_a_list : LeavesNothingNew (Some quiet) (Some (noted listing fine quiet))
after_a_list image left = (left.0, left.1.2.0 ∙ left.1.1, left.2)

-- a write that failed does: another byte in its range
pub left_by_a_failed_write : IsLeftNow failed_write (one a (9 ∷ 2 ∷ []))
left_by_a_failed_write = (pended a 0 1 two, (two, refl, (undone, λ synced. refl, refl)), is_image (pended a 0 1 two) a _ _ not_written (only_the_first 9 (omega arith)))

pub not_left_before : IsLeftNow quiet (one a (9 ∷ 2 ∷ [])) → ⊥
not_left_before (s, reads, left) =
    let torn : IsTorn [] (1 ∷ 2 ∷ []) (9 ∷ 2 ∷ []) = at_name s (one a (9 ∷ 2 ∷ [])) a (Some (file (1 ∷ 2 ∷ []) [])) (Some (9 ∷ 2 ∷ [])) (ap (λ m. finite.get m a) reads ∙ has_one a _ a) (has_one a _ a) left in
    unequal 9 1 tt (torn.same 0 (omega arith) (λ p. p))

pub after_a_failed_write : LeavesNothingNew (Some quiet) (Some failed_write) → ⊥
after_a_failed_write h = not_left_before (h (one a (9 ∷ 2 ∷ [])) left_by_a_failed_write)

-- a disk that told its content goes on to tell it
pub no_longer_told : LeavesNothingNew (Some quiet) None → ⊥
no_longer_told h = h

-- ---- since a moment

-- a file with a header alone, all of it durable
abbrev begun : Past
begun = record { start = one name (file (header 2 1) []); calls = []; moment = 0 }

-- nothing is claimed of a moment that hasn't been
pub since_a_later_moment : (Q : Image → Image → Type 0) → LeftSince (Some begun) 1 Q → ⊥
since_a_later_moment Q h = let e = h.earlier in omega arith

no_record_is_false : (reading : Image) → NoFalseRecord reading (one name (header 2 1))
no_record_is_false reading = of_the_one (header 2 1) (λ f. (spots : List Spot) → IsScan f.bytes (f.id % 2 ^ 31) f.version spots → All (IsFoundIn reading f) spots) refl found where
  found : (spots : List Spot) → IsScan (header 2 1) 1 2 spots → All (IsFoundIn reading (file_of name (header 2 1))) spots
  found [] scan i d low = absurd (omega (arith, low))
  found (s ∷ ss) scan i d low = absurd (none_behind (header 2 1) 1 s.place scan.0 s refl scan.2)

-- what a crash leaves of it has no other file
left_alone_others : (image : Image) → IsImage begun.start image → (q : FileName) → finite.get begun.start q ≡ None → finite.get image q ≡ None
left_alone_others image left q none = absent (finite.get image q) (at_name begun.start image q None (finite.get image q) none refl left) where
  absent : (found : Option (List ℕ)) → IsFileImage None found → found ≡ None
  absent None is = refl
  absent (Some bytes) is = absurd is

-- it is that file
left_alone : (image : Image) → IsImage begun.start image → finite.entries image ≡ (name, header 2 1) ∷ []
left_alone image left = by (finite.get image name) refl (at_name begun.start image name (Some (file (header 2 1) [])) (finite.get image name) (has_one name _ name) refl left) where
  by : (found : Option (List ℕ)) → finite.get image name ≡ found → IsFileImage (Some (file (header 2 1) [])) found → finite.entries image ≡ (name, header 2 1) ∷ []
  by None there is = absurd is
  by (Some bytes) there torn =
      let same : bytes ≡ header 2 1 = ext_get_or 0 bytes (header 2 1) torn.len (λ i low. torn.same i (omega (arith, low, torn.len)) (λ p. p)) in
      alone name (header 2 1) image (there ∙ ap (λ b. Some b) same) (λ q ne. left_alone_others image left q (has_one name _ q ∙ ap (λ b. cond b (Some (file (header 2 1) [])) None) (same_other q name ne)))

-- It recovers as long as no record is durable,
pub recovers : RecoversSince (Some begun) 0 0 [] (take 1 history) 0
recovers = record { earlier = omega arith; each = each } where
  each : (reading image : Image) → MayLeave (Some begun) 0 reading image → NoFalseRecord reading image → LoadsKept [] (take 1 history) 0 0 image
  each reading image (s, since, read, left) none_false = record {
    kept = [];
    is = nothing_is_kept 0 (take 1 history) (omega arith) refl;
    uncontrolled = left_alone_others image (subst (λ (s : Files). IsImage s image) since.1 left) control_name (has_one name _ control_name);
    loads = subst (λ (l : Listing). Loads l 0 (result_of [])) (sym (left_alone image (subst (λ (s : Files). IsImage s image) since.1 left))) (one_loads name (header 2 1) (header 2 1) 1 0 [] refl refl is_header refl (omega arith) (λ p low. none_behind (header 2 1) 1 p low));
  }

-- and no longer once one is.
pub recovers_no_more : RecoversSince (Some begun) 0 0 [] (take 1 history) 1 → ⊥
recovers_no_more h =
    let s : Files = begun.start in
    a_lost_durable_record (h.each (one name (header 2 1)) (one name (header 2 1)) (s, (omega arith, refl), is_reading s name _ (has_one name _), is_image s name _ _ (has_one name _) (durable (header 2 1) (are_bytes (header 2 1) tt))) (no_record_is_false (one name (header 2 1))))
