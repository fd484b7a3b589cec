-- The calls of loads, and records in files, computed.
use Rattle.std.proofs.Common.{◌≡◌, inr, ℕ, ◌+◌, ◌≤◌, zero, suc, true, false, List, [], ◌∷◌, ◌++◌, length, map, Contains, replicate, codes, Some, refl, sym, ap, subst, ◌∙◌, arith}
use Rattle.std.specs.Prelude.{Ok, Err, slice_index}
use Rattle.std.specs.FinMap as finite
use Rattle.std.specs.Ordering.{nat_cmp}
use Rattle.std.specs.Cmp.Lexicographic.{slice_cmp}
use Rattle.std.proofs.lemmas.Option.{same_Some}
use Rattle.std.proofs.lemmas.List.{length-append}
use Rattle.std.proofs.lemmas.List.Elements.{All-nil, All-cons}
use Rattle.amq_model.specs.declared.record.Record.TheVariants.{Delete}
use Rattle.amq_model.specs.declared.record.Placed.{Placed}
use Rattle.amq_model.specs.declared.directory.DataFile.{DataFile}
use Rattle.amq_model.specs.declared.directory.DirFault.{DirFault}
use Rattle.amq_model.specs.declared.directory.DirFault.TheVariants.{TooLong, Version, TwoFiles}
use Rattle.amq_model.specs.RecordAt.{whole_len}
use Rattle.amq_model.specs.Records.{IsBefore}
use Rattle.amq_model.specs.Files.{FileName, File, Files}
use Rattle.amq_model.specs.Calls.{Call, Event, Past, listing, reading, fine}
use Rattle.amq_model.proofs.Literals.{unequal}
use Rattle.amq_model.specs.LoadCalls.{calls_of, AreCalls, AreFirstCalls, AreCallsBy, Makes, MakesUntil, is_read, names_among, load_calls, AreReadUntil}
use Rattle.amq_model.specs.InFiles.{IsInFile, IsInOne, EndsBefore, AreInFiles}

-- ---- which files are read

pub a_header_alone_is_read : is_read (codes "activemq-data-1.amq") 16 ≡ true
a_header_alone_is_read = refl

pub too_short_for_a_header : is_read (codes "activemq-data-1.amq") 15 ≡ false
too_short_for_a_header = refl

pub the_greatest_length_is_read : is_read (codes "activemq-data-1.amq") 268435456 ≡ true
the_greatest_length_is_read = refl

pub a_longer_file_is_not : is_read (codes "activemq-data-1.amq") 268435457 ≡ false
a_longer_file_is_not = refl

pub a_compacted_file_is_not : is_read (codes "activemq-data-1.amq.cmp") 64 ≡ false
a_compacted_file_is_not = refl

pub a_temporary_file_is_not : is_read (codes "activemq-data-1.amq.tmp") 64 ≡ false
a_temporary_file_is_not = refl

pub notes_are_not : is_read (codes "notes.txt") 64 ≡ false
notes_are_not = refl

-- a file of so many bytes
abbrev blank : FileName → ℕ → FileName × File
blank name len = (name, record { bytes = replicate len 74; pending = [] })

-- two data files, one that is too short, and one of another name
abbrev entries : List (FileName × File)
entries = blank (codes "activemq-data-1.amq") 20 ∷ blank (codes "activemq-data-2.amq") 15 ∷ blank (codes "activemq-data-3.amq") 16 ∷ blank (codes "notes.txt") 20 ∷ []

abbrev directory : Files
directory = finite.from_sorted entries

pub two_are_read : load_calls directory ≡ listing ∷ reading (codes "activemq-data-1.amq") ∷ reading (codes "activemq-data-3.amq") ∷ []
two_are_read = ap (λ (es : List (FileName × File)). listing ∷ map reading (names_among (map (λ (e : FileName × File). (e.0, length e.1.bytes)) es))) (finite.entries-from_sorted (slice_cmp nat_cmp) entries tt)

-- ---- what is read until a fault

-- the second file is too long
abbrev long_second : List (FileName × ℕ)
long_second = (codes "activemq-data-1.amq", 20) ∷ (codes "activemq-data-2.amq", 268435457) ∷ (codes "activemq-data-3.amq", 16) ∷ []

abbrev too_long : DirFault
too_long = TooLong (codes "activemq-data-2.amq") 268435457

pub the_one_before_is_read : AreReadUntil too_long long_second (codes "activemq-data-1.amq" ∷ [])
the_one_before_is_read = record { before = (codes "activemq-data-1.amq", 20) ∷ []; len = 268435457; behind = (codes "activemq-data-3.amq", 16) ∷ []; split = refl; are = refl }

pub a_third_version_is_read : AreReadUntil (Version (codes "activemq-data-3.amq") 3) long_second (codes "activemq-data-1.amq" ∷ codes "activemq-data-3.amq" ∷ [])
a_third_version_is_read = record { before = (codes "activemq-data-1.amq", 20) ∷ (codes "activemq-data-2.amq", 268435457) ∷ []; len = 16; behind = []; split = refl; are = refl }

pub of_no_such_file : AreReadUntil (Version (codes "activemq-data-3.amq") 3) [] [] → ⊥
of_no_such_file h = by h.before h.split where
  by : (before : List (FileName × ℕ)) → [] ≡ before ++ (codes "activemq-data-3.amq", h.len) ∷ h.behind → ⊥
  by [] e = absurd (cc)
  by (f ∷ fs) e = absurd (cc)

pub all_are_read_of_two_files : AreReadUntil (TwoFiles 1 (codes "activemq-data-1.amq") (codes "activemq-data-3.amq")) long_second (codes "activemq-data-1.amq" ∷ codes "activemq-data-3.amq" ∷ [])
all_are_read_of_two_files = refl

pub not_the_first_alone : AreReadUntil (TwoFiles 1 (codes "activemq-data-1.amq") (codes "activemq-data-3.amq")) long_second (codes "activemq-data-1.amq" ∷ []) → ⊥
not_the_first_alone h = absurd (cc)

-- ---- calls in their order

abbrev event : Call → ℕ → Event
event call before = record { call = call; outcome = fine; before = before }

abbrev one : FileName
one = codes "activemq-data-1.amq"

abbrev two : FileName
two = codes "activemq-data-3.amq"

pub all_were_made : AreCalls (listing ∷ reading one ∷ reading two ∷ []) (event (reading two) 2 ∷ event (reading one) 1 ∷ event listing 0 ∷ [])
all_were_made = refl

pub in_another_order : AreCalls (listing ∷ reading one ∷ reading two ∷ []) (event listing 2 ∷ event (reading one) 1 ∷ event (reading two) 0 ∷ []) → ⊥
in_another_order h = absurd (cc)

pub one_was_made_twice : AreCalls (listing ∷ reading one ∷ []) (event (reading one) 2 ∷ event (reading one) 1 ∷ event listing 0 ∷ []) → ⊥
one_was_made_twice h = absurd (cc)

pub the_first_ones : AreFirstCalls (listing ∷ reading one ∷ reading two ∷ []) (event (reading one) 1 ∷ event listing 0 ∷ [])
the_first_ones = (reading two ∷ [], refl)

pub one_was_passed_over : AreFirstCalls (listing ∷ reading one ∷ reading two ∷ []) (event (reading two) 1 ∷ event listing 0 ∷ []) → ⊥
one_was_passed_over h = unequal 51 49 tt (ap digit_of_second h.1) where
  digit_of_second : List Call → ℕ
  digit_of_second (c ∷ reading name ∷ rest) = slice_index name 14
  digit_of_second _ = 0

pub where_it_stopped : AreCallsBy {T = ℕ} {E = ℕ} (Err 1) (listing ∷ reading one ∷ []) (event listing 0 ∷ [])
where_it_stopped = (reading one ∷ [], refl)

pub not_where_it_is_done : AreCallsBy {T = ℕ} {E = ℕ} (Ok 1) (listing ∷ reading one ∷ []) (event listing 0 ∷ []) → ⊥
not_where_it_is_done h = absurd (cc)

-- ---- what a disk was asked for

abbrev before : Past
before = record { start = directory; calls = event (reading one) 0 ∷ []; moment = 1 }

abbrev behind : Past
behind = record { start = directory; calls = event listing 1 ∷ event (reading one) 0 ∷ []; moment = 2 }

abbrev a_list : Files → List Event → Type 0
a_list s events = AreCalls (listing ∷ []) events

pub a_list_was_made : Makes a_list (Some before) (Some behind)
a_list_was_made = (behind, refl, record { events = event listing 1 ∷ []; start = refl; calls = refl; are = refl })

pub no_read_was_made : Makes (λ s events. AreCalls (reading one ∷ []) events) (Some before) (Some behind) → ⊥
no_read_was_made h = by h.2.events (ap calls (same_Some behind h.0 h.1) ∙ h.2.calls) h.2.are where
  calls : Past → List Event
  calls p = p.calls

  first : List Event → Call
  first [] = listing
  first (e ∷ es) = e.call

  head : List Call → Call
  head [] = listing
  head (c ∷ cs) = c

  by : (events : List Event) → behind.calls ≡ events ++ before.calls → calls_of events ≡ reading one ∷ [] → ⊥
  by [] e are = absurd (cc)
  by (x ∷ []) e are =
      let a : listing ≡ x.call = ap first e in
      let b : x.call ≡ reading one = ap head are in
      absurd (cc)
  by (x ∷ y ∷ es) e are = omega (arith, ap length e, length-append es before.calls)

-- ---- records in files

abbrev file : ℕ → ℕ → DataFile
file len version = record { name = one; id = 1; len = len; version = version }

-- a DELETE, of 18 bytes in version 2 and of 17 in version 1
abbrev at : ℕ → ℕ → Placed
at id place = record { file = id; place = place; compact = 0; rec = Delete 5 }

pub two_end_to_end : AreInFiles (file 52 2 ∷ []) (at 1 16 ∷ at 1 34 ∷ [])
two_end_to_end = record {
  order = (All-cons (IsBefore (at 1 16)) (at 1 34) [] (inr (refl, omega arith)) (All-nil (IsBefore (at 1 16))), (All-nil (IsBefore (at 1 34)), tt));
  each = All-cons (IsInOne files) (at 1 16) (at 1 34 ∷ []) (stands 16 (omega arith) (omega arith)) (All-cons (IsInOne files) (at 1 34) [] (stands 34 (omega arith) (omega arith)) (All-nil (IsInOne files)));
  apart = (All-cons (EndsBefore files (at 1 16)) (at 1 34) [] (λ same. (file 52 2, (0, omega arith, refl), refl, omega arith)) (All-nil (EndsBefore files (at 1 16))), (All-nil (EndsBefore files (at 1 34)), tt));
} where
  files : List DataFile
  files = file 52 2 ∷ []

  stands : (place : ℕ) → 16 ≤ place → place + 18 ≤ 52 → IsInOne files (at 1 place)
  stands place low high = (file 52 2, (0, omega arith, refl), record { id = refl; behind = low; within = high })

pub one_byte_behind_the_end : IsInFile (at 1 34) (file 51 2) → ⊥
one_byte_behind_the_end h = omega (arith, h.within)

pub shorter_in_version_1 : IsInFile (at 1 34) (file 51 1)
shorter_in_version_1 = record { id = refl; behind = omega arith; within = omega arith }

pub within_the_header : IsInFile (at 1 15) (file 52 2) → ⊥
within_the_header h = omega (arith, h.behind)

pub in_another_file : IsInFile (at 2 16) (file 52 2) → ⊥
in_another_file h = omega (arith, h.id)

pub one_byte_over_another : EndsBefore (file 52 2 ∷ []) (at 1 16) (at 1 33) → ⊥
one_byte_over_another h = by (h refl) where
  by : (f : DataFile) × Contains (file 52 2 ∷ []) f × (f.id ≡ 1) × (16 + whole_len f.version (Delete 5) ≤ 33) → ⊥
  by e = versioned e.0.version (version_of e.0 e.1) e.3 where
    version_of : (f : DataFile) → Contains (file 52 2 ∷ []) f → f.version ≡ 2
    version_of f (zero, low, is) = sym (ap (λ (f : DataFile). f.version) is)
    version_of f (suc k, low, is) = absurd (omega (arith, low))

    versioned : (v : ℕ) → v ≡ 2 → 16 + whole_len v (Delete 5) ≤ 33 → ⊥
    versioned v is h = let P : ℕ → Type 0 = λ v. 16 + whole_len v (Delete 5) ≤ 33 in omega (arith, subst P is h)

pub in_two_files_they_are_apart : EndsBefore (file 52 2 ∷ []) (at 1 16) (at 2 16)
in_two_files_they_are_apart = λ same. absurd (omega (arith, same))

-- ---- calls up to a moment

-- a list, and then a read at the moment 1
abbrev listed_first : Past
listed_first = record { start = directory; calls = event (reading one) 1 ∷ event listing 0 ∷ []; moment = 2 }

abbrev nothing_yet : Past
nothing_yet = record { start = directory; calls = []; moment = 0 }

pub the_list_comes_first : MakesUntil (λ s. AreCalls (listing ∷ [])) 1 (Some nothing_yet) (Some listed_first)
the_list_comes_first = (
  listed_first,
  refl,
  omega arith,
  record { events = event listing 0 ∷ []; rest = event (reading one) 1 ∷ []; start = refl; calls = refl; are = refl; behind = All-cons (λ e. 1 ≤ e.before) (event (reading one) 1) [] (omega arith) (All-nil (λ e. 1 ≤ e.before)) },
)

pub not_of_a_later_moment : MakesUntil (λ s. AreCalls (listing ∷ [])) 3 (Some nothing_yet) (Some listed_first) → ⊥
not_of_a_later_moment h = let same : listed_first ≡ h.0 = cc in let at : ◌≡◌ {A = ℕ} 2 h.0.moment = ap (λ (p : Past). p.moment) same in omega (arith, at, h.2)
