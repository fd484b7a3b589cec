-- A disk, a source and a sink in memory that fail as they are told, computed at literal calls.
use Rattle.std.proofs.Common.{◌≡◌, ℕ, true, false, List, [], ◌∷◌, None, Some, Result, Ok, Err, refl, arith}
use Rattle.amq_model.specs.declared.refusal.DiskCall.TheVariants.{Read, Sync}
use Rattle.amq_model.specs.Calls.{listing, fine, broken, undone}
use Rattle.amq_io.specs.Cause.{NoneFailed}
use Rattle.amq_io.specs.Failing.{is_to_fail}
use Rattle.amq_io.specs.MemoryDisk.{Memory, RunsAsTold}
use Rattle.amq_io.specs.Streams.{Stream, ReadsAsTold, WritesAsTold}
use Rattle.amq_io.specs.declared.disk.DiskError.TheVariants as error
use Rattle.amq_io.specs.declared.sink.SinkError.TheVariants as sink
use Rattle.amq_io.specs.declared.source.Failed.{Failed}

the_second_is_to_fail : is_to_fail (2 ∷ 4 ∷ []) 2 ≡ true
the_second_is_to_fail = refl

the_third_is_not : is_to_fail (2 ∷ 4 ∷ []) 3 ≡ false
the_third_is_not = refl

none_failed : NoneFailed (3, Some Read) (3, Some Read)
none_failed = (refl, refl)

one_failed : NoneFailed (3, Some Read) (4, Some Read) → ⊥
one_failed h = let more : ◌≡◌ {A = ℕ} 4 3 = h.0 in omega (arith, more)

-- ---- a stream of three bytes, two a call, whose second call is to fail

abbrev stream : List ℕ → ℕ → ℕ → Stream
stream bytes calls faults = record { bytes = bytes; piece = 2; calls = calls; fails = 2 ∷ []; faults = faults }

two_are_read : ReadsAsTold 4 (Ok 2) (stream (5 ∷ 6 ∷ 7 ∷ []) 0 0) (stream (7 ∷ []) 1 0)
two_are_read = (refl, refl, refl)

not_one : ReadsAsTold 4 (Ok 1) (stream (5 ∷ 6 ∷ 7 ∷ []) 0 0) (stream (6 ∷ 7 ∷ []) 1 0) → ⊥
not_one h = let two : ◌≡◌ {A = ℕ} 1 2 = h.1 in omega (arith, two)

abbrev failed : Failed → Result ℕ Failed
failed f = Err f

a_failed_read_loses_nothing : (f : Failed) → ReadsAsTold 4 (failed f) (stream (7 ∷ []) 1 0) (stream (7 ∷ []) 2 1)
a_failed_read_loses_nothing f = (refl, refl)

the_second_read_is_no_answer : ReadsAsTold 4 (Ok 1) (stream (7 ∷ []) 1 0) (stream [] 2 0) → ⊥
the_second_read_is_no_answer h = absurd (let e : true ≡ false = h.0 in cc)

the_first_read_does_not_fail : (f : Failed) → ReadsAsTold 4 (failed f) (stream (7 ∷ []) 0 0) (stream (7 ∷ []) 1 1) → ⊥
the_first_read_does_not_fail f h = absurd (let e : false ≡ true = h.0 in cc)

two_are_written : WritesAsTold (5 ∷ 6 ∷ 7 ∷ []) (Ok 2) (stream (4 ∷ []) 0 0) (stream (4 ∷ 5 ∷ 6 ∷ []) 1 0)
two_are_written = (refl, refl, refl)

a_failed_write_takes_nothing : WritesAsTold (7 ∷ []) (Err sink.Failed) (stream (4 ∷ []) 1 0) (stream (4 ∷ []) 2 1)
a_failed_write_takes_nothing = (refl, refl)

not_all_three : WritesAsTold (5 ∷ 6 ∷ 7 ∷ []) (Ok 3) (stream [] 0 0) (stream (5 ∷ 6 ∷ 7 ∷ []) 1 0) → ⊥
not_all_three h = let two : ◌≡◌ {A = ℕ} 3 2 = h.1 in omega (arith, two)

-- ---- a disk without files, whose second call is to fail

abbrev listed : Memory
listed = record { start = []; calls = record { call = listing; outcome = fine; before = 0 } ∷ []; moment = 1; fails = 2 ∷ []; faults = 0; last = None }

abbrev fresh : Memory
fresh = record { start = []; calls = []; moment = 0; fails = 2 ∷ []; faults = 0; last = None }

abbrev failed_behind : Memory
failed_behind = record { start = []; calls = record { call = listing; outcome = broken undone; before = 1 } ∷ record { call = listing; outcome = fine; before = 0 } ∷ []; moment = 2; fails = 2 ∷ []; faults = 1; last = Some Sync }

the_first_is_made : RunsAsTold {T = ℕ} Sync listing (Ok 0) fresh listed
the_first_is_made = (refl, refl)

the_second_fails : RunsAsTold {T = ℕ} Sync listing (Err error.Failed) listed failed_behind
the_second_fails = (refl, refl)

the_first_does_not_fail : RunsAsTold {T = ℕ} Sync listing (Err error.Failed) fresh listed → ⊥
the_first_does_not_fail h = absurd (let e : false ≡ true = h.0 in cc)

the_second_is_not_made : (after : Memory) → RunsAsTold {T = ℕ} Sync listing (Ok 0) listed after → ⊥
the_second_is_not_made after h = absurd (let e : true ≡ false = h.0 in cc)
