-- Commands and ticks on an engine of literal numbers: which of them flush or go on to a further file, and what they leave.
use Rattle.std.proofs.Common.{◌≡◌, inl, inr, ℕ, ◌+◌, ◌*◌, ◌-◌, ◌^◌, ◌<◌, true, false, List, [], ◌∷◌, length, replicate, Option, None, Some, refl, ap, arith}
use Rattle.std.proofs.lemmas.Bool.{false≢true}
use Rattle.std.proofs.lemmas.List.Elements.{All-nil, All-cons}
use Rattle.amq_model.specs.declared.command.Command.TheVariants.{Add, Update, Delete, Begin, AddTx, Commit, Rollback, Flush}
use Rattle.amq_model.specs.declared.config.Config.{Config}
use Rattle.amq_model.specs.declared.command.Reply.TheVariants.{Appended}
use Rattle.amq_model.specs.declared.history.Answer.TheVariants.{Done, Refused}
use Rattle.amq_model.specs.declared.history.Step.{Step}
use Rattle.amq_model.specs.declared.record.Placed.{Placed}
use Rattle.amq_model.specs.declared.record.Record.TheVariants as r
use Rattle.amq_model.specs.Legal.{IsOpeningStep}
use Rattle.amq_model.specs.declared.refusal.DiskCall.TheVariants.{Rename}
use Rattle.amq_model.specs.declared.refusal.Refusal.TheVariants.{TooLarge, NoRecord, FileIdsSpent}
use Rattle.amq_engine.specs.Engine.{EngineOf, flushes, moves, prepares, asks_disk, spent, refused, must_flush, behind_command, behind_tick, BehindRefused, opened, rolling, HasOpened, AreSpentAtLast}

-- files of 1024 bytes, and a buffer of 100, the first record of which waits at most 3 ticks
abbrev config : Config
config = record { file_size = 1024; min_files = 2; pool_files = None; compact_min_files = 10; compact_percentage = 30; buffer_size = 100; buffer_timeout = 3; user_version = 0 }

-- so many appends of 23 bytes each in the first file, of which so many are durable; the others take so many bytes, and the first of them waits since then
abbrev engine : ℕ → ℕ → ℕ → Option ℕ → ℕ → EngineOf ℕ ℕ
engine appended durable waiting since clock = record {
  disk = 0;
  chronicle = 0;
  config = config;
  appended = appended;
  durable = durable;
  waiting = waiting;
  since = since;
  file = 1;
  end = 16 + appended * 23;
  highest = 2;
  free = 2 ∷ [];
  clock = clock;
  closed = None;
}

-- an engine with this file in use, where the last append ends there; this is the greatest number so far, and these files are prepared
abbrev in_file : ℕ → ℕ → ℕ → List ℕ → EngineOf ℕ ℕ → EngineOf ℕ ℕ
in_file file end highest free e = record e { file = file; end = end; highest = highest; free = free }

-- of three appends the last one waits
abbrev one_waits : ℕ → ℕ → ℕ → List ℕ → EngineOf ℕ ℕ
one_waits file end highest free = in_file file end highest free (engine 3 2 23 (Some 5) 8)

-- of three appends none waits
abbrev none_waits : ℕ → ℕ → ℕ → List ℕ → EngineOf ℕ ℕ
none_waits file end highest free = in_file file end highest free (engine 3 3 0 None 8)

-- ---- which commands flush first

-- 77 bytes and an add of 23 fill the buffer
pub an_add_that_fits : flushes 100 77 (Add 1 7 []) ≡ false
an_add_that_fits = refl

-- with one byte more waiting it doesn't fit
pub an_add_one_byte_too_long : flushes 100 78 (Add 1 7 []) ≡ true
an_add_one_byte_too_long = refl

-- its body has one byte
pub an_update_that_fits : flushes 100 76 (Update 1 8 (0x6a ∷ [])) ≡ false
an_update_that_fits = refl

-- and one byte more waiting is too much for it
pub an_update_one_byte_too_long : flushes 100 77 (Update 1 8 (0x6a ∷ [])) ≡ true
an_update_one_byte_too_long = refl

-- a delete has 18 bytes
pub a_delete_that_fits : flushes 100 82 (Delete 1) ≡ false
a_delete_that_fits = refl

-- and one that has one byte too few
pub a_delete_one_byte_too_long : flushes 100 83 (Delete 1) ≡ true
a_delete_one_byte_too_long = refl

-- also where nothing waits
pub a_flush : flushes 100 0 Flush ≡ true
a_flush = refl

-- ---- which go on to a further file

-- an add of 23 bytes that ends with the file stays in it
pub an_add_that_fills_the_file : moves (one_waits 1 1001 2 (2 ∷ [])) (Add 1 7 []) ≡ false
an_add_that_fills_the_file = refl

-- one byte further it doesn't fit
pub an_add_one_byte_too_far : moves (one_waits 1 1002 2 (2 ∷ [])) (Add 1 7 []) ≡ true
an_add_one_byte_too_far = refl

-- a delete of 18 bytes that ends with the file
pub a_delete_that_fills_the_file : moves (one_waits 1 1006 2 (2 ∷ [])) (Delete 1) ≡ false
a_delete_that_fills_the_file = refl

-- and one that ends one byte behind it
pub a_delete_one_byte_too_far : moves (one_waits 1 1007 2 (2 ∷ [])) (Delete 1) ≡ true
a_delete_one_byte_too_far = refl

-- a COMMIT of 22 bytes that ends with the file
pub a_commit_that_fills_the_file : moves (one_waits 1 1002 2 (2 ∷ [])) (Commit 1) ≡ false
a_commit_that_fills_the_file = refl

-- and one that ends one byte behind it
pub a_commit_one_byte_too_far : moves (one_waits 1 1003 2 (2 ∷ [])) (Commit 1) ≡ true
a_commit_one_byte_too_far = refl

-- an add of a transaction has 31 bytes and its body
pub an_add_of_a_transaction_that_fills_the_file : moves (one_waits 1 991 2 (2 ∷ [])) (AddTx 1 3 7 (0x68 ∷ 0x69 ∷ [])) ≡ false
an_add_of_a_transaction_that_fills_the_file = refl

-- and here it ends one byte behind the file
pub an_add_of_a_transaction_one_byte_too_far : moves (one_waits 1 992 2 (2 ∷ [])) (AddTx 1 3 7 (0x68 ∷ 0x69 ∷ [])) ≡ true
an_add_of_a_transaction_one_byte_too_far = refl

-- the longest record that a file has room for: it stands first and ends with the file
pub one_that_takes_a_whole_file : moves (none_waits 2 16 2 []) (Add 1 7 (replicate 985 0)) ≡ false
one_that_takes_a_whole_file = refl

-- a command without a record stays where the file is full
pub a_begin_in_a_full_file : moves (one_waits 1 1024 2 (2 ∷ [])) Begin ≡ false
a_begin_in_a_full_file = refl

-- so does a flush
pub a_flush_in_a_full_file : moves (one_waits 1 1024 2 (2 ∷ [])) Flush ≡ false
a_flush_in_a_full_file = refl

-- ---- for which a file is prepared

-- the record doesn't fit, and no file is prepared
pub none_is_prepared : prepares (one_waits 2 1002 2 []) (Add 1 7 []) ≡ true
none_is_prepared = refl

-- the record doesn't fit, but a file is prepared
pub one_is_prepared : prepares (one_waits 1 1002 2 (2 ∷ [])) (Add 1 7 []) ≡ false
one_is_prepared = refl

-- the record fits, so none is needed
pub none_is_needed : prepares (one_waits 2 1001 2 []) (Add 1 7 []) ≡ false
none_is_needed = refl

-- ---- which ask the disk

-- the record fits the buffer and the file
pub one_that_fits_both : asks_disk (one_waits 1 85 2 (2 ∷ [])) (Add 1 7 []) ≡ false
one_that_fits_both = refl

-- four records of 23 bytes wait, so a fifth doesn't fit the buffer
pub one_that_overflows : asks_disk (engine 6 2 92 (Some 5) 8) (Add 1 7 []) ≡ true
one_that_overflows = refl

-- the journal goes on, and what waits is written first
pub one_that_goes_on : asks_disk (one_waits 1 1002 2 (2 ∷ [])) (Add 1 7 []) ≡ true
one_that_goes_on = refl

-- it goes on to a prepared file, and nothing waits
pub one_that_only_goes_on : asks_disk (none_waits 1 1002 2 (2 ∷ [])) (Add 1 7 []) ≡ false
one_that_only_goes_on = refl

-- nothing waits, but a file is prepared for it
pub one_that_prepares : asks_disk (none_waits 2 1002 2 []) (Add 1 7 []) ≡ true
one_that_prepares = refl

-- a flush of what waits
pub a_flush_of_one : asks_disk (one_waits 1 85 2 (2 ∷ [])) Flush ≡ true
a_flush_of_one = refl

-- a flush of nothing
pub a_flush_of_nothing : asks_disk (none_waits 1 85 2 (2 ∷ [])) Flush ≡ false
a_flush_of_nothing = refl

-- a Begin has no record
pub a_begin : asks_disk (one_waits 2 1024 2 []) Begin ≡ false
a_begin = refl

-- ---- numbers of files

-- a file is needed, none is prepared, and the greatest number is given
pub numbers_are_spent : spent true (2 ^ 31 - 1) [] ≡ Some (FileIdsSpent (2 ^ 31 - 1))
numbers_are_spent = refl

-- one number is left
pub one_number_is_left : spent true (2 ^ 31 - 2) [] ≡ None
one_number_is_left = refl

-- a file is prepared
pub a_file_is_prepared : spent true (2 ^ 31 - 1) (7 ∷ []) ≡ None
a_file_is_prepared = refl

-- no file is needed
pub no_file_is_needed : spent false (2 ^ 31 - 1) [] ≡ None
no_file_is_needed = refl

-- ---- which refusal is the first

-- nothing is refused
pub nothing_is_refused : refused config None None (Add 1 7 []) ≡ None
nothing_is_refused = refl

-- a record of 101 bytes is too large, whatever else there is
pub too_large_goes_first : refused config (Some (NoRecord 1)) (Some (FileIdsSpent (2 ^ 31 - 1))) (Update 1 8 (replicate 78 0)) ≡ Some (TooLarge 101 100)
too_large_goes_first = refl

-- an id that isn't live goes before numbers that are spent
pub ids_go_before_numbers : refused config (Some (NoRecord 1)) (Some (FileIdsSpent (2 ^ 31 - 1))) (Delete 1) ≡ Some (NoRecord 1)
ids_go_before_numbers = refl

-- numbers that are spent are the last
pub numbers_go_last : refused config None (Some (FileIdsSpent (2 ^ 31 - 1))) (Add 1 7 []) ≡ Some (FileIdsSpent (2 ^ 31 - 1))
numbers_go_last = refl

-- ---- behind a command

-- the first one waits since now
pub the_first_one : behind_command (Add 1 7 []) (engine 2 2 0 None 8) ≡ engine 3 2 23 (Some 8) 8
the_first_one = refl

-- behind others the time of the first one stays
pub one_behind_another : behind_command (Add 1 7 []) (engine 3 2 23 (Some 5) 8) ≡ engine 4 2 46 (Some 5) 8
one_behind_another = refl

-- those that wait are flushed, and this one isn't durable yet
pub one_without_room : behind_command (Add 1 7 []) (engine 6 2 92 (Some 5) 8) ≡ engine 7 6 23 (Some 8) 8
one_without_room = refl

-- it isn't written with them
pub one_without_room_is_not_durable : behind_command (Add 1 7 []) (engine 6 2 92 (Some 5) 8) ≡ engine 7 7 0 None 8 → ⊥
one_without_room_is_not_durable e = let durable : ◌≡◌ {A = ℕ} 6 7 = ap (λ x. x.durable) e in omega (arith, durable)

-- a record isn't written at once
pub one_that_is_written_through : behind_command (Add 1 7 []) (engine 2 2 0 None 8) ≡ engine 3 3 0 None 8 → ⊥
one_that_is_written_through e = let durable : ◌≡◌ {A = ℕ} 2 3 = ap (λ x. x.durable) e in omega (arith, durable)

-- a flush makes all durable
pub all_are_flushed : behind_command Flush (engine 4 2 46 (Some 5) 8) ≡ engine 4 4 0 None 8
all_are_flushed = refl

-- and changes nothing where all are
pub nothing_to_flush : behind_command Flush (engine 4 4 0 None 8) ≡ engine 4 4 0 None 8
nothing_to_flush = refl

-- ---- behind a command whose record ends with the file, or doesn't fit it

-- it stays in the file and waits with the other one
pub one_that_fills_the_file : behind_command (Add 1 7 []) (one_waits 1 1001 2 (2 ∷ [])) ≡ in_file 1 1024 2 (2 ∷ []) (engine 4 2 46 (Some 5) 8)
one_that_fills_the_file = refl

-- One byte further the other one is flushed, and this one stands first in the file that is prepared.
pub on_to_a_prepared_file : behind_command (Add 1 7 []) (one_waits 1 1002 2 (2 ∷ [])) ≡ in_file 2 39 2 [] (engine 4 3 23 (Some 8) 8)
on_to_a_prepared_file = refl

-- of two that are prepared it is the one with the least id, and the other one stays prepared
pub on_to_the_first_of_two : behind_command (Add 1 7 []) (one_waits 1 1002 3 (2 ∷ 3 ∷ [])) ≡ in_file 2 39 3 (3 ∷ []) (engine 4 3 23 (Some 8) 8)
on_to_the_first_of_two = refl

-- where none is prepared, it is one with the next number
pub on_to_one_that_is_prepared_for_it : behind_command (Add 1 7 []) (one_waits 2 1002 2 []) ≡ in_file 3 39 3 [] (engine 4 3 23 (Some 8) 8)
on_to_one_that_is_prepared_for_it = refl

-- where nothing waited, all that was durable stays so
pub on_with_nothing_to_flush : behind_command (Delete 1) (none_waits 1 1010 2 (2 ∷ [])) ≡ in_file 2 34 2 [] (engine 4 3 18 (Some 8) 8)
on_with_nothing_to_flush = refl

-- it doesn't stay in a file that it doesn't fit
pub not_behind_the_end : behind_command (Add 1 7 []) (one_waits 1 1002 2 (2 ∷ [])) ≡ in_file 1 1025 2 (2 ∷ []) (engine 4 2 46 (Some 5) 8) → ⊥
not_behind_the_end e = let file : ◌≡◌ {A = ℕ} 2 1 = ap (λ x. x.file) e in omega (arith, file)

-- it doesn't leave a file that it fits
pub not_on_where_it_fits : behind_command (Add 1 7 []) (one_waits 1 1001 2 (2 ∷ [])) ≡ in_file 2 39 2 [] (engine 4 3 23 (Some 8) 8) → ⊥
not_on_where_it_fits e = let file : ◌≡◌ {A = ℕ} 1 2 = ap (λ x. x.file) e in omega (arith, file)

-- what waited doesn't wait on
pub not_on_without_a_flush : behind_command (Add 1 7 []) (one_waits 1 1002 2 (2 ∷ [])) ≡ in_file 2 39 2 [] (engine 4 2 46 (Some 5) 8) → ⊥
not_on_without_a_flush e = let durable : ◌≡◌ {A = ℕ} 3 2 = ap (λ x. x.durable) e in omega (arith, durable)

-- the greater of two isn't taken
pub not_to_the_second_of_two : behind_command (Add 1 7 []) (one_waits 1 1002 3 (2 ∷ 3 ∷ [])) ≡ in_file 3 39 3 (2 ∷ []) (engine 4 3 23 (Some 8) 8) → ⊥
not_to_the_second_of_two e = let file : ◌≡◌ {A = ℕ} 2 3 = ap (λ x. x.file) e in omega (arith, file)

-- no number is given where a file is prepared
pub no_number_for_a_prepared_file : behind_command (Add 1 7 []) (one_waits 1 1002 2 (2 ∷ [])) ≡ in_file 2 39 3 [] (engine 4 3 23 (Some 8) 8) → ⊥
no_number_for_a_prepared_file e = let highest : ◌≡◌ {A = ℕ} 2 3 = ap (λ x. x.highest) e in omega (arith, highest)

-- ---- behind a command that was refused

-- nothing changed
pub nothing_changed : BehindRefused (Add 1 7 []) (one_waits 1 1002 2 (2 ∷ [])) (one_waits 1 1002 2 (2 ∷ []))
nothing_changed = inl refl

-- a call failed, and the engine is closed
pub a_call_failed : BehindRefused (Add 1 7 []) (one_waits 1 1002 2 (2 ∷ [])) (record (one_waits 1 1002 2 (2 ∷ [])) { disk = 1; closed = Some Rename })
a_call_failed = inl refl

-- what waited was flushed, and the file wasn't prepared
pub flushed_but_not_prepared : BehindRefused (Add 1 7 []) (one_waits 2 1002 2 []) (record (none_waits 2 1002 2 []) { disk = 1; chronicle = 1; closed = Some Rename })
flushed_but_not_prepared = inr (refl, refl)

-- nothing is flushed for good where a file is prepared
pub flushed_beside_a_prepared_file : BehindRefused (Add 1 7 []) (one_waits 1 1002 2 (2 ∷ [])) (none_waits 1 1002 2 (2 ∷ [])) → ⊥
flushed_beside_a_prepared_file (inl e) = let durable : ◌≡◌ {A = ℕ} 3 2 = ap (λ x. x.durable) e in omega (arith, durable)
flushed_beside_a_prepared_file (inr p) = false≢true p.0

-- nor where the record fits the file
pub flushed_where_it_fits : BehindRefused (Add 1 7 []) (one_waits 2 1001 2 []) (none_waits 2 1001 2 []) → ⊥
flushed_where_it_fits (inl e) = let durable : ◌≡◌ {A = ℕ} 3 2 = ap (λ x. x.durable) e in omega (arith, durable)
flushed_where_it_fits (inr p) = false≢true p.0

-- the journal doesn't go on
pub refused_in_another_file : BehindRefused (Add 1 7 []) (one_waits 2 1002 2 []) (none_waits 3 16 3 []) → ⊥
refused_in_another_file (inl e) = let file : ◌≡◌ {A = ℕ} 3 2 = ap (λ x. x.file) e in omega (arith, file)
refused_in_another_file (inr p) = let file : ◌≡◌ {A = ℕ} 3 2 = ap (λ x. x.file) p.1 in omega (arith, file)

-- no record is put
pub refused_and_put : BehindRefused (Add 1 7 []) (one_waits 1 1001 2 (2 ∷ [])) (in_file 1 1024 2 (2 ∷ []) (engine 4 2 46 (Some 5) 8)) → ⊥
refused_and_put (inl e) = let appended : ◌≡◌ {A = ℕ} 4 3 = ap (λ x. x.appended) e in omega (arith, appended)
refused_and_put (inr p) = let appended : ◌≡◌ {A = ℕ} 4 3 = ap (λ x. x.appended) p.1 in omega (arith, appended)

-- ---- behind a tick

-- the first one is two ticks old
pub one_tick_early : behind_tick 7 (engine 4 2 46 (Some 5) 6) ≡ engine 4 2 46 (Some 5) 7
one_tick_early = refl

-- it is three ticks old
pub in_time : behind_tick 8 (engine 4 2 46 (Some 5) 6) ≡ engine 4 4 0 None 8
in_time = refl

-- it doesn't wait longer
pub not_flushed_in_time : behind_tick 8 (engine 4 2 46 (Some 5) 6) ≡ engine 4 2 46 (Some 5) 8 → ⊥
not_flushed_in_time e = let durable : ◌≡◌ {A = ℕ} 4 2 = ap (λ x. x.durable) e in omega (arith, durable)

-- the clock stays where it is, and that is what decides
pub an_earlier_moment : behind_tick 2 (engine 4 2 46 (Some 5) 7) ≡ engine 4 2 46 (Some 5) 7
an_earlier_moment = refl

-- also where it is due
pub an_earlier_moment_when_due : behind_tick 2 (engine 4 2 46 (Some 5) 8) ≡ engine 4 4 0 None 8
an_earlier_moment_when_due = refl

-- where nothing waits, none is due
pub nothing_waits : must_flush (engine 4 4 0 None 100) ≡ false
nothing_waits = refl

-- then the clock alone goes on
pub a_tick_of_nothing : behind_tick 100 (engine 4 4 0 None 7) ≡ engine 4 4 0 None 100
a_tick_of_nothing = refl

-- ---- how far an opening is

-- an add of transaction 1, which has no end
abbrev left_open : List Placed
left_open = record { file = 1; place = 16; compact = 0; rec = r.AddTx 1 3 7 [] } ∷ []

-- its rollback, as this seat's command of this number
abbrev rolls_back : ℕ → ℕ → Step
rolls_back seat number = record { seat = seat; number = number; command = Rollback 1; answer = Done (Appended 0); placed = Some (record { file = 2; place = 16; compact = 0; rec = r.Rollback 1 }) }

-- the opening's own
is_the_first : IsOpeningStep 1 1 (rolls_back 0 1)
is_the_first = record { seat = refl; number = refl; command = refl }

-- where nothing was there, nothing is rolled back
pub nothing_to_roll_back : HasOpened opened [] []
nothing_to_roll_back = (λ k x lt. absurd (omega (arith, lt)), refl)

-- so is it where the opening begins
pub it_begins : HasOpened (rolling left_open 0) left_open []
it_begins = (refl, refl, tt, refl)

-- the rollback is appended, and is the only one
pub one_is_rolled_back : HasOpened (rolling left_open 1) left_open (rolls_back 0 1 ∷ [])
one_is_rolled_back = (refl, refl, (is_the_first, tt), refl)

-- then the opening is done
pub all_are_rolled_back : HasOpened opened left_open (rolls_back 0 1 ∷ [])
all_are_rolled_back = ((is_the_first, λ k x lt. absurd (omega (arith, lt))), refl)

-- and a command of another seat may follow
pub one_command_follows : HasOpened opened left_open (rolls_back 0 1 ∷ rolls_back 4 1 ∷ [])
one_command_follows = ((is_the_first, All-cons (λ s. 0 < s.seat) (rolls_back 4 1) [] (omega arith) (All-nil (λ s. 0 < s.seat))), refl)

-- it isn't done before
pub not_done_without_it : HasOpened opened left_open [] → ⊥
not_done_without_it h = h.0

-- a step of the opening that was refused isn't its rollback
pub not_done_where_it_is_refused : HasOpened opened left_open (record { seat = 0; number = 1; command = Rollback 1; answer = Refused (FileIdsSpent (2 ^ 31 - 1)); placed = None } ∷ []) → ⊥
not_done_where_it_is_refused h = let many : ◌≡◌ {A = ℕ} 0 1 = h.1 in omega (arith, many)

-- ---- spent numbers

-- the rollback stands in the file of the greatest number
abbrev fills_the_last : Step
fills_the_last = record { seat = 0; number = 1; command = Rollback 1; answer = Done (Appended 0); placed = Some (record { file = 2 ^ 31 - 1; place = 16; compact = 0; rec = r.Rollback 1 }) }

abbrev is_refused : Step
is_refused = record { seat = 1; number = 1; command = Add 3 7 []; answer = Refused (FileIdsSpent (2 ^ 31 - 1)); placed = None }

pub spent_behind_the_last_file : AreSpentAtLast [] (fills_the_last ∷ is_refused ∷ [])
spent_behind_the_last_file = (tt, (refl, tt))

pub not_behind_another_file : AreSpentAtLast [] (rolls_back 0 1 ∷ is_refused ∷ []) → ⊥
not_behind_another_file h = let file : ◌≡◌ {A = ℕ} 2 2147483647 = h.1.0 in omega (arith, file)

-- another seat's doesn't count
pub not_of_another_seat : HasOpened (rolling left_open 1) left_open (rolls_back 4 1 ∷ []) → ⊥
not_of_another_seat h = let seat : ◌≡◌ {A = ℕ} 4 0 = h.2.0.seat in omega (arith, seat)

-- no other step stands behind those of an opening that isn't done
pub not_one_more : HasOpened (rolling left_open 2) left_open (rolls_back 0 1 ∷ rolls_back 4 1 ∷ []) → ⊥
not_one_more h = h.2.1

-- nor is one that was refused
pub not_refused : HasOpened (rolling left_open 1) left_open (record { seat = 0; number = 1; command = Rollback 1; answer = Refused (NoRecord 7); placed = None } ∷ []) → ⊥
not_refused h = let many : ◌≡◌ {A = ℕ} 0 1 = h.3 in omega (arith, many)

-- how many there are is told
pub not_two : HasOpened (rolling left_open 2) left_open (rolls_back 0 1 ∷ []) → ⊥
not_two h = let many : ◌≡◌ {A = ℕ} 1 2 = h.1 in omega (arith, many)

-- and of which base
pub not_of_another_base : HasOpened (rolling left_open 0) [] [] → ⊥
not_of_another_base h = let many : ◌≡◌ {A = ℕ} 0 1 = ap length h.0 in omega (arith, many)
