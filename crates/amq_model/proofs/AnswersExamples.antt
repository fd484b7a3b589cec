-- What the journal of one thread answers, and which histories are legal.
use Rattle.std.proofs.Common.{◌≡◌, ℕ, zero, suc, ◌<◌, ◌≤◌, true, false, inl, inr, ⊎_elim, List, [], ◌∷◌, ◌++◌, Option, Some, None, All, refl, arith}
use Rattle.amq_model.specs.declared.record.Record.{Record}
use Rattle.amq_model.specs.declared.record.Record.TheVariants as r
use Rattle.amq_model.specs.declared.record.Placed.{Placed}
use Rattle.amq_model.specs.declared.command.Command.{Command}
use Rattle.amq_model.specs.declared.command.Command.TheVariants as c
use Rattle.amq_model.specs.declared.command.Reply.TheVariants.{Appended, Begun, Durable}
use Rattle.amq_model.specs.declared.config.Config.{Config}
use Rattle.amq_model.specs.declared.history.Answer.{Answer}
use Rattle.amq_model.specs.declared.history.Answer.TheVariants.{Done, Refused}
use Rattle.amq_model.specs.declared.history.Step.{Step}
use Rattle.amq_model.specs.declared.refusal.Refusal.TheVariants.{TooLarge, NoTx, TxPrepared, Held, AlreadyLive, NoRecord, TxNumbersSpent, FileIdsSpent}
use Rattle.amq_model.specs.Answers.{answer, history_of}
use Rattle.amq_model.specs.Legal.{needs_file, IsAnswered, rolled_back, AreLegal, AreLegalOfRefused}

abbrev config : ℕ → ℕ → Config
config file_size buffer_size = record { file_size = file_size; min_files = 2; pool_files = None; compact_min_files = 10; compact_percentage = 30; buffer_size = buffer_size; buffer_timeout = 3; user_version = 0 }

abbrev usual : Config
usual = config 10485760 501760

abbrev hi : List ℕ
hi = 0x68 ∷ 0x69 ∷ []

abbrev at : ℕ → Record → Placed
at place rec = record { file = 1; place = place; compact = 0; rec = rec }

abbrev step : ℕ → Command → Answer → Option Placed → Step
step number command reply placed = record { seat = 1; number = number; command = command; answer = reply; placed = placed }

-- ---- one id held by a transaction

abbrev held : List Step
held = step 1 (c.Add 1 7 []) (Done (Appended 0)) (Some (at 16 (r.Add 1 7 [])))
    ∷ step 2 c.Begin (Done (Begun 1)) None
    ∷ step 3 (c.DeleteTx 1 1 []) (Done (Appended 1)) (Some (at 39 (r.DeleteTx 1 1 [])))
    ∷ []

pub the_first_add : answer [] [] usual (c.Add 1 7 []) ≡ Done (Appended 0)
the_first_add = refl

pub the_first_number : answer [] [] usual c.Begin ≡ Done (Begun 1)
the_first_number = refl

pub the_next_number : answer [] held usual c.Begin ≡ Done (Begun 2)
the_next_number = refl

pub an_update_of_a_held_id : answer [] held usual (c.Update 1 7 (0x6a ∷ [])) ≡ Refused (Held 1 1)
an_update_of_a_held_id = refl

pub an_add_of_a_held_id : answer [] held usual (c.Add 1 7 []) ≡ Refused (Held 1 1)
an_add_of_a_held_id = refl

pub an_id_that_isnt_there : answer [] held usual (c.Delete 2) ≡ Refused (NoRecord 2)
an_id_that_isnt_there = refl

-- the holder's own commands see its delete
pub the_holder_may_add_again : answer [] held usual (c.AddTx 1 1 7 []) ≡ Done (Appended 2)
the_holder_may_add_again = refl

pub the_holder_has_deleted_it : answer [] held usual (c.UpdateTx 1 1 7 []) ≡ Refused (NoRecord 1)
the_holder_has_deleted_it = refl

pub a_commit : answer [] held usual (c.Commit 1) ≡ Done (Appended 2)
a_commit = refl

pub a_flush : answer [] held usual c.Flush ≡ Done (Durable 2)
a_flush = refl

-- two transactions left open before the journal was opened hold the id: the least is told
pub the_least_holder : answer (at 16 (r.UpdateTx 9 1 7 []) ∷ at 47 (r.DeleteTx 4 1 []) ∷ []) [] usual (c.Add 1 7 []) ≡ Refused (Held 1 4)
the_least_holder = refl

pub the_least_other_holder : answer (at 16 (r.UpdateTx 9 1 7 []) ∷ at 47 (r.DeleteTx 4 1 []) ∷ []) [] usual (c.AddTx 4 1 7 []) ≡ Refused (Held 1 9)
the_least_other_holder = refl

pub no_longer_held : answer [] (step 1 c.Begin (Done (Begun 1)) None
    ∷ step 2 (c.AddTx 1 3 7 []) (Done (Appended 0)) (Some (at 16 (r.AddTx 1 3 7 [])))
    ∷ step 3 (c.Rollback 1) (Done (Appended 1)) (Some (at 47 (r.Rollback 1)))
    ∷ []) usual (c.Add 3 7 []) ≡ Done (Appended 2)
no_longer_held = refl

-- ---- ids

abbrev one_live : List Step
one_live = step 1 (c.Add 1 7 hi) (Done (Appended 0)) (Some (at 16 (r.Add 1 7 hi))) ∷ []

pub an_add_of_a_live_id : answer [] one_live usual (c.Add 1 7 []) ≡ Refused (AlreadyLive 1)
an_add_of_a_live_id = refl

pub an_update_of_a_live_id : answer [] one_live usual (c.Update 1 7 []) ≡ Done (Appended 1)
an_update_of_a_live_id = refl

pub a_delete_of_a_live_id : answer [] one_live usual (c.Delete 1) ≡ Done (Appended 1)
a_delete_of_a_live_id = refl

pub a_deleted_id : answer [] (step 1 (c.Add 1 7 hi) (Done (Appended 0)) (Some (at 16 (r.Add 1 7 hi))) ∷ step 2 (c.Delete 1) (Done (Appended 1)) (Some (at 41 (r.Delete 1))) ∷ []) usual (c.Delete 1) ≡ Refused (NoRecord 1)
a_deleted_id = refl

-- an id that a refused step named isn't live
pub a_refused_add : answer [] (step 1 (c.Add 1 7 hi) (Refused (AlreadyLive 1)) None ∷ []) usual (c.Delete 1) ≡ Refused (NoRecord 1)
a_refused_add = refl

-- ---- transactions

pub no_such_transaction : answer [] held usual (c.Commit 2) ≡ Refused (NoTx 2)
no_such_transaction = refl

pub an_ended_transaction : answer (at 16 (r.AddTx 5 3 7 hi) ∷ at 49 (r.Commit 5 1) ∷ []) [] usual (c.Commit 5) ≡ Refused (NoTx 5)
an_ended_transaction = refl

abbrev in_doubt : List Placed
in_doubt = at 16 (r.AddTx 5 3 7 hi) ∷ at 49 (r.Prepare 5 1 []) ∷ []

pub an_add_in_a_prepared_transaction : answer in_doubt [] usual (c.AddTx 5 4 7 []) ≡ Refused (TxPrepared 5)
an_add_in_a_prepared_transaction = refl

pub a_second_prepare : answer in_doubt [] usual (c.Prepare 5 []) ≡ Refused (TxPrepared 5)
a_second_prepare = refl

pub a_commit_of_a_prepared_transaction : answer in_doubt [] usual (c.Commit 5) ≡ Done (Appended 0)
a_commit_of_a_prepared_transaction = refl

pub a_rollback_of_a_prepared_transaction : answer in_doubt [] usual (c.Rollback 5) ≡ Done (Appended 0)
a_rollback_of_a_prepared_transaction = refl

-- a PREPARE of another number leaves the transaction open
pub an_unsound_prepare : answer (at 16 (r.AddTx 5 3 7 hi) ∷ at 49 (r.Prepare 5 2 []) ∷ []) [] usual (c.AddTx 5 4 7 []) ≡ Done (Appended 0)
an_unsound_prepare = refl

pub numbers_spent : answer (at 16 (r.Rollback 9223372036854775807) ∷ []) [] usual c.Begin ≡ Refused (TxNumbersSpent 9223372036854775807)
numbers_spent = refl

pub one_number_left : answer (at 16 (r.Rollback 9223372036854775806) ∷ []) [] usual c.Begin ≡ Done (Begun 9223372036854775807)
one_number_left = refl

pub a_rolled_back_number : answer (at 16 (r.Rollback 9223372036854775807) ∷ []) [] usual (c.Commit 0) ≡ Refused (NoTx 0)
a_rolled_back_number = refl

-- ---- sizes

abbrev body_of_41 : List ℕ
body_of_41 = 0 ∷ 0 ∷ 0 ∷ 0 ∷ 0 ∷ 0 ∷ 0 ∷ 0 ∷ 0 ∷ 0 ∷ 0 ∷ 0 ∷ 0 ∷ 0 ∷ 0 ∷ 0 ∷ 0 ∷ 0 ∷ 0 ∷ 0 ∷ 0 ∷ 0 ∷ 0 ∷ 0 ∷ 0 ∷ 0 ∷ 0 ∷ 0 ∷ 0 ∷ 0 ∷ 0 ∷ 0 ∷ 0 ∷ 0 ∷ 0 ∷ 0 ∷ 0 ∷ 0 ∷ 0 ∷ 0 ∷ 0 ∷ []

pub as_long_as_the_buffer : answer [] [] (config 10485760 64) (c.Add 2 7 body_of_41) ≡ Done (Appended 0)
as_long_as_the_buffer = refl

pub longer_than_the_buffer : answer [] [] (config 10485760 64) (c.Add 3 7 (0 ∷ body_of_41)) ≡ Refused (TooLarge 65 64)
longer_than_the_buffer = refl

pub longer_than_a_file : answer [] [] (config 64 501760) (c.Add 3 7 body_of_41) ≡ Refused (TooLarge 64 48)
longer_than_a_file = refl

-- before the transaction is looked for
pub too_large_first : answer [] [] (config 10485760 64) (c.AddTx 9 3 7 body_of_41) ≡ Refused (TooLarge 72 64)
too_large_first = refl

-- ---- a further file

abbrev small : Config
small = config 64 501760

-- behind the first add the file has 23 bytes left
pub longer_than_the_rest : needs_file (history_of one_live) small (c.Add 2 7 hi) ≡ true
longer_than_the_rest = refl

pub as_long_as_the_rest : needs_file (history_of one_live) small (c.Add 2 7 []) ≡ false
as_long_as_the_rest = refl

pub no_record_needs_no_file : needs_file (history_of one_live) small c.Begin ≡ false
no_record_needs_no_file = refl

-- the first append stands behind 16 bytes, and the longest record has room there
pub the_first_append : needs_file [] (config 80 501760) (c.Add 2 7 body_of_41) ≡ false
the_first_append = refl

abbrev spent : Answer
spent = Refused (FileIdsSpent 2147483647)

pub no_number_is_left : IsAnswered [] one_live small (c.Add 2 7 hi) spent
no_number_is_left = inr (refl, refl, tt)

-- where a number is left, the journal moves on
pub it_moves_on : IsAnswered [] one_live small (c.Add 2 7 hi) (Done (Appended 1))
it_moves_on = inl refl

pub the_record_fits : IsAnswered [] one_live small (c.Add 2 7 []) spent → ⊥
the_record_fits h = ⊎_elim (λ e. let f : spent ≡ Done (Appended 1) = e in cc) (λ e. let f : false ≡ true = e.1 in cc) h

pub nothing_is_appended : IsAnswered [] one_live small c.Begin spent → ⊥
nothing_is_appended h = ⊎_elim (λ e. let f : spent ≡ Done (Begun 1) = e in cc) (λ e. let f : false ≡ true = e.1 in cc) h

-- the refusals of the journal of one thread come before it
pub refused_before_a_file_is_needed : IsAnswered [] one_live small (c.Add 1 7 hi) (Refused (AlreadyLive 1))
refused_before_a_file_is_needed = inl refl

pub refused_without_a_file : IsAnswered [] one_live small (c.Add 1 7 hi) spent → ⊥
refused_without_a_file h = ⊎_elim (λ e. let f : spent ≡ Refused (AlreadyLive 1) = e in cc) (λ e. e.2) h

pub another_highest : IsAnswered [] one_live small (c.Add 2 7 hi) (Refused (FileIdsSpent 2147483646)) → ⊥
another_highest h =
    ⊎_elim (λ e. let f : Refused (FileIdsSpent 2147483646) ≡ Done (Appended 1) = e in cc) (λ e. let f : ◌≡◌ {A = ℕ} 2147483646 2147483647 = cc in omega arith) h

-- ---- the opening's ROLLBACKs

pub what_is_rolled_back : rolled_back (at 16 (r.AddTx 9 3 7 []) ∷ at 47 (r.DeleteTx 4 1 []) ∷ at 77 (r.AddTx 5 6 7 []) ∷ at 108 (r.Prepare 5 1 []) ∷ at 134 (r.AddTx 6 8 7 []) ∷ at 165 (r.Commit 6 1) ∷ []) ≡ 4 ∷ 9 ∷ []
what_is_rolled_back = refl

-- ---- legal histories

-- an add, and another command behind it
abbrev behind_one : Command → Answer → Option Placed → List Step
behind_one command reply placed = one_live ++ step 2 command reply placed ∷ []

-- one more add, for which the file has no room
abbrev more : Answer → Option Placed → List Step
more reply placed = behind_one (c.Add 2 7 hi) reply placed

-- its record, and where it stands
abbrev more_at : ℕ → ℕ → Option Placed
more_at file place = Some (record { file = file; place = place; compact = 0; rec = r.Add 2 7 hi })

of_one_seat : (a b : Step) → a.seat ≡ 1 → b.seat ≡ 1 → All (λ s. 0 < s.seat) (a ∷ b ∷ [])
of_one_seat a b h g zero d i = omega arith
of_one_seat a b h g (suc zero) d i = omega arith
of_one_seat a b h g (suc (suc k)) d i = omega arith

pub a_further_file_is_legal : AreLegal [] (more (Done (Appended 1)) (more_at 2 16)) small
a_further_file_is_legal = record {
  each = (
    record { answered = inl refl; placed = (refl, refl, omega arith, (refl, λ k d h. omega arith)) },
    (record { answered = inl refl; placed = (refl, refl, omega arith, inr (omega arith, refl)) }, tt),
  );
  opening = of_one_seat _ _ refl refl;
}

pub spent_file_ids_are_legal : AreLegal [] (more spent None) small
spent_file_ids_are_legal = record {
  each = (
    record { answered = inl refl; placed = (refl, refl, omega arith, (refl, λ k d h. omega arith)) },
    (record { answered = inr (refl, refl, tt); placed = refl }, tt),
  );
  opening = of_one_seat _ _ refl refl;
}

-- a record behind the end of its file
pub one_too_many : AreLegal [] (more (Done (Appended 1)) (more_at 1 41)) small → ⊥
one_too_many h = let le : 66 ≤ 64 = h.each.1.0.placed.2 in omega arith

-- a record in a further file, but not first in it
pub not_first_in_its_file : AreLegal [] (more (Done (Appended 1)) (more_at 2 17)) usual → ⊥
not_first_in_its_file h = ⊎_elim (λ e. omega arith) (λ e. omega arith) h.each.1.0.placed.3

-- a refused command whose record was appended
pub a_record_of_a_refused_add : AreLegal [] (more spent (more_at 2 16)) small → ⊥
a_record_of_a_refused_add h = let e : more_at 2 16 ≡ None = h.each.1.0.placed in cc

-- spent, and the record fits
pub spent_too_soon : AreLegal [] (more spent None) usual → ⊥
spent_too_soon h = ⊎_elim (λ e. let f : spent ≡ Done (Appended 1) = e in cc) (λ e. let f : false ≡ true = e.1 in cc) h.each.1.0.answered

-- spent, and the journal of one thread refuses the command
pub spent_before_the_id_is_live : AreLegal [] (behind_one (c.Add 1 7 hi) spent None) small → ⊥
spent_before_the_id_is_live h = refused_without_a_file h.each.1.0.answered

-- spent at another number
pub spent_at_another_number : AreLegal [] (more (Refused (FileIdsSpent 2147483646)) None) small → ⊥
spent_at_another_number h = another_highest h.each.1.0.answered

-- a record that leaves a gap behind the last append
pub a_gap : AreLegal [] (step 1 (c.Add 1 7 hi) (Done (Appended 0)) (Some (at 16 (r.Add 1 7 hi))) ∷ step 2 (c.Add 2 7 []) (Done (Appended 1)) (Some (at 42 (r.Add 2 7 []))) ∷ []) usual → ⊥
a_gap h = ⊎_elim (λ e. omega arith) (λ e. omega arith) h.each.1.0.placed.3

-- a record of another command
pub another_record : AreLegal [] (step 1 (c.Add 1 7 hi) (Done (Appended 0)) (Some (at 16 (r.Add 1 7 []))) ∷ []) usual → ⊥
another_record h = let e : Some (r.Add 1 7 hi) ≡ Some (r.Add 1 7 []) = h.each.0.placed.0 in cc

-- a command that was accepted, and whose record isn't there
pub no_record_of_it : AreLegal [] (step 1 (c.Add 1 7 hi) (Done (Appended 0)) None ∷ []) usual → ⊥
no_record_of_it h = let e : Some (r.Add 1 7 hi) ≡ None = h.each.0.placed in cc

-- a transaction with a COMMIT of the number of its records, and of another
abbrev committed : ℕ → List Step
committed number = step 1 c.Begin (Done (Begun 1)) None
    ∷ step 2 (c.AddTx 1 3 7 []) (Done (Appended 0)) (Some (at 16 (r.AddTx 1 3 7 [])))
    ∷ step 3 (c.Commit 1) (Done (Appended 1)) (Some (at 47 (r.Commit 1 number)))
    ∷ []

pub a_sound_commit_is_legal : AreLegal [] (committed 1) usual
a_sound_commit_is_legal = record {
  each = (
    record { answered = inl refl; placed = refl },
    (
      record { answered = inl refl; placed = (refl, refl, omega arith, (refl, λ k d h. omega arith)) },
      (record { answered = inl refl; placed = (refl, refl, omega arith, inl (refl, refl)) }, tt),
    ),
  );
  opening = of_one_seat_3 _ _ _ refl refl refl;
} where
  of_one_seat_3 : (a b e : Step) → a.seat ≡ 1 → b.seat ≡ 1 → e.seat ≡ 1 → All (λ s. 0 < s.seat) (a ∷ b ∷ e ∷ [])
  of_one_seat_3 a b e h g f zero d i = omega arith
  of_one_seat_3 a b e h g f (suc zero) d i = omega arith
  of_one_seat_3 a b e h g f (suc (suc zero)) d i = omega arith
  of_one_seat_3 a b e h g f (suc (suc (suc k))) d i = omega arith

pub an_unsound_commit : AreLegal [] (committed 2) usual → ⊥
an_unsound_commit h = let e : Some (r.Commit 1 1) ≡ Some (r.Commit 1 2) = h.each.1.1.0.placed.0 in cc

-- ---- the opening's steps

-- a transaction that is open in what was loaded
abbrev left_open : List Placed
left_open = at 16 (r.AddTx 4 3 7 []) ∷ []

-- the opening's ROLLBACK of it, in a file of its own
abbrev opened : List Step
opened = record { seat = 0; number = 1; command = c.Rollback 4; answer = Done (Appended 0); placed = Some (record { file = 2; place = 16; compact = 0; rec = r.Rollback 4 }) } ∷ []

pub a_rollback_is_legal : AreLegal left_open opened usual
a_rollback_is_legal = record {
  each = (record { answered = inl refl; placed = (refl, refl, omega arith, (refl, below)) }, tt);
  opening = (record { seat = refl; number = refl; command = refl }, λ k d h. omega arith);
} where
  below : All (λ q. q.file < 2) left_open
  below zero d h = omega arith
  below (suc k) d h = omega arith

pub without_its_rollback : AreLegal left_open [] usual → ⊥
without_its_rollback h = h.opening

-- but an opening that was refused may lack it
pub an_opening_that_was_refused : AreLegalOfRefused left_open [] usual
an_opening_that_was_refused = record { each = tt; opening = tt }

-- no other step stands before it
pub a_step_before_it : AreLegalOfRefused left_open (step 1 c.Flush (Done (Durable 0)) None ∷ []) usual → ⊥
a_step_before_it h = let e : ◌≡◌ {A = ℕ} 1 0 = h.opening.0.seat in omega arith
