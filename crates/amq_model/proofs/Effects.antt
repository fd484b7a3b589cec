-- Small lists of records, and what loading them gives.
use Rattle.std.proofs.Common.{◌≡◌, ℕ, List, [], ◌∷◌, Some, None, refl}
use Rattle.amq_model.specs.declared.record.Record.{Record}
use Rattle.amq_model.specs.declared.record.Record.TheVariants.{Add, Update, AddTx, UpdateTx, DeleteTx, Delete, Prepare, Commit, Rollback}
use Rattle.amq_model.specs.declared.record.Placed.{Placed}
use Rattle.amq_model.specs.declared.state.EntryKind.TheVariants as kinds
use Rattle.amq_model.specs.declared.state.Entry.{Entry}
use Rattle.amq_model.specs.declared.state.Removal.{Removal}
use Rattle.amq_model.specs.declared.state.InDoubt.{InDoubt}
use Rattle.amq_model.specs.declared.state.LoadState.{LoadState}
use Rattle.amq_model.specs.Effect.{result_of, when}

abbrev at : ℕ → ℕ → Record → Placed
at file place rec = record { file = file; place = place; compact = 0; rec = rec }

abbrev hi : List ℕ
hi = 0x68 ∷ 0x69 ∷ []

abbrev yo : List ℕ
yo = 0x79 ∷ 0x6f ∷ []

abbrev added : ℕ → List ℕ → Entry
added id body = record { kind = kinds.Add; id = id; user_type = 7; body = body }

abbrev updated : ℕ → List ℕ → Entry
updated id body = record { kind = kinds.Update; id = id; user_type = 7; body = body }

-- what is live, and no transaction in doubt
abbrev only_live : List Entry → LoadState
only_live entries = record { live = entries; in_doubt = [] }

-- ---- plain records

pub nothing_at_all : result_of [] ≡ only_live []
nothing_at_all = refl

-- the one record that is left where the one before it has a broken size or length, or where padding stands before it
pub one_add : result_of (at 1 41 (Add 2 7 yo) ∷ []) ≡ only_live (added 2 yo ∷ [])
one_add = refl

pub an_add_behind_padding : result_of (at 1 512 (Add 1 7 hi) ∷ []) ≡ only_live (added 1 hi ∷ [])
an_add_behind_padding = refl

pub an_update_stands_beside_its_add : result_of (at 1 16 (Add 1 7 hi) ∷ at 1 41 (Update 1 7 yo) ∷ []) ≡ only_live (added 1 hi ∷ updated 1 yo ∷ [])
an_update_stands_beside_its_add = refl

pub a_delete_takes_both : result_of (at 1 16 (Add 1 7 hi) ∷ at 1 41 (Update 1 7 yo) ∷ at 1 66 (Delete 1) ∷ []) ≡ only_live []
a_delete_takes_both = refl

pub a_delete_takes_no_later_add : result_of (at 1 16 (Delete 1) ∷ at 1 34 (Add 1 7 hi) ∷ []) ≡ only_live (added 1 hi ∷ [])
a_delete_takes_no_later_add = refl

-- ---- COMMIT and ROLLBACK

pub a_commit_of_another_number : result_of (at 1 16 (AddTx 5 3 7 hi) ∷ at 1 82 (Commit 5 2) ∷ []) ≡ only_live []
a_commit_of_another_number = refl

pub a_sound_commit : result_of (at 1 16 (AddTx 5 3 7 hi) ∷ at 1 82 (Commit 5 1) ∷ []) ≡ only_live (added 3 hi ∷ [])
a_sound_commit = refl

pub a_commit_alone : result_of (at 1 16 (Commit 5 0) ∷ []) ≡ only_live []
a_commit_alone = refl

-- the number counts the COMMIT's own file alone
pub a_commit_in_a_later_file : result_of (at 1 16 (AddTx 5 3 7 hi) ∷ at 2 16 (Commit 5 0) ∷ []) ≡ only_live (added 3 hi ∷ [])
a_commit_in_a_later_file = refl

pub a_later_file_doesnt_count : result_of (at 1 16 (AddTx 5 3 7 hi) ∷ at 2 16 (Commit 5 1) ∷ []) ≡ only_live []
a_later_file_doesnt_count = refl

pub a_commit_of_another_transaction : result_of (at 1 16 (AddTx 5 3 7 hi) ∷ at 1 49 (Commit 6 1) ∷ []) ≡ only_live []
a_commit_of_another_transaction = refl

pub a_rollback : result_of (at 1 16 (AddTx 5 3 7 hi) ∷ at 1 49 (Rollback 5) ∷ []) ≡ only_live []
a_rollback = refl

-- the first end decides: a COMMIT behind a ROLLBACK has nothing left to count
pub a_commit_behind_a_rollback : result_of (at 1 16 (AddTx 5 3 7 hi) ∷ at 1 49 (Rollback 5) ∷ at 1 67 (Commit 5 1) ∷ []) ≡ only_live []
a_commit_behind_a_rollback = refl

pub a_second_commit_adds_nothing : result_of (at 1 16 (AddTx 5 3 7 hi) ∷ at 1 49 (Commit 5 1) ∷ at 1 71 (Commit 5 0) ∷ []) ≡ only_live (added 3 hi ∷ [])
a_second_commit_adds_nothing = refl

-- an end that isn't sound ends its transaction all the same
pub an_unsound_commit_ends : result_of (at 1 16 (AddTx 5 3 7 hi) ∷ at 1 49 (Commit 5 2) ∷ at 1 71 (Commit 5 1) ∷ []) ≡ only_live []
an_unsound_commit_ends = refl

-- a number that was used again behind an end counts from there
pub a_number_used_again : result_of (at 1 16 (AddTx 5 3 7 hi) ∷ at 1 49 (Commit 5 1) ∷ at 1 71 (AddTx 5 4 7 yo) ∷ at 1 104 (Commit 5 1) ∷ []) ≡ only_live (added 3 hi ∷ added 4 yo ∷ [])
a_number_used_again = refl

pub a_number_used_again_counts_anew : result_of (at 1 16 (AddTx 5 3 7 hi) ∷ at 1 49 (Commit 5 1) ∷ at 1 71 (AddTx 5 4 7 yo) ∷ at 1 104 (Commit 5 2) ∷ []) ≡ only_live (added 3 hi ∷ [])
a_number_used_again_counts_anew = refl

-- ---- order of effect

-- a transaction's records take effect at its COMMIT, by their own places
pub an_add_of_a_transaction_comes_later : result_of (at 1 16 (AddTx 5 3 7 hi) ∷ at 1 49 (Add 1 7 yo) ∷ at 1 74 (AddTx 5 4 7 []) ∷ at 1 105 (Commit 5 2) ∷ [])
    ≡ only_live (added 1 yo ∷ added 3 hi ∷ added 4 [] ∷ [])
an_add_of_a_transaction_comes_later = refl

pub a_delete_of_a_transaction : result_of (at 1 16 (Add 1 7 hi) ∷ at 1 41 (DeleteTx 5 1 []) ∷ at 1 71 (Commit 5 1) ∷ []) ≡ only_live []
a_delete_of_a_transaction = refl

-- it takes an add that stands behind it and before its COMMIT
pub a_delete_takes_effect_at_its_commit : result_of (at 1 16 (DeleteTx 5 1 []) ∷ at 1 46 (Add 1 7 hi) ∷ at 1 71 (Commit 5 1) ∷ at 1 93 (Add 1 7 yo) ∷ []) ≡ only_live (added 1 yo ∷ [])
a_delete_takes_effect_at_its_commit = refl

pub a_delete_that_was_rolled_back : result_of (at 1 16 (Add 1 7 hi) ∷ at 1 41 (DeleteTx 5 1 []) ∷ at 1 71 (Rollback 5) ∷ []) ≡ only_live (added 1 hi ∷ [])
a_delete_that_was_rolled_back = refl

pub when_of_a_committed : when (at 1 16 (AddTx 5 3 7 hi) ∷ at 1 49 (Add 1 7 yo) ∷ at 1 74 (Commit 5 1) ∷ []) 0 ≡ Some 2
when_of_a_committed = refl

pub when_of_a_plain_record : when (at 1 16 (AddTx 5 3 7 hi) ∷ at 1 49 (Add 1 7 yo) ∷ at 1 74 (Commit 5 1) ∷ []) 1 ≡ Some 1
when_of_a_plain_record = refl

pub when_of_an_open_record : when (at 1 16 (AddTx 5 3 7 hi) ∷ at 1 49 (Add 1 7 yo) ∷ []) 0 ≡ None
when_of_an_open_record = refl

-- ---- in doubt

abbrev doubted : ℕ → List ℕ → List Entry → List Removal → InDoubt
doubted tx extra records deletes = record { tx = tx; extra = extra; records = records; deletes = deletes }

pub a_sound_prepare : result_of (at 1 16 (AddTx 1 3 7 hi) ∷ at 1 49 (Prepare 1 1 (1 ∷ 2 ∷ [])) ∷ [])
    ≡ record { live = []; in_doubt = doubted 1 (1 ∷ 2 ∷ []) (added 3 hi ∷ []) [] ∷ [] }
a_sound_prepare = refl

pub a_prepare_of_another_number : result_of (at 1 16 (AddTx 1 3 7 hi) ∷ at 1 49 (Prepare 1 2 (1 ∷ 2 ∷ [])) ∷ []) ≡ only_live []
a_prepare_of_another_number = refl

pub a_prepare_alone : result_of (at 1 16 (Prepare 1 0 []) ∷ []) ≡ record { live = []; in_doubt = doubted 1 [] [] [] ∷ [] }
a_prepare_alone = refl

-- a record behind the PREPARE belongs to the transaction, which stays in doubt by its last sound PREPARE
pub a_record_behind_a_prepare : result_of (at 1 16 (AddTx 1 3 7 hi) ∷ at 1 49 (Prepare 1 1 (1 ∷ [])) ∷ at 1 76 (UpdateTx 1 3 7 yo) ∷ at 1 109 (Prepare 1 1 (2 ∷ [])) ∷ [])
    ≡ record { live = []; in_doubt = doubted 1 (1 ∷ []) (added 3 hi ∷ updated 3 yo ∷ []) [] ∷ [] }
a_record_behind_a_prepare = refl

pub the_last_sound_prepare : result_of (at 1 16 (AddTx 1 3 7 hi) ∷ at 1 49 (Prepare 1 1 (1 ∷ [])) ∷ at 1 76 (DeleteTx 1 3 yo) ∷ at 1 108 (Prepare 1 2 (2 ∷ [])) ∷ [])
    ≡ record { live = []; in_doubt = doubted 1 (2 ∷ []) (added 3 hi ∷ []) (record { id = 3; body = yo } ∷ []) ∷ [] }
the_last_sound_prepare = refl

pub a_prepare_that_was_committed : result_of (at 1 16 (AddTx 1 3 7 hi) ∷ at 1 49 (Prepare 1 1 []) ∷ at 1 75 (Commit 1 1) ∷ []) ≡ only_live (added 3 hi ∷ [])
a_prepare_that_was_committed = refl

pub a_prepare_that_was_rolled_back : result_of (at 1 16 (AddTx 1 3 7 hi) ∷ at 1 49 (Prepare 1 1 []) ∷ at 1 75 (Rollback 1) ∷ []) ≡ only_live []
a_prepare_that_was_rolled_back = refl

-- a COMMIT that isn't sound is an end too
pub a_prepare_behind_an_unsound_end : result_of (at 1 16 (AddTx 1 3 7 hi) ∷ at 1 49 (Prepare 1 1 []) ∷ at 1 75 (Commit 1 7) ∷ at 1 97 (AddTx 1 4 7 yo) ∷ at 1 130 (Prepare 1 1 (9 ∷ [])) ∷ [])
    ≡ record { live = []; in_doubt = doubted 1 (9 ∷ []) (added 4 yo ∷ []) [] ∷ [] }
a_prepare_behind_an_unsound_end = refl

-- by number, whatever the order of the PREPAREs
pub by_number : result_of (at 1 16 (Prepare 7 0 (1 ∷ [])) ∷ at 1 43 (Prepare 2 0 (3 ∷ [])) ∷ []) ≡ record { live = []; in_doubt = doubted 2 (3 ∷ []) [] [] ∷ doubted 7 (1 ∷ []) [] [] ∷ [] }
by_number = refl

-- a delete has no effect while its transaction is in doubt
pub a_delete_in_doubt : result_of (at 1 16 (Add 1 7 hi) ∷ at 1 41 (DeleteTx 5 1 []) ∷ at 1 71 (Prepare 5 1 []) ∷ [])
    ≡ record { live = added 1 hi ∷ []; in_doubt = doubted 5 [] [] (record { id = 1; body = [] } ∷ []) ∷ [] }
a_delete_in_doubt = refl
