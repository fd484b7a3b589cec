-- Small lists of records, their open transactions and their highest number.
use Rattle.std.proofs.Common.{◌≡◌, ℕ, Bool, true, false, List, [], ◌∷◌, refl}
use Rattle.amq_model.specs.declared.record.Record.{Record}
use Rattle.amq_model.specs.declared.record.Record.TheVariants.{Add, AddTx, UpdateTx, DeleteTx, Prepare, Commit, Rollback}
use Rattle.amq_model.specs.declared.record.Placed.{Placed}
use Rattle.amq_model.specs.declared.state.EntryEnd.{EntryEnd}
use Rattle.amq_model.specs.declared.state.EntryEnd.TheVariants.{Put, Gone}
use Rattle.amq_model.specs.declared.state.OpenTx.{OpenTx}
use Rattle.amq_model.specs.Open.{open_txs, highest_of}

abbrev at : ℕ → Record → Placed
at place rec = record { file = 1; place = place; compact = 0; rec = rec }

abbrev opened : ℕ → Bool → List (ℕ × EntryEnd) → OpenTx
opened tx prepared touched = record { tx = tx; prepared = prepared; touched = touched }

pub no_transaction : open_txs (at 16 (Add 1 7 []) ∷ []) ≡ []
no_transaction = refl

pub an_open_add : open_txs (at 16 (AddTx 5 3 7 []) ∷ []) ≡ opened 5 false ((3, Put) ∷ []) ∷ []
an_open_add = refl

pub an_end_closes : open_txs (at 16 (AddTx 5 3 7 []) ∷ at 47 (Rollback 5) ∷ []) ≡ []
an_end_closes = refl

pub an_unsound_commit_closes : open_txs (at 16 (AddTx 5 3 7 []) ∷ at 47 (Commit 5 2) ∷ []) ≡ []
an_unsound_commit_closes = refl

pub a_record_behind_opens_again : open_txs (at 16 (AddTx 5 3 7 []) ∷ at 47 (Rollback 5) ∷ at 65 (UpdateTx 5 4 7 []) ∷ []) ≡ opened 5 false ((4, Put) ∷ []) ∷ []
a_record_behind_opens_again = refl

pub a_prepare_alone_opens : open_txs (at 16 (Prepare 5 1 []) ∷ []) ≡ opened 5 false [] ∷ []
a_prepare_alone_opens = refl

pub a_sound_prepare : open_txs (at 16 (AddTx 5 3 7 []) ∷ at 47 (Prepare 5 1 []) ∷ []) ≡ opened 5 true ((3, Put) ∷ []) ∷ []
a_sound_prepare = refl

pub the_last_record_decides : open_txs (at 16 (AddTx 5 3 7 []) ∷ at 47 (DeleteTx 5 3 []) ∷ at 77 (DeleteTx 5 2 []) ∷ at 107 (AddTx 5 2 7 []) ∷ []) ≡ opened 5 false ((2, Put) ∷ (3, Gone) ∷ []) ∷ []
the_last_record_decides = refl

pub by_number : open_txs (at 16 (AddTx 6 3 7 []) ∷ at 47 (AddTx 5 4 7 []) ∷ at 78 (Rollback 7) ∷ []) ≡ opened 5 false ((4, Put) ∷ []) ∷ opened 6 false ((3, Put) ∷ []) ∷ []
by_number = refl

pub an_end_has_a_number : highest_of (at 16 (AddTx 6 3 7 []) ∷ at 47 (Rollback 9) ∷ at 65 (Commit 2 0) ∷ []) ≡ 9
an_end_has_a_number = refl

pub no_number : highest_of (at 16 (Add 1 7 []) ∷ []) ≡ 0
no_number = refl
