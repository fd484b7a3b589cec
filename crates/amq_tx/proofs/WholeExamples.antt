-- What a crash leaves of transactions over two files, and two histories of which it would leave one in part.
use Rattle.std.proofs.Common.{◌≡◌, inl, inr, ⊎_elim, ℕ, zero, suc, ◌<◌, true, false, List, [], ◌∷◌, ◌++◌, take, Option, Some, None, refl, ap, arith}
use Rattle.std.specs.Prelude.{All, Contains, map, ◌&&◌}
use Rattle.amq_model.specs.declared.record.Record.{Record}
use Rattle.amq_model.specs.declared.record.Record.TheVariants as r
use Rattle.amq_model.specs.declared.record.Placed.{Placed}
use Rattle.amq_model.specs.declared.command.Command.{Command}
use Rattle.amq_model.specs.declared.command.Command.TheVariants as c
use Rattle.amq_model.specs.declared.command.Reply.TheVariants.{Appended, Begun}
use Rattle.amq_model.specs.declared.config.Config.{Config}
use Rattle.amq_model.specs.declared.history.Answer.{Answer}
use Rattle.amq_model.specs.declared.history.Answer.TheVariants.{Done, Refused}
use Rattle.amq_model.specs.declared.history.Step.{Step}
use Rattle.amq_model.specs.declared.refusal.Refusal.TheVariants.{NoTx, FileIdsSpent}
use Rattle.amq_model.specs.Effect.{is_sound, live}
use Rattle.amq_model.specs.Answers.{history_of, answer}
use Rattle.amq_model.specs.Legal.{AreLegalFrom}
use Rattle.amq_model.specs.Kept.{IsPart, IsWhole}
use Rattle.amq_model.proofs.KeptExamples.{mixed_is_a_part, mixed_isnt_whole}
use Rattle.amq_tx.proofs.WholeKept.{left_is_whole}

abbrev usual : Config
usual = record { file_size = 10485760; min_files = 2; pool_files = None; compact_min_files = 10; compact_percentage = 30; buffer_size = 501760; buffer_timeout = 3; user_version = 0 }

abbrev at : ℕ → ℕ → Record → Placed
at file place rec = record { file = file; place = place; compact = 0; rec = rec }

abbrev step : ℕ → Command → Answer → Option Placed → Step
step number command reply placed = record { seat = 1; number = number; command = command; answer = reply; placed = placed }

-- ---- a transaction of three adds, the first of which stands in an earlier file

abbrev first : Placed
first = at 1 16 (r.AddTx 1 3 7 [])

abbrev second : Placed
second = at 2 16 (r.AddTx 1 4 7 [])

abbrev third : Placed
third = at 2 47 (r.AddTx 1 5 7 [])

abbrev last : Placed
last = at 2 78 (r.Commit 1 2)

abbrev begun : List Step
begun = step 1 c.Begin (Done (Begun 1)) None ∷ []

abbrev one_file : List Step
one_file = begun ++ step 2 (c.AddTx 1 3 7 []) (Done (Appended 0)) (Some first) ∷ []

abbrev steps : List Step
steps = one_file
    ++ step 3 (c.AddTx 1 4 7 []) (Done (Appended 1)) (Some second)
    ∷ step 4 (c.AddTx 1 5 7 []) (Done (Appended 2)) (Some third)
    ∷ step 5 (c.Commit 1) (Done (Appended 3)) (Some last)
    ∷ []

pub the_history : history_of steps ≡ (first ∷ []) ++ ((second ∷ third ∷ last ∷ []) ++ [])
the_history = refl

pub steps_are_legal : AreLegalFrom [] usual [] steps
steps_are_legal = (
  record { answered = inl refl; placed = refl },
  (
    record { answered = inl refl; placed = (refl, refl, omega arith, (refl, λ k d lt. omega arith)) },
    (
      record { answered = inl refl; placed = (refl, refl, omega arith, inr (omega arith, refl)) },
      (record { answered = inl refl; placed = (refl, refl, omega arith, inl (refl, refl)) }, (record { answered = inl refl; placed = (refl, refl, omega arith, inl (refl, refl)) }, tt)),
    ),
  ),
)

-- those that aren't durable stand in one file
in_second_file : All (λ p. p.file ≡ 2) (second ∷ third ∷ last ∷ [])
in_second_file zero d lt = refl
in_second_file (suc zero) d lt = refl
in_second_file (suc (suc zero)) d lt = refl
in_second_file (suc (suc (suc k))) d lt = absurd (omega arith)

pub whole_if_part : (left : List Placed) → IsPart left (second ∷ third ∷ last ∷ []) → IsWhole [] (history_of steps) (first ∷ left)
whole_if_part left part = left_is_whole [] usual steps (first ∷ []) (second ∷ third ∷ last ∷ []) [] left (first ∷ left) 2 steps_are_legal refl in_second_file refl part

-- all is kept: the COMMIT is sound, and the three adds are live
pub all_is_part : IsPart (second ∷ third ∷ last ∷ []) (second ∷ third ∷ last ∷ [])
all_is_part = inl (refl, inl (refl, inl (refl, tt)))

pub all_is_sound : is_sound (first ∷ second ∷ third ∷ []) last ≡ true
all_is_sound = refl

pub all_is_live : map (λ e. e.id) (live (first ∷ second ∷ third ∷ last ∷ [])) ≡ 3 ∷ 4 ∷ 5 ∷ []
all_is_live = refl

-- the add in the middle is lost: the COMMIT isn't sound, and nothing is live
pub lost_is_part : IsPart (third ∷ last ∷ []) (second ∷ third ∷ last ∷ [])
lost_is_part = inr (inl (refl, inl (refl, tt)))

pub lost_isnt_sound : is_sound (first ∷ third ∷ []) last ≡ false
lost_isnt_sound = refl

pub lost_isnt_live : live (first ∷ third ∷ last ∷ []) ≡ []
lost_isnt_live = refl

-- where the second add is durable too, it counts, and the COMMIT shows that the third is lost
pub durable_counts : is_sound (first ∷ second ∷ []) last ≡ false
durable_counts = refl

-- ---- a transaction that was prepared in what was loaded counts no record of a further file

abbrev base : List Placed
base = at 1 16 (r.AddTx 5 3 7 []) ∷ at 1 47 (r.Prepare 5 1 []) ∷ []

abbrev committed : List Step
committed = step 1 (c.Commit 5) (Done (Appended 0)) (Some (at 2 16 (r.Commit 5 0))) ∷ []

pub committed_is_legal : AreLegalFrom base usual [] committed
committed_is_legal = (record { answered = inl refl; placed = (refl, refl, omega arith, (refl, below)) }, tt) where
  below : All (λ q. q.file < 2) base
  below zero d lt = omega arith
  below (suc zero) d lt = omega arith
  below (suc (suc k)) d lt = omega arith

pub committed_is_live : map (λ e. e.id) (live (base ++ history_of committed)) ≡ 3 ∷ []
committed_is_live = refl

-- it has ended, and its number is given to no other
pub committed_again : answer base committed usual (c.Commit 5) ≡ Refused (NoTx 5)
committed_again = refl

pub another_number : answer base committed usual c.Begin ≡ Done (Begun 6)
another_number = refl

-- ---- an add that was refused since the numbers of files are spent

abbrev short : Config
short = record { file_size = 70; min_files = 2; pool_files = None; compact_min_files = 10; compact_percentage = 30; buffer_size = 501760; buffer_timeout = 3; user_version = 0 }

-- it needs a further file, and the COMMIT behind it doesn't
abbrev with_spent : List Step
with_spent = one_file
    ++ step 3 (c.AddTx 1 4 7 []) (Refused (FileIdsSpent 2147483647)) None
    ∷ step 4 (c.Commit 1) (Done (Appended 1)) (Some (at 1 47 (r.Commit 1 1)))
    ∷ []

pub with_spent_is_legal : AreLegalFrom [] short [] with_spent
with_spent_is_legal = (
  record { answered = inl refl; placed = refl },
  (
    record { answered = inl refl; placed = (refl, refl, omega arith, (refl, λ k d lt. omega arith)) },
    (record { answered = inr (refl, refl, tt); placed = refl }, (record { answered = inl refl; placed = (refl, refl, omega arith, inl (refl, refl)) }, tt)),
  ),
)

-- it has appended nothing: the transaction has the one add
pub with_spent_is_live : map (λ e. e.id) (live (history_of with_spent)) ≡ 3 ∷ []
with_spent_is_live = refl

-- ---- two histories of which a crash would leave a transaction in part

-- what isn't durable lies in two files: of a legal history the add may be lost, and the COMMIT in the next file is sound without it
abbrev over_two_files : List Step
over_two_files = one_file ++ step 3 (c.Commit 1) (Done (Appended 1)) (Some (at 2 16 (r.Commit 1 0))) ∷ []

pub over_two_files_is_legal : AreLegalFrom [] usual [] over_two_files
over_two_files_is_legal = (
  record { answered = inl refl; placed = refl },
  (record { answered = inl refl; placed = (refl, refl, omega arith, (refl, λ k d lt. omega arith)) }, (record { answered = inl refl; placed = (refl, refl, omega arith, inr (omega arith, refl)) }, tt)),
)

abbrev commit_alone : List Placed
commit_alone = at 2 16 (r.Commit 1 0) ∷ []

pub commit_alone_is_part : IsPart commit_alone (history_of over_two_files)
commit_alone_is_part = inr (inl (refl, tt))

pub commit_alone_isnt_whole : IsWhole [] (history_of over_two_files) commit_alone → ⊥
commit_alone_isnt_whole h = let all : All (Contains commit_alone) (first ∷ []) = h 0 1 (at 2 16 (r.Commit 1 0)) refl refl refl in found (all 0 first (omega arith)) where
  found : Contains commit_alone first → ⊥
  found (zero, below, e) = let files : ◌≡◌ {A = ℕ} 2 1 = ap (λ (p : Placed). p.file) e in omega arith
  found (suc k, below, e) = omega arith

-- A transaction goes on after its end, in one file: the second COMMIT is sound with one record of each turn.
abbrev turns : List Placed
turns = at 1 16 (r.DeleteTx 5 1 []) ∷ at 1 46 (r.DeleteTx 5 2 []) ∷ at 1 76 (r.Commit 5 2) ∷ at 1 98 (r.DeleteTx 5 3 []) ∷ at 1 128 (r.DeleteTx 5 4 []) ∷ at 1 158 (r.Commit 5 2) ∷ []

abbrev mixed : List Placed
mixed = at 1 16 (r.DeleteTx 5 1 []) ∷ at 1 98 (r.DeleteTx 5 3 []) ∷ at 1 158 (r.Commit 5 2) ∷ []

pub turns_are_sound : (is_sound (take 2 turns) (at 1 76 (r.Commit 5 2)) && is_sound (take 5 turns) (at 1 158 (r.Commit 5 2)) && is_sound (take 2 mixed) (at 1 158 (r.Commit 5 2))) ≡ true
turns_are_sound = refl

pub mixed_is_part : IsPart mixed turns
mixed_is_part = mixed_is_a_part

pub mixed_lacks_a_delete : IsWhole [] turns mixed → ⊥
mixed_lacks_a_delete = mixed_isnt_whole

-- but no history like this is legal: behind the first COMMIT the journal of one thread refuses the delete
pub no_second_turn : answer [] steps usual (c.DeleteTx 1 3 []) ≡ Refused (NoTx 1)
no_second_turn = refl

pub no_legal_turn : (k : ℕ) (p : Placed) → AreLegalFrom [] usual steps (step 6 (c.DeleteTx 1 3 []) (Done (Appended k)) (Some p) ∷ []) → ⊥
no_legal_turn k p legal = ⊎_elim (λ e. let f : Done (Appended k) ≡ Refused (NoTx 1) = e in cc) (λ e. e.2) legal.0.answered
