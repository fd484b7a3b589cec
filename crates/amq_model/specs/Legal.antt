-- The histories that a journal of one thread can have.
use Rattle.std.specs.Prelude.{◌≡◌, ℕ, ◌+◌, ◌-◌, ◌^◌, ◌<◌, ◌≤◌, ◌⊎◌, Bool, false, IsTrue, not, ◌&&◌, nat_lt, List, [], ◌∷◌, ◌++◌, filter, Option, Some, None, ◌==◌, All}
use Rattle.std.specs.List.{filter_map, list_any}
use Rattle.amq_model.specs.declared.record.Placed.{Placed}
use Rattle.amq_model.specs.declared.command.Command.{Command}
use Rattle.amq_model.specs.declared.command.Command.TheVariants.{Rollback}
use Rattle.amq_model.specs.declared.config.Config.{Config}
use Rattle.amq_model.specs.declared.history.Answer.{Answer}
use Rattle.amq_model.specs.declared.history.Answer.TheVariants.{Done, Refused}
use Rattle.amq_model.specs.declared.history.Step.{Step}
use Rattle.amq_model.specs.declared.refusal.Refusal.TheVariants.{FileIdsSpent}
use Rattle.amq_model.specs.RecordAt.{len_of}
use Rattle.amq_model.specs.Effect.{counted, prepared, ascending}
use Rattle.amq_model.specs.Answers.{tx_of, record_of, history_of, number_of, is_left_open, answer}

-- ---- where an append stands

-- where the record may stand: right behind the last append, or first in a file with a greater id; the first append, first in a file above those of base
abbrev pub StandsNext : List Placed → List Placed → Placed → Type 0
StandsNext base [] p = (p.place ≡ 16) × All (λ q. q.file < p.file) base
StandsNext base (q ∷ qs) p = elim qs [ [] ↦ ((p.file ≡ q.file) × (p.place ≡ q.place + len_of q.rec)) ⊎ ((q.file < p.file) × (p.place ≡ 16)) | s ∷ ss ↦ StandsNext base qs p ]

-- the number of records that makes a PREPARE or COMMIT in this file sound
abbrev pub number_for : List Placed → Command → ℕ → ℕ
number_for l command file = elim (tx_of command) [ None ↦ 0 | Some tx ↦ counted l tx file ]

-- what a command that was accepted has in `placed`: its record, or nothing where it has none
abbrev pub Appends : List Placed → List Step → Config → Command → Option Placed → Type 0
Appends base steps config command None = record_of command 0 ≡ None
Appends base steps config command (Some p) =
    (record_of command (number_for (base ++ history_of steps) command p.file) ≡ Some p.rec) × (p.compact ≡ 0) × (p.place + len_of p.rec ≤ config.file_size) × StandsNext base (history_of steps) p

-- a refused command appends nothing
abbrev pub Placing : List Placed → List Step → Config → Step → Type 0
Placing base steps config s = elim s.answer [ Done reply ↦ Appends base steps config s.command s.placed | Refused refusal ↦ s.placed ≡ None ]

-- ---- what is answered

-- where the last append ends, 16 before the first one
abbrev pub end_of : List Placed → ℕ
end_of [] = 16
end_of (q ∷ qs) = elim qs [ [] ↦ q.place + len_of q.rec | s ∷ ss ↦ end_of qs ]

-- the command's record, put right behind the last append, would end behind the file size
abbrev pub needs_file : List Placed → Config → Command → Bool
needs_file history config command = elim (record_of command 0) [ None ↦ false | Some rec ↦ nat_lt config.file_size (end_of history + len_of rec) ]

-- the command was accepted
abbrev pub IsDone : Answer → Type 0
IsDone (Done reply) = Unit {0}
IsDone (Refused refusal) = ⊥

-- The answer of the journal of one thread; or, where that accepts the command and its record needs a further file, that the numbers of files are spent.
abbrev pub IsAnswered : List Placed → List Step → Config → Command → Answer → Type 0
IsAnswered base steps config command a =
    (a ≡ answer base steps config command)
    ⊎ ((a ≡ Refused (FileIdsSpent (2 ^ 31 - 1))) × IsTrue (needs_file (history_of steps) config command) × IsDone (answer base steps config command))

-- ---- legal histories

-- the step is answered as it may be behind the steps before it, and its record stands where it may
pub record IsLegalStep (base : List Placed) (steps : List Step) (config : Config) (s : Step) : Type 0 where
  pub answered : IsAnswered base steps config s.command s.answer
  pub placed : Placing base steps config s

-- each step behind those before it
abbrev pub AreLegalFrom : List Placed → Config → List Step → List Step → Type 0
AreLegalFrom base config before [] = Unit {0}
AreLegalFrom base config before (s ∷ ss) = IsLegalStep base before config s × AreLegalFrom base config (before ++ s ∷ []) ss

-- the transactions that the opening rolls back: open in base and not prepared, ascending
abbrev pub rolled_back : List Placed → List ℕ
rolled_back base = filter (λ tx. is_left_open tx base && not (list_any (λ x. x.0 == tx) (prepared base))) (ascending (filter_map (λ p. number_of p.rec) base))

-- the opening's step of this number and transaction
pub record IsOpeningStep (n tx : ℕ) (s : Step) : Type 0 where
  pub seat : s.seat ≡ 0
  pub number : s.number ≡ n
  pub command : s.command ≡ Rollback tx

-- the steps of the opening, all of them, numbered from n, and then those of other seats
abbrev pub OpensWith : ℕ → List ℕ → List Step → Type 0
OpensWith n [] steps = All (λ s. 0 < s.seat) steps
OpensWith n (tx ∷ txs) [] = ⊥
OpensWith n (tx ∷ txs) (s ∷ ss) = IsOpeningStep n tx s × OpensWith (n + 1) txs ss

-- the first steps of the opening alone
abbrev pub OpensPartly : ℕ → List ℕ → List Step → Type 0
OpensPartly n txs [] = Unit {0}
OpensPartly n [] (s ∷ ss) = ⊥
OpensPartly n (tx ∷ txs) (s ∷ ss) = IsOpeningStep n tx s × OpensPartly (n + 1) txs ss

pub record AreLegal (base : List Placed) (steps : List Step) (config : Config) : Type 0 where
  pub each : AreLegalFrom base config [] steps
  pub opening : OpensWith 1 (rolled_back base) steps

-- The one exception: an opening that was refused may lack its last rollbacks, and no other step stands behind them.
pub record AreLegalOfRefused (base : List Placed) (steps : List Step) (config : Config) : Type 0 where
  pub each : AreLegalFrom base config [] steps
  pub opening : OpensPartly 1 (rolled_back base) steps
