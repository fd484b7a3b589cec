-- The journal of one thread: what each command is answered.
use Rattle.std.specs.Prelude.{ℕ, ◌+◌, ◌-◌, ◌^◌, min, max, Bool, true, false, not, ◌&&◌, ◌||◌, nat_lt, nat_le, if◌then◌else◌, List, [], ◌∷◌, ◌++◌, length, fold, filter, Option, Some, None, ◌==◌}
use Rattle.std.specs.List.{filter_map, list_any}
use Rattle.amq_model.specs.declared.record.Record.{Record}
use Rattle.amq_model.specs.declared.record.Record.TheVariants as r
use Rattle.amq_model.specs.declared.record.Placed.{Placed}
use Rattle.amq_model.specs.declared.command.Command.{Command}
use Rattle.amq_model.specs.declared.command.Command.TheVariants as c
use Rattle.amq_model.specs.declared.command.Reply.TheVariants.{Appended, Begun, Durable}
use Rattle.amq_model.specs.declared.config.Config.{Config}
use Rattle.amq_model.specs.declared.history.Answer.{Answer}
use Rattle.amq_model.specs.declared.history.Answer.TheVariants.{Done, Refused}
use Rattle.amq_model.specs.declared.history.Step.{Step}
use Rattle.amq_model.specs.declared.refusal.Refusal.{Refusal}
use Rattle.amq_model.specs.declared.refusal.Refusal.TheVariants.{TooLarge, NoTx, TxPrepared, Held, AlreadyLive, NoRecord, TxNumbersSpent}
use Rattle.amq_model.specs.RecordAt.{len_of}
use Rattle.amq_model.specs.Effect.{ends, deletes, entry_of, open_changes, live, prepared, ascending}

-- ---- the parts of a command

-- the transaction that a command names
abbrev pub tx_of : Command → Option ℕ
tx_of (c.AddTx tx id user_type body) = Some tx
tx_of (c.UpdateTx tx id user_type body) = Some tx
tx_of (c.DeleteTx tx id body) = Some tx
tx_of (c.Prepare tx extra) = Some tx
tx_of (c.Commit tx) = Some tx
tx_of (c.Rollback tx) = Some tx
tx_of (c.Add id user_type body) = None
tx_of (c.Update id user_type body) = None
tx_of (c.Delete id) = None
tx_of c.Begin = None
tx_of c.Flush = None

-- the id that a command names
abbrev pub id_of : Command → Option ℕ
id_of (c.Add id user_type body) = Some id
id_of (c.Update id user_type body) = Some id
id_of (c.Delete id) = Some id
id_of (c.AddTx tx id user_type body) = Some id
id_of (c.UpdateTx tx id user_type body) = Some id
id_of (c.DeleteTx tx id body) = Some id
id_of c.Begin = None
id_of (c.Prepare tx extra) = None
id_of (c.Commit tx) = None
id_of (c.Rollback tx) = None
id_of c.Flush = None

-- an add, plain or of a transaction
abbrev pub is_add : Command → Bool
is_add (c.Add id user_type body) = true
is_add (c.AddTx tx id user_type body) = true
is_add (c.Update id user_type body) = false
is_add (c.Delete id) = false
is_add c.Begin = false
is_add (c.UpdateTx tx id user_type body) = false
is_add (c.DeleteTx tx id body) = false
is_add (c.Prepare tx extra) = false
is_add (c.Commit tx) = false
is_add (c.Rollback tx) = false
is_add c.Flush = false

-- an add, update, delete or prepare of a transaction
abbrev pub works_in_tx : Command → Bool
works_in_tx (c.AddTx tx id user_type body) = true
works_in_tx (c.UpdateTx tx id user_type body) = true
works_in_tx (c.DeleteTx tx id body) = true
works_in_tx (c.Prepare tx extra) = true
works_in_tx (c.Add id user_type body) = false
works_in_tx (c.Update id user_type body) = false
works_in_tx (c.Delete id) = false
works_in_tx c.Begin = false
works_in_tx (c.Commit tx) = false
works_in_tx (c.Rollback tx) = false
works_in_tx c.Flush = false

-- the record of a command, with this number of records
abbrev pub record_of : Command → ℕ → Option Record
record_of (c.Add id user_type body) n = Some (r.Add id user_type body)
record_of (c.Update id user_type body) n = Some (r.Update id user_type body)
record_of (c.Delete id) n = Some (r.Delete id)
record_of c.Begin n = None
record_of (c.AddTx tx id user_type body) n = Some (r.AddTx tx id user_type body)
record_of (c.UpdateTx tx id user_type body) n = Some (r.UpdateTx tx id user_type body)
record_of (c.DeleteTx tx id body) n = Some (r.DeleteTx tx id body)
record_of (c.Prepare tx extra) n = Some (r.Prepare tx n extra)
record_of (c.Commit tx) n = Some (r.Commit tx n)
record_of (c.Rollback tx) n = Some (r.Rollback tx)
record_of c.Flush n = None

-- ---- what the journal knows

-- the append history of these steps
abbrev pub history_of : List Step → List Placed
history_of steps = filter_map (λ s. s.placed) steps

-- the transaction of a record
abbrev pub number_of : Record → Option ℕ
number_of (r.AddTx tx id user_type body) = Some tx
number_of (r.UpdateTx tx id user_type body) = Some tx
number_of (r.DeleteTx tx id body) = Some tx
number_of (r.Prepare tx count extra) = Some tx
number_of (r.Commit tx count) = Some tx
number_of (r.Rollback tx) = Some tx
number_of _ = None

-- it is this number
abbrev pub is_some_of : Option ℕ → ℕ → Bool
is_some_of None n = false
is_some_of (Some m) n = m == n

-- a record of the transaction that is no end has no end behind it
abbrev pub is_left_open : ℕ → List Placed → Bool
is_left_open tx [] = false
is_left_open tx (p ∷ ps) = (is_some_of (number_of p.rec) tx && not (ends tx p) && not (list_any (ends tx) ps)) || is_left_open tx ps

-- whether the transaction is open behind the step, if it was before it
abbrev pub open_behind : ℕ → Bool → Step → Bool
open_behind tx before s = elim s.answer [
  | Done reply ↦ elim reply [
    | Begun n ↦ before || n == tx
    | _ ↦ elim s.command [
      | c.Add id user_type body ↦ before
      | c.Update id user_type body ↦ before
      | c.Delete id ↦ before
      | c.Begin ↦ before
      | c.AddTx n id user_type body ↦ before
      | c.UpdateTx n id user_type body ↦ before
      | c.DeleteTx n id body ↦ before
      | c.Prepare n extra ↦ before
      | c.Commit n ↦ before && not (n == tx)
      | c.Rollback n ↦ before && not (n == tx)
      | c.Flush ↦ before
    ]
  ]
  | Refused refusal ↦ before
]

-- open: given or left open in base, and no accepted Commit or Rollback follows
abbrev pub is_open : List Placed → List Step → ℕ → Bool
is_open base steps tx = fold (open_behind tx) (is_left_open tx base) steps

-- open, with a sound PREPARE and no end behind it
abbrev pub is_prepared : List Placed → List Step → ℕ → Bool
is_prepared base steps tx = is_open base steps tx && list_any (λ x. x.0 == tx) (prepared (base ++ history_of steps))

-- the id is live behind the record, if it was before it
abbrev pub live_behind : ℕ → Bool → Placed → Bool
live_behind id before p = if deletes id p then false else elim (entry_of p) [ None ↦ before | Some e ↦ before || e.id == id ]

-- the id is live in the view of a command of this transaction, or of a plain one
abbrev pub in_view : List Placed → Option ℕ → ℕ → Bool
in_view l None id = list_any (λ e. e.id == id) (live l)
in_view l (Some tx) id = fold (live_behind id) (list_any (λ e. e.id == id) (live l)) (open_changes tx l)

-- the record is an add, update or delete of the id
abbrev pub touches : ℕ → Placed → Bool
touches id p = deletes id p || elim (entry_of p) [ None ↦ false | Some e ↦ e.id == id ]

-- the open transactions but this one that have an open record of the id, ascending
abbrev pub holders : List Placed → List Step → Option ℕ → ℕ → List ℕ
holders base steps own id = let l = base ++ history_of steps in
    filter (λ tx. not (is_some_of own tx) && is_open base steps tx && list_any (touches id) (open_changes tx l)) (ascending (filter_map (λ p. number_of p.rec) l))

-- the number that the step gave
abbrev pub begun_in : Step → Option ℕ
begun_in s = elim s.answer [ Done reply ↦ elim reply [ Begun n ↦ Some n | _ ↦ None ] | Refused refusal ↦ None ]

-- the highest number seen or given
abbrev pub highest : List Placed → List Step → ℕ
highest base steps = fold max 0 (filter_map (λ p. number_of p.rec) base ++ filter_map begun_in steps)

-- ---- answers

-- the longest record
abbrev pub limit : Config → ℕ
limit config = min config.buffer_size (config.file_size - 16)

-- `TooLarge`: its record is longer than the longest
abbrev pub too_large : Config → Command → Option Refusal
too_large config command = elim (record_of command 0) [ None ↦ None | Some rec ↦ (if nat_lt (limit config) (len_of rec) then Some (TooLarge (len_of rec) (limit config)) else None) ]

-- `NoTx` and `TxPrepared`: the transaction that it names isn't open, or is prepared and the command works in it
abbrev pub tx_refusal : List Placed → List Step → Command → Option Refusal
tx_refusal base steps command = elim (tx_of command) [
  | None ↦ None
  | Some tx ↦ (if is_open base steps tx then (if works_in_tx command && is_prepared base steps tx then Some (TxPrepared tx) else None) else Some (NoTx tx))
]

-- `Held`: another open transaction has a record of the id
abbrev pub held : List Placed → List Step → Command → Option Refusal
held base steps command = elim (id_of command) [ None ↦ None | Some id ↦ elim (holders base steps (tx_of command) id) [ [] ↦ None | tx ∷ others ↦ Some (Held id tx) ] ]

-- `AlreadyLive` and `NoRecord`: it adds an id that is live in its view, or updates or deletes one that isn't
abbrev pub id_refusal : List Placed → List Step → Command → Option Refusal
id_refusal base steps command = elim (id_of command) [
  | None ↦ None
  | Some id ↦ (if in_view (base ++ history_of steps) (tx_of command) id then (if is_add command then Some (AlreadyLive id) else None) else (if is_add command then None else Some (NoRecord id)))
]

-- `TxNumbersSpent`: a begin, and no number is left
abbrev pub spent : List Placed → List Step → Command → Option Refusal
spent base steps command = elim command [
  | c.Begin ↦ (if nat_le (2 ^ 63 - 1) (highest base steps) then Some (TxNumbersSpent (highest base steps)) else None)
  | c.Add id user_type body ↦ None
  | c.Update id user_type body ↦ None
  | c.Delete id ↦ None
  | c.AddTx tx id user_type body ↦ None
  | c.UpdateTx tx id user_type body ↦ None
  | c.DeleteTx tx id body ↦ None
  | c.Prepare tx extra ↦ None
  | c.Commit tx ↦ None
  | c.Rollback tx ↦ None
  | c.Flush ↦ None
]

-- the first that there is
abbrev pub first_some : {X : Type 0} → List (Option X) → Option X
first_some [] = None
first_some (o ∷ os) = elim o [ Some x ↦ Some x | None ↦ first_some os ]

-- the answer where nothing is refused
abbrev pub accepted : List Placed → List Step → Command → Answer
accepted base steps command = elim command [
  | c.Begin ↦ Done (Begun (highest base steps + 1))
  | c.Flush ↦ Done (Durable (length (history_of steps)))
  | c.Add id user_type body ↦ Done (Appended (length (history_of steps)))
  | c.Update id user_type body ↦ Done (Appended (length (history_of steps)))
  | c.Delete id ↦ Done (Appended (length (history_of steps)))
  | c.AddTx tx id user_type body ↦ Done (Appended (length (history_of steps)))
  | c.UpdateTx tx id user_type body ↦ Done (Appended (length (history_of steps)))
  | c.DeleteTx tx id body ↦ Done (Appended (length (history_of steps)))
  | c.Prepare tx extra ↦ Done (Appended (length (history_of steps)))
  | c.Commit tx ↦ Done (Appended (length (history_of steps)))
  | c.Rollback tx ↦ Done (Appended (length (history_of steps)))
]

-- the refusal of the journal of one thread: the first of `TooLarge`, `NoTx`, `TxPrepared`, `Held`, `AlreadyLive`, `NoRecord` and `TxNumbersSpent` that holds
abbrev pub refusal : List Placed → List Step → Config → Command → Option Refusal
refusal base steps config command = first_some (too_large config command ∷ tx_refusal base steps command ∷ held base steps command ∷ id_refusal base steps command ∷ spent base steps command ∷ [])

-- what the journal of one thread answers
abbrev pub answer : List Placed → List Step → Config → Command → Answer
answer base steps config command = elim (refusal base steps config command) [
  | Some refusal ↦ Refused refusal
  | None ↦ accepted base steps command
]
