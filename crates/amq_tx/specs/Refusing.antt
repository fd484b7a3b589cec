-- What refuses a command, by what a table knows.
use Rattle.std.specs.Prelude.{ℕ, ◌-◌, ◌^◌, Bool, true, false, ◌&&◌, nat_le, nat_eq, if◌then◌else◌, [], ◌∷◌, Option, Some, None, Result, Ok, Err}
use Rattle.std.specs.Map.{lookup}
use Rattle.amq_model.specs.declared.state.EntryEnd.{EntryEnd}
use Rattle.amq_model.specs.declared.state.EntryEnd.TheVariants.{Put, Gone}
use Rattle.amq_model.specs.declared.command.Command.{Command}
use Rattle.amq_model.specs.declared.command.Command.TheVariants as c
use Rattle.amq_model.specs.declared.refusal.Refusal.{Refusal}
use Rattle.amq_model.specs.declared.refusal.Refusal.TheVariants.{NoTx, TxPrepared, Held, AlreadyLive, NoRecord, TxNumbersSpent}
use Rattle.amq_model.specs.Answers.{tx_of, id_of, is_add, works_in_tx, first_some}
use Rattle.amq_tx.specs.State.{TurnState, TxState, first_but}

-- the refusal, if it is one
abbrev pub refused : {X : Type 0} → Result X Refusal → Option Refusal
refused (Ok x) = None
refused (Err refusal) = Some refusal

-- `NoTx` and `TxPrepared` of a command of this transaction, by whether it works in it
abbrev pub turn_refusal : Option TurnState → ℕ → Bool → Option Refusal
turn_refusal None tx works = Some (NoTx tx)
turn_refusal (Some t) tx works = if works && t.is_prepared then Some (TxPrepared tx) else None

-- `NoTx` and `TxPrepared`
abbrev pub tx_refusal_in : TxState → Command → Option Refusal
tx_refusal_in s command = elim (tx_of command) [ None ↦ None | Some tx ↦ turn_refusal (s.turns tx) tx (works_in_tx command) ]

-- the least open transaction but this one that touches the id
abbrev pub holder_in : TxState → ℕ → Option ℕ → Option ℕ
holder_in s id except = first_but except (s.touched id)

-- the refusal of an id that a transaction holds
abbrev pub held_by : ℕ → Option ℕ → Option Refusal
held_by id None = None
held_by id (Some tx) = Some (Held id tx)

-- `Held`
abbrev pub held_in : TxState → Command → Option Refusal
held_in s command = elim (id_of command) [ None ↦ None | Some id ↦ held_by id (holder_in s id (tx_of command)) ]

-- the id is live behind the records of a transaction that do this to it, if it was before them
abbrev pub live_after : Option EntryEnd → Bool → Bool
live_after None before = before
live_after (Some Put) before = true
live_after (Some Gone) before = false

-- the id is live in the view of a command of this transaction, or of a plain one
abbrev pub view_in : TxState → Option ℕ → ℕ → Bool
view_in s None id = s.live id
view_in s (Some tx) id = live_after (lookup (nat_eq tx) (s.touched id)) (s.live id)

-- `AlreadyLive` and `NoRecord` of an id, by whether it is live and whether the command adds it
abbrev pub live_refusal : ℕ → Bool → Bool → Option Refusal
live_refusal id is_live adds = if is_live then (if adds then Some (AlreadyLive id) else None) else (if adds then None else Some (NoRecord id))

-- `AlreadyLive` and `NoRecord`
abbrev pub id_refusal_in : TxState → Command → Option Refusal
id_refusal_in s command = elim (id_of command) [ None ↦ None | Some id ↦ live_refusal id (view_in s (tx_of command) id) (is_add command) ]

-- `TxNumbersSpent`
abbrev pub spent_in : TxState → Command → Option Refusal
spent_in s command = elim command [
  | c.Begin ↦ (if nat_le (2 ^ 63 - 1) s.highest then Some (TxNumbersSpent s.highest) else None)
  | c.Add id user_type body ↦ None
  | c.Update id user_type body ↦ None
  | c.Delete id ↦ None
  | c.AddTx tx id user_type body ↦ None
  | c.UpdateTx tx id user_type body ↦ None
  | c.DeleteTx tx id body ↦ None
  | c.Prepare tx extra ↦ None
  | c.Commit tx ↦ None
  | c.Rollback tx ↦ None
  | c.Flush ↦ None
]

-- the first of `NoTx`, `TxPrepared`, `Held`, `AlreadyLive`, `NoRecord` and `TxNumbersSpent` that holds
abbrev pub refusal_in : TxState → Command → Option Refusal
refusal_in s command = first_some (tx_refusal_in s command ∷ held_in s command ∷ id_refusal_in s command ∷ spent_in s command ∷ [])
