-- What an accepted command makes of what a table knows.
use Rattle.std.specs.Prelude.{◌<◌, ◌-◌, ◌^◌, ℕ, ◌+◌, Bool, true, false, nat_eq, [], ◌∷◌, Option, Some, None}
use Rattle.std.specs.Option.{option_map}
use Rattle.std.specs.Map.{lookup}
use Rattle.amq_model.specs.declared.state.EntryEnd.{EntryEnd}
use Rattle.amq_model.specs.declared.state.EntryEnd.TheVariants.{Put, Gone}
use Rattle.amq_model.specs.declared.command.Command.{Command}
use Rattle.amq_model.specs.declared.command.Command.TheVariants as c
use Rattle.amq_model.specs.Answers.{tx_of}
use Rattle.amq_tx.specs.State.{TurnState, TxState, put, without, count_of}
use Rattle.amq_tx.specs.Refusing.{live_after}

-- a transaction with no record
abbrev pub begun : TurnState
begun = record { is_prepared = false; counts = λ file. 0 }

-- one add, update or delete more in the file
abbrev pub one_more : ℕ → TurnState → TurnState
one_more file t = record { is_prepared = t.is_prepared; counts = put file (t.counts file + 1) t.counts }

-- it has a sound PREPARE
abbrev pub prepared_now : TurnState → TurnState
prepared_now t = record { is_prepared = true; counts = t.counts }

-- the next number is given
abbrev pub with_begin : TxState → TxState
with_begin s = record { live = s.live; touched = s.touched; turns = put (s.highest + 1) (Some begun) s.turns; highest = s.highest + 1 }

-- the id is live, or isn't
abbrev pub with_live : ℕ → Bool → TxState → TxState
with_live id is_live s = record { live = put id is_live s.live; touched = s.touched; turns = s.turns; highest = s.highest }

-- an add, update or delete of an id that no other transaction holds
abbrev pub with_change : ℕ → ℕ → EntryEnd → ℕ → TxState → TxState
with_change tx id end file s = record {
  live = s.live;
  touched = put id ((tx, end) ∷ []) s.touched;
  turns = put tx (option_map (one_more file) (s.turns tx)) s.turns;
  highest = s.highest;
}

-- a PREPARE
abbrev pub with_prepare : ℕ → TxState → TxState
with_prepare tx s = record { live = s.live; touched = s.touched; turns = put tx (option_map prepared_now (s.turns tx)) s.turns; highest = s.highest }

-- the transaction's records take effect
abbrev pub with_commit : ℕ → TxState → TxState
with_commit tx s = record {
  live = λ id. live_after (lookup (nat_eq tx) (s.touched id)) (s.live id);
  touched = λ id. without tx (s.touched id);
  turns = put tx None s.turns;
  highest = s.highest;
}

-- the transaction ends without effect
abbrev pub with_rollback : ℕ → TxState → TxState
with_rollback tx s = record { live = s.live; touched = λ id. without tx (s.touched id); turns = put tx None s.turns; highest = s.highest }

-- behind the command, whose record stands in this file
abbrev pub state_after : Command → ℕ → TxState → TxState
state_after (c.Add id user_type body) file s = with_live id true s
state_after (c.Update id user_type body) file s = s
state_after (c.Delete id) file s = with_live id false s
state_after c.Begin file s = with_begin s
state_after (c.AddTx tx id user_type body) file s = with_change tx id Put file s
state_after (c.UpdateTx tx id user_type body) file s = with_change tx id Put file s
state_after (c.DeleteTx tx id body) file s = with_change tx id Gone file s
state_after (c.Prepare tx extra) file s = with_prepare tx s
state_after (c.Commit tx) file s = with_commit tx s
state_after (c.Rollback tx) file s = with_rollback tx s
state_after c.Flush file s = s

-- the number that the command is given, if it is a Begin
abbrev pub number_given : TxState → Command → Option ℕ
number_given s command = elim command [
  | c.Begin ↦ Some (s.highest + 1)
  | c.Add id user_type body ↦ None
  | c.Update id user_type body ↦ None
  | c.Delete id ↦ None
  | c.AddTx tx id user_type body ↦ None
  | c.UpdateTx tx id user_type body ↦ None
  | c.DeleteTx tx id body ↦ None
  | c.Prepare tx extra ↦ None
  | c.Commit tx ↦ None
  | c.Rollback tx ↦ None
  | c.Flush ↦ None
]

-- the count of the command's transaction in the file may rise
abbrev pub CountFits : TxState → Command → ℕ → Type 0
CountFits s command file = elim (tx_of command) [ None ↦ Unit {0} | Some tx ↦ count_of (s.turns tx) file < 2 ^ 32 - 1 ]
