-- What a table tells, and what it has room for.
use Rattle.std.specs.Prelude.{◌≤◌, ◌<◌, ℕ, nat_eq, length}
use Rattle.std.specs.Option.{option_map}
use Rattle.std.specs.HashMap.{get, spare}
use Rattle.std.specs.HashSet as bag
use Rattle.amq_model.specs.declared.command.Command.{Command}
use Rattle.amq_model.specs.declared.command.Command.TheVariants as c
use Rattle.amq_tx.specs.declared.table.TxTable.{TxTable}
use Rattle.amq_tx.specs.State.{TxState}
use Rattle.amq_tx.specs.Parts.{listed, turn_of, ids_of, TurnHasRoom}

-- what the table tells
abbrev pub state_of : TxTable → TxState
state_of t = record {
  live = bag.contains nat_eq t.live;
  touched = λ id. listed (get nat_eq t.touched id);
  turns = λ tx. option_map turn_of (get nat_eq t.turns tx);
  highest = t.highest;
}

-- there is room for a record of the transaction
abbrev pub ChangeHasRoom : TxTable → ℕ → Type 0
ChangeHasRoom t tx = (0 < spare t.touched) × TurnHasRoom (get nat_eq t.turns tx)

-- there is room for what the command adds to the table
abbrev pub HasRoom : TxTable → Command → Type 0
HasRoom t (c.Add id user_type body) = 0 < bag.spare t.live
HasRoom t c.Begin = 0 < spare t.turns
HasRoom t (c.AddTx tx id user_type body) = ChangeHasRoom t tx
HasRoom t (c.UpdateTx tx id user_type body) = ChangeHasRoom t tx
HasRoom t (c.DeleteTx tx id body) = ChangeHasRoom t tx
HasRoom t (c.Commit tx) = length (ids_of (get nat_eq t.turns tx)) ≤ bag.spare t.live
HasRoom t (c.Update id user_type body) = Unit {0}
HasRoom t (c.Delete id) = Unit {0}
HasRoom t (c.Prepare tx extra) = Unit {0}
HasRoom t (c.Rollback tx) = Unit {0}
HasRoom t c.Flush = Unit {0}
