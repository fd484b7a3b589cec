-- Records of no transaction, and commands for them.
use Rattle.amq_model.specs.declared.record.Record.{Record}
use Rattle.amq_model.specs.declared.record.Record.TheVariants as r
use Rattle.amq_model.specs.declared.command.Command.{Command}
use Rattle.amq_model.specs.declared.command.Command.TheVariants as c

-- the record is of no transaction
abbrev pub IsPlain : Record → Type 0
IsPlain (r.Add id user_type body) = Unit {0}
IsPlain (r.Update id user_type body) = Unit {0}
IsPlain (r.Delete id) = Unit {0}
IsPlain (r.AddTx tx id user_type body) = ⊥
IsPlain (r.UpdateTx tx id user_type body) = ⊥
IsPlain (r.DeleteTx tx id body) = ⊥
IsPlain (r.Prepare tx count extra) = ⊥
IsPlain (r.Commit tx count) = ⊥
IsPlain (r.Rollback tx) = ⊥

-- a command of no transaction
abbrev pub IsPlainCommand : Command → Type 0
IsPlainCommand (c.Add id user_type body) = Unit {0}
IsPlainCommand (c.Update id user_type body) = Unit {0}
IsPlainCommand (c.Delete id) = Unit {0}
IsPlainCommand c.Flush = Unit {0}
IsPlainCommand c.Begin = ⊥
IsPlainCommand (c.AddTx tx id user_type body) = ⊥
IsPlainCommand (c.UpdateTx tx id user_type body) = ⊥
IsPlainCommand (c.DeleteTx tx id body) = ⊥
IsPlainCommand (c.Prepare tx extra) = ⊥
IsPlainCommand (c.Commit tx) = ⊥
IsPlainCommand (c.Rollback tx) = ⊥
