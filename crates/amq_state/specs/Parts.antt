-- What the table's part for a transaction gives.
use Rattle.std.specs.Prelude.{ℕ, Bool, if◌then◌else◌, Option, Some, None}
use Rattle.std.specs.List.{filter_map}
use Rattle.std.specs.Option.{is_some}
use Rattle.amq_model.specs.declared.state.InDoubt.{InDoubt}
use Rattle.amq_model.specs.declared.state.OpenTx.{OpenTx}
use Rattle.amq_model.specs.declared.record.Placed.{Placed}
use Rattle.amq_model.specs.declared.state.EntryEnd.{EntryEnd}
use Rattle.amq_model.specs.declared.state.EntryEnd.TheVariants.{Put, Gone}
use Rattle.amq_model.specs.Effect.{entry_of, removal_of, deletes}
use Rattle.amq_model.specs.Answers.{touches}
use Rattle.amq_model.specs.Open.{touched_by}
use Rattle.amq_state.specs.declared.turn.Turn.{Turn}
use Rattle.amq_state.specs.Turns.{TurnState, told}

-- the transaction in doubt, if it has a sound PREPARE
abbrev pub doubt_in : ℕ → TurnState → Option InDoubt
doubt_in tx t = elim t.extra [ None ↦ None | Some extra ↦ Some (record { tx = tx; extra = extra; records = filter_map entry_of t.changes; deletes = filter_map removal_of t.changes }) ]

-- the open transaction
abbrev pub open_in : ℕ → TurnState → OpenTx
open_in tx t = record { tx = tx; prepared = is_some t.extra; touched = touched_by t.changes }

-- of an entry of the table
abbrev pub doubt_at : ℕ × Turn → Option InDoubt
doubt_at e = doubt_in e.0 (told (Some e.1))

-- of an entry of the table
abbrev pub open_at : ℕ × Turn → OpenTx
open_at e = open_in e.0 (told (Some e.1))

-- what is noted of an id: what a later record does, or else what this one does, by whether it touches the id and deletes it
abbrev pub noted_as : Bool → Bool → Option EntryEnd → Option EntryEnd
noted_as here gone None = if here then Some (if gone then Gone else Put) else None
noted_as here gone (Some end) = Some end

-- the same of the record p
abbrev pub noted : Placed → ℕ → Option EntryEnd → Option EntryEnd
noted p id end = noted_as (touches id p) (deletes id p) end
