-- The open transactions of a list, and its highest transaction number.
use Rattle.std.specs.Prelude.{ℕ, Bool, false, ◌==◌, max, fold, filter, if◌then◌else◌, List, [], ◌∷◌, map, Option, Some, None}
use Rattle.std.specs.List.{filter_map, list_any}
use Rattle.amq_model.specs.declared.record.Record.TheVariants as r
use Rattle.amq_model.specs.declared.record.Placed.{Placed}
use Rattle.amq_model.specs.declared.state.EntryEnd.{EntryEnd}
use Rattle.amq_model.specs.declared.state.EntryEnd.TheVariants.{Put, Gone}
use Rattle.amq_model.specs.declared.state.OpenTx.{OpenTx}
use Rattle.amq_model.specs.Effect.{deletes, open_changes, prepared, ascending}
use Rattle.amq_model.specs.Answers.{number_of, is_left_open, touches}

-- the id that the record adds, updates or deletes
abbrev pub touched_id : Placed → Option ℕ
touched_id p = elim p.rec [
  | r.Add id user_type body ↦ Some id
  | r.Update id user_type body ↦ Some id
  | r.AddTx tx id user_type body ↦ Some id
  | r.UpdateTx tx id user_type body ↦ Some id
  | r.DeleteTx tx id body ↦ Some id
  | r.Delete id ↦ Some id
  | _ ↦ None
]

-- the last of these records that adds, updates or deletes the id is a delete
abbrev pub is_gone : ℕ → List Placed → Bool
is_gone id [] = false
is_gone id (p ∷ ps) = if list_any (touches id) ps then is_gone id ps else deletes id p

-- what the last of these records of the id does to it
abbrev pub end_of : ℕ → List Placed → EntryEnd
end_of id ps = if is_gone id ps then Gone else Put

-- each id that these records add, update or delete, ascending, with what the last of them does to it
abbrev pub touched_by : List Placed → List (ℕ × EntryEnd)
touched_by ps = map (λ id. (id, end_of id ps)) (ascending (filter_map touched_id ps))

-- the open transaction tx: whether it has a sound PREPARE with no end behind it, and what its open records touch
abbrev pub open_tx : List Placed → ℕ → OpenTx
open_tx l tx = record { tx = tx; prepared = list_any (λ x. x.0 == tx) (prepared l); touched = touched_by (open_changes tx l) }

-- the transactions of a record that is no end and has none behind it, by number
abbrev pub open_txs : List Placed → List OpenTx
open_txs l = map (open_tx l) (filter (λ tx. is_left_open tx l) (ascending (filter_map (λ p. number_of p.rec) l)))

-- the highest transaction number of a record, 0 where there is none
abbrev pub highest_of : List Placed → ℕ
highest_of l = fold max 0 (filter_map (λ p. number_of p.rec) l)
