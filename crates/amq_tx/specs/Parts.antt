-- What the parts of a table tell: the transactions that touch an id, and one transaction.
use Rattle.std.specs.Prelude.{◌<◌, ℕ, nat_eq, List, [], ◌∷◌, Option, Some, None, vec_len, vec_capacity}
use Rattle.std.specs.Map.{count_at}
use Rattle.std.specs.HashMap.{get, spare}
use Rattle.amq_model.specs.declared.state.EntryEnd.{EntryEnd}
use Rattle.amq_tx.specs.declared.touches.Touches.{Touches}
use Rattle.amq_tx.specs.declared.turn.Turn.{Turn}
use Rattle.amq_tx.specs.State.{TurnState}

-- the transactions that touch an id
abbrev pub listed : Option Touches → List (ℕ × EntryEnd)
listed None = []
listed (Some t) = t.first ∷ t.others.items

-- what the table's part for a transaction tells
abbrev pub turn_of : Turn → TurnState
turn_of t = record { is_prepared = t.prepared; counts = count_at (get nat_eq t.counts) }

-- the ids in the table's part for a transaction
abbrev pub ids_of : Option Turn → List ℕ
ids_of None = []
ids_of (Some t) = t.ids.items

-- there is room for one more record of the transaction
abbrev pub TurnHasRoom : Option Turn → Type 0
TurnHasRoom None = Unit {0}
TurnHasRoom (Some t) = (vec_len t.ids < vec_capacity t.ids) × (0 < spare t.counts)
