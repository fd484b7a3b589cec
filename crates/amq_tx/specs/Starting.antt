-- What a new table knows.
use Rattle.std.specs.Prelude.{◌≤◌, ℕ, nat_eq, filter, fold, if◌then◌else◌, List, map, Option, Some, None, All, ◌==◌}
use Rattle.std.specs.List.{flat_map, list_any}
use Rattle.std.specs.List.Sorted.{IsStrictlySortedBy}
use Rattle.std.specs.Ordering.{nat_cmp}
use Rattle.std.specs.Map.{keys_of}
use Rattle.amq_model.specs.declared.state.EntryEnd.{EntryEnd}
use Rattle.amq_model.specs.declared.state.OpenTx.{OpenTx}
use Rattle.amq_tx.specs.State.{TurnState, TxState}

-- the open transactions by number, and the ids that each touches, ascend, each once, and no number is above the highest
pub record AreListed (opened : List OpenTx) (highest : ℕ) : Type 0 where
  pub numbers : IsStrictlySortedBy nat_cmp (map (λ o. o.tx) opened)
  pub touched : All (λ o. IsStrictlySortedBy nat_cmp (keys_of o.touched)) opened
  pub bounded : All (λ o. o.tx ≤ highest) opened

-- what these touches of the transaction do to the id
abbrev pub ends_of : ℕ → ℕ → List (ℕ × EntryEnd) → List (ℕ × EntryEnd)
ends_of id tx ts = map (λ t. (tx, t.1)) (filter (λ t. t.0 == id) ts)

-- what the transaction does to the id
abbrev pub touches_of : ℕ → OpenTx → List (ℕ × EntryEnd)
touches_of id o = ends_of id o.tx o.touched

-- an open transaction that has no record in a later file
abbrev pub opened_turn : OpenTx → TurnState
opened_turn o = record { is_prepared = o.prepared; counts = λ file. 0 }

-- the transaction, if it is this one, or else what was found before
abbrev pub turn_or : ℕ → Option TurnState → OpenTx → Option TurnState
turn_or tx found o = if o.tx == tx then Some (opened_turn o) else found

-- the ids of the transaction, if it is this one, or else what was found before
abbrev pub ids_or : ℕ → List ℕ → OpenTx → List ℕ
ids_or tx found o = if o.tx == tx then keys_of o.touched else found

-- the state of these live ids, these open transactions and this highest number
abbrev pub started : List ℕ → List OpenTx → ℕ → TxState
started live opened highest = record {
  live = λ id. list_any (nat_eq id) live;
  touched = λ id. flat_map (touches_of id) opened;
  turns = λ tx. fold (turn_or tx) None opened;
  highest = highest;
}
