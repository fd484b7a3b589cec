-- What is open of each transaction, in a list and in a table, and what one record more does to it.
use Rattle.std.specs.Prelude.{ℕ, Bool, true, false, if◌then◌else◌, List, [], ◌∷◌, ◌++◌, count_by, Option, Some, None, ◌==◌}
use Rattle.std.specs.Option.{option_map}
use Rattle.std.specs.Cow.{cow_value}
use Rattle.amq_model.specs.declared.record.Record.TheVariants as r
use Rattle.amq_model.specs.declared.record.Placed.{Placed}
use Rattle.amq_model.specs.declared.record.Brief.{Brief}
use Rattle.amq_model.specs.declared.record.Brief.TheVariants as b
use Rattle.amq_model.specs.Effect.{open_changes, prepared}
use Rattle.amq_model.specs.Answers.{is_left_open}
use Rattle.amq_state.specs.declared.turn.Turn.{Turn}
use Rattle.amq_state.specs.Held.{held}

-- what is open of a transaction: whether it is open, its open adds, updates and deletes, and the bytes of its last sound PREPARE
pub record TurnState : Type 0 where
  pub is_open : Bool
  pub changes : List Placed
  pub extra : Option (List ℕ)

-- of a transaction that isn't open
abbrev pub none_open : TurnState
none_open = record { is_open = false; changes = []; extra = None }

-- ---- in a list

-- the bytes of the last of this number, if there is one
abbrev pub last_extra : ℕ → List (ℕ × List ℕ) → Option (List ℕ)
last_extra tx [] = None
last_extra tx (x ∷ xs) = elim (last_extra tx xs) [ None ↦ (if x.0 == tx then Some x.1 else None) | Some extra ↦ Some extra ]

-- what is open of transaction tx
abbrev pub turn_in : List Placed → ℕ → TurnState
turn_in l tx = record { is_open = is_left_open tx l; changes = open_changes tx l; extra = last_extra tx (prepared l) }

-- ---- in a table

-- the extra bytes of a PREPARE
abbrev pub extra_of : Placed → List ℕ
extra_of p = elim p.rec [ r.Prepare tx count extra ↦ extra | _ ↦ [] ]

-- what the table's part for a transaction tells, if there is one
abbrev pub told : Option Turn → TurnState
told None = none_open
told (Some t) = record { is_open = true; changes = held t.changes.items; extra = option_map (λ c. extra_of (cow_value c)) t.prepare }

-- ---- one record more

-- it is open
abbrev pub begun : TurnState → TurnState
begun t = record t { is_open = true }

-- an add, update or delete more
abbrev pub with_change : Placed → TurnState → TurnState
with_change p t = record { is_open = true; changes = t.changes ++ p ∷ []; extra = t.extra }

-- how many of the records stand in the file
abbrev pub count_in : ℕ → List Placed → ℕ
count_in file ps = count_by (λ p. p.file == file) ps

-- a PREPARE more, of this number
abbrev pub with_prepare : Placed → ℕ → TurnState → TurnState
with_prepare p count t = record { is_open = true; changes = t.changes; extra = if count == count_in p.file t.changes then Some (extra_of p) else t.extra }

-- what the record p, of this brief, makes of transaction tx
abbrev pub turn_after : Placed → Brief → ℕ → TurnState → TurnState
turn_after p brief tx t = elim brief [
  | b.PutTx n id ↦ (if n == tx then with_change p t else t)
  | b.KillTx n id ↦ (if n == tx then with_change p t else t)
  | b.Prepare n count ↦ (if n == tx then with_prepare p count t else t)
  | b.Commit n count ↦ (if n == tx then none_open else t)
  | b.Rollback n ↦ (if n == tx then none_open else t)
  | _ ↦ t
]

-- what the record p, of this brief, adds to the order of effect, where `turns` tells of each transaction
abbrev pub added : Placed → Brief → (ℕ → TurnState) → List Placed
added p brief turns = elim brief [
  | b.Put id ↦ p ∷ []
  | b.Kill id ↦ p ∷ []
  | b.Commit n count ↦ (if count == count_in p.file (turns n).changes then (turns n).changes else [])
  | _ ↦ []
]
