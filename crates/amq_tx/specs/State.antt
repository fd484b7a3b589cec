-- What a table knows of ids and transactions.
use Rattle.std.specs.Prelude.{ℕ, Bool, false, not, filter, if◌then◌else◌, List, [], ◌∷◌, Option, Some, None, ◌==◌}
use Rattle.amq_model.specs.declared.state.EntryEnd.{EntryEnd}
use Rattle.amq_model.specs.Answers.{is_some_of}

-- an open transaction: whether it is prepared, and how many of its adds, updates and deletes stand in each file
pub record TurnState : Type 0 where
  pub is_prepared : Bool
  pub counts : ℕ → ℕ

-- which ids are live; for each id the open transactions that touch it, ascending, with what the last of their records does to it; the open transactions; the highest number
pub record TxState : Type 0 where
  pub live : ℕ → Bool
  pub touched : ℕ → List (ℕ × EntryEnd)
  pub turns : ℕ → Option TurnState
  pub highest : ℕ

-- f with x at k
abbrev pub put : {X : Type 0} → ℕ → X → (ℕ → X) → ℕ → X
put k x f q = if k == q then x else f q

-- the first of these transactions but this one
abbrev pub first_but : Option ℕ → List (ℕ × EntryEnd) → Option ℕ
first_but own [] = None
first_but own (x ∷ xs) = if is_some_of own x.0 then first_but own xs else Some x.0

-- those of other transactions
abbrev pub without : ℕ → List (ℕ × EntryEnd) → List (ℕ × EntryEnd)
without tx xs = filter (λ x. not (x.0 == tx)) xs

-- how many of the transaction's records stand in the file, 0 where it isn't open
abbrev pub count_of : Option TurnState → ℕ → ℕ
count_of None file = 0
count_of (Some t) file = t.counts file

-- the transaction has a sound PREPARE
abbrev pub is_prepared_in : Option TurnState → Bool
is_prepared_in None = false
is_prepared_in (Some t) = t.is_prepared
