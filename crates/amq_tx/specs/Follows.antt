-- When what a table knows is that of a base and the steps behind it.
use Rattle.std.specs.Prelude.{◌+◌, ◌≡◌, ◌<◌, ◌≤◌, ℕ, Bool, true, nat_eq, if◌then◌else◌, List, [], ◌∷◌, ◌++◌, Option, Some, None, All, ◌==◌}
use Rattle.std.specs.List.{list_any}
use Rattle.std.specs.List.Sorted.{IsStrictlySortedBy}
use Rattle.std.specs.Option.{is_some}
use Rattle.std.specs.Ordering.{nat_cmp}
use Rattle.std.specs.Map.{lookup, keys_of}
use Rattle.amq_model.specs.declared.record.Placed.{Placed}
use Rattle.amq_model.specs.declared.state.EntryEnd.{EntryEnd}
use Rattle.amq_model.specs.declared.command.Command.{Command}
use Rattle.amq_model.specs.declared.command.Command.TheVariants as c
use Rattle.amq_model.specs.declared.history.Step.{Step}
use Rattle.amq_model.specs.declared.refusal.Refusal.{Refusal}
use Rattle.amq_model.specs.Effect.{open_changes, prepared, counted}
use Rattle.amq_model.specs.Answers.{history_of, is_open, in_view, touches, highest, record_of, accepted, first_some, tx_refusal, held, id_refusal, spent}
use Rattle.amq_model.specs.Legal.{number_for}
use Rattle.amq_model.specs.Open.{end_of}
use Rattle.amq_tx.specs.State.{TxState, count_of, is_prepared_in}

-- what the last of these records of the id does to it, if there is one
abbrev pub end_in : ℕ → List Placed → Option EntryEnd
end_in id ps = if list_any (touches id) ps then Some (end_of id ps) else None

-- each record stands in a lesser file
abbrev pub AreBelow : ℕ → List Placed → Type 0
AreBelow file l = All (λ p. p.file < file) l

-- the state is that of the records of base and behind it, where these transactions are open and this is the highest number; counts are those of files above the base's
pub record Knows (s : TxState) (base records : List Placed) (opens : ℕ → Bool) (top : ℕ) : Type 0 where
  pub live : (id : ℕ) → s.live id ≡ in_view records None id
  pub opened : (tx : ℕ) → is_some (s.turns tx) ≡ opens tx
  pub prepared : (tx : ℕ) → is_prepared_in (s.turns tx) ≡ list_any (λ x. x.0 == tx) (prepared records)
  pub counts : (tx file : ℕ) → AreBelow file base → count_of (s.turns tx) file ≡ counted records tx file
  pub closed : (tx : ℕ) → s.turns tx ≡ None → open_changes tx records ≡ []
  pub touched : (tx id : ℕ) → lookup (nat_eq tx) (s.touched id) ≡ end_in id (open_changes tx records)
  pub ascends : (id : ℕ) → IsStrictlySortedBy nat_cmp (keys_of (s.touched id))
  pub highest : s.highest ≡ top
  pub bounded : (tx : ℕ) → is_some (s.turns tx) ≡ true → tx ≤ s.highest

-- the state is that of this base and these steps behind it
abbrev pub Follows : TxState → List Placed → List Step → Type 0
Follows s base steps = Knows s base (base ++ history_of steps) (is_open base steps) (highest base steps)

-- the refusal of the journal of one thread, but for a record's length: the first of `NoTx`, `TxPrepared`, `Held`, `AlreadyLive`, `NoRecord` and `TxNumbersSpent` that holds
abbrev pub refusal_of : List Placed → List Step → Command → Option Refusal
refusal_of base steps command = first_some (tx_refusal base steps command ∷ held base steps command ∷ id_refusal base steps command ∷ spent base steps command ∷ [])

-- the number that the journal of one thread gives to the command, if it is a Begin
abbrev pub number_of_begin : List Placed → List Step → Command → Option ℕ
number_of_begin base steps command = elim command [
  | c.Begin ↦ Some (highest base steps + 1)
  | c.Add id user_type body ↦ None
  | c.Update id user_type body ↦ None
  | c.Delete id ↦ None
  | c.AddTx tx id user_type body ↦ None
  | c.UpdateTx tx id user_type body ↦ None
  | c.DeleteTx tx id body ↦ None
  | c.Prepare tx extra ↦ None
  | c.Commit tx ↦ None
  | c.Rollback tx ↦ None
  | c.Flush ↦ None
]

-- what the step of an accepted command has in `placed`: its record in the file, with the number that makes it sound, or nothing where it has none
abbrev pub IsPlacedIn : ℕ → List Placed → Command → Option Placed → Type 0
IsPlacedIn file l command None = record_of command 0 ≡ None
IsPlacedIn file l command (Some p) = (record_of command (number_for l command p.file) ≡ Some p.rec) × (p.file ≡ file)

-- the step behind these of an accepted command, whose record stands in the file
pub record IsAccepted (base : List Placed) (steps : List Step) (command : Command) (file : ℕ) (s : Step) : Type 0 where
  pub is : s.command ≡ command
  pub answered : s.answer ≡ accepted base steps command
  pub placed : IsPlacedIn file (base ++ history_of steps) command s.placed
