-- To what each receipt is owed.
use Rattle.std.specs.Prelude.{◌≡◌, ◌⊎◌, ℕ, ◌<◌, IsTrue, ◌||◌, List, [], ◌∷◌, ◌++◌, length, drop}
use Rattle.std.specs.List.{sum_by}
use Rattle.amq_model.specs.declared.config.Config.{Config}
use Rattle.amq_model.specs.declared.record.Placed.{Placed}
use Rattle.amq_model.specs.declared.history.Step.{Step}
use Rattle.amq_model.specs.RecordAt.{len_of}
use Rattle.amq_model.specs.Answers.{history_of}
use Rattle.amq_model.specs.Legal.{IsDone, needs_file}
use Rattle.amq_engine.specs.declared.chronicle.Receipted.{Receipted}
use Rattle.amq_engine.specs.Lists.{Lists}
use Rattle.amq_engine.specs.Engine.{flushes}

-- how many bytes the records of a history take behind the first so many
abbrev pub waiting_behind : ℕ → List Placed → ℕ
waiting_behind durable history = sum_by (λ p. len_of p.rec) (drop durable history)

-- The step was accepted and makes what waits durable first, where these steps are before it and so many appends are durable: it is a flush; or its record doesn't fit the buffer behind the bytes that wait, or the rest of the file in use.
pub record FlushesFirst (config : Config) (durable : ℕ) (before : List Step) (s : Step) : Type 0 where
  pub accepted : IsDone s.answer
  pub needed : IsTrue (flushes config.buffer_size (waiting_behind durable (history_of before)) s.command || needs_file (history_of before) config s.command)

-- The receipt is noted between these steps, and counts all appends of those before it.
pub record CountsAll (steps : List Step) (r : Receipted) : Type 0 where
  pub before : List Step
  pub behind : List Step
  pub is : steps ≡ before ++ behind
  pub place : r.steps ≡ length before
  pub count : r.durable ≡ length (history_of before)

-- The receipt is noted right before a step that makes what waits durable first, where so many appends were durable.
pub record IsOwedToStep (config : Config) (steps : List Step) (durable : ℕ) (r : Receipted) : Type 0 where
  pub before : List Step
  pub step : Step
  pub behind : List Step
  pub is : steps ≡ before ++ step ∷ behind
  pub place : r.steps ≡ length before
  pub flushes : FlushesFirst config durable before step

-- Receipts behind one of so many appends: each counts more than the one before it, and all appends of the steps before it, and is owed.
abbrev pub AreOwed : (ℕ → Receipted → Type 0) → List Step → ℕ → List Receipted → Type 0
AreOwed IsOwed steps durable [] = Unit {0}
AreOwed IsOwed steps durable (r ∷ rs) = (durable < r.durable) × CountsAll steps r × IsOwed durable r × AreOwed IsOwed steps r.durable rs

-- The first receipt, where there is one, counts nothing and is noted before the first step, and those behind it are owed.
abbrev pub BeginOwed : (ℕ → Receipted → Type 0) → List Step → List Receipted → Type 0
BeginOwed IsOwed steps [] = Unit {0}
BeginOwed IsOwed steps (r ∷ rs) = (r.durable ≡ 0) × (r.steps ≡ 0) × AreOwed IsOwed steps r.durable rs

-- each receipt is owed to a step
abbrev pub AreOwedToSteps : Config → Lists → Type 0
AreOwedToSteps config l = BeginOwed (IsOwedToStep config l.steps) l.steps l.receipts

-- a receipt of an opening is owed to a rollback, or is noted behind the last one
abbrev pub IsOwedAtOpening : Config → List Step → ℕ → Receipted → Type 0
IsOwedAtOpening config steps durable r = (r.steps ≡ length steps) ⊎ IsOwedToStep config steps durable r

-- each receipt is owed, in an opening
abbrev pub AreOwedAtOpening : Config → Lists → Type 0
AreOwedAtOpening config l = BeginOwed (IsOwedAtOpening config l.steps) l.steps l.receipts
