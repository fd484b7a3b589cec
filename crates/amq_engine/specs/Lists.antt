-- What a chronicle tells.
use Rattle.std.specs.Prelude.{ℕ, List, [], ◌∷◌, ◌++◌, Option, option_map, length}
use Rattle.amq_model.specs.declared.record.Placed.{Placed}
use Rattle.amq_model.specs.declared.history.Step.{Step}
use Rattle.amq_engine.specs.declared.chronicle.Receipted.{Receipted}

-- the list that the opening's load read, the steps, and the receipts
pub record Lists : Type 0 where
  pub base : List Placed
  pub steps : List Step
  pub receipts : List Receipted

-- the same with another base
abbrev pub with_base : List Placed → Lists → Lists
with_base base l = record { base = base; steps = l.steps; receipts = l.receipts }

-- the same with one more step
abbrev pub with_step : Step → Lists → Lists
with_step s l = record { base = l.base; steps = l.steps ++ s ∷ []; receipts = l.receipts }

-- the same with one more receipt, noted behind these steps
abbrev pub with_receipt : ℕ → ℕ → Lists → Lists
with_receipt durable moment l = record { base = l.base; steps = l.steps; receipts = l.receipts ++ record { durable = durable; moment = moment; steps = length l.steps } ∷ [] }

-- the steps of a chronicle that tells them
abbrev pub steps_in : Option Lists → Option (List Step)
steps_in lists = option_map (λ l. l.steps) lists
