-- To what each receipt of a run is owed.
use Rattle.std.specs.Prelude.{◌≡◌, ◌⊎◌, ℕ, Bool, false, IsTrue, ◌==◌, ◌&&◌, nat_le, List, [], ◌∷◌, ◌++◌, length, Option}
use Rattle.std.specs.List.{list_any}
use Rattle.amq_model.specs.declared.config.Config.{Config}
use Rattle.amq_model.specs.declared.history.Answer.{Answer}
use Rattle.amq_model.specs.declared.history.Step.{Step}
use Rattle.amq_model.specs.declared.script.Line.{Line}
use Rattle.amq_model.specs.declared.script.Line.TheVariants as l
use Rattle.amq_engine.specs.declared.chronicle.Receipted.{Receipted}
use Rattle.amq_engine.specs.Owed.{IsOwedToStep, BeginOwed}
use Rattle.amq_cli.specs.declared.status.Status.{Status}
use Rattle.amq_cli.specs.declared.words.Task.{Task}
use Rattle.amq_cli.specs.Offline.{HasLines, is_past_script}
use Rattle.amq_cli.specs.Replay.{Answered, AreAnswered, IsOld, steps_behind, opened_in, rolled}

-- The receipt is noted for a tick, which finds that the first append behind so many durable ones is old.
pub record IsOwedToTick (timeout opening : ℕ) (answered : List Answered) (durable : ℕ) (r : Receipted) : Type 0 where
  pub before : List Answered
  pub now : ℕ
  pub answer : Option Answer
  pub behind : List Answered
  pub is : answered ≡ before ++ (l.Tick now, answer) ∷ behind
  pub place : r.steps ≡ steps_behind opening before
  pub old : IsOld timeout before now durable

-- A receipt of a run under way: the opening noted it behind its last rollback, or it is owed to a step or to a tick.
abbrev pub IsOwedSoFar : Config → List Answered → List Step → ℕ → Receipted → Type 0
IsOwedSoFar config answered steps durable r = (r.steps ≡ length (rolled steps)) ⊎ IsOwedToStep config steps durable r ⊎ IsOwedToTick config.buffer_timeout (length (rolled steps)) answered durable r

-- A receipt of a run: so, or it is noted behind all steps, for the closing or for the line behind those that were answered, whose command needs a further file.
abbrev pub IsOwed : Config → List Answered → List Step → ℕ → Receipted → Type 0
IsOwed config answered steps durable r = IsOwedSoFar config answered steps durable r ⊎ (r.steps ≡ length steps)

-- a receipt of the opening counts all its appends
abbrev pub is_opened : List Step → List Receipted → Bool
is_opened steps receipts = list_any (λ r. (r.durable == opened_in steps) && nat_le r.steps (length (rolled steps))) receipts

-- These lines were answered, the first ones of a script, and each receipt is owed. Where a line was, a receipt of the opening counts all its appends.
pub record HasOwed (config : Config) (lines : List Line) (steps : List Step) (receipts : List Receipted) : Type 0 where
  pub answered : List Answered
  pub are : AreAnswered config.buffer_timeout lines steps receipts answered
  pub owed : BeginOwed (IsOwed config answered steps) steps receipts
  pub opened : (answered ≡ []) ⊎ IsTrue (is_opened steps receipts)

-- The same of the lines that were asked for. Where the script wasn't read there is no line.
pub record IsOwedRun (task : Option Task) (config : Config) (status : Status) (left_old left_new : Option (List ℕ)) (steps : List Step) (receipts : List Receipted) : Type 0 where
  pub lines : List Line
  pub said : ((is_past_script status ≡ false) × (lines ≡ [])) ⊎ HasLines task lines left_old left_new
  pub owed : HasOwed config lines steps receipts
