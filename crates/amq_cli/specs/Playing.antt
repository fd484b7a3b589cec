-- What is so of a replay under way.
use Rattle.std.specs.Prelude.{◌≡◌, ◌⊎◌, ◌↔◌, ℕ, ◌+◌, ◌<◌, ◌≤◌, IsTrue, List, [], ◌∷◌, ◌++◌, length, map, Option, None, Some, All}
use Rattle.std.specs.List.{filter_map}
use Rattle.amq_model.specs.declared.script.Line.{Line}
use Rattle.amq_model.specs.declared.history.Step.{Step}
use Rattle.amq_engine.specs.declared.chronicle.Kept.{Kept}
use Rattle.amq_engine.specs.declared.chronicle.Receipted.{Receipted}
use Rattle.amq_engine.specs.Lists.{Lists}
use Rattle.amq_engine.specs.Engine.{EngineOf}
use Rattle.amq_engine.specs.Opening.{StandsFrom}
use Rattle.amq_engine.specs.Receipts.{StartsWith, IsLastCount}
use Rattle.amq_engine.specs.Owed.{waiting_behind, BeginOwed}
use Rattle.amq_model.specs.declared.config.Config.{Config}
use Rattle.amq_model.specs.Answers.{history_of}
use Rattle.amq_model.specs.Legal.{end_of}
use Rattle.amq_cli.specs.Offline.{lists_of}
use Rattle.amq_cli.specs.Owed.{IsOwedSoFar, is_opened}
use Rattle.amq_cli.specs.Replay.{Answered, all_commanded, label_number, placed_at, counted, clock_of, reply_lines, AreLineAnswers, AreNumbered, AreCounted, IsReceipted, own, opened_in, rolled}

-- Of so many appends, of which so many were durable: the same receipts, or one more, of all appends, behind the steps so far.
abbrev pub Grows : ℕ → ℕ → Lists → Lists → Type 0
Grows durable appended old new = (new.receipts ≡ old.receipts) ⊎ ((r : Receipted) × (new.receipts ≡ old.receipts ++ r ∷ []) × (r.steps ≡ length old.steps) × (r.durable ≡ appended) × (durable < appended))

-- What a call leaves in the chronicle that ends a replay: no step more. It may have made appends durable before it failed.
pub record HasNoStep (durable appended : ℕ) (old new : Lists) : Type 0 where
  pub steps : new.steps ≡ old.steps
  pub receipts : Grows durable appended old new

-- where the history stands as it must, from the head of a first file on, it does so behind further calls
abbrev pub StandsOn : {D : Type 0} → EngineOf D Kept → EngineOf D Kept → Type 0
StandsOn old new = (first : ℕ) → StandsFrom old.config first old.file old.end (lists_of old.chronicle) → StandsFrom new.config first new.file new.end (lists_of new.chronicle)

-- the first receipt stays the first
abbrev pub KeepsFirst : Lists → Lists → Type 0
KeepsFirst old new = (r : Receipted) → StartsWith r old → StartsWith r new

-- the append of this place is one of these lines'
pub record IsPlacedIn (answered : List Answered) (place : ℕ) : Type 0 where
  pub front : List Answered
  pub line : Answered
  pub back : List Answered
  pub is : answered ≡ front ++ line ∷ back
  pub placed : placed_at line ≡ Some place

-- The numbers of the engine behind the appends of its opening and these lines: its clock, how many appends there were and how many are durable, and since when the first of the others waits.
pub record AreNumbers (opened : ℕ) (answered : List Answered) (receipts : List Receipted) (clock appended durable : ℕ) (since : Option ℕ) : Type 0 where
  pub time : clock ≡ clock_of answered
  pub count : appended ≡ opened + length (filter_map placed_at answered)
  pub below : All (λ place. place < appended) (filter_map placed_at answered)
  pub least : opened ≤ durable
  pub most : durable ≤ appended
  pub waits : (since ≡ None) ↔ (durable ≡ appended)
  pub first : (moment : ℕ) → since ≡ Some moment → (front : List Answered) (x : Answered) (back : List Answered) → answered ≡ front ++ x ∷ back → placed_at x ≡ Some durable → moment ≡ clock_of front
  pub counts : All (λ count. count ≤ durable) (filter_map counted answered)
  pub receipted : All (IsReceipted receipts) (filter_map counted answered)
  pub last : IsReceipted receipts durable

-- The steps are those of an opening with so many appends, and those of these lines, and this is the number of the next one.
pub record AreSteps (opened : ℕ) (answered : List Answered) (steps : List Step) (number : ℕ) : Type 0 where
  pub rolls : opened_in steps ≡ opened
  pub commands : map (λ s. (s.command, s.answer)) (own steps) ≡ all_commanded [] answered
  pub numbered : AreNumbered 1 (own steps)
  pub next : number ≡ length (own steps) + 1

-- The numbers of the engine are those of its chronicle: the bytes that wait, and where the last append ends. Each append behind those of the opening is one of these lines', and each receipt so far is owed.
pub record IsOwing (opened : ℕ) (answered : List Answered) (config : Config) (l : Lists) (appended durable waiting end : ℕ) : Type 0 where
  pub history : appended ≡ length (history_of l.steps)
  pub waits : waiting ≡ waiting_behind durable (history_of l.steps)
  pub ends : end ≡ end_of (history_of l.steps)
  pub last : IsLastCount durable l.receipts
  pub each : (place : ℕ) → opened ≤ place → place < appended → IsPlacedIn answered place
  pub owed : BeginOwed (IsOwedSoFar config answered l.steps) l.steps l.receipts
  pub begun : IsTrue (is_opened l.steps l.receipts)

-- these lines were answered
pub record IsPlaying {D : Type 0} (timeout : ℕ) (answered : List Answered) (number : ℕ) (e : EngineOf D Kept) : Type 0 where
  pub opened : ℕ
  pub numbers : AreNumbers opened answered e.chronicle.receipts.items e.clock e.appended e.durable e.since
  pub steps : AreSteps opened answered e.chronicle.steps.items number
  pub answers : AreLineAnswers opened timeout [] answered
  pub time : timeout ≡ e.config.buffer_timeout
  pub counts : AreCounted timeout (length (rolled e.chronicle.steps.items)) e.chronicle.receipts.items [] answered
  pub owing : IsOwing opened answered e.config (lists_of e.chronicle) e.appended e.durable e.waiting e.end

-- each label stands for this number behind these lines
abbrev pub AreNumbersOf : (List ℕ → ℕ) → List Answered → Type 0
AreNumbersOf numbers answered = (label : List ℕ) → numbers label ≡ label_number answered label

-- so far these lines were answered, and the text has their lines
pub record HasPlayed {D : Type 0} (timeout : ℕ) (done : List Line) (labels : List ℕ → ℕ) (number : ℕ) (e : EngineOf D Kept) (text : List ℕ) : Type 0 where
  pub answered : List Answered
  pub lines : map (λ x. x.0) answered ≡ done
  pub playing : IsPlaying timeout answered number e
  pub labelled : AreNumbersOf labels answered
  pub is : text ≡ reply_lines answered
