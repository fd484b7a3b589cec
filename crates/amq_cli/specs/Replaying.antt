-- What the functions of a replay promise.
use Rattle.std.specs.Prelude.{◌≡◌, ℕ, ◌+◌, ◌≤◌, Bool, ◌&&◌, List, [], ◌∷◌, ◌++◌, Option, None, Some, Result, is_ok, IfOk, IfErr, OnOk, OnErr}
use Rattle.amq_model.specs.declared.command.Command.{Command}
use Rattle.amq_model.specs.declared.history.Answer.{Answer}
use Rattle.amq_model.specs.declared.refusal.Refusal.{Refusal}
use Rattle.amq_model.specs.declared.script.Line.{Line}
use Rattle.amq_model.specs.Calls.{Past}
use Rattle.amq_model.specs.Texts.{refusal_line}
use Rattle.amq_io.specs.Cause.{Faults}
use Rattle.amq_engine.specs.declared.chronicle.Kept.{Kept}
use Rattle.amq_engine.specs.DataFiles.{HasFilesSoFar}
use Rattle.amq_engine.specs.Engine.{EngineOf, HasCause}
use Rattle.amq_engine.specs.Receipts.{GoesOn}
use Rattle.amq_cli.specs.Offline.{lists_of}
use Rattle.amq_cli.specs.Owed.{HasOwed}
use Rattle.amq_cli.specs.Playing.{HasPlayed, HasNoStep, KeepsFirst, StandsOn, IsPlaying, AreNumbersOf}
use Rattle.amq_cli.specs.Replay.{Answered, sent, HasEnded, HasReplayed, IsLast, IsClosedBy}

-- Where the data files so far are those of the history from an opening on, so they are behind further calls; where one of these failed, maybe with one file more.
abbrev pub KeepsFiles : {D : Type 0} → (D → Option Past) → Bool → EngineOf D Kept → EngineOf D Kept → Type 0
KeepsFiles past whole old new =
    (done : Bool) (first : Option Past)
    → HasFilesSoFar done old.config old.file old.end old.highest (lists_of old.chronicle) first (past old.disk)
    → HasFilesSoFar (whole && done) new.config new.file new.end new.highest (lists_of new.chronicle) first (past new.disk)

-- What is so behind each call of a replay, whatever it answers: a refusal ends the replay, and one for a disk call closes the journal; the configuration and the base stay; a call of the disk failed only where that is told, and the last one; and what is kept of the receipts, the places of the records and the data files goes on.
pub record Continues {D T : Type 0} (past : D → Option Past) (faults : D → Faults) (result : Result T Refusal) (old new : EngineOf D Kept) : Type 0 where
  pub last : IfErr result IsLast
  pub closes : IfErr result (λ refusal. IsClosedBy refusal new.closed)
  pub unclosed : OnOk result (new.closed ≡ None)
  pub same : (new.config ≡ old.config) × (new.chronicle.base ≡ old.chronicle.base)
  pub cause : HasCause result (faults old.disk) (faults new.disk)
  pub later : (faults old.disk).0 ≤ (faults new.disk).0
  pub goes_on : GoesOn (past old.disk) (past new.disk)
  pub first : KeepsFirst (lists_of old.chronicle) (lists_of new.chronicle)
  pub stands : StandsOn old new
  pub files : KeepsFiles past (is_ok result) old new

-- What giving a command promises: behind lines that were answered, a line that sends it is answered so.
pub record GivesCommand {D : Type 0} (past : D → Option Past) (faults : D → Faults) (command : Command) (number number' : ℕ) (result : Result Answer Refusal) (old new : EngineOf D Kept) : Type 0 where
  pub played :
      (answered : List Answered) (line : Line)
      → sent answered line ≡ Some command
      → IsPlaying old.config.buffer_timeout answered number old
      → IfOk result (λ answer. IsPlaying old.config.buffer_timeout (answered ++ (line, Some answer) ∷ []) number' new)
  pub kept : OnErr result (HasNoStep old.durable old.appended (lists_of old.chronicle) (lists_of new.chronicle))
  pub next : number' ≤ number + 1
  pub continues : Continues past faults result old new

-- What answering a line promises: behind lines that were answered it is answered so, and each label stands for the number that it has then.
pub record AnswersLine {D : Type 0} (past : D → Option Past) (faults : D → Faults) (line : Line) (labels labels' : List ℕ → ℕ) (number number' : ℕ) (result : Result Answer Refusal) (old new : EngineOf D Kept) : Type 0 where
  pub played :
      (answered : List Answered)
      → AreNumbersOf labels answered
      → IsPlaying old.config.buffer_timeout answered number old
      → IfOk result (λ answer. IsPlaying old.config.buffer_timeout (answered ++ (line, Some answer) ∷ []) number' new × AreNumbersOf labels' (answered ++ (line, Some answer) ∷ []))
  pub kept : OnErr result (HasNoStep old.durable old.appended (lists_of old.chronicle) (lists_of new.chronicle))
  pub next : number' ≤ number + 1
  pub continues : Continues past faults result old new

-- What playing a line promises: behind lines that were answered it is answered, and the text has its line; or it isn't, the text ends as it must, and each receipt is owed.
pub record PlaysLine {D : Type 0} (past : D → Option Past) (faults : D → Faults) (line : Line) (labels labels' : List ℕ → ℕ) (number number' : ℕ) (text text' : List ℕ) (result : Result (Unit {0}) Refusal) (old new : EngineOf D Kept) : Type 0 where
  pub played :
      (done : List Line)
      → HasPlayed old.config.buffer_timeout done labels number old text
      → OnOk result (HasPlayed old.config.buffer_timeout (done ++ line ∷ []) labels' number' new text')
  pub ended :
      (done : List Line)
      → HasPlayed old.config.buffer_timeout done labels number old text
      → IfErr result (λ refusal. HasEnded old.config.buffer_timeout (done ++ line ∷ []) new.chronicle.steps.items new.chronicle.receipts.items text' (refusal_line refusal))
  pub owed :
      (done : List Line)
      → HasPlayed old.config.buffer_timeout done labels number old text
      → OnErr result (HasOwed old.config (done ++ line ∷ []) new.chronicle.steps.items new.chronicle.receipts.items)
  pub next : number' ≤ number + 1
  pub continues : Continues past faults result old new

-- What a replay of these lines promises: all were answered, and the text has their lines; or one wasn't, and the text ends as it must; and each receipt is owed.
pub record Replays {D : Type 0} (past : D → Option Past) (faults : D → Faults) (lines : List Line) (text' : List ℕ) (result : Result (Unit {0}) Refusal) (old new : EngineOf D Kept) : Type 0 where
  pub replayed : OnOk result (HasReplayed old.config.buffer_timeout lines new.chronicle.steps.items new.chronicle.receipts.items text')
  pub ended : IfErr result (λ refusal. HasEnded old.config.buffer_timeout lines new.chronicle.steps.items new.chronicle.receipts.items text' (refusal_line refusal))
  pub owed : HasOwed old.config lines new.chronicle.steps.items new.chronicle.receipts.items
  pub continues : Continues past faults result old new
