-- What a run promises whose journal was opened.
use Rattle.std.proofs.Common.{◌≡◌, ◌≢◌, inl, inr, ℕ, ◌≤◌, true, List, [], length, Option, sym, subst, arith}
use Rattle.amq_model.specs.declared.config.Config.{Config}
use Rattle.amq_model.specs.declared.script.Line.{Line}
use Rattle.amq_model.specs.Answers.{history_of}
use Rattle.amq_model.specs.Calls.{Past}
use Rattle.amq_model.specs.Leaves.{Told}
use Rattle.amq_model.specs.Legal.{AreLegal, rolled_back}
use Rattle.amq_model.specs.declared.record.Placed.{Placed}
use Rattle.amq_io.specs.Cause.{Faults, NoneFailed}
use Rattle.amq_engine.specs.declared.chronicle.Kept.{Kept}
use Rattle.amq_engine.specs.DataFiles.{HasFilesOf, HasFilesSoFar}
use Rattle.amq_engine.specs.Engine.{EngineOf, AreAppended, AreSpentAtLast}
use Rattle.amq_engine.specs.Lists.{Lists}
use Rattle.amq_engine.specs.Opening.{HasBase, IsFilled, StandsFrom, StandBehind}
use Rattle.amq_engine.specs.Receipts.{IsCrashSafe, IsLastCount, GoesOn, BeginsBySyncs}
use Rattle.amq_engine.proofs.Places.{told_on}
use Rattle.amq_cli.specs.declared.status.Status.{Status}
use Rattle.amq_cli.specs.declared.status.Status.TheVariants as s
use Rattle.amq_cli.specs.Counts.{HasDiskCount}
use Rattle.amq_cli.specs.Offline.{lists_of, is_done, is_unwritten, HasRunOn, HasRunCause, HasDiskCause, HasText, IsLoadedState, IsOfOpened, IsOfRefusedOpening}
use Rattle.amq_cli.specs.Outcome.{SeenDisk, Ran}
use Rattle.amq_cli.specs.Owed.{HasOwed}
use Rattle.amq_cli.specs.Playing.{KeepsFirst}
use Rattle.amq_cli.proofs.Beginning.{begins_run}
use Rattle.amq_cli.proofs.Causes.{none_further}
use Rattle.amq_cli.proofs.Running.{NotRefused, between_cause, earlier_text}

-- What is so of lines that were given to an open journal, which was closed and loaded again. Its parts mean what they do in `Outcome`.
pub record RanOn {D : Type 0} (lines : List Line) (status : Status) (kept : Kept) (text' : List ℕ)
    (engine : EngineOf D Kept) (disk disk' : SeenDisk D) : Type 0 where
  pub crash_safe : IsCrashSafe disk'.past disk'.moment engine.config.user_version (lists_of kept)
  pub durable :
      status ≡ s.Ok
      → IsLastCount (length (history_of kept.steps.items)) kept.receipts.items
  pub owed : HasOwed engine.config lines kept.steps.items kept.receipts.items
  pub run :
      status ≡ s.Ok
      → HasRunOn engine.config lines text' disk'.past kept.base kept.steps.items kept.receipts.items
  pub text :
      HasText engine.config.buffer_timeout status
      (IsLoadedState disk'.past engine.config.user_version kept.base kept.steps.items)
      NotRefused (Unit {0}) lines disk.faults disk'.faults
      kept.steps.items kept.receipts.items text'
  pub files :
      (first : Option Past)
      → HasFilesSoFar true engine.config engine.file engine.end engine.highest
      (lists_of engine.chronicle) first disk.past
      → HasFilesOf (is_done status) engine.config (history_of kept.steps.items) first disk'.past
  pub stands :
      (first : ℕ)
      → StandsFrom engine.config first engine.file engine.end (lists_of engine.chronicle)
      → StandBehind engine.config first 16 (history_of kept.steps.items)
  pub legal : AreLegal kept.base kept.steps.items engine.config
  pub rolled : AreAppended (length (rolled_back kept.base)) kept.steps.items
  pub spent : AreSpentAtLast [] kept.steps.items
  pub receipted : kept.receipts.items ≢ []
  pub cause : HasDiskCause status disk.faults disk'.faults
  pub count : HasDiskCount status disk.faults disk'.faults
  pub later : disk.faults.0 ≤ disk'.faults.0
  pub base : kept.base ≡ engine.chronicle.base
  pub goes_on : GoesOn disk.past disk'.past
  pub first : KeepsFirst (lists_of engine.chronicle) (lists_of kept)

-- a run on an open journal ends well, for a disk call or for want of memory
opened_cause : (config : Config) (l : Lists) (status : Status) (old new : Option Past) (was now : Faults) → HasDiskCause status was now → HasRunCause config l status old new was now
opened_cause config l s.Ok old new was now cause = cause
opened_cause config l s.DiskFault old new was now cause = cause
opened_cause config l s.NoMemory old new was now cause = cause
opened_cause config l s.SourceFault old new was now cause = absurd cause
opened_cause config l s.SinkFault old new was now cause = absurd cause
opened_cause config l (s.InputTooLong limit) old new was now cause = absurd cause
opened_cause config l (s.Directory fault) old new was now cause = absurd cause
opened_cause config l (s.FileIdsSpent highest) old new was now cause = absurd cause
opened_cause config l (s.NotBuilt part) old new was now cause = absurd cause

-- and writes its text with each of these
opened_written : (status : Status) (was now : Faults) (T : Type 0) → HasDiskCause status was now → is_unwritten status ≡ true → T
opened_written s.Ok was now T cause is = absurd cc
opened_written s.DiskFault was now T cause is = absurd cc
opened_written s.NoMemory was now T cause is = absurd cc
opened_written s.SourceFault was now T cause is = absurd cause
opened_written s.SinkFault was now T cause is = absurd cause
opened_written (s.InputTooLong limit) was now T cause is = absurd cause
opened_written (s.Directory fault) was now T cause is = absurd cause
opened_written (s.FileIdsSpent highest) was now T cause is = absurd cause
opened_written (s.NotBuilt part) was now T cause is = absurd cause

-- the counts since an earlier moment
earlier_count : (status : Status) (was first now : Faults) → NoneFailed was first → HasDiskCount status first now → HasDiskCount status was now
earlier_count s.DiskFault was first now none count = tt
earlier_count s.NoMemory was first now none count = tt
earlier_count s.Ok was first now none count = none_further was first now none count
earlier_count s.SourceFault was first now none count = none_further was first now none count
earlier_count s.SinkFault was first now none count = none_further was first now none count
earlier_count (s.InputTooLong limit) was first now none count = none_further was first now none count
earlier_count (s.Directory fault) was first now none count = none_further was first now none count
earlier_count (s.FileIdsSpent highest) was first now none count = none_further was first now none count
earlier_count (s.NotBuilt part) was first now none count = none_further was first now none count

-- What an opening says of the journal that it opened.
pub record HasOpened {D : Type 0} (config : Config) (e : EngineOf D Kept) (disk first : SeenDisk D) : Type 0 where
  pub last : IsLastCount e.durable e.chronicle.receipts.items
  pub begins : BeginsBySyncs e.chronicle.receipts.items disk.past first.past
  pub base : Told disk.past (HasBase config.user_version e.chronicle.base)
  pub filled :
      Told disk.past
      (IsFilled config (rolled_back e.chronicle.base) (history_of e.chronicle.steps.items)
      e.file e.end e.highest e.free)
  pub files :
      HasFilesSoFar true config e.file e.end e.highest (lists_of e.chronicle) disk.past first.past
  pub none : NoneFailed disk.faults first.faults

-- the run of these lines, from before the opening on
pub ran_opened : {D : Type 0} (config : Config) (lines : List Line) (status : Status) (kept : Kept) (text' : List ℕ) (e : EngineOf D Kept) (disk first disk' : SeenDisk D) → e.config ≡ config → HasOpened config e disk first → RanOn lines status kept text' e first disk' → Ran config lines status kept text' disk disk'
ran_opened config lines status kept text' e disk first disk' same has on = subst (λ (k : Config). Ran k lines status kept text' disk disk') same (of_its (subst (λ (k : Config). HasOpened k e disk first) (sym same) has)) where
  of_its : HasOpened e.config e disk first → Ran e.config lines status kept text' disk disk'
  of_its opening =
      let opened : IsOfOpened e.config (lists_of kept) = record { legal = on.legal; rolled = on.rolled; receipted = on.receipted } in
      let base : Told disk.past (HasBase e.config.user_version kept.base) = subst (λ (ps : List Placed). Told disk.past (HasBase e.config.user_version ps)) (sym on.base) opening.base in
      let cause = between_cause status disk.faults first.faults disk'.faults (omega (arith, opening.none.0)) on.cause in
      record {
        told = record {
          crash_safe = on.crash_safe;
          begins = begins_run e.durable (lists_of e.chronicle) (lists_of kept) disk.past first.past disk'.past opening.last opening.begins on.base on.first on.goes_on;
          nothing_new = λ none. absurd (on.receipted none);
          blank = λ none. absurd (on.receipted none);
          opened = inr base;
          stands = inr (told_on e.config (rolled_back e.chronicle.base) e.file e.end e.highest e.free (lists_of e.chronicle) (lists_of kept) disk.past opening.filled on.stands);
          spent = on.spent;
        };
        durable = on.durable;
        owed = on.owed;
        run = λ done. record { began = base; ran = on.run done };
        text = earlier_text (IsLoadedState disk'.past e.config.user_version kept.base kept.steps.items) (IsOfRefusedOpening e.config (lists_of kept) disk.past disk'.past disk.faults disk'.faults) (IsOfOpened e.config (lists_of kept)) disk.faults first.faults disk'.faults lines opening.none opened e.config.buffer_timeout status kept.steps.items kept.receipts.items text' on.text;
        files = inl (on.files disk.past opening.files);
        legal = inl on.legal;
        rolled = inl on.rolled;
        cause = opened_cause e.config (lists_of kept) status disk.past disk'.past disk.faults disk'.faults cause;
        count = earlier_count status disk.faults first.faults disk'.faults opening.none on.count;
        later = omega (arith, opening.none.0, on.later);
        unbuilt = opened_written status disk.faults disk'.faults (text' ≡ []) cause;
        silent = λ none. absurd (on.receipted none);
      }
