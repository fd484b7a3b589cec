-- What a run of the program promises, in the order in which a reader wants it.
use Rattle.std.specs.Prelude.{◌≡◌, ◌⊎◌, ◌↔◌, ℕ, ◌≤◌, true, false, List, [], length, Option, None, Some}
use Rattle.amq_model.specs.declared.config.Config.{Config}
use Rattle.amq_model.specs.declared.script.Line.{Line}
use Rattle.amq_model.specs.Answers.{history_of}
use Rattle.amq_model.specs.Calls.{Past}
use Rattle.amq_model.specs.Leaves.{Told, LeavesNothingNew}
use Rattle.amq_io.specs.Cause.{Faults}
use Rattle.amq_engine.specs.declared.chronicle.Kept.{Kept}
use Rattle.amq_engine.specs.Engine.{IsBlank, AreSpentAtLast}
use Rattle.amq_engine.specs.Lists.{Lists}
use Rattle.amq_engine.specs.Opening.{HasBase}
use Rattle.amq_engine.specs.Receipts.{IsCrashSafe, IsLastCount, BeginsBySyncs}
use Rattle.amq_cli.specs.declared.status.Status.{Status}
use Rattle.amq_cli.specs.declared.status.Status.TheVariants as s
use Rattle.amq_cli.specs.declared.status.Unbuilt.TheVariants as u
use Rattle.amq_cli.specs.declared.words.Task.{Task}
use Rattle.amq_cli.specs.declared.words.Task.TheVariants as t
use Rattle.amq_cli.specs.Counts.{HasSourceCount, HasSinkCount, HasDiskCount, HasPrintCounts}
use Rattle.amq_cli.specs.Offline.{lists_of, HasCause, HasRun, HasRunFiles, HasRunCause, HasText, HasLegal, HasRolledBack, IsOfOpened, IsOfRefusedOpening, AreInNewFiles, HasPlayCause, IsRun, IsPlayed, IsTextOf, IsOutput, IsPrint, IsScript, IsLoadedState, IsWritten, is_before_opening, is_past_script, is_unwritten}
use Rattle.amq_cli.specs.Output.{IsPartWritten}
use Rattle.amq_cli.specs.Owed.{HasOwed, IsOwedRun}
use Rattle.amq_cli.specs.Words.{prints, reads_script}

-- ---- what is seen of a disk and of a stream

-- A disk, with its calls, where it tells them; how many of them have ended; how often one failed, and which one did last.
pub record SeenDisk (D : Type 0) : Type 0 where
  pub disk : D
  pub past : Option Past
  pub moment : ℕ
  pub faults : Faults

-- so is a disk seen
abbrev pub seen_disk : {D : Type 0} → (D → Option Past) → (D → ℕ) → (D → Faults) → D → SeenDisk D
seen_disk past moment faults disk = record {
  disk = disk;
  past = past disk;
  moment = moment disk;
  faults = faults disk;
}

-- A source or a sink, with the bytes that it has left or has taken, where it tells them, and how often a call failed.
pub record SeenStream (S : Type 0) : Type 0 where
  pub stream : S
  pub bytes : Option (List ℕ)
  pub faults : ℕ

-- so is a source or a sink seen
abbrev pub seen_stream : {S : Type 0} → (S → Option (List ℕ)) → (S → ℕ) → S → SeenStream S
seen_stream bytes faults stream = record {
  stream = stream;
  bytes = bytes stream;
  faults = faults stream;
}

-- ---- what a run promises

-- What the chronicle of a run is worth, with every status: at any crash since a receipt, loading what the disk may leave gives the base and a kept part of the history (`crash_safe`); what comes before the first receipt; that the base is what the directory held (`opened`); and where the appends stand.
pub record IsTold (config : Config) (lists : Lists) (old new : Option Past) (moment : ℕ) : Type 0 where
  pub crash_safe : IsCrashSafe new moment config.user_version lists
  pub begins : BeginsBySyncs lists.receipts old new
  pub nothing_new : lists.receipts ≡ [] → LeavesNothingNew old new
  pub blank : lists.receipts ≡ [] → IsBlank lists
  pub opened : (lists.receipts ≡ []) ⊎ Told old (HasBase config.user_version lists.base)
  pub stands : AreInNewFiles config old lists.steps lists.receipts
  pub spent : AreSpentAtLast [] lists.steps

-- What a run of these lines on a journal promises, whose text is handed back. Its parts mean what they do in `Outcome`.
pub record Ran {D : Type 0} (config : Config) (lines : List Line) (status : Status) (kept : Kept)
    (text' : List ℕ) (disk disk' : SeenDisk D) : Type 0 where
  pub told : IsTold config (lists_of kept) disk.past disk'.past disk'.moment
  pub durable :
      status ≡ s.Ok
      → IsLastCount (length (history_of kept.steps.items)) kept.receipts.items
  pub owed : HasOwed config lines kept.steps.items kept.receipts.items
  pub run :
      status ≡ s.Ok
      → HasRun config lines text' disk.past disk'.past
      kept.base kept.steps.items kept.receipts.items
  pub text :
      HasText config.buffer_timeout status
      (IsLoadedState disk'.past config.user_version kept.base kept.steps.items)
      (IsOfRefusedOpening config (lists_of kept) disk.past disk'.past disk.faults disk'.faults)
      (IsOfOpened config (lists_of kept))
      lines disk.faults disk'.faults kept.steps.items kept.receipts.items text'
  pub files : HasRunFiles status config kept.steps.items disk.past disk'.past
  pub legal :
      HasLegal status config (lists_of kept) disk.past disk'.past disk.faults disk'.faults
      (text' ≡ [])
  pub rolled :
      HasRolledBack status config (lists_of kept) disk.past disk'.past disk.faults disk'.faults
      (text' ≡ [])
  pub cause :
      HasRunCause config (lists_of kept) status disk.past disk'.past disk.faults disk'.faults
  pub count : HasDiskCount status disk.faults disk'.faults
  pub later : disk.faults.0 ≤ disk'.faults.0
  pub unbuilt : is_unwritten status ≡ true → text' ≡ []
  pub silent : kept.receipts.items ≡ [] → text' ≡ []

-- What a run of these lines on a journal promises, whose text is written to the sink. Its parts mean what they do in `Outcome`.
pub record Played {D K : Type 0} (config : Config) (lines : List Line) (status : Status) (kept : Kept)
    (disk disk' : SeenDisk D) (sink sink' : SeenStream K) : Type 0 where
  pub told : IsTold config (lists_of kept) disk.past disk'.past disk'.moment
  pub durable :
      (status ≡ s.Ok) ⊎ (status ≡ s.SinkFault)
      → IsLastCount (length (history_of kept.steps.items)) kept.receipts.items
  pub owed : HasOwed config lines kept.steps.items kept.receipts.items
  pub run :
      status ≡ s.Ok
      → IsPlayed IsWritten config lines disk.past disk'.past sink.bytes sink'.bytes
      kept.base kept.steps.items kept.receipts.items
  pub run_unwritten :
      status ≡ s.SinkFault
      → IsPlayed IsPartWritten config lines disk.past disk'.past sink.bytes sink'.bytes
      kept.base kept.steps.items kept.receipts.items
  pub output :
      IsTextOf config.buffer_timeout status
      (IsLoadedState disk'.past config.user_version kept.base kept.steps.items)
      (IsOfRefusedOpening config (lists_of kept) disk.past disk'.past disk.faults disk'.faults)
      (IsOfOpened config (lists_of kept))
      lines disk.faults disk'.faults sink.faults sink'.faults sink.bytes sink'.bytes
      kept.steps.items kept.receipts.items
  pub files : HasRunFiles status config kept.steps.items disk.past disk'.past
  pub legal :
      HasLegal status config (lists_of kept) disk.past disk'.past disk.faults disk'.faults
      (sink'.bytes ≡ sink.bytes)
  pub rolled :
      HasRolledBack status config (lists_of kept) disk.past disk'.past disk.faults disk'.faults
      (sink'.bytes ≡ sink.bytes)
  pub cause :
      HasPlayCause config (lists_of kept) status disk.past disk'.past
      sink.faults sink'.faults disk.faults disk'.faults
  pub sink_count : HasSinkCount status sink.faults sink'.faults
  pub disk_count : HasDiskCount status disk.faults disk'.faults
  pub later : disk.faults.0 ≤ disk'.faults.0
  pub unwritten : is_unwritten status ≡ true → sink'.stream ≡ sink.stream
  pub silent : kept.receipts.items ≡ [] → sink'.bytes ≡ sink.bytes

-- What a run of the program promises, by what it was asked for, its configuration, how it ended, what it hands back, and its disk, source and sink at entry and at exit: crash safety (`told`), then the receipts (`durable`, `owed`), what was done and written (`run` with status 0, `run_unwritten` with 5, `output` with each, `print` of a print), which files there are (`files`), that the steps are those of a journal of one thread (`legal`, `rolled`), why it ended so (`words`, `cause`, and the counts of failed calls), and what stays as it was.
pub record Outcome {D S K : Type 0} (task : Option Task) (config : Config) (status : Status) (kept : Kept)
    (disk disk' : SeenDisk D) (source source' : SeenStream S) (sink sink' : SeenStream K) : Type 0 where
  pub told : IsTold config (lists_of kept) disk.past disk'.past disk'.moment
  pub durable :
      prints task ≡ false
      → (status ≡ s.Ok) ⊎ (status ≡ s.SinkFault)
      → IsLastCount (length (history_of kept.steps.items)) kept.receipts.items
  pub owed :
      prints task ≡ false
      → IsOwedRun task config status source.bytes source'.bytes kept.steps.items kept.receipts.items
  pub run :
      prints task ≡ false
      → status ≡ s.Ok
      → IsRun IsWritten task config source.bytes source'.bytes disk.past disk'.past
      sink.bytes sink'.bytes kept.base kept.steps.items kept.receipts.items
  pub run_unwritten :
      prints task ≡ false
      → status ≡ s.SinkFault
      → IsRun IsPartWritten task config source.bytes source'.bytes disk.past disk'.past
      sink.bytes sink'.bytes kept.base kept.steps.items kept.receipts.items
  pub output :
      prints task ≡ false
      → IsOutput task config.buffer_timeout status
      (IsLoadedState disk'.past config.user_version kept.base kept.steps.items)
      (IsOfRefusedOpening config (lists_of kept) disk.past disk'.past disk.faults disk'.faults)
      (IsOfOpened config (lists_of kept))
      source.bytes source'.bytes disk.faults disk'.faults
      sink.faults sink'.faults sink.bytes sink'.bytes
      kept.steps.items kept.receipts.items
  pub script :
      prints task ≡ false
      → is_past_script status ≡ true
      → IsScript task source.bytes source'.bytes
  pub print :
      task ≡ Some t.Print
      → IsPrint status config.user_version disk.past disk'.past sink.bytes sink'.bytes
      kept.steps.items kept.receipts.items
  pub files : prints task ≡ false → HasRunFiles status config kept.steps.items disk.past disk'.past
  pub legal :
      HasLegal status config (lists_of kept) disk.past disk'.past disk.faults disk'.faults
      (sink'.bytes ≡ sink.bytes)
  pub rolled :
      HasRolledBack status config (lists_of kept) disk.past disk'.past disk.faults disk'.faults
      (sink'.bytes ≡ sink.bytes)
  pub words : (status ≡ s.NotBuilt u.Words) ↔ (task ≡ None)
  pub cause :
      HasCause config (lists_of kept) status source.bytes disk.past disk'.past
      source.faults source'.faults sink.faults sink'.faults disk.faults disk'.faults
  pub source_count : HasSourceCount status source.faults source'.faults
  pub sink_count : HasSinkCount status sink.faults sink'.faults
  pub disk_count : HasDiskCount status disk.faults disk'.faults
  pub print_counts :
      task ≡ Some t.Print
      → HasPrintCounts status sink.faults sink'.faults disk.faults disk'.faults
  pub later : disk.faults.0 ≤ disk'.faults.0
  pub unread : reads_script task ≡ false → source'.stream ≡ source.stream
  pub unopened :
      is_before_opening status ≡ true
      → (disk'.disk ≡ disk.disk) × (kept.steps.items ≡ []) × (kept.receipts.items ≡ [])
  pub unwritten : is_unwritten status ≡ true → sink'.stream ≡ sink.stream
  pub silent :
      prints task ≡ false
      → kept.receipts.items ≡ []
      → sink'.bytes ≡ sink.bytes
  pub unprinted : task ≡ Some t.Print → status ≡ s.DiskFault → sink'.stream ≡ sink.stream
