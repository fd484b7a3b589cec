-- What the program's commands leave.
use Rattle.std.specs.Prelude.{◌≡◌, ◌≢◌, ◌⊎◌, ℕ, ◌+◌, ◌<◌, ◌≤◌, Bool, true, false, List, [], ◌∷◌, ◌++◌, length, Option, None, Some, option_map, IfSome}
use Rattle.std.specs.FinMap as finite
use Rattle.amq_model.specs.declared.script.Line.{Line}
use Rattle.amq_model.specs.declared.script.Line.TheVariants as l
use Rattle.amq_model.specs.declared.config.Config.{Config}
use Rattle.amq_model.specs.declared.directory.OpenFault.{OpenFault}
use Rattle.amq_model.specs.declared.directory.OpenFault.TheVariants as o
use Rattle.amq_model.specs.Legal.{AreLegal, AreLegalOfRefused, rolled_back}
use Rattle.amq_model.specs.declared.history.Step.{Step}
use Rattle.amq_model.specs.declared.record.Placed.{Placed}
use Rattle.amq_model.specs.declared.state.LoadState.{LoadState}
use Rattle.amq_model.specs.Answers.{history_of}
use Rattle.amq_model.specs.Calls.{Event, Past, listing, content}
use Rattle.amq_model.specs.LoadCalls.{AreCalls, AreFirstCalls, Makes, load_calls, AreCallsUntil}
use Rattle.amq_model.specs.Directory.{Loads, IsRead}
use Rattle.amq_model.specs.Effect.{result_of}
use Rattle.amq_model.specs.Files.{Files, Image, IsReading}
use Rattle.amq_model.specs.Leaves.{Leaves, Told, OnlyAsks, IsThere, Syncs}
use Rattle.amq_model.specs.Names.{control_name}
use Rattle.amq_model.specs.Texts.{report_of, refusal_line}
use Rattle.amq_io.specs.Cause.{Rose, Faults, NoneFailed}
use Rattle.amq_loader.specs.Loads.{IsFaulty, IsStateOf}
use Rattle.amq_engine.specs.Engine.{IsBlank, AreAppended, AreSpentAtLast}
use Rattle.amq_engine.specs.Owed.{AreOwedAtOpening}
use Rattle.amq_engine.specs.Receipts.{BeginsBySyncs}
use Rattle.amq_engine.specs.Opening.{AreFirstRollbacks, HasBase, HasNumbers, StandBehind, HasOpenCause}
use Rattle.amq_engine.specs.DataFiles.{HasFilesOf, HasFailedFiles}
use Rattle.amq_engine.specs.Lists.{Lists}
use Rattle.amq_engine.specs.declared.chronicle.Kept.{Kept}
use Rattle.amq_engine.specs.declared.chronicle.Receipted.{Receipted}
use Rattle.amq_model.specs.declared.refusal.DiskCall.{DiskCall}
use Rattle.amq_model.specs.declared.refusal.Refusal.TheVariants as r
use Rattle.amq_cli.specs.declared.status.Status.{Status}
use Rattle.amq_cli.specs.declared.status.Status.TheVariants as s
use Rattle.amq_cli.specs.declared.status.Unbuilt.TheVariants as u
use Rattle.amq_cli.specs.declared.words.Task.{Task}
use Rattle.amq_cli.specs.declared.words.Task.TheVariants as t
use Rattle.amq_cli.specs.Counts.{HasDiskCount}
use Rattle.amq_cli.specs.Output.{IsPartWritten, IsBrokenOff}
use Rattle.amq_cli.specs.Statuses.{status_of_opening}
use Rattle.amq_cli.specs.Replay.{Answered, AreAnswered, HasReplayed, reply_lines, script_lines}
use Rattle.amq_cli.specs.Script.{IsSaid, input_limit}

-- the configuration of a broker that sets nothing
abbrev pub defaults : Config
defaults = record { file_size = 10485760; min_files = 2; pool_files = None; compact_min_files = 10; compact_percentage = 30; buffer_size = 501760; buffer_timeout = 3; user_version = 0 }

-- what a chronicle that keeps all has kept
abbrev pub lists_of : Kept → Lists
lists_of kept = record { base = kept.base; steps = kept.steps.items; receipts = kept.receipts.items }

-- ---- what a directory holds

-- what a disk reads, if it tells its content
abbrev pub content_of : Option Past → Option Files
content_of past = option_map (λ p. content p.start p.calls) past

-- it loads, its records are those of the base and then of the steps, and this is the state that they mean
pub record LoadsTo (user_version : ℕ) (base : List Placed) (steps : List Step) (state : LoadState) (s : Files) : Type 0 where
  pub image : Image
  pub reading : IsReading s image
  pub loads : Loads (finite.entries image) user_version state
  pub records : IsRead (finite.entries image) None (base ++ history_of steps)
  pub is : state ≡ result_of (base ++ history_of steps)

-- the directory, where it is told, loads to this state
abbrev pub IsLoadedState : Option Past → ℕ → List Placed → List Step → LoadState → Type 0
IsLoadedState past user_version base steps state = Told past (LoadsTo user_version base steps state)

-- ---- a run of lines on a disk

-- All lines were answered, and the text has their lines and then the report of what the directory loads to.
pub record HasRunOn (config : Config) (lines : List Line) (text : List ℕ) (past : Option Past) (base : List Placed) (steps : List Step) (receipts : List Receipted) : Type 0 where
  pub replies : List ℕ
  pub replayed : HasReplayed config.buffer_timeout lines steps receipts replies
  pub state : LoadState
  pub reported : text ≡ replies ++ report_of state
  pub loaded : Told past (LoadsTo config.user_version base steps state)

-- the same of a run that began with a directory of this base
pub record HasRun (config : Config) (lines : List Line) (text : List ℕ) (old new : Option Past) (base : List Placed) (steps : List Step) (receipts : List Receipted) : Type 0 where
  pub began : Told old (HasBase config.user_version base)
  pub ran : HasRunOn config lines text new base steps receipts

-- the report of what the directory loads to is added, and the directory is as it was
pub record IsReported (user_version : ℕ) (before after : List ℕ) (old new : Option Past) : Type 0 where
  pub state : LoadState
  pub lines : after ≡ before ++ report_of state
  pub loaded : Told old (IsStateOf user_version state)
  pub same : content_of new ≡ content_of old

-- why a run on an open journal ended so
abbrev pub HasDiskCause : Status → Faults → Faults → Type 0
HasDiskCause s.Ok was now = Unit {0}
HasDiskCause s.DiskFault was now = Rose was.0 now.0
HasDiskCause s.NoMemory was now = Unit {0}
HasDiskCause _ was now = ⊥

-- Why a run on a disk ended so. Where the directory has a fault or a control file, it was only asked; where no number is left for a file, the opening was refused for it.
abbrev pub HasRunCause : Config → Lists → Status → Option Past → Option Past → Faults → Faults → Type 0
HasRunCause config lists (s.Directory fault) old new was now = OnlyAsks old new × Told old (IsFaulty config.user_version fault)
HasRunCause config lists (s.NotBuilt u.Directory) old new was now = OnlyAsks old new × Told old (IsThere control_name)
HasRunCause config lists (s.FileIdsSpent highest) old new was now = HasOpenCause config (o.FileIdsSpent highest) (Some lists) old new was now
HasRunCause config lists status old new was now = HasDiskCause status was now

-- What an opening leaves that was refused for this fault: the steps are the first of its rollbacks alone, each appended and each owed where it is durable; the files are as they were, or those that it had begun; and without a receipt nothing is noted.
pub record IsOfRefusedOpening (config : Config) (l : Lists) (old new : Option Past) (was now : Faults) (fault : OpenFault) : Type 0 where
  pub cause : HasOpenCause config fault (Some l) old new was now
  pub legal : AreLegalOfRefused l.base l.steps config
  pub appended : AreAppended (length l.steps) l.steps
  pub base : IsBlank l ⊎ Told old (HasBase config.user_version l.base)
  pub rollbacks : IsBlank l ⊎ Told old (AreFirstRollbacks config l)
  pub spent : AreSpentAtLast [] l.steps
  pub unnoted : l.receipts ≡ [] → IsBlank l
  pub begins : BeginsBySyncs l.receipts old new
  pub owed : AreOwedAtOpening config l
  pub files : HasFailedFiles config l old new

-- the opening was refused, and the run has the status of that
abbrev pub IsRefused : Status → Config → Lists → Option Past → Option Past → Faults → Faults → Type 0
IsRefused status config l old new was now = (fault : OpenFault) × (status ≡ status_of_opening fault) × IsOfRefusedOpening config l old new was now fault

-- What a run leaves whose opening wasn't refused: a receipt, the steps of a legal history, and among the appends a ROLLBACK of each transaction that the opening rolls back.
pub record IsOfOpened (config : Config) (l : Lists) : Type 0 where
  pub legal : AreLegal l.base l.steps config
  pub rolled : AreAppended (length (rolled_back l.base)) l.steps
  pub receipted : l.receipts ≢ []

-- The steps are a legal history; or the opening was refused, and nothing is written.
abbrev pub HasLegal : Status → Config → Lists → Option Past → Option Past → Faults → Faults → Type 0 → Type 0
HasLegal status config l old new was now Silent = AreLegal l.base l.steps config ⊎ (IsRefused status config l old new was now × Silent)

-- Each transaction that the opening rolls back has its ROLLBACK among the appends; or the opening was refused, and nothing is written.
abbrev pub HasRolledBack : Status → Config → Lists → Option Past → Option Past → Faults → Faults → Type 0 → Type 0
HasRolledBack status config l old new was now Silent = AreAppended (length (rolled_back l.base)) l.steps ⊎ (IsRefused status config l old new was now × Silent)

-- all lines were answered, and the report was made
abbrev pub is_done : Status → Bool
is_done s.Ok = true
is_done s.SinkFault = true
is_done _ = false

-- Which data files a run of these steps leaves, and which files it leaves alone: those of its history, all of them where all was done, and else maybe with one file more; or there is no step, and nothing was done but that files were made durable, as where the opening was refused at once.
abbrev pub HasRunFiles : Status → Config → List Step → Option Past → Option Past → Type 0
HasRunFiles status config steps old new = HasFilesOf (is_done status) config (history_of steps) old new ⊎ ((is_done status ≡ false) × (steps ≡ []) × Leaves Syncs Syncs old new)

-- Where there is a receipt, the appends stand one behind the other from the head of the file on that has the number behind all that the directory had: each right behind the one before it where the file size allows that, else first in the file of the next number.
abbrev pub AreInNewFiles : Config → Option Past → List Step → List Receipted → Type 0
AreInNewFiles config old steps receipts = (receipts ≡ []) ⊎ Told old (λ s. (files : ℕ) × (before : ℕ) × HasNumbers files before s × StandBehind config (before + 1) 16 (history_of steps))

-- all lines were answered
abbrev pub AreAll : List Line → List Answered → Type 0
AreAll lines answered = length answered ≡ length lines

-- all lines were answered, and this is the report of what the directory loads to
abbrev pub IsReport : (LoadState → Type 0) → List Line → List Answered → List ℕ → Type 0
IsReport Loaded lines answered ending = AreAll lines answered × ((state : LoadState) × Loaded state × (ending ≡ report_of state))

-- a line of the script wasn't answered, a disk call has failed in this run, and this is the line of the one that failed last
abbrev pub IsDiskLine : Faults → Faults → List Line → List Answered → List ℕ → Type 0
IsDiskLine was now lines answered ending = (length answered < length lines) × Rose was.0 now.0 × ((call : DiskCall) × (now.1 ≡ Some call) × (ending ≡ refusal_line (r.Disk call)))

-- What stands behind the lines of what was answered: the report, the line of a disk call that failed, or nothing. With a disk fault nothing stands there only where the opening was refused for it, and no line was answered, or where all were; and the line only where the opening wasn't refused. For want of memory nothing stands there: the line of a disk call lacks only behind an opening that wasn't refused, where the call failed besides.
abbrev pub IsEnding : Status → (LoadState → Type 0) → (OpenFault → Type 0) → Type 0 → Faults → Faults → List Line → List Answered → List ℕ → Type 0
IsEnding s.Ok Loaded Refused Opened was now lines answered ending = Opened × IsReport Loaded lines answered ending
IsEnding s.SinkFault Loaded Refused Opened was now lines answered ending = Opened × IsReport Loaded lines answered ending
IsEnding s.DiskFault Loaded Refused Opened was now lines answered ending =
    (((call : DiskCall) × Refused (o.Disk call)) × (answered ≡ []) × (ending ≡ [])) ⊎ (Opened × (((ending ≡ []) × AreAll lines answered) ⊎ IsDiskLine was now lines answered ending))
IsEnding s.NoMemory Loaded Refused Opened was now lines answered ending = (ending ≡ []) × (NoneFailed was now ⊎ (Opened × ((line : List ℕ) × IsDiskLine was now lines answered line)))
IsEnding (s.Directory fault) Loaded Refused Opened was now lines answered ending = Refused (o.Directory fault) × (answered ≡ []) × (ending ≡ [])
IsEnding (s.FileIdsSpent highest) Loaded Refused Opened was now lines answered ending = Refused (o.FileIdsSpent highest) × (answered ≡ []) × (ending ≡ [])
IsEnding (s.NotBuilt u.Directory) Loaded Refused Opened was now lines answered ending = Refused o.NotBuilt × (answered ≡ []) × (ending ≡ [])
IsEnding (s.NotBuilt u.Words) Loaded Refused Opened was now lines answered ending = (answered ≡ []) × (ending ≡ [])
IsEnding (s.NotBuilt u.Script) Loaded Refused Opened was now lines answered ending = (answered ≡ []) × (ending ≡ [])
IsEnding s.SourceFault Loaded Refused Opened was now lines answered ending = (answered ≡ []) × (ending ≡ [])
IsEnding (s.InputTooLong limit) Loaded Refused Opened was now lines answered ending = (answered ≡ []) × (ending ≡ [])

-- The text of a run with this status, however it ended: the lines of what was answered, and then an ending.
pub record HasText (timeout : ℕ) (status : Status) (Loaded : LoadState → Type 0) (Refused : OpenFault → Type 0) (Opened : Type 0) (lines : List Line) (was now : Faults) (steps : List Step) (receipts : List Receipted) (text : List ℕ) : Type 0 where
  pub answered : List Answered
  pub are : AreAnswered timeout lines steps receipts answered
  pub ending : List ℕ
  pub ends : IsEnding status Loaded Refused Opened was now lines answered ending
  pub is : text ≡ reply_lines answered ++ ending

-- ---- the whole run

-- the sink has taken this text more, where it tells
abbrev pub IsWritten : List ℕ → Option (List ℕ) → Option (List ℕ) → Type 0
IsWritten text old new = new ≡ option_map (λ taken. taken ++ text) old

-- a run ends as it would without a sink, but where the sink failed or had no memory
abbrev pub IsEnd : Status → Status → ℕ → ℕ → Type 0
IsEnd status outcome old new = (status ≡ outcome) ⊎ (status ≡ s.NoMemory) ⊎ ((status ≡ s.SinkFault) × (outcome ≡ s.Ok) × Rose old new)

-- How a run ends whose text is given to the sink. It ends as it did, and all is written or the sink failed; with status 5, where only the sink failed; or with status 8, where the sink had no memory and broke off.
abbrev pub IsGiven : Status → Status → List ℕ → ℕ → ℕ → Option (List ℕ) → Option (List ℕ) → Type 0
IsGiven status outcome text old new taken_old taken_new =
    ((status ≡ outcome) × (IsWritten text taken_old taken_new ⊎ Rose old new)) ⊎ ((status ≡ s.SinkFault) × (outcome ≡ s.Ok) × Rose old new) ⊎ ((status ≡ s.NoMemory) × (new ≡ old) × IsBrokenOff text taken_old taken_new)

-- the lines of what was asked for: those that the source held, all of which is read; or the one that settles a transaction, and the source isn't read
abbrev pub HasLines : Option Task → List Line → Option (List ℕ) → Option (List ℕ) → Type 0
HasLines (Some t.Replay) lines left_old left_new = IsSaid lines left_old left_new
HasLines (Some (t.Settle command)) lines left_old left_new = (lines ≡ l.Plain command ∷ []) × (left_new ≡ left_old)
HasLines (Some t.Print) lines left_old left_new = ⊥
HasLines None lines left_old left_new = ⊥

-- there are such lines
abbrev pub IsScript : Option Task → Option (List ℕ) → Option (List ℕ) → Type 0
IsScript task old new = (lines : List Line) × HasLines task lines old new

-- these lines were run, and the sink has their text
abbrev pub IsPlayed : (List ℕ → Option (List ℕ) → Option (List ℕ) → Type 0) → Config → List Line → Option Past → Option Past → Option (List ℕ) → Option (List ℕ) → List Placed → List Step → List Receipted → Type 0
IsPlayed Writes config lines past_old past_new taken_old taken_new base steps receipts = (text : List ℕ) × HasRun config lines text past_old past_new base steps receipts × Writes text taken_old taken_new

-- What a run with status 0 has done: the lines of what was asked for are answered, and the sink has the text. Where only the sink failed all is the same but for that.
pub record IsRun (Writes : List ℕ → Option (List ℕ) → Option (List ℕ) → Type 0) (task : Option Task) (config : Config) (left_old left_new : Option (List ℕ)) (past_old past_new : Option Past) (taken_old taken_new : Option (List ℕ)) (base : List Placed) (steps : List Step) (receipts : List Receipted) : Type 0 where
  pub lines : List Line
  pub said : HasLines task lines left_old left_new
  pub played : IsPlayed Writes config lines past_old past_new taken_old taken_new base steps receipts

-- the script was read
abbrev pub is_past_script : Status → Bool
is_past_script s.Ok = true
is_past_script s.SinkFault = true
is_past_script s.DiskFault = true
is_past_script (s.Directory fault) = true
is_past_script (s.FileIdsSpent highest) = true
is_past_script (s.NotBuilt u.Directory) = true
is_past_script _ = false

-- What was written of a run of these lines, with every status: how the run ended before its text was given to the sink, that text, and what the sink took of it.
pub record IsTextOf (timeout : ℕ) (status : Status) (Loaded : LoadState → Type 0) (Refused : OpenFault → Type 0) (Opened : Type 0) (lines : List Line) (was now : Faults) (sink_old sink_new : ℕ) (taken_old taken_new : Option (List ℕ)) (steps : List Step) (receipts : List Receipted) : Type 0 where
  pub outcome : Status
  pub count : HasDiskCount outcome was now
  pub text : List ℕ
  pub has : HasText timeout outcome Loaded Refused Opened lines was now steps receipts text
  pub part : IsPartWritten text taken_old taken_new
  pub given : IsGiven status outcome text sink_old sink_new taken_old taken_new

-- What was written, with every status, by a command that opens the journal: a front of the text of a run of its lines, and all of it unless the sink failed or had no memory. Where the script wasn't read there is no line and no text.
pub record IsOutput (task : Option Task) (timeout : ℕ) (status : Status) (Loaded : LoadState → Type 0) (Refused : OpenFault → Type 0) (Opened : Type 0) (left_old left_new : Option (List ℕ)) (was now : Faults) (sink_old sink_new : ℕ) (taken_old taken_new : Option (List ℕ)) (steps : List Step) (receipts : List Receipted) : Type 0 where
  pub lines : List Line
  pub written : IsTextOf timeout status Loaded Refused Opened lines was now sink_old sink_new taken_old taken_new steps receipts
  pub said : ((is_past_script status ≡ false) × (lines ≡ []) × (written.text ≡ [])) ⊎ HasLines task lines left_old left_new

-- what `print` wrote: nothing more, where it has no report
abbrev pub IsSilent : Option (List ℕ) → Option (List ℕ) → Type 0
IsSilent taken_old taken_new = taken_new ≡ taken_old

-- the report of a state that the directory loads to was written so
abbrev pub IsReportWritten : (List ℕ → Option (List ℕ) → Option (List ℕ) → Type 0) → ℕ → Option Past → Option (List ℕ) → Option (List ℕ) → Type 0
IsReportWritten Writes wanted past taken_old taken_new = (state : LoadState) × Told past (IsStateOf wanted state) × Writes (report_of state) taken_old taken_new

-- What `print` wrote with this status: the whole report with 0, a front of it where the sink failed, a front or nothing where memory was short, and nothing else. Where it isn't built a file has the control file's name.
abbrev pub IsPrinted : Status → ℕ → Option Past → Option (List ℕ) → Option (List ℕ) → Type 0
IsPrinted s.Ok wanted past taken_old taken_new = IsReportWritten IsWritten wanted past taken_old taken_new
IsPrinted s.SinkFault wanted past taken_old taken_new = IsReportWritten IsPartWritten wanted past taken_old taken_new
IsPrinted s.NoMemory wanted past taken_old taken_new = IsReportWritten IsPartWritten wanted past taken_old taken_new ⊎ IsSilent taken_old taken_new
IsPrinted s.DiskFault wanted past taken_old taken_new = IsSilent taken_old taken_new
IsPrinted (s.Directory fault) wanted past taken_old taken_new = Told past (IsFaulty wanted fault) × IsSilent taken_old taken_new
IsPrinted (s.NotBuilt u.Directory) wanted past taken_old taken_new = Told past (IsThere control_name) × IsSilent taken_old taken_new
IsPrinted _ wanted past taken_old taken_new = ⊥

-- why `print` ended so, by how often calls had failed
abbrev pub HasPrintCause : Status → ℕ → ℕ → Faults → Faults → Type 0
HasPrintCause s.SinkFault sink sink' disk disk' = Rose sink sink'
HasPrintCause s.DiskFault sink sink' disk disk' = Rose disk.0 disk'.0
HasPrintCause _ sink sink' disk disk' = Unit {0}

-- Which calls `print` has made with this status: those of a whole load where it has a report, those until the fault is known where the directory has one, the list alone where a file has the control file's name, and else the first ones of a load.
abbrev pub HasPrintCalls : Status → Files → List Event → Type 0
HasPrintCalls s.Ok before events = AreCalls (load_calls before) events
HasPrintCalls s.SinkFault before events = AreCalls (load_calls before) events
HasPrintCalls (s.Directory fault) before events = AreCallsUntil fault before events
HasPrintCalls (s.NotBuilt u.Directory) before events = AreCalls (listing ∷ []) events
HasPrintCalls s.DiskFault before events = AreFirstCalls (load_calls before) events
HasPrintCalls s.NoMemory before events = AreFirstCalls (load_calls before) events
HasPrintCalls _ before events = ⊥

-- What `print` does, with every status: it makes no disk call but list and read, and of these the calls of a load, each once; and it opens nothing.
pub record IsPrint (status : Status) (wanted : ℕ) (past_old past_new : Option Past) (taken_old taken_new : Option (List ℕ)) (steps : List Step) (receipts : List Receipted) : Type 0 where
  pub asks : OnlyAsks past_old past_new
  pub calls : Makes (HasPrintCalls status) past_old past_new
  pub written : IsPrinted status wanted past_old taken_old taken_new
  pub no_steps : steps ≡ []
  pub no_receipts : receipts ≡ []

-- Why a run ended so, by what the source had left, what the directory was, and how often calls had failed. The words have a clause of their own.
abbrev pub HasCause : Config → Lists → Status → Option (List ℕ) → Option Past → Option Past → ℕ → ℕ → ℕ → ℕ → Faults → Faults → Type 0
HasCause config lists s.Ok left old new source source' sink sink' disk disk' = Unit {0}
HasCause config lists s.SourceFault left old new source source' sink sink' disk disk' = Rose source source'
HasCause config lists s.SinkFault left old new source source' sink sink' disk disk' = Rose sink sink'
HasCause config lists s.DiskFault left old new source source' sink sink' disk disk' = Rose disk.0 disk'.0
HasCause config lists (s.Directory fault) left old new source source' sink sink' disk disk' = OnlyAsks old new × Told old (IsFaulty config.user_version fault)
HasCause config lists s.NoMemory left old new source source' sink sink' disk disk' = Unit {0}
HasCause config lists (s.FileIdsSpent highest) left old new source source' sink sink' disk disk' = HasOpenCause config (o.FileIdsSpent highest) (Some lists) old new disk disk'
HasCause config lists (s.InputTooLong limit) left old new source source' sink sink' disk disk' = (limit ≡ input_limit) × IfSome left (λ bytes. input_limit < length bytes)
HasCause config lists (s.NotBuilt u.Words) left old new source source' sink sink' disk disk' = Unit {0}
HasCause config lists (s.NotBuilt u.Script) left old new source source' sink sink' disk disk' = IfSome left (λ bytes. (length bytes ≤ input_limit) × (script_lines bytes ≡ None))
HasCause config lists (s.NotBuilt u.Directory) left old new source source' sink sink' disk disk' = OnlyAsks old new × Told old (IsThere control_name)

-- the same of a run of lines whose text was written
abbrev pub HasPlayCause : Config → Lists → Status → Option Past → Option Past → ℕ → ℕ → Faults → Faults → Type 0
HasPlayCause config lists s.SinkFault old new sink sink' disk disk' = Rose sink sink'
HasPlayCause config lists status old new sink sink' disk disk' = HasRunCause config lists status old new disk disk'

-- no call of the disk was made
abbrev pub is_before_opening : Status → Bool
is_before_opening s.SourceFault = true
is_before_opening (s.InputTooLong limit) = true
is_before_opening (s.NotBuilt u.Words) = true
is_before_opening (s.NotBuilt u.Script) = true
is_before_opening _ = false

-- nothing was written
abbrev pub is_unwritten : Status → Bool
is_unwritten s.SourceFault = true
is_unwritten (s.Directory fault) = true
is_unwritten (s.FileIdsSpent highest) = true
is_unwritten (s.InputTooLong limit) = true
is_unwritten (s.NotBuilt part) = true
is_unwritten _ = false
