-- What a replay does with the lines of a script.
use Rattle.std.specs.Prelude.{◌≡◌, ◌⊎◌, ℕ, ◌+◌, ◌-◌, ◌<◌, ◌≤◌, max, Bool, true, false, not, ◌==◌, if◌then◌else◌, List, [], ◌∷◌, ◌++◌, length, take, map, filter, fold, Option, None, Some, option_map, Ok, Err, IsTrue, All}
use Rattle.std.specs.List.{cons_option, filter_map, flat_map, list_all, list_any}
use Rattle.amq_model.specs.declared.command.Command.{Command}
use Rattle.amq_model.specs.declared.command.Command.TheVariants as c
use Rattle.amq_model.specs.declared.command.Reply.TheVariants.{Appended, Begun, Durable}
use Rattle.amq_model.specs.declared.script.Line.{Line}
use Rattle.amq_model.specs.declared.script.Line.TheVariants as l
use Rattle.amq_model.specs.declared.script.Mode.TheVariants as m
use Rattle.amq_model.specs.declared.history.Answer.{Answer}
use Rattle.amq_model.specs.declared.history.Answer.TheVariants.{Done, Refused}
use Rattle.amq_model.specs.declared.history.Step.{Step}
use Rattle.amq_model.specs.declared.refusal.DiskCall.{DiskCall}
use Rattle.amq_model.specs.declared.refusal.Refusal.{Refusal}
use Rattle.amq_model.specs.declared.refusal.Refusal.TheVariants as r
use Rattle.amq_model.specs.Answers.{history_of}
use Rattle.amq_model.specs.Script.{script_of}
use Rattle.amq_model.specs.Texts.{reply_line, bound_line}
use Rattle.amq_model.specs.Names.{same}
use Rattle.amq_engine.specs.declared.chronicle.Receipted.{Receipted}

-- ---- the script

-- a line that a replay takes today: all but those of giving up files and of compaction
abbrev pub is_built : Line → Bool
is_built l.Reclaim = false
is_built l.Compact = false
is_built (l.Step steps) = false
is_built (l.Plain command) = true
is_built (l.Labelled label command) = true
is_built (l.Bind label tx) = true
is_built (l.Tick now) = true

-- the lines of the one producer, if a replay takes each of them
abbrev pub built_lines : List (List Line) → Option (List Line)
built_lines (lines ∷ []) = if list_all is_built lines then Some lines else None
built_lines _ = None

-- the lines of a script, if it is in the grammar and a replay takes each of them
abbrev pub script_lines : List ℕ → Option (List Line)
script_lines bytes = elim (script_of m.Replay bytes) [ Ok producers ↦ built_lines producers | Err wrong ↦ None ]

-- ---- what lines were answered

-- a line that was answered, with its answer; a bind has none
abbrev pub Answered : Type 0
Answered = Line × Option Answer

-- the number that a begin was given, 0 where it was refused
abbrev pub begun_number : Option Answer → ℕ
begun_number None = 0
begun_number (Some answer) = elim answer [ Done reply ↦ elim reply [ Begun tx ↦ tx | _ ↦ 0 ] | Refused refusal ↦ 0 ]

-- it begins a transaction
abbrev pub is_begin : Command → Bool
is_begin c.Begin = true
is_begin (c.Add id user_type body) = false
is_begin (c.Update id user_type body) = false
is_begin (c.Delete id) = false
is_begin (c.AddTx tx id user_type body) = false
is_begin (c.UpdateTx tx id user_type body) = false
is_begin (c.DeleteTx tx id body) = false
is_begin (c.Prepare tx extra) = false
is_begin (c.Commit tx) = false
is_begin (c.Rollback tx) = false
is_begin c.Flush = false

-- the number that a label stands for behind one more line
abbrev pub number_behind : List ℕ → ℕ → Answered → ℕ
number_behind label before x = elim x.0 [
  | l.Labelled name command ↦ elim command [
    | c.Begin ↦ (if same name label then begun_number x.1 else before)
    | c.Add id user_type body ↦ before
    | c.Update id user_type body ↦ before
    | c.Delete id ↦ before
    | c.AddTx tx id user_type body ↦ before
    | c.UpdateTx tx id user_type body ↦ before
    | c.DeleteTx tx id body ↦ before
    | c.Prepare tx extra ↦ before
    | c.Commit tx ↦ before
    | c.Rollback tx ↦ before
    | c.Flush ↦ before
  ]
  | l.Bind name tx ↦ (if same name label then tx else before)
  | l.Plain command ↦ before
  | l.Tick now ↦ before
  | l.Reclaim ↦ before
  | l.Compact ↦ before
  | l.Step steps ↦ before
]

-- the number that a label stands for: that of its last begin or bind
abbrev pub label_number : List Answered → List ℕ → ℕ
label_number answered label = fold (number_behind label) 0 answered

-- the command with the number of its transaction
abbrev pub with_number : ℕ → Command → Command
with_number n (c.AddTx tx id user_type body) = c.AddTx n id user_type body
with_number n (c.UpdateTx tx id user_type body) = c.UpdateTx n id user_type body
with_number n (c.DeleteTx tx id body) = c.DeleteTx n id body
with_number n (c.Prepare tx extra) = c.Prepare n extra
with_number n (c.Commit tx) = c.Commit n
with_number n (c.Rollback tx) = c.Rollback n
with_number n (c.Add id user_type body) = c.Add id user_type body
with_number n (c.Update id user_type body) = c.Update id user_type body
with_number n (c.Delete id) = c.Delete id
with_number n c.Begin = c.Begin
with_number n c.Flush = c.Flush

-- the command of a line behind these, its label replaced by the number that it stands for
abbrev pub sent : List Answered → Line → Option Command
sent before (l.Plain command) = Some command
sent before (l.Labelled label command) = Some (with_number (label_number before label) command)
sent before (l.Bind label tx) = None
sent before (l.Tick now) = None
sent before l.Reclaim = None
sent before l.Compact = None
sent before (l.Step steps) = None

-- the command of a line behind others, with its answer
abbrev pub commanded : List Answered → Answered → Option (Command × Answer)
commanded before x = elim (sent before x.0) [ None ↦ None | Some command ↦ option_map (λ answer. (command, answer)) x.1 ]

-- the commands of these lines behind others, with their answers
abbrev pub all_commanded : List Answered → List Answered → List (Command × Answer)
all_commanded before [] = []
all_commanded before (x ∷ xs) = cons_option (commanded before x) (all_commanded (before ++ x ∷ []) xs)

-- the place of a line's append
abbrev pub placed_at : Answered → Option ℕ
placed_at x = elim x.1 [ None ↦ None | Some answer ↦ elim answer [ Done reply ↦ elim reply [ Appended place ↦ Some place | _ ↦ None ] | Refused refusal ↦ None ] ]

-- the count of durable appends that a line was answered
abbrev pub counted : Answered → Option ℕ
counted x = elim x.1 [ None ↦ None | Some answer ↦ elim answer [ Done reply ↦ elim reply [ Durable count ↦ Some count | _ ↦ None ] | Refused refusal ↦ None ] ]

-- the moment of a tick
abbrev pub ticked : Answered → Option ℕ
ticked x = elim x.0 [
  | l.Tick now ↦ Some now
  | l.Plain command ↦ None
  | l.Labelled label command ↦ None
  | l.Bind label tx ↦ None
  | l.Reclaim ↦ None
  | l.Compact ↦ None
  | l.Step steps ↦ None
]

-- the greatest moment of the ticks among these lines, 0 where there is none
abbrev pub clock_of : List Answered → ℕ
clock_of answered = fold max 0 (filter_map ticked answered)

-- the line of text of a line of the script
abbrev pub line_of : Answered → List ℕ
line_of x = elim x.1 [
  | Some answer ↦ reply_line answer
  | None ↦ elim x.0 [
    | l.Bind label tx ↦ bound_line tx
    | l.Plain command ↦ []
    | l.Labelled label command ↦ []
    | l.Tick now ↦ []
    | l.Reclaim ↦ []
    | l.Compact ↦ []
    | l.Step steps ↦ []
  ]
]

-- one line of text a line of the script
abbrev pub reply_lines : List Answered → List ℕ
reply_lines answered = flat_map line_of answered

-- A tick is answered so behind these lines, where the opening made so many appends: by at most the appends so far, by no fewer than those of the opening or than any line before it, and by all but those that were appended less than the timeout ago.
pub record IsTicked (opened timeout : ℕ) (before : List Answered) (now count : ℕ) : Type 0 where
  pub within : count ≤ opened + length (filter_map placed_at before)
  pub least : opened ≤ count
  pub rising : All (λ c. c ≤ count) (filter_map counted before)
  pub young : (front : List Answered) (x : Answered) (back : List Answered) → before ≡ front ++ x ∷ back → placed_at x ≡ Some count → max (clock_of before) now - clock_of front < timeout

-- the answer to a tick
abbrev pub IsTickAnswer : ℕ → ℕ → List Answered → ℕ → Answer → Type 0
IsTickAnswer opened timeout before now (Done (Durable count)) = IsTicked opened timeout before now count
IsTickAnswer opened timeout before now _ = ⊥

-- the answer of a line behind others: that of a command is its step's, a bind has none, and a tick is answered as it may be
abbrev pub IsLineAnswer : ℕ → ℕ → List Answered → Line → Option Answer → Type 0
IsLineAnswer opened timeout before (l.Tick now) (Some answer) = IsTickAnswer opened timeout before now answer
IsLineAnswer opened timeout before (l.Tick now) None = ⊥
IsLineAnswer opened timeout before (l.Bind label tx) None = Unit {0}
IsLineAnswer opened timeout before (l.Bind label tx) (Some answer) = ⊥
IsLineAnswer opened timeout before (l.Plain command) (Some answer) = Unit {0}
IsLineAnswer opened timeout before (l.Plain command) None = ⊥
IsLineAnswer opened timeout before (l.Labelled label command) (Some answer) = Unit {0}
IsLineAnswer opened timeout before (l.Labelled label command) None = ⊥
IsLineAnswer opened timeout before l.Reclaim answer = ⊥
IsLineAnswer opened timeout before l.Compact answer = ⊥
IsLineAnswer opened timeout before (l.Step steps) answer = ⊥

-- each line behind those before it
abbrev pub AreLineAnswers : ℕ → ℕ → List Answered → List Answered → Type 0
AreLineAnswers opened timeout before [] = Unit {0}
AreLineAnswers opened timeout before (x ∷ xs) = IsLineAnswer opened timeout before x.0 x.1 × AreLineAnswers opened timeout (before ++ x ∷ []) xs

-- ---- steps

-- the steps of the opening
abbrev pub rolled : List Step → List Step
rolled steps = filter (λ s. s.seat == 0) steps

-- the steps of producers
abbrev pub own : List Step → List Step
own steps = filter (λ s. not (s.seat == 0)) steps

-- how many appends the opening made
abbrev pub opened_in : List Step → ℕ
opened_in steps = length (history_of (rolled steps))

-- the steps are those of seat 1, numbered from n
abbrev pub AreNumbered : ℕ → List Step → Type 0
AreNumbered n [] = Unit {0}
AreNumbered n (s ∷ ss) = (s.seat ≡ 1) × (s.number ≡ n) × AreNumbered (n + 1) ss

-- some receipt has this count
abbrev pub IsReceipted : List Receipted → ℕ → Type 0
IsReceipted receipts count = IsTrue (list_any (λ r. r.durable == count) receipts)

-- ---- which receipt a tick or a flush counts

-- The append of this place came at least the timeout before a tick of this moment behind these lines.
pub record IsOld (timeout : ℕ) (before : List Answered) (now place : ℕ) : Type 0 where
  pub front : List Answered
  pub line : Answered
  pub back : List Answered
  pub is : before ≡ front ++ line ∷ back
  pub placed : placed_at line ≡ Some place
  pub old : timeout ≤ max (clock_of before) now - clock_of front

-- how many steps there are behind these lines and those of the opening
abbrev pub steps_behind : ℕ → List Answered → ℕ
steps_behind opening before = opening + length (all_commanded [] before)

-- A receipt, behind one of so many appends, was noted up to a tick: by the opening, before the last step before the tick, or behind that, since the first append that waits is old.
abbrev pub IsNotedBy : ℕ → ℕ → List Answered → ℕ → ℕ → Receipted → Type 0
IsNotedBy timeout opening before now durable r = (r.steps ≤ opening) ⊎ (r.steps < steps_behind opening before) ⊎ ((r.steps ≡ steps_behind opening before) × IsOld timeout before now durable)

-- Behind a receipt of so many appends this is the count of the last receipt that was noted up to then, and none behind that has fewer steps before it.
abbrev pub IsCountOf : (ℕ → Receipted → Type 0) → ℕ → ℕ → ℕ → List Receipted → Type 0
IsCountOf IsNoted steps count durable [] = count ≡ durable
IsCountOf IsNoted steps count durable (r ∷ rs) = ((count ≡ durable) × (steps ≤ r.steps)) ⊎ (IsNoted durable r × IsCountOf IsNoted steps count r.durable rs)

-- the same of all receipts, the first of which was noted
abbrev pub IsCountIn : (ℕ → Receipted → Type 0) → ℕ → ℕ → List Receipted → Type 0
IsCountIn IsNoted steps count [] = ⊥
IsCountIn IsNoted steps count (r ∷ rs) = IsCountOf IsNoted steps count r.durable rs

-- A tick counts what the last receipt up to it counts.
abbrev pub IsTickCount : ℕ → ℕ → List Answered → ℕ → ℕ → List Receipted → Type 0
IsTickCount timeout opening before now count receipts = IsCountIn (IsNotedBy timeout opening before now) (steps_behind opening before) count receipts

-- A flush counts what the last receipt before its step counts.
abbrev pub IsFlushCount : ℕ → List Answered → Answered → ℕ → List Receipted → Type 0
IsFlushCount opening before x count receipts = IsCountIn (λ durable r. r.steps ≤ steps_behind opening before) (steps_behind opening (before ++ x ∷ [])) count receipts

-- a line behind others does, if it is a tick or a flush
abbrev pub IsLineCount : ℕ → ℕ → List Receipted → List Answered → Answered → Type 0
IsLineCount timeout opening receipts before x = elim (counted x) [ None ↦ Unit {0} | Some count ↦ elim (ticked x) [ None ↦ IsFlushCount opening before x count receipts | Some now ↦ IsTickCount timeout opening before now count receipts ] ]

-- each line behind those before it
abbrev pub AreCounted : ℕ → ℕ → List Receipted → List Answered → List Answered → Type 0
AreCounted timeout opening receipts before [] = Unit {0}
AreCounted timeout opening receipts before (x ∷ xs) = IsLineCount timeout opening receipts before x × AreCounted timeout opening receipts (before ++ x ∷ []) xs

-- These lines were answered, the first ones of a script: the steps but those of the opening are those of their commands, in order, each once, with their answers; each count is that of a receipt; each tick is answered as it may be; and each flush and tick counts what the last receipt up to it counts.
pub record AreAnswered (timeout : ℕ) (lines : List Line) (steps : List Step) (receipts : List Receipted) (answered : List Answered) : Type 0 where
  pub front : map (λ x. x.0) answered ≡ take (length answered) lines
  pub commands : map (λ s. (s.command, s.answer)) (own steps) ≡ all_commanded [] answered
  pub numbered : AreNumbered 1 (own steps)
  pub receipted : All (IsReceipted receipts) (filter_map counted answered)
  pub answers : AreLineAnswers (opened_in steps) timeout [] answered
  pub counts : AreCounted timeout (length (rolled steps)) receipts [] answered

-- ---- how a replay ends

-- the refusals that end a replay: for a disk call, and for want of memory
abbrev pub IsLast : Refusal → Type 0
IsLast (r.Disk call) = Unit {0}
IsLast r.NoMemory = Unit {0}
IsLast _ = ⊥

-- a refusal for a disk call closes the journal, which then names that call
abbrev pub IsClosedBy : Refusal → Option DiskCall → Type 0
IsClosedBy (r.Disk call) closed = closed ≡ Some call
IsClosedBy _ closed = Unit {0}

-- A line of a script wasn't answered: the text has the lines of those before it, and then this ending.
pub record HasEnded (timeout : ℕ) (lines : List Line) (steps : List Step) (receipts : List Receipted) (text ending : List ℕ) : Type 0 where
  pub answered : List Answered
  pub are : AreAnswered timeout lines steps receipts answered
  pub is : text ≡ reply_lines answered ++ ending
  pub early : length answered < length lines

-- all lines were answered, and the text has their lines
pub record HasReplayed (timeout : ℕ) (lines : List Line) (steps : List Step) (receipts : List Receipted) (text : List ℕ) : Type 0 where
  pub answered : List Answered
  pub are : AreAnswered timeout lines steps receipts answered
  pub all : length answered ≡ length lines
  pub is : text ≡ reply_lines answered
