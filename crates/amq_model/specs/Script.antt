-- Scripts: what their lines say, and the first line outside the grammar.
use Rattle.std.specs.Prelude.{ℕ, ◌+◌, ◌*◌, ◌%◌, Bool, true, false, not, ◌&&◌, nat_lt, nat_le, ◌==◌, if◌then◌else◌, List, [], ◌∷◌, ◌++◌, length, drop, filter, fold, count_by, slice_index, slice_index_or, codes, Option, Some, None, ok_or, Result, Ok, Err}
use Rattle.std.specs.List.{slice_split, onto_first, cons_option, list_all, list_any}
use Rattle.std.specs.Option.{option_to_list}
use Rattle.std.specs.Char.{digit_value}
use Rattle.amq_model.specs.Names.{same, number_spelled}
use Rattle.amq_model.specs.declared.command.Command.TheVariants as c
use Rattle.amq_model.specs.declared.script.Mode.{Mode}
use Rattle.amq_model.specs.declared.script.Mode.TheVariants.{Replay, Run}
use Rattle.amq_model.specs.declared.script.Keyword.{Keyword}
use Rattle.amq_model.specs.declared.script.Keyword.TheVariants as k
use Rattle.amq_model.specs.declared.script.Line.{Line}
use Rattle.amq_model.specs.declared.script.Line.TheVariants as l
use Rattle.amq_model.specs.declared.script.Said.{Said}
use Rattle.amq_model.specs.declared.script.Said.TheVariants.{Section, Says}
use Rattle.amq_model.specs.declared.script.ScriptCause.{ScriptCause}
use Rattle.amq_model.specs.declared.script.ScriptCause.TheVariants as w

-- ---- lines and words

-- the lines: the parts between line feeds; behind a last line feed stands an empty one, which is passed over
abbrev pub lines_of : List ℕ → List (List ℕ)
lines_of bytes = slice_split (λ b. b == 10) bytes

-- the words: the parts between spaces that aren't empty
abbrev pub words_of : List ℕ → List (List ℕ)
words_of line = filter (λ word. nat_lt 0 (length word)) (slice_split (λ b. b == 32) line)

-- the words that a line says; where it has none, or its first byte is `#`, it is passed over
abbrev pub words_said : List ℕ → List (List ℕ)
words_said line = if slice_index line 0 == 35 then [] else words_of line

-- the word at this place, from 0 for the one that begins the line
abbrev pub word_at : List (List ℕ) → ℕ → List ℕ
word_at words place = slice_index_or words place []

-- ---- what a word is

-- 1 to 16 letters a to z
abbrev pub is_label : List ℕ → Bool
is_label word = nat_le 1 (length word) && nat_le (length word) 16 && list_all (λ b. nat_le 97 b && nat_le b 122) word

-- a label
abbrev pub label_of : List ℕ → Result (List ℕ) ScriptCause
label_of word = if is_label word then Ok word else Err w.Label

-- a label that an earlier line of the section named
abbrev pub known_label_of : List (List ℕ) → List ℕ → Result (List ℕ) ScriptCause
known_label_of labels word = if is_label word then (if list_any (same word) labels then Ok word else Err w.Unbegun) else Err w.Label

-- an id, a transaction's number or a moment
abbrev pub number_of : List ℕ → Result ℕ ScriptCause
number_of word = ok_or (number_spelled word) w.Number

-- a number of at most so many digits, in this range
abbrev pub number_within : ℕ → ℕ → ℕ → List ℕ → Result ℕ ScriptCause
number_within digits least most word = elim (number_spelled word) [ None ↦ Err w.Number | Some n ↦ if nat_le (length word) digits && nat_le least n && nat_le n most then Ok n else Err w.Number ]

-- a user type
abbrev pub user_type_of : List ℕ → Result ℕ ScriptCause
user_type_of word = number_within 3 0 255 word

-- a count of compaction steps
abbrev pub steps_of : List ℕ → Result ℕ ScriptCause
steps_of word = number_within 7 1 1000000 word

-- the bytes that pairs of hexadecimal digits spell
abbrev pub pairs : List ℕ → List ℕ
pairs [] = []
pairs (digit ∷ []) = []
pairs (high ∷ low ∷ rest) = (digit_value high * 16 + digit_value low) ∷ pairs rest

-- an even number of hexadecimal digits of either case, at least two
abbrev pub are_pairs : List ℕ → Bool
are_pairs word = nat_le 2 (length word) && length word % 2 == 0 && list_all (λ b. nat_lt (digit_value b) 16) word

-- a dash for no bytes, or pairs of hexadecimal digits
abbrev pub body_of : List ℕ → Result (List ℕ) ScriptCause
body_of word =
    if same word (codes "-") then Ok []
    else if are_pairs word then Ok (pairs word)
    else Err w.Hex

-- ---- what begins a line

-- the word that begins a line, in one mode or the other
abbrev pub keyword_named : List ℕ → Option Keyword
keyword_named word =
    if same word (codes "add") then Some k.Add
    else if same word (codes "update") then Some k.Update
    else if same word (codes "delete") then Some k.Delete
    else if same word (codes "begin") then Some k.Begin
    else if same word (codes "bind") then Some k.Bind
    else if same word (codes "addtx") then Some k.AddTx
    else if same word (codes "updatetx") then Some k.UpdateTx
    else if same word (codes "deletetx") then Some k.DeleteTx
    else if same word (codes "prepare") then Some k.Prepare
    else if same word (codes "commit") then Some k.Commit
    else if same word (codes "rollback") then Some k.Rollback
    else if same word (codes "flush") then Some k.Flush
    else if same word (codes "tick") then Some k.Tick
    else if same word (codes "reclaim") then Some k.Reclaim
    else if same word (codes "compact") then Some k.Compact
    else if same word (codes "step") then Some k.Step
    else if same word (codes "producer") then Some k.Producer
    else None

-- the mode has lines of this word
abbrev pub has_lines : Mode → Keyword → Bool
has_lines Replay k.Producer = false
has_lines Replay _ = true
has_lines Run k.Tick = false
has_lines Run k.Reclaim = false
has_lines Run k.Compact = false
has_lines Run k.Step = false
has_lines Run _ = true

-- in a run, a line before the first section, or a 65th section
abbrev pub is_outside : Mode → ℕ → Keyword → Bool
is_outside Replay sections keyword = false
is_outside Run sections k.Producer = nat_le 64 sections
is_outside Run sections _ = sections == 0

-- how many words follow
abbrev pub argument_count : Keyword → ℕ
argument_count k.Add = 3
argument_count k.Update = 3
argument_count k.Delete = 1
argument_count k.Begin = 1
argument_count k.Bind = 2
argument_count k.AddTx = 4
argument_count k.UpdateTx = 4
argument_count k.DeleteTx = 3
argument_count k.Prepare = 2
argument_count k.Commit = 1
argument_count k.Rollback = 1
argument_count k.Flush = 0
argument_count k.Tick = 1
argument_count k.Reclaim = 0
argument_count k.Compact = 0
argument_count k.Step = 1
argument_count k.Producer = 0

-- ---- what a line says

-- the first wrong word decides
infixl 10 ◌>>=◌
abbrev pub ◌>>=◌ : {A B : Type 0} → Result A ScriptCause → (A → Result B ScriptCause) → Result B ScriptCause
Ok x >>= f = f x
Err cause >>= f = Err cause

-- an id, a user type and a body, from this place on
abbrev pub stored_at : List (List ℕ) → ℕ → Result (ℕ × ℕ × List ℕ) ScriptCause
stored_at words place = do
  id ← number_of (word_at words place)
  user_type ← user_type_of (word_at words (place + 1))
  body ← body_of (word_at words (place + 2))
  Ok (id, user_type, body)

-- what the arguments of a line say, behind lines that named these labels
abbrev pub arguments_said : List (List ℕ) → List (List ℕ) → Keyword → Result Said ScriptCause
arguments_said labels words k.Add = do
  x ← stored_at words 1
  Ok (Says (l.Plain (c.Add x.0 x.1 x.2)))
arguments_said labels words k.Update = do
  x ← stored_at words 1
  Ok (Says (l.Plain (c.Update x.0 x.1 x.2)))
arguments_said labels words k.Delete = do
  id ← number_of (word_at words 1)
  Ok (Says (l.Plain (c.Delete id)))
arguments_said labels words k.Begin = do
  label ← label_of (word_at words 1)
  Ok (Says (l.Labelled label c.Begin))
arguments_said labels words k.Bind = do
  label ← label_of (word_at words 1)
  tx ← number_of (word_at words 2)
  Ok (Says (l.Bind label tx))
arguments_said labels words k.AddTx = do
  label ← known_label_of labels (word_at words 1)
  x ← stored_at words 2
  Ok (Says (l.Labelled label (c.AddTx 0 x.0 x.1 x.2)))
arguments_said labels words k.UpdateTx = do
  label ← known_label_of labels (word_at words 1)
  x ← stored_at words 2
  Ok (Says (l.Labelled label (c.UpdateTx 0 x.0 x.1 x.2)))
arguments_said labels words k.DeleteTx = do
  label ← known_label_of labels (word_at words 1)
  id ← number_of (word_at words 2)
  body ← body_of (word_at words 3)
  Ok (Says (l.Labelled label (c.DeleteTx 0 id body)))
arguments_said labels words k.Prepare = do
  label ← known_label_of labels (word_at words 1)
  extra ← body_of (word_at words 2)
  Ok (Says (l.Labelled label (c.Prepare 0 extra)))
arguments_said labels words k.Commit = do
  label ← known_label_of labels (word_at words 1)
  Ok (Says (l.Labelled label (c.Commit 0)))
arguments_said labels words k.Rollback = do
  label ← known_label_of labels (word_at words 1)
  Ok (Says (l.Labelled label (c.Rollback 0)))
arguments_said labels words k.Flush = Ok (Says (l.Plain c.Flush))
arguments_said labels words k.Tick = do
  moment ← number_of (word_at words 1)
  Ok (Says (l.Tick moment))
arguments_said labels words k.Reclaim = Ok (Says l.Reclaim)
arguments_said labels words k.Compact = Ok (Says l.Compact)
arguments_said labels words k.Step = do
  steps ← steps_of (word_at words 1)
  Ok (Says (l.Step steps))
arguments_said labels words k.Producer = Ok Section

-- what a line with this first word says: the causes behind the first one, in their order
abbrev pub keyword_said : Mode → ℕ → List (List ℕ) → List (List ℕ) → Option Keyword → Result Said ScriptCause
keyword_said mode sections labels words None = Err w.UnknownWord
keyword_said mode sections labels words (Some keyword) =
    if not (has_lines mode keyword) then Err w.UnknownWord
    else if is_outside mode sections keyword then Err w.Section
    else if not (length words == argument_count keyword + 1) then Err w.Arguments
    else arguments_said labels words keyword

-- what a line of these words says, behind so many sections and the labels of the last one
abbrev pub words_say : Mode → ℕ → List (List ℕ) → List (List ℕ) → Result (Option Said) ScriptCause
words_say mode sections labels words = if length words == 0 then Ok None else (keyword_said mode sections labels words (keyword_named (word_at words 0)) >>= λ said. Ok (Some said))

-- ---- a script

-- it begins a section
abbrev pub is_section : Said → Bool
is_section Section = true
is_section (Says line) = false

-- the label that a line names: those of `begin` and `bind`
abbrev pub label_named : Line → Option (List ℕ)
label_named (l.Labelled label c.Begin) = Some label
label_named (l.Labelled label (c.Add id user_type body)) = None
label_named (l.Labelled label (c.Update id user_type body)) = None
label_named (l.Labelled label (c.Delete id)) = None
label_named (l.Labelled label (c.AddTx tx id user_type body)) = None
label_named (l.Labelled label (c.UpdateTx tx id user_type body)) = None
label_named (l.Labelled label (c.DeleteTx tx id body)) = None
label_named (l.Labelled label (c.Prepare tx extra)) = None
label_named (l.Labelled label (c.Commit tx)) = None
label_named (l.Labelled label (c.Rollback tx)) = None
label_named (l.Labelled label c.Flush) = None
label_named (l.Bind label tx) = Some label
label_named (l.Plain command) = None
label_named (l.Tick now) = None
label_named l.Reclaim = None
label_named l.Compact = None
label_named (l.Step steps) = None

-- the labels that a section has named, one line further on
abbrev pub labels_behind : List (List ℕ) → Said → List (List ℕ)
labels_behind labels Section = []
labels_behind labels (Says line) = cons_option (label_named line) labels

-- what a line says, behind what was said before: the causes ask how many sections began, and which labels the last one named
abbrev pub line_says : Mode → List Said → List ℕ → Result (Option Said) ScriptCause
line_says mode before line = words_say mode (count_by is_section before) (fold labels_behind [] before) (words_said line)

-- goes on behind a line in the grammar; another one is the first that is not, with its number and cause
abbrev pub behind_line : {A : Type 0} → ℕ → (Option Said → Result A (ℕ × ScriptCause)) → Result (Option Said) ScriptCause → Result A (ℕ × ScriptCause)
behind_line number rest (Ok said) = rest said
behind_line number rest (Err cause) = Err (number, cause)

-- what the lines from this number on say, each behind the lines before it
abbrev pub said_from : Mode → ℕ → List Said → List (List ℕ) → Result (List Said) (ℕ × ScriptCause)
said_from mode number before [] = Ok before
said_from mode number before (line ∷ lines) = behind_line number (λ said. said_from mode (number + 1) (before ++ option_to_list said) lines) (line_says mode before line)

-- the lines before the first section, and then the lines of each section
abbrev pub sections_of : List Said → List (List Line)
sections_of [] = [] ∷ []
sections_of (Section ∷ saids) = [] ∷ sections_of saids
sections_of (Says line ∷ saids) = onto_first line (sections_of saids)

-- the lines of each producer: a replay has one, a run has one a section
abbrev pub producers_of : Mode → List Said → List (List Line)
producers_of Replay saids = sections_of saids
producers_of Run saids = drop 1 (sections_of saids)

-- the producers of what all lines say
abbrev pub made_of : Mode → Result (List Said) (ℕ × ScriptCause) → Result (List (List Line)) (ℕ × ScriptCause)
made_of mode (Ok saids) = Ok (producers_of mode saids)
made_of mode (Err wrong) = Err wrong

-- a script: the lines of each producer, or the number of the first line outside the grammar, with its cause
abbrev pub script_of : Mode → List ℕ → Result (List (List Line)) (ℕ × ScriptCause)
script_of mode bytes = made_of mode (said_from mode 1 [] (lines_of bytes))
