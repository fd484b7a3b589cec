-- The texts that the program writes.
use Rattle.std.specs.Prelude.{ℕ, ◌/◌, ◌%◌, false, List, [], ◌∷◌, ◌++◌, length, codes}
use Rattle.std.specs.List.{flat_map, join_with_byte}
use Rattle.std.specs.Fmt.{decimal, digit_glyph}
use Rattle.amq_model.specs.declared.command.Reply.{Reply}
use Rattle.amq_model.specs.declared.command.Reply.TheVariants.{Appended, Begun, Durable}
use Rattle.amq_model.specs.declared.history.Answer.{Answer}
use Rattle.amq_model.specs.declared.history.Answer.TheVariants.{Done, Refused}
use Rattle.amq_model.specs.declared.refusal.DiskCall.{DiskCall}
use Rattle.amq_model.specs.declared.refusal.DiskCall.TheVariants as d
use Rattle.amq_model.specs.declared.refusal.Phase.{Phase}
use Rattle.amq_model.specs.declared.refusal.Phase.TheVariants as p
use Rattle.amq_model.specs.declared.refusal.Refusal.{Refusal}
use Rattle.amq_model.specs.declared.refusal.Refusal.TheVariants.{Closed, TooLarge, NoTx, TxPrepared, Held, AlreadyLive, NoRecord, TxNumbersSpent, Compacting, FileIdsSpent, Disk, NoMemory}
use Rattle.amq_model.specs.declared.state.Entry.{Entry}
use Rattle.amq_model.specs.declared.state.EntryKind.{EntryKind}
use Rattle.amq_model.specs.declared.state.EntryKind.TheVariants as k
use Rattle.amq_model.specs.declared.state.Removal.{Removal}
use Rattle.amq_model.specs.declared.state.InDoubt.{InDoubt}
use Rattle.amq_model.specs.declared.state.LoadState.{LoadState}

-- ---- words and lines

-- words with one space between each two, ended by a line feed
abbrev pub line : List (List ℕ) → List ℕ
line words = join_with_byte 32 words ++ 10 ∷ []

-- a byte as two lower-case hexadecimal digits
abbrev pub hex_digits : ℕ → List ℕ
hex_digits b = digit_glyph false (b / 16) ∷ digit_glyph false (b % 16) ∷ []

-- a body: the digits of its bytes, or a dash where it is empty
abbrev pub hex : List ℕ → List ℕ
hex [] = codes "-"
hex (b ∷ bs) = flat_map hex_digits (b ∷ bs)

-- ---- reply lines

-- what was done, and its number
abbrev pub reply_words : Reply → List (List ℕ)
reply_words (Appended place) = codes "ok" ∷ decimal place ∷ []
reply_words (Begun tx) = codes "tx" ∷ decimal tx ∷ []
reply_words (Durable count) = codes "durable" ∷ decimal count ∷ []

-- the variant's name
abbrev pub disk_call_name : DiskCall → List ℕ
disk_call_name d.List = codes "List"
disk_call_name d.Read = codes "Read"
disk_call_name d.Create = codes "Create"
disk_call_name d.WriteAt = codes "WriteAt"
disk_call_name d.Sync = codes "Sync"
disk_call_name d.Rename = codes "Rename"
disk_call_name d.Remove = codes "Remove"

-- the variant's name
abbrev pub phase_name : Phase → List ℕ
phase_name p.Idle = codes "Idle"
phase_name p.Reading = codes "Reading"
phase_name p.Packing = codes "Packing"
phase_name p.Writing = codes "Writing"
phase_name p.Control = codes "Control"
phase_name p.Swapped = codes "Swapped"
phase_name p.Freeing = codes "Freeing"
phase_name p.Renaming = codes "Renaming"
phase_name p.Dropping = codes "Dropping"

-- the variant's name, then its fields in their order
abbrev pub refusal_words : Refusal → List (List ℕ)
refusal_words (Closed fault) = codes "Closed" ∷ disk_call_name fault ∷ []
refusal_words (TooLarge len limit) = codes "TooLarge" ∷ decimal len ∷ decimal limit ∷ []
refusal_words (NoTx tx) = codes "NoTx" ∷ decimal tx ∷ []
refusal_words (TxPrepared tx) = codes "TxPrepared" ∷ decimal tx ∷ []
refusal_words (Held id tx) = codes "Held" ∷ decimal id ∷ decimal tx ∷ []
refusal_words (AlreadyLive id) = codes "AlreadyLive" ∷ decimal id ∷ []
refusal_words (NoRecord id) = codes "NoRecord" ∷ decimal id ∷ []
refusal_words (TxNumbersSpent highest) = codes "TxNumbersSpent" ∷ decimal highest ∷ []
refusal_words (Compacting phase) = codes "Compacting" ∷ phase_name phase ∷ []
refusal_words (FileIdsSpent highest) = codes "FileIdsSpent" ∷ decimal highest ∷ []
refusal_words (Disk call) = codes "Disk" ∷ disk_call_name call ∷ []
refusal_words NoMemory = codes "NoMemory" ∷ []

-- a refusal's line; want of memory has none
abbrev pub refusal_line : Refusal → List ℕ
refusal_line NoMemory = []
refusal_line refusal = line (codes "refused" ∷ refusal_words refusal)

-- the line of what a command was answered
abbrev pub reply_line : Answer → List ℕ
reply_line (Done reply) = line (reply_words reply)
reply_line (Refused refusal) = refusal_line refusal

-- the line of a label bound to a transaction, by its number
abbrev pub bound_line : ℕ → List ℕ
bound_line tx = line (codes "bound" ∷ decimal tx ∷ [])

-- the line of a reclaim, with the count of files that it gave up
abbrev pub given_up_line : ℕ → List ℕ
given_up_line count = line (codes "given" ∷ codes "up" ∷ decimal count ∷ [])

-- the line of a compaction that was started, with the count of its old files
abbrev pub compacting_line : ℕ → List ℕ
compacting_line olds = line (codes "compacting" ∷ decimal olds ∷ [])

-- the line of steps of a compaction, by the phase behind the last of them
abbrev pub step_line : Phase → List ℕ
step_line p.Idle = line (codes "idle" ∷ [])
step_line phase = line (codes "phase" ∷ phase_name phase ∷ [])

-- the line before the reply lines of a producer, with its seat
abbrev pub producer_line : ℕ → List ℕ
producer_line seat = line (codes "producer" ∷ decimal seat ∷ [])

-- the line of a whole compaction, with the counts of its old files and of its packed files
abbrev pub compacted_line : ℕ → ℕ → List ℕ
compacted_line olds news = line (codes "compacted" ∷ decimal olds ∷ decimal news ∷ [])

-- ---- the report

-- ADD and ADD_TX print the one word, UPDATE and UPDATE_TX the other
abbrev pub kind_name : EntryKind → List ℕ
kind_name k.Add = codes "add"
kind_name k.Update = codes "update"

-- the line of a live record, or of an add or update of a transaction in doubt
abbrev pub entry_line : Entry → List ℕ
entry_line e = line (kind_name e.kind ∷ decimal e.id ∷ decimal e.user_type ∷ hex e.body ∷ [])

-- the line of a delete of a transaction in doubt
abbrev pub removal_line : Removal → List ℕ
removal_line r = line (codes "delete" ∷ decimal r.id ∷ hex r.body ∷ [])

-- two spaces before a line
abbrev pub indented : List ℕ → List ℕ
indented text = codes "  " ++ text

-- a transaction in doubt: its own line, then its adds and updates, then its deletes
abbrev pub in_doubt_lines : InDoubt → List ℕ
in_doubt_lines t =
    line (codes "tx" ∷ decimal t.tx ∷ codes "extra" ∷ hex t.extra ∷ codes "records" ∷ decimal (length t.records) ∷ codes "deletes" ∷ decimal (length t.deletes) ∷ [])
    ++ flat_map (λ e. indented (entry_line e)) t.records
    ++ flat_map (λ r. indented (removal_line r)) t.deletes

-- the report: the live records, then the transactions in doubt
abbrev pub report_of : LoadState → List ℕ
report_of state =
    line (codes "live" ∷ decimal (length state.live) ∷ [])
    ++ flat_map entry_line state.live
    ++ line (codes "in" ∷ codes "doubt" ∷ decimal (length state.in_doubt) ∷ [])
    ++ flat_map in_doubt_lines state.in_doubt

-- ---- the summary of a generated script

-- the count of appends, then those of the live records and of the transactions in doubt
abbrev pub summary_of : ℕ → LoadState → List ℕ
summary_of appended state =
    line (codes "appended" ∷ decimal appended ∷ [])
    ++ line (codes "live" ∷ decimal (length state.live) ∷ [])
    ++ line (codes "in" ∷ codes "doubt" ∷ decimal (length state.in_doubt) ∷ [])
