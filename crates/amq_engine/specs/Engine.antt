-- What clauses see of an engine, and what is always so of one.
use Rattle.std.specs.Prelude.{◌≡◌, ◌⊎◌, ◌↔◌, IsTrue, zero, suc, ◌&&◌, nat_le, ℕ, ◌+◌, ◌-◌, ◌*◌, ◌^◌, ◌<◌, ◌≤◌, max, Bool, true, false, ◌||◌, nat_lt, ◌==◌, if◌then◌else◌, fold, List, [], ◌∷◌, ◌++◌, length, take, drop, Option, None, Some, is_some, option_map, Result, Ok, Err, IfSome, All, refl}
use Rattle.std.specs.Coded.{Coded, code_by, coded×, coded_ℕ, coded_option, coded_list}
use Rattle.amq_model.specs.declared.record.Record.{Record}
use Rattle.amq_model.specs.declared.record.Placed.{Placed}
use Rattle.amq_model.specs.declared.command.Command.{Command}
use Rattle.amq_model.specs.declared.command.Command.TheVariants as c
use Rattle.amq_model.specs.declared.command.Reply.{Reply}
use Rattle.amq_model.specs.declared.command.Reply.TheVariants.{Appended, Begun, Durable}
use Rattle.amq_model.specs.declared.config.Config.{Config}
use Rattle.amq_model.specs.declared.history.Answer.{Answer}
use Rattle.amq_model.specs.declared.history.Answer.TheVariants.{Done, Refused}
use Rattle.amq_model.specs.declared.refusal.DiskCall.{DiskCall}
use Rattle.amq_model.specs.declared.refusal.DiskCall.TheVariants as calls
use Rattle.amq_model.specs.declared.refusal.Refusal.{Refusal}
use Rattle.amq_model.specs.declared.refusal.Refusal.TheVariants as r
use Rattle.amq_model.specs.RecordAt.{len_of, spelling}
use Rattle.amq_model.specs.declared.directory.OpenFault.{OpenFault}
use Rattle.amq_model.specs.declared.directory.OpenFault.TheVariants as o
use Rattle.amq_model.specs.Calls.{Past, counted}
use Rattle.amq_model.specs.Files.{Files}
use Rattle.amq_model.specs.Leaves.{AllReads, HoldsSince}
use Rattle.amq_model.specs.Answers.{record_of, history_of, limit, too_large, first_some}
use Rattle.amq_model.specs.Legal.{AreLegalFrom, AreLegal, OpensWith, OpensPartly, rolled_back}
use Rattle.amq_model.specs.Configs.{IsConfig}
pub use Rattle.amq_buffer.specs.Buffered.{Buffered, begun, is_due}
use Rattle.amq_tx.specs.State.{TxState}
use Rattle.amq_tx.specs.Follows.{Follows}
use Rattle.amq_model.specs.declared.history.Step.{Step}
use Rattle.amq_scan.specs.Written.{Item, IsItem, spelled, end_from}
use Rattle.amq_scan.specs.Segments.{Segment, records_of, IsDirectory}
use Rattle.amq_pool.specs.declared.pool.PoolFile.{PoolFile}
use Rattle.amq_pool.specs.Pools.{PoolOf, IsPool, ids_of, numbered_file, with_next}
use Rattle.amq_engine.specs.declared.chronicle.Receipted.{Receipted}
use Rattle.amq_engine.specs.declared.tail.Tail.{Tail}
use Rattle.amq_io.specs.Cause.{Rose, Faults, NoneFailed}
use Rattle.amq_io.specs.declared.faults.DiskFault.{DiskFault}
use Rattle.amq_io.specs.declared.faults.DiskFault.TheVariants as f
use Rattle.amq_engine.specs.Lists.{Lists, with_step, with_receipt}
use Rattle.amq_engine.specs.Receipts.{AreInOrder, IsLastCount, IsCrashSafe}
use Rattle.amq_engine.specs.Directory.{placed_in, AreListed, all_files, files_from, StandsNow}

-- ---- the value

-- a disk call, as a number
abbrev pub call_number : DiskCall → ℕ
call_number calls.List = 0
call_number calls.Read = 1
call_number calls.Create = 2
call_number calls.WriteAt = 3
call_number calls.Sync = 4
call_number calls.Rename = 5
call_number calls.Remove = 6

abbrev pub numbered_call : ℕ → DiskCall
numbered_call n =
    if n == 0 then calls.List else (if n == 1 then calls.Read else (if n == 2 then calls.Create else (if n == 3 then calls.WriteAt else (if n == 4 then calls.Sync else (if n == 5 then calls.Rename else calls.Remove)))))

abbrev pub call_back : (call : DiskCall) → numbered_call (call_number call) ≡ call
call_back calls.List = refl
call_back calls.Read = refl
call_back calls.Create = refl
call_back calls.WriteAt = refl
call_back calls.Sync = refl
call_back calls.Rename = refl
call_back calls.Remove = refl

abbrev pub call_code : Coded DiskCall
call_code = code_by ℕ coded_ℕ call_number numbered_call call_back

-- eight numbers
abbrev pub Eight : Type 0
Eight = ℕ × (ℕ × (Option ℕ × (ℕ × (ℕ × (ℕ × (ℕ × ℕ))))))

abbrev pub config_code : Coded Config
config_code =
    code_by Eight (coded× coded_ℕ (coded× coded_ℕ (coded× (coded_option coded_ℕ) (coded× coded_ℕ (coded× coded_ℕ (coded× coded_ℕ (coded× coded_ℕ coded_ℕ)))))))
    (λ c. (c.file_size, (c.min_files, (c.pool_files, (c.compact_min_files, (c.compact_percentage, (c.buffer_size, (c.buffer_timeout, c.user_version))))))))
    (λ p. record { file_size = p.0; min_files = p.1.0; pool_files = p.1.1.0; compact_min_files = p.1.1.1.0; compact_percentage = p.1.1.1.1.0; buffer_size = p.1.1.1.1.1.0; buffer_timeout = p.1.1.1.1.1.1.0; user_version = p.1.1.1.1.1.1.1 })
    (λ _. refl)

-- What clauses see of an engine: its disk and chronicle, the parameters, how many appends there were, how many of them are durable, how many bytes the others take in the buffer, since when the first of those waits, the id of the file in use, where the last append ends in it, the greatest number of a file so far, the ids of the files that are prepared, the clock, and the call after which it is closed.
pub record EngineOf (D C : Type 0) : Type 0 where
  pub disk : D
  pub chronicle : C
  pub config : Config
  pub appended : ℕ
  pub durable : ℕ
  pub waiting : ℕ
  pub since : Option ℕ
  pub file : ℕ
  pub end : ℕ
  pub highest : ℕ
  pub free : List ℕ
  pub clock : ℕ
  pub closed : Option DiskCall

-- four numbers and a list of them
abbrev pub Place : Type 0
Place = ℕ × (ℕ × (ℕ × List ℕ))

abbrev pub place_code : Coded Place
place_code = coded× coded_ℕ (coded× coded_ℕ (coded× coded_ℕ (coded_list coded_ℕ)))

abbrev pub engine_code : {D C : Type 0} → Coded D → Coded C → Coded (EngineOf D C)
engine_code {D} {C} d c =
    code_by (D × (C × (Config × (ℕ × (ℕ × (ℕ × (Option ℕ × (Place × (ℕ × Option DiskCall))))))))) (coded× d (coded× c (coded× config_code (coded× coded_ℕ (coded× coded_ℕ (coded× coded_ℕ (coded× (coded_option coded_ℕ) (coded× place_code (coded× coded_ℕ (coded_option call_code))))))))))
    (λ e. (e.disk, (e.chronicle, (e.config, (e.appended, (e.durable, (e.waiting, (e.since, ((e.file, (e.end, (e.highest, e.free))), (e.clock, e.closed))))))))))
    (λ p. record { disk = p.0; chronicle = p.1.0; config = p.1.1.0; appended = p.1.1.1.0; durable = p.1.1.1.1.0; waiting = p.1.1.1.1.1.0; since = p.1.1.1.1.1.1.0; file = p.1.1.1.1.1.1.1.0.0; end = p.1.1.1.1.1.1.1.0.1.0; highest = p.1.1.1.1.1.1.1.0.1.1.0; free = p.1.1.1.1.1.1.1.0.1.1.1; clock = p.1.1.1.1.1.1.1.1.0; closed = p.1.1.1.1.1.1.1.1.1 })
    (λ _. refl)

-- ---- the end of the file in use

-- where the history ends, that of the buffer with it
abbrev pub end_of_tail : Tail → ℕ
end_of_tail t = t.end + length t.buffer.bytes

-- nothing waits in the buffer
abbrev pub emptied : Buffered → Buffered
emptied b = record { bytes = []; capacity = b.capacity; timeout = b.timeout; since = None }

-- behind a flush
abbrev pub written_out : Tail → Tail
written_out t = record { file = t.file; buffer = emptied t.buffer; end = end_of_tail t; appended = t.appended; durable = if is_some t.buffer.since then t.appended else t.durable }

-- one record more waits in the buffer, where there is one
abbrev pub with_put : ℕ → Option Record → Tail → Tail
with_put now None t = t
with_put now (Some rec) t = record {
  file = t.file;
  buffer = record { bytes = t.buffer.bytes ++ spelling 2 t.file.id 0 rec; capacity = t.buffer.capacity; timeout = t.buffer.timeout; since = begun now t.buffer.since };
  end = t.end;
  appended = t.appended + 1;
  durable = t.durable;
}

-- the file that the journal goes on to: the prepared one with the least id, or the one that is prepared for it
abbrev pub next_file : PoolOf → PoolFile
next_file p = elim p.prepared [ [] ↦ numbered_file (p.highest + 1) | f ∷ fs ↦ f ]

-- the pool behind it
abbrev pub without_next : PoolOf → PoolOf
without_next p = elim p.prepared [ [] ↦ record { config = p.config; highest = p.highest + 1; prepared = [] } | f ∷ fs ↦ record { config = p.config; highest = p.highest; prepared = fs } ]

-- the end of this file, where nothing stands in it yet
abbrev pub gone_on : PoolFile → Tail → Tail
gone_on f t = record { file = f; buffer = t.buffer; end = 16; appended = t.appended; durable = t.durable }

-- ready for a command that goes on to a further file first, or flushes first, or neither
abbrev pub readied : Bool → Bool → PoolOf → Tail → Tail
readied moves_first flushes_first p t = if moves_first then gone_on (next_file p) (written_out t) else (if flushes_first then written_out t else t)

-- the pool with so many files more
abbrev pub with_files : ℕ → PoolOf → PoolOf
with_files zero p = p
with_files (suc n) p = with_next (with_files n p)

-- the pool behind the command
abbrev pub pool_readied : Bool → PoolOf → PoolOf
pool_readied moves_first p = if moves_first then without_next p else p

-- where the record stands that is put next
abbrev pub placed_behind : Tail → Record → Placed
placed_behind t rec = record { file = t.file.id; place = end_of_tail t; compact = 0; rec = rec }

-- the reply to a command without a record, behind so many appends: by the number that it was given, if it was
abbrev pub bare_reply : ℕ → Option ℕ → Reply
bare_reply durable None = Durable durable
bare_reply durable (Some tx) = Begun tx

-- the reply to a command with this record, or without one
abbrev pub reply_of : Tail → Option ℕ → Option Record → Reply
reply_of t given None = bare_reply t.durable given
reply_of t given (Some rec) = Appended t.appended

-- ---- what is always so

-- a record as it is written first
pub record IsNewItem (x : Item) : Type 0 where
  pub item : IsItem 2 x
  pub first : x.compact ≡ 0

-- What each reading holds of a base and a history of which so many records are durable: the base and a front of the history, in the order of the files; and what isn't durable of it stands in one file.
pub record Holds (wanted : ℕ) (base : List Placed) (least : ℕ) (history : List Placed) (s : Files) : Type 0 where
  pub files : List Segment
  pub sure : ℕ
  pub put : ℕ
  pub enough : least ≤ sure
  pub ahead : sure ≤ put
  pub within : put ≤ length history
  pub is : IsDirectory wanted (length base + sure) files s
  pub records : records_of files ≡ base ++ take put history
  pub last : ℕ
  pub one : All (λ p. p.file ≡ last) (drop sure (take put history))

-- each receipt is kept: since its moment every reading holds the base and as many records
abbrev pub AreKept : Option Past → ℕ → List Placed → ℕ → List Placed → List Receipted → Type 0
AreKept past wanted base durable history [] = Unit {0}
AreKept past wanted base durable history (q ∷ qs) =
    ((q.durable ≤ durable) × (q.moment < 2 ^ 64 - 1 → HoldsSince past q.moment (Holds wanted base q.durable history))) × AreKept past wanted base durable history qs

-- the chronicle has the base and the steps of the engine, and its receipts are kept
pub record IsTold (past : Option Past) (wanted : ℕ) (known : List Placed) (durable : ℕ) (history : List Placed) (steps : List Step) (l : Lists) : Type 0 where
  pub base : l.base ≡ known
  pub same : l.steps ≡ steps
  pub kept : AreKept past wanted known durable history l.receipts

-- the records of the closed files and of the file in use
abbrev pub records : List Segment → PoolFile → List Item → List Placed
records closed used items = records_of closed ++ placed_in used.id items

-- the file of the last record, 0 where there is none
abbrev pub last_file : List Placed → ℕ
last_file history = fold (λ _ p. p.file) 0 history

-- a step that was refused since the numbers of files are spent stands behind an append in the file of the greatest number
abbrev pub IsSpentAtLast : List Step → Step → Type 0
IsSpentAtLast before s = elim s.answer [ Done reply ↦ Unit {0} | Refused refusal ↦ elim refusal [ r.FileIdsSpent highest ↦ last_file (history_of before) ≡ 2 ^ 31 - 1 | _ ↦ Unit {0} ] ]

-- so it is of each of these steps behind the others
abbrev pub AreSpentAtLast : List Step → List Step → Type 0
AreSpentAtLast before [] = Unit {0}
AreSpentAtLast before (s ∷ ss) = IsSpentAtLast before s × AreSpentAtLast (before ++ s ∷ []) ss

-- What is so of the parts of an engine, whatever the disk reads: the steps are legal behind the base, and the table is that of both; the old files, which were there at the opening, have the base; those that were closed since then and the file in use have the history, which goes on in the buffer; the prepared files have the numbers behind that of the file in use.
pub record Parts (config : Config) (table : TxState) (pool : PoolOf) (tail : Tail) : Type 0 where
  pub base : List Placed
  pub old : List Segment
  pub closed : List Segment
  pub items : List Item
  pub sure : ℕ
  pub steps : List Step
  pub based : records_of old ≡ base
  pub new : All IsNewItem items
  pub placed : history_of steps ≡ records closed tail.file items
  pub each : AreLegalFrom base config [] steps
  pub follows : Follows table base steps
  pub same_config : pool.config ≡ config
  pub pool_is : IsPool pool
  pub listed : AreListed pool.highest 0 (all_files (old ++ closed) tail.file pool.prepared)
  pub numbers : pool.highest ≤ 2 ^ 31 - 1
  pub behind : ids_of pool.prepared ≡ ids_of (files_from (tail.file.id + 1) (pool.highest - tail.file.id))
  pub few : length (records_of closed) ≤ tail.file.id * 268435456
  pub capacity : tail.buffer.capacity ≡ config.buffer_size
  pub timeout : tail.buffer.timeout ≡ config.buffer_timeout
  pub first : (tail.buffer.since ≡ None) ↔ (tail.buffer.bytes ≡ [])
  pub some : sure ≤ length items
  pub durable : tail.durable ≡ length (records_of closed) + sure
  pub count : tail.appended ≡ length (records_of closed) + length items
  pub buffered : tail.buffer.bytes ≡ spelled 2 tail.file.id (drop sure items)
  pub place : tail.end ≡ end_from 2 16 (take sure items)
  pub fits : end_of_tail tail ≤ config.file_size

-- so it is, and what the disk reads and what the chronicle tells is as the parts say
pub record IsSound (past : Option Past) (lists : Option Lists) (receipt_room : ℕ) (config : Config) (table : TxState) (pool : PoolOf) (tail : Tail) : Type 0 where
  pub parts : Parts config table pool tail
  pub reads_now : AllReads past (StandsNow config (parts.old ++ parts.closed) tail.file parts.sure parts.items pool.highest pool.prepared)
  pub room : (tail.buffer.bytes ≡ [] → ⊥) → 1 ≤ receipt_room
  pub told : IfSome lists (IsTold past config.user_version parts.base tail.durable (records parts.closed tail.file parts.items) parts.steps)

-- how far an opening is: it is done, or it appends its rollbacks behind this base, of which there are so many so far
pub data Stage : Type 0 where
  opened : Stage
  rolling : List Placed → ℕ → Stage

-- each of the first steps, so many, was appended
abbrev pub AreAppended : ℕ → List Step → Type 0
AreAppended n steps = length (history_of (take n steps)) ≡ n

-- so far its steps are there: all of them, each of which was appended, and then those of other seats; or so many of them, each of which was appended, and no other step
abbrev pub HasOpened : Stage → List Placed → List Step → Type 0
HasOpened opened base steps = OpensWith 1 (rolled_back base) steps × AreAppended (length (rolled_back base)) steps
HasOpened (rolling known n) base steps = (base ≡ known) × (length steps ≡ n) × OpensPartly 1 (rolled_back base) steps × (length (history_of steps) ≡ n)

-- the same, with the range of the parameters, the steps of the opening, and receipts in order, the last of which counts what is durable
pub record IsValid (stage : Stage) (past : Option Past) (moment : ℕ) (lists : Option Lists) (receipt_room : ℕ) (config : Config) (table : TxState) (pool : PoolOf) (tail : Tail) : Type 0 where
  pub sound : IsSound past lists receipt_room config table pool tail
  pub ranges : IsConfig config
  pub opening : HasOpened stage sound.parts.base sound.parts.steps
  pub spent : AreSpentAtLast [] sound.parts.steps
  pub order : IfSome lists (λ l. AreInOrder moment l.receipts)
  pub last : IfSome lists (λ l. IsLastCount tail.durable l.receipts)

-- what is always so of the chronicle of a journal with so many appends, of which so many are durable
pub record IsChronicle (past : Option Past) (moment : ℕ) (config : Config) (appended durable : ℕ) (l : Lists) : Type 0 where
  pub legal : AreLegal l.base l.steps config
  pub rolled : AreAppended (length (rolled_back l.base)) l.steps
  pub spent : AreSpentAtLast [] l.steps
  pub history : appended ≡ length (history_of l.steps)
  pub crash_safe : IsCrashSafe past moment config.user_version l
  pub last : IsLastCount durable l.receipts

-- ---- commands

-- a record of this length, put behind the last append, would end behind the end of the file
abbrev pub passes : ℕ → ℕ → Option ℕ → Bool
passes size end None = false
passes size end (Some len) = nat_lt size (end + len)

-- no number is left for a file that is needed
abbrev pub spent : Bool → ℕ → List ℕ → Option Refusal
spent moves_first highest [] = if moves_first && nat_le (2 ^ 31 - 1) highest then Some (r.FileIdsSpent highest) else None
spent moves_first highest (id ∷ ids) = None

-- the refusal of a record of this length, if it is above the limit
abbrev pub too_long : Config → Option ℕ → Option Refusal
too_long config None = None
too_long config (Some len) = if nat_lt (limit config) len then Some (r.TooLarge len (limit config)) else None

-- the refusal of a command, by what the ids and transactions refuse of it, and by the numbers of files
abbrev pub refused : Config → Option Refusal → Option Refusal → Command → Option Refusal
refused config by_table by_numbers command = first_some (too_large config command ∷ by_table ∷ by_numbers ∷ [])

-- a refusal that depends on the command
abbrev pub IsCommandRefusal : Refusal → Type 0
IsCommandRefusal (r.TooLarge len limit) = Unit {0}
IsCommandRefusal (r.NoTx tx) = Unit {0}
IsCommandRefusal (r.TxPrepared tx) = Unit {0}
IsCommandRefusal (r.Held id tx) = Unit {0}
IsCommandRefusal (r.AlreadyLive id) = Unit {0}
IsCommandRefusal (r.NoRecord id) = Unit {0}
IsCommandRefusal (r.TxNumbersSpent highest) = Unit {0}
IsCommandRefusal (r.FileIdsSpent highest) = Unit {0}
IsCommandRefusal _ = ⊥

-- a refusal of a command: for the command, or since the engine is closed, for a disk call, or for want of memory
abbrev pub IsCommandAnswer : Refusal → Type 0
IsCommandAnswer (r.Closed fault) = Unit {0}
IsCommandAnswer (r.Disk call) = Unit {0}
IsCommandAnswer r.NoMemory = Unit {0}
IsCommandAnswer refusal = IsCommandRefusal refusal

-- the answer that is noted
abbrev pub answer_of : Result Reply Refusal → Answer
answer_of (Ok reply) = Done reply
answer_of (Err refusal) = Refused refusal

-- whether a step is noted: not where the engine is closed, becomes so, or had no memory
abbrev pub is_noted : Result Reply Refusal → Bool
is_noted (Err (r.Closed fault)) = false
is_noted (Err (r.Disk call)) = false
is_noted (Err r.NoMemory) = false
is_noted _ = true

-- The chronicle has one step more, with this answer, or has none. Its record, if it has one, ends there in that file.
pub record Notes (seat number : ℕ) (command : Command) (result : Result Reply Refusal) (file end : ℕ) (old new : Option Lists) : Type 0 where
  pub placed : Option Placed
  pub is : new ≡ (if is_noted result then option_map (with_step (record { seat = seat; number = number; command = command; answer = answer_of result; placed = placed })) old else old)
  pub stands : IfSome placed (λ p. (p.file ≡ file) × (p.place + len_of p.rec ≡ end))

-- the reply to a command that is accepted behind so many appends; which number a Begin is given is what the steps say
abbrev pub IsReply : ℕ → Command → Reply → Type 0
IsReply appended c.Begin (Begun tx) = Unit {0}
IsReply appended c.Begin _ = ⊥
IsReply appended c.Flush reply = reply ≡ Durable appended
IsReply appended (c.Add id user_type body) reply = reply ≡ Appended appended
IsReply appended (c.Update id user_type body) reply = reply ≡ Appended appended
IsReply appended (c.Delete id) reply = reply ≡ Appended appended
IsReply appended (c.AddTx tx id user_type body) reply = reply ≡ Appended appended
IsReply appended (c.UpdateTx tx id user_type body) reply = reply ≡ Appended appended
IsReply appended (c.DeleteTx tx id body) reply = reply ≡ Appended appended
IsReply appended (c.Prepare tx extra) reply = reply ≡ Appended appended
IsReply appended (c.Commit tx) reply = reply ≡ Appended appended
IsReply appended (c.Rollback tx) reply = reply ≡ Appended appended

-- it asks for a flush
abbrev pub is_flush : Command → Bool
is_flush c.Flush = true
is_flush (c.Add id user_type body) = false
is_flush (c.Update id user_type body) = false
is_flush (c.Delete id) = false
is_flush c.Begin = false
is_flush (c.AddTx tx id user_type body) = false
is_flush (c.UpdateTx tx id user_type body) = false
is_flush (c.DeleteTx tx id body) = false
is_flush (c.Prepare tx extra) = false
is_flush (c.Commit tx) = false
is_flush (c.Rollback tx) = false

-- the length of the record of a command, if it has one
abbrev pub record_len : Command → Option ℕ
record_len command = option_map len_of (record_of command 0)

-- a record of this length doesn't fit behind the bytes that wait
abbrev pub overflows : ℕ → ℕ → Option ℕ → Bool
overflows capacity waiting None = false
overflows capacity waiting (Some len) = nat_lt capacity (waiting + len)

-- whether a command that is accepted flushes first: it asks for it, or its record doesn't fit the buffer
abbrev pub flushes : ℕ → ℕ → Command → Bool
flushes capacity waiting command = is_flush command || overflows capacity waiting (record_len command)

-- there is none
abbrev pub is_nil : {A : Type 0} → List A → Bool
is_nil [] = true
is_nil (x ∷ xs) = false

-- whether the journal goes on to a further file first: the command's record doesn't fit the rest of the file in use
abbrev pub moves : {D C : Type 0} → EngineOf D C → Command → Bool
moves e command = passes e.config.file_size e.end (record_len command)

-- whether one is prepared for it
abbrev pub prepares : {D C : Type 0} → EngineOf D C → Command → Bool
prepares e command = moves e command && is_nil e.free

-- whether a command that is accepted writes out first what waits: it goes on to a further file or flushes, and something waits
abbrev pub writes_first : {D C : Type 0} → EngineOf D C → Command → Bool
writes_first e command = (moves e command || flushes e.config.buffer_size e.waiting command) && is_some e.since

-- whether a command that is accepted makes a disk call
abbrev pub asks_disk : {D C : Type 0} → EngineOf D C → Command → Bool
asks_disk e command = writes_first e command || prepares e command

-- ---- what calls leave

-- behind a flush all is durable and nothing waits
abbrev pub flushed : {D C : Type 0} → EngineOf D C → EngineOf D C
flushed e = record e { durable = e.appended; waiting = 0; since = None }

-- one record more waits, of this length, where there is one
abbrev pub with_record : {D C : Type 0} → Option ℕ → EngineOf D C → EngineOf D C
with_record None e = e
with_record (Some len) e = record e { appended = e.appended + 1; waiting = e.waiting + len; since = begun e.clock e.since; end = e.end + len }

-- behind a move: nothing stands in the next file yet
abbrev pub moved : {D C : Type 0} → EngineOf D C → EngineOf D C
moved e = elim e.free [
  | [] ↦ record (flushed e) { file = e.highest + 1; end = 16; highest = e.highest + 1 }
  | id ∷ ids ↦ record (flushed e) { file = id; end = 16; free = ids }
]

-- behind a command that was accepted
abbrev pub behind_command : {D C : Type 0} → Command → EngineOf D C → EngineOf D C
behind_command command e = with_record (record_len command) (if moves e command then moved e else (if flushes e.config.buffer_size e.waiting command then flushed e else e))

-- Behind a command that was refused: as before it; or, where memory was wanted for a further file or a call for it failed, all is durable.
abbrev pub BehindRefused : {D C : Type 0} → Command → EngineOf D C → EngineOf D C → Type 0
BehindRefused command e new = (new ≡ record e { disk = new.disk; chronicle = new.chronicle; closed = new.closed }) ⊎ (IsTrue (prepares e command) × (new ≡ record (flushed e) { disk = new.disk; chronicle = new.chronicle; closed = new.closed }))

-- the clock never goes back
abbrev pub at_clock : {D C : Type 0} → ℕ → EngineOf D C → EngineOf D C
at_clock now e = record e { clock = max e.clock now }

-- the buffer is due: its first record is at least the timeout old
abbrev pub must_flush : {D C : Type 0} → EngineOf D C → Bool
must_flush e = is_due e.clock e.config.buffer_timeout e.since

-- behind a tick that was answered
abbrev pub behind_tick : {D C : Type 0} → ℕ → EngineOf D C → EngineOf D C
behind_tick now e = if must_flush (at_clock now e) then flushed (at_clock now e) else at_clock now e

-- how many appends are durable behind a flush that was answered so
abbrev pub durable_after : Result ℕ Refusal → ℕ → ℕ
durable_after (Ok count) durable = count
durable_after (Err refusal) durable = durable

-- the call after which the engine is closed, behind this answer
abbrev pub closed_after : {T : Type 0} → Result T Refusal → Option DiskCall → Option DiskCall
closed_after (Err (r.Disk call)) closed = Some call
closed_after _ closed = closed

-- the chronicle behind a flush: one receipt more, of all appends at this moment, where something became durable
abbrev pub receipted : Bool → ℕ → ℕ → Option Lists → Option Lists
receipted something appended moment lists = if something then option_map (with_receipt appended moment) lists else lists

-- what waited waits on, and nothing is noted
abbrev pub Waits : Tail → Option Lists → Tail → Option Lists → Type 0
Waits t lists u new = (u ≡ t) × (new ≡ lists)

-- what waited is written out, in two calls from this moment on, and its receipt is noted
abbrev pub Wrote : ℕ → Tail → Option Lists → Tail → Option Lists → Type 0
Wrote moment t lists u new = (u ≡ written_out t) × (new ≡ receipted (is_some t.buffer.since) t.appended (counted (counted moment)) lists)

-- a refusal for a disk call comes only where the count of faults rose, and names the call that failed last; behind any other answer none has failed
abbrev pub HasCause : {T : Type 0} → Result T Refusal → Faults → Faults → Type 0
HasCause (Err (r.Disk call)) old new = Rose old.0 new.0 × (new.1 ≡ Some call)
HasCause _ old new = NoneFailed old new

-- ---- opening

-- nothing is told yet
abbrev pub IsBlank : Lists → Type 0
IsBlank l = (l.base ≡ []) × (l.steps ≡ []) × (l.receipts ≡ [])

-- a refusal of a flush or a tick: since the engine is closed, for a disk call, or for want of memory
abbrev pub IsFlushRefusal : Refusal → Type 0
IsFlushRefusal (r.Closed fault) = Unit {0}
IsFlushRefusal (r.Disk call) = Unit {0}
IsFlushRefusal r.NoMemory = Unit {0}
IsFlushRefusal _ = ⊥

-- a disk's fault, as a refusal
abbrev pub fault_refusal : DiskFault → Refusal
fault_refusal (f.Disk call) = r.Disk call
fault_refusal f.NoMemory = r.NoMemory

-- the call after which an engine is closed behind a fault
abbrev pub closed_by : DiskFault → Option DiskCall → Option DiskCall
closed_by (f.Disk call) closed = Some call
closed_by f.NoMemory closed = closed

-- a disk's fault, as that of an opening
abbrev pub open_fault : DiskFault → OpenFault
open_fault (f.Disk call) = o.Disk call
open_fault f.NoMemory = o.NoMemory
