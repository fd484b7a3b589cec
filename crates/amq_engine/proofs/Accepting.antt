-- A command that is accepted: the journal made ready, and the record put.
use Rattle.std.proofs.Common.{◌≡◌, ℕ, ◌+◌, ◌^◌, ◌<◌, Bool, true, false, cond, List, [], ◌∷◌, ◌++◌, length, Option, None, Some, refl, sym, ap, subst, ◌∙◌, arith}
use Rattle.std.specs.Prelude.{IfSome, IsSome, option_map, ◌||◌}
use Rattle.std.proofs.lemmas.List.{length-append}
use Rattle.amq_model.specs.declared.config.Config.{Config}
use Rattle.amq_model.specs.declared.record.Record.{Record}
use Rattle.amq_model.specs.declared.command.Command.{Command}
use Rattle.amq_model.specs.declared.command.Command.TheVariants as c
use Rattle.amq_model.specs.declared.command.Reply.{Reply}
use Rattle.amq_model.specs.declared.command.Reply.TheVariants.{Appended, Durable}
use Rattle.amq_model.specs.declared.refusal.DiskCall.{DiskCall}
use Rattle.amq_model.specs.declared.refusal.Refusal.{Refusal}
use Rattle.amq_model.specs.Configs.{IsConfig}
use Rattle.amq_model.specs.RecordAt.{IsRecord, len_of, spelling}
use Rattle.amq_record.proofs.Records.{length_spelling}
use Rattle.amq_tx.specs.State.{TxState}
use Rattle.amq_tx.specs.Applying.{number_given}
use Rattle.amq_pool.specs.declared.pool.PoolFile.{PoolFile}
use Rattle.amq_pool.specs.Pools.{PoolOf, ids_of}
use Rattle.amq_engine.specs.declared.tail.Tail.{Tail}
use Rattle.amq_engine.specs.Engine.{EngineOf, IsReply, reply_of, refused, end_of_tail, with_put, written_out, gone_on, next_file, readied, pool_readied, is_flush, overflows, passes, record_len, flushes, flushed, moved, with_record, behind_command}
use Rattle.amq_engine.proofs.Flushing.{seen, seen_flushed}
use Rattle.amq_engine.proofs.Commanding.{short_record}

-- ---- the tail

pub appended_readied : (m b : Bool) (pool : PoolOf) (t : Tail) → (readied m b pool t).appended ≡ t.appended
appended_readied true b pool t = refl
appended_readied false true pool t = refl
appended_readied false false pool t = refl

-- a command without a record and without a number asks for a flush
asks_flush : (table : TxState) (command : Command) → number_given table command ≡ None → record_len command ≡ None → is_flush command ≡ true
asks_flush table c.Begin none bare = absurd cc
asks_flush table c.Flush none bare = refl
asks_flush table (c.Add id user_type body) none bare = absurd cc
asks_flush table (c.Update id user_type body) none bare = absurd cc
asks_flush table (c.Delete id) none bare = absurd cc
asks_flush table (c.AddTx tx id user_type body) none bare = absurd cc
asks_flush table (c.UpdateTx tx id user_type body) none bare = absurd cc
asks_flush table (c.DeleteTx tx id body) none bare = absurd cc
asks_flush table (c.Prepare tx extra) none bare = absurd cc
asks_flush table (c.Commit tx) none bare = absurd cc
asks_flush table (c.Rollback tx) none bare = absurd cc

-- so the buffer is written out before it
pub written_first : (table : TxState) (command : Command) (pool : PoolOf) (t : Tail) (size end : ℕ) → number_given table command ≡ None → record_len command ≡ None → readied (passes size end (record_len command)) (flushes t.buffer.capacity (length t.buffer.bytes) command) pool t ≡ written_out t
written_first table command pool t size end none bare =
    ap (λ (o : Option ℕ). readied (passes size end o) (flushes t.buffer.capacity (length t.buffer.bytes) command) pool t) bare
    ∙ ap (λ (x : Bool). readied false (x || overflows t.buffer.capacity (length t.buffer.bytes) (record_len command)) pool t) (asks_flush table command none bare)

-- ---- the reply

appended_reply : (command : Command) (n : ℕ) (len : ℕ) → record_len command ≡ Some len → IsReply n command (Appended n)
appended_reply c.Begin n len is = absurd cc
appended_reply c.Flush n len is = absurd cc
appended_reply (c.Add id user_type body) n len is = refl
appended_reply (c.Update id user_type body) n len is = refl
appended_reply (c.Delete id) n len is = refl
appended_reply (c.AddTx tx id user_type body) n len is = refl
appended_reply (c.UpdateTx tx id user_type body) n len is = refl
appended_reply (c.DeleteTx tx id body) n len is = refl
appended_reply (c.Prepare tx extra) n len is = refl
appended_reply (c.Commit tx) n len is = refl
appended_reply (c.Rollback tx) n len is = refl

begun_reply : (table : TxState) (command : Command) (n tx : ℕ) → number_given table command ≡ Some tx → IsReply n command (Rattle.amq_model.specs.declared.command.Reply.TheVariants.Begun tx)
begun_reply table c.Begin n tx is = tt
begun_reply table c.Flush n tx is = absurd cc
begun_reply table (c.Add id user_type body) n tx is = absurd cc
begun_reply table (c.Update id user_type body) n tx is = absurd cc
begun_reply table (c.Delete id) n tx is = absurd cc
begun_reply table (c.AddTx t id user_type body) n tx is = absurd cc
begun_reply table (c.UpdateTx t id user_type body) n tx is = absurd cc
begun_reply table (c.DeleteTx t id body) n tx is = absurd cc
begun_reply table (c.Prepare t extra) n tx is = absurd cc
begun_reply table (c.Commit t) n tx is = absurd cc
begun_reply table (c.Rollback t) n tx is = absurd cc

durable_reply : (command : Command) (n : ℕ) → is_flush command ≡ true → IsReply n command (Durable n)
durable_reply c.Flush n is = refl
durable_reply c.Begin n is = absurd cc
durable_reply (c.Add id user_type body) n is = absurd cc
durable_reply (c.Update id user_type body) n is = absurd cc
durable_reply (c.Delete id) n is = absurd cc
durable_reply (c.AddTx tx id user_type body) n is = absurd cc
durable_reply (c.UpdateTx tx id user_type body) n is = absurd cc
durable_reply (c.DeleteTx tx id body) n is = absurd cc
durable_reply (c.Prepare tx extra) n is = absurd cc
durable_reply (c.Commit tx) n is = absurd cc
durable_reply (c.Rollback tx) n is = absurd cc

pub reply_is : (table : TxState) (command : Command) (given : Option ℕ) (rec : Option Record) (pool : PoolOf) (t : Tail) (size end n : ℕ) → given ≡ number_given table command → option_map len_of rec ≡ record_len command → (written_out t).durable ≡ t.appended → t.appended ≡ n
    → IsReply n command (reply_of (readied (passes size end (record_len command)) (flushes t.buffer.capacity (length t.buffer.bytes) command) pool t) given rec)
reply_is table command None None pool t size end n told bare all count =
    subst (λ (u : Tail). IsReply n command (Durable u.durable)) (sym (written_first table command pool t size end (sym told) (sym bare)))
    (subst (λ (k : ℕ). IsReply n command (Durable k)) (sym (all ∙ count)) (durable_reply command n (asks_flush table command (sym told) (sym bare))))
reply_is table command (Some tx) None pool t size end n told bare all count = begun_reply table command n tx (sym told)
reply_is table command given (Some rec) pool t size end n told bare all count =
    subst (λ (k : ℕ). IsReply n command (Appended k)) (sym (appended_readied (passes size end (record_len command)) (flushes t.buffer.capacity (length t.buffer.bytes) command) pool t ∙ count)) (appended_reply command n (len_of rec) (sym bare))

-- ---- what clauses see of the engine behind it

module _ {D C : Type 0} (command : Command) (disk : D) (chronicle : C) (config : Config) (clock : ℕ) (closed : Option DiskCall) where
  put_seen : (pool : PoolOf) (rec : Option Record) (t : Tail) → seen disk chronicle config pool (with_put clock rec t) clock closed ≡ with_record (option_map len_of rec) (seen disk chronicle config pool t clock closed)
  put_seen pool None t = refl
  put_seen pool (Some rec) t =
      let more : length (t.buffer.bytes ++ spelling 2 t.file.id 0 rec) ≡ length t.buffer.bytes + len_of rec = length-append t.buffer.bytes (spelling 2 t.file.id 0 rec) ∙ ap (λ (n : ℕ). length t.buffer.bytes + n) (length_spelling 2 t.file.id 0 rec) in
      let ends : t.end + length (t.buffer.bytes ++ spelling 2 t.file.id 0 rec) ≡ end_of_tail t + len_of rec = omega (arith, more) in
      ap (λ (n : ℕ). record (seen disk chronicle config pool (with_put clock (Some rec) t) clock closed) { waiting = n }) more
      ∙ ap (λ (n : ℕ). record (seen disk chronicle config pool (with_put clock (Some rec) t) clock closed) { waiting = length t.buffer.bytes + len_of rec; end = n }) ends

  flush_seen : (pool : PoolOf) (t : Tail) → (written_out t).durable ≡ t.appended → seen disk chronicle config pool (written_out t) clock closed ≡ flushed (seen disk chronicle config pool t clock closed)
  flush_seen pool t all = seen_flushed (seen disk chronicle config pool t clock closed) disk disk chronicle chronicle config pool t (written_out t) clock closed refl refl all

  move_seen : (was : Config) (highest : ℕ) (free : List PoolFile) (t : Tail) → (written_out t).durable ≡ t.appended
      → (let p : PoolOf = record { config = was; highest = highest; prepared = free } in seen disk chronicle config (pool_readied true p) (gone_on (next_file p) (written_out t)) clock closed) ≡ (let p : PoolOf = record { config = was; highest = highest; prepared = free } in moved (seen disk chronicle config p t clock closed))
  move_seen was highest [] t all = ap (λ (n : ℕ). record { disk = disk; chronicle = chronicle; config = config; appended = t.appended; durable = n; waiting = 0; since = None; file = highest + 1; end = 16; highest = highest + 1; free = []; clock = clock; closed = closed }) all
  move_seen was highest (f ∷ fs) t all = ap (λ (n : ℕ). record { disk = disk; chronicle = chronicle; config = config; appended = t.appended; durable = n; waiting = 0; since = None; file = f.id; end = 16; highest = highest; free = ids_of fs; clock = clock; closed = closed }) all

  ready_seen : (pool : PoolOf) (t : Tail) (m b : Bool) → (written_out t).durable ≡ t.appended → seen disk chronicle config (pool_readied m pool) (readied m b pool t) clock closed
      ≡ cond m (moved (seen disk chronicle config pool t clock closed)) (cond b (flushed (seen disk chronicle config pool t clock closed)) (seen disk chronicle config pool t clock closed))
  ready_seen pool t true b all = move_seen pool.config pool.highest pool.prepared t all
  ready_seen pool t false true all = flush_seen pool t all
  ready_seen pool t false false all = refl

  -- a disk and a chronicle make no difference to the rest
  moved_parts : (e : EngineOf D C) (ids : List ℕ) → e.free ≡ ids → (d : D) (h : C) → moved (record e { disk = d; chronicle = h }) ≡ record (moved e) { disk = d; chronicle = h }
  moved_parts e [] is d h = rw (is, moved) refl
  moved_parts e (id ∷ ids) is d h = rw (is, moved) refl

  other_parts : (was : EngineOf D C) (len : Option ℕ) (m b : Bool) → with_record len (cond m (moved (record was { disk = disk; chronicle = chronicle })) (cond b (flushed (record was { disk = disk; chronicle = chronicle })) (record was { disk = disk; chronicle = chronicle })))
      ≡ record (with_record len (cond m (moved was) (cond b (flushed was) was))) { disk = disk; chronicle = chronicle }
  other_parts was None true b = moved_parts was was.free refl disk chronicle
  other_parts was None false true = refl
  other_parts was None false false = refl
  other_parts was (Some len) true b = ap (with_record (Some len)) (moved_parts was was.free refl disk chronicle)
  other_parts was (Some len) false true = refl
  other_parts was (Some len) false false = refl

  pub seen_accepted : (old : EngineOf D C) (was : D) (told : C) (rec : Option Record) (pool : PoolOf) (t u : Tail) → seen was told config pool t clock closed ≡ old → u ≡ with_put clock rec (readied (passes config.file_size (end_of_tail t) (record_len command)) (flushes t.buffer.capacity (length t.buffer.bytes) command) pool t) → t.buffer.capacity ≡ config.buffer_size → option_map len_of rec ≡ record_len command
      → (written_out t).durable ≡ t.appended → seen disk chronicle config (pool_readied (passes config.file_size (end_of_tail t) (record_len command)) pool) u clock closed ≡ record (behind_command command old) { disk = disk; chronicle = chronicle }
  seen_accepted old was told rec pool t u before went at is all =
      let m : Bool = passes config.file_size (end_of_tail t) (record_len command) in
      let b : Bool = flushes t.buffer.capacity (length t.buffer.bytes) command in
      let e : EngineOf D C = seen disk chronicle config pool t clock closed in
      ap (λ (x : Tail). seen disk chronicle config (pool_readied m pool) x clock closed) went
      ∙ put_seen (pool_readied m pool) rec (readied m b pool t)
      ∙ ap (λ (o : Option ℕ). with_record o (seen disk chronicle config (pool_readied m pool) (readied m b pool t) clock closed)) is
      ∙ ap (with_record (record_len command)) (ready_seen pool t m b all)
      ∙ ap (λ (n : ℕ). with_record (record_len command) (cond m (moved e) (cond (flushes n (length t.buffer.bytes) command) (flushed e) e))) at
      ∙ other_parts (seen was told config pool t clock closed) (record_len command) m (flushes config.buffer_size (length t.buffer.bytes) command)
      ∙ ap (λ (e : EngineOf D C). record (behind_command command e) { disk = disk; chronicle = chronicle }) before

-- ---- lengths

pub values_of : (config : Config) (by_table by_numbers : Option Refusal) (command : Command) (rec : Option Record) → IsConfig config → refused config by_table by_numbers command ≡ None → option_map len_of rec ≡ record_len command → IfSome rec (λ rec. len_of rec < 2 ^ 31 → IsRecord rec) → IfSome rec (λ rec. IsRecord rec)
values_of config by_table by_numbers command None ranges none is values = tt
values_of config by_table by_numbers command (Some rec) ranges none is values = values (omega (arith, short_record config by_table by_numbers command (len_of rec) none (sym is), ranges.buffer_size_most))

-- an engine that isn't closed isn't
pub not_closed : (closed : Option DiskCall) → closed ≡ None → IsSome closed → ⊥
not_closed None is some = by some where
  by : IsSome {T = DiskCall} None → ⊥
  by e = cc
not_closed (Some call) is some = absurd cc
