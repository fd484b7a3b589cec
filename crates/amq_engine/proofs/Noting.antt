-- What a command leaves in the chronicle, and what clauses say of its answer.
use Rattle.std.proofs.Common.{◌≡◌, ◌⊎◌, inl, inr, ℕ, ◌+◌, ◌-◌, ◌^◌, ◌<◌, ◌≤◌, Bool, true, false, cond, ltb, leb, List, [], ◌∷◌, length, Option, None, Some, refl, sym, ap, subst, ◌∙◌, arith}
use Rattle.std.specs.Prelude.{IfSome, IsSome, is_some, option_map, Result, Ok, Err, ◌||◌, ◌&&◌}
use Rattle.std.proofs.lemmas.Bool.{false≢true, ltb-false, leb-true, lt-ltb, le-ltb}
use Rattle.std.proofs.lemmas.List.{length-append}
use Rattle.amq_model.specs.declared.config.Config.{Config}
use Rattle.amq_model.specs.declared.record.Record.{Record}
use Rattle.amq_model.specs.declared.record.Placed.{Placed}
use Rattle.amq_model.specs.declared.command.Command.{Command}
use Rattle.amq_model.specs.declared.command.Reply.{Reply}
use Rattle.amq_model.specs.declared.history.Answer.TheVariants.{Done, Refused}
use Rattle.amq_model.specs.declared.refusal.Refusal.{Refusal}
use Rattle.amq_model.specs.declared.refusal.Refusal.TheVariants as r
use Rattle.amq_model.specs.RecordAt.{len_of, spelling}
use Rattle.amq_model.specs.Answers.{record_of, refusal, limit, too_large, first_some}
use Rattle.amq_model.specs.Calls.{Past, counted}
use Rattle.amq_model.specs.declared.history.Step.{Step}
use Rattle.amq_io.specs.declared.faults.DiskFault.{DiskFault}
use Rattle.amq_io.specs.declared.faults.DiskFault.TheVariants as f
use Rattle.amq_record.proofs.Records.{length_spelling}
use Rattle.amq_tx.specs.State.{TxState}
use Rattle.amq_tx.specs.Refusing.{refusal_in}
use Rattle.amq_tx.proofs.Refusals.{refusals_are}
use Rattle.amq_pool.specs.declared.pool.PoolFile.{PoolFile}
use Rattle.amq_pool.specs.Pools.{PoolOf, ids_of}
use Rattle.amq_engine.specs.declared.tail.Tail.{Tail}
use Rattle.amq_engine.specs.Lists.{Lists, with_step}
use Rattle.amq_engine.specs.Engine.{EngineOf, Notes, is_noted, IsCommandRefusal, IsTold, records, Parts, IsSound, spent, passes, refused, receipted, fault_refusal, end_of_tail, with_put, placed_behind, written_out, readied, Waits, Wrote, overflows, flushes, is_flush, record_len, moves, prepares, asks_disk, is_nil}
use Rattle.amq_engine.proofs.History.{none_refused}
use Rattle.amq_engine.proofs.Receipts.{if_some}
use Rattle.amq_engine.proofs.Sound.{some_wait}
use Rattle.amq_engine.proofs.Commanding.{IsTableRefusal, table_refusal, short_record}

-- ---- what became durable

same_count : (n : ℕ) → ltb n n ≡ false
same_count n = le-ltb n n (omega arith)

some_first : (since : Option ℕ) (first : ℕ) → since ≡ Some first → since ≡ None → ⊥
some_first since first is none = cc

-- a flush makes more durable where something waits
wrote_more : (config : Config) (table : TxState) (pool : PoolOf) (t : Tail) → Parts config table pool t → ltb t.durable (written_out t).durable ≡ is_some t.buffer.since
wrote_more config table pool t p = by t.buffer.since refl where
  by : (since : Option ℕ) → t.buffer.since ≡ since → ltb t.durable (cond (is_some t.buffer.since) t.appended t.durable) ≡ is_some t.buffer.since
  by None is = ap (λ (o : Option ℕ). ltb t.durable (cond (is_some o) t.appended t.durable)) is ∙ same_count t.durable ∙ sym (ap (λ (o : Option ℕ). is_some o) is)
  by (Some first) is =
      let more : t.durable < t.appended = omega (arith, p.durable, p.count, some_wait config table pool t p (λ none. some_first t.buffer.since first is (p.first.1 none))) in
      ap (λ (o : Option ℕ). ltb t.durable (cond (is_some o) t.appended t.durable)) is ∙ lt-ltb t.durable t.appended more ∙ sym (ap (λ (o : Option ℕ). is_some o) is)

ready_more : (config : Config) (table : TxState) (pool : PoolOf) (t : Tail) (m b : Bool) → Parts config table pool t → ltb t.durable (readied m b pool t).durable ≡ ((m || b) && is_some t.buffer.since)
ready_more config table pool t true b p = wrote_more config table pool t p
ready_more config table pool t false true p = wrote_more config table pool t p
ready_more config table pool t false false p = same_count t.durable

-- ---- the chronicle

noted_by : (refusal : Refusal) → IsCommandRefusal refusal → (a b : Option Lists) → cond (is_noted (Err refusal)) a b ≡ a
noted_by (r.TooLarge len limit) kind a b = refl
noted_by (r.NoTx tx) kind a b = refl
noted_by (r.TxPrepared tx) kind a b = refl
noted_by (r.Held id tx) kind a b = refl
noted_by (r.AlreadyLive id) kind a b = refl
noted_by (r.NoRecord id) kind a b = refl
noted_by (r.TxNumbersSpent highest) kind a b = refl
noted_by (r.FileIdsSpent highest) kind a b = refl
noted_by (r.Closed fault) kind a b = absurd kind
noted_by (r.Compacting phase) kind a b = absurd kind
noted_by (r.Disk call) kind a b = absurd kind
noted_by r.NoMemory kind a b = absurd kind

-- a command that was refused
pub noted_refused : (seat number : ℕ) (command : Command) (refusal : Refusal) (file end was now appended moment : ℕ) (old roomy new : Option Lists) → IsCommandRefusal refusal → was ≡ now → roomy ≡ old
    → new ≡ option_map (with_step (record { seat = seat; number = number; command = command; answer = Refused refusal; placed = None })) roomy → Notes seat number command (Err refusal) file end (receipted (ltb was now) appended moment old) new
noted_refused seat number command refusal file end was now appended moment old roomy new kind same room noted = record {
  placed = None;
  is = noted ∙ ap (option_map (with_step _)) (room ∙ sym (ap (λ (b : Bool). receipted b appended moment old) (ap (λ (n : ℕ). ltb n now) same ∙ same_count now))) ∙ sym (noted_by refusal kind _ _);
  stands = tt;
}

-- a command for which a call failed or memory was wanted
pub noted_failed : (seat number : ℕ) (command : Command) (fault : DiskFault) (config : Config) (table : TxState) (pool : PoolOf) (t u : Tail) (file end moment : ℕ) (old roomy new : Option Lists) → Parts config table pool t → roomy ≡ old
    → Waits t roomy u new ⊎ Wrote moment t roomy u new → Notes seat number command (Err (fault_refusal fault)) file end (receipted (ltb t.durable u.durable) t.appended (counted (counted moment)) old) new
noted_failed seat number command fault config table pool t u file end moment old roomy new p room how = record {
  placed = None;
  is = by how ∙ sym (unnoted fault _ _);
  stands = tt;
} where
  unnoted : (fault : DiskFault) (a b : Option Lists) → cond (is_noted (Err (fault_refusal fault))) a b ≡ b
  unnoted (f.Disk call) a b = refl
  unnoted f.NoMemory a b = refl

  by : Waits t roomy u new ⊎ Wrote moment t roomy u new → new ≡ receipted (ltb t.durable u.durable) t.appended (counted (counted moment)) old
  by (inl w) = w.1 ∙ room ∙ sym (ap (λ (b : Bool). receipted b t.appended (counted (counted moment)) old) (ap (λ (x : Tail). ltb t.durable x.durable) w.0 ∙ same_count t.durable))
  by (inr w) =
      w.1 ∙ ap (receipted (is_some t.buffer.since) t.appended (counted (counted moment))) room
      ∙ sym (ap (λ (b : Bool). receipted b t.appended (counted (counted moment)) old) (ap (λ (x : Tail). ltb t.durable x.durable) w.0 ∙ wrote_more config table pool t p))

-- where the record stands that was put
put_stands : (now : ℕ) (u : Tail) (rec : Option Record) → IfSome (option_map (placed_behind u) rec) (λ p. (p.file ≡ (with_put now rec u).file.id) × (p.place + len_of p.rec ≡ end_of_tail (with_put now rec u)))
put_stands now u None = tt
put_stands now u (Some rec) = (refl, omega (arith, length-append u.buffer.bytes (spelling 2 u.file.id 0 rec), length_spelling 2 u.file.id 0 rec))

-- a command that was accepted
pub noted_accepted : (seat number : ℕ) (command : Command) (reply : Reply) (placed : Option Placed) (config : Config) (table : TxState) (pool : PoolOf) (t u v : Tail) (rec : Option Record) (m b : Bool) (now moment : ℕ) (old roomy ready new : Option Lists) → Parts config table pool t → roomy ≡ old
    → u ≡ readied m b pool t → v ≡ with_put now rec u → placed ≡ option_map (placed_behind u) rec → ready ≡ receipted ((m || b) && is_some t.buffer.since) t.appended moment roomy
    → new ≡ option_map (with_step (record { seat = seat; number = number; command = command; answer = Done reply; placed = placed })) ready → Notes seat number command (Ok reply) v.file.id (end_of_tail v) (receipted (ltb t.durable v.durable) t.appended moment old) new
noted_accepted seat number command reply placed config table pool t u v rec m b now moment old roomy ready new p room readied_so put_so stood went noted = record {
  placed = placed;
  is = noted ∙ ap (option_map (with_step _)) (went ∙ ap (receipted ((m || b) && is_some t.buffer.since) t.appended moment) room ∙ sym (ap (λ (k : Bool). receipted k t.appended moment old) more));
  stands = subst (λ (o : Option Placed). IfSome o (λ p. (p.file ≡ v.file.id) × (p.place + len_of p.rec ≡ end_of_tail v))) (sym stood)
      (subst (λ (x : Tail). IfSome (option_map (placed_behind u) rec) (λ p. (p.file ≡ x.file.id) × (p.place + len_of p.rec ≡ end_of_tail x))) (sym put_so) (put_stands now u rec));
} where
  kept : (rec : Option Record) → (with_put now rec u).durable ≡ u.durable
  kept None = refl
  kept (Some rec) = refl

  more : ltb t.durable v.durable ≡ ((m || b) && is_some t.buffer.since)
  more = ap (λ (x : Tail). ltb t.durable x.durable) put_so ∙ ap (ltb t.durable) (kept rec) ∙ ap (λ (x : Tail). ltb t.durable x.durable) readied_so ∙ ready_more config table pool t m b p

-- ---- answers

not_spent : (fault : DiskFault) (highest : ℕ) → fault_refusal fault ≡ r.FileIdsSpent highest → ⊥
not_spent (f.Disk call) highest is = cc
not_spent f.NoMemory highest is = cc

-- a fault of the disk is no want of numbers
pub fault_not_spent : {T : Type 0} {A : Type 0} (fault : DiskFault) (highest : ℕ) → (let e : Result T Refusal = Err (fault_refusal fault) in e) ≡ Err (r.FileIdsSpent highest) → A
fault_not_spent fault highest is = absurd (not_spent fault highest (same_error (fault_refusal fault) (r.FileIdsSpent highest) is)) where
  same_error : {T : Type 0} (a b : Refusal) → (let e : Result T Refusal = Err a in e) ≡ Err b → a ≡ b
  same_error a b e = cc

pub is_nil_ids : (files : List PoolFile) → is_nil (ids_of files) ≡ is_nil files
is_nil_ids [] = refl
is_nil_ids (x ∷ xs) = refl

-- a command that is refused for the numbers of files isn't too large
pub not_too_large : (config : Config) (command : Command) (by_table by_numbers : Option Refusal) (highest : ℕ) → refused config by_table by_numbers command ≡ Some (r.FileIdsSpent highest) → too_large config command ≡ None
not_too_large config command by_table by_numbers highest is = by (too_large config command) refl is where
  never : (o : Option Record) → record_of command 0 ≡ o → too_large config command ≡ Some (r.FileIdsSpent highest) → ⊥
  never None here is = let e : None ≡ Some (r.FileIdsSpent highest) = sym (rw (here, too_large) refl) ∙ is in cc
  never (Some rec) here is = by_limit (ltb (limit config) (len_of rec)) refl where
    by_limit : (b : Bool) → ltb (limit config) (len_of rec) ≡ b → ⊥
    by_limit true at = let e : Some (r.TooLarge (len_of rec) (limit config)) ≡ Some (r.FileIdsSpent highest) = sym (rw (here, at, too_large) refl) ∙ is in cc
    by_limit false at = let e : None ≡ Some (r.FileIdsSpent highest) = sym (rw (here, at, too_large) refl) ∙ is in cc

  by : (o : Option Refusal) → too_large config command ≡ o → first_some (o ∷ by_table ∷ by_numbers ∷ []) ≡ Some (r.FileIdsSpent highest) → too_large config command ≡ None
  by None one first = one
  by (Some q) one first = absurd (never (record_of command 0) refl (one ∙ first))

-- the numbers are spent exactly where a file is needed, none is prepared, and the greatest number is given
pub spent_so : (config : Config) (table : TxState) (command : Command) (m : Bool) (top highest : ℕ) (ids : List ℕ) (refusal : Refusal) → top ≤ 2 ^ 31 - 1 → refused config (refusal_in table command) (spent m top ids) command ≡ Some refusal → refusal ≡ r.FileIdsSpent highest
    → (highest ≡ top) × (highest ≡ 2 ^ 31 - 1) × ((m && is_nil ids) ≡ true)
spent_so config table command m top highest ids refusal low is told = by (too_large config command) refl (refusal_in table command) (table_refusal table command) is where
  numbers : (m : Bool) (ids : List ℕ) (b : Bool) → leb (2 ^ 31 - 1) top ≡ b → spent m top ids ≡ Some refusal → (highest ≡ top) × (highest ≡ 2 ^ 31 - 1) × ((m && is_nil ids) ≡ true)
  numbers m (x ∷ xs) b high is = absurd cc
  numbers false [] b high is = absurd cc
  numbers true [] false high is = absurd (let e : None ≡ Some refusal = sym (ap (λ (k : Bool). cond k (Some (r.FileIdsSpent top)) None) high) ∙ is in cc)
  numbers true [] true high is =
      let e : Some (r.FileIdsSpent top) ≡ Some refusal = sym (ap (λ (k : Bool). cond k (Some (r.FileIdsSpent top)) None) high) ∙ is in
      let same : r.FileIdsSpent highest ≡ r.FileIdsSpent top = cc in
      let n : highest ≡ top = cc in
      (n, omega (arith, n, leb-true _ _ high, low), refl)

  of_table : (o : Option Refusal) → IfSome o IsTableRefusal → o ≡ Some (r.FileIdsSpent highest) → ⊥
  of_table None kind is = cc
  of_table (Some q) kind is = let same : q ≡ r.FileIdsSpent highest = cc in subst IsTableRefusal same kind

  large : (o : Option Record) (b : Bool) → elim o [ None ↦ None | Some rec ↦ cond b (Some (r.TooLarge (len_of rec) (limit config))) None ] ≡ Some (r.FileIdsSpent highest) → ⊥
  large None b is = cc
  large (Some rec) true is = cc
  large (Some rec) false is = cc

  by : (a : Option Refusal) → too_large config command ≡ a → (b : Option Refusal) → IfSome b IsTableRefusal → first_some (a ∷ b ∷ spent m top ids ∷ []) ≡ Some refusal → (highest ≡ top) × (highest ≡ 2 ^ 31 - 1) × ((m && is_nil ids) ≡ true)
  by (Some q) one b kind first = absurd (too_long (record_of command 0) refl (one ∙ first ∙ ap (λ (x : Refusal). Some x) told)) where
    too_long : (o : Option Record) → record_of command 0 ≡ o → too_large config command ≡ Some (r.FileIdsSpent highest) → ⊥
    too_long None here is = let e : None ≡ Some (r.FileIdsSpent highest) = sym (rw (here, too_large) refl) ∙ is in cc
    too_long (Some rec) here is = by_limit (ltb (limit config) (len_of rec)) refl where
      by_limit : (b : Bool) → ltb (limit config) (len_of rec) ≡ b → ⊥
      by_limit true at = let e : Some (r.TooLarge (len_of rec) (limit config)) ≡ Some (r.FileIdsSpent highest) = sym (rw (here, at, too_large) refl) ∙ is in cc
      by_limit false at = let e : None ≡ Some (r.FileIdsSpent highest) = sym (rw (here, at, too_large) refl) ∙ is in cc
  by None one (Some q) kind first = absurd (of_table (Some q) kind (first ∙ ap (λ (x : Refusal). Some x) told))
  by None one None kind first = numbers m ids (leb (2 ^ 31 - 1) top) refl (first_of (spent m top ids) ∙ first) where
    first_of : (o : Option Refusal) → o ≡ first_some (o ∷ [])
    first_of None = refl
    first_of (Some q) = refl

-- ---- disk calls

-- where no call was made, whatever was refused
pub same_disk : {D : Type 0} (lists : Option Lists) (config : Config) (command : Command) (old new : D) → new ≡ old → IfSome lists (λ l. IsSome (refusal l.base l.steps config command) → new ≡ old)
same_disk None config command old new same = tt
same_disk (Some l) config command old new same = λ some. same

-- Where the journal of one thread refuses the command, something did.
pub nothing_refused : {D : Type 0} (past : Option Past) (lists : Option Lists) (room : ℕ) (config : Config) (table : TxState) (pool : PoolOf) (t : Tail) (command : Command) (by_numbers : Option Refusal) (old new : D) → IsSound past lists room config table pool t
    → refused config (refusal_in table command) by_numbers command ≡ None → IfSome lists (λ l. IsSome (refusal l.base l.steps config command) → new ≡ old)
nothing_refused past lists room config table pool t command by_numbers old new s none = if_some (IsTold past config.user_version s.parts.base t.durable (records s.parts.closed t.file s.parts.items) s.parts.steps) _ lists by s.told where
  p : Parts config table pool t
  p = s.parts

  free : refusal p.base p.steps config command ≡ None
  free = none_refused p.base p.steps config command (refusal_in table command) by_numbers (refusals_are table p.base p.steps p.follows command) none

  no : (o : Option Refusal) → o ≡ None → IsSome o → new ≡ old
  no None is some = absurd (nothing some)
    where
      nothing : IsSome {T = Refusal} None → ⊥
      nothing e = cc
  no (Some r) is some = absurd cc

  by : (l : Lists) → IsTold past config.user_version p.base t.durable (records p.closed t.file p.items) p.steps l → IsSome (refusal l.base l.steps config command) → new ≡ old
  by l told = no (refusal l.base l.steps config command) (ap (λ (b : List Placed). refusal b l.steps config command) told.base ∙ ap (λ (ss : List Step). refusal p.base ss config command) told.same ∙ free)

or_false : (a b : Bool) → (a || b) ≡ false → (a ≡ false) × (b ≡ false)
or_false true b is = absurd (false≢true (sym is))
or_false false b is = (refl, is)

-- nothing is asked of the disk
pub asks_nothing : {D C : Type 0} (e : EngineOf D C) (command : Command) (size end capacity waiting : ℕ) (since : Option ℕ) (files : List PoolFile) → e.config.file_size ≡ size → e.end ≡ end → e.config.buffer_size ≡ capacity → e.waiting ≡ waiting → e.since ≡ since → e.free ≡ ids_of files → asks_disk e command ≡ false
    → (((passes size end (record_len command) || flushes capacity waiting command) && is_some since) ≡ false) × ((passes size end (record_len command) && is_nil files) ≡ false)
asks_nothing e command size end capacity waiting since files a b c d s g none =
    let both = or_false ((moves e command || flushes e.config.buffer_size e.waiting command) && is_some e.since) (prepares e command) none in
    (cc_first both.0, cc_second both.1)
  where
    cc_first : ((moves e command || flushes e.config.buffer_size e.waiting command) && is_some e.since) ≡ false → ((passes size end (record_len command) || flushes capacity waiting command) && is_some since) ≡ false
    cc_first is = sym (ap (λ (n : ℕ). (passes n e.end (record_len command) || flushes e.config.buffer_size e.waiting command) && is_some e.since) a
        ∙ ap (λ (n : ℕ). (passes size n (record_len command) || flushes e.config.buffer_size e.waiting command) && is_some e.since) b
        ∙ ap (λ (n : ℕ). (passes size end (record_len command) || flushes n e.waiting command) && is_some e.since) c
        ∙ ap (λ (n : ℕ). (passes size end (record_len command) || flushes capacity n command) && is_some e.since) d
        ∙ ap (λ (o : Option ℕ). (passes size end (record_len command) || flushes capacity waiting command) && is_some o) s) ∙ is

    cc_second : prepares e command ≡ false → (passes size end (record_len command) && is_nil files) ≡ false
    cc_second is = sym (ap (λ (n : ℕ). passes n e.end (record_len command) && is_nil e.free) a
        ∙ ap (λ (n : ℕ). passes size n (record_len command) && is_nil e.free) b
        ∙ ap (λ (l : List ℕ). passes size end (record_len command) && is_nil l) g
        ∙ ap (λ (k : Bool). passes size end (record_len command) && k) (is_nil_ids files)) ∙ is

-- ---- the buffer

-- the record fits the buffer that was made ready
pub fits_buffer : (config : Config) (table : TxState) (by_numbers by_table : Option Refusal) (pool : PoolOf) (t : Tail) (command : Command) (rec : Option Record) (m : Bool) → Parts config table pool t → refused config by_table by_numbers command ≡ None → option_map len_of rec ≡ record_len command
    → IfSome rec (λ rec. length (readied m (flushes t.buffer.capacity (length t.buffer.bytes) command) pool t).buffer.bytes + len_of rec ≤ (readied m (flushes t.buffer.capacity (length t.buffer.bytes) command) pool t).buffer.capacity)
fits_buffer config table by_numbers by_table pool t command None m p none is = tt
fits_buffer config table by_numbers by_table pool t command (Some rec) true p none is = omega (arith, short_record config by_table by_numbers command (len_of rec) none (sym is), p.capacity)
fits_buffer config table by_numbers by_table pool t command (Some rec) false p none is = by (flushes t.buffer.capacity (length t.buffer.bytes) command) refl where
  by : (b : Bool) → flushes t.buffer.capacity (length t.buffer.bytes) command ≡ b → length (readied false (flushes t.buffer.capacity (length t.buffer.bytes) command) pool t).buffer.bytes + len_of rec ≤ (readied false (flushes t.buffer.capacity (length t.buffer.bytes) command) pool t).buffer.capacity
  by true at = subst (λ (b : Bool). length (readied false b pool t).buffer.bytes + len_of rec ≤ (readied false b pool t).buffer.capacity) (sym at) (omega (arith, short_record config by_table by_numbers command (len_of rec) none (sym is), p.capacity))
  by false at =
      let room : overflows t.buffer.capacity (length t.buffer.bytes) (Some (len_of rec)) ≡ false = ap (overflows t.buffer.capacity (length t.buffer.bytes)) is ∙ (or_false (is_flush command) (overflows t.buffer.capacity (length t.buffer.bytes) (record_len command)) at).1 in
      subst (λ (b : Bool). length (readied false b pool t).buffer.bytes + len_of rec ≤ (readied false b pool t).buffer.capacity) (sym at) (omega (arith, ltb-false t.buffer.capacity (length t.buffer.bytes + len_of rec) room))

pub both_true : (a b : Bool) → (a && b) ≡ true → (a ≡ true) × (b ≡ true)
both_true true b is = (refl, is)
both_true false b is = absurd (false≢true is)

pub nil_is : (ids : List ℕ) → is_nil ids ≡ true → ids ≡ []
nil_is [] is = refl
nil_is (x ∷ xs) is = absurd (false≢true is)
