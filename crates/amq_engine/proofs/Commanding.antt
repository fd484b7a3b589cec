-- What is always so of an engine, through one command.
use Rattle.std.proofs.Common.{◌≡◌, ℕ, ◌+◌, ◌-◌, ◌^◌, ◌<◌, ◌≤◌, Bool, true, false, cond, ltb, leb, eqb, List, [], ◌∷◌, ◌++◌, length, Option, None, Some, refl, sym, ap, subst, ◌∙◌, append_assoc, arith}
use Rattle.std.specs.Prelude.{IfSome, All, IsTrue, option_map, Result, Ok, Err, OnOk, OnErr, is_err, nat_le, ◌&&◌, not}
use Rattle.std.specs.List.{AllByRecursion}
use Rattle.std.specs.List.{cons_option, list_any, count_by}
use Rattle.std.proofs.lemmas.Bool.{ltb-false, ltb-true, leb-true}
use Rattle.std.proofs.lemmas.List.{length-append, take-append-le, append-nil}
use Rattle.std.proofs.lemmas.List.Sums.{count_by-le-length, sum_by-cons}
use Rattle.std.proofs.lemmas.List.Elements.{All-append, All-push, All-head, All-tail}
use Rattle.amq_model.specs.declared.record.Record.{Record}
use Rattle.amq_model.specs.declared.record.Placed.{Placed}
use Rattle.amq_model.specs.declared.command.Command.{Command}
use Rattle.amq_model.specs.declared.command.Command.TheVariants as c
use Rattle.amq_model.specs.declared.command.Reply.{Reply}
use Rattle.amq_model.specs.declared.command.Reply.TheVariants.{Appended}
use Rattle.amq_model.specs.declared.config.Config.{Config}
use Rattle.amq_model.specs.Configs.{IsConfig}
use Rattle.amq_model.specs.declared.history.Answer.TheVariants.{Done, Refused}
use Rattle.amq_model.specs.declared.history.Step.{Step}
use Rattle.amq_model.specs.declared.refusal.Refusal.{Refusal}
use Rattle.amq_model.specs.declared.refusal.Refusal.TheVariants as r
use Rattle.amq_model.specs.declared.refusal.Refusal.TheVariants.{FileIdsSpent, TooLarge, TxPrepared, TxNumbersSpent}
use Rattle.amq_model.specs.RecordAt.{IsRecord, len_of, spelling}
use Rattle.amq_model.specs.Calls.{Past}
use Rattle.amq_model.specs.Answers.{tx_of, id_of, is_add, works_in_tx, record_of, history_of, too_large, limit, first_some}
use Rattle.amq_model.specs.Legal.{StandsNext, number_for, needs_file, rolled_back, IsAnswered, IsLegalStep, AreLegalFrom, AreLegal, end_of}
use Rattle.amq_model.specs.Effect.{changes, ends, open_changes}
use Rattle.amq_model.proofs.Keeping.{reads_weaker}
use Rattle.amq_record.proofs.Records.{length_spelling}
use Rattle.amq_buffer.specs.Buffered.{begun}
use Rattle.amq_scan.proofs.Scans.{whole_len-pos}
use Rattle.amq_scan.specs.Written.{Item, end_from}
use Rattle.amq_scan.specs.Segments.{records_of}
use Rattle.amq_tx.specs.State.{TxState}
use Rattle.amq_tx.specs.State.{TurnState, count_of}
use Rattle.amq_tx.specs.Refusing.{refusal_in, turn_refusal, tx_refusal_in, held_by, holder_in, held_in, live_refusal, view_in, id_refusal_in, spent_in}
use Rattle.amq_tx.specs.Applying.{CountFits}
use Rattle.amq_tx.specs.Follows.{Follows, AreBelow, refusal_of, number_of_begin, IsAccepted}
use Rattle.amq_tx.proofs.Steps.{refused_follows}
use Rattle.amq_pool.specs.Pools.{PoolOf, ids_of}
use Rattle.amq_engine.specs.Lists.{Lists, with_step}
use Rattle.amq_engine.specs.Directory.{placed_in, StandsNow}
use Rattle.amq_engine.specs.Receipts.{AreInOrder, IsLastCount}
use Rattle.amq_engine.specs.declared.tail.Tail.{Tail}
use Rattle.amq_engine.specs.Engine.{IsNewItem, AreKept, IsTold, Parts, IsSound, Stage, opened, HasOpened, AreAppended, IsSpentAtLast, AreSpentAtLast, IsValid, IsChronicle, IsCommandRefusal, records, spent, passes, refused, bare_reply, reply_of, end_of_tail, with_put, placed_behind, record_len, readied}
use Rattle.amq_engine.proofs.Texts.{text_grows, end_whole}
use Rattle.amq_engine.proofs.Receipts.{if_some, if_mapped, kept_grows}
use Rattle.amq_engine.proofs.History.{behind, records-snoc, length-placed, end_records, few_records, stands_next, answered_none, answered_some, accepted_is, reply_behind, reply_bare, reply_appended, no_record, history-snoc, legal_from}
use Rattle.amq_engine.proofs.Listing.{used_id, old_ids, closed_ids}
use Rattle.amq_engine.proofs.Standing.{grows_stand}
use Rattle.amq_engine.proofs.Sound.{all_durable, sound_room}
use Rattle.amq_engine.proofs.Recovering.{valid_safe, told_stepped}

-- a call that didn't fail
pub when_ok : {T E : Type 0} (r : Result T E) (P : Type 0) → is_err r ≡ false → OnOk r P → P
when_ok (Ok x) P is h = h
when_ok (Err e) P is h = absurd cc

-- a call that failed
pub when_err : {T E : Type 0} (r : Result T E) (P : Type 0) → is_err r ≡ true → OnErr r P → P
when_err (Ok x) P is h = absurd cc
when_err (Err e) P is h = h

-- ---- what isn't refused

first_none : (a b o : Option Refusal) → first_some (a ∷ b ∷ o ∷ []) ≡ None → a ≡ None
first_none (Some r) b o is = absurd cc
first_none None b o is = refl

middle_none : (a b o : Option Refusal) → first_some (a ∷ b ∷ o ∷ []) ≡ None → b ≡ None
middle_none (Some r) b o is = absurd cc
middle_none None (Some r) o is = absurd cc
middle_none None None o is = refl

last_none : (a b o : Option Refusal) → first_some (a ∷ b ∷ o ∷ []) ≡ None → o ≡ None
last_none (Some r) b o is = absurd cc
last_none None (Some r) o is = absurd cc
last_none None None (Some r) is = absurd cc
last_none None None None is = refl

-- what the table refuses of a command that isn't refused
pub table_accepts : (config : Config) (by_table by_numbers : Option Refusal) (command : Command) → refused config by_table by_numbers command ≡ None → by_table ≡ None
table_accepts config by_table by_numbers command none = middle_none (too_large config command) by_table by_numbers none

-- numbers are left, where a file is needed
pub spent_left : (moves_first : Bool) (highest : ℕ) (ids : List ℕ) → spent moves_first highest ids ≡ None → moves_first ≡ true → ids ≡ [] → highest < 2 ^ 31 - 1
spent_left moves_first highest ids free moves bare = by moves_first ids (leb (2 ^ 31 - 1) highest) refl moves bare free where
  by : (m : Bool) (l : List ℕ) (b : Bool) → leb (2 ^ 31 - 1) highest ≡ b → m ≡ true → l ≡ [] → spent m highest l ≡ None → highest < 2 ^ 31 - 1
  by false l b is moves bare free = absurd cc
  by true (x ∷ xs) b is moves bare free = absurd cc
  by true [] true is moves bare free = absurd (let e : Some (FileIdsSpent highest) ≡ None = sym (ap (λ (k : Bool). cond k (Some (FileIdsSpent highest)) None) is) ∙ free in cc)
  by true [] false is moves bare free = grind (arith, is)

pub numbers_left : (config : Config) (by_table : Option Refusal) (moves_first : Bool) (highest : ℕ) (ids : List ℕ) (command : Command) → refused config by_table (spent moves_first highest ids) command ≡ None → moves_first ≡ true → ids ≡ [] → highest < 2 ^ 31 - 1
numbers_left config by_table moves_first highest ids command none moves bare = spent_left moves_first highest ids (last_none (too_large config command) by_table (spent moves_first highest ids) none) moves bare

room_by : (b : Bool) (r : Refusal) → cond b (Some r) None ≡ None → b ≡ false
room_by true r is = absurd cc
room_by false r is = refl

abbrev large_of : Config → Option Record → Option Refusal
large_of config None = None
large_of config (Some rec) = cond (ltb (limit config) (len_of rec)) (Some (TooLarge (len_of rec) (limit config))) None

-- a record that isn't too large has the limit's length at most
pub within_limit : (config : Config) (command : Command) (len : ℕ) → too_large config command ≡ None → record_len command ≡ Some len → len ≤ limit config
within_limit config command len none is = by (record_of command 0) refl is where
  by : (o : Option Record) → record_of command 0 ≡ o → option_map len_of o ≡ Some len → len ≤ limit config
  by None here is = absurd cc
  by (Some rec) here is =
      let same : len_of rec ≡ len = let e : Some (len_of rec) ≡ Some len = is in cc in
      let opened : large_of config (Some rec) ≡ None = sym (ap (large_of config) here) ∙ none in
      omega (arith, ltb-false _ _ (room_by (ltb (limit config) (len_of rec)) (TooLarge (len_of rec) (limit config)) opened), same)

pub short_record : (config : Config) (by_table by_numbers : Option Refusal) (command : Command) (len : ℕ) → refused config by_table by_numbers command ≡ None → record_len command ≡ Some len → len ≤ limit config
short_record config by_table by_numbers command len none is = within_limit config command len (first_none (too_large config command) by_table by_numbers none) is

-- where the record that is put ends, behind a move or without one
pub put_fits : (config : Config) (by_table by_numbers : Option Refusal) (pool : PoolOf) (t : Tail) (command : Command) (rec : Option Record) (m b : Bool) → IsConfig config → refused config by_table by_numbers command ≡ None → option_map len_of rec ≡ record_len command
    → m ≡ passes config.file_size (end_of_tail t) (record_len command) → IfSome rec (λ rec. end_of_tail (readied m b pool t) + len_of rec ≤ config.file_size)
put_fits config by_table by_numbers pool t command None m b ranges none is moves = tt
put_fits config by_table by_numbers pool t command (Some rec) true b ranges none is moves = omega (arith, short_record config by_table by_numbers command (len_of rec) none (sym is), ranges.file_size_least)
put_fits config by_table by_numbers pool t command (Some rec) false true ranges none is moves =
    omega (arith, ltb-false config.file_size (end_of_tail t + len_of rec) (sym (moves ∙ ap (passes config.file_size (end_of_tail t)) (sym is))))
put_fits config by_table by_numbers pool t command (Some rec) false false ranges none is moves =
    omega (arith, ltb-false config.file_size (end_of_tail t + len_of rec) (sym (moves ∙ ap (passes config.file_size (end_of_tail t)) (sym is))))

-- ---- what the table refuses

-- a refusal by the ids and the transactions
abbrev pub IsTableRefusal : Refusal → Type 0
IsTableRefusal (r.NoTx tx) = Unit {0}
IsTableRefusal (r.TxPrepared tx) = Unit {0}
IsTableRefusal (r.Held id tx) = Unit {0}
IsTableRefusal (r.AlreadyLive id) = Unit {0}
IsTableRefusal (r.NoRecord id) = Unit {0}
IsTableRefusal (r.TxNumbersSpent highest) = Unit {0}
IsTableRefusal _ = ⊥

first_of : (os : List (Option Refusal)) → AllByRecursion (λ o. IfSome o IsTableRefusal) os → IfSome (first_some os) IsTableRefusal
first_of [] all = tt
first_of (Some r ∷ os) all = all.0
first_of (None ∷ os) all = first_of os all.1

turn_kind : (o : Option TurnState) (tx : ℕ) (works : Bool) → IfSome (turn_refusal o tx works) IsTableRefusal
turn_kind None tx works = tt
turn_kind (Some t) tx works = by (works && t.is_prepared) where
  by : (b : Bool) → IfSome (cond b (Some (TxPrepared tx)) None) IsTableRefusal
  by true = tt
  by false = tt

tx_kind : (table : TxState) (o : Option ℕ) (works : Bool) → IfSome (elim o [ None ↦ None | Some tx ↦ turn_refusal (table.turns tx) tx works ]) IsTableRefusal
tx_kind table None works = tt
tx_kind table (Some tx) works = turn_kind (table.turns tx) tx works

held_kind : (table : TxState) (o own : Option ℕ) → IfSome (elim o [ None ↦ None | Some id ↦ held_by id (holder_in table id own) ]) IsTableRefusal
held_kind table None own = tt
held_kind table (Some id) own = by (holder_in table id own) where
  by : (o : Option ℕ) → IfSome (held_by id o) IsTableRefusal
  by None = tt
  by (Some tx) = tt

id_kind : (table : TxState) (o own : Option ℕ) (adds : Bool) → IfSome (elim o [ None ↦ None | Some id ↦ live_refusal id (view_in table own id) adds ]) IsTableRefusal
id_kind table None own adds = tt
id_kind table (Some id) own adds = by (view_in table own id) adds where
  by : (a b : Bool) → IfSome (live_refusal id a b) IsTableRefusal
  by true true = tt
  by true false = tt
  by false true = tt
  by false false = tt

spent_kind : (table : TxState) (command : Command) → IfSome (spent_in table command) IsTableRefusal
spent_kind table c.Begin = by (nat_le (2 ^ 63 - 1) table.highest) where
  by : (b : Bool) → IfSome (cond b (Some (TxNumbersSpent table.highest)) None) IsTableRefusal
  by true = tt
  by false = tt
spent_kind table c.Flush = tt
spent_kind table (c.Add id user_type body) = tt
spent_kind table (c.Update id user_type body) = tt
spent_kind table (c.Delete id) = tt
spent_kind table (c.AddTx tx id user_type body) = tt
spent_kind table (c.UpdateTx tx id user_type body) = tt
spent_kind table (c.DeleteTx tx id body) = tt
spent_kind table (c.Prepare tx extra) = tt
spent_kind table (c.Commit tx) = tt
spent_kind table (c.Rollback tx) = tt

-- so is each refusal of the table
pub table_refusal : (table : TxState) (command : Command) → IfSome (refusal_in table command) IsTableRefusal
table_refusal table command = first_of (tx_refusal_in table command ∷ held_in table command ∷ id_refusal_in table command ∷ spent_in table command ∷ []) (
  tx_kind table (tx_of command) (works_in_tx command),
  (held_kind table (id_of command) (tx_of command), (id_kind table (id_of command) (tx_of command) (is_add command), (spent_kind table command, tt))),
)

of_command : (r : Refusal) → IsTableRefusal r → IsCommandRefusal r
of_command (r.NoTx tx) is = tt
of_command (r.TxPrepared tx) is = tt
of_command (r.Held id tx) is = tt
of_command (r.AlreadyLive id) is = tt
of_command (r.NoRecord id) is = tt
of_command (r.TxNumbersSpent highest) is = tt
of_command (r.Closed fault) is = absurd is
of_command (r.TooLarge len limit) is = absurd is
of_command (r.Compacting phase) is = absurd is
of_command (r.FileIdsSpent highest) is = absurd is
of_command (r.Disk call) is = absurd is
of_command r.NoMemory is = absurd is

-- each refusal of the table depends on the command
pub table_kind : (table : TxState) (command : Command) → IfSome (refusal_in table command) IsCommandRefusal
table_kind table command = if_some IsTableRefusal IsCommandRefusal (refusal_in table command) of_command (table_refusal table command)

-- where the records end
pub tail_end : (config : Config) (table : TxState) (pool : PoolOf) (t : Tail) (p : Parts config table pool t) → end_of_tail t ≡ end_from 2 16 p.items
tail_end config table pool t p = end_whole t.file.id p.sure t.end p.items t.buffer.bytes p.place p.buffered

-- the files of the base have lesser ids than the file in use
pub base_below : (config : Config) (table : TxState) (pool : PoolOf) (t : Tail) (p : Parts config table pool t) → AreBelow t.file.id p.base
base_below config table pool t p = subst (All (λ q. q.file < t.file.id)) p.based (old_ids pool.highest p.old p.closed t.file pool.prepared p.listed)

-- a file is needed only behind a record in the file in use
pub needs_one : (config : Config) (table : TxState) (pool : PoolOf) (t : Tail) (p : Parts config table pool t) (command : Command) → IsConfig config → too_large config command ≡ None → passes config.file_size (end_of_tail t) (record_len command) ≡ true → IsTrue (needs_file (history_of p.steps) config command)
needs_one config table pool t p command ranges small moves = by (record_of command 0) refl where
  by : (o : Option Record) → record_of command 0 ≡ o → IsTrue (needs_file (history_of p.steps) config command)
  by None here = absurd (let e : false ≡ true = sym (ap (λ (o : Option Record). passes config.file_size (end_of_tail t) (option_map len_of o)) here) ∙ moves in cc)
  by (Some rec) here =
      let passed : ltb config.file_size (end_of_tail t + len_of rec) ≡ true = sym (ap (λ (o : Option Record). passes config.file_size (end_of_tail t) (option_map len_of o)) here) ∙ moves in
      let long : config.file_size < end_of_tail t + len_of rec = ltb-true _ _ passed in
      let short : len_of rec ≤ limit config = within_limit config command (len_of rec) small (ap (option_map len_of) here) in
      let some : p.items ≡ [] → ⊥ = λ e. omega (arith, long, short, tail_end config table pool t p, ap (end_from 2 16) e, ranges.file_size_least) in
      let at : end_of (history_of p.steps) ≡ end_of_tail t = ap end_of p.placed ∙ end_records p.closed t.file p.items some ∙ sym (tail_end config table pool t p) in
      rw (here, needs_file) (ap (λ (n : ℕ). ltb config.file_size (n + len_of rec)) at ∙ passed)

-- one step more
spent_more : (before steps : List Step) (x : Step) → AreSpentAtLast before steps → IsSpentAtLast (before ++ steps) x → AreSpentAtLast before (steps ++ x ∷ [])
spent_more before [] x are one = (subst (λ (ss : List Step). IsSpentAtLast ss x) (append-nil before) one, tt)
spent_more before (s ∷ ss) x are one = (are.0, spent_more (before ++ s ∷ []) ss x are.1 (subst (λ (qs : List Step). IsSpentAtLast qs x) (sym (append_assoc before (s ∷ []) ss)) one))

module _ (past : Option Past) (config : Config) (table : TxState) (pool : PoolOf) (t : Tail) (command : Command) (seat number : ℕ) where
  module _ (lists : Option Lists) (room : ℕ) (s : IsSound past lists room config table pool t) (known : refusal_in table command ≡ refusal_of s.parts.base s.parts.steps command) where
    abbrev history : List Placed
    history = records s.parts.closed t.file s.parts.items

    appends : t.appended ≡ length (history_of s.parts.steps)
    appends = s.parts.count ∙ ap (λ (n : ℕ). length (records_of s.parts.closed) + n) (sym (length-placed t.file.id s.parts.items)) ∙ sym (length-append (records_of s.parts.closed) _) ∙ ap length (sym s.parts.placed)

    -- the steps with this one more
    legal_more : (x : Step) → IsLegalStep s.parts.base s.parts.steps config x → AreLegalFrom s.parts.base config [] (s.parts.steps ++ x ∷ [])
    legal_more x one = legal_from s.parts.base config [] s.parts.steps x s.parts.each one

    -- a step that appends nothing
    parts_bare : (table' : TxState) (x : Step) → x.placed ≡ None → IsLegalStep s.parts.base s.parts.steps config x → Follows table' s.parts.base (s.parts.steps ++ x ∷ []) → Parts config table' pool t
    parts_bare table' x bare one follows = record {
      base = s.parts.base;
      old = s.parts.old;
      closed = s.parts.closed;
      items = s.parts.items;
      sure = s.parts.sure;
      steps = s.parts.steps ++ x ∷ [];
      based = s.parts.based;
      new = s.parts.new;
      placed = history-snoc s.parts.steps x ∙ ap (λ (o : Option Placed). history_of s.parts.steps ++ cons_option o []) bare ∙ append-nil (history_of s.parts.steps) ∙ s.parts.placed;
      each = legal_more x one;
      follows = follows;
      same_config = s.parts.same_config;
      pool_is = s.parts.pool_is;
      listed = s.parts.listed;
      numbers = s.parts.numbers;
      behind = s.parts.behind;
      few = s.parts.few;
      capacity = s.parts.capacity;
      timeout = s.parts.timeout;
      first = s.parts.first;
      some = s.parts.some;
      durable = s.parts.durable;
      count = s.parts.count;
      buffered = s.parts.buffered;
      place = s.parts.place;
      fits = s.parts.fits;
    }

    told_bare : (x : Step) (l : Lists) → IsTold past config.user_version s.parts.base t.durable history s.parts.steps l → IsTold past config.user_version s.parts.base t.durable history (s.parts.steps ++ x ∷ []) (with_step x l)
    told_bare x l told = record { base = told.base; same = ap (λ (ss : List Step). ss ++ x ∷ []) told.same; kept = told.kept }

    -- a step that appends nothing was noted
    with_bare : (lists' : Option Lists) (room' : ℕ) (table' : TxState) (x : Step) → x.placed ≡ None → IsLegalStep s.parts.base s.parts.steps config x → Follows table' s.parts.base (s.parts.steps ++ x ∷ []) → lists' ≡ option_map (with_step x) lists → ((t.buffer.bytes ≡ [] → ⊥) → 1 ≤ room') → IsSound past lists' room' config table' pool t
    unfolding parts_bare
    with_bare lists' room' table' x bare one follows noted more = record {
      parts = parts_bare table' x bare one follows;
      reads_now = s.reads_now;
      room = more;
      told = subst (λ (l : Option Lists). IfSome l (IsTold past config.user_version s.parts.base t.durable history (s.parts.steps ++ x ∷ []))) (sym noted)
          (if_mapped (IsTold past config.user_version s.parts.base t.durable history s.parts.steps) (IsTold past config.user_version s.parts.base t.durable history (s.parts.steps ++ x ∷ [])) (with_step x) lists (told_bare x) s.told);
    }

    -- what refuses the command is the answer of the journal of one thread, or that the numbers of files are spent
    answers_refused : IsConfig config → (r : Refusal) → refused config (refusal_in table command) (spent (passes config.file_size (end_of_tail t) (record_len command)) pool.highest (ids_of pool.prepared)) command ≡ Some r → IsAnswered s.parts.base s.parts.steps config command (Refused r)
    answers_refused ranges r is =
        answered_some s.parts.base s.parts.steps config command (refusal_in table command) (spent (passes config.file_size (end_of_tail t) (record_len command)) pool.highest (ids_of pool.prepared)) r known is
        (λ small by_numbers. by (passes config.file_size (end_of_tail t) (record_len command)) (ids_of pool.prepared) (leb (2 ^ 31 - 1) pool.highest) refl refl small by_numbers)
      where
        by : (m : Bool) (ids : List ℕ) (b : Bool) → passes config.file_size (end_of_tail t) (record_len command) ≡ m → leb (2 ^ 31 - 1) pool.highest ≡ b → too_large config command ≡ None → spent m pool.highest ids ≡ Some r
            → (r ≡ FileIdsSpent (2 ^ 31 - 1)) × IsTrue (needs_file (history_of s.parts.steps) config command)
        by m (x ∷ xs) b moves high small told = absurd cc
        by false [] b moves high small told = absurd cc
        by true [] false moves high small told = absurd (let e : None ≡ Some r = sym (ap (λ (k : Bool). cond k (Some (FileIdsSpent pool.highest)) None) high) ∙ told in cc)
        by true [] true moves high small told =
            let e : Some (FileIdsSpent pool.highest) ≡ Some r = sym (ap (λ (k : Bool). cond k (Some (FileIdsSpent pool.highest)) None) high) ∙ told in
            let top : pool.highest ≡ 2 ^ 31 - 1 = omega (arith, leb-true _ _ high, s.parts.numbers) in
            let same : FileIdsSpent pool.highest ≡ r = cc in
            (sym same ∙ ap (λ (n : ℕ). FileIdsSpent n) top, needs_one config table pool t s.parts command ranges small moves)

    -- the command was refused
    sound_refused : IsConfig config → (lists' : Option Lists) (room' : ℕ) (r : Refusal) → refused config (refusal_in table command) (spent (passes config.file_size (end_of_tail t) (record_len command)) pool.highest (ids_of pool.prepared)) command ≡ Some r
        → lists' ≡ option_map (with_step (record { seat = seat; number = number; command = command; answer = Refused r; placed = None })) lists → room ≤ room' → IsSound past lists' room' config table pool t
    sound_refused ranges lists' room' r is noted more =
        let x : Step = record { seat = seat; number = number; command = command; answer = Refused r; placed = None } in
        with_bare lists' room' table x refl (record { answered = answers_refused ranges r is; placed = refl })
        (refused_follows table s.parts.base s.parts.steps x r s.parts.follows refl refl) noted (λ some. omega (arith, s.room some, more))

    module _ (by_numbers : Option Refusal) (none : refused config (refusal_in table command) by_numbers command ≡ None) where
      accepted_so : IsAnswered s.parts.base s.parts.steps config command (Done (reply_behind s.parts.base s.parts.steps command))
      accepted_so = answered_none s.parts.base s.parts.steps config command (refusal_in table command) by_numbers known none

      -- a command without a record was accepted
      sound_bare : (lists' : Option Lists) (room' : ℕ) (table' : TxState) (given : Option ℕ) → record_of command 0 ≡ None → given ≡ number_of_begin s.parts.base s.parts.steps command → (given ≡ None → t.durable ≡ t.appended)
          → ((x : Step) → IsAccepted s.parts.base s.parts.steps command t.file.id x → Follows table' s.parts.base (s.parts.steps ++ x ∷ [])) → lists' ≡ option_map (with_step (record { seat = seat; number = number; command = command; answer = Done (bare_reply t.durable given); placed = None })) lists → 1 ≤ room' → IsSound past lists' room' config table' pool t
      sound_bare lists' room' table' given is told all goes noted more =
          let reply : Reply = bare_reply t.durable given in
          let x : Step = record { seat = seat; number = number; command = command; answer = Done reply; placed = None } in
          let replied : reply ≡ reply_behind s.parts.base s.parts.steps command = reply_bare s.parts.base s.parts.steps command given reply t.durable told is (λ e. all e ∙ appends) refl in
          with_bare lists' room' table' x refl
          (record { answered = subst (λ (r : Reply). IsAnswered s.parts.base s.parts.steps config command (Done r)) (sym replied) accepted_so; placed = is })
          (goes x (record { is = refl; answered = ap (λ (reply : Reply). Done reply) replied ∙ sym (accepted_is s.parts.base s.parts.steps command); placed = is })) noted (λ some. more)

      -- the record was put into the buffer
      sound_accepted : (lists' : Option Lists) (room' now : ℕ) (table' : TxState) (given : Option ℕ) (rec : Record) → record_of command (number_for (s.parts.base ++ history_of s.parts.steps) command t.file.id) ≡ Some rec → end_of_tail t + len_of rec ≤ config.file_size → IsRecord rec
          → ((x : Step) → IsAccepted s.parts.base s.parts.steps command t.file.id x → Follows table' s.parts.base (s.parts.steps ++ x ∷ [])) → lists' ≡ option_map (with_step (record { seat = seat; number = number; command = command; answer = Done (Appended t.appended); placed = Some (placed_behind t rec) })) lists
          → 1 ≤ room' → IsSound past lists' room' config table' pool (with_put now (Some rec) t)
      sound_accepted lists' room' now table' given rec is it_fits values goes noted more =
          let p = s.parts in
          let item : Item = record { compact = 0; rec = rec } in
          let x : Step = record { seat = seat; number = number; command = command; answer = Done (Appended t.appended); placed = Some (placed_behind t rec) } in
          let items' : List Item = p.items ++ item ∷ [] in
          let history' : List Placed = records p.closed t.file items' in
          let grown : history' ≡ history ++ behind t.file.id p.items item ∷ [] = records-snoc p.closed t.file p.items item in
          let stood_is : placed_behind t rec ≡ behind t.file.id p.items item = ap (λ (n : ℕ). record { file = t.file.id; place = n; compact = 0; rec = rec }) (tail_end config table pool t p) in
          let replied : Appended t.appended ≡ reply_behind p.base p.steps command = reply_appended p.base p.steps command given rec t.appended _ is appends in
          let stands : StandsNext p.base (history_of p.steps) (placed_behind t rec) =
          subst (λ (ps : List Placed). StandsNext p.base ps (placed_behind t rec)) (sym p.placed)
          (subst (λ (q : Placed). StandsNext p.base history q) (sym stood_is) (stands_next p.base p.closed t.file p.items item (base_below config table pool t p) (closed_ids pool.highest p.old p.closed t.file pool.prepared p.listed))) in
          let legal : IsLegalStep p.base p.steps config x = record { answered = subst (λ (r : Reply). IsAnswered p.base p.steps config command (Done r)) (sym replied) accepted_so; placed = (is, refl, it_fits, stands) } in
          record {
            parts = record {
              base = p.base;
              old = p.old;
              closed = p.closed;
              items = items';
              sure = p.sure;
              steps = p.steps ++ x ∷ [];
              based = p.based;
              new = All-push IsNewItem p.items item p.new (record { item = record { values = values; small = (omega arith, λ e. refl) }; first = refl });
              placed = history-snoc p.steps x ∙ ap (λ (ps : List Placed). ps ++ placed_behind t rec ∷ []) p.placed ∙ ap (λ (q : Placed). history ++ q ∷ []) stood_is ∙ sym grown;
              each = legal_more x legal;
              follows = goes x (record { is = refl; answered = ap (λ (reply : Reply). Done reply) replied ∙ sym (accepted_is p.base p.steps command); placed = (is, refl) });
              same_config = p.same_config;
              pool_is = p.pool_is;
              listed = p.listed;
              numbers = p.numbers;
              behind = p.behind;
              few = p.few;
              capacity = p.capacity;
              timeout = p.timeout;
              first = (λ e. absurd (some_begun now t.buffer.since e), λ e. absurd (some_spelled rec t.buffer.bytes e));
              some = omega (arith, p.some, length-append p.items (item ∷ []));
              durable = p.durable;
              count = omega (arith, p.count, length-append p.items (item ∷ []));
              buffered = ap (λ (l : List ℕ). l ++ spelling 2 t.file.id 0 rec) p.buffered ∙ text_grows t.file.id p.sure p.items item p.some;
              place = p.place ∙ ap (end_from 2 16) (sym (take-append-le p.sure p.items (item ∷ []) p.some));
              fits = omega (arith, it_fits, length-append t.buffer.bytes (spelling 2 t.file.id 0 rec), length_spelling 2 t.file.id 0 rec);
            };
            reads_now = reads_weaker (StandsNow config (p.old ++ p.closed) t.file p.sure p.items pool.highest pool.prepared) (StandsNow config (p.old ++ p.closed) t.file p.sure items' pool.highest pool.prepared) past
                (λ f stood. grows_stand config (p.old ++ p.closed) t.file p.sure p.items pool.highest pool.prepared item p.some f stood) s.reads_now;
            room = λ some. more;
            told = subst (λ (l : Option Lists). IfSome l (IsTold past config.user_version s.parts.base t.durable history' (p.steps ++ x ∷ []))) (sym noted)
                (if_mapped (IsTold past config.user_version s.parts.base t.durable history p.steps) (IsTold past config.user_version s.parts.base t.durable history' (p.steps ++ x ∷ [])) (with_step x) lists
                (λ l told. record {
                  base = told.base;
                  same = ap (λ (ss : List Step). ss ++ x ∷ []) told.same;
                  kept = subst (λ (h : List Placed). AreKept past config.user_version p.base t.durable h l.receipts) (sym grown) (kept_grows config.user_version p.base t.durable history (behind t.file.id p.items item ∷ []) l.receipts past told.kept);
                }) s.told);
          }
        where
          some_begun : (now : ℕ) (since : Option ℕ) → begun now since ≡ None → ⊥
          some_begun now None e = cc
          some_begun now (Some first) e = cc

          some_spelled : (rec : Record) (bytes : List ℕ) → bytes ++ spelling 2 t.file.id 0 rec ≡ [] → ⊥
          some_spelled rec bytes e = omega (arith, ap length e, length-append bytes (spelling 2 t.file.id 0 rec), length_spelling 2 t.file.id 0 rec, whole_len-pos 2 rec)

  -- the command was refused, and the step noted
  pub valid_refused : (stage stage' : Stage) (moment : ℕ) (lists lists' : Option Lists) (room room' : ℕ) (r : Refusal) (v : IsValid stage past moment lists room config table pool t) → refusal_in table command ≡ refusal_of v.sound.parts.base v.sound.parts.steps command
      → refused config (refusal_in table command) (spent (passes config.file_size (end_of_tail t) (record_len command)) pool.highest (ids_of pool.prepared)) command ≡ Some r
      → HasOpened stage' v.sound.parts.base (v.sound.parts.steps ++ record { seat = seat; number = number; command = command; answer = Refused r; placed = None } ∷ []) → IsSpentAtLast v.sound.parts.steps (record { seat = seat; number = number; command = command; answer = Refused r; placed = None })
      → lists' ≡ option_map (with_step (record { seat = seat; number = number; command = command; answer = Refused r; placed = None })) lists → room ≤ room' → IsValid stage' past moment lists' room' config table pool t
  unfolding sound_refused with_bare parts_bare
  valid_refused stage stage' moment lists lists' room room' r v known is opening at_last noted more = record {
    sound = sound_refused lists room v.sound known v.ranges lists' room' r is noted more;
    ranges = v.ranges;
    opening = opening;
    spent = spent_more [] v.sound.parts.steps (record { seat = seat; number = number; command = command; answer = Refused r; placed = None }) v.spent at_last;
    order = told_stepped (λ l. AreInOrder moment l.receipts) _ (λ l order. order) lists lists' noted v.order;
    last = told_stepped (λ l. IsLastCount t.durable l.receipts) _ (λ l last. last) lists lists' noted v.last;
  }

  -- The command was accepted, the tail made ready, and the step noted. What the opening's steps are behind it is given.
  pub valid_accepted : (stage stage' : Stage) (moment : ℕ) (lists lists' : Option Lists) (room room' now : ℕ) (table' : TxState) (given : Option ℕ) (rec : Option Record) (by_numbers : Option Refusal) (v : IsValid stage past moment lists room config table pool t)
      → refusal_in table command ≡ refusal_of v.sound.parts.base v.sound.parts.steps command → refused config (refusal_in table command) by_numbers command ≡ None
      → rec ≡ record_of command (number_for (v.sound.parts.base ++ history_of v.sound.parts.steps) command t.file.id) → given ≡ number_of_begin v.sound.parts.base v.sound.parts.steps command → IfSome rec (λ rec. IsRecord rec) → IfSome rec (λ rec. end_of_tail t + len_of rec ≤ config.file_size)
      → (rec ≡ None → given ≡ None → t.buffer.bytes ≡ []) → ((x : Step) → IsAccepted v.sound.parts.base v.sound.parts.steps command t.file.id x → Follows table' v.sound.parts.base (v.sound.parts.steps ++ x ∷ []))
      → HasOpened stage' v.sound.parts.base (v.sound.parts.steps ++ record { seat = seat; number = number; command = command; answer = Done (reply_of t given rec); placed = option_map (placed_behind t) rec } ∷ [])
      → lists' ≡ option_map (with_step (record { seat = seat; number = number; command = command; answer = Done (reply_of t given rec); placed = option_map (placed_behind t) rec })) lists → 1 ≤ room' → IsValid stage' past moment lists' room' config table' pool (with_put now rec t)
  unfolding sound_bare sound_accepted with_bare parts_bare
  valid_accepted stage stage' moment lists lists' room room' now table' given None by_numbers v known none is told values fits empty goes opening noted more = record {
    sound = sound_bare lists room v.sound known by_numbers none lists' room' table' given (no_record command _ (sym is)) told (λ e. all_durable config table pool t v.sound.parts (empty refl e)) goes noted more;
    ranges = v.ranges;
    opening = opening;
    spent = spent_more [] v.sound.parts.steps _ v.spent tt;
    order = told_stepped (λ l. AreInOrder moment l.receipts) _ (λ l order. order) lists lists' noted v.order;
    last = told_stepped (λ l. IsLastCount t.durable l.receipts) _ (λ l last. last) lists lists' noted v.last;
  }
  valid_accepted stage stage' moment lists lists' room room' now table' given (Some rec) by_numbers v known none is told values fits empty goes opening noted more = record {
    sound = sound_accepted lists room v.sound known by_numbers none lists' room' now table' given rec (sym is) fits values goes noted more;
    ranges = v.ranges;
    opening = opening;
    spent = spent_more [] v.sound.parts.steps _ v.spent tt;
    order = told_stepped (λ l. AreInOrder moment l.receipts) _ (λ l order. order) lists lists' noted v.order;
    last = told_stepped (λ l. IsLastCount t.durable l.receipts) _ (λ l last. last) lists lists' noted v.last;
  }

-- ---- counts

-- there are few enough appends to count
pub few_appends : (config : Config) (table : TxState) (pool : PoolOf) (t : Tail) → IsConfig config → Parts config table pool t → t.appended < 2 ^ 64 - 1
few_appends config table pool t ranges p =
    omega (arith, few_records p.items, tail_end config table pool t p, p.fits, ranges.file_size_most, p.count, p.few, used_id pool.highest (p.old ++ p.closed) t.file pool.prepared p.listed, p.numbers)

-- the file in use has a number of 31 bits
pub small_id : (config : Config) (table : TxState) (pool : PoolOf) (t : Tail) → Parts config table pool t → t.file.id < 2 ^ 31
small_id config table pool t p = omega (arith, used_id pool.highest (p.old ++ p.closed) t.file pool.prepared p.listed, p.numbers)

-- what clauses say of the chronicle
pub valid_chronicle : (past : Option Past) (moment : ℕ) (lists : Option Lists) (room : ℕ) (config : Config) (table : TxState) (pool : PoolOf) (t : Tail) → IsValid opened past moment lists room config table pool t → IfSome lists (IsChronicle past moment config t.appended t.durable)
valid_chronicle past moment None room config table pool t v = tt
valid_chronicle past moment (Some l) room config table pool t v =
    let p = v.sound.parts in
    record {
      legal = subst (λ (b : List Placed). AreLegal b l.steps config) (sym v.sound.told.base) (subst (λ (ss : List Step). AreLegal p.base ss config) (sym v.sound.told.same) (record { each = p.each; opening = v.opening.0 }));
      rolled = subst (λ (b : List Placed). AreAppended (length (rolled_back b)) l.steps) (sym v.sound.told.base) (subst (λ (ss : List Step). AreAppended (length (rolled_back p.base)) ss) (sym v.sound.told.same) v.opening.1);
      history = p.count ∙ ap (λ (n : ℕ). length (records_of p.closed) + n) (sym (length-placed t.file.id p.items)) ∙ sym (length-append (records_of p.closed) _) ∙ ap length (sym p.placed) ∙ ap (λ (ss : List Step). length (history_of ss)) (sym v.sound.told.same);
      crash_safe = valid_safe opened past moment (Some l) room config table pool t v;
      last = v.last;
      spent = subst (λ (ss : List Step). AreSpentAtLast [] ss) (sym v.sound.told.same) v.spent;
    }

open_few : (id tx : ℕ) (l : List Placed) → count_by (λ p. eqb p.file id) (open_changes tx l) ≤ count_by (λ p. eqb p.file id) l
open_few id tx [] = omega arith
open_few id tx (p ∷ ps) = by (changes tx p && not (list_any (ends tx) ps)) (open_few id tx ps) where
  by : (b : Bool) → count_by (λ p. eqb p.file id) (open_changes tx ps) ≤ count_by (λ p. eqb p.file id) ps → count_by (λ p. eqb p.file id) (cond b (p ∷ open_changes tx ps) (open_changes tx ps)) ≤ count_by (λ p. eqb p.file id) (p ∷ ps)
  by true rest = omega (arith, rest, sum_by-cons (λ p. cond (eqb p.file id) 1 0) p (open_changes tx ps), sum_by-cons (λ p. cond (eqb p.file id) 1 0) p ps)
  by false rest = omega (arith, rest, sum_by-cons (λ p. cond (eqb p.file id) 1 0) p ps)

not_same : (a b : ℕ) → a < b → eqb a b ≡ false
not_same a b lt = grind arith

-- records of lesser files don't count
count_behind : (id : ℕ) (xs ys : List Placed) → All (λ p. p.file < id) xs → count_by (λ p. eqb p.file id) (xs ++ ys) ≤ length ys
count_behind id [] ys below = count_by-le-length (λ p. eqb p.file id) ys
count_behind id (x ∷ xs) ys below =
    omega (arith, sum_by-cons (λ p. cond (eqb p.file id) 1 0) x (xs ++ ys), ap {B = ℕ} (λ (b : Bool). cond b 1 0) (not_same x.file id (All-head (λ p. p.file < id) x xs below)), count_behind id xs ys (All-tail (λ p. p.file < id) x xs below))

turn_fits : (config : Config) (table : TxState) (pool : PoolOf) (t : Tail) (tx : ℕ) → IsConfig config → Parts config table pool t → count_of (table.turns tx) t.file.id < 2 ^ 32 - 1
turn_fits config table pool t tx ranges p =
    let id = t.file.id in
    let before : List Placed = p.base ++ records_of p.closed in
    let all : p.base ++ history_of p.steps ≡ before ++ placed_in id p.items = ap (λ (l : List Placed). p.base ++ l) p.placed ∙ sym (append_assoc p.base (records_of p.closed) (placed_in id p.items)) in
    let below : All (λ q. q.file < id) before = All-append (λ q. q.file < id) p.base (records_of p.closed) (base_below config table pool t p) (closed_ids pool.highest p.old p.closed t.file pool.prepared p.listed) in
    let few = count_behind id before (placed_in id p.items) below in
    omega (arith, p.follows.counts tx id (base_below config table pool t p), open_few id tx (p.base ++ history_of p.steps), ap (λ (l : List Placed). count_by (λ q. eqb q.file id) l) all, few, length-placed id p.items, few_records p.items, tail_end config table pool t p, p.fits, ranges.file_size_most)

-- the count of the command's transaction may rise
pub count_fits : (config : Config) (table : TxState) (pool : PoolOf) (t : Tail) (command : Command) → IsConfig config → Parts config table pool t → CountFits table command t.file.id
count_fits config table pool t c.Begin ranges p = tt
count_fits config table pool t c.Flush ranges p = tt
count_fits config table pool t (c.Add id user_type body) ranges p = tt
count_fits config table pool t (c.Update id user_type body) ranges p = tt
count_fits config table pool t (c.Delete id) ranges p = tt
count_fits config table pool t (c.AddTx tx id user_type body) ranges p = turn_fits config table pool t tx ranges p
count_fits config table pool t (c.UpdateTx tx id user_type body) ranges p = turn_fits config table pool t tx ranges p
count_fits config table pool t (c.DeleteTx tx id body) ranges p = turn_fits config table pool t tx ranges p
count_fits config table pool t (c.Prepare tx extra) ranges p = turn_fits config table pool t tx ranges p
count_fits config table pool t (c.Commit tx) ranges p = turn_fits config table pool t tx ranges p
count_fits config table pool t (c.Rollback tx) ranges p = turn_fits config table pool t tx ranges p

-- with the same lists, and room at least as much
pub valid_room : (stage : Stage) (past : Option Past) (moment : ℕ) (lists lists' : Option Lists) (room room' : ℕ) (config : Config) (table : TxState) (pool : PoolOf) (t : Tail) → lists' ≡ lists → room ≤ room' → IsValid stage past moment lists room config table pool t → IsValid stage past moment lists' room' config table pool t
unfolding sound_room
valid_room stage past moment lists lists' room room' config table pool t same more v = record {
  sound = sound_room past lists lists' room room' config table pool t same more v.sound;
  ranges = v.ranges;
  opening = v.opening;
  order = subst (λ (l : Option Lists). IfSome l (λ l. AreInOrder moment l.receipts)) (sym same) v.order;
  spent = v.spent;
  last = subst (λ (l : Option Lists). IfSome l (λ l. IsLastCount t.durable l.receipts)) (sym same) v.last;
}
