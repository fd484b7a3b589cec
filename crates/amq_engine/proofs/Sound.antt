-- What is always so of an engine, through the calls that put bytes.
use Rattle.std.proofs.Common.{◌≡◌, inl, inr, ℕ, ◌<◌, ◌≤◌, refl, List, [], ◌++◌, length, drop, Option, sym, ap, subst, ◌∙◌, arith}
use Rattle.std.specs.Prelude.{IfSome, option_map}
use Rattle.std.proofs.lemmas.Bool.{cases_lt}
use Rattle.std.proofs.lemmas.List.{drop_all, take_all, length-drop}
use Rattle.amq_model.specs.declared.config.Config.{Config}
use Rattle.amq_model.specs.declared.record.Placed.{Placed}
use Rattle.amq_model.specs.Configs.{IsConfig}
use Rattle.amq_model.specs.Calls.{Past}
use Rattle.amq_model.specs.Files.{Files}
use Rattle.amq_model.specs.Leaves.{Leaves, AllReads, Told, IsThere, IsWithin, IsAt}
use Rattle.amq_model.proofs.Keeping.{reads_on, holds_now, kept_weaker}
use Rattle.amq_scan.specs.Written.{spelled, end_from}
use Rattle.amq_tx.specs.State.{TxState}
use Rattle.amq_pool.specs.Pools.{PoolOf}
use Rattle.amq_engine.specs.Lists.{Lists, with_receipt}
use Rattle.amq_engine.specs.Directory.{StandsNow}
use Rattle.amq_engine.specs.Puts.{Puts, Put}
use Rattle.amq_engine.specs.declared.tail.Tail.{Tail}
use Rattle.amq_engine.specs.Engine.{Holds, IsTold, Parts, IsSound, records, emptied, end_of_tail}
use Rattle.amq_engine.proofs.History.{spelled_some}
use Rattle.amq_engine.proofs.Texts.{end_whole}
use Rattle.amq_engine.proofs.Standing.{puts_stand, put_stands, stand_there, stand_within}
use Rattle.amq_engine.proofs.Holding.{stands_now_holds}
use Rattle.amq_engine.proofs.Receipts.{if_some, if_mapped, kept_through, kept_push}

-- where bytes wait, not all is durable
pub some_wait : (config : Config) (table : TxState) (pool : PoolOf) (t : Tail) (p : Parts config table pool t) → (t.buffer.bytes ≡ [] → ⊥) → p.sure < length p.items
some_wait config table pool t p waits =
    elim (cases_lt p.sure (length p.items)) [
      | inl lt ↦ lt
      | inr ge ↦ absurd (waits (p.buffered ∙ ap (spelled 2 t.file.id) (drop_all p.sure p.items ge)))
    ]

-- an empty buffer: all is durable
pub none_wait : (config : Config) (table : TxState) (pool : PoolOf) (t : Tail) (p : Parts config table pool t) → t.buffer.bytes ≡ [] → p.sure ≡ length p.items
none_wait config table pool t p none =
    let rest : drop p.sure p.items ≡ [] = spelled_some t.file.id (drop p.sure p.items) (sym p.buffered ∙ none) in
    omega (arith, p.some, ap length rest, length-drop p.sure p.items)

pub all_durable : (config : Config) (table : TxState) (pool : PoolOf) (t : Tail) (p : Parts config table pool t) → t.buffer.bytes ≡ [] → t.durable ≡ t.appended
all_durable config table pool t p none = omega (arith, p.durable, p.count, none_wait config table pool t p none)

-- the tail behind a put that answered Ok
abbrev pub put_out : Tail → Tail
put_out t = record { file = t.file; buffer = emptied t.buffer; end = end_of_tail t; appended = t.appended; durable = t.appended }

unfoldable pub parts_put : (config : Config) (table : TxState) (pool : PoolOf) (t : Tail) → Parts config table pool t → Parts config table pool (put_out t)
parts_put config table pool t p = record {
  base = p.base;
  old = p.old;
  closed = p.closed;
  items = p.items;
  sure = length p.items;
  steps = p.steps;
  based = p.based;
  new = p.new;
  placed = p.placed;
  each = p.each;
  follows = p.follows;
  same_config = p.same_config;
  pool_is = p.pool_is;
  listed = p.listed;
  numbers = p.numbers;
  behind = p.behind;
  few = p.few;
  capacity = p.capacity;
  timeout = p.timeout;
  first = (λ e. refl, λ e. refl);
  some = omega arith;
  durable = p.count;
  count = p.count;
  buffered = sym (ap (spelled 2 t.file.id) (drop_all (length p.items) p.items (omega arith)));
  place = end_whole t.file.id p.sure t.end p.items t.buffer.bytes p.place p.buffered ∙ ap (end_from 2 16) (sym (take_all (length p.items) p.items (omega arith)));
  fits = omega (arith, p.fits);
}

module _ (a b : Option Past) (lists : Option Lists) (room : ℕ) (config : Config) (table : TxState) (pool : PoolOf) (t : Tail) (ranges : IsConfig config) (s : IsSound a lists room config table pool t) (waits : t.buffer.bytes ≡ [] → ⊥) where
  abbrev p : Parts config table pool t
  p = s.parts

  abbrev Now : Files → Type 0
  Now = StandsNow config (s.parts.old ++ s.parts.closed) t.file s.parts.sure s.parts.items pool.highest pool.prepared

  abbrev Then : Files → Type 0
  Then = StandsNow config (s.parts.old ++ s.parts.closed) t.file (length s.parts.items) s.parts.items pool.highest pool.prepared

  abbrev I : Files → Files → Type 0
  I = Puts t.file.name t.end t.buffer.bytes

  abbrev history : List Placed
  history = records s.parts.closed t.file s.parts.items

  pub inside : (o f : Files) → Now o → I o f → Now f
  inside o f was puts = puts_stand config (s.parts.old ++ s.parts.closed) t.file s.parts.sure s.parts.items pool.highest pool.prepared t.end t.buffer.bytes ranges s.parts.place s.parts.buffered (some_wait config table pool t s.parts waits) s.parts.fits s.parts.listed o f was puts

  pub at_end : (o f : Files) → Now o → Put t.file.name t.end t.buffer.bytes o f → Then f
  at_end o f was puts = put_stands config (s.parts.old ++ s.parts.closed) t.file s.parts.sure s.parts.items pool.highest pool.prepared t.end t.buffer.bytes ranges s.parts.place s.parts.buffered (some_wait config table pool t s.parts waits) s.parts.fits s.parts.listed o f was puts

  held : (d : ℕ) → d ≤ t.durable → (o f : Files) → Now o → I o f → Holds config.user_version s.parts.base d history f
  held d le o f was puts = stands_now_holds config s.parts.old s.parts.closed t.file s.parts.sure s.parts.items pool.highest pool.prepared s.parts.base f d ranges s.parts.new s.parts.some s.parts.numbers s.parts.listed s.parts.based (omega (arith, le, s.parts.durable)) (inside o f was puts)

  pub still_told : (E : Files → Files → Type 0) → Leaves I E a b → (l : Lists) → IsTold a config.user_version s.parts.base t.durable history s.parts.steps l → IsTold b config.user_version s.parts.base t.durable history s.parts.steps l
  still_told E leaves l told = record {
    base = told.base;
    same = told.same;
    kept = kept_through I E Now config.user_version s.parts.base t.durable history l.receipts a b told.kept s.reads_now held leaves;
  }

  -- after a put that failed
  unfoldable pub sound_failed : Leaves (Puts t.file.name t.end t.buffer.bytes) (Puts t.file.name t.end t.buffer.bytes) a b → IsSound b lists room config table pool t
  sound_failed leaves = record {
    parts = s.parts;
    reads_now = reads_on I I Now Now a b s.reads_now inside leaves;
    room = s.room;
    told = if_some (IsTold a config.user_version s.parts.base t.durable history s.parts.steps) (IsTold b config.user_version s.parts.base t.durable history s.parts.steps) lists (still_told I leaves) s.told;
  }

  -- after a put, and its receipt
  unfoldable pub sound_put : (lists' : Option Lists) (room' m : ℕ) → Leaves (Puts t.file.name t.end t.buffer.bytes) (Put t.file.name t.end t.buffer.bytes) a b → IfSome b (IsAt m) → lists' ≡ option_map (with_receipt t.appended m) lists → IsSound b lists' room' config table pool (put_out t)
  unfolding parts_put
  sound_put lists' room' m leaves moment noted =
      let now : AllReads b Then = reads_on I (Put t.file.name t.end t.buffer.bytes) Now Then a b s.reads_now at_end leaves in
      let all : (f : Files) → Then f → Holds config.user_version s.parts.base t.appended history f =
      λ f stands. stands_now_holds config s.parts.old s.parts.closed t.file (length s.parts.items) s.parts.items pool.highest pool.prepared s.parts.base f t.appended ranges s.parts.new (omega arith) s.parts.numbers s.parts.listed s.parts.based (omega (arith, s.parts.count)) stands in
      let told : IfSome (option_map (with_receipt t.appended m) lists) (IsTold b config.user_version s.parts.base t.appended history s.parts.steps) =
      if_mapped (IsTold a config.user_version s.parts.base t.durable history s.parts.steps) (IsTold b config.user_version s.parts.base t.appended history s.parts.steps) (with_receipt t.appended m) lists
      (λ l told.
      let still = still_told (Put t.file.name t.end t.buffer.bytes) leaves l told in
      record {
        base = still.base;
        same = still.same;
        kept = kept_push config.user_version s.parts.base t.durable t.appended history l.receipts t.appended m (length l.steps) b (omega (arith, s.parts.durable, s.parts.count, s.parts.some)) (omega arith) still.kept
            (λ early. kept_weaker Then (Holds config.user_version s.parts.base t.appended history) m b all (holds_now Then m b moment early now));
      }) s.told in
      record {
        parts = parts_put config table pool t s.parts;
        reads_now = now;
        room = λ some. absurd (some refl);
        told = subst (λ (l : Option Lists). IfSome l (IsTold b config.user_version s.parts.base t.appended history s.parts.steps)) (sym noted) told;
      }

-- with the same lists, and room at least as much
unfoldable pub sound_room : (past : Option Past) (lists lists' : Option Lists) (room room' : ℕ) (config : Config) (table : TxState) (pool : PoolOf) (t : Tail) → lists' ≡ lists → room ≤ room' → IsSound past lists room config table pool t → IsSound past lists' room' config table pool t
sound_room past lists lists' room room' config table pool t same more s = record {
  parts = s.parts;
  reads_now = s.reads_now;
  room = λ some. omega (arith, s.room some, more);
  told = subst (λ (l : Option Lists). IfSome l (IsTold past config.user_version s.parts.base t.durable (records s.parts.closed t.file s.parts.items) s.parts.steps)) (sym same) s.told;
}

-- what the calls of a flush require
pub sound_there : (past : Option Past) (lists : Option Lists) (room : ℕ) (config : Config) (table : TxState) (pool : PoolOf) (t : Tail) → IsSound past lists room config table pool t → Told past (IsThere t.file.name)
sound_there past lists room config table pool t s = stand_there config (s.parts.old ++ s.parts.closed) t.file s.parts.sure s.parts.items pool.highest pool.prepared past s.reads_now

pub sound_within : (past : Option Past) (lists : Option Lists) (room : ℕ) (config : Config) (table : TxState) (pool : PoolOf) (t : Tail) → IsSound past lists room config table pool t → Told past (IsWithin t.file.name (end_of_tail t))
sound_within past lists room config table pool t s = stand_within config (s.parts.old ++ s.parts.closed) t.file s.parts.sure s.parts.items pool.highest pool.prepared (end_of_tail t) past s.parts.fits s.reads_now
