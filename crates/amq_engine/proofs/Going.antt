-- What is always so of an engine, through the preparation of a file, and when the journal goes on to one.
use Rattle.std.proofs.Common.{◌≡◌, inl, ℕ, zero, suc, ◌+◌, ◌<◌, ◌≤◌, ◌-◌, ◌^◌, refl, List, [], ◌∷◌, ◌++◌, length, Option, sym, ap, subst, ◌∙◌, arith, append_assoc}
use Rattle.std.specs.Prelude.{IfSome}
use Rattle.std.proofs.lemmas.List.{append-nil, length-append, map-append}
use Rattle.amq_model.specs.declared.config.Config.{Config}
use Rattle.amq_model.specs.declared.record.Placed.{Placed}
use Rattle.amq_model.specs.Configs.{IsConfig}
use Rattle.amq_model.specs.Calls.{Past}
use Rattle.amq_model.specs.Files.{Files}
use Rattle.amq_model.specs.Leaves.{Leaves, AllReads}
use Rattle.amq_model.proofs.Keeping.{reads_on, reads_weaker}
use Rattle.amq_scan.specs.Written.{Item}
use Rattle.amq_scan.specs.Segments.{Segment, records_in, records_of}
use Rattle.amq_tx.specs.State.{TxState}
use Rattle.amq_pool.specs.declared.pool.PoolFile.{PoolFile}
use Rattle.amq_pool.specs.Pools.{PoolOf, IsPool, ids_of, with_next, with_first, numbered_file, Making, Made}
use Rattle.amq_engine.specs.Lists.{Lists}
use Rattle.amq_engine.specs.Directory.{StandsNow, placed_in, segment, all_files, files_from, AreListed}
use Rattle.amq_engine.specs.declared.tail.Tail.{Tail}
use Rattle.amq_engine.specs.Engine.{Holds, IsTold, Parts, IsSound, Stage, IsValid, records, gone_on, with_files}
use Rattle.amq_engine.proofs.History.{few_records, length-placed}
use Rattle.amq_engine.proofs.Texts.{end_whole}
use Rattle.amq_engine.proofs.Listing.{listed_next, all_files_more, all_files_on, next_id, used_id}
use Rattle.amq_engine.proofs.Standing.{making_stands, made_stands, stands_on}
use Rattle.amq_engine.proofs.Holding.{stands_now_holds}
use Rattle.amq_engine.proofs.Receipts.{if_some, kept_through}
use Rattle.amq_engine.proofs.Recovering.{told_later}
use Rattle.amq_engine.proofs.Sound.{none_wait}

-- ---- the numbers of the prepared files

ids_last : (first n : ℕ) → ids_of (files_from first n) ++ (first + n) ∷ [] ≡ ids_of (files_from first (suc n))
ids_last first zero = ap (λ (k : ℕ). k ∷ []) (omega arith)
ids_last first (suc n) = ap (λ (l : List ℕ). first ∷ l) (ap (λ (k : ℕ). ids_of (files_from (first + 1) n) ++ k ∷ []) (omega arith) ∙ ids_last (first + 1) n)

-- one file more has the next number
behind_more : (pool : PoolOf) (file : ℕ) → file ≤ pool.highest → ids_of pool.prepared ≡ ids_of (files_from (file + 1) (pool.highest - file)) → ids_of (pool.prepared ++ numbered_file (pool.highest + 1) ∷ []) ≡ ids_of (files_from (file + 1) (pool.highest + 1 - file))
behind_more pool file le is =
    let next : pool.highest + 1 ≡ file + 1 + (pool.highest - file) = omega (arith, le) in
    let many : suc (pool.highest - file) ≡ pool.highest + 1 - file = omega (arith, le) in
    map-append (λ (f : PoolFile). f.id) pool.prepared (numbered_file (pool.highest + 1) ∷ [])
    ∙ ap (λ (l : List ℕ). l ++ (pool.highest + 1) ∷ []) is
    ∙ ap (λ (k : ℕ). ids_of (files_from (file + 1) (pool.highest - file)) ++ k ∷ []) next
    ∙ ids_last (file + 1) (pool.highest - file)
    ∙ ap (λ (k : ℕ). ids_of (files_from (file + 1) k)) many

-- the first of them is taken
behind_on : (pool : PoolOf) (file : ℕ) (f : PoolFile) → ids_of (f ∷ pool.prepared) ≡ ids_of (files_from (file + 1) (pool.highest - file)) → ids_of pool.prepared ≡ ids_of (files_from (f.id + 1) (pool.highest - f.id))
behind_on pool file f is = by (pool.highest - file) refl is where
  by : (n : ℕ) → pool.highest - file ≡ n → f.id ∷ ids_of pool.prepared ≡ ids_of (files_from (file + 1) n) → ids_of pool.prepared ≡ ids_of (files_from (f.id + 1) (pool.highest - f.id))
  by zero many is = absurd (let e : f.id ∷ ids_of pool.prepared ≡ [] = is in cc)
  by (suc n) many is =
      let e : f.id ∷ ids_of pool.prepared ≡ (file + 1) ∷ ids_of (files_from (file + 1 + 1) n) = is in
      let first : f.id ≡ file + 1 = cc in
      let rest : ids_of pool.prepared ≡ ids_of (files_from (file + 1 + 1) n) = cc in
      let left : n ≡ pool.highest - f.id = omega (arith, many, first) in
      rest ∙ ap (λ (k : ℕ). ids_of (files_from (k + 1) n)) (sym first) ∙ ap (λ (k : ℕ). ids_of (files_from (f.id + 1) k)) left

-- ---- one file more is prepared

parts_prepared : (config : Config) (table : TxState) (pool : PoolOf) (t : Tail) → pool.highest < 2 ^ 31 - 1 → IsPool (with_next pool) → Parts config table pool t → Parts config table (with_next pool) t
parts_prepared config table pool t low is p =
    let more : all_files (p.old ++ p.closed) t.file (pool.prepared ++ numbered_file (pool.highest + 1) ∷ []) ≡ all_files (p.old ++ p.closed) t.file pool.prepared ++ numbered_file (pool.highest + 1) ∷ [] =
    all_files_more (p.old ++ p.closed) t.file pool.prepared (numbered_file (pool.highest + 1)) in
    record {
      base = p.base;
      old = p.old;
      closed = p.closed;
      items = p.items;
      sure = p.sure;
      steps = p.steps;
      based = p.based;
      new = p.new;
      placed = p.placed;
      each = p.each;
      follows = p.follows;
      same_config = p.same_config;
      pool_is = is;
      listed = subst (AreListed (pool.highest + 1) 0) (sym more) (listed_next pool.highest 0 (all_files (p.old ++ p.closed) t.file pool.prepared) p.listed (omega arith) low);
      numbers = omega (arith, low);
      behind = behind_more pool t.file.id (used_id pool.highest (p.old ++ p.closed) t.file pool.prepared p.listed) p.behind;
      few = p.few;
      capacity = p.capacity;
      timeout = p.timeout;
      first = p.first;
      some = p.some;
      durable = p.durable;
      count = p.count;
      buffered = p.buffered;
      place = p.place;
      fits = p.fits;
    }

module _ (a b : Option Past) (lists : Option Lists) (room : ℕ) (config : Config) (table : TxState) (pool : PoolOf) (t : Tail) (ranges : IsConfig config) (low : pool.highest < 2 ^ 31 - 1) (s : IsSound a lists room config table pool t) where
  abbrev Now : Files → Type 0
  Now = StandsNow config (s.parts.old ++ s.parts.closed) t.file s.parts.sure s.parts.items pool.highest pool.prepared

  abbrev Then : Files → Type 0
  Then = StandsNow config (s.parts.old ++ s.parts.closed) t.file s.parts.sure s.parts.items (pool.highest + 1) (pool.prepared ++ numbered_file (pool.highest + 1) ∷ [])

  abbrev I : Files → Files → Type 0
  I = Making config (pool.highest + 1)

  abbrev history : List Placed
  history = records s.parts.closed t.file s.parts.items

  inside : (o f : Files) → Now o → I o f → Now f
  inside o f was making = making_stands config (s.parts.old ++ s.parts.closed) t.file s.parts.sure s.parts.items pool.highest pool.prepared low s.parts.listed o f was making

  at_end : (o f : Files) → Now o → Made config (pool.highest + 1) o f → Then f
  at_end o f was made = inl (made_stands config (s.parts.old ++ s.parts.closed) t.file s.parts.sure s.parts.items pool.highest pool.prepared low s.parts.listed o f was made)

  held : (d : ℕ) → d ≤ t.durable → (o f : Files) → Now o → I o f → Holds config.user_version s.parts.base d history f
  held d le o f was making = stands_now_holds config s.parts.old s.parts.closed t.file s.parts.sure s.parts.items pool.highest pool.prepared s.parts.base f d ranges s.parts.new s.parts.some s.parts.numbers s.parts.listed s.parts.based (omega (arith, le, s.parts.durable)) (inside o f was making)

  still_told : (E : Files → Files → Type 0) → Leaves I E a b → (l : Lists) → IsTold a config.user_version s.parts.base t.durable history s.parts.steps l → IsTold b config.user_version s.parts.base t.durable history s.parts.steps l
  still_told E leaves l told = record {
    base = told.base;
    same = told.same;
    kept = kept_through I E Now config.user_version s.parts.base t.durable history l.receipts a b told.kept s.reads_now held leaves;
  }

  -- however the preparation ended
  pub sound_unprepared : Leaves (Making config (pool.highest + 1)) (Making config (pool.highest + 1)) a b → IsSound b lists room config table pool t
  sound_unprepared leaves = record {
    parts = s.parts;
    reads_now = reads_on I I Now Now a b s.reads_now inside leaves;
    room = s.room;
    told = if_some (IsTold a config.user_version s.parts.base t.durable history s.parts.steps) (IsTold b config.user_version s.parts.base t.durable history s.parts.steps) lists (still_told I leaves) s.told;
  }

  -- the file is prepared
  pub sound_prepared : IsPool (with_next pool) → Leaves (Making config (pool.highest + 1)) (Made config (pool.highest + 1)) a b → IsSound b lists room config table (with_next pool) t
  unfolding parts_prepared
  sound_prepared is leaves = record {
    parts = parts_prepared config table pool t low is s.parts;
    reads_now = reads_on I (Made config (pool.highest + 1)) Now Then a b s.reads_now at_end leaves;
    room = s.room;
    told = if_some (IsTold a config.user_version s.parts.base t.durable history s.parts.steps) (IsTold b config.user_version s.parts.base t.durable history s.parts.steps) lists (still_told (Made config (pool.highest + 1)) leaves) s.told;
  }

pub valid_unprepared : (stage : Stage) (a b : Option Past) (moment later : ℕ) (lists : Option Lists) (room : ℕ) (config : Config) (table : TxState) (pool : PoolOf) (t : Tail) → pool.highest < 2 ^ 31 - 1 → moment ≤ later
    → Leaves (Making pool.config (pool.highest + 1)) (Making pool.config (pool.highest + 1)) a b → IsValid stage a moment lists room config table pool t → IsValid stage b later lists room config table pool t
unfolding sound_unprepared
valid_unprepared stage a b moment later lists room config table pool t low on leaves v = record {
  sound = sound_unprepared a b lists room config table pool t v.ranges low v.sound (let P : Config → Type 0 = λ c. Leaves (Making c (pool.highest + 1)) (Making c (pool.highest + 1)) a b in subst P v.sound.parts.same_config leaves);
  ranges = v.ranges;
  opening = v.opening;
  order = told_later moment later lists on v.order;
  spent = v.spent;
  last = v.last;
}

pub valid_prepared : (stage : Stage) (a b : Option Past) (moment later : ℕ) (lists : Option Lists) (room : ℕ) (config : Config) (table : TxState) (pool : PoolOf) (t : Tail) → pool.highest < 2 ^ 31 - 1 → moment ≤ later → IsPool (with_next pool)
    → Leaves (Making pool.config (pool.highest + 1)) (Made pool.config (pool.highest + 1)) a b → IsValid stage a moment lists room config table pool t → IsValid stage b later lists room config table (with_next pool) t
unfolding sound_prepared parts_prepared
valid_prepared stage a b moment later lists room config table pool t low on is leaves v = record {
  sound = sound_prepared a b lists room config table pool t v.ranges low v.sound is (let P : Config → Type 0 = λ c. Leaves (Making c (pool.highest + 1)) (Made c (pool.highest + 1)) a b in subst P v.sound.parts.same_config leaves);
  ranges = v.ranges;
  opening = v.opening;
  order = told_later moment later lists on v.order;
  spent = v.spent;
  last = v.last;
}

-- ---- the journal goes on

-- the file in use is closed, and has its records
records_closed : (closed : List Segment) (used : PoolFile) (items : List Item) → records_of (closed ++ segment used items ∷ []) ≡ records closed used items
records_closed [] used items = append-nil (placed_in used.id items)
records_closed (g ∷ gs) used items = ap (λ (l : List Placed). records_in g ++ l) (records_closed gs used items) ∙ sym (append_assoc (records_in g) (records_of gs) (placed_in used.id items))

records_on : (closed : List Segment) (used : PoolFile) (items : List Item) (f : PoolFile) → records (closed ++ segment used items ∷ []) f [] ≡ records closed used items
records_on closed used items f = append-nil (records_of (closed ++ segment used items ∷ [])) ∙ records_closed closed used items

module _ (config : Config) (table : TxState) (pool pool' : PoolOf) (t : Tail) (f : PoolFile) (ranges : IsConfig config) (is : pool ≡ with_first f pool') (here : IsPool pool') (none : t.buffer.bytes ≡ []) where
  parts_on : Parts config table pool t → Parts config table pool' (gone_on f t)
  parts_on p =
      let listed : AreListed pool'.highest 0 (all_files (p.old ++ p.closed) t.file (f ∷ pool'.prepared)) = subst (λ (q : PoolOf). AreListed q.highest 0 (all_files (p.old ++ p.closed) t.file q.prepared)) is p.listed in
      let on : all_files (p.old ++ p.closed) t.file (f ∷ pool'.prepared) ≡ all_files (p.old ++ (p.closed ++ segment t.file p.items ∷ [])) f pool'.prepared =
      all_files_on (p.old ++ p.closed) t.file p.items f pool'.prepared ∙ ap (λ (gs : List Segment). all_files gs f pool'.prepared) (append_assoc p.old p.closed (segment t.file p.items ∷ [])) in
      let many : length (records_of (p.closed ++ segment t.file p.items ∷ [])) ≡ length (records_of p.closed) + length p.items =
      ap length (records_closed p.closed t.file p.items) ∙ length-append (records_of p.closed) (placed_in t.file.id p.items) ∙ ap (λ (n : ℕ). length (records_of p.closed) + n) (length-placed t.file.id p.items) in
      let sure : p.sure ≡ length p.items = none_wait config table pool t p none in
      record {
        base = p.base;
        old = p.old;
        closed = p.closed ++ segment t.file p.items ∷ [];
        items = [];
        sure = 0;
        steps = p.steps;
        based = p.based;
        new = λ k x lt. absurd (omega (arith, lt));
        placed = p.placed ∙ sym (records_on p.closed t.file p.items f);
        each = p.each;
        follows = p.follows;
        same_config = sym (ap (λ (q : PoolOf). q.config) is) ∙ p.same_config;
        pool_is = here;
        listed = subst (AreListed pool'.highest 0) on listed;
        numbers = omega (arith, p.numbers, ap (λ (q : PoolOf). q.highest) is);
        behind = behind_on pool' t.file.id f (subst (λ (q : PoolOf). ids_of q.prepared ≡ ids_of (files_from (t.file.id + 1) (q.highest - t.file.id))) is p.behind);
        few = omega (arith, many, p.few, next_id pool'.highest (p.old ++ p.closed) t.file f pool'.prepared listed, few_records p.items, end_whole t.file.id p.sure t.end p.items t.buffer.bytes p.place p.buffered, p.fits, ranges.file_size_most);
        capacity = p.capacity;
        timeout = p.timeout;
        first = p.first;
        some = omega arith;
        durable = omega (arith, p.durable, sure, many);
        count = omega (arith, p.count, many);
        buffered = none;
        place = refl;
        fits = omega (arith, ap length none, ranges.file_size_least);
      }

  sound_on : (past : Option Past) (lists : Option Lists) (room : ℕ) → IsSound past lists room config table pool t → IsSound past lists room config table pool' (gone_on f t)
  unfolding parts_on
  sound_on past lists room s =
      let p = s.parts in
      let reads : AllReads past (StandsNow config (p.old ++ p.closed) t.file p.sure p.items pool'.highest (f ∷ pool'.prepared)) = subst (λ (q : PoolOf). AllReads past (StandsNow config (p.old ++ p.closed) t.file p.sure p.items q.highest q.prepared)) is s.reads_now in
      let listed : AreListed pool'.highest 0 (all_files (p.old ++ p.closed) t.file (f ∷ pool'.prepared)) = subst (λ (q : PoolOf). AreListed q.highest 0 (all_files (p.old ++ p.closed) t.file q.prepared)) is p.listed in
      let numbers : pool'.highest ≤ 2 ^ 31 - 1 = omega (arith, p.numbers, ap (λ (q : PoolOf). q.highest) is) in
      record {
        parts = parts_on p;
        reads_now = reads_weaker (StandsNow config (p.old ++ p.closed) t.file p.sure p.items pool'.highest (f ∷ pool'.prepared)) (StandsNow config (p.old ++ (p.closed ++ segment t.file p.items ∷ [])) f 0 [] pool'.highest pool'.prepared) past
            (λ o was. subst (λ (gs : List Segment). StandsNow config gs f 0 [] pool'.highest pool'.prepared o) (append_assoc p.old p.closed (segment t.file p.items ∷ []))
            (stands_on config (p.old ++ p.closed) t.file p.sure p.items pool'.highest f pool'.prepared ranges p.new numbers listed (none_wait config table pool t p none) o was)) reads;
        room = λ some. absurd (some none);
        told = subst (λ (h : List Placed). IfSome lists (IsTold past config.user_version p.base t.durable h p.steps)) (sym (records_on p.closed t.file p.items f)) s.told;
      }

  pub valid_on : (stage : Stage) (past : Option Past) (moment : ℕ) (lists : Option Lists) (room : ℕ) → IsValid stage past moment lists room config table pool t → IsValid stage past moment lists room config table pool' (gone_on f t)
  unfolding sound_on parts_on
  valid_on stage past moment lists room v = record {
    sound = sound_on past lists room v.sound;
    ranges = v.ranges;
    opening = v.opening;
    order = v.order;
    spent = v.spent;
    last = v.last;
  }

-- ---- so many files more

pub files_many : (n : ℕ) (p : PoolOf) → ((with_files n p).highest ≡ p.highest + n) × (length (ids_of (with_files n p).prepared) ≡ length (ids_of p.prepared) + n)
files_many zero p = (omega arith, omega arith)
files_many (suc n) p =
    let r = files_many n p in
    let q : PoolOf = with_files n p in (
      omega (arith, r.0),
      omega (arith, r.1, ap length (map-append (λ (f : PoolFile). f.id) q.prepared (numbered_file (q.highest + 1) ∷ [])), length-append (ids_of q.prepared) ((q.highest + 1) ∷ [])),
    )

-- their numbers follow each other
pub files_are : (n : ℕ) (p : PoolOf) → (with_files n p).prepared ≡ p.prepared ++ files_from (p.highest + 1) n
files_are zero p = sym (append-nil p.prepared)
files_are (suc n) p =
    let q : PoolOf = with_files n p in
    ap (λ (l : List PoolFile). l ++ numbered_file (q.highest + 1) ∷ []) (files_are n p)
    ∙ append_assoc p.prepared (files_from (p.highest + 1) n) (numbered_file (q.highest + 1) ∷ [])
    ∙ ap (λ (k : ℕ). p.prepared ++ (files_from (p.highest + 1) n ++ numbered_file k ∷ [])) (omega (arith, (files_many n p).0))
    ∙ ap (λ (l : List PoolFile). p.prepared ++ l) (files_last (p.highest + 1) n)
  where
    files_last : (first n : ℕ) → files_from first n ++ numbered_file (first + n) ∷ [] ≡ files_from first (suc n)
    files_last first zero = ap (λ (k : ℕ). numbered_file k ∷ []) (omega arith)
    files_last first (suc n) = ap (λ (l : List PoolFile). numbered_file first ∷ l) (ap (λ (k : ℕ). files_from (first + 1) n ++ numbered_file k ∷ []) (omega arith) ∙ files_last (first + 1) n)
