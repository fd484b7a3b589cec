-- Where the records of a history stand.
use Rattle.std.proofs.Common.{◌≡◌, ◌⊎◌, inl, inr, ℕ, zero, suc, ◌+◌, ◌-◌, ◌≤◌, Bool, true, false, cond, List, [], ◌∷◌, ◌++◌, length, Option, None, Some, refl, sym, ap, subst, ◌∙◌, arith}
use Rattle.std.specs.Prelude.{IfSome, fold, take, nat_lt, option_map}
use Rattle.std.specs.List.{cons_option}
use Rattle.std.proofs.lemmas.List.{append-nil, length-append}
use Rattle.std.proofs.lemmas.List.Sums.{fold-append}
use Rattle.amq_model.specs.declared.record.Record.{Record}
use Rattle.amq_model.specs.declared.record.Placed.{Placed}
use Rattle.amq_model.specs.declared.config.Config.{Config}
use Rattle.amq_model.specs.declared.history.Step.{Step}
use Rattle.amq_model.specs.RecordAt.{len_of, spelling}
use Rattle.amq_model.specs.Answers.{history_of}
use Rattle.amq_model.specs.Calls.{Past}
use Rattle.amq_model.specs.Leaves.{Told}
use Rattle.amq_record.proofs.Records.{length_spelling}
use Rattle.amq_tx.specs.State.{TxState}
use Rattle.amq_pool.specs.declared.pool.PoolFile.{PoolFile}
use Rattle.amq_pool.specs.Pools.{PoolOf, ids_of, numbered_file}
use Rattle.amq_engine.specs.declared.tail.Tail.{Tail}
use Rattle.amq_engine.specs.Lists.{Lists, with_step, steps_in}
use Rattle.amq_engine.specs.Directory.{files_from}
use Rattle.amq_engine.specs.Engine.{Parts, passes, readied, written_out, next_file, end_of_tail, placed_behind, with_put, Waits, Wrote}
use Rattle.amq_engine.specs.Opening.{HasNumbers, EndsIn, IsFilled, AreFirstRollbacks, place_behind, StandBehind, StandsFrom, rollback_behind, rollbacks_behind}
use Rattle.amq_engine.proofs.History.{history-snoc}
use Rattle.amq_engine.proofs.Listing.{used_id}
use Rattle.amq_engine.proofs.RollingBack.{end_snoc}
use Rattle.amq_engine.proofs.Rollbacks.{end_is}

-- the file and the place of a record
abbrev spot : Placed → ℕ × ℕ
spot q = (q.file, q.place)

-- ---- one behind the other

-- one more, behind the last
stand_snoc : (config : Config) (file end : ℕ) (ps : List Placed) (q : Placed) → StandBehind config file end ps → (q.file, q.place) ≡ place_behind config (fold (λ _ p. p.file) file ps) (fold (λ _ p. p.place + len_of p.rec) end ps) (len_of q.rec) → StandBehind config file end (ps ++ q ∷ [])
stand_snoc config file end [] q stand at = (at, tt)
stand_snoc config file end (p ∷ ps) q stand at = (stand.0, stand_snoc config p.file (p.place + len_of p.rec) ps q stand.1 at)

-- the first of them
pub stand_take : (config : Config) (file end n : ℕ) (ps : List Placed) → StandBehind config file end ps → StandBehind config file end (take n ps)
stand_take config file end zero ps stand = tt
stand_take config file end (suc n) [] stand = tt
stand_take config file end (suc n) (p ∷ ps) stand = (stand.0, stand_take config p.file (p.place + len_of p.rec) n ps stand.1)

-- rollbacks stand so
rollback_stands : (config : Config) (file end tx : ℕ) → (let p = rollback_behind config file end tx in ((p.file, p.place) ≡ place_behind config file end 18) × (len_of p.rec ≡ 18))
rollback_stands config file end tx = by (nat_lt config.file_size (end + 18)) refl where
  by : (b : Bool) → nat_lt config.file_size (end + 18) ≡ b → (let p = rollback_behind config file end tx in ((p.file, p.place) ≡ place_behind config file end 18) × (len_of p.rec ≡ 18))
  by true is = rw is (refl, refl)
  by false is = rw is (refl, refl)

pub rollbacks_stand : (config : Config) (file end : ℕ) (txs : List ℕ) → StandBehind config file end (rollbacks_behind config file end txs)
rollbacks_stand config file end [] = tt
rollbacks_stand config file end (tx ∷ txs) =
    let p = rollback_behind config file end tx in
    let one = rollback_stands config file end tx in
    (one.0 ∙ ap (place_behind config file end) (sym one.1), rollbacks_stand config p.file (p.place + len_of p.rec) txs)

-- ---- what is told

module _ (config : Config) (first : ℕ) where
  -- the steps are the same, and so are the file and the end
  pub stands_same : (file end file' end' : ℕ) (lists lists' : Option Lists) → steps_in lists' ≡ steps_in lists → file' ≡ file → end' ≡ end → IfSome lists (StandsFrom config first file end) → IfSome lists' (StandsFrom config first file' end')
  stands_same file end file' end' None None same same_file same_end stands = tt
  stands_same file end file' end' None (Some m) same same_file same_end stands = absurd cc
  stands_same file end file' end' (Some l) None same same_file same_end stands = tt
  stands_same file end file' end' (Some l) (Some m) same same_file same_end stands =
      let e : l.steps ≡ m.steps = cc in
      subst (λ (ss : List Step). StandBehind config first 16 (history_of ss) × EndsIn first (history_of ss) file' end') e
      (stands.0, (same_file ∙ stands.1.0, same_end ∙ stands.1.1))

  -- a step that appends nothing is noted
  pub stands_bare : (file end file' end' : ℕ) (lists lists' : Option Lists) (x : Step) → x.placed ≡ None → lists' ≡ option_map (with_step x) lists → file' ≡ file → end' ≡ end → IfSome lists (StandsFrom config first file end) → IfSome lists' (StandsFrom config first file' end')
  stands_bare file end file' end' lists lists' x bare noted same_file same_end stands = subst (λ (o : Option Lists). IfSome o (StandsFrom config first file' end')) (sym noted) (by lists stands) where
    none : (steps : List Step) → history_of (steps ++ x ∷ []) ≡ history_of steps
    none steps = history-snoc steps x ∙ ap (λ (o : Option Placed). history_of steps ++ cons_option o []) bare ∙ append-nil (history_of steps)

    by : (o : Option Lists) → IfSome o (StandsFrom config first file end) → IfSome (option_map (with_step x) o) (StandsFrom config first file' end')
    by None stands = tt
    by (Some l) stands = subst (λ (h : List Placed). StandBehind config first 16 h × EndsIn first h file' end') (sym (none l.steps)) (stands.0, (same_file ∙ stands.1.0, same_end ∙ stands.1.1))

  -- a step that appends a record is noted
  pub stands_more : (file end : ℕ) (lists lists' : Option Lists) (x : Step) (q : Placed) → x.placed ≡ Some q → lists' ≡ option_map (with_step x) lists → (q.file, q.place) ≡ place_behind config file end (len_of q.rec) → IfSome lists (StandsFrom config first file end) → IfSome lists' (StandsFrom config first q.file (q.place + len_of q.rec))
  stands_more file end lists lists' x q placed noted at stands = subst (λ (o : Option Lists). IfSome o (StandsFrom config first q.file (q.place + len_of q.rec))) (sym noted) (by lists stands) where
    grown : (steps : List Step) → history_of (steps ++ x ∷ []) ≡ history_of steps ++ q ∷ []
    grown steps = history-snoc steps x ∙ ap (λ (o : Option Placed). history_of steps ++ cons_option o []) placed

    by : (o : Option Lists) → IfSome o (StandsFrom config first file end) → IfSome (option_map (with_step x) o) (StandsFrom config first q.file (q.place + len_of q.rec))
    by None stands = tt
    by (Some l) stands =
        let h = history_of l.steps in
        let here : (q.file, q.place) ≡ place_behind config (fold (λ _ p. p.file) first h) (fold (λ _ p. p.place + len_of p.rec) 16 h) (len_of q.rec) =
        at ∙ ap (λ (k : ℕ). place_behind config k end (len_of q.rec)) stands.1.0 ∙ ap (λ (k : ℕ). place_behind config (fold (λ _ p. p.file) first h) k (len_of q.rec)) (stands.1.1 ∙ sym (end_is h)) in
        subst (λ (ps : List Placed). StandBehind config first 16 ps × EndsIn first ps q.file (q.place + len_of q.rec)) (sym (grown l.steps))
        (stand_snoc config first 16 h q stands.0 here, (sym (fold-append (λ _ p. p.file) first h (q ∷ [])), sym (end_snoc h q)))

-- ---- the record of a command

-- the file that a journal goes on to, by the files that are prepared
abbrev first_of : PoolOf → List PoolFile → PoolFile
first_of pool l = elim l [ [] ↦ numbered_file (pool.highest + 1) | f ∷ fs ↦ f ]

-- the next file has the next number
next_number : (config : Config) (table : TxState) (pool : PoolOf) (t : Tail) (p : Parts config table pool t) → (next_file pool).id ≡ t.file.id + 1
next_number config table pool t p = by pool.prepared refl where
  low : t.file.id ≤ pool.highest
  low = used_id pool.highest (p.old ++ p.closed) t.file pool.prepared p.listed

  by : (files : List PoolFile) → pool.prepared ≡ files → (next_file pool).id ≡ t.file.id + 1
  by [] none = first (pool.highest - t.file.id) refl (sym p.behind ∙ ap ids_of none) where
    first : (n : ℕ) → pool.highest - t.file.id ≡ n → ids_of (files_from (t.file.id + 1) n) ≡ [] → (next_file pool).id ≡ t.file.id + 1
    first zero left is = ap (λ (l : List PoolFile). (first_of pool l).id) none ∙ omega (arith, left, low)
    first (suc n) left is = absurd (let e : (t.file.id + 1) ∷ ids_of (files_from (t.file.id + 1 + 1) n) ≡ [] = is in cc)
  by (f ∷ fs) some = first (pool.highest - t.file.id) refl (sym p.behind ∙ ap ids_of some) where
    first : (n : ℕ) → pool.highest - t.file.id ≡ n → ids_of (files_from (t.file.id + 1) n) ≡ f.id ∷ ids_of fs → (next_file pool).id ≡ t.file.id + 1
    first zero left is = absurd (let e : [] ≡ f.id ∷ ids_of fs = is in cc)
    first (suc n) left is =
        let e : (t.file.id + 1) ∷ ids_of (files_from (t.file.id + 1 + 1) n) ≡ f.id ∷ ids_of fs = is in
        let same : t.file.id + 1 ≡ f.id = cc in
        ap (λ (l : List PoolFile). (first_of pool l).id) some ∙ sym same

-- once the journal is ready for it, it stands where it must
pub placed_at : (config : Config) (table : TxState) (pool : PoolOf) (t : Tail) (p : Parts config table pool t) (m b : Bool) (rec : Record) → m ≡ passes config.file_size (end_of_tail t) (Some (len_of rec)) → spot (placed_behind (readied m b pool t) rec) ≡ place_behind config t.file.id (end_of_tail t) (len_of rec)
placed_at config table pool t p true b rec moves =
    let next : ℕ × ℕ = (t.file.id + 1, 16) in
    let here : ℕ × ℕ = (t.file.id, end_of_tail t) in
    let at : ℕ → ℕ × ℕ = λ n. (n, 16) in
    ap at (next_number config table pool t p) ∙ sym (ap (λ (c : Bool). cond c next here) (sym moves))
placed_at config table pool t p false b rec moves =
    let next : ℕ × ℕ = (t.file.id + 1, 16) in
    let here : ℕ × ℕ = (t.file.id, end_of_tail t) in
    by b ∙ sym (ap (λ (c : Bool). cond c next here) (sym moves))
  where
    by : (b : Bool) → spot (placed_behind (readied false b pool t) rec) ≡ (t.file.id, end_of_tail t)
    by true = let at : ℕ → ℕ × ℕ = λ n. (t.file.id, n) in ap at (omega arith)
    by false = refl

-- a command without a record leaves the file and the end
pub same_end : (config : Config) (m b : Bool) (pool : PoolOf) (t : Tail) (end : ℕ) → m ≡ passes config.file_size end None → ((readied m b pool t).file.id ≡ t.file.id) × (end_of_tail (readied m b pool t) ≡ end_of_tail t)
same_end config true b pool t end moves = absurd (let e : true ≡ false = moves in cc)
same_end config false true pool t end moves = (refl, omega arith)
same_end config false false pool t end moves = (refl, refl)

-- a command that isn't made ready for leaves them too
pub failed_end : (P Q : Type 0) (moment : ℕ) (t u : Tail) (lists lists' : Option Lists) → Waits t lists u lists' ⊎ (P × Q × Wrote moment t lists u lists') → (u.file.id ≡ t.file.id) × (end_of_tail u ≡ end_of_tail t)
failed_end P Q moment t u lists lists' (inl waits) = (ap (λ (x : Tail). x.file.id) waits.0, ap end_of_tail waits.0)
failed_end P Q moment t u lists lists' (inr (p, q, wrote)) = (ap (λ (x : Tail). x.file.id) wrote.0, ap end_of_tail wrote.0 ∙ omega arith)

-- and so does a flush
pub flushed_end : (t u : Tail) → u ≡ written_out t → (u.file.id ≡ t.file.id) × (end_of_tail u ≡ end_of_tail t)
flushed_end t u is = (ap (λ (x : Tail). x.file.id) is, ap end_of_tail is ∙ omega arith)

-- the step of an accepted command is noted
pub stands_put : (config : Config) (first : ℕ) (table : TxState) (pool : PoolOf) (t u v : Tail) (p : Parts config table pool t) (m b : Bool) (now : ℕ) (rec : Option Record) (x : Step) (lists lists' : Option Lists) → m ≡ passes config.file_size (end_of_tail t) (option_map len_of rec)
    → u ≡ readied m b pool t → v ≡ with_put now rec u → x.placed ≡ option_map (placed_behind u) rec → lists' ≡ option_map (with_step x) lists → IfSome lists (StandsFrom config first t.file.id (end_of_tail t)) → IfSome lists' (StandsFrom config first v.file.id (end_of_tail v))
stands_put config first table pool t u v p m b now None x lists lists' moves ready put placed noted stands =
    let same = same_end config m b pool t (end_of_tail t) moves in
    let w : v ≡ readied m b pool t = put ∙ ready in
    stands_bare config first t.file.id (end_of_tail t) v.file.id (end_of_tail v) lists lists' x placed noted (ap (λ (y : Tail). y.file.id) w ∙ same.0) (ap end_of_tail w ∙ same.1) stands
stands_put config first table pool t u v p m b now (Some rec) x lists lists' moves ready put placed noted stands =
    let q = placed_behind u rec in
    let at : spot q ≡ place_behind config t.file.id (end_of_tail t) (len_of rec) = ap (λ (y : Tail). spot (placed_behind y rec)) ready ∙ placed_at config table pool t p m b rec moves in
    let end : end_of_tail v ≡ q.place + len_of rec = ap end_of_tail put ∙ omega (arith, length-append u.buffer.bytes (spelling 2 u.file.id 0 rec), length_spelling 2 u.file.id 0 rec) in
    let file : v.file.id ≡ q.file = ap (λ (y : Tail). y.file.id) put in
    subst (λ (k : ℕ). IfSome lists' (StandsFrom config first k (end_of_tail v))) (sym file) (subst (λ (k : ℕ). IfSome lists' (StandsFrom config first q.file k)) (sym end) (stands_more config first t.file.id (end_of_tail t) lists lists' x q placed noted at stands))

-- ---- a run

-- where an opening's history stands, so does what goes on from it
pub told_on : (config : Config) (txs : List ℕ) (file end highest : ℕ) (free : List ℕ) (l m : Lists) (h : Option Past) → Told h (IsFilled config txs (history_of l.steps) file end highest free) → ((first : ℕ) → StandsFrom config first file end l → StandBehind config first 16 (history_of m.steps))
    → Told h (λ s. (files : ℕ) × (before : ℕ) × HasNumbers files before s × StandBehind config (before + 1) 16 (history_of m.steps))
told_on config txs file end highest free l m None filled on = tt
told_on config txs file end highest free l m (Some p) filled on = (
  filled.files,
  filled.before,
  filled.had,
  on (filled.before + 1) (subst (λ (ps : List Placed). StandBehind config (filled.before + 1) 16 ps) (sym filled.placed) (rollbacks_stand config (filled.before + 1) 16 txs), filled.ends),
)

-- so do the rollbacks of one that failed
pub told_front : (config : Config) (l : Lists) (h : Option Past) → Told h (AreFirstRollbacks config l) → Told h (λ s. (files : ℕ) × (before : ℕ) × HasNumbers files before s × StandBehind config (before + 1) 16 (history_of l.steps))
told_front config l None first = tt
told_front config l (Some p) first = (
  first.files,
  first.before,
  first.had,
  subst (λ (ps : List Placed). StandBehind config (first.before + 1) 16 ps) (sym first.placed) (stand_take config (first.before + 1) 16 (length l.steps) (rollbacks_behind config (first.before + 1) 16 _) (rollbacks_stand config (first.before + 1) 16 _)),
)
