-- Each receipt is owed, from call to call.
use Rattle.std.proofs.Common.{◌≡◌, ◌⊎◌, inl, inr, ℕ, ◌+◌, ◌<◌, Bool, true, false, ltb, List, [], ◌∷◌, ◌++◌, length, take, drop, Option, None, Some, refl, sym, ap, subst, ◌∙◌, append_assoc, arith}
use Rattle.std.specs.Prelude.{IfSome, IsTrue, option_map, is_some, ◌&&◌, ◌||◌, map as map_of}
use Rattle.std.specs.List.{sum_by}
use Rattle.std.proofs.lemmas.List.{length-append, append-nil, drop-map}
use Rattle.std.proofs.lemmas.List.Sums.{sum_by-cons}
use Rattle.std.proofs.Math.Seq.{drop-append-add}
use Rattle.amq_model.specs.declared.config.Config.{Config}
use Rattle.amq_model.specs.declared.record.Placed.{Placed}
use Rattle.amq_model.specs.declared.command.Command.{Command}
use Rattle.amq_model.specs.declared.command.Command.TheVariants.{Rollback}
use Rattle.amq_model.specs.declared.history.Step.{Step}
use Rattle.amq_model.specs.RecordAt.{len_of, spelling, whole_len}
use Rattle.amq_model.specs.Calls.{Past}
use Rattle.amq_model.specs.Answers.{history_of}
use Rattle.amq_model.specs.Directory.{placed}
use Rattle.amq_model.specs.Legal.{IsDone, needs_file}
use Rattle.amq_record.proofs.Records.{length_spelling}
use Rattle.amq_scan.specs.Written.{Item, spelled, spots_from, end_from}
use Rattle.amq_scan.specs.Segments.{records_of}
use Rattle.amq_scan.proofs.Lengths.{spots_drop}
use Rattle.amq_tx.specs.State.{TxState}
use Rattle.amq_pool.specs.Pools.{PoolOf}
use Rattle.amq_engine.specs.declared.chronicle.Receipted.{Receipted}
use Rattle.amq_engine.specs.declared.tail.Tail.{Tail}
use Rattle.amq_engine.specs.Lists.{Lists, with_base, with_step, with_receipt}
use Rattle.amq_engine.specs.Directory.{placed_in}
use Rattle.amq_engine.specs.Receipts.{EndsWith, IsLastCount}
use Rattle.amq_engine.specs.Engine.{IsBlank, Parts, Stage, IsValid, flushes, passes, receipted, end_of_tail, Waits, Wrote}
use Rattle.amq_engine.specs.Opening.{EndsIn}
use Rattle.amq_engine.specs.Owed.{waiting_behind, CountsAll, IsOwedToStep, AreOwed, BeginOwed, AreOwedToSteps, IsOwedAtOpening, AreOwedAtOpening}
use Rattle.amq_engine.proofs.History.{length-placed}
use Rattle.amq_engine.proofs.Sound.{some_wait}
use Rattle.amq_engine.proofs.Receipts.{if_some}
use Rattle.amq_engine.proofs.Begun.{IsNoted, noted}
use Rattle.amq_engine.proofs.Noting.{both_true}

-- ---- the bytes that wait

summed : (id place : ℕ) (items : List Item) → sum_by (λ p. len_of p.rec) (map_of (placed id) (spots_from 2 place items)) ≡ length (spelled 2 id items)
summed id place [] = refl
summed id place (x ∷ xs) =
    let rest = map_of (placed id) (spots_from 2 (place + whole_len 2 x.rec) xs) in
    omega (
      arith,
      sum_by-cons (λ (p : Placed). len_of p.rec) (record { file = id; place = place; compact = x.compact; rec = x.rec }) rest,
      summed id (place + whole_len 2 x.rec) xs,
      length-append (spelling 2 id x.compact x.rec) (spelled 2 id xs),
      length_spelling 2 id x.compact x.rec,
    )

-- the buffer holds what isn't durable
pub waits_so : (config : Config) (table : TxState) (pool : PoolOf) (t : Tail) (p : Parts config table pool t) → length t.buffer.bytes ≡ waiting_behind t.durable (history_of p.steps)
waits_so config table pool t p = sym (ap (sum_by (λ (q : Placed). len_of q.rec)) left ∙ summed t.file.id (end_from 2 16 (take p.sure p.items)) (drop p.sure p.items) ∙ sym (ap length p.buffered)) where
  left : drop t.durable (history_of p.steps) ≡ map_of (placed t.file.id) (spots_from 2 (end_from 2 16 (take p.sure p.items)) (drop p.sure p.items))
  left =
      ap (λ (n : ℕ). drop n (history_of p.steps)) p.durable
      ∙ ap (drop (length (records_of p.closed) + p.sure)) p.placed
      ∙ drop-append-add (records_of p.closed) (placed_in t.file.id p.items) p.sure
      ∙ drop-map (placed t.file.id) p.sure (spots_from 2 16 p.items)
      ∙ ap (map_of (placed t.file.id)) (spots_drop 2 16 p.sure p.items)

pub appends_so : (config : Config) (table : TxState) (pool : PoolOf) (t : Tail) (p : Parts config table pool t) → t.appended ≡ length (history_of p.steps)
appends_so config table pool t p = omega (arith, p.count, length-placed t.file.id p.items, length-append (records_of p.closed) (placed_in t.file.id p.items), ap length p.placed)

-- something waits
pub more_appended : (config : Config) (table : TxState) (pool : PoolOf) (t : Tail) (p : Parts config table pool t) → is_some t.buffer.since ≡ true → t.durable < t.appended
more_appended config table pool t p some = omega (arith, p.durable, p.count, some_wait config table pool t p (λ none. absurd (let e : false ≡ true = sym (ap is_some (p.first.1 none)) ∙ some in cc)))

-- ---- more receipts, more steps

-- the same receipts, by other lists of steps and other causes
pub owed_weaker : (O P : ℕ → Receipted → Type 0) (steps steps' : List Step) (n : ℕ) (rs : List Receipted) → ((r : Receipted) → CountsAll steps r → CountsAll steps' r) → ((m : ℕ) (r : Receipted) → CountsAll steps r → O m r → P m r) → AreOwed O steps n rs → AreOwed P steps' n rs
owed_weaker O P steps steps' n [] counts f all = tt
owed_weaker O P steps steps' n (r ∷ rs) counts f all = (all.0, counts r all.1, f n r all.1 all.2, owed_weaker O P steps steps' r.durable rs counts f all.3)

pub begin_weaker : (O P : ℕ → Receipted → Type 0) (steps steps' : List Step) (rs : List Receipted) → ((r : Receipted) → CountsAll steps r → CountsAll steps' r) → ((m : ℕ) (r : Receipted) → CountsAll steps r → O m r → P m r) → BeginOwed O steps rs → BeginOwed P steps' rs
begin_weaker O P steps steps' [] counts f all = tt
begin_weaker O P steps steps' (r ∷ rs) counts f all = (all.0, all.1, owed_weaker O P steps steps' r.durable rs counts f all.2)

-- one receipt more
owed_snoc : (O : ℕ → Receipted → Type 0) (steps : List Step) (durable : ℕ) (q : Receipted) (rs : List Receipted) (r : Receipted) → EndsWith durable q rs → durable < r.durable → CountsAll steps r → O durable r → AreOwed O steps q.durable rs → AreOwed O steps q.durable (rs ++ r ∷ [])
owed_snoc O steps durable q [] r ends more counts owed all = subst (λ (n : ℕ). AreOwed O steps n (r ∷ [])) (sym ends) (more, counts, owed, tt)
owed_snoc O steps durable q (x ∷ xs) r ends more counts owed all = (all.0, all.1, all.2, owed_snoc O steps durable x xs r ends more counts owed all.3)

pub begin_snoc : (O : ℕ → Receipted → Type 0) (steps : List Step) (durable : ℕ) (rs : List Receipted) (r : Receipted) → IsLastCount durable rs → durable < r.durable → CountsAll steps r → O durable r → BeginOwed O steps rs → BeginOwed O steps (rs ++ r ∷ [])
begin_snoc O steps durable [] r last more counts owed all = absurd last
begin_snoc O steps durable (q ∷ qs) r last more counts owed all = (all.0, all.1, owed_snoc O steps durable q qs r last more counts owed all.2)

-- one step more
pub counts_more : (steps : List Step) (x : Step) (r : Receipted) → CountsAll steps r → CountsAll (steps ++ x ∷ []) r
counts_more steps x r c = record { before = c.before; behind = c.behind ++ x ∷ []; is = ap (λ (ss : List Step). ss ++ x ∷ []) c.is ∙ append_assoc c.before c.behind (x ∷ []); place = c.place; count = c.count }

pub step_more : (config : Config) (steps : List Step) (x : Step) (n : ℕ) (r : Receipted) → IsOwedToStep config steps n r → IsOwedToStep config (steps ++ x ∷ []) n r
step_more config steps x n r o = record { before = o.before; step = o.step; behind = o.behind ++ x ∷ []; is = ap (λ (ss : List Step). ss ++ x ∷ []) o.is ∙ append_assoc o.before (o.step ∷ o.behind) (x ∷ []); place = o.place; flushes = o.flushes }

-- the receipt of all steps so far
pub counts_now : (steps : List Step) (count moment : ℕ) → count ≡ length (history_of steps) → CountsAll steps (record { durable = count; moment = moment; steps = length steps })
counts_now steps count moment is = record { before = steps; behind = []; is = sym (append-nil steps); place = refl; count = is }

-- ---- an opening

either_way : (a b : Bool) → (a || b) ≡ true → (b || a) ≡ true
either_way true true is = refl
either_way true false is = refl
either_way false true is = refl
either_way false false is = is

module _ (config : Config) (past : Option Past) (moment room : ℕ) (table : TxState) (pool : PoolOf) (t : Tail) (stage : Stage) where
  -- the receipts are owed to steps, and behind one more receipt and step they are
  module _ (l : Lists) (v : IsValid stage past moment (Some l) room config table pool t) where
    count : t.appended ≡ length (history_of l.steps)
    count = appends_so config table pool t v.sound.parts ∙ ap (λ (ss : List Step). length (history_of ss)) (sym v.sound.told.same)

    wait : length t.buffer.bytes ≡ waiting_behind t.durable (history_of l.steps)
    wait = waits_so config table pool t v.sound.parts ∙ ap (λ (ss : List Step). waiting_behind t.durable (history_of ss)) (sym v.sound.told.same)

    abbrev one_receipt : ℕ → Receipted
    one_receipt at = record { durable = t.appended; moment = at; steps = length l.steps }

    -- the one more is behind all steps
    ended_owed : (b : Bool) (at : ℕ) → (b ≡ true → is_some t.buffer.since ≡ true) → AreOwedToSteps config l → IfSome (receipted b t.appended at (Some l)) (AreOwedAtOpening config)
    ended_owed false at some all = begin_weaker (IsOwedToStep config l.steps) (IsOwedAtOpening config l.steps) l.steps l.steps l.receipts (λ r c. c) (λ n r c o. inr o) all
    ended_owed true at some all =
        begin_snoc (IsOwedAtOpening config l.steps) l.steps t.durable l.receipts (one_receipt at) v.last (more_appended config table pool t v.sound.parts (some refl)) (counts_now l.steps t.appended at count) (inl refl)
        (begin_weaker (IsOwedToStep config l.steps) (IsOwedAtOpening config l.steps) l.steps l.steps l.receipts (λ r c. c) (λ n r c o. inr o) all)

    -- a rollback comes behind it
    rolled_one : (b m : Bool) (at first tx : ℕ) (x : Step) → b ≡ ((m || flushes t.buffer.capacity (length t.buffer.bytes) (Rollback tx)) && is_some t.buffer.since) → m ≡ passes config.file_size (end_of_tail t) (Some 18) → x.command ≡ Rollback tx → IsDone x.answer
        → EndsIn first (history_of l.steps) t.file.id (end_of_tail t) → AreOwedToSteps config l → IfSome (option_map (with_step x) (receipted b t.appended at (Some l))) (AreOwedToSteps config)
    rolled_one false m at first tx x is moves command done ends all = begin_weaker (IsOwedToStep config l.steps) (IsOwedToStep config (l.steps ++ x ∷ [])) l.steps (l.steps ++ x ∷ []) l.receipts (counts_more l.steps x) (λ n r c o. step_more config l.steps x n r o) all
    rolled_one true m at first tx x is moves command done ends all =
        let both = both_true (m || flushes t.buffer.capacity (length t.buffer.bytes) (Rollback tx)) (is_some t.buffer.since) (sym is) in
        let h = history_of l.steps in
        let needed : IsTrue (flushes config.buffer_size (waiting_behind t.durable h) (Rollback tx) || needs_file h config (Rollback tx)) =
        either_way (needs_file h config (Rollback tx)) (flushes config.buffer_size (waiting_behind t.durable h) (Rollback tx))
        (ap (λ (n : ℕ). ltb config.file_size (n + 18) || flushes config.buffer_size (waiting_behind t.durable h) (Rollback tx)) (sym ends.1)
        ∙ ap (λ (n : ℕ). ltb config.file_size (end_of_tail t + 18) || flushes config.buffer_size n (Rollback tx)) (sym wait)
        ∙ ap (λ (n : ℕ). ltb config.file_size (end_of_tail t + 18) || flushes n (length t.buffer.bytes) (Rollback tx)) (sym v.sound.parts.capacity)
        ∙ ap (λ (k : Bool). k || flushes t.buffer.capacity (length t.buffer.bytes) (Rollback tx)) (sym moves)
        ∙ both.0) in
        let steps : List Step = l.steps ++ x ∷ [] in
        begin_snoc (IsOwedToStep config steps) steps t.durable l.receipts (one_receipt at) v.last (more_appended config table pool t v.sound.parts both.1) (counts_more l.steps x (one_receipt at) (counts_now l.steps t.appended at count))
        (record {
          before = l.steps;
          step = x;
          behind = [];
          is = refl;
          place = refl;
          flushes = record { accepted = done; needed = subst (λ (c : Command). IsTrue (flushes config.buffer_size (waiting_behind t.durable h) c || needs_file h config c)) (sym command) needed };
        })
        (begin_weaker (IsOwedToStep config l.steps) (IsOwedToStep config steps) l.steps steps l.receipts (counts_more l.steps x) (λ n r c o. step_more config l.steps x n r o) all)

  -- a flush that no step is behind
  pub owed_at_end : (b : Bool) (at : ℕ) (lists lists' : Option Lists) → (b ≡ true → is_some t.buffer.since ≡ true) → lists' ≡ receipted b t.appended at lists → IsValid stage past moment lists room config table pool t → IfSome lists (AreOwedToSteps config) → IfSome lists' (AreOwedAtOpening config)
  owed_at_end b at lists lists' some is v all = subst (λ (o : Option Lists). IfSome o (AreOwedAtOpening config)) (sym is) (by b lists some v all) where
    by : (b : Bool) (o : Option Lists) → (b ≡ true → is_some t.buffer.since ≡ true) → IsValid stage past moment o room config table pool t → IfSome o (AreOwedToSteps config) → IfSome (receipted b t.appended at o) (AreOwedAtOpening config)
    by true None some v all = tt
    by false None some v all = tt
    by b (Some l) some v all = ended_owed l v b at some all

  -- what was made ready for the next rollback failed
  pub owed_failed : (P Q : Type 0) (now : ℕ) (u : Tail) (lists lists' : Option Lists) → Waits t lists u lists' ⊎ (P × Q × Wrote now t lists u lists') → IsValid stage past moment lists room config table pool t → IfSome lists (AreOwedToSteps config) → IfSome lists' (AreOwedAtOpening config)
  owed_failed P Q now u lists lists' (inl waits) v all = owed_at_end false now lists lists' (λ no. absurd cc) waits.1 v all
  owed_failed P Q now u lists lists' (inr (p, q, wrote)) v all = owed_at_end (is_some t.buffer.since) _ lists lists' (λ some. some) wrote.1 v all

  -- the next rollback was appended
  pub owed_rolled : (m : Bool) (at tx : ℕ) (x : Step) (lists ready lists' : Option Lists) → ready ≡ receipted ((m || flushes t.buffer.capacity (length t.buffer.bytes) (Rollback tx)) && is_some t.buffer.since) t.appended at lists → m ≡ passes config.file_size (end_of_tail t) (Some 18)
      → x.command ≡ Rollback tx → IsDone x.answer → lists' ≡ option_map (with_step x) ready → IfSome lists (λ l. (first : ℕ) × EndsIn first (history_of l.steps) t.file.id (end_of_tail t)) → IsValid stage past moment lists room config table pool t → IfSome lists (AreOwedToSteps config)
      → IfSome lists' (AreOwedToSteps config)
  owed_rolled m at tx x lists ready lists' went moves command done noted ends v all = subst (λ (o : Option Lists). IfSome o (AreOwedToSteps config)) (sym (noted ∙ ap (option_map (with_step x)) went)) (by _ lists refl ends v all) where
    by : (b : Bool) (o : Option Lists) → b ≡ ((m || flushes t.buffer.capacity (length t.buffer.bytes) (Rollback tx)) && is_some t.buffer.since) → IfSome o (λ l. (first : ℕ) × EndsIn first (history_of l.steps) t.file.id (end_of_tail t)) → IsValid stage past moment o room config table pool t → IfSome o (AreOwedToSteps config)
        → IfSome (option_map (with_step x) (receipted b t.appended at o)) (AreOwedToSteps config)
    by true None is ends v all = tt
    by false None is ends v all = tt
    by b (Some l) is ends v all = rolled_one l v b m at ends.0 tx x is moves command done ends.1 all

-- what is owed to steps is owed in an opening
pub owed_in_opening : (config : Config) (lists lists' : Option Lists) → lists' ≡ lists → IfSome lists (AreOwedToSteps config) → IfSome lists' (AreOwedAtOpening config)
owed_in_opening config lists lists' is all = subst (λ (o : Option Lists). IfSome o (AreOwedAtOpening config)) (sym is) (by lists all) where
  by : (o : Option Lists) → IfSome o (AreOwedToSteps config) → IfSome o (AreOwedAtOpening config)
  by None all = tt
  by (Some l) all = begin_weaker (IsOwedToStep config l.steps) (IsOwedAtOpening config l.steps) l.steps l.steps l.receipts (λ r c. c) (λ n r c o. inr o) all

pub owed_same : (config : Config) (lists lists' : Option Lists) → lists' ≡ lists → IfSome lists (AreOwedToSteps config) → IfSome lists' (AreOwedToSteps config)
owed_same config lists lists' is all = subst (λ (o : Option Lists). IfSome o (AreOwedToSteps config)) (sym is) all

-- ---- the first receipt

pub blank_owed : (config : Config) (lists lists' : Option Lists) → lists' ≡ lists → IfSome lists IsBlank → IfSome lists' (AreOwedToSteps config)
blank_owed config lists lists' is blank = owed_same config lists lists' is (by lists blank) where
  by : (o : Option Lists) → IfSome o IsBlank → IfSome o (AreOwedToSteps config)
  by None blank = tt
  by (Some l) blank = subst (λ (rs : List Receipted). BeginOwed (IsOwedToStep config l.steps) l.steps rs) (sym blank.2) tt

pub first_owed : (config : Config) (base : List Placed) (at : ℕ) (lists lists' : Option Lists) → IfSome lists IsBlank → lists' ≡ option_map (with_receipt 0 at) (option_map (with_base base) lists) → IfSome lists' (AreOwedToSteps config)
first_owed config base at lists lists' blank is = if_some (IsNoted base at) (AreOwedToSteps config) lists' (λ l n. subst (λ (rs : List Receipted). BeginOwed (IsOwedToStep config l.steps) l.steps rs) (sym n.receipts) (refl, refl, tt)) (noted base at lists lists' blank is)
