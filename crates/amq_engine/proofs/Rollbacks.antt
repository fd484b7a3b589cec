-- Where the rollbacks of an opening stand.
use Rattle.std.proofs.Common.{◌≡◌, ◌⊎◌, inl, inr, ℕ, zero, suc, ◌+◌, ◌<◌, Bool, true, false, cond, List, [], ◌∷◌, ◌++◌, length, Option, None, Some, refl, sym, ap, subst, ◌∙◌, arith}
use Rattle.std.specs.Prelude.{IfSome, fold, take, option_map, slice_get}
use Rattle.std.specs.List.{cons_option}
use Rattle.std.proofs.lemmas.List.{length-append}
use Rattle.amq_model.specs.declared.record.Record.TheVariants as r
use Rattle.amq_model.specs.declared.record.Placed.{Placed}
use Rattle.amq_model.specs.declared.config.Config.{Config}
use Rattle.amq_model.specs.declared.history.Step.{Step}
use Rattle.amq_model.specs.RecordAt.{len_of}
use Rattle.amq_model.specs.Answers.{history_of}
use Rattle.amq_model.specs.Legal.{end_of, rolled_back}
use Rattle.amq_model.specs.Calls.{Past}
use Rattle.amq_model.specs.Leaves.{Told}
use Rattle.amq_pool.specs.declared.pool.PoolFile.{PoolFile}
use Rattle.amq_pool.specs.Pools.{PoolOf, numbered_file}
use Rattle.amq_engine.specs.declared.tail.Tail.{Tail}
use Rattle.amq_engine.specs.Lists.{Lists, with_step, steps_in}
use Rattle.amq_engine.specs.Engine.{IsBlank, passes, readied, written_out, gone_on, next_file, end_of_tail, placed_behind, receipted, Waits, Wrote}
use Rattle.amq_engine.specs.Opening.{HasNumbers, EndsIn, AreFirstRollbacks, rollback_behind, rollbacks_behind}
use Rattle.amq_engine.proofs.History.{history-snoc}

-- ---- one behind the other

-- where a list of records ends, by its last one
end_is_last : (end : ℕ) (q : Placed) (qs : List Placed) → fold (λ _ p. p.place + len_of p.rec) end (q ∷ qs) ≡ end_of (q ∷ qs)
end_is_last end q [] = refl
end_is_last end q (s ∷ ss) = end_is_last (q.place + len_of q.rec) s ss

pub end_is : (history : List Placed) → fold (λ _ p. p.place + len_of p.rec) 16 history ≡ end_of history
end_is [] = refl
end_is (q ∷ qs) = end_is_last 16 q qs

-- one more of them
take_next : (config : Config) (file end : ℕ) (txs : List ℕ) (n tx : ℕ) → slice_get txs n ≡ Some tx → take (suc n) (rollbacks_behind config file end txs)
    ≡ take n (rollbacks_behind config file end txs) ++ rollback_behind config (fold (λ _ p. p.file) file (take n (rollbacks_behind config file end txs))) (fold (λ _ p. p.place + len_of p.rec) end (take n (rollbacks_behind config file end txs))) tx ∷ []
take_next config file end [] n tx there = absurd (let e : None ≡ Some tx = there in cc)
take_next config file end (x ∷ xs) zero tx there = let same : x ≡ tx = let e : Some x ≡ Some tx = there in cc in ap (λ (k : ℕ). rollback_behind config file end k ∷ []) same
take_next config file end (x ∷ xs) (suc n) tx there =
    let p = rollback_behind config file end x in ap (λ (ps : List Placed). p ∷ ps) (take_next config p.file (p.place + len_of p.rec) xs n tx there)

-- as many as there are transactions
pub take_every : (config : Config) (file end : ℕ) (txs : List ℕ) → take (length txs) (rollbacks_behind config file end txs) ≡ rollbacks_behind config file end txs
take_every config file end [] = refl
take_every config file end (x ∷ xs) = let p = rollback_behind config file end x in ap (λ (ps : List Placed). p ∷ ps) (take_every config p.file (p.place + len_of p.rec) xs)

-- ---- one rollback

-- behind the move that it needs it stands where it should
pub placed_is : (config : Config) (m f : Bool) (p : PoolOf) (t : Tail) (tx : ℕ) → passes config.file_size (end_of_tail t) (Some 18) ≡ m → p.prepared ≡ [] → p.highest ≡ t.file.id → placed_behind (readied m f p t) (r.Rollback tx) ≡ rollback_behind config t.file.id (end_of_tail t) tx
placed_is config true f p t tx is none top = (let e : next_file p ≡ numbered_file (p.highest + 1) = ap (λ (l : List PoolFile). elim l [ [] ↦ numbered_file (p.highest + 1) | f ∷ fs ↦ f ]) none in
    ap (λ (g : PoolFile). placed_behind (gone_on g (written_out t)) (r.Rollback tx)) e)
    ∙ ap (λ (n : ℕ). place (n + 1) 16) top
    ∙ sym (ap (λ (b : Bool). cond b (place (t.file.id + 1) 16) (place t.file.id (end_of_tail t))) is)
  where
    place : ℕ → ℕ → Placed
    place file at = record { file = file; place = at; compact = 0; rec = r.Rollback tx }
placed_is config false f p t tx is none top = by f ∙ sym (ap (λ (b : Bool). cond b (place (t.file.id + 1) 16) (place t.file.id (end_of_tail t))) is)
  where
    place : ℕ → ℕ → Placed
    place file at = record { file = file; place = at; compact = 0; rec = r.Rollback tx }

    by : (f : Bool) → placed_behind (readied false f p t) (r.Rollback tx) ≡ place t.file.id (end_of_tail t)
    by true = ap (λ (n : ℕ). place t.file.id n) (omega arith)
    by false = refl

-- ---- the steps

-- receipts don't change them
steps_receipted : (b : Bool) (count moment : ℕ) (lists : Option Lists) → steps_in (receipted b count moment lists) ≡ steps_in lists
steps_receipted false count moment lists = refl
steps_receipted true count moment None = refl
steps_receipted true count moment (Some l) = refl

pub same_steps : (b : Bool) (count moment : ℕ) (lists lists' : Option Lists) → lists' ≡ receipted b count moment lists → steps_in lists' ≡ steps_in lists
same_steps b count moment lists lists' is = ap steps_in is ∙ steps_receipted b count moment lists

-- nor does a command that isn't made ready for
pub steps_failed : (P Q : Type 0) (moment : ℕ) (t u : Tail) (lists lists' : Option Lists) → Waits t lists u lists' ⊎ (P × Q × Wrote moment t lists u lists') → steps_in lists' ≡ steps_in lists
steps_failed P Q moment t u lists lists' (inl waits) = ap steps_in waits.1
steps_failed P Q moment t u lists lists' (inr (p, q, wrote)) = same_steps _ t.appended _ lists lists' wrote.1

-- one more is noted
pub steps_more : (x : Step) (lists lists' : Option Lists) → lists' ≡ option_map (with_step x) lists → steps_in lists' ≡ option_map (λ ss. ss ++ x ∷ []) (steps_in lists)
steps_more x lists lists' is = ap steps_in is ∙ by lists where
  by : (o : Option Lists) → steps_in (option_map (with_step x) o) ≡ option_map (λ ss. ss ++ x ∷ []) (steps_in o)
  by None = refl
  by (Some l) = refl

-- what is so of the steps is so where they are the same
pub steps_so : (P : List Step → Type 0) (lists lists' : Option Lists) → steps_in lists' ≡ steps_in lists → IfSome lists (λ l. P l.steps) → IfSome lists' (λ l. P l.steps)
steps_so P None None is so = tt
steps_so P None (Some m) is so = absurd cc
steps_so P (Some l) None is so = tt
steps_so P (Some l) (Some m) is so = let e : l.steps ≡ m.steps = cc in subst P e so

-- what follows of two facts of the steps
pub both_so : (P Q R : List Step → Type 0) (lists : Option Lists) → ((ss : List Step) → P ss → Q ss → R ss) → IfSome lists (λ l. P l.steps) → IfSome lists (λ l. Q l.steps) → IfSome lists (λ l. R l.steps)
both_so P Q R None f p q = tt
both_so P Q R (Some l) f p q = f l.steps p q

-- ---- all of them

-- so many steps, and each has its rollback
abbrev pub ArePlaced : Config → ℕ → List ℕ → ℕ → List Step → Type 0
ArePlaced config first txs done steps = (length steps ≡ done) × (history_of steps ≡ take done (rollbacks_behind config first 16 txs))

placed_more : (config : Config) (first : ℕ) (txs : List ℕ) (done tx file end : ℕ) (steps : List Step) (x : Step) → slice_get txs done ≡ Some tx → ArePlaced config first txs done steps → EndsIn first (history_of steps) file end → x.placed ≡ Some (rollback_behind config file end tx)
    → ArePlaced config first txs (suc done) (steps ++ x ∷ [])
placed_more config first txs done tx file end steps x there are ends placed =
    let front = take done (rollbacks_behind config first 16 txs) in
    let file_is : fold (λ _ p. p.file) first front ≡ file = sym (ends.0 ∙ ap (λ (ps : List Placed). fold (λ _ p. p.file) first ps) are.1) in
    let end_at : fold (λ _ p. p.place + len_of p.rec) 16 front ≡ end = end_is front ∙ sym (ends.1 ∙ ap end_of are.1) in (
      omega (arith, length-append steps (x ∷ []), are.0),
      history-snoc steps x
          ∙ ap (λ (o : Option Placed). history_of steps ++ cons_option o []) placed
          ∙ ap (λ (ps : List Placed). ps ++ rollback_behind config file end tx ∷ []) are.1
          ∙ ap (λ (k : ℕ). front ++ rollback_behind config k end tx ∷ []) (sym file_is)
          ∙ ap (λ (k : ℕ). front ++ rollback_behind config (fold (λ _ p. p.file) first front) k tx ∷ []) (sym end_at)
          ∙ sym (take_next config first 16 txs done tx there),
    )

pub placed_next : (config : Config) (first : ℕ) (txs : List ℕ) (done tx file end : ℕ) (lists lists' : Option Lists) (x : Step) → slice_get txs done ≡ Some tx → IfSome lists (λ l. ArePlaced config first txs done l.steps) → IfSome lists (λ l. EndsIn first (history_of l.steps) file end)
    → x.placed ≡ Some (rollback_behind config file end tx) → steps_in lists' ≡ option_map (λ ss. ss ++ x ∷ []) (steps_in lists) → IfSome lists' (λ l. ArePlaced config first txs (done + 1) l.steps)
placed_next config first txs done tx file end None None x there are ends placed is = tt
placed_next config first txs done tx file end None (Some m) x there are ends placed is = absurd cc
placed_next config first txs done tx file end (Some l) None x there are ends placed is = tt
placed_next config first txs done tx file end (Some l) (Some m) x there are ends placed is =
    let e : l.steps ++ x ∷ [] ≡ m.steps = cc in
    let n : suc done ≡ done + 1 = omega arith in
    subst (ArePlaced config first txs (done + 1)) e (subst (λ (k : ℕ). ArePlaced config first txs k (l.steps ++ x ∷ [])) n (placed_more config first txs done tx file end l.steps x there are ends placed))

-- said by how many steps there are
pub placed_front : (config : Config) (first : ℕ) (txs : List ℕ) (done : ℕ) (steps : List Step) → ArePlaced config first txs done steps → history_of steps ≡ take (length steps) (rollbacks_behind config first 16 txs)
placed_front config first txs done steps are = are.1 ∙ ap (λ (k : ℕ). take k (rollbacks_behind config first 16 txs)) (sym are.0)

-- ---- the opening

-- all of them, where each transaction has its step
pub placed_all : (config : Config) (first : ℕ) (txs : List ℕ) (steps : List Step) → history_of steps ≡ take (length steps) (rollbacks_behind config first 16 txs) → length steps ≡ length txs → history_of steps ≡ rollbacks_behind config first 16 txs
placed_all config first txs steps front all = front ∙ ap (λ (k : ℕ). take k (rollbacks_behind config first 16 txs)) all ∙ take_every config first 16 txs

-- the file that was begun has the number behind all that there were
pub told_rollbacks : (config : Config) (files first : ℕ) (base : List Placed) (txs : List ℕ) (lists : Option Lists) (h : Option Past) → txs ≡ rolled_back base → IfSome lists (λ l. l.base ≡ base) → IfSome lists (λ l. history_of l.steps ≡ take (length l.steps) (rollbacks_behind config first 16 txs))
    → Told h (λ s. (before : ℕ) × HasNumbers files before s × (first ≡ before + 1) × (before < 2147483647)) → IfSome lists (λ l. IsBlank l ⊎ Told h (AreFirstRollbacks config l))
told_rollbacks config files first base txs None h same based placed had = tt
told_rollbacks config files first base txs (Some l) None same based placed had = inr tt
told_rollbacks config files first base txs (Some l) (Some p) same based placed had = inr (record {
  files = files;
  before = had.0;
  had = had.1;
  placed = placed ∙ ap (λ (k : ℕ). take (length l.steps) (rollbacks_behind config k 16 txs)) had.2 ∙ ap (λ (ts : List ℕ). take (length l.steps) (rollbacks_behind config (had.0 + 1) 16 ts)) (same ∙ ap rolled_back (sym based));
})
