-- What an opening leaves, once it is complete or where it failed.
use Rattle.std.proofs.Common.{◌≡◌, ◌⊎◌, inl, inr, ℕ, ◌+◌, ◌-◌, ◌^◌, ◌<◌, ◌≤◌, Bool, true, false, ltb, List, [], ◌++◌, length, Option, None, Some, Result, Ok, Err, refl, sym, ◌∙◌, ap, subst, arith}
use Rattle.std.specs.Prelude.{IfSome, OnErr, min, option_map}
use Rattle.std.proofs.lemmas.Bool.{ltb-true, ltb-false}
use Rattle.std.proofs.lemmas.List.{length-append}
use Rattle.amq_model.specs.declared.config.Config.{Config}
use Rattle.amq_model.specs.declared.record.Placed.{Placed}
use Rattle.amq_model.specs.declared.history.Step.{Step}
use Rattle.amq_model.specs.declared.directory.OpenFault.{OpenFault}
use Rattle.amq_model.specs.declared.directory.OpenFault.TheVariants as o
use Rattle.amq_model.specs.Answers.{history_of}
use Rattle.amq_model.specs.Calls.{Past, content}
use Rattle.amq_model.specs.Files.{Files}
use Rattle.amq_model.specs.Leaves.{Told}
use Rattle.amq_model.specs.Legal.{rolled_back, AreLegalOfRefused}
use Rattle.amq_io.specs.Cause.{Faults, NoneFailed}
use Rattle.amq_scan.specs.Segments.{records_of}
use Rattle.amq_tx.specs.State.{TxState}
use Rattle.amq_pool.specs.declared.pool.PoolFile.{PoolFile}
use Rattle.amq_pool.specs.Pools.{PoolOf, ids_of}
use Rattle.amq_engine.specs.declared.chronicle.Receipted.{Receipted}
use Rattle.amq_engine.specs.declared.tail.Tail.{Tail}
use Rattle.amq_engine.specs.Lists.{Lists}
use Rattle.amq_engine.specs.Directory.{files_from}
use Rattle.amq_engine.specs.Engine.{Stage, rolling, IsValid, IsBlank, AreSpentAtLast, with_files}
use Rattle.amq_engine.specs.Opening.{HasBase, HasNumbers, AreRolledBack, EndsIn, IsFilled, HasOpenCause, HasRollCause, NeedsFile, rollbacks_behind}
use Rattle.amq_engine.specs.Receipts.{IsLastCount}
use Rattle.amq_engine.proofs.Receipts.{if_some}
use Rattle.amq_engine.proofs.History.{length-placed}
use Rattle.amq_engine.proofs.Sound.{all_durable}
use Rattle.amq_engine.proofs.Going.{files_many, files_are}

-- ---- the files

-- a pool without a file, with so many more
pub filled_by : (n file : ℕ) (p q : PoolOf) → q ≡ with_files n p → p.prepared ≡ [] → p.highest ≡ file → (q.highest ≡ file + n) × (q.prepared ≡ files_from (file + 1) n)
filled_by n file p q is none at = (
  ap (λ (r : PoolOf). r.highest) is ∙ (files_many n p).0 ∙ ap (λ (k : ℕ). k + n) at,
  ap (λ (r : PoolOf). r.prepared) is ∙ files_are n p ∙ ap (λ (l : List PoolFile). l ++ files_from (p.highest + 1) n) none ∙ ap (λ (k : ℕ). files_from (k + 1) n) at,
)

module _ (config : Config) (files before first file end highest n : ℕ) (free : List PoolFile) (txs : List ℕ) (history : List Placed) (placed : history ≡ rollbacks_behind config first 16 txs) (begun : first ≡ before + 1) (later : first ≤ file) (most : highest ≤ 2 ^ 31 - 1)
    (many : n ≡ min (config.min_files - (files + (file + 1 - first))) (2 ^ 31 - 1 - file)) (up : highest ≡ file + n) (prepared : free ≡ files_from (file + 1) n) (ends : EndsIn first history file end) where
  abbrev missing : ℕ
  missing = config.min_files - (files + (file + 1 - first))

  abbrev left : ℕ
  left = 2 ^ 31 - 1 - file

  filled : (s : Files) → HasNumbers files before s → before < 2 ^ 31 - 1 → IsFilled config txs history file end highest (ids_of free) s
  filled s had unspent = record {
    files = files;
    before = before;
    had = had;
    unspent = unspent;
    placed = placed ∙ ap (λ (k : ℕ). rollbacks_behind config k 16 txs) begun;
    begun = omega (arith, begun, later);
    within = omega (arith, up);
    most = most;
    ends = subst (λ (k : ℕ). EndsIn k history file end) begun ends;
    prepared = let rest : n ≡ highest - file = omega (arith, up) in ap ids_of prepared ∙ ap (λ (k : ℕ). ids_of (files_from (file + 1) k)) rest;
    enough = by (ltb missing left) refl;
    no_more = more (ltb 0 n) refl;
  }
    where
      -- as many as are missing, or as numbers are left
      by : (b : Bool) → ltb missing left ≡ b → (config.min_files ≤ files + (highest - before)) ⊎ (highest ≡ 2 ^ 31 - 1)
      by true e = inl (omega (arith, ltb-true missing left e, begun, later, most, many, up))
      by false e = inr (omega (arith, ltb-false missing left e, begun, later, most, many, up))

      more : (b : Bool) → ltb 0 n ≡ b → (highest ≡ file) ⊎ (files + (highest - before) ≤ config.min_files)
      more true e = inr (omega (arith, ltb-true 0 n e, begun, later, most, many, up))
      more false e = inl (omega (arith, ltb-false 0 n e, up))

-- so it is of what is told
pub told_filled : (config : Config) (files first file end highest n : ℕ) (free : List PoolFile) (txs : List ℕ) (base : List Placed) (lists : Option Lists) (h : Option Past) → first ≤ file → highest ≤ 2 ^ 31 - 1 → n ≡ min (config.min_files - (files + (file + 1 - first))) (2 ^ 31 - 1 - file) → highest ≡ file + n
    → free ≡ files_from (file + 1) n → IfSome lists (λ l. EndsIn first (history_of l.steps) file end) → Told h (λ s. (before : ℕ) × HasNumbers files before s × (first ≡ before + 1) × (before < 2 ^ 31 - 1))
    → txs ≡ rolled_back base → IfSome lists (λ l. l.base ≡ base) → IfSome lists (λ l. history_of l.steps ≡ rollbacks_behind config first 16 txs)
    → IfSome lists (λ l. Told h (IsFilled config (rolled_back l.base) (history_of l.steps) file end highest (ids_of free)))
told_filled config files first file end highest n free txs base None h later most many up prepared ends had same based placed = tt
told_filled config files first file end highest n free txs base (Some l) None later most many up prepared ends had same based placed = tt
told_filled config files first file end highest n free txs base (Some l) (Some p) later most many up prepared ends had same based placed =
    subst (λ (ts : List ℕ). IsFilled config ts (history_of l.steps) file end highest (ids_of free) (content p.start p.calls)) (same ∙ ap rolled_back (sym based))
    (filled config files had.0 first file end highest n free txs (history_of l.steps) placed had.2 later most many up prepared ends (content p.start p.calls) had.1 had.3)

-- ---- the chronicle

-- what is so of a base is so where it is the same
pub same_base : (P : List Placed → Type 0) (lists lists' : Option Lists) → option_map (λ l. l.base) lists' ≡ option_map (λ l. l.base) lists → IfSome lists (λ l. P l.base) → IfSome lists' (λ l. P l.base)
same_base P None None is has = tt
same_base P None (Some m) is has = absurd cc
same_base P (Some l) None is has = tt
same_base P (Some l) (Some m) is has = let e : l.base ≡ m.base = cc in subst P e has

module _ (past : Option Past) (moment : ℕ) (room : ℕ) (config : Config) (table : TxState) (pool : PoolOf) (t : Tail) (base : List Placed) (n : ℕ) where
  -- the chronicle has the base
  pub valid_base : (lists : Option Lists) → IsValid (rolling base n) past moment lists room config table pool t → IfSome lists (λ l. l.base ≡ base)
  valid_base None v = tt
  valid_base (Some l) v = v.sound.told.base ∙ v.opening.0

  -- and the rollbacks, all of them
  pub valid_rolled_back : (lists : Option Lists) → n ≡ length (rolled_back base) → IsValid (rolling base n) past moment lists room config table pool t → IfSome lists (λ l. AreRolledBack l.base l.steps)
  valid_rolled_back None all v = tt
  valid_rolled_back (Some l) all v =
      let p = v.sound.parts in
      subst (λ (b : List Placed). AreRolledBack b l.steps) (sym v.sound.told.base) (subst (λ (ss : List Step). AreRolledBack p.base ss) (sym v.sound.told.same) (v.opening.1 ∙ all ∙ sym (ap (λ (b : List Placed). length (rolled_back b)) v.opening.0), v.opening.3 ∙ all ∙ sym (ap (λ (b : List Placed). length (rolled_back b)) v.opening.0), v.opening.2))

  -- and each step was appended
  pub valid_appended : (lists : Option Lists) → IsValid (rolling base n) past moment lists room config table pool t → IfSome lists (λ l. length (history_of l.steps) ≡ length l.steps)
  valid_appended None v = tt
  valid_appended (Some l) v =
      let p = v.sound.parts in
      subst (λ (ss : List Step). length (history_of ss) ≡ length ss) (sym v.sound.told.same) (v.opening.3 ∙ sym v.opening.1)

  -- and none was refused
  pub valid_spent : (lists : Option Lists) → IsValid (rolling base n) past moment lists room config table pool t → IfSome lists (λ l. AreSpentAtLast [] l.steps)
  valid_spent None v = tt
  valid_spent (Some l) v = subst (λ (ss : List Step). AreSpentAtLast [] ss) (sym v.sound.told.same) v.spent

  -- and a receipt
  pub valid_noted : (P : Type 0) (lists : Option Lists) → IsValid (rolling base n) past moment lists room config table pool t → IfSome lists (λ l. l.receipts ≡ [] → P)
  valid_noted P lists v = if_some (λ l. IsLastCount t.durable l.receipts) (λ l. l.receipts ≡ [] → P) lists (λ l last none. absurd (some l last none)) v.last
    where
      some : (l : Lists) → IsLastCount t.durable l.receipts → l.receipts ≡ [] → ⊥
      some l last none = let F : List Receipted → Type 0 = λ rs. IsLastCount t.durable rs in subst F none last

-- where nothing waits the last receipt counts all appends
pub valid_counted : (stage : Stage) (past : Option Past) (moment : ℕ) (lists : Option Lists) (room : ℕ) (config : Config) (table : TxState) (pool : PoolOf) (t : Tail) → t.buffer.since ≡ None → IsValid stage past moment lists room config table pool t → IfSome lists (λ l. IsLastCount (length (history_of l.steps)) l.receipts)
valid_counted stage past moment None room config table pool t none v = tt
valid_counted stage past moment (Some l) room config table pool t none v =
    let p = v.sound.parts in
    let all : t.durable ≡ length (history_of l.steps) = all_durable config table pool t p (p.first.0 none) ∙ p.count ∙ ap (λ (n : ℕ). length (records_of p.closed) + n) (sym (length-placed t.file.id p.items)) ∙ sym (length-append (records_of p.closed) _) ∙ ap length (sym p.placed) ∙ ap (λ (ss : List Step). length (history_of ss)) (sym v.sound.told.same) in
    subst (λ (n : ℕ). IsLastCount n l.receipts) all v.last

-- before the first rollback
pub unstepped_legal : (config : Config) (lists : Option Lists) → IfSome lists (λ l. l.steps ≡ []) → IfSome lists (λ l. AreLegalOfRefused l.base l.steps config)
unstepped_legal config lists none = if_some (λ l. l.steps ≡ []) (λ l. AreLegalOfRefused l.base l.steps config) lists (λ l is. subst (λ (ss : List Step). AreLegalOfRefused l.base ss config) (sym is) (record { each = tt; opening = tt })) none

pub unstepped_spent : (lists : Option Lists) → IfSome lists (λ l. l.steps ≡ []) → IfSome lists (λ l. AreSpentAtLast [] l.steps)
unstepped_spent lists none = if_some (λ l. l.steps ≡ []) (λ l. AreSpentAtLast [] l.steps) lists (λ l is. subst (λ (ss : List Step). AreSpentAtLast [] ss) (sym is) tt) none

pub unstepped_appended : (lists : Option Lists) → IfSome lists (λ l. l.steps ≡ []) → IfSome lists (λ l. length (history_of l.steps) ≡ length l.steps)
unstepped_appended lists none = if_some (λ l. l.steps ≡ []) (λ l. length (history_of l.steps) ≡ length l.steps) lists (λ l is. subst (λ (ss : List Step). length (history_of ss) ≡ length ss) (sym is) refl) none

-- a fact holds of a refusal too
pub on_err : {T E : Type 0} (r : Result T E) (P : Type 0) → P → OnErr r P
on_err (Ok x) P p = tt
on_err (Err e) P p = p

-- ---- why it failed

-- a rollback that failed, behind calls of which none did
pub roll_cause : (fault : OpenFault) (config : Config) (lists : Option Lists) (old new : Option Past) (was mid now : Faults) → NoneFailed was mid → IfSome lists (λ l. Told old (HasBase config.user_version l.base)) → HasRollCause config fault lists mid now → HasOpenCause config fault lists old new was now
roll_cause o.NotBuilt config lists old new was mid now none based cause = absurd cause
roll_cause (o.Directory found) config lists old new was mid now none based cause = absurd cause
roll_cause (o.FileIdsSpent highest) config lists old new was mid now none based cause = ((omega (arith, none.0, cause.2.0), cause.2.1 ∙ none.1), inr (cause.0, both lists cause.1 based))
  where
    both : (lists : Option Lists) → IfSome lists (NeedsFile config) → IfSome lists (λ l. Told old (HasBase config.user_version l.base)) → IfSome lists (λ l. NeedsFile config l × Told old (HasBase config.user_version l.base))
    both None needs based = tt
    both (Some l) needs based = (needs, based)
roll_cause (o.Disk call) config lists old new was mid now none based cause = (omega (arith, none.0, cause.0), cause.1)
roll_cause o.NoMemory config lists old new was mid now none based cause = (omega (arith, none.0, cause.0), cause.1 ∙ none.1)

-- ---- what was noted

-- a chronicle with a receipt isn't blank
pub unblank : (lists : Option Lists) → IfSome lists (λ l. l.receipts ≡ [] → ⊥) → IfSome lists (λ l. l.receipts ≡ [] → IsBlank l)
unblank lists some = if_some (λ l. l.receipts ≡ [] → ⊥) (λ l. l.receipts ≡ [] → IsBlank l) lists (λ l no none. absurd (no none)) some
