-- A journal through a flush.
use Rattle.std.proofs.Common.{◌≡◌, ◌⊎◌, inl, inr, true, ℕ, ◌+◌, ◌≤◌, arith, sym, Bool, false, cond, List, [], length, Option, None, Some, refl, ap, subst, ◌∙◌}
use Rattle.std.specs.Prelude.{◌↔◌, IsTrue, IfSome, option_map, is_some}
use Rattle.std.proofs.lemmas.Bool.{false≢true}
use Rattle.amq_model.specs.declared.config.Config.{Config}
use Rattle.amq_model.specs.Calls.{Past, counted}
use Rattle.amq_model.specs.Files.{FileName}
use Rattle.amq_model.specs.Leaves.{Leaves, IsAt}
use Rattle.amq_buffer.specs.Buffered.{Buffered}
use Rattle.amq_pool.specs.declared.pool.PoolFile.{PoolFile}
use Rattle.amq_pool.specs.Pools.{PoolOf, ids_of}
use Rattle.amq_engine.specs.Lists.{Lists, with_receipt}
use Rattle.amq_engine.specs.Puts.{Puts, Put}
use Rattle.amq_tx.specs.State.{TxState}
use Rattle.amq_engine.specs.declared.tail.Tail.{Tail}
use Rattle.amq_model.specs.declared.refusal.DiskCall.{DiskCall}
use Rattle.amq_engine.specs.Engine.{EngineOf, Parts, Stage, IsValid, end_of_tail, written_out, receipted, flushed}
use Rattle.amq_engine.proofs.Sound.{parts_put, sound_failed, sound_put, put_out, all_durable}
use Rattle.amq_engine.proofs.Recovering.{told_later, receipted_order, receipted_last}

-- a buffer that isn't empty has bytes
pub some_bytes : (empty : Bool) (bytes : List ℕ) → (IsTrue empty ↔ (bytes ≡ [])) → empty ≡ false → bytes ≡ [] → ⊥
some_bytes empty bytes told not_empty none = false≢true (sym not_empty ∙ told.1 none)

-- the bytes were put, synced, and the receipt noted
pub valid_put : (stage : Stage) (a b : Option Past) (moment later m : ℕ) (lists lists' : Option Lists) (room room' : ℕ) (config : Config) (table : TxState) (pool : PoolOf) (t : Tail) (name : FileName) (bytes : List ℕ) → name ≡ t.file.name → bytes ≡ t.buffer.bytes → (t.buffer.bytes ≡ [] → ⊥)
    → Leaves (Puts name t.end bytes) (Put name t.end bytes) a b → IfSome b (IsAt m) → m ≡ later → later ≡ counted (counted moment) → lists' ≡ option_map (with_receipt t.appended m) lists → IsValid stage a moment lists room config table pool t → IsValid stage b later lists' room' config table pool (put_out t)
unfolding sound_put parts_put
valid_put stage a b moment later m lists lists' room room' config table pool t name bytes named same waits leaves at now twice noted v = record {
  sound = sound_put a b lists room config table pool t v.ranges v.sound waits lists' room' m (let P : FileName → List ℕ → Type 0 = λ n x. Leaves (Puts n t.end x) (Put n t.end x) a b in subst (P t.file.name) same (subst (λ n. P n bytes) named leaves)) at noted;
  ranges = v.ranges;
  opening = v.opening;
  order = receipted_order moment later m t.appended t.durable lists lists' (all_most t v.sound.parts) now twice noted v.last v.order;
  spent = v.spent;
  last = receipted_last m t.appended lists lists' noted;
} where
  all_most : (t : Tail) → Parts config table pool t → t.durable ≤ t.appended
  all_most t p = omega (arith, p.durable, p.count, p.some)

-- a call failed, or wanted memory
pub valid_failed : (stage : Stage) (a b : Option Past) (moment later : ℕ) (lists : Option Lists) (room : ℕ) (config : Config) (table : TxState) (pool : PoolOf) (t : Tail) (name : FileName) (bytes : List ℕ) → name ≡ t.file.name → bytes ≡ t.buffer.bytes → (t.buffer.bytes ≡ [] → ⊥)
    → Leaves (Puts name t.end bytes) (Puts name t.end bytes) a b → moment ≤ later → IsValid stage a moment lists room config table pool t → IsValid stage b later lists room config table pool t
unfolding sound_failed
valid_failed stage a b moment later lists room config table pool t name bytes named same waits leaves on v = record {
  sound = sound_failed a b lists room config table pool t v.ranges v.sound waits (let P : FileName → List ℕ → Type 0 = λ n x. Leaves (Puts n t.end x) (Puts n t.end x) a b in subst (P t.file.name) same (subst (λ n. P n bytes) named leaves));
  ranges = v.ranges;
  opening = v.opening;
  order = told_later moment later lists on v.order;
  spent = v.spent;
  last = v.last;
}

-- a tail by its parts
pub tail_by : (f : PoolFile) (b b' : Buffered) (end end' appended durable : ℕ) → b ≡ b' → end ≡ end' → (let t : Tail = record { file = f; buffer = b; end = end; appended = appended; durable = durable } in t) ≡ record { file = f; buffer = b'; end = end'; appended = appended; durable = durable }
tail_by f b b' end end' appended durable same at = cc

-- behind a flush that answered Ok all is durable
pub written_durable : (config : Config) (table : TxState) (pool : PoolOf) (t : Tail) → Parts config table pool t → (written_out t).durable ≡ t.appended
written_durable config table pool t p = by t.buffer.since refl where
  by : (since : Option ℕ) → t.buffer.since ≡ since → cond (is_some t.buffer.since) t.appended t.durable ≡ t.appended
  by None is = ap (λ (o : Option ℕ). cond (is_some o) t.appended t.durable) is ∙ all_durable config table pool t p (p.first.0 is)
  by (Some first) is = ap (λ (o : Option ℕ). cond (is_some o) t.appended t.durable) is

-- what clauses see of an engine with this pool and this tail
abbrev pub seen : {D C : Type 0} → D → C → Config → PoolOf → Tail → ℕ → Option DiskCall → EngineOf D C
seen disk chronicle config pool t clock closed = record { disk = disk; chronicle = chronicle; config = config; appended = t.appended; durable = t.durable; waiting = length t.buffer.bytes; since = t.buffer.since; file = t.file.id; end = end_of_tail t; highest = pool.highest; free = ids_of pool.prepared; clock = clock; closed = closed }

-- behind a flush
pub seen_flushed : {D C : Type 0} (old : EngineOf D C) (was disk : D) (told chronicle : C) (config : Config) (pool : PoolOf) (t u : Tail) (clock : ℕ) (closed : Option DiskCall) → seen was told config pool t clock closed ≡ old → u ≡ written_out t → (written_out t).durable ≡ t.appended
    → seen disk chronicle config pool u clock closed ≡ record (flushed old) { disk = disk; chronicle = chronicle }
seen_flushed old was disk told chronicle config pool t u clock closed is went all =
    ap (λ (x : Tail). seen disk chronicle config pool x clock closed) went
    ∙ ap (λ (n : ℕ). record (seen disk chronicle config pool (written_out t) clock closed) { durable = n }) all
    ∙ seen_by
    ∙ ap (λ (e : EngineOf _ _). record (flushed e) { disk = disk; chronicle = chronicle }) is
  where
    seen_by : record (seen disk chronicle config pool (written_out t) clock closed) { durable = t.appended } ≡ record (flushed (seen was told config pool t clock closed)) { disk = disk; chronicle = chronicle }
    seen_by = ap (λ (n : ℕ). record (flushed (seen was told config pool t clock closed)) { disk = disk; chronicle = chronicle; end = n }) (let e : end_of_tail t + 0 ≡ end_of_tail t = omega arith in e)

-- the receipt of a flush that answered Ok, by the moment before it
pub receipted_two_later : (since : Option ℕ) (appended m moment : ℕ) (lists : Option Lists) → (since ≡ None) ⊎ (m ≡ counted (counted moment)) → receipted (is_some since) appended m lists ≡ receipted (is_some since) appended (counted (counted moment)) lists
receipted_two_later None appended m moment lists told = refl
receipted_two_later (Some first) appended m moment lists (inl none) = absurd cc
receipted_two_later (Some first) appended m moment lists (inr twice) = ap (λ (n : ℕ). receipted true appended n lists) twice
