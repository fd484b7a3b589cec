-- The headline, carried to the end of a run.
use Rattle.std.proofs.Common.{◌≡◌, ℕ, ◌-◌, ◌^◌, ◌<◌, ◌≤◌, List, [], ◌∷◌, length, slice_index, Option, None, Some, Ok, refl, sym, ap, subst, ◌∙◌, arith}
use Rattle.std.specs.Prelude.{Result}
use Rattle.std.specs.FinMap as finite
use Rattle.amq_model.specs.declared.refusal.Refusal.{Refusal}
use Rattle.amq_model.specs.Answers.{history_of}
use Rattle.amq_model.specs.Calls.{Past}
use Rattle.amq_model.specs.Files.{File, IsFileImage}
use Rattle.amq_model.specs.Crash.{NoFalseRecord}
use Rattle.amq_model.specs.Headline.{LoadsKept, RecoversSince}
use Rattle.amq_model.specs.Leaves.{Leaves, Unchanged, Syncs, IsSyncedFile, LeavesNothingNew}
use Rattle.amq_model.proofs.Moments.{still}
use Rattle.amq_model.proofs.Recovering.{left_still, nothing_new}
use Rattle.amq_scan.proofs.Parts.{all_by, all_has}
use Rattle.amq_engine.specs.declared.chronicle.Receipted.{Receipted}
use Rattle.amq_engine.specs.Lists.{Lists}
use Rattle.amq_engine.specs.Receipts.{IsLastCount, IsCrashSafe, AreInOrder, FollowUpTo, BeginsBySyncs}
use Rattle.amq_engine.specs.Engine.{durable_after}

-- receipts stay in order
follow_later : (moment later : ℕ) (r : Receipted) (rs : List Receipted) → moment ≤ later → FollowUpTo moment r rs → FollowUpTo later r rs
follow_later moment later r [] on le = omega (arith, on, le)
follow_later moment later r (s ∷ ss) on follows = (follows.0, follow_later moment later s ss on follows.1)

order_later : (moment later : ℕ) (rs : List Receipted) → moment ≤ later → AreInOrder moment rs → AreInOrder later rs
order_later moment later [] on order = tt
order_later moment later (r ∷ rs) on order = (order.0, follow_later moment later r rs on order.1)

-- through calls that only ask
pub safe_still : (a b : Option Past) (moment later wanted : ℕ) (l : Lists) → Leaves Unchanged Unchanged a b → moment ≤ later → IsCrashSafe a moment wanted l → IsCrashSafe b later wanted l
safe_still a b moment later wanted l asks on safe = record {
  recovers = all_by (λ (r : Receipted). r.moment < 2 ^ 64 - 1 → RecoversSince b r.moment wanted l.base (history_of l.steps) r.durable) l.receipts (λ r has early.
      left_still (λ reading image. NoFalseRecord reading image → LoadsKept l.base (history_of l.steps) r.durable wanted image) r.moment a b
      (all_has (λ (r : Receipted). r.moment < 2 ^ 64 - 1 → RecoversSince a r.moment wanted l.base (history_of l.steps) r.durable) l.receipts safe.recovers r has early) asks);
  counted = safe.counted;
  receipts = order_later moment later l.receipts on safe.receipts;
}

-- where nothing was opened
pub unopened_safe : (past : Option Past) (moment wanted : ℕ) → IsCrashSafe past moment wanted (record { base = []; steps = []; receipts = [] })
unopened_safe past moment wanted = record { recovers = λ k x lt. absurd (omega (arith, lt)); counted = λ k x lt. absurd (omega (arith, lt)); receipts = tt }

-- no call was made
pub same_nothing_new : (past : Option Past) → LeavesNothingNew past past
same_nothing_new past = nothing_new past past (still Unchanged Unchanged past (λ s. refl))

-- a last count is that of a receipt
pub last_some : (count : ℕ) (rs : List Receipted) → IsLastCount count rs → rs ≡ [] → ⊥
last_some count [] last none = last
last_some count (r ∷ rs) last none = absurd cc

pub last_of_all : (result : Result ℕ Refusal) (count appended durable : ℕ) (n : ℕ) (rs : List Receipted) → result ≡ Ok count → count ≡ appended → appended ≡ n → IsLastCount (durable_after result durable) rs → IsLastCount n rs
last_of_all result count appended durable n rs is all long last = subst (λ (c : ℕ). IsLastCount c rs) (ap (λ (r : Result ℕ Refusal). durable_after r durable) is ∙ all ∙ long) last

-- ---- syncs

-- what may be left of a file behind a sync might have been left before it
image_before : (o f : Option File) (left : Option (List ℕ)) → IsSyncedFile o f → IsFileImage f left → IsFileImage o left
image_before None None left synced is = is
image_before None (Some f) left synced is = absurd synced
image_before (Some o) None left synced is = absurd synced
image_before (Some o) (Some f) None synced is = absurd is
image_before (Some o) (Some f) (Some bytes) synced is = record {
  len = is.len ∙ ap length synced.0;
  same = λ i lt free. is.same i (subst (λ (bs : List ℕ). i < length bs) (sym synced.0) lt) (λ pending. free (synced.1 i pending)) ∙ ap (λ (bs : List ℕ). slice_index bs i) synced.0;
  bytes = is.bytes;
}

-- without a receipt there were only syncs
pub begins_bare : (a b : Option Past) (rs : List Receipted) → rs ≡ [] → BeginsBySyncs rs a b → Leaves Syncs Syncs a b
begins_bare a b rs none begins = let bare : BeginsBySyncs [] a b = subst (λ (rs : List Receipted). BeginsBySyncs rs a b) none begins in bare.0

-- calls that leave nothing but syncs leave nothing new
pub synced_nothing_new : (a b : Option Past) → Leaves Syncs Syncs a b → LeavesNothingNew a b
synced_nothing_new None b leaves = tt
synced_nothing_new (Some p) b leaves = subst (λ (h : Option Past). LeavesNothingNew (Some p) h) (sym leaves.1) (λ image left.
    let o = leaves.2.reads left.0 left.1 in
    (o.0, o.1, λ n. image_before (finite.get o.0 n) (finite.get left.0 n) (finite.get image n) (o.2 n) (left.2 n)))
