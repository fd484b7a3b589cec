-- What a crash leaves of a journal loads to a kept part of the history, and how receipts follow each other.
use Rattle.std.proofs.Common.{◌≡◌, inl, inr, ℕ, ◌+◌, ◌-◌, ◌<◌, ◌≤◌, ◌^◌, List, [], ◌∷◌, ◌++◌, length, Option, None, Some, refl, sym, ap, subst, ◌∙◌, arith}
use Rattle.std.specs.Prelude.{IfSome, option_map}
use Rattle.amq_model.specs.declared.config.Config.{Config}
use Rattle.amq_model.specs.declared.record.Placed.{Placed}
use Rattle.amq_model.specs.declared.history.Step.{Step}
use Rattle.amq_model.specs.Answers.{history_of}
use Rattle.amq_model.specs.Calls.{Past, counted}
use Rattle.amq_model.specs.Crash.{NoFalseRecord}
use Rattle.amq_model.specs.Headline.{LoadsKept, RecoversSince}
use Rattle.amq_model.specs.Legal.{AreLegalFrom}
use Rattle.amq_model.proofs.Recovering.{left_from}
use Rattle.amq_tx.specs.State.{TxState}
use Rattle.amq_scan.specs.Segments.{records_of}
use Rattle.amq_scan.proofs.Parts.{Has, all_by}
use Rattle.amq_pool.specs.Pools.{PoolOf}
use Rattle.amq_engine.specs.declared.chronicle.Receipted.{Receipted}
use Rattle.amq_engine.specs.declared.tail.Tail.{Tail}
use Rattle.amq_engine.specs.Engine.{Holds, AreKept, IsTold, records, Stage, IsValid}
use Rattle.amq_engine.specs.Lists.{Lists, with_step, with_receipt}
use Rattle.amq_engine.specs.Receipts.{FollowUpTo, AreInOrder, EndsWith, IsLastCount, IsCrashSafe}
use Rattle.amq_engine.proofs.Holding.{holds_loads, length-records}

-- ---- what is recovered

-- each receipt has what the headline says
kept_recover : (config : Config) (wanted durable : ℕ) (base known history told : List Placed) (steps : List Step) (past : Option Past) (rs : List Receipted) → AreLegalFrom known config [] steps → history_of steps ≡ history → base ≡ known → told ≡ history → AreKept past wanted known durable history rs
    → (q : Receipted) → Has rs q → q.moment < 2 ^ 64 - 1 → RecoversSince past q.moment wanted base told q.durable
kept_recover config wanted durable base known history told steps past [] legal is based same kept q has low = absurd has
kept_recover config wanted durable base known history told steps past (r ∷ rs) legal is based same kept q (inr has) low = kept_recover config wanted durable base known history told steps past rs legal is based same kept.1 q has low
kept_recover config wanted durable base known history told steps past (r ∷ rs) legal is based same kept q (inl e) low =
    subst (λ (q : Receipted). q.moment < 2 ^ 64 - 1 → RecoversSince past q.moment wanted base told q.durable) e
    (λ early. subst (λ (b : List Placed). RecoversSince past r.moment wanted b told r.durable) (sym based)
    (subst (λ (ps : List Placed). RecoversSince past r.moment wanted known ps r.durable) (sym same)
    (left_from (Holds wanted known r.durable history) (λ reading image. NoFalseRecord reading image → LoadsKept known history r.durable wanted image) r.moment past
    (λ s reading image holds reads left none_false. holds_loads config wanted r.durable known history steps s reading image legal is holds reads left none_false)
    (kept.0.1 early)))) low

-- no receipt counts more than there is
kept_count : (wanted : ℕ) (base : List Placed) (durable count : ℕ) (history : List Placed) (past : Option Past) (rs : List Receipted) → durable ≤ count → AreKept past wanted base durable history rs → (q : Receipted) → Has rs q → q.durable ≤ count
kept_count wanted base durable count history past [] most kept q has = absurd has
kept_count wanted base durable count history past (r ∷ rs) most kept q (inl same) = subst (λ (q : Receipted). q.durable ≤ count) same (omega (arith, kept.0.0, most))
kept_count wanted base durable count history past (r ∷ rs) most kept q (inr has) = kept_count wanted base durable count history past rs most kept.1 q has

-- the chronicle is crash safe
pub told_safe : (past : Option Past) (moment : ℕ) (config : Config) (base : List Placed) (durable : ℕ) (history : List Placed) (steps : List Step) (l : Lists) → history_of steps ≡ history → AreLegalFrom base config [] steps → durable ≤ length history → IsTold past config.user_version base durable history steps l
    → AreInOrder moment l.receipts → IsCrashSafe past moment config.user_version l
told_safe past moment config base durable history steps l is legal most told order =
    let wanted : ℕ = config.user_version in
    let same : history_of l.steps ≡ history = ap history_of told.same ∙ is in
    record {
      counted = all_by (λ (r : Receipted). r.durable ≤ length (history_of l.steps)) l.receipts (kept_count wanted base durable (length (history_of l.steps)) history past l.receipts (omega (arith, most, ap length same)) told.kept);
      recovers = all_by (λ (r : Receipted). r.moment < 2 ^ 64 - 1 → RecoversSince past r.moment wanted l.base (history_of l.steps) r.durable) l.receipts
          (kept_recover config wanted durable l.base base history (history_of l.steps) steps past l.receipts legal is told.base same told.kept);
      receipts = order;
    }

pub valid_safe : (stage : Stage) (past : Option Past) (moment : ℕ) (lists : Option Lists) (room : ℕ) (config : Config) (table : TxState) (pool : PoolOf) (tail : Tail) → IsValid stage past moment lists room config table pool tail → IfSome lists (IsCrashSafe past moment config.user_version)
valid_safe stage past moment None room config table pool tail v = tt
valid_safe stage past moment (Some l) room config table pool tail v =
    let s = v.sound.parts in
    let some : s.sure ≤ length s.items = s.some in
    let durable : tail.durable ≡ length (records_of s.closed) + s.sure = s.durable in
    told_safe past moment config s.base tail.durable (records s.closed tail.file s.items) s.steps l s.placed s.each (omega (arith, some, durable, length-records s.closed tail.file s.items)) v.sound.told v.order

-- ---- receipts

-- one receipt more, of a flush that wrote and synced, or of none
follow_more : (moment later count durable n : ℕ) (r : Receipted) (rs : List Receipted) → durable ≤ count → moment ≤ later → (durable < count → later < 2 ^ 64 - 1 → moment + 2 ≤ later) → EndsWith durable r rs → FollowUpTo moment r rs
    → FollowUpTo later r (rs ++ record { durable = count; moment = later; steps = n } ∷ [])
follow_more moment later count durable n r [] most on apart ends order = (record { counts = omega (arith, ends, most); moments = omega (arith, order, on); apart = λ more low. omega (arith, apart (omega (arith, ends, more)) low, order) }, omega arith)
follow_more moment later count durable n r (s ∷ ss) most on apart ends order = (order.0, follow_more moment later count durable n s ss most on apart ends order.1)

pub order_more : (moment later count durable n : ℕ) (rs : List Receipted) → durable ≤ count → moment ≤ later → (durable < count → later < 2 ^ 64 - 1 → moment + 2 ≤ later) → IsLastCount durable rs → AreInOrder moment rs
    → AreInOrder later (rs ++ record { durable = count; moment = later; steps = n } ∷ [])
order_more moment later count durable n [] most on apart last order = absurd last
order_more moment later count durable n (r ∷ rs) most on apart last order = (order.0, follow_more moment later count durable n r rs most on apart last order.1)

ends_more : (count later n : ℕ) (r : Receipted) (rs : List Receipted) → EndsWith count r (rs ++ record { durable = count; moment = later; steps = n } ∷ [])
ends_more count later n r [] = refl
ends_more count later n r (s ∷ ss) = ends_more count later n s ss

pub last_more : (count later n : ℕ) (rs : List Receipted) → IsLastCount count (rs ++ record { durable = count; moment = later; steps = n } ∷ [])
last_more count later n [] = refl
last_more count later n (r ∷ rs) = ends_more count later n r rs

follow_later : (moment later : ℕ) (r : Receipted) (rs : List Receipted) → moment ≤ later → FollowUpTo moment r rs → FollowUpTo later r rs
follow_later moment later r [] on order = omega (arith, order, on)
follow_later moment later r (s ∷ ss) on order = (order.0, follow_later moment later s ss on order.1)

-- time goes on
pub order_later : (moment later : ℕ) (rs : List Receipted) → moment ≤ later → AreInOrder moment rs → AreInOrder later rs
order_later moment later [] on order = tt
order_later moment later (r ∷ rs) on order = (order.0, follow_later moment later r rs on order.1)

-- the same of what is told, if something is
pub told_later : (moment later : ℕ) (lists : Option Lists) → moment ≤ later → IfSome lists (λ l. AreInOrder moment l.receipts) → IfSome lists (λ l. AreInOrder later l.receipts)
told_later moment later None on order = tt
told_later moment later (Some l) on order = order_later moment later l.receipts on order

pub told_stepped : (P : Lists → Type 0) (s : Step) → ((l : Lists) → P l → P (with_step s l)) → (lists lists' : Option Lists) → lists' ≡ option_map (with_step s) lists → IfSome lists P → IfSome lists' P
told_stepped P s goes None lists' is p = subst (λ (l : Option Lists). IfSome l P) (sym is) tt
told_stepped P s goes (Some l) lists' is p = subst (λ (l : Option Lists). IfSome l P) (sym is) (goes l p)

-- behind a flush that wrote and synced
pub receipted_order : (moment later m count durable : ℕ) (lists lists' : Option Lists) → durable ≤ count → m ≡ later → later ≡ counted (counted moment) → lists' ≡ option_map (with_receipt count m) lists
    → IfSome lists (λ l. IsLastCount durable l.receipts) → IfSome lists (λ l. AreInOrder moment l.receipts) → IfSome lists' (λ l. AreInOrder later l.receipts)
receipted_order moment later m count durable None lists' most now twice is last order = subst (λ (l : Option Lists). IfSome l (λ l. AreInOrder later l.receipts)) (sym is) tt
receipted_order moment later m count durable (Some l) lists' most now twice is last order =
    subst (λ (l : Option Lists). IfSome l (λ l. AreInOrder later l.receipts)) (sym is)
    (subst (λ (n : ℕ). AreInOrder later (l.receipts ++ record { durable = count; moment = n; steps = length l.steps } ∷ [])) (sym now)
    (order_more moment later count durable (length l.steps) l.receipts most (omega (arith, twice)) (λ more low. omega (arith, twice, low)) last order))

pub receipted_last : (m count : ℕ) (lists lists' : Option Lists) → lists' ≡ option_map (with_receipt count m) lists → IfSome lists' (λ l. IsLastCount count l.receipts)
receipted_last m count None lists' is = subst (λ (l : Option Lists). IfSome l (λ l. IsLastCount count l.receipts)) (sym is) tt
receipted_last m count (Some l) lists' is = subst (λ (l : Option Lists). IfSome l (λ l. IsLastCount count l.receipts)) (sym is) (last_more count m (length l.steps) l.receipts)
