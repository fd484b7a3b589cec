-- What the receipts say, from call to call.
use Rattle.std.proofs.Common.{ℕ, ◌-◌, ◌^◌, ◌<◌, ◌≤◌, List, [], ◌∷◌, ◌++◌, Option, None, Some, arith}
use Rattle.std.specs.Prelude.{IfSome, option_map}
use Rattle.amq_model.specs.declared.record.Placed.{Placed}
use Rattle.amq_model.specs.Calls.{Past}
use Rattle.amq_model.specs.Files.{Files}
use Rattle.amq_model.specs.Leaves.{Leaves, AllReads, HoldsSince}
use Rattle.amq_model.proofs.Keeping.{kept_from, kept_weaker}
use Rattle.amq_engine.specs.declared.chronicle.Receipted.{Receipted}
use Rattle.amq_engine.specs.Engine.{Holds, AreKept}
use Rattle.amq_engine.proofs.Holding.{holds_grows}

-- a fact about what may be told leads to another
pub if_some : {A : Type 0} (P Q : A → Type 0) (o : Option A) → ((x : A) → P x → Q x) → IfSome o P → IfSome o Q
if_some P Q None f h = tt
if_some P Q (Some x) f h = f x h

-- and so do two facts
pub both_some : {A : Type 0} (P Q R : A → Type 0) (o : Option A) → ((x : A) → P x → Q x → R x) → IfSome o P → IfSome o Q → IfSome o R
both_some P Q R None f p q = tt
both_some P Q R (Some x) f p q = f x p q

pub if_mapped : {A B : Type 0} (P : A → Type 0) (Q : B → Type 0) (g : A → B) (o : Option A) → ((x : A) → P x → Q (g x)) → IfSome o P → IfSome (option_map g o) Q
if_mapped P Q g None f h = tt
if_mapped P Q g (Some x) f h = f x h

-- the history grows
pub kept_grows : (wanted : ℕ) (base : List Placed) (durable : ℕ) (history more : List Placed) (rs : List Receipted) (h : Option Past) → AreKept h wanted base durable history rs → AreKept h wanted base durable (history ++ more) rs
kept_grows wanted base durable history more [] h all = tt
kept_grows wanted base durable history more (r ∷ rs) h all = (
  (
    all.0.0,
    λ low. kept_weaker (Holds wanted base r.durable history) (Holds wanted base r.durable (history ++ more)) r.moment h (λ s p. holds_grows wanted r.durable base history more s p) (all.0.1 low),
  ),
  kept_grows wanted base durable history more rs h all.1,
)

-- each receipt through calls, from what is now
pub kept_through : (I E : Files → Files → Type 0) (R : Files → Type 0) (wanted : ℕ) (base : List Placed) (durable : ℕ) (history : List Placed) (rs : List Receipted) (a b : Option Past) → AreKept a wanted base durable history rs → AllReads a R
    → ((d : ℕ) → d ≤ durable → (o s : Files) → R o → I o s → Holds wanted base d history s) → Leaves I E a b → AreKept b wanted base durable history rs
kept_through I E R wanted base durable history [] a b all now inside leaves = tt
kept_through I E R wanted base durable history (r ∷ rs) a b all now inside leaves = (
  (all.0.0, λ low. kept_from I E (Holds wanted base r.durable history) R r.moment a b (all.0.1 low) now (inside r.durable all.0.0) leaves),
  kept_through I E R wanted base durable history rs a b all.1 now inside leaves,
)

-- one more receipt
pub kept_push : (wanted : ℕ) (base : List Placed) (durable later : ℕ) (history : List Placed) (rs : List Receipted) (count m n : ℕ) (h : Option Past) → durable ≤ later → count ≤ later → AreKept h wanted base durable history rs
    → (m < 2 ^ 64 - 1 → HoldsSince h m (Holds wanted base count history)) → AreKept h wanted base later history (rs ++ record { durable = count; moment = m; steps = n } ∷ [])
kept_push wanted base durable later history [] count m n h le most all kept = ((most, kept), tt)
kept_push wanted base durable later history (r ∷ rs) count m n h le most all kept = ((omega (arith, all.0.0, le), all.0.1), kept_push wanted base durable later history rs count m n h le most all.1 kept)
