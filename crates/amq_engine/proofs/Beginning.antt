-- The first receipt of a chronicle stays, and up to it the disk was only asked and synced.
use Rattle.std.proofs.Common.{◌≡◌, ◌⊎◌, inl, inr, ℕ, Bool, true, false, List, [], ◌∷◌, ◌++◌, length, Option, None, Some, refl, sym, ap, subst}
use Rattle.std.specs.Prelude.{IfSome, option_map}
use Rattle.amq_model.specs.declared.history.Step.{Step}
use Rattle.amq_model.specs.Calls.{Past}
use Rattle.amq_engine.specs.declared.chronicle.Receipted.{Receipted}
use Rattle.amq_engine.specs.declared.tail.Tail.{Tail}
use Rattle.amq_engine.specs.Lists.{Lists, with_step}
use Rattle.amq_engine.specs.Receipts.{GoesOn, BeginsBySyncs, StartsWith}
use Rattle.amq_engine.specs.Engine.{IsBlank, receipted, Waits, Wrote}
use Rattle.amq_engine.proofs.GoingOn.{begins_on}

module _ (r : Receipted) where
  -- the lists are the same
  pub starts_same : (lists lists' : Option Lists) → lists' ≡ lists → IfSome lists (StartsWith r) → IfSome lists' (StartsWith r)
  starts_same lists lists' is starts = subst (λ (o : Option Lists). IfSome o (StartsWith r)) (sym is) starts

  -- they have a further receipt, or none
  receipted_starts : (b : Bool) (count moment : ℕ) (lists : Option Lists) → IfSome lists (StartsWith r) → IfSome (receipted b count moment lists) (StartsWith r)
  receipted_starts false count moment lists starts = starts
  receipted_starts true count moment None starts = tt
  receipted_starts true count moment (Some l) starts = (starts.0 ++ record { durable = count; moment = moment; steps = length l.steps } ∷ [], ap (λ (rs : List Receipted). rs ++ record { durable = count; moment = moment; steps = length l.steps } ∷ []) starts.1)

  pub starts_receipted : (b : Bool) (count moment : ℕ) (lists lists' : Option Lists) → lists' ≡ receipted b count moment lists → IfSome lists (StartsWith r) → IfSome lists' (StartsWith r)
  starts_receipted b count moment lists lists' is starts = starts_same (receipted b count moment lists) lists' is (receipted_starts b count moment lists starts)

  -- or a further step
  step_starts : (x : Step) (lists : Option Lists) → IfSome lists (StartsWith r) → IfSome (option_map (with_step x) lists) (StartsWith r)
  step_starts x None starts = tt
  step_starts x (Some l) starts = starts

  pub starts_step : (x : Step) (lists lists' : Option Lists) → lists' ≡ option_map (with_step x) lists → IfSome lists (StartsWith r) → IfSome lists' (StartsWith r)
  starts_step x lists lists' is starts = starts_same (option_map (with_step x) lists) lists' is (step_starts x lists starts)

  -- a command isn't made ready for
  pub starts_failed : (P Q : Type 0) (moment : ℕ) (t u : Tail) (lists lists' : Option Lists) → Waits t lists u lists' ⊎ (P × Q × Wrote moment t lists u lists') → IfSome lists (StartsWith r) → IfSome lists' (StartsWith r)
  starts_failed P Q moment t u lists lists' (inl waits) starts = starts_same lists lists' waits.1 starts
  starts_failed P Q moment t u lists lists' (inr (p, q, wrote)) starts = starts_receipted _ t.appended _ lists lists' wrote.1 starts

-- nothing was noted yet
pub begins_blank : (lists lists' : Option Lists) (a b : Option Past) → lists' ≡ lists → IfSome lists IsBlank → BeginsBySyncs [] a b → IfSome lists' (λ l. BeginsBySyncs l.receipts a b)
begins_blank lists lists' a b is blank syncs = subst (λ (o : Option Lists). IfSome o (λ l. BeginsBySyncs l.receipts a b)) (sym is) (by lists blank) where
  by : (o : Option Lists) → IfSome o IsBlank → IfSome o (λ l. BeginsBySyncs l.receipts a b)
  by None blank = tt
  by (Some l) blank = subst (λ (rs : List Receipted). BeginsBySyncs rs a b) (sym blank.2) syncs

-- it was, and further calls came
pub begins_through : (lists lists' : Option Lists) (a b d : Option Past) → IfSome lists (λ l. l.receipts ≡ [] → ⊥) → IfSome lists (λ l. BeginsBySyncs l.receipts a b) → option_map (λ l. l.base) lists' ≡ option_map (λ l. l.base) lists
    → ((r : Receipted) → IfSome lists (StartsWith r) → IfSome lists' (StartsWith r)) → GoesOn b d → IfSome lists' (λ l. BeginsBySyncs l.receipts a d)
begins_through None None a b d some begins same first goes = tt
begins_through None (Some m) a b d some begins same first goes = absurd cc
begins_through (Some l) None a b d some begins same first goes = tt
begins_through (Some l) (Some m) a b d some begins same first goes = by l.receipts refl begins where
  by : (rs : List Receipted) → l.receipts ≡ rs → BeginsBySyncs rs a b → BeginsBySyncs m.receipts a d
  by [] e begins = absurd (some e)
  by (r ∷ rs) e begins = let starts = first r (rs, e) in subst (λ (qs : List Receipted). BeginsBySyncs qs a d) (sym starts.1) (begins_on r rs starts.0 a b d begins goes)
