-- The calls of a disk go on, and the first of them were syncs.
use Rattle.std.proofs.Common.{◌≡◌, ℕ, List, [], ◌∷◌, ◌++◌, Option, refl, sym, subst}
use Rattle.amq_model.specs.Calls.{Past}
use Rattle.amq_model.specs.Files.{Files}
use Rattle.amq_model.specs.Leaves.{Leaves, OnlySyncsUntil}
use Rattle.amq_model.proofs.Chain.{loosely}
use Rattle.amq_model.proofs.Moments.{still, go_on, syncs_until_on}
use Rattle.amq_model.proofs.Making.{made_until_on}
use Rattle.amq_engine.specs.declared.chronicle.Receipted.{Receipted}
use Rattle.amq_engine.specs.Receipts.{Anything, GoesOn, AreOpeningCalls, BeginsBySyncs}

-- nothing was called
pub goes_still : (a : Option Past) → GoesOn a a
goes_still a = still Anything Anything a (λ s. tt)

-- the same disk
pub goes_same : (a b : Option Past) → b ≡ a → GoesOn a b
goes_same a b same = subst (λ h. GoesOn a h) (sym same) (goes_still a)

-- whatever the calls leave
pub goes_by : (I E : Files → Files → Type 0) (a b : Option Past) → Leaves I E a b → GoesOn a b
goes_by I E a b leaves = loosely I Anything E Anything a b (λ o s i. tt) (λ o s e. tt) leaves

-- one run of calls after another
pub goes_through : (a b c : Option Past) → GoesOn a b → GoesOn b c → GoesOn a c
goes_through a b c one two = go_on {I = Anything} {J = Anything} {K = Anything} {E = Anything} {F = Anything} {G = Anything} a b c (λ o s i. tt) (λ o m s e i. tt) (λ o m s e f. tt) one two

-- up to that moment only syncs were made, whatever is called later
pub syncs_on : (m : ℕ) (a b c : Option Past) → OnlySyncsUntil m a b → GoesOn b c → OnlySyncsUntil m a c
syncs_on m a b c syncs goes = syncs_until_on Anything Anything m a b c syncs goes

-- the same up to the first receipt, whatever receipts come behind it
pub begins_on : (r : Receipted) (rs more : List Receipted) (a b c : Option Past) → BeginsBySyncs (r ∷ rs) a b → GoesOn b c → BeginsBySyncs (r ∷ more) a c
begins_on r rs more a b c begins goes = (syncs_on r.moment a b c begins.0 goes, made_until_on AreOpeningCalls Anything Anything r.moment a b c begins.1 goes)

-- there is a receipt, and further ones
pub begins_more : (rs more : List Receipted) (a b c : Option Past) → (rs ≡ [] → ⊥) → BeginsBySyncs rs a b → GoesOn b c → BeginsBySyncs (rs ++ more) a c
begins_more [] more a b c some begins goes = absurd (some refl)
begins_more (r ∷ rs) more a b c some begins goes = begins_on r rs (rs ++ more) a b c begins goes
