-- What holds of all that may be left goes on from call to call.
use Rattle.std.proofs.Common.{⊎_elim, ℕ, ◌-◌, ◌^◌, ◌<◌, List, [], ◌∷◌, Option, None, Some, refl, sym, subst, arith}
use Rattle.std.specs.Prelude.{IfSome}
use Rattle.amq_model.specs.Files.{Files, Image, IsImage, IsReading}
use Rattle.amq_model.specs.Calls.{Call, Part, Outcome, fine, no_room, broken, listing, reading, creating, writing, syncing, renaming, removing, Past, Event, content, after}
use Rattle.amq_model.specs.Crash.{Settling, settled_since, MayHaveDone, AgreesWithList, Next, ReadsBefore, nothing_since, Reads, ReadsSince, MayLeave}
use Rattle.amq_model.specs.Leaves.{Leaves, Told, AllReads, HoldsSince, IsAt}
use Rattle.amq_model.proofs.Moments.{reads_now, only_now}

agrees_itself : (call : Call) (s : Files) → AgreesWithList call s s
agrees_itself listing s = λ n. refl
agrees_itself (reading n) s = tt
agrees_itself (creating n len fill) s = tt
agrees_itself (writing n place bytes) s = tt
agrees_itself (syncing n) s = tt
agrees_itself (renaming from to) s = tt
agrees_itself (removing n) s = tt

may_itself : (later : Settling) (call : Call) (part : Part) → MayHaveDone later call part part
may_itself later listing part = tt
may_itself later (reading n) part = tt
may_itself later (creating n len fill) part = λ is. refl
may_itself later (writing n place bytes) part = λ there. refl
may_itself later (syncing n) part = tt
may_itself later (renaming from to) part = λ is. refl
may_itself later (removing n) part = λ is. refl

next_itself : (later : Settling) (call : Call) (outcome : Outcome) (s : Files) → Next later call outcome s s (after call outcome s)
next_itself later call fine s = (refl, agrees_itself call s)
next_itself later call no_room s = refl
next_itself later call (broken part) s = (part, may_itself later call part, refl)

-- What the disk reads at a moment is one of the readings of it, whatever is settled later on.
pub content_reads_before : (later : Settling) (start : Files) (es : List Event) → ReadsBefore later start es (content start es)
content_reads_before later start [] = refl
content_reads_before later start (e ∷ es) = (content start es, content_reads_before (settled_since e.call e.outcome (content start es) later) start es, next_itself later e.call e.outcome (content start es))

-- what the disk reads is one of the readings
pub content_reads : (start : Files) (es : List Event) → Reads start es (content start es)
content_reads start es = content_reads_before nothing_since start es

-- what all readings have, the disk reads
pub all_told : (h : Option Past) (P : Files → Type 0) → AllReads h P → Told h P
all_told None P all = tt
all_told (Some p) P all = all _ (content_reads p.start p.calls)

-- after calls that end in P, whatever was before
pub reads_start : (I E : Files → Files → Type 0) (P : Files → Type 0) (a b : Option Past) → ((o s : Files) → E o s → P s) → Leaves I E a b → AllReads b P
reads_start I E P None b ends leaves = let F : Option Past → Type 0 = λ h. AllReads h P in subst F (sym leaves) tt
reads_start I E P (Some p) b ends leaves = let F : Option Past → Type 0 = λ h. AllReads h P in subst F (sym leaves.1) (λ s reads. let o = leaves.2.reads s reads in ends _ _ o.2)

-- what all readings have goes on through calls
pub reads_on : (I E : Files → Files → Type 0) (P Q : Files → Type 0) (a b : Option Past) → AllReads a P → ((o s : Files) → P o → E o s → Q s) → Leaves I E a b → AllReads b Q
reads_on I E P Q None b all ends leaves = let F : Option Past → Type 0 = λ h. AllReads h Q in subst F (sym leaves) tt
reads_on I E P Q (Some p) b all ends leaves = let F : Option Past → Type 0 = λ h. AllReads h Q in subst F (sym leaves.1) (λ s reads. let o = leaves.2.reads s reads in ends _ _ (all o.0 o.1) o.2)

-- what holds since a moment holds on through calls
pub holds_on : (I E : Files → Files → Type 0) (P : Files → Type 0) (t : ℕ) (a b : Option Past) → HoldsSince a t P → ((o s : Files) → P o → I o s → P s) → Leaves I E a b → HoldsSince b t P
holds_on I E P t None b holds inside leaves = let F : Option Past → Type 0 = λ h. HoldsSince h t P in subst F (sym leaves) tt
holds_on I E P t (Some p) b holds inside leaves =
    let F : Option Past → Type 0 = λ h. HoldsSince h t P in
    subst F (sym leaves.1) (record {
      earlier = omega (arith, holds.earlier, leaves.2.later);
      each = λ s left. ⊎_elim (holds.each s) (λ o. inside _ _ (holds.each o.0 (reads_now p.start p.calls p.moment t o.0 holds.earlier o.1)) o.2) (leaves.2.left t s holds.earlier left);
    })

-- what is kept since a moment is kept through calls that lead to it from what is now
pub kept_from : (I E : Files → Files → Type 0) (P R : Files → Type 0) (t : ℕ) (a b : Option Past) → HoldsSince a t P → AllReads a R → ((o s : Files) → R o → I o s → P s) → Leaves I E a b → HoldsSince b t P
kept_from I E P R t None b kept now inside leaves = let F : Option Past → Type 0 = λ h. HoldsSince h t P in subst F (sym leaves) tt
kept_from I E P R t (Some p) b kept now inside leaves =
    let F : Option Past → Type 0 = λ h. HoldsSince h t P in
    subst F (sym leaves.1) (record {
      earlier = omega (arith, kept.earlier, leaves.2.later);
      each = λ s left. ⊎_elim (kept.each s) (λ o. inside _ _ (now o.0 o.1) o.2) (leaves.2.left t s kept.earlier left);
    })

pub kept_weaker : (P Q : Files → Type 0) (t : ℕ) (h : Option Past) → ((s : Files) → P s → Q s) → HoldsSince h t P → HoldsSince h t Q
kept_weaker P Q t None weaker kept = tt
kept_weaker P Q t (Some p) weaker kept = record { earlier = kept.earlier; each = λ s left. weaker s (kept.each s left) }

pub reads_weaker : (P Q : Files → Type 0) (h : Option Past) → ((s : Files) → P s → Q s) → AllReads h P → AllReads h Q
reads_weaker P Q None weaker all = tt
reads_weaker P Q (Some p) weaker all = λ s reads. weaker s (all s reads)

-- what all readings of this moment have holds since then
pub holds_now : (P : Files → Type 0) (t : ℕ) (h : Option Past) → IfSome h (IsAt t) → t < 2 ^ 64 - 1 → AllReads h P → HoldsSince h t P
holds_now P t None is low all = tt
holds_now P t (Some p) is low all = record {
  earlier = omega (arith, is.now);
  each = λ s left. all s (only_now p.start p.calls p.moment s is.timed (omega (arith, is.now, low)) (subst (λ t. ReadsSince p.start p.calls p.moment t s) is.now left));
}

-- and so of each image
pub holds_images : (P : Files → Type 0) (t : ℕ) (h : Option Past) → HoldsSince h t P → (found image : Image) → MayLeave h t found image → (s : Files) × P s × IsReading s found × IsImage s image
holds_images P t None holds found image left = absurd left
holds_images P t (Some p) holds found image left = (left.0, holds.each left.0 left.1, left.2, left.3)
