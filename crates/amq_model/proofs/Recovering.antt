-- What holds of all that a crash may leave, images included, goes on from call to call.
use Rattle.std.proofs.Common.{⊎_elim, ℕ, Option, None, Some, sym, subst, arith}
use Rattle.amq_model.specs.Files.{Files, Image, IsImage, IsReading}
use Rattle.amq_model.specs.Calls.{Past}
use Rattle.amq_model.specs.Crash.{ReadsSince}
use Rattle.amq_model.specs.Leaves.{Leaves, Unchanged, AllReads, HoldsSince, LeftSince, LeavesNothingNew}
use Rattle.amq_model.proofs.Moments.{reads_now}

-- what each reading and its image have, of readings with P
pub left_from : (P : Files → Type 0) (Q : Image → Image → Type 0) (t : ℕ) (h : Option Past) → ((s : Files) (reading image : Image) → P s → IsReading s reading → IsImage s image → Q reading image) → HoldsSince h t P → LeftSince h t Q
left_from P Q t None each holds = tt
left_from P Q t (Some p) each holds = record {
  earlier = holds.earlier;
  each = λ reading image left. each left.0 reading image (holds.each left.0 left.1) left.2 left.3;
}

-- A fact about readings and images goes on through calls, where each reading inside them comes from one that was there, and its images have Q.
pub left_on : (I E : Files → Files → Type 0) (R : Files → Type 0) (Q : Image → Image → Type 0) (t : ℕ) (a b : Option Past) → LeftSince a t Q → AllReads a R
    → ((o s : Files) (reading image : Image) → R o → I o s → IsReading s reading → IsImage s image → Q reading image) → Leaves I E a b → LeftSince b t Q
left_on I E R Q t None b left now inside leaves = let F : Option Past → Type 0 = λ h. LeftSince h t Q in subst F (sym leaves) tt
left_on I E R Q t (Some p) b left now inside leaves =
    let F : Option Past → Type 0 = λ h. LeftSince h t Q in
    subst F (sym leaves.1) (record {
      earlier = omega (arith, left.earlier, leaves.2.later);
      each = λ reading image may. ⊎_elim
          (λ before. left.each reading image (may.0, before, may.2, may.3))
          (λ from. inside from.0 may.0 reading image (now from.0 from.1) from.2 may.2 may.3)
          (leaves.2.left t may.0 left.earlier may.1);
    })

-- it goes on through calls that change no reading
pub left_still : (Q : Image → Image → Type 0) (t : ℕ) (a b : Option Past) → LeftSince a t Q → Leaves Unchanged Unchanged a b → LeftSince b t Q
left_still Q t None b left leaves = let F : Option Past → Type 0 = λ h. LeftSince h t Q in subst F (sym leaves) tt
left_still Q t (Some p) b left leaves =
    let F : Option Past → Type 0 = λ h. LeftSince h t Q in
    subst F (sym leaves.1) (record {
      earlier = omega (arith, left.earlier, leaves.2.later);
      each = λ reading image may. ⊎_elim
          (λ before. left.each reading image (may.0, before, may.2, may.3))
          (λ from. left.each reading image (may.0, subst (λ (s : Files). ReadsOf p t s) (sym from.2) (reads_now p.start p.calls p.moment t from.0 left.earlier from.1), may.2, may.3))
          (leaves.2.left t may.0 left.earlier may.1);
    })
  where
    ReadsOf : Past → ℕ → Files → Type 0
    ReadsOf p t s = ReadsSince p.start p.calls p.moment t s

-- Calls that change no reading leave nothing that couldn't have been left before.
pub nothing_new : (a b : Option Past) → Leaves Unchanged Unchanged a b → LeavesNothingNew a b
nothing_new None b leaves = tt
nothing_new (Some p) b leaves = let F : Option Past → Type 0 = λ h. LeavesNothingNew (Some p) h in subst F (sym leaves.1) (λ image left.
    let o = leaves.2.reads left.0 left.1 in
    (o.0, o.1, subst (λ (s : Files). IsImage s image) o.2 left.2))
