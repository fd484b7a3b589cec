-- Chains of calls, of which each one has an exact end.
use Rattle.std.proofs.Common.{◌≡◌, Option, None, Some, refl, sym, ◌∙◌, ap, subst}
use Rattle.std.specs.Prelude.{option_map}
use Rattle.amq_model.specs.Files.{Files}
use Rattle.amq_model.specs.Calls.{Call, Past, fine, noted, done}
use Rattle.amq_model.specs.Leaves.{Leaves, Within, Exactly, Told}
use Rattle.amq_model.proofs.Moments.{one_done, still, go_on, looser}

-- before the first call
pub began : (I : Files → Files → Type 0) (old : Option Past) → Leaves I (Exactly (λ o. o)) old old
began I old = still I _ old (λ s. refl)

-- one more call, which answered Ok
pub and_then : (I : Files → Files → Type 0) (f : Files → Files) (call : Call) (a b c : Option Past) → Leaves I (Exactly f) a b → c ≡ option_map (noted call fine) b
    → ((o s : Files) → Within call (f o) s → I o s) → Leaves I (Exactly (λ o. done call (f o))) a c
and_then I f call a b c so_far notes here =
    go_on {I = I} {J = Within call} {K = I} {E = Exactly f} {F = Exactly (done call)} {G = Exactly (λ o. done call (f o))} a b c
    (λ o s i. i)
    (λ o m s e w. here o s (subst (λ m. Within call m s) e w))
    (λ o m s e w. w ∙ ap (done call) e)
    so_far (one_done call b c notes)

-- what a disk tells after the calls so far
pub told_then : (I E : Files → Files → Type 0) (R Q : Files → Type 0) (a b : Option Past) → Told a R → ((o s : Files) → R o → E o s → Q s) → Leaves I E a b → Told b Q
told_then I E R Q None b was step so_far = let P : Option Past → Type 0 = λ h. Told h Q in subst P (sym so_far) tt
told_then I E R Q (Some p) b was step so_far = let P : Option Past → Type 0 = λ h. Told h Q in subst P (sym so_far.1) (step _ _ was so_far.2.told)

-- the same, said more loosely
pub loosely : (I J E F : Files → Files → Type 0) (a b : Option Past) → ((o s : Files) → I o s → J o s) → ((o s : Files) → E o s → F o s) → Leaves I E a b → Leaves J F a b
loosely I J E F None b inside at_end so_far = so_far
loosely I J E F (Some p) b inside at_end so_far = (so_far.0, so_far.1, looser p so_far.0 inside at_end so_far.2)
