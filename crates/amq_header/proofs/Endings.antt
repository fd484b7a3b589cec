-- Names with a known ending.
use Rattle.std.proofs.Common.{◌≡◌, ℕ, ◌+◌, ◌-◌, Bool, true, false, cond, List, ◌++◌, length, take, drop, get_or, Some, None, refl, sym, ap, ◌∙◌, append_assoc, arith, length-append}
use Rattle.std.specs.Prelude.{◌==◌}
use Rattle.std.proofs.lemmas.Bool.Decides.{Decides-eqb}
use Rattle.std.proofs.lemmas.Slice.Eq.{slice_eq-Decides}
use Rattle.std.proofs.lemmas.List.{take_at, drop_at, take-append-drop, get_or-append-add}
use Rattle.amq_model.specs.Names.{same, before, behind}

pub same_is : (a b : List ℕ) → same a b ≡ true → a ≡ b
same_is a b = (slice_eq-Decides {E = ◌==◌} Decides-eqb a b (same a b) refl).0

pub same_self : (a : List ℕ) → same a a ≡ true
same_self a = (slice_eq-Decides {E = ◌==◌} Decides-eqb a a (same a a) refl).1 refl

-- what stands before an ending
pub before_appended : (back front : List ℕ) → before back (front ++ back) ≡ Some front
before_appended back front =
    let n : length (front ++ back) - length back ≡ length front = omega (arith, length-append front back) in
    rw (n, drop_at front back (length front) refl, take_at front back (length front) refl, same_self back) refl

kept : (b : Bool) (x y : List ℕ) → cond b (Some x) None ≡ Some y → (b ≡ true) × (x ≡ y)
kept true x y e = (refl, cc)
kept false x y e = absurd cc

-- a name with this ending
pub ends_with : (back name front : List ℕ) → before back name ≡ Some front → name ≡ front ++ back
ends_with back name front e =
    let n = length name - length back in
    let k = kept (same (drop n name) back) (take n name) front e in
    sym (take-append-drop n name) ∙ ap (λ (l : List ℕ). take n name ++ l) (same_is (drop n name) back k.0) ∙ ap (λ (l : List ℕ). l ++ back) k.1

-- a name with this front
pub begins_with : (front name rest : List ℕ) → behind front name ≡ Some rest → name ≡ front ++ rest
begins_with front name rest e =
    let k = kept (same (take (length front) name) front) (drop (length front) name) rest e in
    sym (take-append-drop (length front) name) ∙ ap (λ (l : List ℕ). l ++ drop (length front) name) (same_is (take (length front) name) front k.0) ∙ ap (λ (l : List ℕ). front ++ l) k.1

-- the last byte but two
abbrev pub mark : List ℕ → ℕ
mark name = get_or name (length name - 3) 0

pub mark_of : (front back : List ℕ) → length back ≡ 4 → mark (front ++ back) ≡ get_or back 1 0
mark_of front back four =
    let n : length (front ++ back) - 3 ≡ length front + 1 = omega (arith, length-append front back) in
    ap (λ k. get_or (front ++ back) k 0) n ∙ get_or-append-add front back 1 0

pub mark_is : (back name front : List ℕ) → length back ≡ 4 → before back name ≡ Some front → mark name ≡ get_or back 1 0
mark_is back name front four e = ap mark (ends_with back name front e) ∙ mark_of front back four

-- what stands behind a front may have an ending
pub mark_behind : (begin back name rest front : List ℕ) → length back ≡ 4 → behind begin name ≡ Some rest → before back rest ≡ Some front → mark name ≡ get_or back 1 0
mark_behind begin back name rest front four b e =
    ap mark (begins_with begin name rest b ∙ ap (λ (l : List ℕ). begin ++ l) (ends_with back rest front e) ∙ sym (append_assoc begin front back)) ∙ mark_of (begin ++ front) back four
