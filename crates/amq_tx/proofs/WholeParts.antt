-- Members of lists, and what is left of a list.
use Rattle.std.proofs.Common.{◌≡◌, ◌⊎◌, inl, inr, ⊎_elim, ℕ, zero, suc, ◌<◌, Bool, true, false, ◌||◌, List, [], ◌∷◌, ◌++◌, length, take, get_or, Some, refl, sym, subst, ◌∙◌, arith}
use Rattle.std.specs.Prelude.{Contains, All, slice_get}
use Rattle.std.specs.List.{list_any}
use Rattle.amq_model.specs.Kept.{IsPart}

-- ---- members

abbrev pub Has : {X : Type 0} → List X → X → Type 0
Has [] x = ⊥
Has (y ∷ ys) x = (y ≡ x) ⊎ Has ys x

pub has_contains : {X : Type 0} (xs : List X) (x : X) → Has xs x → Contains xs x
has_contains [] x h = absurd h
has_contains (y ∷ ys) x (inl e) = (0, omega arith, e)
has_contains (y ∷ ys) x (inr h) = let c = has_contains ys x h in (suc c.0, omega (arith, c.1), c.2)

all_at : {X : Type 0} (P : X → Type 0) (xs : List X) (k : ℕ) (d : X) → k < length xs → ((x : X) → Has xs x → P x) → P (get_or xs k d)
all_at P [] k d lt f = absurd (omega (arith, lt))
all_at P (y ∷ ys) zero d lt f = f y (inl refl)
all_at P (y ∷ ys) (suc k) d lt f = all_at P ys k d (omega (arith, lt)) (λ x h. f x (inr h))

pub all_by : {X : Type 0} (P : X → Type 0) (xs : List X) → ((x : X) → Has xs x → P x) → All P xs
all_by P xs f = λ k d lt. all_at P xs k d lt f

pub all_has : {X : Type 0} (P : X → Type 0) (xs : List X) → All P xs → (x : X) → Has xs x → P x
all_has P xs all x h = let c = has_contains xs x h in subst P c.2 (all c.0 x c.1)

pub has_front : {X : Type 0} (xs ys : List X) (x : X) → Has xs x → Has (xs ++ ys) x
has_front [] ys x h = absurd h
has_front (a ∷ xs) ys x (inl e) = inl e
has_front (a ∷ xs) ys x (inr h) = inr (has_front xs ys x h)

pub has_behind : {X : Type 0} (xs ys : List X) (x : X) → Has ys x → Has (xs ++ ys) x
has_behind [] ys x h = h
has_behind (a ∷ xs) ys x h = inr (has_behind xs ys x h)

pub has_either : {X : Type 0} (xs ys : List X) (x : X) → Has (xs ++ ys) x → Has xs x ⊎ Has ys x
has_either [] ys x h = inr h
has_either (a ∷ xs) ys x (inl e) = inl (inl e)
has_either (a ∷ xs) ys x (inr h) = ⊎_elim (λ f. inl (inr f)) (λ b. inr b) (has_either xs ys x h)

pub get_has : {X : Type 0} (xs : List X) (k : ℕ) (x : X) → slice_get xs k ≡ Some x → Has xs x
get_has [] k x e = absurd cc
get_has (a ∷ xs) zero x e = inl cc
get_has (a ∷ xs) (suc k) x e = inr (get_has xs k x e)

pub take_has : {X : Type 0} (h : ℕ) (xs : List X) (x : X) → Has (take h xs) x → Has xs x
take_has zero xs x has = absurd has
take_has (suc h) [] x has = absurd has
take_has (suc h) (a ∷ xs) x (inl e) = inl e
take_has (suc h) (a ∷ xs) x (inr has) = inr (take_has h xs x has)

-- ---- parts

pub part_has : {X : Type 0} (xs ys : List X) (x : X) → IsPart xs ys → Has xs x → Has ys x
part_has [] ys x p h = absurd h
part_has (a ∷ xs) [] x p h = absurd p
part_has (a ∷ xs) (b ∷ ys) x (inl p) (inl e) = inl (sym p.0 ∙ e)
part_has (a ∷ xs) (b ∷ ys) x (inl p) (inr h) = inr (part_has xs ys x p.1 h)
part_has (a ∷ xs) (b ∷ ys) x (inr p) h = inr (part_has (a ∷ xs) ys x p h)

-- the front is kept whole
pub part_behind : {X : Type 0} (front xs ys : List X) → IsPart xs ys → IsPart (front ++ xs) (front ++ ys)
part_behind [] xs ys p = p
part_behind (a ∷ front) xs ys p = inl (refl, part_behind front xs ys p)

-- what is left of a front is left of the whole
pub part_front : {X : Type 0} (ys zs xs : List X) → IsPart xs ys → IsPart xs (ys ++ zs)
part_front ys zs [] p = tt
part_front [] zs (x ∷ xs) p = absurd p
part_front (y ∷ ys) zs (x ∷ xs) (inl p) = inl (p.0, part_front ys zs xs p.1)
part_front (y ∷ ys) zs (x ∷ xs) (inr p) = inr (part_front ys zs (x ∷ xs) p)

pub either_false : (a b : Bool) → (a || b) ≡ false → (a ≡ false) × (b ≡ false)
either_false true b e = absurd cc
either_false false b e = (refl, e)

-- where none of the whole passes a test, none of a part does
pub any_part : {X : Type 0} (t : X → Bool) (xs ys : List X) → IsPart xs ys → list_any t ys ≡ false → list_any t xs ≡ false
any_part t [] ys p none = refl
any_part t (x ∷ xs) [] p none = absurd p
any_part t (x ∷ xs) (y ∷ ys) (inl p) none = let b = either_false (t y) (list_any t ys) none in rw (p.0, b.0) (any_part t xs ys p.1 b.1)
any_part t (x ∷ xs) (y ∷ ys) (inr p) none = any_part t (x ∷ xs) ys p (either_false (t y) (list_any t ys) none).1

-- ---- distinct elements

-- each element stands once
abbrev pub IsDistinct : {X : Type 0} → List X → Type 0
IsDistinct [] = Unit {0}
IsDistinct (x ∷ xs) = (Has xs x → ⊥) × IsDistinct xs

-- what stands before an element that is kept
pub part_before : {X : Type 0} (xs ys : List X) (k h : ℕ) (x : X) → IsDistinct ys → IsPart xs ys → slice_get xs k ≡ Some x → slice_get ys h ≡ Some x → IsPart (take k xs) (take h ys)
part_before xs [] k h x d p at there = absurd cc
part_before xs (y ∷ ys) zero h x d p at there = tt
part_before [] (y ∷ ys) (suc k) h x d p at there = absurd cc
part_before (a ∷ xs) (y ∷ ys) (suc k) zero x d (inl p) at there = absurd (d.0 (subst (Has ys) (sym cc) (part_has xs ys x p.1 (get_has xs k x at))))
part_before (a ∷ xs) (y ∷ ys) (suc k) zero x d (inr p) at there = absurd (d.0 (subst (Has ys) (sym cc) (part_has (a ∷ xs) ys x p (inr (get_has xs k x at)))))
part_before (a ∷ xs) (y ∷ ys) (suc k) (suc h) x d (inl p) at there = inl (p.0, part_before xs ys k h x d.1 p.1 at there)
part_before (a ∷ xs) (y ∷ ys) (suc k) (suc h) x d (inr p) at there = inr (part_before (a ∷ xs) ys (suc k) h x d.1 p at there)
