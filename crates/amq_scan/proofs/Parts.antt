-- Members of lists, and what is left of a list.
use Rattle.std.proofs.Common.{◌≡◌, ◌⊎◌, inl, inr, ℕ, zero, suc, ◌<◌, List, [], ◌∷◌, ◌++◌, length, get_or, Some, refl, sym, subst, ◌∙◌, arith}
use Rattle.std.specs.Prelude.{Contains, All, slice_get}
use Rattle.amq_model.specs.Kept.{IsPart}

abbrev pub Has : {X : Type 0} → List X → X → Type 0
Has [] x = ⊥
Has (y ∷ ys) x = (y ≡ x) ⊎ Has ys x

pub has_contains : {X : Type 0} (xs : List X) (x : X) → Has xs x → Contains xs x
has_contains [] x h = absurd h
has_contains (y ∷ ys) x (inl e) = (0, omega arith, e)
has_contains (y ∷ ys) x (inr h) = let c = has_contains ys x h in (suc c.0, omega (arith, c.1), c.2)

has_at : {X : Type 0} (xs : List X) (x : X) (k : ℕ) → k < length xs → get_or xs k x ≡ x → Has xs x
has_at [] x k lt e = absurd (omega (arith, lt))
has_at (y ∷ ys) x zero lt e = inl e
has_at (y ∷ ys) x (suc k) lt e = inr (has_at ys x k (omega (arith, lt)) e)

pub contains_has : {X : Type 0} (xs : List X) (x : X) → Contains xs x → Has xs x
contains_has xs x c = has_at xs x c.0 c.1 c.2

all_at : {X : Type 0} (P : X → Type 0) (xs : List X) (k : ℕ) (d : X) → k < length xs → ((x : X) → Has xs x → P x) → P (get_or xs k d)
all_at P [] k d lt f = absurd (omega (arith, lt))
all_at P (y ∷ ys) zero d lt f = f y (inl refl)
all_at P (y ∷ ys) (suc k) d lt f = all_at P ys k d (omega (arith, lt)) (λ x h. f x (inr h))

pub all_by : {X : Type 0} (P : X → Type 0) (xs : List X) → ((x : X) → Has xs x → P x) → All P xs
all_by P xs f = λ k d lt. all_at P xs k d lt f

pub all_has : {X : Type 0} (P : X → Type 0) (xs : List X) → All P xs → (x : X) → Has xs x → P x
all_has P xs all x h = let c = has_contains xs x h in subst P c.2 (all c.0 x c.1)

pub has_left : {X : Type 0} (xs ys : List X) (x : X) → Has xs x → Has (xs ++ ys) x
has_left [] ys x h = absurd h
has_left (a ∷ xs) ys x (inl e) = inl e
has_left (a ∷ xs) ys x (inr h) = inr (has_left xs ys x h)

pub get_has : {X : Type 0} (xs : List X) (k : ℕ) (x : X) → slice_get xs k ≡ Some x → Has xs x
get_has [] k x e = absurd cc
get_has (a ∷ xs) zero x e = inl cc
get_has (a ∷ xs) (suc k) x e = inr (get_has xs k x e)

-- ---- parts

pub part_has : {X : Type 0} (xs ys : List X) (x : X) → IsPart xs ys → Has xs x → Has ys x
part_has [] ys x p h = absurd h
part_has (a ∷ xs) [] x p h = absurd p
part_has (a ∷ xs) (b ∷ ys) x (inl p) (inl e) = inl (sym p.0 ∙ e)
part_has (a ∷ xs) (b ∷ ys) x (inl p) (inr h) = inr (part_has xs ys x p.1 h)
part_has (a ∷ xs) (b ∷ ys) x (inr p) h = inr (part_has (a ∷ xs) ys x p h)

pub part_whole : {X : Type 0} (xs : List X) → IsPart xs xs
part_whole [] = tt
part_whole (x ∷ xs) = inl (refl, part_whole xs)

-- the front is kept whole
pub part_behind : {X : Type 0} (front xs ys : List X) → IsPart xs ys → IsPart (front ++ xs) (front ++ ys)
part_behind [] xs ys p = p
part_behind (a ∷ front) xs ys p = inl (refl, part_behind front xs ys p)

pub part_longer : {X : Type 0} (xs ys : List X) (y : X) → IsPart xs ys → IsPart xs (y ∷ ys)
part_longer [] ys y p = tt
part_longer (x ∷ xs) ys y p = inr p
