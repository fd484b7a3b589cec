-- Numbers, each once, ascending: their order, which they are, and that this decides the list.
use Rattle.std.proofs.Common.{◌≡◌, ℕ, ◌<◌, ◌≤◌, Bool, true, false, cond, ◌||◌, eqb, ltb, List, [], ◌∷◌, Less, Equal, Greater, refl, sym, ap, ◌∙◌, arith}
use Rattle.std.specs.Prelude.{nat_lt}
use Rattle.std.specs.List.{list_any, AllByRecursion}
use Rattle.std.specs.List.Sorted.{IsStrictlySortedBy}
use Rattle.std.specs.Ordering.{nat_cmp, is_eq}
use Rattle.std.specs.BTreeMap.{is_at}
use Rattle.std.specs.BTreeSet.{BTreeSet}
use Rattle.std.proofs.lemmas.Bool.{ltb-true, ltb-false, lt-ltb, eqb-true, eqb-false}
use Rattle.std.proofs.lemmas.Cmp.{nat_cmp_total}
use Rattle.std.proofs.lemmas.Map.Lookups.{btree_set_from_contains, exact_unsigned}
use Rattle.amq_model.specs.Effect.{among, ascending}

-- a query of a number finds that number alone
pub is_here : (k q : ℕ) → is_at (nat_cmp k) q ≡ eqb k q
is_here k q = by (nat_lt k q) (eqb k q) refl refl where
  by : (less same : Bool) → nat_lt k q ≡ less → eqb k q ≡ same → is_eq (cond less Less (cond same Equal Greater)) ≡ same
  by true true l s = absurd (omega (arith, ltb-true k q l, eqb-true k q s))
  by true false l s = refl
  by false true l s = refl
  by false false l s = refl

less : (x y : ℕ) → x < y → nat_cmp x y ≡ Less
less x y h = rw (lt-ltb x y h) refl

-- each of them is above x
abbrev Above : ℕ → List ℕ → Type 0
Above x ys = AllByRecursion (λ y. x < y) ys

above_less : (x : ℕ) (ys : List ℕ) → Above x ys → AllByRecursion (λ y. nat_cmp x y ≡ Less) ys
above_less x [] h = h
above_less x (y ∷ ys) h = (less x y h.0, above_less x ys h.1)

lower : (x y : ℕ) (ys : List ℕ) → x ≤ y → Above y ys → Above x ys
lower x y [] le h = h
lower x y (z ∷ zs) le h = (omega arith, lower x y zs le h.1)

-- each is below those behind it
abbrev Rises : List ℕ → Type 0
Rises [] = Unit {0}
Rises (x ∷ xs) = Above x xs × Rises xs

above-among : (x n : ℕ) (ms : List ℕ) → x < n → Above x ms → Above x (among n ms)
above-among x n [] lt h = (lt, h)
above-among x n (m ∷ ms) lt h = by (ltb n m) (eqb n m) (above-among x n ms lt h.1) where
  by : (low same : Bool) → Above x (among n ms) → Above x (cond low (n ∷ m ∷ ms) (cond same (m ∷ ms) (m ∷ among n ms)))
  by true same rest = (lt, h)
  by false true rest = h
  by false false rest = (h.0, rest)

rises-among : (n : ℕ) (ms : List ℕ) → Rises ms → Rises (among n ms)
rises-among n [] h = (tt, tt)
rises-among n (m ∷ ms) h = by (ltb n m) (eqb n m) refl refl (rises-among n ms h.1) where
  by : (low same : Bool) → ltb n m ≡ low → eqb n m ≡ same → Rises (among n ms) → Rises (cond low (n ∷ m ∷ ms) (cond same (m ∷ ms) (m ∷ among n ms)))
  by true same l s rest = let lt : n < m = ltb-true n m l in ((lt, lower n m ms (omega arith) h.0), h)
  by false true l s rest = h
  by false false l s rest = let ge : m ≤ n = ltb-false n m l in let ne : n ≡ m → ⊥ = eqb-false n m s in (above-among m n ms (omega arith) h.0, rest)

rises : (ns : List ℕ) → Rises (ascending ns)
rises [] = tt
rises (n ∷ ns) = rises-among n (ascending ns) (rises ns)

sorted : (xs : List ℕ) → Rises xs → IsStrictlySortedBy nat_cmp xs
unfolding IsStrictlySortedBy
sorted [] h = tt
sorted (x ∷ xs) h = (above_less x xs h.0, sorted xs h.1)

pub ascending-sorted : (ns : List ℕ) → IsStrictlySortedBy nat_cmp (ascending ns)
ascending-sorted ns = sorted (ascending ns) (rises ns)

-- ---- which they are

-- a number is another one both ways
pub sides : (a b : ℕ) → eqb a b ≡ eqb b a
sides a b = by (eqb a b) (eqb b a) refl refl where
  by : (x y : Bool) → eqb a b ≡ x → eqb b a ≡ y → x ≡ y
  by true true p q = refl
  by true false p q = absurd (eqb-false b a q (sym (eqb-true a b p)))
  by false true p q = absurd (eqb-false a b p (sym (eqb-true b a q)))
  by false false p q = refl

any-among : (q n : ℕ) (ms : List ℕ) → list_any (eqb q) (among n ms) ≡ (eqb q n || list_any (eqb q) ms)
any-among q n [] = refl
any-among q n (m ∷ ms) = by (ltb n m) (eqb n m) refl (any-among q n ms) where
  twice : (a b : Bool) → (a || b) ≡ (a || (a || b))
  twice true b = refl
  twice false b = refl

  swap : (a b c : Bool) → (a || (b || c)) ≡ (b || (a || c))
  swap true true c = refl
  swap true false c = refl
  swap false true c = refl
  swap false false c = refl

  by : (low same : Bool) → eqb n m ≡ same → list_any (eqb q) (among n ms) ≡ (eqb q n || list_any (eqb q) ms) → list_any (eqb q) (cond low (n ∷ m ∷ ms) (cond same (m ∷ ms) (m ∷ among n ms))) ≡ (eqb q n || (eqb q m || list_any (eqb q) ms))
  by true same s h = refl
  by false true s h = twice (eqb q m) (list_any (eqb q) ms) ∙ ap (λ (k : ℕ). eqb q k || (eqb q m || list_any (eqb q) ms)) (sym (eqb-true n m s))
  by false false s h = ap (λ (b : Bool). eqb q m || b) h ∙ swap (eqb q m) (eqb q n) (list_any (eqb q) ms)

pub any-ascending : (q : ℕ) (ns : List ℕ) → list_any (eqb q) (ascending ns) ≡ list_any (eqb q) ns
any-ascending q [] = refl
any-ascending q (n ∷ ns) = any-among q n (ascending ns) ∙ ap (λ (b : Bool). eqb q n || b) (any-ascending q ns)

-- ---- they decide the list

same_tests : (f g : ℕ → Bool) (ns : List ℕ) → ((n : ℕ) → f n ≡ g n) → list_any f ns ≡ list_any g ns
same_tests f g [] h = refl
same_tests f g (n ∷ ns) h = ap (λ (b : Bool). b || list_any f ns) (h n) ∙ ap (λ (b : Bool). g n || b) (same_tests f g ns h)

pub same_numbers : (xs ys : List ℕ) → IsStrictlySortedBy nat_cmp xs → IsStrictlySortedBy nat_cmp ys → ((q : ℕ) → list_any (eqb q) xs ≡ list_any (eqb q) ys) → xs ≡ ys
same_numbers xs ys hx hy h =
    let s : BTreeSet ℕ = record { keys = xs } in
    let t : BTreeSet ℕ = record { keys = ys } in
    btree_set_from_contains nat_cmp_total s t hx hy (λ q. same_tests (is_at (nat_cmp q)) (eqb q) xs (is_here q) ∙ h q ∙ sym (same_tests (is_at (nat_cmp q)) (eqb q) ys (is_here q))) exact_unsigned
