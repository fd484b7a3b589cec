-- Files in the order of their ids.
use Rattle.std.proofs.Common.{◌≡◌, ◌⊎◌, inl, inr, ⊎_elim, ℕ, ◌+◌, ◌<◌, ◌≤◌, Bool, true, false, cond, ltb, eqb, List, [], ◌∷◌, Option, None, Some, refl, sym, ap, subst, ◌∙◌, arith}
use Rattle.std.proofs.lemmas.Bool.{cases_lt, lt-ltb, le-ltb}
use Rattle.amq_model.specs.declared.directory.DirFault.{DirFault}
use Rattle.amq_scan.proofs.Parts.{Has}
use Rattle.amq_model.specs.Directory.{FileOf, placed_by_id, by_id, shared, first_of_them}

-- the ids ascend, each at least this
abbrev pub AscendById : ℕ → List FileOf → Type 0
AscendById least [] = Unit {0}
AscendById least (f ∷ fs) = (least ≤ f.id) × AscendById (f.id + 1) fs

pub ascend_has : (least : ℕ) (fs : List FileOf) (f : FileOf) → AscendById least fs → Has fs f → least ≤ f.id
ascend_has least [] f r h = absurd h
ascend_has least (g ∷ gs) f r (inl e) = subst (λ (x : FileOf). least ≤ x.id) e r.0
ascend_has least (g ∷ gs) f r (inr h) = omega (arith, r.0, ascend_has (g.id + 1) gs f r.1 h)

-- two ascending lists of the same files are one
pub same_ascending : (l m : ℕ) (xs ys : List FileOf) → AscendById l xs → AscendById m ys → ((f : FileOf) → Has xs f → Has ys f) → ((f : FileOf) → Has ys f → Has xs f) → xs ≡ ys
same_ascending l m [] [] p q to back = refl
same_ascending l m [] (y ∷ ys) p q to back = absurd (back y (inl refl))
same_ascending l m (x ∷ xs) [] p q to back = absurd (to x (inl refl))
same_ascending l m (x ∷ xs) (y ∷ ys) p q to back =
    let e : x ≡ y = first (to x (inl refl)) (back y (inl refl)) in
    ap (λ (f : FileOf). f ∷ xs) e ∙ ap (λ (fs : List FileOf). y ∷ fs)
    (same_ascending (x.id + 1) (y.id + 1) xs ys p.1 q.1
    (λ f h. behind f y ys (ascend_has (x.id + 1) xs f p.1 h) e (to f (inr h)))
    (λ f h. behind f x xs (ascend_has (y.id + 1) ys f q.1 h) (sym e) (back f (inr h))))
  where
    first : Has (y ∷ ys) x → Has (x ∷ xs) y → x ≡ y
    first (inl e) h = sym e
    first (inr h) (inl e) = e
    first (inr h) (inr k) = absurd (omega (arith, ascend_has (y.id + 1) ys x q.1 h, ascend_has (x.id + 1) xs y p.1 k))

    behind : (f a : FileOf) {b : FileOf} (xs : List FileOf) → b.id + 1 ≤ f.id → b ≡ a → Has (a ∷ xs) f → Has xs f
    behind f a {b} xs le e (inl is) = absurd (omega (arith, le, ap (λ (x : FileOf). x.id) e, ap (λ (x : FileOf). x.id) is))
    behind f a {b} xs le e (inr h) = h

-- ---- putting one more in its place

module _ (f : FileOf) where
  inserted_has : (gs : List FileOf) (x : FileOf) → Has (placed_by_id f gs) x → (f ≡ x) ⊎ Has gs x
  inserted_has [] x (inl e) = inl e
  inserted_has [] x (inr h) = absurd h
  inserted_has (g ∷ gs) x h = by (ltb g.id f.id) h (inserted_has gs x) where
    by : (b : Bool) → Has (cond b (g ∷ placed_by_id f gs) (f ∷ g ∷ gs)) x → (Has (placed_by_id f gs) x → (f ≡ x) ⊎ Has gs x) → (f ≡ x) ⊎ Has (g ∷ gs) x
    by true (inl e) rest = inr (inl e)
    by true (inr h) rest = ⊎_elim (λ e. inl e) (λ k. inr (inr k)) (rest h)
    by false (inl e) rest = inl e
    by false (inr h) rest = inr h

  has_inserted : (gs : List FileOf) (x : FileOf) → (f ≡ x) ⊎ Has gs x → Has (placed_by_id f gs) x
  has_inserted [] x (inl e) = inl e
  has_inserted [] x (inr h) = absurd h
  has_inserted (g ∷ gs) x h = by (ltb g.id f.id) h (has_inserted gs x) where
    by : (b : Bool) → (f ≡ x) ⊎ Has (g ∷ gs) x → ((f ≡ x) ⊎ Has gs x → Has (placed_by_id f gs) x) → Has (cond b (g ∷ placed_by_id f gs) (f ∷ g ∷ gs)) x
    by true (inl e) rest = inr (rest (inl e))
    by true (inr (inl e)) rest = inl e
    by true (inr (inr h)) rest = inr (rest (inr h))
    by false (inl e) rest = inl e
    by false (inr h) rest = inr h

  inserted_ascend : (least : ℕ) (gs : List FileOf) → least ≤ f.id → AscendById least gs → ((g : FileOf) → Has gs g → g.id ≡ f.id → ⊥) → AscendById least (placed_by_id f gs)
  inserted_ascend least [] le r other = (le, tt)
  inserted_ascend least (g ∷ gs) le r other =
      elim (cases_lt g.id f.id) [
        | inl lt ↦ subst (AscendById least) (sym (ap (λ (b : Bool). cond b (g ∷ placed_by_id f gs) (f ∷ g ∷ gs)) (lt-ltb g.id f.id lt)))
            (r.0, inserted_ascend (g.id + 1) gs (omega (arith, lt)) r.1 (λ h has. other h (inr has)))
        | inr ge ↦ subst (AscendById least) (sym (ap (λ (b : Bool). cond b (g ∷ placed_by_id f gs) (f ∷ g ∷ gs)) (le-ltb g.id f.id ge)))
            (le, (more ge (cases_lt f.id g.id), r.1))
      ]
    where
      more : f.id ≤ g.id → (f.id < g.id) ⊎ (g.id ≤ f.id) → f.id + 1 ≤ g.id
      more ge (inl lt) = omega (arith, lt)
      more ge (inr le) = absurd (other g (inl refl) (omega (arith, ge, le)))

-- ---- in their order

pub sorted_has : (fs : List FileOf) (x : FileOf) → Has (by_id fs) x → Has fs x
sorted_has [] x h = absurd h
sorted_has (f ∷ fs) x h = ⊎_elim (λ e. inl e) (λ k. inr (sorted_has fs x k)) (inserted_has f (by_id fs) x h)

pub has_sorted : (fs : List FileOf) (x : FileOf) → Has fs x → Has (by_id fs) x
has_sorted [] x h = absurd h
has_sorted (f ∷ fs) x (inl e) = has_inserted f (by_id fs) x (inl e)
has_sorted (f ∷ fs) x (inr h) = has_inserted f (by_id fs) x (inr (has_sorted fs x h))

-- no two have one id
abbrev pub HaveOwnIds : List FileOf → Type 0
HaveOwnIds [] = Unit {0}
HaveOwnIds (f ∷ fs) = ((g : FileOf) → Has fs g → g.id ≡ f.id → ⊥) × HaveOwnIds fs

pub sorted_ascend : (fs : List FileOf) → HaveOwnIds fs → AscendById 0 (by_id fs)
sorted_ascend [] a = tt
sorted_ascend (f ∷ fs) a = inserted_ascend f 0 (by_id fs) (omega arith) (sorted_ascend fs a.1) (λ g h. a.0 g (sorted_has fs g h))

not_eqb : (a b : ℕ) → a + 1 ≤ b → eqb a b ≡ false
not_eqb a b lt = grind arith

-- where the ids ascend no two share one
pub none_shared : (least : ℕ) (fs : List FileOf) → AscendById least fs → shared fs ≡ None
none_shared least [] r = refl
none_shared least (f ∷ []) r = refl
none_shared least (f ∷ g ∷ gs) r = rw (not_eqb f.id g.id r.1.0) (none_shared (f.id + 1) (g ∷ gs) r.1)

-- the first of none
pub none_first : (p : FileOf → Option DirFault) (fs : List FileOf) (o : Option DirFault) → ((f : FileOf) → Has fs f → p f ≡ None) → first_of_them p fs o ≡ o
none_first p [] o none = refl
none_first p (f ∷ fs) o none = ap (λ (found : Option DirFault). elim found [ Some y ↦ Some y | None ↦ first_of_them p fs o ]) (none f (inl refl)) ∙ none_first p fs o (λ g h. none g (inr h))
