-- Fronts and backs of two lists one behind the other, and parts of such lists.
use Rattle.std.proofs.Common.{◌≡◌, inl, inr, ℕ, zero, suc, ◌-◌, List, [], ◌∷◌, ◌++◌, length, take, drop, refl, sym, ap, subst, ◌∙◌, append_assoc, arith}
use Rattle.std.specs.Prelude.{map}
use Rattle.std.proofs.lemmas.Bool.{cases_lt}
use Rattle.std.proofs.lemmas.List.{drop_all, append-nil}
use Rattle.amq_model.specs.Kept.{IsPart}
use Rattle.amq_scan.proofs.Parts.{Has, part_longer}

pub part_map : {X Y : Type 0} (f : X → Y) (xs ys : List X) → IsPart xs ys → IsPart (map f xs) (map f ys)
part_map f [] ys p = tt
part_map f (x ∷ xs) [] p = p
part_map f (x ∷ xs) (y ∷ ys) (inl p) = inl (ap f p.0, part_map f xs ys p.1)
part_map f (x ∷ xs) (y ∷ ys) (inr p) = inr (part_map f (x ∷ xs) ys p)

-- what a list of values has is the value of a member
pub has_map : {X Y : Type 0} (f : X → Y) (xs : List X) (y : Y) → Has (map f xs) y → (x : X) × Has xs x × (f x ≡ y)
has_map f [] y has = absurd has
has_map f (x ∷ xs) y (inl e) = (x, inl refl, e)
has_map f (x ∷ xs) y (inr has) = let r = has_map f xs y has in (r.0, inr r.1, r.2)

module _ {X : Type 0} where
  take_nil : (n : ℕ) → let l : List X = [] in take n l ≡ l
  take_nil zero = refl
  take_nil (suc n) = refl

  -- of no list there is nothing
  pub nothing_taken : (n : ℕ) → let l : List X = [] in take n l ++ [] ≡ l
  nothing_taken zero = refl
  nothing_taken (suc n) = refl

  pub take_both : (n : ℕ) (xs ys : List X) → take n (xs ++ ys) ≡ take n xs ++ take (n - length xs) ys
  take_both n [] ys = let e : n - 0 ≡ n = omega arith in rw (e, take_nil n) refl
  take_both zero (x ∷ xs) ys = let e : 0 - length (x ∷ xs) ≡ 0 = omega arith in rw e refl
  take_both (suc n) (x ∷ xs) ys = let e : suc n - suc (length xs) ≡ n - length xs = omega arith in rw e (ap (λ (l : List X). x ∷ l) (take_both n xs ys))

  drop_nil : (n : ℕ) → let l : List X = [] in drop n l ≡ l
  drop_nil zero = refl
  drop_nil (suc n) = refl

  pub drop_both : (n : ℕ) (xs ys : List X) → drop n (xs ++ ys) ≡ drop n xs ++ drop (n - length xs) ys
  drop_both n [] ys = let e : n - 0 ≡ n = omega arith in rw (e, drop_nil n) refl
  drop_both zero (x ∷ xs) ys = let e : 0 - length (x ∷ xs) ≡ 0 = omega arith in rw e refl
  drop_both (suc n) (x ∷ xs) ys = let e : suc n - suc (length xs) ≡ n - length xs = omega arith in rw e (drop_both n xs ys)

  pub part_append : (a b c d : List X) → IsPart a c → IsPart b d → IsPart (a ++ b) (c ++ d)
  part_append [] b [] d p q = q
  part_append [] b (y ∷ c) d p q = part_longer b (c ++ d) y (part_append [] b c d tt q)
  part_append (x ∷ a) b [] d p q = absurd p
  part_append (x ∷ a) b (y ∷ c) d (inl p) q = inl (p.0, part_append a b c d p.1 q)
  part_append (x ∷ a) b (y ∷ c) d (inr p) q = inr (part_append (x ∷ a) b c d p q)

  none_of_none : (a : List X) → IsPart a [] → a ≡ []
  none_of_none [] p = refl
  none_of_none (x ∷ a) p = absurd p

  -- where the back begins in the first list, nothing of the second belongs to the front
  pub front_of_both : (n : ℕ) (xs ys some rest : List X) → IsPart some (drop n xs) → (take n xs ++ some) ++ (take (n - length xs) ys ++ rest) ≡ take n (xs ++ ys) ++ (some ++ rest)
  front_of_both n xs ys some rest p =
      elim (cases_lt n (length xs)) [
        | inl lt ↦
            let z : n - length xs ≡ 0 = omega (arith, lt) in
            ap (λ (k : ℕ). (take n xs ++ some) ++ (take k ys ++ rest)) z ∙ append_assoc (take n xs) some rest
            ∙ ap (λ (l : List X). l ++ (some ++ rest)) (sym (append-nil (take n xs)) ∙ ap (λ (k : ℕ). take n xs ++ take k ys) (sym z) ∙ sym (take_both n xs ys))
        | inr ge ↦
            let e : some ≡ [] = none_of_none some (subst (IsPart some) (drop_all n xs ge) p) in
            ap (λ (l : List X). (take n xs ++ l) ++ (take (n - length xs) ys ++ rest)) e
            ∙ ap (λ (l : List X). l ++ (take (n - length xs) ys ++ rest)) (append-nil (take n xs))
            ∙ sym (append_assoc (take n xs) (take (n - length xs) ys) rest)
            ∙ ap (λ (l : List X). l ++ rest) (sym (take_both n xs ys))
            ∙ ap (λ (l : List X). take n (xs ++ ys) ++ (l ++ rest)) (sym e)
      ]
