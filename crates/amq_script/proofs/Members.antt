-- Which names a set has.
use Rattle.std.proofs.Common.{◌≡◌, ℕ, Bool, ◌||◌, true, false, cond, List, [], ◌∷◌, refl, sym, ap, ◌∙◌}
use Rattle.std.specs.List.{list_any}
use Rattle.std.specs.Ordering.{nat_cmp}
use Rattle.std.specs.Cmp.Lexicographic.{slice_cmp, texts_ties, nat_list_eq_equiv}
use Rattle.std.specs.BTreeMap.{is_at}
use Rattle.amq_model.specs.Names.{same}

-- a set looks names up by their order, which ties equal names alone
pub members : (x : List ℕ) (names : List (List ℕ)) → list_any (is_at (slice_cmp nat_cmp x)) names ≡ list_any (same x) names
members x [] = refl
members x (name ∷ names) = ap (λ b. b || list_any (is_at (slice_cmp nat_cmp x)) names) (sym (texts_ties x name)) ∙ ap (λ b. same x name || b) (members x names)

or_is : (b c : Bool) → cond b true c ≡ (b || c)
or_is true c = refl
or_is false c = refl

flipped : (x y : List ℕ) → same x y ≡ same y x
flipped x y = nat_list_eq_equiv.symm x y

-- a name more
pub members_added : (x label : List ℕ) (olds news : List (List ℕ)) → list_any (is_at (slice_cmp nat_cmp x)) news ≡ cond (is_at (slice_cmp nat_cmp label) x) true (list_any (is_at (slice_cmp nat_cmp x)) olds) → list_any (same x) news ≡ (same x label || list_any (same x) olds)
members_added x label olds news e =
    let tied = flipped x label ∙ texts_ties label x in
    sym (members x news) ∙ e ∙ or_is (is_at (slice_cmp nat_cmp label) x) _ ∙ ap (λ b. b || list_any (is_at (slice_cmp nat_cmp x)) olds) (sym tied) ∙ ap (λ b. same x label || b) (members x olds)
