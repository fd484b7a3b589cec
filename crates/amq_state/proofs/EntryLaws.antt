-- The entries of a table whose keys ascend.
use Rattle.std.proofs.Common.{◌≡◌, ℕ, suc, zero, Bool, eqb, List, [], ◌∷◌, ◌||◌, map, Option, Some, refl, ap, ◌∙◌}
use Rattle.std.specs.Prelude.{slice_get}
use Rattle.std.specs.List.{cons_option, filter_map, list_any}
use Rattle.std.specs.List.Sorted.{IsStrictlySortedBy}
use Rattle.std.specs.Option.{is_some}
use Rattle.std.specs.Ordering.{nat_cmp}
use Rattle.std.specs.Cmp.{eq_by_cmp_equiv}
use Rattle.std.specs.BTreeMap.{is_at}
use Rattle.std.specs.Map.{lookup, keys_of}
use Rattle.std.proofs.lemmas.Cmp.{nat_cmp_total}
use Rattle.std.proofs.lemmas.Map.Entries.{lookup_from_place}
use Rattle.std.proofs.lemmas.Map.Keys.{IsDistinct-from_sorted}
use Rattle.std.proofs.lemmas.Map.Made.{is_some-lookup}
use Rattle.amq_model.proofs.AscendingLaws.{is_here}

-- two functions that agree at each place
maps_same : {X Y : Type 0} (g h : X → Y) (xs : List X) → ((i : ℕ) (x : X) → slice_get xs i ≡ Some x → g x ≡ h x) → map g xs ≡ map h xs
maps_same g h [] same = refl
maps_same {Y = Y} g h (x ∷ xs) same = ap (λ (y : Y). y ∷ map g xs) (same zero x refl) ∙ ap (λ (ys : List Y). h x ∷ ys) (maps_same g h xs (λ i y e. same (suc i) y e))

module _ {X Y : Type 0} where
  -- two functions that agree where a look-up finds the entry
  pub entries_same : (g h : ℕ × X → Y) (es : List (ℕ × X)) → IsStrictlySortedBy nat_cmp (keys_of es) → ((k : ℕ) (v : X) → lookup (is_at (nat_cmp k)) es ≡ Some v → g (k, v) ≡ h (k, v)) → map g es ≡ map h es
  entries_same g h es sorted same =
      maps_same g h es (λ i e at. same e.0 e.1 (lookup_from_place (eq_by_cmp_equiv nat_cmp_total) es i e.0 e.1 (IsDistinct-from_sorted nat_cmp (keys_of es) sorted) at))

-- the same of what is found
founds_same : {X Y : Type 0} (g h : X → Option Y) (xs : List X) → ((i : ℕ) (x : X) → slice_get xs i ≡ Some x → g x ≡ h x) → filter_map g xs ≡ filter_map h xs
founds_same g h [] same = refl
founds_same {Y = Y} g h (x ∷ xs) same = ap (λ (o : Option Y). cons_option o (filter_map g xs)) (same zero x refl) ∙ ap (cons_option (h x)) (founds_same g h xs (λ i y e. same (suc i) y e))

module _ {X Y : Type 0} where
  pub finds_same : (g h : ℕ × X → Option Y) (es : List (ℕ × X)) → IsStrictlySortedBy nat_cmp (keys_of es) → ((k : ℕ) (v : X) → lookup (is_at (nat_cmp k)) es ≡ Some v → g (k, v) ≡ h (k, v)) → filter_map g es ≡ filter_map h es
  finds_same g h es sorted same =
      founds_same g h es (λ i e at. same e.0 e.1 (lookup_from_place (eq_by_cmp_equiv nat_cmp_total) es i e.0 e.1 (IsDistinct-from_sorted nat_cmp (keys_of es) sorted) at))

-- a key is listed exactly where a look-up finds it
pub found_listed : {X : Type 0} (k : ℕ) (es : List (ℕ × X)) → is_some (lookup (is_at (nat_cmp k)) es) ≡ list_any (eqb k) (keys_of es)
found_listed k es = is_some-lookup (is_at (nat_cmp k)) es ∙ tests (keys_of es) where
  tests : (ks : List ℕ) → list_any (is_at (nat_cmp k)) ks ≡ list_any (eqb k) ks
  tests [] = refl
  tests (q ∷ qs) = ap (λ (b : Bool). b || list_any (is_at (nat_cmp k)) qs) (is_here k q) ∙ ap (λ (b : Bool). eqb k q || b) (tests qs)
