-- The entries of a directory by their names.
use Rattle.std.proofs.Common.{◌≡◌, inl, inr, ℕ, ◌≤◌, Bool, true, false, cond, leb, List, [], ◌∷◌, length, None, Some, refl, sym, ap, subst, ◌∙◌}
use Rattle.std.specs.Prelude.{T, ◌&&◌}
use Rattle.std.specs.Ordering.{eq_by_cmp, is_lt, is_eq, nat_cmp}
use Rattle.std.specs.declared.cmp.Ordering.{Ordering}
use Rattle.std.specs.declared.cmp.Ordering.TheVariants.{Less, Equal, Greater}
use Rattle.std.proofs.lemmas.Option.{same_Some, none-some}
use Rattle.std.specs.Cmp.Lexicographic.{slice_cmp, same_text}
use Rattle.std.specs.FinMap as map
use Rattle.std.specs.FinMap.Entries.{below_all}
use Rattle.std.proofs.lemmas.Bool.{false≢true, leb-true, le-leb}
use Rattle.std.specs.List.{cons_option}
use Rattle.amq_model.specs.Files.{FileName, Image}
use Rattle.amq_model.proofs.Lookups.{same_self, same_other, same_true}
use Rattle.amq_scan.proofs.Parts.{Has}
use Rattle.amq_model.specs.Names.{is_data, same}
use Rattle.amq_model.specs.Directory.{FileOf, file_of, files_by_name, bytes_of}

-- a name with its bytes
abbrev pub Entry : Type 0
Entry = FileName × List ℕ

-- no two have one name
abbrev pub HaveOwnNames : List Entry → Type 0
HaveOwnNames [] = Unit {0}
HaveOwnNames (e ∷ es) = ((x : Entry) → Has es x → x.0 ≡ e.0 → ⊥) × HaveOwnNames es

first_holds : (a b : Bool) → T (a && b) → T a
first_holds true b p = tt
first_holds false b p = p

second_holds : (a b : Bool) → T (a && b) → T b
second_holds true b p = p
second_holds false b p = absurd p

below_has : (n : FileName) (es : List Entry) (x : Entry) → T (below_all (slice_cmp nat_cmp) n es) → Has es x → T (is_lt (slice_cmp nat_cmp n x.0))
below_has n [] x b h = absurd h
below_has n (e ∷ es) x b (inl is) = subst (λ (y : Entry). T (is_lt (slice_cmp nat_cmp n y.0))) is (first_holds (is_lt (slice_cmp nat_cmp n e.0)) (below_all (slice_cmp nat_cmp) n es) b)
below_has n (e ∷ es) x b (inr h) = below_has n es x (second_holds (is_lt (slice_cmp nat_cmp n e.0)) (below_all (slice_cmp nat_cmp) n es) b) h

not_below : (n : FileName) → T (is_lt (slice_cmp nat_cmp n n)) → ⊥
not_below n lt = by (slice_cmp nat_cmp n n) lt (same_self n) where
  by : (o : Ordering) → T (is_lt o) → is_eq o ≡ true → ⊥
  by Less l e = false≢true e
  by Equal l e = l
  by Greater l e = l

-- the entries of a directory
sorted_own_names : (es : List Entry) → T (map.is_sorted (slice_cmp nat_cmp) es) → HaveOwnNames es
sorted_own_names [] s = tt
sorted_own_names (e ∷ es) s =
    (λ x h is. not_below e.0 (subst (λ (n : FileName). T (is_lt (slice_cmp nat_cmp e.0 n))) is (below_has e.0 es x (first_holds _ _ s) h)), sorted_own_names es (second_holds _ _ s))

found_has : (q : FileName) (bytes : List ℕ) (es : List Entry) → map.find (slice_cmp nat_cmp) q es ≡ Some bytes → Has es (q, bytes)
found_has q bytes [] is = absurd cc
found_has q bytes (e ∷ es) is = by (eq_by_cmp (slice_cmp nat_cmp) q e.0) refl is (found_has q bytes es) where
  by : (b : Bool) → eq_by_cmp (slice_cmp nat_cmp) q e.0 ≡ b → cond b (Some e.1) (map.find (slice_cmp nat_cmp) q es) ≡ Some bytes → (map.find (slice_cmp nat_cmp) q es ≡ Some bytes → Has es (q, bytes)) → Has (e ∷ es) (q, bytes)
  by true same is rest = inl (ap (λ (n : FileName). (n, e.1)) (sym (same_true q e.0 same)) ∙ ap (λ (l : List ℕ). (q, l)) (same_Some e.1 bytes is))
  by false same is rest = inr (rest is)

has_found : (es : List Entry) (e : Entry) → HaveOwnNames es → Has es e → map.find (slice_cmp nat_cmp) e.0 es ≡ Some e.1
has_found [] e o h = absurd h
has_found (x ∷ xs) e o (inl is) = subst (λ (y : Entry). map.find (slice_cmp nat_cmp) y.0 (x ∷ xs) ≡ Some y.1) is (ap (λ (b : Bool). cond b (Some x.1) (map.find (slice_cmp nat_cmp) x.0 xs)) (same_self x.0))
has_found (x ∷ xs) e o (inr h) = ap (λ (b : Bool). cond b (Some x.1) (map.find (slice_cmp nat_cmp) e.0 xs)) (same_other e.0 x.0 (o.0 e h)) ∙ has_found xs e o.1 h

-- what a listing has under a name that none of its entries has
not_listed : (n : FileName) (es : List Entry) → ((e : Entry) → Has es e → n ≡ e.0 → ⊥) → bytes_of n es ≡ None
not_listed n [] other = refl
not_listed n (e ∷ es) other = by (same e.0 n) refl (not_listed n es (λ x h. other x (inr h))) where
  by : (b : Bool) → same e.0 n ≡ b → bytes_of n es ≡ None → cond b (Some e.1) (bytes_of n es) ≡ None
  by true is rest = absurd (other e (inl refl) (sym (same_text e.0 n (sym is))))
  by false is rest = rest

module _ (image : Image) where
  pub own_names : HaveOwnNames (map.entries image)
  own_names = sorted_own_names (map.entries image) (map.entries_sorted image)

  pub entry_there : (e : Entry) → Has (map.entries image) e → map.get image e.0 ≡ Some e.1
  entry_there e h = map.get-entries image e.0 ∙ has_found (map.entries image) e own_names h

  pub there_entry : (n : FileName) (bytes : List ℕ) → map.get image n ≡ Some bytes → Has (map.entries image) (n, bytes)
  there_entry n bytes is = found_has n bytes (map.entries image) (sym (map.get-entries image n) ∙ is)

  -- a file that isn't there isn't listed
  pub not_there : (n : FileName) → map.get image n ≡ None → bytes_of n (map.entries image) ≡ None
  not_there n none = not_listed n (map.entries image) (λ e h is. none-some e.1 (sym none ∙ ap (map.get image) is ∙ entry_there e h))

-- ---- those that are data files

pub record IsDataFile (e : Entry) : Type 0 where
  pub long : 16 ≤ length e.1
  pub named : is_data e.0 ≡ true

pub has_file : (es : List Entry) (e : Entry) → Has es e → IsDataFile e → Has (files_by_name es None) (file_of e.0 e.1)
has_file [] e h d = absurd h
has_file (x ∷ xs) e h d = by h (leb 16 (length x.1) && is_data x.0) refl (λ k. has_file xs e k d) where
  by : Has (x ∷ xs) e → (b : Bool) → (leb 16 (length x.1) && is_data x.0) ≡ b → (Has xs e → Has (files_by_name xs None) (file_of e.0 e.1)) → Has (cons_option (cond b (Some (file_of x.0 x.1)) None) (files_by_name xs None)) (file_of e.0 e.1)
  by (inl is) true e rest = inl (ap (λ (y : Entry). file_of y.0 y.1) is)
  by (inl is) false fails rest = absurd (false≢true (sym fails ∙ ap (λ (y : Entry). leb 16 (length y.1) && is_data y.0) is ∙ (ap (λ (a : Bool). a && is_data e.0) (le-leb 16 (length e.1) d.long) ∙ d.named)))
  by (inr h) true e rest = inr (rest h)
  by (inr h) false e rest = rest h

-- the entry of a data file
pub file_has : (es : List Entry) (f : FileOf) → Has (files_by_name es None) f → (e : Entry) × Has es e × IsDataFile e × (file_of e.0 e.1 ≡ f)
file_has [] f h = absurd h
file_has (x ∷ xs) f h = by (leb 16 (length x.1)) refl (is_data x.0) refl h (file_has xs f) where
  by : (a : Bool) → leb 16 (length x.1) ≡ a → (b : Bool) → is_data x.0 ≡ b → Has (cons_option (cond (a && b) (Some (file_of x.0 x.1)) None) (files_by_name xs None)) f
      → (Has (files_by_name xs None) f → (e : Entry) × Has xs e × IsDataFile e × (file_of e.0 e.1 ≡ f)) → (e : Entry) × Has (x ∷ xs) e × IsDataFile e × (file_of e.0 e.1 ≡ f)
  by true le true is (inl e) rest = (x, inl refl, record { long = leb-true 16 (length x.1) le; named = is }, e)
  by true le true is (inr h) rest = let r = rest h in (r.0, inr r.1, r.2, r.3)
  by true le false is h rest = let r = rest h in (r.0, inr r.1, r.2, r.3)
  by false le b is h rest = let r = rest h in (r.0, inr r.1, r.2, r.3)
