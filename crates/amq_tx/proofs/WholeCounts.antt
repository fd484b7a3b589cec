-- How many of a list are left in a part of it, and what a sound PREPARE or COMMIT counts.
use Rattle.std.proofs.Common.{◌≡◌, inl, inr, ℕ, ◌+◌, ◌≤◌, Bool, true, false, cond, eqb, not, ◌&&◌, List, [], ◌∷◌, ◌++◌, refl, sym, ap, ◌∙◌, arith, Some}
use Rattle.std.specs.Prelude.{◌==◌}
use Rattle.std.specs.List.{count_by, list_any}
use Rattle.std.proofs.lemmas.Bool.{eqb-true, eq-eqb, false≢true}
use Rattle.std.proofs.lemmas.Option.{same_Some}
use Rattle.std.proofs.lemmas.List.Sums.{sum_by-cons}
use Rattle.amq_model.specs.declared.record.Record.{Record}
use Rattle.amq_model.specs.declared.record.Record.TheVariants.{Prepare, Commit}
use Rattle.amq_model.specs.declared.record.Placed.{Placed}
use Rattle.amq_model.specs.Effect.{changes, ends, counted, is_sound, open_changes}
use Rattle.amq_model.specs.Kept.{closing_tx, IsPart}
use Rattle.amq_tx.proofs.WholeParts.{Has, either_false}

count_cons : {X : Type 0} (f : X → Bool) (x : X) (xs : List X) → count_by f (x ∷ xs) ≡ cond (f x) 1 0 + count_by f xs
count_cons f x xs = sum_by-cons (λ x. cond (f x) 1 0) x xs

count_part : {X : Type 0} (f : X → Bool) (xs ys : List X) → IsPart xs ys → count_by f xs ≤ count_by f ys
count_part f [] ys p = omega arith
count_part f (x ∷ xs) [] p = absurd p
count_part f (x ∷ xs) (y ∷ ys) (inl p) = omega (arith, count_cons f x xs, count_cons f y ys, ap {B = ℕ} (λ z. cond (f z) 1 0) p.0, count_part f xs ys p.1)
count_part f (x ∷ xs) (y ∷ ys) (inr p) = omega (arith, count_cons f y ys, count_part f (x ∷ xs) ys p)

-- a part with as many has them all
pub all_counted : {X : Type 0} (f : X → Bool) (xs ys : List X) (z : X) → IsPart xs ys → count_by f ys ≤ count_by f xs → Has ys z → f z ≡ true → Has xs z
all_counted f xs [] z p le h is = absurd h
all_counted f [] (y ∷ ys) z p le (inl e) is = absurd (omega (arith, le, count_cons f y ys, ap {B = ℕ} (λ (b : Bool). cond b 1 0) (ap f e ∙ is)))
all_counted f [] (y ∷ ys) z p le (inr h) is = all_counted f [] ys z tt (omega (arith, le, count_cons f y ys)) h is
all_counted f (x ∷ xs) (y ∷ ys) z (inl p) le (inl e) is = inl (p.0 ∙ e)
all_counted f (x ∷ xs) (y ∷ ys) z (inl p) le (inr h) is =
    inr (all_counted f xs ys z p.1 (omega (arith, le, count_cons f x xs, count_cons f y ys, ap {B = ℕ} (λ z. cond (f z) 1 0) p.0)) h is)
all_counted f (x ∷ xs) (y ∷ ys) z (inr p) le (inl e) is = absurd (omega (arith, le, count_cons f y ys, ap {B = ℕ} (λ (b : Bool). cond b 1 0) (ap f e ∙ is), count_part f (x ∷ xs) ys p))
all_counted f (x ∷ xs) (y ∷ ys) z (inr p) le (inr h) is = all_counted f (x ∷ xs) ys z p (omega (arith, le, count_cons f y ys)) h is

-- ---- what counts for a PREPARE or COMMIT

-- the record is an add, update or delete of the transaction, in the file
pub changes_in : ℕ → ℕ → Placed → Bool
changes_in tx file p = changes tx p && p.file == file

pub is_change_in : (tx file : ℕ) (q : Placed) → changes tx q ≡ true → q.file ≡ file → changes_in tx file q ≡ true
unfolding changes_in
is_change_in tx file q c same = rw (c, eq-eqb q.file file same) refl

-- the number of records that a PREPARE or COMMIT has
pub count_of : Record → ℕ
count_of (Prepare tx count extra) = count
count_of (Commit tx count) = count
count_of _ = 0

count_is : (before : List Placed) (file tx : ℕ) (rec : Record) → closing_tx rec ≡ Some tx
    → elim rec [ Prepare t count extra ↦ count == counted before t file | Commit t count ↦ count == counted before t file | _ ↦ false ] ≡ true → count_of rec ≡ counted before tx file
unfolding count_of
count_is before file tx (Prepare t count extra) e h = eqb-true _ _ h ∙ ap (λ (t : ℕ). counted before t file) (same_Some t tx e)
count_is before file tx (Commit t count) e h = eqb-true _ _ h ∙ ap (λ (t : ℕ). counted before t file) (same_Some t tx e)
count_is before file tx _ e h = absurd (false≢true h)

-- with no end before, each record that stands before counts
counted_front : (tx file : ℕ) (l : List Placed) → list_any (ends tx) l ≡ false → count_by (λ p. p.file == file) (open_changes tx l) ≡ count_by (changes_in tx file) l
unfolding changes_in
counted_front tx file [] none = refl
counted_front tx file (p ∷ ps) none =
    let b = either_false (ends tx p) (list_any (ends tx) ps) none in
    let rest = counted_front tx file ps b.1 in
    ap (λ (e : Bool). count_by (λ p. p.file == file) (cond (changes tx p && not e) (p ∷ open_changes tx ps) (open_changes tx ps))) b.1
    ∙ by (changes tx p) refl rest ∙ sym (count_cons (λ p. changes tx p && p.file == file) p ps)
  where
    by : (t : Bool) → changes tx p ≡ t → count_by (λ p. p.file == file) (open_changes tx ps) ≡ count_by (λ p. changes tx p && p.file == file) ps
        → count_by (λ p. p.file == file) (cond (t && true) (p ∷ open_changes tx ps) (open_changes tx ps)) ≡ cond (t && p.file == file) 1 0 + count_by (λ p. changes tx p && p.file == file) ps
    by true is rest = count_cons (λ p. p.file == file) p (open_changes tx ps) ∙ ap (λ (n : ℕ). cond (eqb p.file file) 1 0 + n) rest
    by false is rest = omega (arith, rest)

not_equal : (a b : ℕ) → (a ≡ b → ⊥) → eqb a b ≡ false
not_equal a b apart = by (eqb a b) refl where
  by : (t : Bool) → eqb a b ≡ t → t ≡ false
  by true is = absurd (apart (eqb-true a b is))
  by false is = refl

-- records of other files don't count
counted_base : (tx file : ℕ) (base l : List Placed) → ((b : Placed) → Has base b → b.file ≡ file → ⊥) → count_by (λ p. p.file == file) (open_changes tx (base ++ l)) ≡ count_by (λ p. p.file == file) (open_changes tx l)
counted_base tx file [] l apart = refl
counted_base tx file (b ∷ bs) l apart = by (changes tx b && not (list_any (ends tx) (bs ++ l))) (counted_base tx file bs l (λ x h. apart x (inr h))) where
  by : (t : Bool) → count_by (λ p. p.file == file) (open_changes tx (bs ++ l)) ≡ count_by (λ p. p.file == file) (open_changes tx l)
      → count_by (λ p. p.file == file) (cond t (b ∷ open_changes tx (bs ++ l)) (open_changes tx (bs ++ l))) ≡ count_by (λ p. p.file == file) (open_changes tx l)
  by true rest = omega (arith, count_cons (λ p. p.file == file) b (open_changes tx (bs ++ l)), ap {B = ℕ} (λ (t : Bool). cond t 1 0) (not_equal b.file file (apart b (inl refl))), rest)
  by false rest = rest

-- The number of a sound PREPARE or COMMIT in a file that base hasn't, with no end of its transaction before it.
pub count_here : (base l : List Placed) (tx : ℕ) (p : Placed) → ((b : Placed) → Has base b → b.file ≡ p.file → ⊥) → list_any (ends tx) l ≡ false
    → closing_tx p.rec ≡ Some tx → is_sound (base ++ l) p ≡ true → count_of p.rec ≡ count_by (changes_in tx p.file) l
count_here base l tx p apart none e h = count_is (base ++ l) p.file tx p.rec e h ∙ counted_base tx p.file base l apart ∙ counted_front tx p.file l none

-- what is open stands there
pub open_has : (tx : ℕ) (l : List Placed) (q : Placed) → Has (open_changes tx l) q → Has l q × (changes tx q ≡ true)
open_has tx [] q h = absurd h
open_has tx (p ∷ ps) q h = by (changes tx p) (not (list_any (ends tx) ps)) refl (open_has tx ps q) h where
  by : (t u : Bool) → changes tx p ≡ t → (Has (open_changes tx ps) q → Has ps q × (changes tx q ≡ true)) → Has (cond (t && u) (p ∷ open_changes tx ps) (open_changes tx ps)) q → Has (p ∷ ps) q × (changes tx q ≡ true)
  by true true is more (inl e) = (inl e, sym (ap (changes tx) e) ∙ is)
  by true true is more (inr h) = let r = more h in (inr r.0, r.1)
  by true false is more h = let r = more h in (inr r.0, r.1)
  by false u is more h = let r = more h in (inr r.0, r.1)
