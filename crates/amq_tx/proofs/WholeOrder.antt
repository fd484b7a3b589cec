-- Where the records of a legal history stand: in order by file and place, in files above those of base.
use Rattle.std.proofs.Common.{◌≡◌, ◌⊎◌, inl, inr, ⊎_elim, ℕ, zero, suc, ◌+◌, ◌<◌, ◌≤◌, List, [], ◌∷◌, ◌++◌, take, Some, refl, subst, arith}
use Rattle.std.specs.Prelude.{All, slice_get}
use Rattle.amq_model.specs.declared.record.Record.{Record}
use Rattle.amq_model.specs.declared.record.Record.TheVariants as r
use Rattle.amq_model.specs.declared.record.Placed.{Placed}
use Rattle.amq_model.specs.RecordAt.{len_of}
use Rattle.amq_model.specs.Legal.{StandsNext}
use Rattle.amq_tx.proofs.WholeParts.{Has, all_by, all_has, get_has, has_behind, IsDistinct}

-- in a later file, or behind in the same
abbrev pub IsBefore : Placed → Placed → Type 0
IsBefore p q = (p.file < q.file) ⊎ ((p.file ≡ q.file) × (p.place < q.place))

abbrev pub IsInOrder : List Placed → Type 0
IsInOrder [] = Unit {0}
IsInOrder (p ∷ ps) = All (IsBefore p) ps × IsInOrder ps

pub not_both : (p q : Placed) → IsBefore p q → IsBefore q p → ⊥
not_both p q (inl a) (inl b) = omega (arith, a, b)
not_both p q (inl a) (inr b) = omega (arith, a, b.0)
not_both p q (inr a) (inl b) = omega (arith, a.0, b)
not_both p q (inr a) (inr b) = omega (arith, a.1, b.1)

-- ---- what order gives

pub distinct : (l : List Placed) → IsInOrder l → IsDistinct l
distinct [] o = tt
distinct (p ∷ ps) o = ((λ h. let before = all_has (IsBefore p) ps o.0 p h in not_both p p before before), distinct ps o.1)

pub front_before : (xs ys : List Placed) (p q : Placed) → IsInOrder (xs ++ ys) → Has xs p → Has ys q → IsBefore p q
front_before [] ys p q o hp hq = absurd hp
front_before (x ∷ xs) ys p q o (inl e) hq = subst (λ (x : Placed). IsBefore x q) e (all_has (IsBefore x) (xs ++ ys) o.0 q (has_behind xs ys q hq))
front_before (x ∷ xs) ys p q o (inr hp) hq = front_before xs ys p q o.1 hp hq

pub taken_before : (h : ℕ) (l : List Placed) (p q : Placed) → IsInOrder l → slice_get l h ≡ Some p → Has (take h l) q → IsBefore q p
taken_before zero l p q o at has = absurd has
taken_before (suc h) [] p q o at has = absurd has
taken_before (suc h) (x ∷ xs) p q o at (inl e) = subst (λ (x : Placed). IsBefore x p) e (all_has (IsBefore x) xs o.0 p (get_has xs h p at))
taken_before (suc h) (x ∷ xs) p q o at (inr has) = taken_before h xs p q o.1 at has

-- ---- one record more

len_of-pos : (rec : Record) → 1 < len_of rec
len_of-pos (r.Add id user_type body) = omega arith
len_of-pos (r.Update id user_type body) = omega arith
len_of-pos (r.AddTx tx id user_type body) = omega arith
len_of-pos (r.UpdateTx tx id user_type body) = omega arith
len_of-pos (r.DeleteTx tx id body) = omega arith
len_of-pos (r.Delete id) = omega arith
len_of-pos (r.Prepare tx count extra) = omega arith
len_of-pos (r.Commit tx count) = omega arith
len_of-pos (r.Rollback tx) = omega arith

before_trans : (p q t : Placed) → IsBefore p q → IsBefore q t → IsBefore p t
before_trans p q t (inl a) (inl b) = inl (omega (arith, a, b))
before_trans p q t (inl a) (inr b) = inl (omega (arith, a, b.0))
before_trans p q t (inr a) (inl b) = inl (omega (arith, a.0, b))
before_trans p q t (inr a) (inr b) = inr (omega (arith, a.0, b.0), omega (arith, a.1, b.1))

not_lower : (p q : Placed) → IsBefore p q → p.file ≤ q.file
not_lower p q (inl a) = omega (arith, a)
not_lower p q (inr a) = omega (arith, a.0)

next_before : (q p : Placed) → ((p.file ≡ q.file) × (p.place ≡ q.place + len_of q.rec)) ⊎ ((q.file < p.file) × (p.place ≡ 16)) → IsBefore q p
next_before q p (inl h) = inr (omega (arith, h.0), omega (arith, h.1, len_of-pos q.rec))
next_before q p (inr h) = inl h.0

next_behind : (base l : List Placed) (p x : Placed) → IsInOrder l → StandsNext base l p → Has l x → IsBefore x p
next_behind base [] p x o h has = absurd has
next_behind base (q ∷ []) p x o h (inl e) = subst (λ (q : Placed). IsBefore q p) e (next_before q p h)
next_behind base (q ∷ []) p x o h (inr has) = absurd has
next_behind base (q ∷ s ∷ ss) p x o h (inl e) =
    subst (λ (q : Placed). IsBefore q p) e (before_trans q s p (all_has (IsBefore q) (s ∷ ss) o.0 s (inl refl)) (next_behind base (s ∷ ss) p s o.1 h (inl refl)))
next_behind base (q ∷ s ∷ ss) p x o h (inr has) = next_behind base (s ∷ ss) p x o.1 h has

first_above : (base l : List Placed) (p b : Placed) → IsInOrder l → StandsNext base l p → ((x : Placed) → Has l x → b.file < x.file) → Has base b → b.file < p.file
first_above base [] p b o h above has = all_has (λ q. q.file < p.file) base h.1 b has
first_above base (q ∷ qs) p b o h above has = omega (arith, above q (inl refl), not_lower q p (next_behind base (q ∷ qs) p q o h (inl refl)))

has_more : (l : List Placed) (p x : Placed) → Has (l ++ p ∷ []) x → Has l x ⊎ (p ≡ x)
has_more [] p x (inl e) = inr e
has_more [] p x (inr has) = absurd has
has_more (q ∷ qs) p x (inl e) = inl (inl e)
has_more (q ∷ qs) p x (inr has) = ⊎_elim (λ h. inl (inr h)) (λ e. inr e) (has_more qs p x has)

order_more : (l : List Placed) (p : Placed) → IsInOrder l → ((x : Placed) → Has l x → IsBefore x p) → IsInOrder (l ++ p ∷ [])
order_more [] p o last = ((λ k d lt. absurd (omega (arith, lt))), tt)
order_more (q ∷ qs) p o last = (
  all_by (IsBefore q) (qs ++ p ∷ []) (λ x has. ⊎_elim (λ h. all_has (IsBefore q) qs o.0 x h) (λ e. subst (IsBefore q) e (last q (inl refl))) (has_more qs p x has)),
  order_more qs p o.1 (λ x has. last x (inr has)),
)

pub record IsOrdered (base history : List Placed) : Type 0 where
  pub order : IsInOrder history
  pub above : (b x : Placed) → Has base b → Has history x → b.file < x.file

pub ordered_first : (base : List Placed) → IsOrdered base []
ordered_first base = record { order = tt; above = λ b x hb hx. absurd hx }

pub ordered_more : (base l : List Placed) (p : Placed) → IsOrdered base l → StandsNext base l p → IsOrdered base (l ++ p ∷ [])
ordered_more base l p o next = record {
  order = order_more l p o.order (λ x has. next_behind base l p x o.order next has);
  above = λ b x hb hx. ⊎_elim (λ h. o.above b x hb h) (λ e. subst (λ (q : Placed). b.file < q.file) e (first_above base l p b o.order next (λ x has. o.above b x hb has) hb)) (has_more l p x hx);
}
