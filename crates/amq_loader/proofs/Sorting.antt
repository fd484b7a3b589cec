-- Parts in the order of their ids.
use Rattle.std.proofs.Common.{◌≡◌, inl, inr, ℕ, suc, ◌+◌, ◌<◌, ◌≤◌, Bool, true, false, cond, ltb, eqb, List, [], ◌∷◌, length, get_or, Option, Some, None, refl, sym, ap, subst, ◌∙◌, arith}
use Rattle.std.specs.Prelude.{not, ◌&&◌, filter}
use Rattle.std.specs.Ordering.{is_lt, nat_cmp}
use Rattle.std.specs.List.Sorted.{ties, IsStableByKey, IsSortedByKey, IsNonDecreasingBy}
use Rattle.std.proofs.lemmas.Bool.{cases_lt, lt-ltb, le-ltb, eq-eqb}
use Rattle.std.proofs.lemmas.List.Sorted.{IsNonDecreasingBy-from_sort}
use Rattle.amq_model.specs.declared.directory.DirFault.{DirFault}
use Rattle.amq_model.specs.declared.directory.DirFault.TheVariants.{TwoFiles}
use Rattle.amq_model.specs.Directory.{FileOf, placed_by_id, by_id, shared}
use Rattle.amq_loader.specs.declared.part.Part.{Part}
use Rattle.amq_loader.specs.Loads.{AreRising}
use Rattle.amq_loader.specs.Parts.{IsPartOf, ArePartsOf, part_placed, parts_by_id, shared_id}

-- ---- their order

-- the ids don't fall, each at least this
abbrev AreOrdered : ℕ → List Part → Type 0
AreOrdered least [] = Unit {0}
AreOrdered least (p ∷ ps) = (least ≤ p.file.id) × AreOrdered p.file.id ps

placed_ordered : (least : ℕ) (p : Part) (qs : List Part) → least ≤ p.file.id → AreOrdered least qs → AreOrdered least (part_placed p qs)
placed_ordered least p [] le o = (le, tt)
placed_ordered least p (q ∷ qs) le o =
    elim (cases_lt q.file.id p.file.id) [
      | inl lt ↦ subst (AreOrdered least) (sym (ap (λ (b : Bool). cond b (q ∷ part_placed p qs) (p ∷ q ∷ qs)) (lt-ltb q.file.id p.file.id lt)))
          (o.0, placed_ordered q.file.id p qs (omega (arith, lt)) o.1)
      | inr ge ↦ subst (AreOrdered least) (sym (ap (λ (b : Bool). cond b (q ∷ part_placed p qs) (p ∷ q ∷ qs)) (le-ltb q.file.id p.file.id ge)))
          (le, (ge, o.1))
    ]

by_id_ordered : (ps : List Part) → AreOrdered 0 (parts_by_id ps)
by_id_ordered [] = tt
by_id_ordered (p ∷ ps) = placed_ordered 0 p (parts_by_id ps) (omega arith) (by_id_ordered ps)

from_sorted : (least : ℕ) (ps : List Part) → ((d : Part) → 0 < length ps → least ≤ (get_or ps 0 d).file.id) → IsNonDecreasingBy (λ p. p.file.id) ps → AreOrdered least ps
from_sorted least [] low up = tt
from_sorted least (p ∷ ps) low up = (
  low p (omega arith),
  from_sorted p.file.id ps (λ d some. up 0 1 d (omega arith) (omega (arith, some))) (λ i j d le lt. up (suc i) (suc j) d (omega (arith, le)) (omega (arith, lt))),
)

-- ---- those of one id stay in their order

abbrev tie : Part → Part → Bool
tie = ties (λ x y. is_lt (nat_cmp x.file.id y.file.id))

tie_is : (a b : ℕ) → (not (is_lt (nat_cmp a b)) && not (is_lt (nat_cmp b a))) ≡ eqb a b
tie_is a b = grind arith

tie_same : (p q : Part) → p.file.id ≡ q.file.id → tie p q ≡ true
tie_same p q e = tie_is p.file.id q.file.id ∙ eq-eqb _ _ e

not_eqb : (a b : ℕ) → a < b → eqb a b ≡ false
not_eqb a b lt = grind arith

not_eqb_back : (a b : ℕ) → b < a → eqb a b ≡ false
not_eqb_back a b lt = grind arith

eqb_same : (a b c : ℕ) → a ≡ b → eqb c a ≡ eqb c b
eqb_same a b c e = ap (eqb c) e

two : (b c : Bool) (p q : Part) (rest : List Part) → (b ≡ true → c ≡ true → ⊥) → cond c (q ∷ cond b (p ∷ rest) rest) (cond b (p ∷ rest) rest) ≡ cond b (p ∷ cond c (q ∷ rest) rest) (cond c (q ∷ rest) rest)
two true true p q rest apart = absurd (apart refl refl)
two true false p q rest apart = refl
two false true p q rest apart = refl
two false false p q rest apart = refl

placed_stable : (z p : Part) (qs : List Part) → filter (tie z) (part_placed p qs) ≡ filter (tie z) (p ∷ qs)
placed_stable z p [] = refl
placed_stable z p (q ∷ qs) =
    elim (cases_lt q.file.id p.file.id) [
      | inl lt ↦ ap (λ (b : Bool). filter (tie z) (cond b (q ∷ part_placed p qs) (p ∷ q ∷ qs))) (lt-ltb q.file.id p.file.id lt)
          ∙ ap (λ (l : List Part). cond (tie z q) (q ∷ l) l) (placed_stable z p qs)
          ∙ two (tie z p) (tie z q) p q (filter (tie z) qs) (λ a b. apart lt a b)
      | inr ge ↦ ap (λ (b : Bool). filter (tie z) (cond b (q ∷ part_placed p qs) (p ∷ q ∷ qs))) (le-ltb q.file.id p.file.id ge)
    ]
  where
    both : (k a b : ℕ) → a < b → eqb k b ≡ true → eqb k a ≡ true → ⊥
    both k a b lt x y = grind arith

    apart : q.file.id < p.file.id → tie z p ≡ true → tie z q ≡ true → ⊥
    apart lt a b = both z.file.id q.file.id p.file.id lt (sym (tie_is z.file.id p.file.id) ∙ a) (sym (tie_is z.file.id q.file.id) ∙ b)

by_id_stable : (z : Part) (ps : List Part) → filter (tie z) (parts_by_id ps) ≡ filter (tie z) ps
by_id_stable z [] = refl
by_id_stable z (p ∷ ps) = placed_stable z p (parts_by_id ps) ∙ ap (λ (l : List Part). cond (tie z p) (p ∷ l) l) (by_id_stable z ps)

-- ---- so there is one such order

none_below : (z : Part) (least : ℕ) (ps : List Part) → z.file.id < least → AreOrdered least ps → filter (tie z) ps ≡ []
none_below z least [] lt o = refl
none_below z least (p ∷ ps) lt o =
    ap (λ (b : Bool). cond b (p ∷ filter (tie z) ps) (filter (tie z) ps)) (tie_is z.file.id p.file.id ∙ not_eqb z.file.id p.file.id (omega (arith, lt, o.0)))
    ∙ none_below z p.file.id ps (omega (arith, lt, o.0)) o.1

kept_first : (p : Part) (ps : List Part) → filter (tie p) (p ∷ ps) ≡ p ∷ filter (tie p) ps
kept_first p ps = ap (λ (b : Bool). cond b (p ∷ filter (tie p) ps) (filter (tie p) ps)) (tie_same p p refl)

not_lower : (p q : Part) (ps qs : List Part) → AreOrdered q.file.id qs → filter (tie p) (p ∷ ps) ≡ filter (tie p) (q ∷ qs) → q.file.id ≤ p.file.id
not_lower p q ps qs o same =
    elim (cases_lt p.file.id q.file.id) [
      | inl lt ↦ absurd (let e : p ∷ filter (tie p) ps ≡ [] = sym (kept_first p ps) ∙ same ∙ none_below p q.file.id (q ∷ qs) lt (omega arith, o) in cc)
      | inr ge ↦ ge
    ]

rest_same : (b : Bool) (p q : Part) (ps qs : List Part) → cond b (p ∷ ps) ps ≡ cond b (q ∷ qs) qs → ps ≡ qs
rest_same true p q ps qs e = cc
rest_same false p q ps qs e = e

pub one_order : (l m : ℕ) (ps qs : List Part) → AreOrdered l ps → AreOrdered m qs → ((z : Part) → filter (tie z) ps ≡ filter (tie z) qs) → ps ≡ qs
one_order l m [] [] o r same = refl
one_order l m [] (q ∷ qs) o r same = absurd (let e : [] ≡ q ∷ filter (tie q) qs = same q ∙ kept_first q qs in cc)
one_order l m (p ∷ ps) [] o r same = absurd (let e : p ∷ filter (tie p) ps ≡ [] = sym (kept_first p ps) ∙ same p in cc)
one_order l m (p ∷ ps) (q ∷ qs) o r same =
    let a : q.file.id ≤ p.file.id = not_lower p q ps qs r.1 (same p) in
    let b : p.file.id ≤ q.file.id = not_lower q p qs ps o.1 (sym (same q)) in
    let e : q.file.id ≡ p.file.id = omega (arith, a, b) in
    let first : p ∷ filter (tie p) ps ≡ q ∷ filter (tie p) qs =
    sym (kept_first p ps) ∙ same p ∙ ap (λ (b : Bool). cond b (q ∷ filter (tie p) qs) (filter (tie p) qs)) (tie_same p q (sym e)) in
    let head : p ≡ q = cc in
    let tail : (z : Part) → filter (tie z) ps ≡ filter (tie z) qs = λ z.
    rest_same (tie z p) p q (filter (tie z) ps) (filter (tie z) qs)
    (same z ∙ ap (λ (b : Bool). cond b (q ∷ filter (tie z) qs) (filter (tie z) qs)) (tie_is z.file.id q.file.id ∙ eqb_same q.file.id p.file.id z.file.id e ∙ sym (tie_is z.file.id p.file.id))) in
    ap (λ (x : Part). x ∷ ps) head ∙ ap (λ (xs : List Part). q ∷ xs) (one_order p.file.id q.file.id ps qs o.1 r.1 tail)

-- what a stable sort gives
pub sorted_is : (ps qs : List Part) → IsSortedByKey (λ p. p.file.id) nat_cmp qs → IsStableByKey (λ p. p.file.id) nat_cmp ps qs → qs ≡ parts_by_id ps
sorted_is ps qs up stable =
    one_order 0 0 qs (parts_by_id ps) (from_sorted 0 qs (λ d some. omega arith) (IsNonDecreasingBy-from_sort (λ p. p.file.id) qs up)) (by_id_ordered ps)
    (λ z. stable z ∙ sym (by_id_stable z ps))

-- ---- the files that they are of

id_is : (f : FileOf) (p : Part) → IsPartOf f p → f.id ≡ p.file.id
id_is f p is = sym (ap (λ d. d.id) is.file)

name_is : (f : FileOf) (p : Part) → IsPartOf f p → f.name ≡ p.file.name
name_is f p is = sym (ap (λ d. d.name) is.file)

placed_parts : (f : FileOf) (p : Part) (gs : List FileOf) (qs : List Part) → IsPartOf f p → ArePartsOf gs qs → ArePartsOf (placed_by_id f gs) (part_placed p qs)
placed_parts f p [] [] is are = (is, tt)
placed_parts f p [] (q ∷ qs) is are = absurd are
placed_parts f p (g ∷ gs) [] is are = absurd are
placed_parts f p (g ∷ gs) (q ∷ qs) is are =
    by (ltb g.id f.id) (ltb q.file.id p.file.id) (ap (λ (n : ℕ). ltb n f.id) (id_is g q are.0) ∙ ap (ltb q.file.id) (id_is f p is)) (placed_parts f p gs qs is are.1)
  where
    by : (b c : Bool) → b ≡ c → ArePartsOf (placed_by_id f gs) (part_placed p qs) → ArePartsOf (cond b (g ∷ placed_by_id f gs) (f ∷ g ∷ gs)) (cond c (q ∷ part_placed p qs) (p ∷ q ∷ qs))
    by true true e rest = (are.0, rest)
    by true false e rest = absurd (cc)
    by false true e rest = absurd (cc)
    by false false e rest = (is, are)

pub sorted_parts : (fs : List FileOf) (ps : List Part) → ArePartsOf fs ps → ArePartsOf (by_id fs) (parts_by_id ps)
sorted_parts [] [] are = tt
sorted_parts [] (p ∷ ps) are = absurd are
sorted_parts (f ∷ fs) [] are = absurd are
sorted_parts (f ∷ fs) (p ∷ ps) are = placed_parts f p (by_id fs) (parts_by_id ps) are.0 (sorted_parts fs ps are.1)

shared_by : (b c : Bool) → b ≡ c → (x y u v : Option DirFault) → x ≡ y → u ≡ v → cond b x u ≡ cond c y v
shared_by b c e x y u v one other = cc

-- the same two files share an id
pub shared_parts : (fs : List FileOf) (ps : List Part) → ArePartsOf fs ps → shared fs ≡ shared_id ps
shared_parts [] [] are = refl
shared_parts [] (p ∷ ps) are = absurd are
shared_parts (f ∷ fs) [] are = absurd are
shared_parts (f ∷ []) (p ∷ []) are = refl
shared_parts (f ∷ []) (p ∷ q ∷ ps) are = absurd are.1
shared_parts (f ∷ g ∷ fs) (p ∷ []) are = absurd are.1
shared_parts (f ∷ g ∷ fs) (p ∷ q ∷ ps) are =
    let a = id_is f p are.0 in
    let b = id_is g q are.1.0 in
    let m = name_is f p are.0 in
    let n = name_is g q are.1.0 in
    shared_by (eqb f.id g.id) (eqb p.file.id q.file.id) (cc) _ _ _ _ (cc) (shared_parts (g ∷ fs) (q ∷ ps) are.1)

-- where none is shared the ids rise
rising : (least : ℕ) (fs : List FileOf) (ps : List Part) → ArePartsOf fs ps → AreOrdered least ps → shared_id ps ≡ None → AreRising least fs
rising least [] [] are o none = tt
rising least [] (p ∷ ps) are o none = absurd are
rising least (f ∷ fs) [] are o none = absurd are
rising least (f ∷ []) (p ∷ []) are o none = (subst (λ (n : ℕ). least ≤ n) (sym (id_is f p are.0)) o.0, tt)
rising least (f ∷ []) (p ∷ q ∷ ps) are o none = absurd are.1
rising least (f ∷ g ∷ fs) (p ∷ []) are o none = absurd are.1
rising least (f ∷ g ∷ fs) (p ∷ q ∷ ps) are o none = by (eqb p.file.id q.file.id) refl none (λ le is. rising (p.file.id + 1) (g ∷ fs) (q ∷ ps) are.1 (le, o.1.1) is)
  where
    differs : (a b : ℕ) → a ≤ b → eqb a b ≡ false → a + 1 ≤ b
    differs a b le e = grind arith

    by : (b : Bool) → eqb p.file.id q.file.id ≡ b → cond b (Some (TwoFiles p.file.id p.file.name q.file.name)) (shared_id (q ∷ ps)) ≡ None → (p.file.id + 1 ≤ q.file.id → shared_id (q ∷ ps) ≡ None → AreRising (p.file.id + 1) (g ∷ fs)) → AreRising least (f ∷ g ∷ fs)
    by true e is rest = absurd (cc)
    by false e is rest = (
      subst (λ (n : ℕ). least ≤ n) (sym (id_is f p are.0)) o.0,
      subst (λ (n : ℕ). AreRising (n + 1) (g ∷ fs)) (sym (id_is f p are.0)) (rest (differs p.file.id q.file.id o.1.0 e) is),
    )

pub rising_parts : (fs : List FileOf) (ps : List Part) → ArePartsOf fs ps → shared_id (parts_by_id ps) ≡ None → AreRising 0 (by_id fs)
rising_parts fs ps are none = rising 0 (by_id fs) (parts_by_id ps) (sorted_parts fs ps are) (by_id_ordered ps) none
