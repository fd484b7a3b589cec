-- The parts of a new table.
use Rattle.std.proofs.Common.{◌≡◌, ℕ, ◌≤◌, Bool, true, false, cond, ◌||◌, eqb, List, [], ◌∷◌, ◌++◌, map, Option, Some, None, Less, Equal, Greater, refl, sym, ap, ◌∙◌, arith}
use Rattle.std.specs.Prelude.{filter, fold, All, nat_lt}
use Rattle.std.specs.List.{flat_map, list_any, AllByRecursion}
use Rattle.std.specs.List.Sorted.{IsStrictlySortedBy}
use Rattle.std.specs.Option.{option_map, is_some}
use Rattle.std.specs.Ordering.{nat_cmp}
use Rattle.std.specs.Map.{keys_of, lookup}
use Rattle.std.proofs.lemmas.Bool.{eqb-true, eq-eqb}
use Rattle.std.proofs.lemmas.List.Elements.{All-head, All-tail}
use borrow.Author.Tests.{ltb-true}
use Rattle.amq_model.specs.declared.state.EntryEnd.{EntryEnd}
use Rattle.amq_model.specs.declared.state.OpenTx.{OpenTx}
use Rattle.amq_model.proofs.AscendingLaws.{sides}
use Rattle.amq_tx.specs.declared.turn.Turn.{Turn}
use Rattle.amq_tx.specs.State.{TurnState}
use Rattle.amq_tx.specs.Parts.{turn_of, ids_of}
use Rattle.amq_tx.specs.Starting.{turn_or, ids_or, opened_turn, ends_of, touches_of}

-- one transaction more
pub turn_put : (o : OpenTx) (t : Turn) (old new : Option Turn) (q : ℕ) → new ≡ cond (eqb o.tx q) (Some t) old → turn_of t ≡ opened_turn o → option_map turn_of new ≡ turn_or q (option_map turn_of old) o
turn_put o t old new q is same = ap (option_map turn_of) is ∙ by (eqb o.tx q) where
  by : (b : Bool) → option_map turn_of (cond b (Some t) old) ≡ cond b (Some (opened_turn o)) (option_map turn_of old)
  by true = ap (λ (s : TurnState). Some s) same
  by false = refl

pub ids_put : (o : OpenTx) (t : Turn) (old new : Option Turn) (q : ℕ) → new ≡ cond (eqb o.tx q) (Some t) old → t.ids.items ≡ keys_of o.touched → ids_of new ≡ ids_or q (ids_of old) o
ids_put o t old new q is same = ap ids_of is ∙ by (eqb o.tx q) where
  by : (b : Bool) → ids_of (cond b (Some t) old) ≡ cond b (keys_of o.touched) (ids_of old)
  by true = same
  by false = refl

-- ---- numbers that ascend

less_apart : (x y : ℕ) → nat_cmp x y ≡ Less → eqb x y ≡ false
less_apart x y = by (nat_lt x y) (eqb x y) refl refl where
  by : (less same : Bool) → nat_lt x y ≡ less → eqb x y ≡ same → cond less Less (cond same Equal Greater) ≡ Less → same ≡ false
  by true true l s e = absurd (omega (arith, ltb-true x y l, eqb-true x y s))
  by true false l s e = refl
  by false true l s e = absurd cc
  by false false l s e = refl

pub not_among : (x : ℕ) (ys : List ℕ) → AllByRecursion (λ y. nat_cmp x y ≡ Less) ys → list_any (eqb x) ys ≡ false
not_among x [] all = refl
not_among x (y ∷ ys) all = ap (λ (b : Bool). b || list_any (eqb x) ys) (less_apart x y all.0) ∙ not_among x ys all.1

abbrev pub numbers_of : List OpenTx → List ℕ
numbers_of os = map (λ o. o.tx) os

-- ---- the touches of a transaction among those of all

lookup-front : (q : ℕ) (xs ys : List (ℕ × EntryEnd)) → lookup (eqb q) ys ≡ None → lookup (eqb q) (xs ++ ys) ≡ lookup (eqb q) xs
lookup-front q [] ys none = none
lookup-front q (x ∷ xs) ys none = ap (λ (o : Option EntryEnd). cond (eqb q x.0) (Some x.1) o) (lookup-front q xs ys none)

pub lookup-back : (q : ℕ) (xs ys : List (ℕ × EntryEnd)) → lookup (eqb q) xs ≡ None → lookup (eqb q) (xs ++ ys) ≡ lookup (eqb q) ys
lookup-back q [] ys none = refl
lookup-back q (x ∷ xs) ys none = by (λ e. lookup-back q xs ys e) (eqb q x.0) none where
  by : (lookup (eqb q) xs ≡ None → lookup (eqb q) (xs ++ ys) ≡ lookup (eqb q) ys) → (b : Bool) → cond b (Some x.1) (lookup (eqb q) xs) ≡ None → cond b (Some x.1) (lookup (eqb q) (xs ++ ys)) ≡ lookup (eqb q) ys
  by rest true none = absurd cc
  by rest false none = rest none

-- the touches of one transaction are no other's
pub ends-other : (q id tx : ℕ) (ts : List (ℕ × EntryEnd)) → eqb q tx ≡ false → lookup (eqb q) (ends_of id tx ts) ≡ None
ends-other q id tx [] other = refl
ends-other q id tx (t ∷ ts) other = by (ends-other q id tx ts other) (eqb t.0 id) where
  by : lookup (eqb q) (ends_of id tx ts) ≡ None → (b : Bool) → lookup (eqb q) (map (λ t. (tx, t.1)) (cond b (t ∷ filter (λ t. eqb t.0 id) ts) (filter (λ t. eqb t.0 id) ts))) ≡ None
  by rest true = ap (λ (b : Bool). cond b (Some t.1) (lookup (eqb q) (ends_of id tx ts))) other ∙ rest
  by rest false = rest

-- what it does to an id is what it is listed with
pub ends-own : (id tx : ℕ) (ts : List (ℕ × EntryEnd)) → lookup (eqb tx) (ends_of id tx ts) ≡ lookup (eqb id) ts
ends-own id tx [] = refl
ends-own id tx (t ∷ ts) = by (ends-own id tx ts) (eqb t.0 id) refl where
  by : lookup (eqb tx) (ends_of id tx ts) ≡ lookup (eqb id) ts → (b : Bool) → eqb t.0 id ≡ b → lookup (eqb tx) (map (λ t. (tx, t.1)) (cond b (t ∷ filter (λ t. eqb t.0 id) ts) (filter (λ t. eqb t.0 id) ts))) ≡ cond (eqb id t.0) (Some t.1) (lookup (eqb id) ts)
  by rest true e = ap (λ (b : Bool). cond b (Some t.1) (lookup (eqb tx) (ends_of id tx ts))) (eq-eqb tx tx refl) ∙ sym (ap (λ (b : Bool). cond b (Some t.1) (lookup (eqb id) ts)) (sides id t.0 ∙ e))
  by rest false e = rest ∙ sym (ap (λ (b : Bool). cond b (Some t.1) (lookup (eqb id) ts)) (sides id t.0 ∙ e))

pub touches-absent : (q id : ℕ) (os : List OpenTx) → list_any (eqb q) (numbers_of os) ≡ false → lookup (eqb q) (flat_map (touches_of id) os) ≡ None
touches-absent q id [] absent = refl
touches-absent q id (o ∷ os) absent = by (λ e. touches-absent q id os e) (eqb q o.tx) refl absent where
  by : (list_any (eqb q) (numbers_of os) ≡ false → lookup (eqb q) (flat_map (touches_of id) os) ≡ None) → (b : Bool) → eqb q o.tx ≡ b → (b || list_any (eqb q) (numbers_of os)) ≡ false → lookup (eqb q) (touches_of id o ++ flat_map (touches_of id) os) ≡ None
  by rest true e absent = absurd cc
  by rest false e absent = lookup-back q (touches_of id o) (flat_map (touches_of id) os) (ends-other q id o.tx o.touched e) ∙ rest absent

ids-absent : (q : ℕ) (found : List ℕ) (os : List OpenTx) → list_any (eqb q) (numbers_of os) ≡ false → fold (ids_or q) found os ≡ found
ids-absent q found [] absent = refl
ids-absent q found (o ∷ os) absent = by (λ e. ids-absent q found os e) (eqb q o.tx) refl absent where
  by : (list_any (eqb q) (numbers_of os) ≡ false → fold (ids_or q) found os ≡ found) → (b : Bool) → eqb q o.tx ≡ b → (b || list_any (eqb q) (numbers_of os)) ≡ false → fold (ids_or q) (ids_or q found o) os ≡ found
  by rest true e absent = absurd cc
  by rest false e absent = ap (λ (b : Bool). fold (ids_or q) (cond b (keys_of o.touched) found) os) (sides o.tx q ∙ e) ∙ rest absent

-- what is found has its key
pub key_listed : (id : ℕ) (ts : List (ℕ × EntryEnd)) → is_some (lookup (eqb id) ts) ≡ list_any (eqb id) (keys_of ts)
key_listed id [] = refl
key_listed id (t ∷ ts) = by (key_listed id ts) (eqb id t.0) where
  by : is_some (lookup (eqb id) ts) ≡ list_any (eqb id) (keys_of ts) → (b : Bool) → is_some (cond b (Some t.1) (lookup (eqb id) ts)) ≡ (b || list_any (eqb id) (keys_of ts))
  by rest true = refl
  by rest false = rest

-- the ids of each transaction are all that it touches
pub all_listed : (os : List OpenTx) → IsStrictlySortedBy nat_cmp (numbers_of os) → (found : List ℕ) (q id : ℕ) → is_some (lookup (eqb q) (flat_map (touches_of id) os)) ≡ true → list_any (eqb id) (fold (ids_or q) found os) ≡ true
unfolding IsStrictlySortedBy
all_listed [] sorted found q id is = absurd cc
all_listed (o ∷ os) sorted found q id is = by (λ e found. all_listed os sorted.1 found q id e) (eqb q o.tx) refl where
  by : (is_some (lookup (eqb q) (flat_map (touches_of id) os)) ≡ true → (found : List ℕ) → list_any (eqb id) (fold (ids_or q) found os) ≡ true) → (b : Bool) → eqb q o.tx ≡ b → list_any (eqb id) (fold (ids_or q) (ids_or q found o) os) ≡ true
  by rest true e =
      let absent : list_any (eqb q) (numbers_of os) ≡ false = ap (λ (n : ℕ). list_any (eqb n) (numbers_of os)) (eqb-true q o.tx e) ∙ not_among o.tx (numbers_of os) sorted.0 in
      let front : lookup (eqb q) (flat_map (touches_of id) (o ∷ os)) ≡ lookup (eqb id) o.touched =
      lookup-front q (touches_of id o) (flat_map (touches_of id) os) (touches-absent q id os absent) ∙ ap (λ (n : ℕ). lookup (eqb n) (touches_of id o)) (eqb-true q o.tx e) ∙ ends-own id o.tx o.touched in
      ap (list_any (eqb id)) (ids-absent q (ids_or q found o) os absent ∙ ap (λ (b : Bool). cond b (keys_of o.touched) found) (sides o.tx q ∙ e))
      ∙ sym (key_listed id o.touched) ∙ ap is_some (sym front) ∙ is
  by rest false e =
      rest (ap is_some (sym (lookup-back q (touches_of id o) (flat_map (touches_of id) os) (ends-other q id o.tx o.touched e))) ∙ is) (ids_or q found o)

-- each open transaction has a number that is listed
pub listed_below : (os : List OpenTx) (highest q : ℕ) (found : Option TurnState) → All (λ o. o.tx ≤ highest) os → (is_some found ≡ true → q ≤ highest) → is_some (fold (turn_or q) found os) ≡ true → q ≤ highest
listed_below [] highest q found all before is = before is
listed_below (o ∷ os) highest q found all before is = listed_below os highest q (turn_or q found o) (All-tail (λ o. o.tx ≤ highest) o os all) (by (eqb o.tx q) refl) is where
  by : (b : Bool) → eqb o.tx q ≡ b → is_some (cond b (Some (opened_turn o)) found) ≡ true → q ≤ highest
  by true e h = omega (arith, eqb-true o.tx q e, All-head (λ o. o.tx ≤ highest) o os all)
  by false e h = before h

pub mapped : (o : Option Turn) → is_some (option_map turn_of o) ≡ is_some o
mapped None = refl
mapped (Some t) = refl
