-- A new table knows what its base has.
use Rattle.std.proofs.Common.{◌≡◌, ℕ, ◌+◌, ◌<◌, ◌≤◌, Bool, true, false, cond, not, ◌&&◌, ◌||◌, eqb, List, [], ◌∷◌, ◌++◌, map, Option, Some, None, refl, sym, ap, subst, ◌∙◌, arith}
use Rattle.std.specs.Prelude.{filter, fold, max, count_by, All}
use Rattle.std.specs.List.{filter_map, flat_map, list_any}
use Rattle.std.specs.List.Sorted.{IsStrictlySortedBy}
use Rattle.std.specs.Option.{is_some}
use Rattle.std.specs.Ordering.{nat_cmp}
use Rattle.std.specs.Map.{lookup, keys_of}
use Rattle.std.specs.Cmp.{nat_eq_equiv}
use Rattle.std.proofs.lemmas.Bool.{eqb-true, eq-eqb}
use Rattle.std.proofs.lemmas.List.{append-nil, map-append}
use Rattle.std.proofs.lemmas.List.Elements.{All-cons, All-head, All-tail, All-map}
use Rattle.std.proofs.lemmas.List.Sums.{sum_by-cons}
use Rattle.std.proofs.lemmas.List.Kept.{IsStrictlySortedBy-filter}
use Rattle.std.proofs.lemmas.Map.Made.{is_member-filter}
use Rattle.amq_model.specs.declared.record.Placed.{Placed}
use Rattle.amq_model.specs.declared.record.Record.{Record}
use Rattle.amq_model.specs.declared.record.Record.TheVariants.{Add, Update, AddTx, UpdateTx, DeleteTx, Delete, Prepare, Commit, Rollback}
use Rattle.amq_model.specs.declared.state.Entry.{Entry}
use Rattle.amq_model.specs.declared.state.EntryEnd.{EntryEnd}
use Rattle.amq_model.specs.Effect.{ends, changes, open_changes, prepared, prepared_here, prepared_from, is_sound, ascending, live}
use Rattle.amq_model.specs.Answers.{number_of, is_some_of, is_left_open, is_open, highest, touches}
use Rattle.amq_model.specs.Ids.{live_numbers}
use Rattle.amq_model.specs.Open.{touched_id, end_of, touched_by, open_tx, open_txs, highest_of}
use Rattle.amq_model.proofs.AscendingLaws.{any-ascending, ascending-sorted, sides}
use Rattle.amq_model.proofs.TouchedIds.{touched_listed}
use Rattle.amq_tx.proofs.Opened.{open_listed}
use Rattle.amq_tx.specs.State.{TurnState, count_of, is_prepared_in}
use Rattle.amq_tx.specs.Starting.{turn_or, opened_turn, ends_of, touches_of, AreListed, started}
use Rattle.amq_tx.specs.Follows.{Knows, Follows, AreBelow, end_in}
use Rattle.amq_tx.proofs.Starts.{not_among, numbers_of, lookup-back, ends-other, ends-own}

-- ---- numbers

all_from : (P : ℕ → Type 0) (ns : List ℕ) → ((q : ℕ) → list_any (eqb q) ns ≡ true → P q) → All P ns
all_from P [] h = λ k d lt. absurd (omega (arith, lt))
all_from P (n ∷ ns) h = All-cons P n ns (h n (ap (λ (b : Bool). b || list_any (eqb n) ns) (eq-eqb n n refl))) (all_from P ns (λ q e. h q (ap (λ (b : Bool). eqb q n || b) e ∙ or_true (eqb q n)))) where
  or_true : (b : Bool) → (b || true) ≡ true
  or_true true = refl
  or_true false = refl

max_rises : (a : ℕ) (ns : List ℕ) → a ≤ fold max a ns
max_rises a [] = omega arith
max_rises a (n ∷ ns) = omega (arith, max_rises (max a n) ns)

max_bounds : (a q : ℕ) (ns : List ℕ) → list_any (eqb q) ns ≡ true → q ≤ fold max a ns
max_bounds a q [] is = absurd cc
max_bounds a q (n ∷ ns) is = by (λ e. max_bounds (max a n) q ns e) (eqb q n) refl is where
  by : (list_any (eqb q) ns ≡ true → q ≤ fold max (max a n) ns) → (b : Bool) → eqb q n ≡ b → (b || list_any (eqb q) ns) ≡ true → q ≤ fold max (max a n) ns
  by rest true e is = omega (arith, eqb-true q n e, max_rises (max a n) ns)
  by rest false e is = rest is

-- ---- records

-- an add, update or delete of the transaction is one of its records, and no end
its_own : (tx : ℕ) (p : Placed) → changes tx p ≡ true → (is_some_of (number_of p.rec) tx && not (ends tx p)) ≡ true
its_own tx p = by p.rec where
  and_true : (b : Bool) → b ≡ true → (b && true) ≡ true
  and_true true e = refl
  and_true false e = e

  by : (rec : Record) → changes tx (record { file = p.file; place = p.place; compact = p.compact; rec = rec }) ≡ true → (is_some_of (number_of rec) tx && not (ends tx (record { file = p.file; place = p.place; compact = p.compact; rec = rec }))) ≡ true
  by (AddTx n id user_type body) e = and_true (eqb n tx) e
  by (UpdateTx n id user_type body) e = and_true (eqb n tx) e
  by (DeleteTx n id body) e = and_true (eqb n tx) e
  by (Add id user_type body) e = absurd cc
  by (Update id user_type body) e = absurd cc
  by (Delete id) e = absurd cc
  by (Prepare n count extra) e = absurd cc
  by (Commit n count) e = absurd cc
  by (Rollback n) e = absurd cc

-- a transaction that isn't open has no open record
closed_base : (tx : ℕ) (ps : List Placed) → is_left_open tx ps ≡ false → open_changes tx ps ≡ []
closed_base tx [] e = refl
closed_base tx (p ∷ ps) e = by (λ e. closed_base tx ps e) (changes tx p) (its_own tx p) (not (list_any (ends tx) ps)) (is_some_of (number_of p.rec) tx && not (ends tx p)) refl e where
  by : (is_left_open tx ps ≡ false → open_changes tx ps ≡ []) → (change : Bool) → (change ≡ true → (is_some_of (number_of p.rec) tx && not (ends tx p)) ≡ true) → (last own : Bool) → (is_some_of (number_of p.rec) tx && not (ends tx p)) ≡ own
      → (own && last || is_left_open tx ps) ≡ false → cond (change && last) (p ∷ open_changes tx ps) (open_changes tx ps) ≡ []
  by rest true h true true is e = absurd cc
  by rest true h true false is e = absurd (let no : false ≡ true = sym is ∙ h refl in cc)
  by rest true h false true is e = rest e
  by rest true h false false is e = rest e
  by rest false h true true is e = absurd cc
  by rest false h true false is e = rest e
  by rest false h false true is e = rest e
  by rest false h false false is e = rest e

-- a transaction with a sound PREPARE and no end behind it is open
prepared_open : (tx : ℕ) (before ps : List Placed) → list_any (λ x. eqb x.0 tx) (prepared_from before ps) ≡ true → is_left_open tx ps ≡ true
prepared_open tx before [] e = absurd cc
prepared_open tx before (p ∷ ps) e = at p.rec (λ e. prepared_open tx (before ++ p ∷ []) ps e) e where
  or_true : (b : Bool) → (b || true) ≡ true
  or_true true = refl
  or_true false = refl

  this : Record → Placed
  this rec = record { file = p.file; place = p.place; compact = p.compact; rec = rec }

  behind : (b : Bool) → is_left_open tx ps ≡ true → (b || is_left_open tx ps) ≡ true
  behind b h = ap (λ (c : Bool). b || c) h ∙ or_true b

  sound : (n : ℕ) (extra : List ℕ) (s last same : Bool) → eqb n tx ≡ same → list_any (ends n) ps ≡ last
      → (list_any (λ x. eqb x.0 tx) (prepared_from (before ++ p ∷ []) ps) ≡ true → is_left_open tx ps ≡ true)
      → list_any (λ x. eqb x.0 tx) (elim (cond {A = Option (ℕ × List ℕ)} (s && not last) (Some (n, extra)) None) [ None ↦ prepared_from (before ++ p ∷ []) ps | Some x ↦ x ∷ prepared_from (before ++ p ∷ []) ps ]) ≡ true
      → (same && not (list_any (ends tx) ps) || is_left_open tx ps) ≡ true
  sound n extra true false true e d rest h = ap (λ (b : Bool). not b || is_left_open tx ps) (ap (λ (n : ℕ). list_any (ends n) ps) (sym (eqb-true n tx e)) ∙ d)
  sound n extra true false false e d rest h = rest (sym (ap (λ (b : Bool). b || list_any (λ x. eqb x.0 tx) (prepared_from (before ++ p ∷ []) ps)) e) ∙ h)
  sound n extra true true same e d rest h = behind (same && not (list_any (ends tx) ps)) (rest h)
  sound n extra false true same e d rest h = behind (same && not (list_any (ends tx) ps)) (rest h)
  sound n extra false false same e d rest h = behind (same && not (list_any (ends tx) ps)) (rest h)

  true_and : (b : Bool) → (b && true) ≡ b
  true_and true = refl
  true_and false = refl

  at : (rec : Record) → (list_any (λ x. eqb x.0 tx) (prepared_from (before ++ p ∷ []) ps) ≡ true → is_left_open tx ps ≡ true)
      → list_any (λ x. eqb x.0 tx) (elim (prepared_here before (this rec) ps) [ None ↦ prepared_from (before ++ p ∷ []) ps | Some x ↦ x ∷ prepared_from (before ++ p ∷ []) ps ]) ≡ true
      → (is_some_of (number_of rec) tx && not (ends tx (this rec)) && not (list_any (ends tx) ps) || is_left_open tx ps) ≡ true
  at (Prepare n count extra) rest h = ap (λ (b : Bool). b && not (list_any (ends tx) ps) || is_left_open tx ps) (true_and (eqb n tx)) ∙ sound n extra (is_sound before (this (Prepare n count extra))) (list_any (ends n) ps) (eqb n tx) refl refl rest h
  at (Add id user_type body) rest h = rest h
  at (Update id user_type body) rest h = rest h
  at (Delete id) rest h = rest h
  at (AddTx n id user_type body) rest h = behind (eqb n tx && true && not (list_any (ends tx) ps)) (rest h)
  at (UpdateTx n id user_type body) rest h = behind (eqb n tx && true && not (list_any (ends tx) ps)) (rest h)
  at (DeleteTx n id body) rest h = behind (eqb n tx && true && not (list_any (ends tx) ps)) (rest h)
  at (Commit n count) rest h = behind (eqb n tx && not (eqb n tx) && not (list_any (ends tx) ps)) (rest h)
  at (Rollback n) rest h = behind (eqb n tx && not (eqb n tx) && not (list_any (ends tx) ps)) (rest h)

-- no record of the base stands in a file above it
none_counted : (tx file : ℕ) (ps : List Placed) → AreBelow file ps → count_by (λ p. eqb p.file file) (open_changes tx ps) ≡ 0
none_counted tx file [] below = refl
none_counted tx file (p ∷ ps) below = by (changes tx p && not (list_any (ends tx) ps)) (eqb p.file file) refl (none_counted tx file ps (All-tail (λ p. p.file < file) p ps below)) (All-head (λ p. p.file < file) p ps below) where
  by : (b same : Bool) → eqb p.file file ≡ same → count_by (λ p. eqb p.file file) (open_changes tx ps) ≡ 0 → p.file < file → count_by (λ p. eqb p.file file) (cond b (p ∷ open_changes tx ps) (open_changes tx ps)) ≡ 0
  by true true e rest lt = absurd (omega (arith, eqb-true p.file file e, lt))
  by true false e rest lt = sum_by-cons (λ p. cond (eqb p.file file) 1 0) p (open_changes tx ps) ∙ ap (λ (b : Bool). cond b 1 0 + count_by (λ p. eqb p.file file) (open_changes tx ps)) e ∙ omega (arith, rest)
  by false same e rest lt = rest

-- ---- what an open transaction touches

pair_found : (end : ℕ → EntryEnd) (id : ℕ) (ks : List ℕ) → lookup (eqb id) (map (λ i. (i, end i)) ks) ≡ cond (list_any (eqb id) ks) (Some (end id)) None
pair_found end id [] = refl
pair_found end id (n ∷ ks) = by (pair_found end id ks) (eqb id n) refl where
  by : lookup (eqb id) (map (λ i. (i, end i)) ks) ≡ cond (list_any (eqb id) ks) (Some (end id)) None → (b : Bool) → eqb id n ≡ b → cond b (Some (end n)) (lookup (eqb id) (map (λ i. (i, end i)) ks)) ≡ cond (b || list_any (eqb id) ks) (Some (end id)) None
  by rest true e = ap (λ (n : ℕ). Some (end n)) (sym (eqb-true id n e))
  by rest false e = rest

ids_listed : (id : ℕ) (ps : List Placed) → list_any (eqb id) (ascending (filter_map touched_id ps)) ≡ list_any (touches id) ps
ids_listed id ps = any-ascending id (filter_map touched_id ps) ∙ sym (touched_listed id ps)

touched_found : (id : ℕ) (ps : List Placed) → lookup (eqb id) (touched_by ps) ≡ end_in id ps
touched_found id ps = pair_found (λ i. end_of i ps) id (ascending (filter_map touched_id ps)) ∙ ap (λ (b : Bool). cond b (Some (end_of id ps)) None) (ids_listed id ps)

pair_keys : (end : ℕ → EntryEnd) (ks : List ℕ) → keys_of (map (λ i. (i, end i)) ks) ≡ ks
pair_keys end [] = refl
pair_keys end (n ∷ ks) = ap (λ (ns : List ℕ). n ∷ ns) (pair_keys end ks)

touched_keys : (ps : List Placed) → keys_of (touched_by ps) ≡ ascending (filter_map touched_id ps)
touched_keys ps = pair_keys (λ i. end_of i ps) (ascending (filter_map touched_id ps))

-- ---- all open transactions

module _ (base : List Placed) where
  turn_found : (tx : ℕ) (found : Option TurnState) (ns : List ℕ) → fold (turn_or tx) found (map (open_tx base) ns) ≡ cond (list_any (eqb tx) ns) (Some (opened_turn (open_tx base tx))) found
  turn_found tx found [] = refl
  turn_found tx found (n ∷ ns) = turn_found tx (turn_or tx found (open_tx base n)) ns ∙ by (list_any (eqb tx) ns) (eqb n tx) refl where
    by : (any b : Bool) → eqb n tx ≡ b → cond any (Some (opened_turn (open_tx base tx))) (cond b (Some (opened_turn (open_tx base n))) found) ≡ cond (eqb tx n || any) (Some (opened_turn (open_tx base tx))) found
    by true b e = ap (λ (c : Bool). cond c (Some (opened_turn (open_tx base tx))) found) (sym (or_true (eqb tx n))) where
      or_true : (b : Bool) → (b || true) ≡ true
      or_true true = refl
      or_true false = refl
    by false true e = ap (λ (n : ℕ). Some (opened_turn (open_tx base n))) (eqb-true n tx e) ∙ sym (ap (λ (c : Bool). cond (c || false) (Some (opened_turn (open_tx base tx))) found) (sides tx n ∙ e))
    by false false e = sym (ap (λ (c : Bool). cond (c || false) (Some (opened_turn (open_tx base tx))) found) (sides tx n ∙ e))

  touch_found : (tx id : ℕ) (ns : List ℕ) → lookup (eqb tx) (flat_map (touches_of id) (map (open_tx base) ns)) ≡ cond (list_any (eqb tx) ns) (end_in id (open_changes tx base)) None
  touch_found tx id [] = refl
  touch_found tx id (n ∷ ns) = by (touch_found tx id ns) (eqb tx n) refl where
    front : (xs ys : List (ℕ × EntryEnd)) (any : Bool) → lookup (eqb tx) ys ≡ cond any (lookup (eqb tx) xs) None → lookup (eqb tx) (xs ++ ys) ≡ lookup (eqb tx) xs
    front [] ys any e = e ∙ none any where
      none : (b : Bool) → cond {A = Option EntryEnd} b None None ≡ None
      none true = refl
      none false = refl
    front (x ∷ xs) ys any e = step (λ e. front xs ys any e) (eqb tx x.0) e where
      step : (lookup (eqb tx) ys ≡ cond any (lookup (eqb tx) xs) None → lookup (eqb tx) (xs ++ ys) ≡ lookup (eqb tx) xs) → (b : Bool) → lookup (eqb tx) ys ≡ cond any (cond b (Some x.1) (lookup (eqb tx) xs)) None → cond b (Some x.1) (lookup (eqb tx) (xs ++ ys)) ≡ cond b (Some x.1) (lookup (eqb tx) xs)
      step rest true e = refl
      step rest false e = rest e

    by : lookup (eqb tx) (flat_map (touches_of id) (map (open_tx base) ns)) ≡ cond (list_any (eqb tx) ns) (end_in id (open_changes tx base)) None → (b : Bool) → eqb tx n ≡ b
        → lookup (eqb tx) (ends_of id n (touched_by (open_changes n base)) ++ flat_map (touches_of id) (map (open_tx base) ns)) ≡ cond (b || list_any (eqb tx) ns) (end_in id (open_changes tx base)) None
    by rest true e =
        let mine : lookup (eqb tx) (ends_of id n (touched_by (open_changes n base))) ≡ end_in id (open_changes tx base) =
        ap (λ (m : ℕ). lookup (eqb tx) (ends_of id m (touched_by (open_changes m base)))) (sym (eqb-true tx n e)) ∙ ends-own id tx (touched_by (open_changes tx base)) ∙ touched_found id (open_changes tx base) in
        front (ends_of id n (touched_by (open_changes n base))) (flat_map (touches_of id) (map (open_tx base) ns)) (list_any (eqb tx) ns) (rest ∙ ap (λ (o : Option EntryEnd). cond (list_any (eqb tx) ns) o None) (sym mine)) ∙ mine
    by rest false e = lookup-back tx (ends_of id n (touched_by (open_changes n base))) (flat_map (touches_of id) (map (open_tx base) ns)) (ends-other tx id n (touched_by (open_changes n base)) e) ∙ rest

  -- the transactions that touch an id ascend
  one_key : (id n : ℕ) (ts : List (ℕ × EntryEnd)) → IsStrictlySortedBy nat_cmp (keys_of ts) → keys_of (ends_of id n ts) ≡ cond (list_any (eqb id) (keys_of ts)) (n ∷ []) []
  unfolding IsStrictlySortedBy
  one_key id n [] sorted = refl
  one_key id n (t ∷ ts) sorted = by (one_key id n ts sorted.1) (eqb t.0 id) refl where
    by : keys_of (ends_of id n ts) ≡ cond (list_any (eqb id) (keys_of ts)) (n ∷ []) [] → (b : Bool) → eqb t.0 id ≡ b
        → keys_of (map (λ t. (n, t.1)) (cond b (t ∷ filter (λ t. eqb t.0 id) ts) (filter (λ t. eqb t.0 id) ts))) ≡ cond (eqb id t.0 || list_any (eqb id) (keys_of ts)) (n ∷ []) []
    by rest true e =
        let absent : list_any (eqb id) (keys_of ts) ≡ false = ap (λ (m : ℕ). list_any (eqb m) (keys_of ts)) (sym (eqb-true t.0 id e)) ∙ not_among t.0 (keys_of ts) sorted.0 in
        ap (λ (ns : List ℕ). n ∷ ns) (rest ∙ ap (λ (b : Bool). cond b (n ∷ []) []) absent) ∙ sym (ap (λ (b : Bool). cond (b || list_any (eqb id) (keys_of ts)) (n ∷ []) []) (sides id t.0 ∙ e))
    by rest false e = rest ∙ sym (ap (λ (b : Bool). cond (b || list_any (eqb id) (keys_of ts)) (n ∷ []) []) (sides id t.0 ∙ e))

  touching : (id : ℕ) (ns : List ℕ) → keys_of (flat_map (touches_of id) (map (open_tx base) ns)) ≡ filter (λ n. list_any (touches id) (open_changes n base)) ns
  touching id [] = refl
  touching id (n ∷ ns) =
      map-append (λ e. e.0) (ends_of id n (touched_by (open_changes n base))) (flat_map (touches_of id) (map (open_tx base) ns))
      ∙ ap (λ (ks : List ℕ). ks ++ keys_of (flat_map (touches_of id) (map (open_tx base) ns))) (one_key id n (touched_by (open_changes n base)) (subst (IsStrictlySortedBy nat_cmp) (sym (touched_keys (open_changes n base))) (ascending-sorted (filter_map touched_id (open_changes n base))))
      ∙ ap (λ (ks : List ℕ). cond (list_any (eqb id) ks) (n ∷ []) []) (touched_keys (open_changes n base)) ∙ ap (λ (b : Bool). cond b (n ∷ []) []) (ids_listed id (open_changes n base)))
      ∙ ap (λ (ks : List ℕ). cond (list_any (touches id) (open_changes n base)) (n ∷ []) [] ++ ks) (touching id ns) ∙ by (list_any (touches id) (open_changes n base)) where
        by : (b : Bool) → cond b (n ∷ []) [] ++ filter (λ n. list_any (touches id) (open_changes n base)) ns ≡ cond b (n ∷ filter (λ n. list_any (touches id) (open_changes n base)) ns) (filter (λ n. list_any (touches id) (open_changes n base)) ns)
        by true = refl
        by false = refl

  abbrev named : List ℕ
  named = filter_map (λ p. number_of p.rec) base

  abbrev opens : ℕ → Bool
  opens tx = is_left_open tx base

  open_numbers : List ℕ
  open_numbers = filter (λ tx. is_left_open tx base) (ascending (filter_map (λ p. number_of p.rec) base))

  open_is : (tx : ℕ) → list_any (eqb tx) open_numbers ≡ is_left_open tx base
  unfolding open_numbers
  open_is tx = is_member-filter nat_eq_equiv (λ tx. is_left_open tx base) tx (λ x e. ap (λ (n : ℕ). is_left_open n base) (eqb-true tx x e)) (ascending (filter_map (λ p. number_of p.rec) base))
      ∙ ap (λ (b : Bool). b && is_left_open tx base) (any-ascending tx (filter_map (λ p. number_of p.rec) base)) ∙ open_listed tx base

  open_sorted : IsStrictlySortedBy nat_cmp open_numbers
  unfolding open_numbers
  open_sorted = IsStrictlySortedBy-filter nat_cmp (λ tx. is_left_open tx base) (ascending (filter_map (λ p. number_of p.rec) base)) (ascending-sorted (filter_map (λ p. number_of p.rec) base))

  numbers_are : (ns : List ℕ) → numbers_of (map (open_tx base) ns) ≡ ns
  numbers_are [] = refl
  numbers_are (n ∷ ns) = ap (λ (ms : List ℕ). n ∷ ms) (numbers_are ns)

  open_bounded : (tx : ℕ) → is_left_open tx base ≡ true → tx ≤ highest_of base
  open_bounded tx is = max_bounds 0 tx (filter_map (λ p. number_of p.rec) base) (by (list_any (eqb tx) (filter_map (λ p. number_of p.rec) base)) (open_listed tx base)) where
    by : (b : Bool) → (b && is_left_open tx base) ≡ is_left_open tx base → b ≡ true
    by true e = refl
    by false e = e ∙ is

  -- the lists that a load gives are as a new table wants them
  pub live_listed : IsStrictlySortedBy nat_cmp (live_numbers base)
  live_listed = ascending-sorted (map (λ e. e.id) (live base))

  pub opened_listed : AreListed (open_txs base) (highest_of base)
  unfolding open_numbers
  opened_listed = record {
    numbers = subst (IsStrictlySortedBy nat_cmp) (sym (numbers_are open_numbers)) open_sorted;
    touched = All-map (λ o. IsStrictlySortedBy nat_cmp (keys_of o.touched)) (open_tx base) open_numbers (λ k d lt. sorted _);
    bounded = All-map (λ o. o.tx ≤ highest_of base) (open_tx base) open_numbers (all_from (λ n. n ≤ highest_of base) open_numbers (λ q e. open_bounded q (sym (open_is q) ∙ e)));
  } where
    sorted : (n : ℕ) → IsStrictlySortedBy nat_cmp (keys_of (touched_by (open_changes n base)))
    sorted n = subst (IsStrictlySortedBy nat_cmp) (sym (touched_keys (open_changes n base))) (ascending-sorted (filter_map touched_id (open_changes n base)))

  pub begins : Follows (started (live_numbers base) (open_txs base) (highest_of base)) base []
  unfolding open_numbers
  begins = subst (λ (l : List Placed). Knows (started (live_numbers base) (open_txs base) (highest_of base)) base l (is_open base []) (highest base [])) (sym (append-nil base)) (record {
    live = λ id. any-ascending id (map (λ e. e.id) (live base)) ∙ ids id (live base);
    opened = λ tx. ap is_some (turn tx) ∙ some tx (is_left_open tx base);
    prepared = λ tx. ap is_prepared_in (turn tx) ∙ told tx (is_left_open tx base) refl;
    counts = λ tx file below. ap (λ (o : Option TurnState). count_of o file) (turn tx) ∙ none tx file (is_left_open tx base) ∙ sym (none_counted tx file base below);
    closed = λ tx gone. closed_base tx base (not_open tx (is_left_open tx base) (sym (turn tx) ∙ gone));
    touched = λ tx id. touch_found tx id open_numbers ∙ ap (λ (b : Bool). cond b (end_in id (open_changes tx base)) None) (open_is tx) ∙ touch tx id (is_left_open tx base) refl;
    ascends = λ id. subst (IsStrictlySortedBy nat_cmp) (sym (touching id open_numbers)) (IsStrictlySortedBy-filter nat_cmp (λ n. list_any (touches id) (open_changes n base)) open_numbers open_sorted);
    highest = sym (ap (fold max 0) (append-nil (filter_map (λ p. number_of p.rec) base)));
    bounded = λ tx is. open_bounded tx (sym (some tx (is_left_open tx base)) ∙ sym (ap is_some (turn tx)) ∙ is);
  }) where
    turn : (tx : ℕ) → fold (turn_or tx) None (open_txs base) ≡ cond (is_left_open tx base) (Some (opened_turn (open_tx base tx))) None
    turn tx = turn_found tx None open_numbers ∙ ap (λ (b : Bool). cond b (Some (opened_turn (open_tx base tx))) None) (open_is tx)

    ids : (id : ℕ) (es : List Entry) → list_any (eqb id) (map (λ e. e.id) es) ≡ list_any (λ e. eqb e.id id) es
    ids id [] = refl
    ids id (e ∷ es) = ap (λ (b : Bool). b || list_any (eqb id) (map (λ e. e.id) es)) (sides id e.id) ∙ ap (λ (b : Bool). eqb e.id id || b) (ids id es)

    some : (tx : ℕ) (b : Bool) → is_some (cond b (Some (opened_turn (open_tx base tx))) None) ≡ b
    some tx true = refl
    some tx false = refl

    told : (tx : ℕ) (b : Bool) → is_left_open tx base ≡ b → is_prepared_in (cond b (Some (opened_turn (open_tx base tx))) None) ≡ list_any (λ x. eqb x.0 tx) (prepared base)
    told tx true e = refl
    told tx false e = by (list_any (λ x. eqb x.0 tx) (prepared base)) (prepared_open tx [] base) where
      by : (b : Bool) → (b ≡ true → is_left_open tx base ≡ true) → false ≡ b
      by true h = sym e ∙ h refl
      by false h = refl

    none : (tx file : ℕ) (b : Bool) → count_of (cond b (Some (opened_turn (open_tx base tx))) None) file ≡ 0
    none tx file true = refl
    none tx file false = refl

    not_open : (tx : ℕ) (b : Bool) → cond b (Some (opened_turn (open_tx base tx))) None ≡ None → b ≡ false
    not_open tx true e = absurd cc
    not_open tx false e = refl

    touch : (tx id : ℕ) (b : Bool) → is_left_open tx base ≡ b → cond b (end_in id (open_changes tx base)) None ≡ end_in id (open_changes tx base)
    touch tx id true e = refl
    touch tx id false e = sym (ap (end_in id) (closed_base tx base e))
