-- Lists, taken from the front and from the back, and what one record more does.
use Rattle.std.proofs.Common.{◌≡◌, ℕ, suc, ◌+◌, ◌<◌, Bool, true, false, cond, List, [], ◌∷◌, ◌++◌, length, take, drop, get_or, Option, Some, None, refl, sym, ap, ◌∙◌, append_assoc, add-one, Bor, eqb, arith}
use Rattle.std.specs.Prelude.{nat_lt, max, fold}
use Rattle.std.specs.List.{cons_option, filter_map}
use Rattle.std.specs.Option.{option_to_list, unwrap_or}
use Rattle.std.proofs.Common.{Less, Equal, Greater}
use Rattle.std.specs.Ordering.{nat_cmp, match_ordering}
use Rattle.std.specs.BTreeSet.{insert_key}
use Rattle.std.proofs.Math.Seq.{take-suc, drop-cons}
use Rattle.std.proofs.lemmas.List.{take-map, drop-map}
use Rattle.std.proofs.lemmas.List.Elements.{filter_map-append}
use Rattle.std.proofs.lemmas.List.Sums.{fold-append}
use Rattle.amq_model.specs.declared.record.Placed.{Placed}
use Rattle.amq_model.specs.Effect.{among, ascending, open_changes, in_effect, effect_of, prepared_here, prepared_from, ends, changes, last_of}
use Rattle.amq_model.proofs.EffectGrows.{effect_grows}
use Rattle.amq_model.proofs.Grows.{open_changes-snoc}
use Rattle.amq_model.specs.Answers.{number_of}
use Rattle.amq_model.specs.Open.{highest_of}
use Rattle.amq_state.specs.Backward.{values}
use Rattle.amq_state.specs.Plain.{numbered, bytes_or_none, opened}

-- ---- one element more

pub one_taken : {X : Type 0} (xs : List X) (i : ℕ) (x : X) → i < length xs → x ≡ get_or xs i x → take (i + 1) xs ≡ take i xs ++ x ∷ []
one_taken {X = X} xs i x lt is = ap (λ (n : ℕ). take n xs) (add-one i) ∙ take-suc xs i x lt ∙ ap (λ (y : X). take i xs ++ y ∷ []) (sym is)

pub one_dropped : {X : Type 0} (xs : List X) (i : ℕ) (x : X) → i < length xs → x ≡ get_or xs i x → drop i xs ≡ x ∷ drop (i + 1) xs
one_dropped {X = X} xs i x lt is = drop-cons xs i x lt ∙ ap (λ (y : X). y ∷ drop (suc i) xs) (sym is) ∙ ap (λ (n : ℕ). x ∷ drop n xs) (sym (add-one i))

pub one_value : (ps : List (Bor Placed)) (i : ℕ) (p : Bor Placed) → i < length ps → p ≡ get_or ps i p → take (i + 1) (values ps) ≡ take i (values ps) ++ p.now ∷ []
one_value ps i p lt is =
    take-map (λ (p : Bor Placed). p.now) (i + 1) ps ∙ ap values (one_taken ps i p lt is)
    ∙ more (take i ps) p ∙ ap (λ (qs : List Placed). qs ++ p.now ∷ []) (sym (take-map (λ (p : Bor Placed). p.now) i ps)) where
      more : (qs : List (Bor Placed)) (q : Bor Placed) → values (qs ++ q ∷ []) ≡ values qs ++ q.now ∷ []
      more [] q = refl
      more (r ∷ qs) q = ap (λ (ps : List Placed). r.now ∷ ps) (more qs q)

pub one_found : {Y : Type 0} (h : Placed → Option Y) (p : Placed) → filter_map h (p ∷ []) ≡ option_to_list (h p)
one_found {Y = Y} h p = by (h p) where
  by : (o : Option Y) → cons_option o [] ≡ option_to_list o
  by None = refl
  by (Some y) = refl

-- a list that is found one by one
pub found_more : {Y : Type 0} (h : Placed → Option Y) (ps : List (Bor Placed)) (i : ℕ) (p : Bor Placed) (old new : List Y) → i < length ps → p ≡ get_or ps i p
    → old ≡ filter_map h (take i (values ps)) → new ≡ old ++ option_to_list (h p.now) → new ≡ filter_map h (take (i + 1) (values ps))
found_more {Y = Y} h ps i p old new lt is before now =
    now ∙ ap (λ (ys : List Y). ys ++ option_to_list (h p.now)) before ∙ ap (λ (ys : List Y). filter_map h (take i (values ps)) ++ ys) (sym (one_found h p.now))
    ∙ sym (filter_map-append h (take i (values ps)) (p.now ∷ [])) ∙ ap (filter_map h) (sym (one_value ps i p lt is))

-- ---- numbers

-- a set takes a number in as an ascending list does
pub inserted : (ks : List ℕ) (n : ℕ) → insert_key nat_cmp ks n ≡ among n ks
inserted [] n = refl
inserted (k ∷ ks) n = by (nat_lt n k) (eqb n k) (inserted ks n) where
  by : (less same : Bool) → insert_key nat_cmp ks n ≡ among n ks
      → match_ordering (cond less Less (cond same Equal Greater)) (n ∷ k ∷ ks) (k ∷ ks) (k ∷ insert_key nat_cmp ks n)
      ≡ cond less (n ∷ k ∷ ks) (cond same (k ∷ ks) (k ∷ among n ks))
  by true same h = refl
  by false true h = refl
  by false false h = ap (λ (ns : List ℕ). k ∷ ns) h

pub one_ascending : (ns : List ℕ) (j i : ℕ) → j < length ns → i ≡ j + 1 → insert_key nat_cmp (ascending (drop i ns)) (get_or ns j 0) ≡ ascending (drop j ns)
one_ascending ns j i lt is =
    inserted (ascending (drop i ns)) (get_or ns j 0) ∙ ap (λ (n : ℕ). among (get_or ns j 0) (ascending (drop n ns))) (is ∙ add-one j) ∙ ap ascending (sym (drop-cons ns j 0 lt))

-- ---- one record more

-- the open records of one transaction
pub opened_more : (tx : ℕ) (l : List Placed) (i : ℕ) (p : Placed) (old new : List Placed) → i < length l → p ≡ get_or l i p
    → old ≡ open_changes tx (take i l) → new ≡ opened (ends tx p) (changes tx p) old p → new ≡ open_changes tx (take (i + 1) l)
opened_more tx l i p old new lt is before now =
    now ∙ ap (λ (ps : List Placed). opened (ends tx p) (changes tx p) ps p) before ∙ same (ends tx p) (changes tx p) ∙ sym (open_changes-snoc tx (take i l) p) ∙ ap (open_changes tx) (sym (one_taken l i p lt is)) where
      same : (last change : Bool) → opened last change (open_changes tx (take i l)) p ≡ Rattle.amq_model.proofs.Grows.opened last change (open_changes tx (take i l)) p
      same true change = refl
      same false true = refl
      same false false = refl

-- the order of effect
pub effect_more : (l : List Placed) (i : ℕ) (p : Placed) (old new : List Placed) → i < length l → p ≡ get_or l i p
    → old ≡ in_effect (take i l) → new ≡ old ++ effect_of (take i l) p → new ≡ in_effect (take (i + 1) l)
effect_more l i p old new lt is before now =
    now ∙ ap (λ (ps : List Placed). ps ++ effect_of (take i l) p) before ∙ sym (effect_grows (take i l) p) ∙ ap in_effect (sym (one_taken l i p lt is))

-- the PREPAREs with no end behind them
pub prepared_more : (l : List Placed) (i : ℕ) (p : Placed) (all old new : List (ℕ × List ℕ)) → i < length l → p ≡ get_or l i p
    → all ≡ old ++ prepared_from (take i l) (drop i l) → new ≡ old ++ option_to_list (prepared_here (take i l) p (drop (i + 1) l)) → all ≡ new ++ prepared_from (take (i + 1) l) (drop (i + 1) l)
prepared_more l i p all old new lt is before now =
    before ∙ ap (λ (ps : List Placed). old ++ prepared_from (take i l) ps) (one_dropped l i p lt is)
    ∙ ap (λ (xs : List (ℕ × List ℕ)). old ++ xs) (parts (prepared_here (take i l) p (drop (i + 1) l)))
    ∙ sym (append_assoc old (option_to_list (prepared_here (take i l) p (drop (i + 1) l))) (prepared_from (take i l ++ p ∷ []) (drop (i + 1) l)))
    ∙ ap (λ (xs : List (ℕ × List ℕ)). xs ++ prepared_from (take i l ++ p ∷ []) (drop (i + 1) l)) (sym now)
    ∙ ap (λ (ps : List Placed). new ++ prepared_from ps (drop (i + 1) l)) (sym (one_taken l i p lt is)) where
      parts : (o : Option (ℕ × List ℕ)) → (elim o [ None ↦ prepared_from (take i l ++ p ∷ []) (drop (i + 1) l) | Some x ↦ x ∷ prepared_from (take i l ++ p ∷ []) (drop (i + 1) l) ])
          ≡ option_to_list o ++ prepared_from (take i l ++ p ∷ []) (drop (i + 1) l)
      parts None = refl
      parts (Some x) = refl

-- what is left of the PREPAREs decides as all do
pub one_numbered : (xs : List (ℕ × Bor (List ℕ))) (i : ℕ) (x : ℕ × Bor (List ℕ)) → i < length xs → x ≡ get_or xs i x → drop i (numbered xs) ≡ (x.0, x.1.now) ∷ drop (i + 1) (numbered xs)
one_numbered xs i x lt is =
    drop-map (λ (x : ℕ × Bor (List ℕ)). (x.0, x.1.now)) i xs ∙ ap numbered (one_dropped xs i x lt is) ∙ ap (λ (ys : List (ℕ × List ℕ)). (x.0, x.1.now) ∷ ys) (sym (drop-map (λ (x : ℕ × Bor (List ℕ)). (x.0, x.1.now)) (i + 1) xs))

pub last_more : (tx : ℕ) (xs : List (ℕ × Bor (List ℕ))) (i : ℕ) (x : ℕ × Bor (List ℕ)) (old new : Option (Bor (List ℕ))) (last : List ℕ) → i < length xs → x ≡ get_or xs i x
    → last_of tx (drop i (numbered xs)) (bytes_or_none old) ≡ last → bytes_or_none new ≡ cond (eqb x.0 tx) x.1.now (bytes_or_none old) → last_of tx (drop (i + 1) (numbered xs)) (bytes_or_none new) ≡ last
last_more tx xs i x old new last lt is before now =
    ap (last_of tx (drop (i + 1) (numbered xs))) now ∙ ap (λ (ys : List (ℕ × List ℕ)). last_of tx ys (bytes_or_none old)) (sym (one_numbered xs i x lt is)) ∙ before

-- the highest number
pub highest_grows : (l : List Placed) (p : Placed) → highest_of (l ++ p ∷ []) ≡ max (highest_of l) (unwrap_or (number_of p.rec) 0)
highest_grows l p =
    ap (fold max 0) (filter_map-append (λ p. number_of p.rec) l (p ∷ []))
    ∙ fold-append max 0 (filter_map (λ p. number_of p.rec) l) (filter_map (λ p. number_of p.rec) (p ∷ []))
    ∙ ap (fold max (highest_of l)) (one_found (λ p. number_of p.rec) p) ∙ by (number_of p.rec) where
      by : (o : Option ℕ) → fold max (highest_of l) (option_to_list o) ≡ max (highest_of l) (unwrap_or o 0)
      by None = omega arith
      by (Some n) = refl
