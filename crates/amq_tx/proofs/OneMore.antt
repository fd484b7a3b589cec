-- What one record more does to a state that knows the records before it.
use Rattle.std.proofs.Common.{◌≡◌, ℕ, ◌+◌, Bool, true, false, cond, not, ◌&&◌, ◌||◌, eqb, List, [], ◌∷◌, ◌++◌, Option, Some, None, refl, sym, ap, subst, ◌∙◌, arith}
use Rattle.std.specs.Prelude.{filter, count_by}
use Rattle.std.specs.List.{list_any}
use Rattle.std.specs.List.Sorted.{IsStrictlySortedBy}
use Rattle.std.specs.Option.{is_some, option_map}
use Rattle.std.specs.Ordering.{nat_cmp}
use Rattle.std.specs.Map.{lookup, keys_of}
use Rattle.std.proofs.lemmas.Bool.{eqb-true}
use Rattle.std.proofs.lemmas.List.Folds.{list_any-append}
use Rattle.std.proofs.lemmas.List.Sums.{sum_by_push}
use Rattle.std.proofs.lemmas.List.Kept.{IsStrictlySortedBy-filter}
use Rattle.std.proofs.lemmas.Map.Views.{any-filter_same}
use Rattle.amq_model.specs.declared.record.Placed.{Placed}
use Rattle.amq_model.specs.declared.state.EntryEnd.{EntryEnd}
use Rattle.amq_model.specs.declared.state.EntryEnd.TheVariants.{Put, Gone}
use Rattle.amq_model.specs.Effect.{ends, changes, deletes, open_changes, prepared, counted, effect_of}
use Rattle.amq_model.specs.Answers.{in_view, touches}
use Rattle.amq_model.proofs.Grows.{open_changes-snoc, opened, prepared_from-snoc, prepares}
use Rattle.amq_model.proofs.AscendingLaws.{sides}
use Rattle.amq_tx.specs.State.{TurnState, TxState, put, first_but, without, count_of, is_prepared_in}
use Rattle.amq_tx.specs.Applying.{one_more, prepared_now, with_change, with_prepare}
use Rattle.amq_tx.specs.Follows.{Knows, AreBelow, end_in}
use Rattle.amq_tx.proofs.Lists.{changed_here, lookup-without, without_keys}
use Rattle.amq_tx.proofs.Views.{view_after, end-snoc}

or_false : (b : Bool) → (b || false) ≡ b
or_false true = refl
or_false false = refl

-- one that holds an id alone leaves none to others
pub alone_holds : (tx q : ℕ) (xs : List (ℕ × EntryEnd)) → first_but (Some tx) xs ≡ None → eqb tx q ≡ false → lookup (eqb q) xs ≡ None
alone_holds tx q [] free other = refl
alone_holds tx q (x ∷ xs) free other = by (λ e. alone_holds tx q xs e other) (eqb tx x.0) refl free where
  by : (first_but (Some tx) xs ≡ None → lookup (eqb q) xs ≡ None) → (b : Bool) → eqb tx x.0 ≡ b → cond b (first_but (Some tx) xs) (Some x.0) ≡ None → cond (eqb q x.0) (Some x.1) (lookup (eqb q) xs) ≡ None
  by rest true e free = ap (λ (b : Bool). cond b (Some x.1) (lookup (eqb q) xs)) (ap (eqb q) (sym (eqb-true tx x.0 e)) ∙ sides q tx ∙ other) ∙ rest free
  by rest false e free = absurd cc

module _ (s : TxState) (base l : List Placed) (opens : ℕ → Bool) (top : ℕ) (k : Knows s base l opens top) (p : Placed) where
  abbrev after : List Placed
  after = l ++ p ∷ []

  prepared_after : (q : ℕ) → list_any (λ x. eqb x.0 q) (prepared (l ++ p ∷ [])) ≡ (not (ends q p) && list_any (λ x. eqb x.0 q) (prepared l) || list_any (λ x. eqb x.0 q) (prepares l p))
  prepared_after q =
      ap (list_any (λ x. eqb x.0 q)) (prepared_from-snoc [] l p)
      ∙ list_any-append (λ x. eqb x.0 q) (filter (λ x. not (ends x.0 p)) (prepared l)) (prepares l p)
      ∙ ap (λ (b : Bool). b || list_any (λ x. eqb x.0 q) (prepares l p)) (any-filter_same (λ x. eqb x.0 q) (λ x. not (ends x.0 p)) (not (ends q p)) (λ x e. ap (λ (n : ℕ). not (ends n p)) (eqb-true x.0 q e)) (prepared l))

  -- ---- a record that is no end and no change of a transaction

  module _ (no_end : (q : ℕ) → ends q p ≡ false) (no_change : (q : ℕ) → changes q p ≡ false) where
    same_open : (q : ℕ) → open_changes q (l ++ p ∷ []) ≡ open_changes q l
    same_open q = open_changes-snoc q l p ∙ ap (λ (b : Bool). opened b (changes q p) (open_changes q l) p) (no_end q) ∙ ap (λ (b : Bool). opened false b (open_changes q l) p) (no_change q)

    pub plain_knows : prepares l p ≡ [] → (live : ℕ → Bool) → ((q : ℕ) → live q ≡ in_view (l ++ p ∷ []) None q) → Knows (record { live = live; touched = s.touched; turns = s.turns; highest = s.highest }) base (l ++ p ∷ []) opens top
    plain_knows none live is = record {
      live = is;
      opened = k.opened;
      prepared = λ q. k.prepared q ∙ sym (prepared_after q ∙ ap (λ (b : Bool). not b && list_any (λ x. eqb x.0 q) (prepared l) || list_any (λ x. eqb x.0 q) (prepares l p)) (no_end q)
          ∙ ap (λ (xs : List (ℕ × List ℕ)). list_any (λ x. eqb x.0 q) (prepared l) || list_any (λ x. eqb x.0 q) xs) none ∙ or_false (list_any (λ x. eqb x.0 q) (prepared l)));
      counts = λ q f below. k.counts q f below ∙ sym (ap (count_by (λ p. eqb p.file f)) (same_open q));
      closed = λ q none. same_open q ∙ k.closed q none;
      touched = λ q i. k.touched q i ∙ sym (ap (end_in i) (same_open q));
      ascends = k.ascends;
      highest = k.highest;
      bounded = k.bounded;
    }

    -- a PREPARE that is sound
    pub prepare_knows : (tx : ℕ) (extra : List ℕ) (t : TurnState) → prepares l p ≡ (tx, extra) ∷ [] → effect_of l p ≡ [] → s.turns tx ≡ Some t → Knows (with_prepare tx s) base (l ++ p ∷ []) opens top
    prepare_knows tx extra t one effect is = record {
      live = λ q. k.live q ∙ sym (view_after l p [] effect q);
      opened = λ q. ap is_some (here q) ∙ some (eqb tx q) (s.turns q) ∙ k.opened q;
      prepared = λ q. ap is_prepared_in (here q) ∙ told q (eqb tx q) refl ∙ sym (prepared_after q ∙ ap (λ (b : Bool). not b && list_any (λ x. eqb x.0 q) (prepared l) || list_any (λ x. eqb x.0 q) (prepares l p)) (no_end q)
          ∙ ap (λ (xs : List (ℕ × List ℕ)). list_any (λ x. eqb x.0 q) (prepared l) || list_any (λ x. eqb x.0 q) xs) one);
      counts = λ q f below. ap (λ (o : Option TurnState). count_of o f) (here q) ∙ count (eqb tx q) (s.turns q) f ∙ k.counts q f below ∙ sym (ap (count_by (λ p. eqb p.file f)) (same_open q));
      closed = λ q none. same_open q ∙ k.closed q (nothing (eqb tx q) (s.turns q) (sym (here q) ∙ none));
      touched = λ q i. k.touched q i ∙ sym (ap (end_in i) (same_open q));
      ascends = k.ascends;
      highest = k.highest;
      bounded = λ q there. k.bounded q (sym (some (eqb tx q) (s.turns q)) ∙ sym (ap is_some (here q)) ∙ there);
    } where
      here : (q : ℕ) → put tx (option_map prepared_now (s.turns tx)) s.turns q ≡ cond (eqb tx q) (option_map prepared_now (s.turns q)) (s.turns q)
      here q = sym (changed_here s.turns (option_map prepared_now) tx q)

      some : (b : Bool) (o : Option TurnState) → is_some (cond b (option_map prepared_now o) o) ≡ is_some o
      some true None = refl
      some true (Some t) = refl
      some false o = refl

      count : (b : Bool) (o : Option TurnState) (f : ℕ) → count_of (cond b (option_map prepared_now o) o) f ≡ count_of o f
      count true None f = refl
      count true (Some t) f = refl
      count false o f = refl

      nothing : (b : Bool) (o : Option TurnState) → cond b (option_map prepared_now o) o ≡ None → o ≡ None
      nothing b None e = refl
      nothing true (Some t) e = absurd cc
      nothing false (Some t) e = e

      told : (q : ℕ) (b : Bool) → eqb tx q ≡ b → is_prepared_in (cond b (option_map prepared_now (s.turns q)) (s.turns q)) ≡ (list_any (λ x. eqb x.0 q) (prepared l) || (eqb tx q || false))
      told q true e =
          ap (λ (o : Option TurnState). is_prepared_in (option_map prepared_now o)) (ap s.turns (sym (eqb-true tx q e)) ∙ is)
          ∙ sym (ap (λ (b : Bool). list_any (λ x. eqb x.0 q) (prepared l) || (b || false)) e ∙ or_true (list_any (λ x. eqb x.0 q) (prepared l))) where
            or_true : (b : Bool) → (b || true) ≡ true
            or_true true = refl
            or_true false = refl
      told q false e = k.prepared q ∙ sym (ap (λ (b : Bool). list_any (λ x. eqb x.0 q) (prepared l) || (b || false)) e ∙ or_false (list_any (λ x. eqb x.0 q) (prepared l)))

  -- ---- an add, update or delete of a transaction

  module _ (tx id : ℕ) (end : EntryEnd) (t : TurnState) (no_end : (q : ℕ) → ends q p ≡ false) (change : (q : ℕ) → changes q p ≡ eqb tx q) (its : (i : ℕ) → touches i p ≡ eqb id i) (last : cond (deletes id p) Gone Put ≡ end)
      (none : prepares l p ≡ []) (effect : effect_of l p ≡ []) (is : s.turns tx ≡ Some t) (free : first_but (Some tx) (s.touched id) ≡ None) where
    more_open : (q : ℕ) → open_changes q (l ++ p ∷ []) ≡ opened false (eqb tx q) (open_changes q l) p
    more_open q = open_changes-snoc q l p ∙ ap (λ (b : Bool). opened b (changes q p) (open_changes q l) p) (no_end q) ∙ ap (λ (b : Bool). opened false b (open_changes q l) p) (change q)

    turn_here : (q : ℕ) → put tx (option_map (one_more p.file) (s.turns tx)) s.turns q ≡ cond (eqb tx q) (option_map (one_more p.file) (s.turns q)) (s.turns q)
    turn_here q = sym (changed_here s.turns (option_map (one_more p.file)) tx q)

    some_more : (b : Bool) (o : Option TurnState) → is_some (cond b (option_map (one_more p.file) o) o) ≡ is_some o
    some_more true None = refl
    some_more true (Some t) = refl
    some_more false o = refl

    count_more : (q f : ℕ) → AreBelow f base → (b : Bool) → eqb tx q ≡ b → count_of (cond b (option_map (one_more p.file) (s.turns q)) (s.turns q)) f ≡ count_by (λ p. eqb p.file f) (opened false b (open_changes q l) p)
    count_more q f below true e =
        ap (λ (o : Option TurnState). count_of (option_map (one_more p.file) o) f) mine
        ∙ by (eqb p.file f) refl
        ∙ sym (sum_by_push (λ p. cond (eqb p.file f) 1 0) (open_changes q l) p) where
          mine : s.turns q ≡ Some t
          mine = ap s.turns (sym (eqb-true tx q e)) ∙ is

          counted_now : t.counts f ≡ counted l q f
          counted_now = ap (λ (o : Option TurnState). count_of o f) (sym mine) ∙ k.counts q f below

          by : (b : Bool) → eqb p.file f ≡ b → cond b (t.counts p.file + 1) (t.counts f) ≡ counted l q f + cond b 1 0
          by true same = ap (λ (n : ℕ). t.counts n + 1) (eqb-true p.file f same) ∙ ap (λ (n : ℕ). n + 1) counted_now
          by false same = counted_now ∙ omega arith
    count_more q f below false e = k.counts q f below

    closed_more : (q : ℕ) (b : Bool) → eqb tx q ≡ b → cond b (option_map (one_more p.file) (s.turns q)) (s.turns q) ≡ None → opened false b (open_changes q l) p ≡ []
    closed_more q true e none = absurd (let some : is_some (option_map (one_more p.file) (s.turns q)) ≡ true = ap (λ (o : Option TurnState). is_some (option_map (one_more p.file) o)) (ap s.turns (sym (eqb-true tx q e)) ∙ is) in let no : is_some (option_map (one_more p.file) (s.turns q)) ≡ false = ap is_some none in cc)
    closed_more q false e none = k.closed q none

    touched_more : (q i : ℕ) (mine here : Bool) → eqb tx q ≡ mine → eqb id i ≡ here → lookup (eqb q) (cond here ((tx, end) ∷ []) (s.touched i)) ≡ end_in i (opened false mine (open_changes q l) p)
    touched_more q i true true e d =
        ap (λ (b : Bool). cond b (Some end) None) (sides q tx ∙ e)
        ∙ sym (end-snoc i (open_changes q l) p ∙ ap (λ (b : Bool). cond b (Some (cond (deletes i p) Gone Put)) (end_in i (open_changes q l))) (its i ∙ d) ∙ ap (λ (n : ℕ). Some (cond (deletes n p) Gone Put)) (sym (eqb-true id i d)) ∙ ap (λ (end : EntryEnd). Some end) last)
    touched_more q i true false e d = k.touched q i ∙ sym (end-snoc i (open_changes q l) p ∙ ap (λ (b : Bool). cond b (Some (cond (deletes i p) Gone Put)) (end_in i (open_changes q l))) (its i ∙ d))
    touched_more q i false true e d =
        ap (λ (b : Bool). cond b (Some end) None) (sides q tx ∙ e)
        ∙ sym (sym (k.touched q i) ∙ ap (λ (n : ℕ). lookup (eqb q) (s.touched n)) (sym (eqb-true id i d)) ∙ alone_holds tx q (s.touched id) free e)
    touched_more q i false false e d = k.touched q i

    ascends_more : (i : ℕ) (here : Bool) → IsStrictlySortedBy nat_cmp (keys_of (cond here ((tx, end) ∷ []) (s.touched i)))
    unfolding IsStrictlySortedBy
    ascends_more i true = (tt, tt)
    ascends_more i false = k.ascends i

    pub change_knows : Knows (with_change tx id end p.file s) base (l ++ p ∷ []) opens top
    change_knows = record {
      live = λ q. k.live q ∙ sym (view_after l p [] effect q);
      opened = λ q. ap is_some (turn_here q) ∙ some_more (eqb tx q) (s.turns q) ∙ k.opened q;
      prepared = λ q. ap is_prepared_in (turn_here q) ∙ told (eqb tx q) (s.turns q) ∙ k.prepared q ∙ sym (prepared_after q ∙ ap (λ (b : Bool). not b && list_any (λ x. eqb x.0 q) (prepared l) || list_any (λ x. eqb x.0 q) (prepares l p)) (no_end q)
          ∙ ap (λ (xs : List (ℕ × List ℕ)). list_any (λ x. eqb x.0 q) (prepared l) || list_any (λ x. eqb x.0 q) xs) none ∙ or_false (list_any (λ x. eqb x.0 q) (prepared l)));
      counts = λ q f below. ap (λ (o : Option TurnState). count_of o f) (turn_here q) ∙ count_more q f below (eqb tx q) refl ∙ sym (ap (count_by (λ p. eqb p.file f)) (more_open q));
      closed = λ q none. more_open q ∙ closed_more q (eqb tx q) refl (sym (turn_here q) ∙ none);
      touched = λ q i. touched_more q i (eqb tx q) (eqb id i) refl refl ∙ sym (ap (end_in i) (more_open q));
      ascends = λ i. ascends_more i (eqb id i);
      highest = k.highest;
      bounded = λ q there. k.bounded q (sym (some_more (eqb tx q) (s.turns q)) ∙ sym (ap is_some (turn_here q)) ∙ there);
    } where
      told : (b : Bool) (o : Option TurnState) → is_prepared_in (cond b (option_map (one_more p.file) o) o) ≡ is_prepared_in o
      told true None = refl
      told true (Some t) = refl
      told false o = refl

  -- ---- an end

  module _ (tx : ℕ) (its_end : (q : ℕ) → ends q p ≡ eqb tx q) (no_change : (q : ℕ) → changes q p ≡ false) (none : prepares l p ≡ []) where
    less_open : (q : ℕ) → open_changes q (l ++ p ∷ []) ≡ cond (eqb tx q) [] (open_changes q l)
    less_open q = open_changes-snoc q l p ∙ ap (λ (b : Bool). opened b (changes q p) (open_changes q l) p) (its_end q) ∙ ap (λ (b : Bool). opened (eqb tx q) b (open_changes q l) p) (no_change q) ∙ by (eqb tx q) where
      by : (b : Bool) → opened b false (open_changes q l) p ≡ cond b [] (open_changes q l)
      by true = refl
      by false = refl

    pub end_knows : (live : ℕ → Bool) → ((q : ℕ) → live q ≡ in_view (l ++ p ∷ []) None q)
        → Knows (record { live = live; touched = λ id. without tx (s.touched id); turns = put tx None s.turns; highest = s.highest }) base (l ++ p ∷ []) (λ q. opens q && not (eqb tx q)) top
    end_knows live is = record {
      live = is;
      opened = λ q. some (eqb tx q) (s.turns q) ∙ ap (λ (b : Bool). b && not (eqb tx q)) (k.opened q);
      prepared = λ q. told (eqb tx q) (s.turns q) ∙ ap (λ (b : Bool). not (eqb tx q) && b) (k.prepared q) ∙ sym (prepared_after q ∙ ap (λ (b : Bool). not b && list_any (λ x. eqb x.0 q) (prepared l) || list_any (λ x. eqb x.0 q) (prepares l p)) (its_end q)
          ∙ ap (λ (xs : List (ℕ × List ℕ)). not (eqb tx q) && list_any (λ x. eqb x.0 q) (prepared l) || list_any (λ x. eqb x.0 q) xs) none ∙ or_false (not (eqb tx q) && list_any (λ x. eqb x.0 q) (prepared l)));
      counts = λ q f below. count (eqb tx q) (s.turns q) f (open_changes q l) (k.counts q f below) ∙ sym (ap (count_by (λ p. eqb p.file f)) (less_open q));
      closed = λ q gone. less_open q ∙ closed_less q (eqb tx q) gone;
      touched = λ q i. lookup-without tx q (s.touched i) ∙ ap (cond (eqb tx q) None) (k.touched q i) ∙ by i (eqb tx q) (open_changes q l) ∙ sym (ap (end_in i) (less_open q));
      ascends = λ i. subst (IsStrictlySortedBy nat_cmp) (without_keys tx (s.touched i)) (IsStrictlySortedBy-filter nat_cmp (λ n. not (eqb n tx)) (keys_of (s.touched i)) (k.ascends i));
      highest = k.highest;
      bounded = λ q there. k.bounded q (back (eqb tx q) (s.turns q) there);
    } where
      some : (b : Bool) (o : Option TurnState) → is_some (cond b None o) ≡ (is_some o && not b)
      some true None = refl
      some true (Some t) = refl
      some false None = refl
      some false (Some t) = refl

      told : (b : Bool) (o : Option TurnState) → is_prepared_in (cond b None o) ≡ (not b && is_prepared_in o)
      told true o = refl
      told false o = refl

      count : (b : Bool) (o : Option TurnState) (f : ℕ) (ps : List Placed) → count_of o f ≡ count_by (λ p. eqb p.file f) ps → count_of (cond b None o) f ≡ count_by (λ p. eqb p.file f) (cond b [] ps)
      count true o f ps e = refl
      count false o f ps e = e

      closed_less : (q : ℕ) (b : Bool) → cond b None (s.turns q) ≡ None → cond b [] (open_changes q l) ≡ []
      closed_less q true gone = refl
      closed_less q false gone = k.closed q gone

      by : (i : ℕ) (b : Bool) (ps : List Placed) → cond b None (end_in i ps) ≡ end_in i (cond b [] ps)
      by i true ps = refl
      by i false ps = refl

      back : (b : Bool) (o : Option TurnState) → is_some (cond b None o) ≡ true → is_some o ≡ true
      back true o e = absurd cc
      back false o e = e
