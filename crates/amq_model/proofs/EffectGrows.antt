-- One record more adds its effect at the end of the order of effect.
use Rattle.std.proofs.Common.{◌≡◌, ℕ, zero, suc, ◌+◌, ◌<◌, ◌≤◌, Bool, true, false, cond, not, ◌&&◌, ◌||◌, eqb, List, [], ◌∷◌, ◌++◌, length, take, drop, Option, Some, None, refl, sym, ap, subst, ◌∙◌, append_assoc, arith}
use Rattle.std.specs.Prelude.{slice_get}
use Rattle.std.specs.List.{cons_option, filter_map, flat_map, list_any, position_from}
use Rattle.std.proofs.lemmas.Bool.{eqb-true, eqb-false, eq-eqb, ne_eqb}
use Rattle.std.proofs.lemmas.List.{append-nil, drop_at, take-append-le, drop-append-le, length-append, length-drop}
use Rattle.std.proofs.Math.ListN.{drop_of_length-le}
use Rattle.std.proofs.Math.Seq.{take-length}
use Rattle.std.proofs.lemmas.List.Elements.{filter_map-append}
use Rattle.std.proofs.lemmas.List.Concat.{flat_map-cons}
use Rattle.std.proofs.lemmas.Grind.{flat_map-append}
use Rattle.amq_model.specs.declared.record.Record.{Record}
use Rattle.amq_model.specs.declared.record.Record.TheVariants.{Add, Update, AddTx, UpdateTx, DeleteTx, Delete, Prepare, Commit, Rollback}
use Rattle.amq_model.specs.declared.record.Placed.{Placed}
use Rattle.amq_model.specs.Effect.{ends, changes, open_changes, is_sound, commits, ended_by, when_ended, when_in, when_of, places, is_at, taking, effect_at, in_effect, effect_of}

-- ---- lists

places-snoc : {X : Type 0} (k : ℕ) (xs : List X) (y : X) → places k (xs ++ y ∷ []) ≡ places k xs ++ (k + length xs) ∷ []
places-snoc k [] y = ap (λ (n : ℕ). n ∷ []) (omega arith)
places-snoc k (x ∷ xs) y = ap (λ (ns : List ℕ). k ∷ ns) (places-snoc (k + 1) xs y ∙ ap (λ (n : ℕ). places (k + 1) xs ++ n ∷ []) (omega arith))

-- two functions that agree at the places
filter_map-places : {X Y : Type 0} (f g : ℕ → Option Y) (k : ℕ) (xs : List X) → ((i : ℕ) → k ≤ i → i < k + length xs → f i ≡ g i) → filter_map f (places k xs) ≡ filter_map g (places k xs)
filter_map-places f g k [] h = refl
filter_map-places f g k (x ∷ xs) h = rw (h k (omega arith) (omega arith), filter_map-places f g (k + 1) xs (λ i le lt. h i (omega arith) (omega arith))) refl

flat_map-places : {X Y : Type 0} (f g : ℕ → List Y) (k : ℕ) (xs : List X) → ((i : ℕ) → k ≤ i → i < k + length xs → f i ≡ g i) → flat_map f (places k xs) ≡ flat_map g (places k xs)
flat_map-places f g k [] h = refl
flat_map-places f g k (x ∷ xs) h =
    flat_map-cons f k (places (k + 1) xs) ∙ rw (h k (omega arith) (omega arith), flat_map-places f g (k + 1) xs (λ i le lt. h i (omega arith) (omega arith))) refl ∙ sym (flat_map-cons g k (places (k + 1) xs))

nothing_found : {X Y : Type 0} (k : ℕ) (xs : List X) → filter_map {Y = Y} (λ i. None) (places k xs) ≡ []
nothing_found k [] = refl
nothing_found k (x ∷ xs) = nothing_found (k + 1) xs

slice_get-front : {X : Type 0} (xs ys : List X) (i : ℕ) → i < length xs → slice_get (xs ++ ys) i ≡ slice_get xs i
slice_get-front [] ys i h = absurd (omega arith)
slice_get-front (x ∷ xs) ys zero h = refl
slice_get-front (x ∷ xs) ys (suc i) h = slice_get-front xs ys i (omega arith)

slice_get-seam : {X : Type 0} (xs : List X) (y : X) (ys : List X) → slice_get (xs ++ y ∷ ys) (length xs) ≡ Some y
slice_get-seam [] y ys = refl
slice_get-seam (x ∷ xs) y ys = slice_get-seam xs y ys

-- the first that passes of a list and one more
abbrev or_last : Option ℕ → Bool → ℕ → Option ℕ
or_last (Some e) last n = Some e
or_last None last n = cond last (Some n) None

position_from-snoc : {X : Type 0} (t : X → Bool) (k : ℕ) (xs : List X) (y : X) → position_from t k (xs ++ y ∷ []) ≡ or_last (position_from t k xs) (t y) (k + length xs)
position_from-snoc t k [] y = ap (λ (n : ℕ). cond (t y) (Some n) None) (omega arith)
position_from-snoc t k (x ∷ xs) y = by (t x) (position_from-snoc t (k + 1) xs y) where
  by : (b : Bool) → position_from t (k + 1) (xs ++ y ∷ []) ≡ or_last (position_from t (k + 1) xs) (t y) (k + 1 + length xs) → cond b (Some k) (position_from t (k + 1) (xs ++ y ∷ [])) ≡ or_last (cond b (Some k) (position_from t (k + 1) xs)) (t y) (k + suc (length xs))
  by true e = refl
  by false e = e ∙ ap (λ (n : ℕ). or_last (position_from t (k + 1) xs) (t y) n) (omega arith)

-- where the first that passes stands, and that there is one
abbrev IsFound : ℕ → ℕ → Option ℕ → Bool → Type 0
IsFound k n None any = any ≡ false
IsFound k n (Some e) any = (any ≡ true) × (k ≤ e) × (e < n)

widen : (k n : ℕ) (r : Option ℕ) (any : Bool) → IsFound (k + 1) n r any → IsFound k n r any
widen k n None any h = h
widen k n (Some e) any h = (h.0, omega (arith, h.1), h.2)

found : {X : Type 0} (t : X → Bool) (k : ℕ) (xs : List X) → IsFound k (k + length xs) (position_from t k xs) (list_any t xs)
found t k [] = refl
found t k (x ∷ xs) = by (t x) (subst (λ (n : ℕ). IsFound (k + 1) n (position_from t (k + 1) xs) (list_any t xs)) (omega arith) (found t (k + 1) xs)) where
  by : (b : Bool) → IsFound (k + 1) (k + suc (length xs)) (position_from t (k + 1) xs) (list_any t xs) → IsFound k (k + suc (length xs)) (cond b (Some k) (position_from t (k + 1) xs)) (b || list_any t xs)
  by true h = (refl, omega arith, omega arith)
  by false h = widen k (k + suc (length xs)) (position_from t (k + 1) xs) (list_any t xs) h

-- ---- one record more

ended_by-at : (o : Option Placed) (before : List Placed) (e w : ℕ) → (e ≡ w → ⊥) → is_at (ended_by o before e) w ≡ false
ended_by-at None before e w ne = refl
ended_by-at (Some q) before e w ne = by (commits before q) where
  by : (b : Bool) → is_at (cond b (Some e) None) w ≡ false
  by true = ne_eqb e w ne
  by false = refl

and_false : (b : Bool) → (b && false) ≡ false
and_false true = refl
and_false false = refl

and_true : (b : Bool) → (b && true) ≡ b
and_true true = refl
and_true false = refl

-- a test of one number, beside a test that it is another
same_tx : (t tx : ℕ) (g : ℕ → Bool) → (g t && eqb tx t) ≡ (eqb t tx && g tx)
same_tx t tx g = by (eqb tx t) refl where
  by : (b : Bool) → eqb tx t ≡ b → (g t && b) ≡ (eqb t tx && g tx)
  by true e = and_true (g t) ∙ ap g (sym (eqb-true tx t e)) ∙ ap (λ (b : Bool). b && g tx) (sym (eq-eqb t tx (sym (eqb-true tx t e))))
  by false e = and_false (g t) ∙ ap (λ (b : Bool). b && g tx) (sym (ne_eqb t tx (λ h. eqb-false tx t e (sym h))))

cons_cond : {X : Type 0} (b : Bool) (x : X) (xs : List X) → cons_option (cond b (Some x) None) xs ≡ cond b (x ∷ xs) xs
cons_cond true x xs = refl
cons_cond false x xs = refl

module _ (l : List Placed) (p : Placed) where
  -- an end in front decides as before
  ended-front : (e : ℕ) → e < length l → when_ended (l ++ p ∷ []) (Some e) ≡ when_ended l (Some e)
  ended-front e lt = rw (slice_get-front l (p ∷ []) e lt, take-append-le e l (p ∷ []) (omega arith)) refl

  -- the new record decides by itself
  ended-last : when_ended (l ++ p ∷ []) (Some (length l)) ≡ cond (commits l p) (Some (length l)) None
  ended-last = rw (slice_get-seam l p [], take-append-le (length l) l (p ∷ []) (omega arith), take-length l) refl

  -- when a record in front takes effect, by its first end in front, if there is one
  abbrev by_end : Bool → Option ℕ → Option ℕ
  by_end last None = cond last (cond (commits l p) (Some (length l)) None) None
  by_end last (Some e) = when_ended l (Some e)

  split : (k : ℕ) (r : Option ℕ) (any last : Bool) → IsFound k (length l) r any → when_ended (l ++ p ∷ []) (or_last r last (length l)) ≡ by_end last r
  split k None any true h = ended-last
  split k None any false h = refl
  split k (Some e) any last h = ended-front e h.2

  first_end : ℕ → ℕ → Option ℕ
  first_end i tx = position_from (ends tx) (i + 1) (drop (i + 1) l)

  ends_behind : ℕ → ℕ → Bool
  ends_behind i tx = list_any (ends tx) (drop (i + 1) l)

  end_found : (i tx : ℕ) → i < length l → IsFound (i + 1) (length l) (first_end i tx) (ends_behind i tx)
  unfolding first_end ends_behind
  end_found i tx lt = subst (λ (n : ℕ). IsFound (i + 1) n (position_from (ends tx) (i + 1) (drop (i + 1) l)) (list_any (ends tx) (drop (i + 1) l))) (omega (arith, length-drop (i + 1) l)) (found (ends tx) (i + 1) (drop (i + 1) l))

  when_in-front : (i tx : ℕ) → i < length l → when_in (l ++ p ∷ []) i tx ≡ by_end (ends tx p) (first_end i tx)
  unfolding first_end
  when_in-front i tx lt =
      let more : drop (i + 1) (l ++ p ∷ []) ≡ drop (i + 1) l ++ p ∷ [] = drop-append-le (i + 1) l (p ∷ []) (omega arith) in
      let place : position_from (ends tx) (i + 1) (drop (i + 1) (l ++ p ∷ [])) ≡ or_last (first_end i tx) (ends tx p) (length l) =
      ap (position_from (ends tx) (i + 1)) more ∙ position_from-snoc (ends tx) (i + 1) (drop (i + 1) l) p ∙ ap (or_last (first_end i tx) (ends tx p)) (omega (arith, length-drop (i + 1) l)) in
      ap (when_ended (l ++ p ∷ [])) place ∙ split (i + 1) (first_end i tx) (ends_behind i tx) (ends tx p) (end_found i tx lt)

  when_in-last : (tx : ℕ) → when_in (l ++ p ∷ []) (length l) tx ≡ None
  when_in-last tx = ap (λ (xs : List Placed). when_ended (l ++ p ∷ []) (position_from (ends tx) (length l + 1) xs)) (drop_of_length-le (l ++ p ∷ []) (omega (arith, length-append l (p ∷ []))))

  -- at the places in front nothing changes
  before-by_end : (w : ℕ) (last : Bool) (r : Option ℕ) → w < length l → is_at (by_end last r) w ≡ is_at (when_ended l r) w
  before-by_end w false None lt = refl
  before-by_end w true None lt = by (commits l p) where
    by : (b : Bool) → is_at (cond b (Some (length l)) None) w ≡ false
    by true = ne_eqb (length l) w (λ e. omega (arith, e))
    by false = refl
  before-by_end w last (Some e) lt = refl

  before-in : (w i tx : ℕ) → w < length l → i < length l → is_at (when_in (l ++ p ∷ []) i tx) w ≡ is_at (when_in l i tx) w
  unfolding first_end
  before-in w i tx wl il = ap (λ (o : Option ℕ). is_at o w) (when_in-front i tx il) ∙ before-by_end w (ends tx p) (first_end i tx) wl

  before-of : (w i : ℕ) (rec : Record) → w < length l → i < length l → is_at (when_of (l ++ p ∷ []) i rec) w ≡ is_at (when_of l i rec) w
  before-of w i (Add id user_type body) wl il = refl
  before-of w i (Update id user_type body) wl il = refl
  before-of w i (Delete id) wl il = refl
  before-of w i (AddTx tx id user_type body) wl il = before-in w i tx wl il
  before-of w i (UpdateTx tx id user_type body) wl il = before-in w i tx wl il
  before-of w i (DeleteTx tx id body) wl il = before-in w i tx wl il
  before-of w i (Prepare tx count extra) wl il = refl
  before-of w i (Commit tx count) wl il = refl
  before-of w i (Rollback tx) wl il = refl

  before-taking : (w i : ℕ) (o : Option Placed) → w < length l → i < length l → taking (l ++ p ∷ []) w i o ≡ taking l w i o
  before-taking w i None wl il = refl
  before-taking w i (Some q) wl il = ap (λ (b : Bool). cond b (Some q) None) (before-of w i q.rec wl il)

  -- when the new record itself takes effect
  abbrev at_once : Record → Bool
  at_once rec = elim rec [ Add id user_type body ↦ true | Update id user_type body ↦ true | Delete id ↦ true | _ ↦ false ]

  last-of : (w : ℕ) (rec : Record) → is_at (when_of (l ++ p ∷ []) (length l) rec) w ≡ (at_once rec && eqb (length l) w)
  last-of w (Add id user_type body) = refl
  last-of w (Update id user_type body) = refl
  last-of w (Delete id) = refl
  last-of w (AddTx tx id user_type body) = ap (λ (o : Option ℕ). is_at o w) (when_in-last tx)
  last-of w (UpdateTx tx id user_type body) = ap (λ (o : Option ℕ). is_at o w) (when_in-last tx)
  last-of w (DeleteTx tx id body) = ap (λ (o : Option ℕ). is_at o w) (when_in-last tx)
  last-of w (Prepare tx count extra) = refl
  last-of w (Commit tx count) = refl
  last-of w (Rollback tx) = refl

  -- what takes effect at w: of the records in front, and the new one
  at : ℕ → ℕ → Option Placed
  at w i = taking (l ++ p ∷ []) w i (slice_get (l ++ p ∷ []) i)

  at-last : (w : ℕ) → at w (length l) ≡ cond (at_once p.rec && eqb (length l) w) (Some p) None
  unfolding at
  at-last w = ap (taking (l ++ p ∷ []) w (length l)) (slice_get-seam l p []) ∙ ap (λ (b : Bool). cond b (Some p) None) (last-of w p.rec)

  effect_at-parts : (w : ℕ) → effect_at (l ++ p ∷ []) w ≡ filter_map (at w) (places 0 l) ++ filter_map (at w) (length l ∷ [])
  unfolding at
  effect_at-parts w = ap (filter_map (at w)) (places-snoc 0 l p ∙ ap (λ (n : ℕ). places 0 l ++ n ∷ []) (omega arith)) ∙ filter_map-append (at w) (places 0 l) (length l ∷ [])

  effect_at-before : (w : ℕ) → w < length l → effect_at (l ++ p ∷ []) w ≡ effect_at l w
  unfolding at
  effect_at-before w wl =
      let last : at w (length l) ≡ None = at-last w ∙ ap (λ (b : Bool). cond b (Some p) None) (ap (λ (b : Bool). at_once p.rec && b) (ne_eqb (length l) w (λ e. omega (arith, e))) ∙ and_false (at_once p.rec)) in
      let front : filter_map (at w) (places 0 l) ≡ effect_at l w = filter_map-places (at w) (λ i. taking l w i (slice_get l i)) 0 l (λ i le lt. ap (taking (l ++ p ∷ []) w i) (slice_get-front l (p ∷ []) i (omega arith)) ∙ before-taking w i (slice_get l i) wl (omega arith)) in
      effect_at-parts w ∙ ap (λ (o : Option Placed). filter_map (at w) (places 0 l) ++ cons_option o []) last ∙ append-nil (filter_map (at w) (places 0 l)) ∙ front

  -- ---- what takes effect with the new record

  -- of the records in front, those with no end behind them that the new record commits
  abbrev committed : Placed → List Placed → Bool
  committed q behind = elim q.rec [
    | AddTx t id user_type body ↦ not (list_any (ends t) behind) && (ends t p && commits l p)
    | UpdateTx t id user_type body ↦ not (list_any (ends t) behind) && (ends t p && commits l p)
    | DeleteTx t id body ↦ not (list_any (ends t) behind) && (ends t p && commits l p)
    | _ ↦ false
  ]

  now-by_end : (k : ℕ) (any last : Bool) (r : Option ℕ) → IsFound k (length l) r any → is_at (by_end last r) (length l) ≡ (not any && (last && commits l p))
  now-by_end k any true None h = by (commits l p) where
    by : (c : Bool) → is_at (cond c (Some (length l)) None) (length l) ≡ (not any && (true && c))
    by true = eq-eqb (length l) (length l) refl ∙ ap (λ (b : Bool). not b && true) (sym h)
    by false = sym (and_false (not any))
  now-by_end k any false None h = sym (and_false (not any))
  now-by_end k any last (Some e) h = ended_by-at (slice_get l e) (take e l) e (length l) (λ same. omega (arith, h.2, same)) ∙ ap (λ (b : Bool). not b && (last && commits l p)) (sym h.0)

  now-in : (i tx : ℕ) → i < length l → is_at (when_in (l ++ p ∷ []) i tx) (length l) ≡ (not (list_any (ends tx) (drop (i + 1) l)) && (ends tx p && commits l p))
  unfolding first_end ends_behind
  now-in i tx il = ap (λ (o : Option ℕ). is_at o (length l)) (when_in-front i tx il) ∙ now-by_end (i + 1) (ends_behind i tx) (ends tx p) (first_end i tx) (end_found i tx il)

  now-of : (i : ℕ) (q : Placed) → i < length l → is_at (when_of (l ++ p ∷ []) i q.rec) (length l) ≡ committed q (drop (i + 1) l)
  now-of i q il = by q.rec where
    by : (rec : Record) → is_at (when_of (l ++ p ∷ []) i rec) (length l) ≡ committed (record { file = q.file; place = q.place; compact = q.compact; rec = rec }) (drop (i + 1) l)
    by (Add id user_type body) = ne_eqb i (length l) (λ e. omega (arith, e))
    by (Update id user_type body) = ne_eqb i (length l) (λ e. omega (arith, e))
    by (Delete id) = ne_eqb i (length l) (λ e. omega (arith, e))
    by (AddTx tx id user_type body) = now-in i tx il
    by (UpdateTx tx id user_type body) = now-in i tx il
    by (DeleteTx tx id body) = now-in i tx il
    by (Prepare tx count extra) = refl
    by (Commit tx count) = refl
    by (Rollback tx) = refl

  taken : List Placed → List Placed
  taken [] = []
  taken (q ∷ qs) = cond (committed q qs) (q ∷ taken qs) (taken qs)

  here-is : (front : List Placed) (q : Placed) (qs : List Placed) → l ≡ front ++ q ∷ qs → length front < length l → drop (length front + 1) l ≡ qs → at (length l) (length front) ≡ cond (committed q qs) (Some q) None
  unfolding at
  here-is front q qs e il rest =
      let get : slice_get (l ++ p ∷ []) (length front) ≡ Some q = slice_get-front l (p ∷ []) (length front) il ∙ ap (λ (xs : List Placed). slice_get xs (length front)) e ∙ slice_get-seam front q qs in
      ap (taking (l ++ p ∷ []) (length l) (length front)) get ∙ ap (λ (b : Bool). cond b (Some q) None) (now-of (length front) q il ∙ ap (committed q) rest)

  collect : (front xs : List Placed) → l ≡ front ++ xs → filter_map (at (length l)) (places (length front) xs) ≡ taken xs
  unfolding taken
  collect front [] e = refl
  collect front (q ∷ qs) e =
      let il : length front < length l = omega (arith, ap length e, length-append front (q ∷ qs)) in
      let rest : drop (length front + 1) l ≡ qs = ap (drop (length front + 1)) (e ∙ sym (append_assoc front (q ∷ []) qs)) ∙ drop_at (front ++ q ∷ []) qs (length front + 1) (omega (arith, length-append front (q ∷ []))) in
      let here : at (length l) (length front) ≡ cond (committed q qs) (Some q) None = here-is front q qs e il rest in
      let others : filter_map (at (length l)) (places (length front + 1) qs) ≡ taken qs = ap (λ (n : ℕ). filter_map (at (length l)) (places n qs)) (omega (arith, length-append front (q ∷ []))) ∙ collect (front ++ q ∷ []) qs (e ∙ sym (append_assoc front (q ∷ []) qs)) in
      ap (λ (o : Option Placed). cons_option o (filter_map (at (length l)) (places (length front + 1) qs))) here ∙ ap (cons_option (cond (committed q qs) (Some q) None)) others ∙ cons_cond (committed q qs) q (taken qs)

  -- nothing in front is committed
  taken-none : ((t : ℕ) → (ends t p && commits l p) ≡ false) → (xs : List Placed) → taken xs ≡ []
  unfolding taken
  taken-none h [] = refl
  taken-none h (q ∷ qs) = ap (λ (b : Bool). cond b (q ∷ taken qs) (taken qs)) (by q.rec) ∙ taken-none h qs where
    by : (rec : Record) → committed (record { file = q.file; place = q.place; compact = q.compact; rec = rec }) qs ≡ false
    by (AddTx tx id user_type body) = ap (λ (b : Bool). not (list_any (ends tx) qs) && b) (h tx) ∙ and_false (not (list_any (ends tx) qs))
    by (UpdateTx tx id user_type body) = ap (λ (b : Bool). not (list_any (ends tx) qs) && b) (h tx) ∙ and_false (not (list_any (ends tx) qs))
    by (DeleteTx tx id body) = ap (λ (b : Bool). not (list_any (ends tx) qs) && b) (h tx) ∙ and_false (not (list_any (ends tx) qs))
    by (Add id user_type body) = refl
    by (Update id user_type body) = refl
    by (Delete id) = refl
    by (Prepare tx count extra) = refl
    by (Commit tx count) = refl
    by (Rollback tx) = refl

  -- the open records of one transaction are committed
  taken-some : (tx : ℕ) → ((t : ℕ) → (ends t p && commits l p) ≡ eqb tx t) → (xs : List Placed) → taken xs ≡ open_changes tx xs
  unfolding taken
  taken-some tx h [] = refl
  taken-some tx h (q ∷ qs) = ap (λ (b : Bool). cond b (q ∷ taken qs) (taken qs)) (by q.rec) ∙ ap (λ (ys : List Placed). cond (changes tx q && not (list_any (ends tx) qs)) (q ∷ ys) ys) (taken-some tx h qs) where
    by : (rec : Record) → committed (record { file = q.file; place = q.place; compact = q.compact; rec = rec }) qs ≡ (changes tx (record { file = q.file; place = q.place; compact = q.compact; rec = rec }) && not (list_any (ends tx) qs))
    by (AddTx t id user_type body) = ap (λ (b : Bool). not (list_any (ends t) qs) && b) (h t) ∙ same_tx t tx (λ (n : ℕ). not (list_any (ends n) qs))
    by (UpdateTx t id user_type body) = ap (λ (b : Bool). not (list_any (ends t) qs) && b) (h t) ∙ same_tx t tx (λ (n : ℕ). not (list_any (ends n) qs))
    by (DeleteTx t id body) = ap (λ (b : Bool). not (list_any (ends t) qs) && b) (h t) ∙ same_tx t tx (λ (n : ℕ). not (list_any (ends n) qs))
    by (Add id user_type body) = refl
    by (Update id user_type body) = refl
    by (Delete id) = refl
    by (Prepare t count extra) = refl
    by (Commit t count) = refl
    by (Rollback t) = refl

  effect_at-now : effect_at (l ++ p ∷ []) (length l) ≡ taken l ++ cons_option (cond (at_once p.rec) (Some p) None) []
  effect_at-now = effect_at-parts (length l) ∙ ap (λ (xs : List Placed). xs ++ filter_map (at (length l)) (length l ∷ [])) (collect [] l refl) ∙ ap (λ (o : Option Placed). taken l ++ cons_option o []) (at-last (length l) ∙ ap (λ (b : Bool). cond b (Some p) None) (ap (λ (b : Bool). at_once p.rec && b) (eq-eqb (length l) (length l) refl) ∙ and_true (at_once p.rec)))

abbrev here : ℕ → ℕ → ℕ → Record → Placed
here file place compact rec = record { file = file; place = place; compact = compact; rec = rec }

effect_now : (l : List Placed) (file place compact : ℕ) (rec : Record) → effect_at (l ++ here file place compact rec ∷ []) (length l) ≡ effect_of l (here file place compact rec)
effect_now l file place compact (Add id user_type body) = effect_at-now l (here file place compact (Add id user_type body)) ∙ ap (λ (xs : List Placed). xs ++ here file place compact (Add id user_type body) ∷ []) (taken-none l (here file place compact (Add id user_type body)) (λ t. refl) l)
effect_now l file place compact (Update id user_type body) = effect_at-now l (here file place compact (Update id user_type body)) ∙ ap (λ (xs : List Placed). xs ++ here file place compact (Update id user_type body) ∷ []) (taken-none l (here file place compact (Update id user_type body)) (λ t. refl) l)
effect_now l file place compact (Delete id) = effect_at-now l (here file place compact (Delete id)) ∙ ap (λ (xs : List Placed). xs ++ here file place compact (Delete id) ∷ []) (taken-none l (here file place compact (Delete id)) (λ t. refl) l)
effect_now l file place compact (AddTx tx id user_type body) = effect_at-now l (here file place compact (AddTx tx id user_type body)) ∙ append-nil _ ∙ taken-none l (here file place compact (AddTx tx id user_type body)) (λ t. refl) l
effect_now l file place compact (UpdateTx tx id user_type body) = effect_at-now l (here file place compact (UpdateTx tx id user_type body)) ∙ append-nil _ ∙ taken-none l (here file place compact (UpdateTx tx id user_type body)) (λ t. refl) l
effect_now l file place compact (DeleteTx tx id body) = effect_at-now l (here file place compact (DeleteTx tx id body)) ∙ append-nil _ ∙ taken-none l (here file place compact (DeleteTx tx id body)) (λ t. refl) l
effect_now l file place compact (Prepare tx count extra) = effect_at-now l (here file place compact (Prepare tx count extra)) ∙ append-nil _ ∙ taken-none l (here file place compact (Prepare tx count extra)) (λ t. refl) l
effect_now l file place compact (Rollback tx) = effect_at-now l (here file place compact (Rollback tx)) ∙ append-nil _ ∙ taken-none l (here file place compact (Rollback tx)) (λ t. and_false (eqb tx t)) l
effect_now l file place compact (Commit tx count) = effect_at-now l p ∙ append-nil _ ∙ by (is_sound l p) refl where
  p : Placed
  p = here file place compact (Commit tx count)

  by : (b : Bool) → is_sound l (here file place compact (Commit tx count)) ≡ b → taken l (here file place compact (Commit tx count)) l ≡ cond b (open_changes tx l) []
  by true e = taken-some l (here file place compact (Commit tx count)) tx (λ t. ap (λ (b : Bool). eqb tx t && b) e ∙ and_true (eqb tx t)) l
  by false e = taken-none l (here file place compact (Commit tx count)) (λ t. ap (λ (b : Bool). eqb tx t && b) e ∙ and_false (eqb tx t)) l

pub effect_grows : (l : List Placed) (p : Placed) → in_effect (l ++ p ∷ []) ≡ in_effect l ++ effect_of l p
effect_grows l p =
    let e : ℕ → List Placed = effect_at (l ++ p ∷ []) in
    let front : flat_map e (places 0 l) ≡ in_effect l = flat_map-places e (effect_at l) 0 l (λ w le lt. effect_at-before l p w (omega arith)) in
    let now : e (length l) ≡ effect_of l p = effect_now l p.file p.place p.compact p.rec in
    ap (flat_map e) (places-snoc 0 l p ∙ ap (λ (n : ℕ). places 0 l ++ n ∷ []) (omega arith)) ∙ flat_map-append e (places 0 l) (length l ∷ []) ∙ ap (λ (xs : List Placed). xs ++ (e (length l) ++ [])) front ∙ ap (λ (xs : List Placed). in_effect l ++ xs) (append-nil (e (length l)) ∙ now)
