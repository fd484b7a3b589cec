-- What one record more makes of each transaction, and what it adds to the order of effect.
use Rattle.std.proofs.Common.{◌≡◌, ℕ, Bool, true, false, cond, not, ◌&&◌, ◌||◌, eqb, List, [], ◌∷◌, ◌++◌, Option, Some, None, refl, sym, ap, ◌∙◌}
use Rattle.std.specs.List.{list_any}
use Rattle.std.specs.Option.{option_to_list, is_some, unwrap_or}
use Rattle.std.proofs.lemmas.Bool.{eqb-true}
use Rattle.std.proofs.lemmas.List.{append-nil}
use Rattle.amq_model.specs.declared.record.Placed.{Placed}
use Rattle.amq_model.specs.declared.record.Record.{Record}
use Rattle.amq_model.specs.declared.record.Record.TheVariants.{Add, Update, AddTx, UpdateTx, DeleteTx, Delete, Prepare, Commit, Rollback}
use Rattle.amq_model.specs.Records.{brief_of}
use Rattle.amq_model.specs.Effect.{ends, changes, open_changes, prepared, prepared_here, last_of, effect_of}
use Rattle.amq_model.specs.Answers.{number_of, is_some_of, is_left_open}
use Rattle.amq_model.proofs.Grows.{any-snoc, opened, open_changes-snoc, prepared_from-snoc, left_by}
use Rattle.amq_state.specs.Turns.{TurnState, none_open, last_extra, turn_in, extra_of, count_in, with_change, with_prepare, turn_after, added}

-- ---- the bytes of the last of a number

abbrev or_one : Option (List ℕ) → Bool → List ℕ → Option (List ℕ)
or_one found same extra = elim found [ None ↦ cond same (Some extra) None | Some e ↦ Some e ]

pub last_extra-snoc : (tx : ℕ) (xs : List (ℕ × List ℕ)) (x : ℕ × List ℕ) → last_extra tx (xs ++ x ∷ []) ≡ cond (eqb x.0 tx) (Some x.1) (last_extra tx xs)
last_extra-snoc tx [] x = refl
last_extra-snoc tx (y ∷ ys) x = ap (λ (o : Option (List ℕ)). or_one o (eqb y.0 tx) y.1) (last_extra-snoc tx ys x) ∙ by (eqb x.0 tx) where
  by : (b : Bool) → or_one (cond b (Some x.1) (last_extra tx ys)) (eqb y.0 tx) y.1 ≡ cond b (Some x.1) (or_one (last_extra tx ys) (eqb y.0 tx) y.1)
  by true = refl
  by false = refl

-- without the numbers that a record ends
pub last_extra-left : (tx : ℕ) (q : Placed) (xs : List (ℕ × List ℕ)) → last_extra tx (left_by q xs) ≡ cond (ends tx q) None (last_extra tx xs)
last_extra-left tx q [] = by (ends tx q) where
  by : (b : Bool) → last_extra tx [] ≡ cond b None (last_extra tx [])
  by true = refl
  by false = refl
last_extra-left tx q (x ∷ xs) = at (ends x.0 q) (eqb x.0 tx) (ends tx q) refl refl refl (last_extra-left tx q xs) where
  at : (gone same last : Bool) → ends x.0 q ≡ gone → eqb x.0 tx ≡ same → ends tx q ≡ last → last_extra tx (left_by q xs) ≡ cond (ends tx q) None (last_extra tx xs)
      → last_extra tx (cond (not gone) (x ∷ left_by q xs) (left_by q xs)) ≡ cond last None (or_one (last_extra tx xs) (eqb x.0 tx) x.1)
  at true same true g s l rest = rest ∙ ap (λ (b : Bool). cond b None (last_extra tx xs)) l
  at true true false g s l rest = absurd (let e : true ≡ false = sym g ∙ ap (λ (n : ℕ). ends n q) (eqb-true x.0 tx s) ∙ l in cc)
  at true false false g s l rest = rest ∙ ap (λ (b : Bool). cond b None (last_extra tx xs)) l ∙ plain (last_extra tx xs) ∙ ap (λ (b : Bool). or_one (last_extra tx xs) b x.1) (sym s) where
    plain : (o : Option (List ℕ)) → o ≡ or_one o false x.1
    plain None = refl
    plain (Some e) = refl
  at false true true g s l rest = absurd (let e : false ≡ true = sym g ∙ ap (λ (n : ℕ). ends n q) (eqb-true x.0 tx s) ∙ l in cc)
  at false false true g s l rest = ap (λ (o : Option (List ℕ)). or_one o (eqb x.0 tx) x.1) (rest ∙ ap (λ (b : Bool). cond b None (last_extra tx xs)) l) ∙ ap (λ (b : Bool). or_one None b x.1) s
  at false same false g s l rest = ap (λ (o : Option (List ℕ)). or_one o (eqb x.0 tx) x.1) (rest ∙ ap (λ (b : Bool). cond b None (last_extra tx xs)) l)

-- it is the last of that number
pub last_of-is : (tx : ℕ) (xs : List (ℕ × List ℕ)) (extra : List ℕ) → last_of tx xs extra ≡ unwrap_or (last_extra tx xs) extra
last_of-is tx [] extra = refl
last_of-is tx (x ∷ xs) extra = last_of-is tx xs (cond (eqb x.0 tx) x.1 extra) ∙ by (last_extra tx xs) (eqb x.0 tx) where
  by : (o : Option (List ℕ)) (b : Bool) → unwrap_or o (cond b x.1 extra) ≡ unwrap_or (or_one o b x.1) extra
  by None true = refl
  by None false = refl
  by (Some e) b = refl

-- there is one exactly where the number is among them
pub has_extra : (tx : ℕ) (xs : List (ℕ × List ℕ)) → list_any (λ x. eqb x.0 tx) xs ≡ is_some (last_extra tx xs)
has_extra tx [] = refl
has_extra tx (x ∷ xs) = ap (λ (b : Bool). eqb x.0 tx || b) (has_extra tx xs) ∙ by (last_extra tx xs) (eqb x.0 tx) where
  by : (o : Option (List ℕ)) (b : Bool) → (b || is_some o) ≡ is_some (or_one o b x.1)
  by None true = refl
  by None false = refl
  by (Some e) true = refl
  by (Some e) false = refl

-- ---- whether it is open

abbrev open_after : Bool → Bool → Bool → Bool
open_after last own before = cond last false (before || own)

pub is_left_open-snoc : (tx : ℕ) (ps : List Placed) (q : Placed) → is_left_open tx (ps ++ q ∷ []) ≡ open_after (ends tx q) (is_some_of (number_of q.rec) tx) (is_left_open tx ps)
is_left_open-snoc tx [] q = by (is_some_of (number_of q.rec) tx) (ends tx q) where
  by : (own last : Bool) → (own && not last && not false || false) ≡ open_after last own false
  by true true = refl
  by true false = refl
  by false true = refl
  by false false = refl
is_left_open-snoc tx (p ∷ ps) q =
    ap (λ (b : Bool). (is_some_of (number_of p.rec) tx && not (ends tx p) && not b) || is_left_open tx (ps ++ q ∷ [])) (any-snoc (ends tx) ps q)
    ∙ ap (λ (b : Bool). (is_some_of (number_of p.rec) tx && not (ends tx p) && not (list_any (ends tx) ps || ends tx q)) || b) (is_left_open-snoc tx ps q)
    ∙ by (is_some_of (number_of p.rec) tx && not (ends tx p)) (list_any (ends tx) ps) (ends tx q) (is_some_of (number_of q.rec) tx) (is_left_open tx ps) where
      by : (here behind last own before : Bool) → (here && not (behind || last) || open_after last own before) ≡ open_after last own (here && not behind || before)
      by true true true own before = refl
      by true true false own before = refl
      by true false true own before = refl
      by true false false own before = refl
      by false behind true own before = refl
      by false behind false own before = refl

-- ---- all of it

or_false : (b : Bool) → (b || false) ≡ b
or_false true = refl
or_false false = refl

or_true : (b : Bool) → (b || true) ≡ true
or_true true = refl
or_true false = refl

-- the bytes, by whether the record is a sound PREPARE and whether it is an end
abbrev extra_after : ℕ → Option (ℕ × List ℕ) → Bool → Option (List ℕ) → Option (List ℕ)
extra_after tx None last before = cond last None before
extra_after tx (Some x) last before = cond (eqb x.0 tx) (Some x.1) (cond last None before)

extras : (l : List Placed) (p : Placed) (tx : ℕ) → last_extra tx (prepared (l ++ p ∷ [])) ≡ extra_after tx (prepared_here l p []) (ends tx p) (last_extra tx (prepared l))
extras l p tx = ap (last_extra tx) (prepared_from-snoc [] l p) ∙ by (prepared_here l p []) where
  by : (o : Option (ℕ × List ℕ)) → last_extra tx (left_by p (prepared l) ++ option_to_list o) ≡ extra_after tx o (ends tx p) (last_extra tx (prepared l))
  by None = ap (last_extra tx) (append-nil (left_by p (prepared l))) ∙ last_extra-left tx p (prepared l)
  by (Some x) = last_extra-snoc tx (left_by p (prepared l)) x ∙ ap (λ (o : Option (List ℕ)). cond (eqb x.0 tx) (Some x.1) o) (last_extra-left tx p (prepared l))

abbrev turn_state : Bool → List Placed → Option (List ℕ) → TurnState
turn_state is_open changes extra = record { is_open = is_open; changes = changes; extra = extra }

-- the parts behind one record more
abbrev parts_behind : List Placed → Placed → ℕ → TurnState
parts_behind l p tx = turn_state
    (open_after (ends tx p) (is_some_of (number_of p.rec) tx) (is_left_open tx l))
    (opened (ends tx p) (changes tx p) (open_changes tx l) p)
    (extra_after tx (prepared_here l p []) (ends tx p) (last_extra tx (prepared l)))

parts_grow : (l : List Placed) (p : Placed) (tx : ℕ) → turn_in (l ++ p ∷ []) tx ≡ parts_behind l p tx
parts_grow l p tx =
    ap (λ (b : Bool). turn_state b (open_changes tx (l ++ p ∷ [])) (last_extra tx (prepared (l ++ p ∷ [])))) (is_left_open-snoc tx l p)
    ∙ ap (λ (ps : List Placed). turn_state (open_after (ends tx p) (is_some_of (number_of p.rec) tx) (is_left_open tx l)) ps (last_extra tx (prepared (l ++ p ∷ [])))) (open_changes-snoc tx l p)
    ∙ ap (λ (o : Option (List ℕ)). turn_state (open_after (ends tx p) (is_some_of (number_of p.rec) tx) (is_left_open tx l)) (opened (ends tx p) (changes tx p) (open_changes tx l) p) o) (extras l p tx)

module _ (l : List Placed) (file place compact tx : ℕ) where
  at : Record → Placed
  at rec = record { file = file; place = place; compact = compact; rec = rec }

  before : TurnState
  before = turn_in l tx

  -- a record of no transaction
  plain : turn_state (is_left_open tx l || false) (open_changes tx l) (last_extra tx (prepared l)) ≡ before
  unfolding before
  plain = ap (λ (b : Bool). turn_state b (open_changes tx l) (last_extra tx (prepared l))) (or_false (is_left_open tx l))

  -- an add, update or delete of a transaction
  change : (p : Placed) (same : Bool) → turn_state (is_left_open tx l || same) (opened false same (open_changes tx l) p) (last_extra tx (prepared l)) ≡ cond same (with_change p before) before
  unfolding before
  change p true = ap (λ (b : Bool). turn_state b (open_changes tx l ++ p ∷ []) (last_extra tx (prepared l))) (or_true (is_left_open tx l))
  change p false = plain

  -- an end
  end : (p : Placed) (same : Bool) → turn_state (open_after same same (is_left_open tx l)) (opened same false (open_changes tx l) p) (cond same None (last_extra tx (prepared l))) ≡ cond same none_open before
  end p true = refl
  end p false = plain

  prepare : (p : Placed) (t count : ℕ) (same : Bool) → eqb t tx ≡ same
      → turn_state (is_left_open tx l || same) (open_changes tx l) (extra_after tx (cond (eqb count (count_in p.file (open_changes t l)) && true) (Some (t, extra_of p)) None) false (last_extra tx (prepared l)))
      ≡ cond same (with_prepare p count before) before
  unfolding before
  prepare p t count true e =
      ap (λ (b : Bool). turn_state b (open_changes tx l) (extra_after tx (cond (eqb count (count_in p.file (open_changes t l)) && true) (Some (t, extra_of p)) None) false (last_extra tx (prepared l)))) (or_true (is_left_open tx l))
      ∙ ap (turn_state true (open_changes tx l)) (sound (eqb count (count_in p.file (open_changes t l))) ∙ ap (λ (n : ℕ). cond (eqb count (count_in p.file (open_changes n l))) (Some (extra_of p)) (last_extra tx (prepared l))) (eqb-true t tx e)) where
        sound : (s : Bool) → extra_after tx (cond (s && true) (Some (t, extra_of p)) None) false (last_extra tx (prepared l)) ≡ cond s (Some (extra_of p)) (last_extra tx (prepared l))
        sound true = ap (λ (b : Bool). cond b (Some (extra_of p)) (last_extra tx (prepared l))) e
        sound false = refl
  prepare p t count false e =
      ap (λ (b : Bool). turn_state b (open_changes tx l) (extra_after tx (cond (eqb count (count_in p.file (open_changes t l)) && true) (Some (t, extra_of p)) None) false (last_extra tx (prepared l)))) (or_false (is_left_open tx l))
      ∙ ap (turn_state (is_left_open tx l) (open_changes tx l)) (other (eqb count (count_in p.file (open_changes t l)))) where
        other : (s : Bool) → extra_after tx (cond (s && true) (Some (t, extra_of p)) None) false (last_extra tx (prepared l)) ≡ last_extra tx (prepared l)
        other true = ap (λ (b : Bool). cond b (Some (extra_of p)) (last_extra tx (prepared l))) e
        other false = refl

  behind : (rec : Record) → parts_behind l (at rec) tx ≡ turn_after (at rec) (brief_of rec) tx before
  unfolding at
  behind (Add id user_type body) = plain
  behind (Update id user_type body) = plain
  behind (Delete id) = plain
  behind (AddTx t id user_type body) = change (at (AddTx t id user_type body)) (eqb t tx)
  behind (UpdateTx t id user_type body) = change (at (UpdateTx t id user_type body)) (eqb t tx)
  behind (DeleteTx t id body) = change (at (DeleteTx t id body)) (eqb t tx)
  behind (Prepare t count extra) = prepare (at (Prepare t count extra)) t count (eqb t tx) refl
  behind (Commit t count) = end (at (Commit t count)) (eqb t tx)
  behind (Rollback t) = end (at (Rollback t)) (eqb t tx)

-- what the record makes of each transaction
pub turns_grow : (l : List Placed) (p : Placed) (tx : ℕ) → turn_in (l ++ p ∷ []) tx ≡ turn_after p (brief_of p.rec) tx (turn_in l tx)
unfolding at before
turns_grow l p tx = parts_grow l p tx ∙ behind l p.file p.place p.compact tx p.rec

-- what the record adds to the order of effect
pub effect_is : (l : List Placed) (p : Placed) → effect_of l p ≡ added p (brief_of p.rec) (turn_in l)
effect_is l p = by p.rec where
  by : (rec : Record) → effect_of l (record { file = p.file; place = p.place; compact = p.compact; rec = rec }) ≡ added (record { file = p.file; place = p.place; compact = p.compact; rec = rec }) (brief_of rec) (turn_in l)
  by (Add id user_type body) = refl
  by (Update id user_type body) = refl
  by (Delete id) = refl
  by (AddTx t id user_type body) = refl
  by (UpdateTx t id user_type body) = refl
  by (DeleteTx t id body) = refl
  by (Prepare t count extra) = refl
  by (Commit t count) = refl
  by (Rollback t) = refl
