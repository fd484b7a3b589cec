-- What one record more does to the open records, to what is live and to what is prepared.
use Rattle.std.proofs.Common.{◌≡◌, ℕ, Bool, true, false, cond, not, ◌&&◌, ◌||◌, List, [], ◌∷◌, ◌++◌, Option, Some, None, refl, sym, ap, ◌∙◌, append_assoc}
use Rattle.std.specs.Prelude.{filter}
use Rattle.std.specs.List.{list_any}
use Rattle.std.specs.Option.{option_to_list}
use Rattle.std.proofs.lemmas.List.{append-nil}
use Rattle.std.proofs.lemmas.List.Elements.{filter-append}
use Rattle.amq_model.specs.declared.record.Placed.{Placed}
use Rattle.amq_model.specs.declared.record.Record.{Record}
use Rattle.amq_model.specs.declared.record.Record.TheVariants.{Add, Update, AddTx, UpdateTx, DeleteTx, Delete, Prepare, Commit, Rollback}
use Rattle.amq_model.specs.declared.state.Entry.{Entry}
use Rattle.amq_model.specs.Effect.{ends, changes, deletes, entry_of, open_changes, remaining, prepared_here, prepared_from, is_sound}

pub any-snoc : {X : Type 0} (t : X → Bool) (xs : List X) (y : X) → list_any t (xs ++ y ∷ []) ≡ (list_any t xs || t y)
any-snoc t [] y = by (t y) where
  by : (b : Bool) → (b || false) ≡ b
  by true = refl
  by false = refl
any-snoc t (x ∷ xs) y = by (t x) (any-snoc t xs y) where
  by : (b : Bool) → list_any t (xs ++ y ∷ []) ≡ (list_any t xs || t y) → (b || list_any t (xs ++ y ∷ [])) ≡ ((b || list_any t xs) || t y)
  by true e = refl
  by false e = e

-- an end is no change
exclusive : (tx : ℕ) (q : Placed) → ends tx q ≡ true → changes tx q ≡ false
exclusive tx q = by q.rec where
  by : (rec : Record) → ends tx (record { file = q.file; place = q.place; compact = q.compact; rec = rec }) ≡ true → changes tx (record { file = q.file; place = q.place; compact = q.compact; rec = rec }) ≡ false
  by (Add id user_type body) e = refl
  by (Update id user_type body) e = refl
  by (Delete id) e = refl
  by (AddTx t id user_type body) e = absurd cc
  by (UpdateTx t id user_type body) e = absurd cc
  by (DeleteTx t id body) e = absurd cc
  by (Prepare t count extra) e = refl
  by (Commit t count) e = refl
  by (Rollback t) e = refl

-- the open records, by whether the new one is an end and whether it is a change
abbrev pub opened : Bool → Bool → List Placed → Placed → List Placed
opened true change before q = []
opened false true before q = before ++ q ∷ []
opened false false before q = before

opened-one : (last change : Bool) (q : Placed) → (last ≡ true → change ≡ false) → cond (change && true) (q ∷ []) [] ≡ opened last change [] q
opened-one true true q h = absurd (let e : true ≡ false = h refl in cc)
opened-one true false q h = refl
opened-one false true q h = refl
opened-one false false q h = refl

opened-more : (here behind last change : Bool) (p q : Placed) (before after : List Placed) → after ≡ opened last change before q
    → cond (here && not (behind || last)) (p ∷ after) after ≡ opened last change (cond (here && not behind) (p ∷ before) before) q
opened-more here true last change p q before after h = by here where
  by : (b : Bool) → cond (b && false) (p ∷ after) after ≡ opened last change (cond (b && false) (p ∷ before) before) q
  by true = h
  by false = h
opened-more here false true change p q before after h = by here where
  by : (b : Bool) → cond (b && false) (p ∷ after) after ≡ []
  by true = h
  by false = h
opened-more false false false change p q before after h = h
opened-more true false false true p q before after h = ap (λ (xs : List Placed). p ∷ xs) h
opened-more true false false false p q before after h = ap (λ (xs : List Placed). p ∷ xs) h

pub open_changes-snoc : (tx : ℕ) (ps : List Placed) (q : Placed) → open_changes tx (ps ++ q ∷ []) ≡ opened (ends tx q) (changes tx q) (open_changes tx ps) q
open_changes-snoc tx [] q = opened-one (ends tx q) (changes tx q) q (exclusive tx q)
open_changes-snoc tx (p ∷ ps) q =
    ap (λ (b : Bool). cond (changes tx p && not b) (p ∷ open_changes tx (ps ++ q ∷ [])) (open_changes tx (ps ++ q ∷ []))) (any-snoc (ends tx) ps q)
    ∙ opened-more (changes tx p) (list_any (ends tx) ps) (ends tx q) (changes tx q) p q (open_changes tx ps) (open_changes tx (ps ++ q ∷ [])) (open_changes-snoc tx ps q)

-- what a record leaves of the live entries, and what it adds
abbrev pub kept_by : Placed → List Entry → List Entry
kept_by q es = filter (λ e. not (deletes e.id q)) es

pub remaining-snoc : (ps : List Placed) (q : Placed) → remaining (ps ++ q ∷ []) ≡ kept_by q (remaining ps) ++ option_to_list (entry_of q)
remaining-snoc [] q = by (entry_of q) where
  by : (o : Option Entry) → (elim o [ None ↦ [] | Some e ↦ cond false [] (e ∷ []) ]) ≡ option_to_list o
  by None = refl
  by (Some e) = refl
remaining-snoc (p ∷ ps) q = by (entry_of p) (remaining-snoc ps q) where
  step : (e : Entry) (before now : Bool) → remaining (ps ++ q ∷ []) ≡ kept_by q (remaining ps) ++ option_to_list (entry_of q)
      → now ≡ deletes e.id q → cond (before || now) (remaining (ps ++ q ∷ [])) (e ∷ remaining (ps ++ q ∷ [])) ≡ kept_by q (cond before (remaining ps) (e ∷ remaining ps)) ++ option_to_list (entry_of q)
  step e true now h d = h
  step e false true h d = h ∙ ap (λ (b : Bool). cond (not b) (e ∷ kept_by q (remaining ps)) (kept_by q (remaining ps)) ++ option_to_list (entry_of q)) d
  step e false false h d = ap (λ (es : List Entry). e ∷ es) h ∙ ap (λ (b : Bool). cond (not b) (e ∷ kept_by q (remaining ps)) (kept_by q (remaining ps)) ++ option_to_list (entry_of q)) d

  by : (o : Option Entry) → remaining (ps ++ q ∷ []) ≡ kept_by q (remaining ps) ++ option_to_list (entry_of q)
      → (elim o [ None ↦ remaining (ps ++ q ∷ []) | Some e ↦ cond (list_any (deletes e.id) (ps ++ q ∷ [])) (remaining (ps ++ q ∷ [])) (e ∷ remaining (ps ++ q ∷ [])) ])
      ≡ kept_by q (elim o [ None ↦ remaining ps | Some e ↦ cond (list_any (deletes e.id) ps) (remaining ps) (e ∷ remaining ps) ]) ++ option_to_list (entry_of q)
  by None h = h
  by (Some e) h = ap (λ (b : Bool). cond b (remaining (ps ++ q ∷ [])) (e ∷ remaining (ps ++ q ∷ []))) (any-snoc (deletes e.id) ps q) ∙ step e (list_any (deletes e.id) ps) (deletes e.id q) h refl

-- ---- prepared

-- those of other transactions than the record ends
abbrev pub left_by : Placed → List (ℕ × List ℕ) → List (ℕ × List ℕ)
left_by q xs = filter (λ x. not (ends x.0 q)) xs

-- the record itself, if it is a sound PREPARE behind these
abbrev pub prepares : List Placed → Placed → List (ℕ × List ℕ)
prepares before q = option_to_list (prepared_here before q [])

here-snoc : (before : List Placed) (p : Placed) (ps : List Placed) (q : Placed) → option_to_list (prepared_here before p (ps ++ q ∷ [])) ≡ left_by q (option_to_list (prepared_here before p ps))
here-snoc before p ps q = by p.rec where
  test : (s b e : Bool) (x : ℕ × List ℕ) → option_to_list (cond (s && not (b || e)) (Some x) None) ≡ elim (option_to_list (cond (s && not b) (Some x) None)) [ [] ↦ [] | y ∷ ys ↦ cond (not e) (x ∷ []) [] ]
  test true true e x = refl
  test true false true x = refl
  test true false false x = refl
  test false true e x = refl
  test false false e x = refl

  left : (s b e : Bool) (x : ℕ × List ℕ) → ends x.0 q ≡ e → left_by q (option_to_list (cond (s && not b) (Some x) None)) ≡ elim (option_to_list (cond (s && not b) (Some x) None)) [ [] ↦ [] | y ∷ ys ↦ cond (not e) (x ∷ []) [] ]
  left true true e x h = refl
  left true false e x h = ap (λ (c : Bool). cond (not c) (x ∷ []) []) h
  left false true e x h = refl
  left false false e x h = refl

  by : (rec : Record) → option_to_list (prepared_here before (record { file = p.file; place = p.place; compact = p.compact; rec = rec }) (ps ++ q ∷ [])) ≡ left_by q (option_to_list (prepared_here before (record { file = p.file; place = p.place; compact = p.compact; rec = rec }) ps))
  by (Prepare tx count extra) =
      let s : Bool = is_sound before (record { file = p.file; place = p.place; compact = p.compact; rec = Prepare tx count extra }) in
      ap (λ (b : Bool). option_to_list (cond (s && not b) (Some (tx, extra)) None)) (any-snoc (ends tx) ps q)
      ∙ test s (list_any (ends tx) ps) (ends tx q) (tx, extra) ∙ sym (left s (list_any (ends tx) ps) (ends tx q) (tx, extra) refl)
  by (Add id user_type body) = refl
  by (Update id user_type body) = refl
  by (Delete id) = refl
  by (AddTx t id user_type body) = refl
  by (UpdateTx t id user_type body) = refl
  by (DeleteTx t id body) = refl
  by (Commit t count) = refl
  by (Rollback t) = refl

-- the list as parts
parts : (before : List Placed) (p : Placed) (ps : List Placed) → prepared_from before (p ∷ ps) ≡ option_to_list (prepared_here before p ps) ++ prepared_from (before ++ p ∷ []) ps
parts before p ps = by (prepared_here before p ps) where
  by : (o : Option (ℕ × List ℕ)) → (elim o [ None ↦ prepared_from (before ++ p ∷ []) ps | Some x ↦ x ∷ prepared_from (before ++ p ∷ []) ps ]) ≡ option_to_list o ++ prepared_from (before ++ p ∷ []) ps
  by None = refl
  by (Some x) = refl

pub prepared_from-snoc : (before ps : List Placed) (q : Placed) → prepared_from before (ps ++ q ∷ []) ≡ left_by q (prepared_from before ps) ++ prepares (before ++ ps) q
prepared_from-snoc before [] q = parts before q [] ∙ append-nil _ ∙ ap (λ (l : List Placed). prepares l q) (sym (append-nil before))
prepared_from-snoc before (p ∷ ps) q =
    parts before p (ps ++ q ∷ [])
    ∙ ap (λ (xs : List (ℕ × List ℕ)). xs ++ prepared_from (before ++ p ∷ []) (ps ++ q ∷ [])) (here-snoc before p ps q)
    ∙ ap (λ (xs : List (ℕ × List ℕ)). left_by q (option_to_list (prepared_here before p ps)) ++ xs) (prepared_from-snoc (before ++ p ∷ []) ps q)
    ∙ sym (append_assoc (left_by q (option_to_list (prepared_here before p ps))) (left_by q (prepared_from (before ++ p ∷ []) ps)) (prepares ((before ++ p ∷ []) ++ ps) q))
    ∙ ap (λ (xs : List (ℕ × List ℕ)). xs ++ prepares ((before ++ p ∷ []) ++ ps) q) (sym (filter-append (λ x. not (ends x.0 q)) (option_to_list (prepared_here before p ps)) (prepared_from (before ++ p ∷ []) ps)) ∙ ap (left_by q) (sym (parts before p ps)))
    ∙ ap (λ (l : List Placed). left_by q (prepared_from before (p ∷ ps)) ++ prepares l q) (append_assoc before (p ∷ []) ps)
