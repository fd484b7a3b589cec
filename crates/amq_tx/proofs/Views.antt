-- What is live behind records, and what the records of a transaction make of an id.
use Rattle.std.proofs.Common.{◌≡◌, ℕ, Bool, true, false, cond, not, ◌&&◌, ◌||◌, eqb, List, [], ◌∷◌, ◌++◌, Option, Some, None, refl, sym, ap, ◌∙◌, append_assoc}
use Rattle.std.specs.Prelude.{fold}
use Rattle.std.specs.List.{list_any}
use Rattle.std.specs.Option.{option_to_list}
use Rattle.std.proofs.lemmas.Bool.{eqb-true}
use Rattle.std.proofs.lemmas.List.{append-nil}
use Rattle.std.proofs.lemmas.List.Folds.{list_any-append}
use Rattle.std.proofs.lemmas.Map.Views.{any-filter_same}
use Rattle.amq_model.specs.declared.record.Placed.{Placed}
use Rattle.amq_model.specs.declared.record.Record.{Record}
use Rattle.amq_model.specs.declared.record.Record.TheVariants.{Add, Update, AddTx, UpdateTx, DeleteTx, Delete, Prepare, Commit, Rollback}
use Rattle.amq_model.specs.declared.state.Entry.{Entry}
use Rattle.amq_model.specs.declared.state.EntryEnd.TheVariants.{Put, Gone}
use Rattle.amq_model.specs.Effect.{deletes, entry_of, remaining, in_effect, effect_of}
use Rattle.amq_model.specs.Answers.{live_behind, in_view, touches}
use Rattle.amq_model.specs.Open.{is_gone, end_of}
use Rattle.amq_model.proofs.EffectGrows.{effect_grows}
use Rattle.amq_model.proofs.Grows.{any-snoc, kept_by, remaining-snoc}
use Rattle.amq_tx.specs.Refusing.{live_after}
use Rattle.amq_tx.specs.Follows.{end_in}

abbrev has : ℕ → List Entry → Bool
has q es = list_any (λ e. eqb e.id q) es

-- ---- what is live

-- a record that deletes an id adds none
deletes_alone : (q : ℕ) (p : Placed) → deletes q p ≡ true → entry_of p ≡ None
deletes_alone q p = by p.rec where
  by : (rec : Record) → deletes q (record { file = p.file; place = p.place; compact = p.compact; rec = rec }) ≡ true → entry_of (record { file = p.file; place = p.place; compact = p.compact; rec = rec }) ≡ None
  by (Add id user_type body) e = absurd cc
  by (Update id user_type body) e = absurd cc
  by (AddTx tx id user_type body) e = absurd cc
  by (UpdateTx tx id user_type body) e = absurd cc
  by (DeleteTx tx id body) e = refl
  by (Delete id) e = refl
  by (Prepare tx count extra) e = refl
  by (Commit tx count) e = refl
  by (Rollback tx) e = refl

-- one record more, in order of effect
one_live : (q : ℕ) (ps : List Placed) (p : Placed) → has q (remaining (ps ++ p ∷ [])) ≡ live_behind q (has q (remaining ps)) p
one_live q ps p =
    ap (has q) (remaining-snoc ps p) ∙ list_any-append (λ e. eqb e.id q) (kept_by p (remaining ps)) (option_to_list (entry_of p))
    ∙ ap (λ (b : Bool). b || has q (option_to_list (entry_of p))) (any-filter_same (λ e. eqb e.id q) (λ e. not (deletes e.id p)) (not (deletes q p)) (λ e same. ap (λ (n : ℕ). not (deletes n p)) (eqb-true e.id q same)) (remaining ps))
    ∙ by (deletes q p) (entry_of p) (deletes_alone q p) where
      or_false : (b : Bool) → (b || false) ≡ b
      or_false true = refl
      or_false false = refl

      by : (gone : Bool) (o : Option Entry) → (gone ≡ true → o ≡ None)
          → (not gone && has q (remaining ps) || has q (option_to_list o)) ≡ cond gone false (elim o [ None ↦ has q (remaining ps) | Some e ↦ has q (remaining ps) || eqb e.id q ])
      by true o h = ap (λ (o : Option Entry). has q (option_to_list o)) (h refl)
      by false None h = or_false (has q (remaining ps))
      by false (Some e) h = ap (λ (b : Bool). has q (remaining ps) || b) (or_false (eqb e.id q))

-- several more
pub more_live : (q : ℕ) (ps more : List Placed) → has q (remaining (ps ++ more)) ≡ fold (live_behind q) (has q (remaining ps)) more
more_live q ps [] = ap (λ (l : List Placed). has q (remaining l)) (append-nil ps)
more_live q ps (p ∷ more) =
    ap (λ (l : List Placed). has q (remaining l)) (sym (append_assoc ps (p ∷ []) more)) ∙ more_live q (ps ++ p ∷ []) more ∙ ap (λ (b : Bool). fold (live_behind q) b more) (one_live q ps p)

-- what a record that has this effect makes of the live ids
pub view_after : (l : List Placed) (p : Placed) (effect : List Placed) → effect_of l p ≡ effect → (q : ℕ) → in_view (l ++ p ∷ []) None q ≡ fold (live_behind q) (in_view l None q) effect
view_after l p effect is q = ap (λ (ps : List Placed). has q (remaining ps)) (effect_grows l p ∙ ap (λ (ps : List Placed). in_effect l ++ ps) is) ∙ more_live q (in_effect l) effect

-- ---- what the records of a transaction do to an id

pub gone-snoc : (id : ℕ) (ps : List Placed) (p : Placed) → is_gone id (ps ++ p ∷ []) ≡ cond (touches id p) (deletes id p) (is_gone id ps)
gone-snoc id [] p = by (deletes id p) (entry_of p) where
  by : (gone : Bool) (o : Option Entry) → gone ≡ cond (gone || elim o [ None ↦ false | Some e ↦ eqb e.id id ]) gone false
  by true o = refl
  by false None = refl
  by false (Some e) = at (eqb e.id id) where
    at : (b : Bool) → false ≡ cond b false false
    at true = refl
    at false = refl
gone-snoc id (x ∷ xs) p = ap (λ (b : Bool). cond b (is_gone id (xs ++ p ∷ [])) (deletes id x)) (any-snoc (touches id) xs p) ∙ ap (λ (b : Bool). cond (list_any (touches id) xs || touches id p) b (deletes id x)) (gone-snoc id xs p) ∙ by (list_any (touches id) xs) (touches id p) where
  by : (any here : Bool) → cond (any || here) (cond here (deletes id p) (is_gone id xs)) (deletes id x) ≡ cond here (deletes id p) (cond any (is_gone id xs) (deletes id x))
  by true true = refl
  by true false = refl
  by false true = refl
  by false false = refl

-- by the last record
pub end-snoc : (id : ℕ) (ps : List Placed) (p : Placed) → end_in id (ps ++ p ∷ []) ≡ cond (touches id p) (Some (cond (deletes id p) Gone Put)) (end_in id ps)
end-snoc id ps p = ap (λ (b : Bool). cond b (Some (end_of id (ps ++ p ∷ []))) None) (any-snoc (touches id) ps p) ∙ ap (λ (b : Bool). cond (list_any (touches id) ps || touches id p) (Some (cond b Gone Put)) None) (gone-snoc id ps p) ∙ by (list_any (touches id) ps) (touches id p) where
  by : (any here : Bool) → cond (any || here) (Some (cond (cond here (deletes id p) (is_gone id ps)) Gone Put)) None ≡ cond here (Some (cond (deletes id p) Gone Put)) (cond any (Some (cond (is_gone id ps) Gone Put)) None)
  by true true = refl
  by true false = refl
  by false true = refl
  by false false = refl

-- the view of the transaction, by what the last record does
pub view_is : (id : ℕ) (ps : List Placed) (before : Bool) → fold (live_behind id) before ps ≡ live_after (end_in id ps) before
view_is id [] before = refl
view_is id (p ∷ ps) before = view_is id ps (live_behind id before p) ∙ by (list_any (touches id) ps) (deletes id p) (entry_of p) where
  last : (gone before other : Bool) → live_after (Some (cond gone Gone Put)) before ≡ live_after (Some (cond gone Gone Put)) other
  last true before other = refl
  last false before other = refl

  or_true : (b : Bool) → (b || true) ≡ true
  or_true true = refl
  or_true false = refl

  or_false : (b : Bool) → (b || false) ≡ b
  or_false true = refl
  or_false false = refl

  by : (any gone : Bool) (o : Option Entry)
      → live_after (cond any (Some (end_of id ps)) None) (cond gone false (elim o [ None ↦ before | Some e ↦ before || eqb e.id id ]))
      ≡ live_after (cond ((gone || elim o [ None ↦ false | Some e ↦ eqb e.id id ]) || any) (Some (cond (cond any (is_gone id ps) gone) Gone Put)) None) before
  by true gone o = last (is_gone id ps) (cond gone false (elim o [ None ↦ before | Some e ↦ before || eqb e.id id ])) before ∙ ap (λ (b : Bool). live_after (cond b (Some (cond (is_gone id ps) Gone Put)) None) before) (sym (or_true (gone || elim o [ None ↦ false | Some e ↦ eqb e.id id ])))
  by false true o = refl
  by false false None = refl
  by false false (Some e) = at (eqb e.id id) where
    at : (b : Bool) → (before || b) ≡ live_after (cond (b || false) (Some Put) None) before
    at true = or_true before
    at false = or_false before
