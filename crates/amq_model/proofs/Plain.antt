-- Adds, updates and deletes outside transactions: what one more of them does, and how a command for one is answered.
use Rattle.std.proofs.Common.{◌≡◌, ℕ, Bool, true, false, cond, not, ◌||◌, eqb, List, [], ◌∷◌, ◌++◌, Option, Some, None, refl, sym, ap, ◌∙◌}
use Rattle.std.specs.Prelude.{filter, All}
use Rattle.std.specs.List.{cons_option, filter_map, list_any}
use Rattle.std.specs.Option.{option_to_list}
use Rattle.std.proofs.lemmas.Bool.{eqb-true, eq-eqb}
use Rattle.std.proofs.lemmas.List.{append-nil}
use Rattle.std.proofs.lemmas.List.Elements.{All-head, All-tail}
use Rattle.amq_model.specs.declared.record.Placed.{Placed}
use Rattle.amq_model.specs.declared.record.Record.{Record}
use Rattle.amq_model.specs.declared.record.Record.TheVariants.{Add, Update, AddTx, UpdateTx, DeleteTx, Delete, Prepare, Commit, Rollback}
use Rattle.amq_model.specs.declared.state.Entry.{Entry}
use Rattle.amq_model.specs.declared.config.Config.{Config}
use Rattle.amq_model.specs.declared.command.Command.{Command}
use Rattle.amq_model.specs.declared.command.Command.TheVariants as c
use Rattle.amq_model.specs.declared.history.Step.{Step}
use Rattle.amq_model.specs.declared.refusal.Refusal.{Refusal}
use Rattle.amq_model.specs.declared.refusal.Refusal.TheVariants.{Held}
use Rattle.amq_model.specs.Effect.{entry_of, live, remaining, in_effect, effect_of}
use Rattle.amq_model.specs.Answers.{history_of, number_of, live_behind, in_view, holders, refusal, first_some, too_large, id_refusal}
use Rattle.amq_model.specs.Plain.{IsPlain, IsPlainCommand}
use Rattle.amq_model.proofs.EffectGrows.{effect_grows}
use Rattle.amq_model.proofs.Grows.{any-snoc, kept_by, remaining-snoc}

-- ---- what is live

all_kept : (es : List Entry) → filter (λ e. true) es ≡ es
all_kept [] = refl
all_kept (e ∷ es) = ap (λ (l : List Entry). e ∷ l) (all_kept es)

-- without the entries of an id
any_left : (id q : ℕ) (es : List Entry) → list_any (λ e. eqb e.id q) (filter (λ e. not (eqb id e.id)) es) ≡ cond (eqb id q) false (list_any (λ e. eqb e.id q) es)
any_left id q [] = by (eqb id q) where
  by : (b : Bool) → false ≡ cond b false false
  by true = refl
  by false = refl
any_left id q (e ∷ es) = at (any_left id q es) (eqb id e.id) (eqb id q) (eqb e.id q) refl refl refl where
  at : list_any (λ e. eqb e.id q) (filter (λ e. not (eqb id e.id)) es) ≡ cond (eqb id q) false (list_any (λ e. eqb e.id q) es) → (a b d : Bool) → eqb id e.id ≡ a → eqb id q ≡ b → eqb e.id q ≡ d
      → list_any (λ e. eqb e.id q) (cond (not a) (e ∷ filter (λ e. not (eqb id e.id)) es) (filter (λ e. not (eqb id e.id)) es)) ≡ cond b false (d || list_any (λ e. eqb e.id q) es)
  at rest true true d same here there = rest ∙ ap (λ (b : Bool). cond b false (list_any (λ e. eqb e.id q) es)) here
  at rest true false d same here there =
      let other : d ≡ false = sym there ∙ ap (λ (n : ℕ). eqb n q) (sym (eqb-true id e.id same)) ∙ here in
      rest ∙ ap (λ (b : Bool). cond b false (list_any (λ e. eqb e.id q) es)) here ∙ ap (λ (d : Bool). d || list_any (λ e. eqb e.id q) es) (sym other)
  at rest false true true same here there = absurd (let e : true ≡ false = sym (eq-eqb id e.id (eqb-true id q here ∙ sym (eqb-true e.id q there))) ∙ same in cc)
  at rest false true false same here there = ap (λ (d : Bool). d || list_any (λ e. eqb e.id q) (filter (λ e. not (eqb id e.id)) es)) there ∙ rest ∙ ap (λ (b : Bool). cond b false (list_any (λ e. eqb e.id q) es)) here
  at rest false false d same here there =
      ap (λ (d : Bool). d || list_any (λ e. eqb e.id q) (filter (λ e. not (eqb id e.id)) es)) there
      ∙ ap (λ (b : Bool). d || b) (rest ∙ ap (λ (b : Bool). cond b false (list_any (λ e. eqb e.id q) es)) here)

-- one more record of no transaction changes what is live by itself
pub live-snoc : (l : List Placed) (p : Placed) → IsPlain p.rec → live (l ++ p ∷ []) ≡ kept_by p (live l) ++ option_to_list (entry_of p)
live-snoc l p is = ap remaining (effect_grows l p) ∙ ap (λ (ps : List Placed). remaining (in_effect l ++ ps)) (alone p.rec is) ∙ remaining-snoc (in_effect l) p where
  alone : (rec : Record) → IsPlain rec → effect_of l (record { file = p.file; place = p.place; compact = p.compact; rec = rec }) ≡ record { file = p.file; place = p.place; compact = p.compact; rec = rec } ∷ []
  alone (Add id user_type body) h = refl
  alone (Update id user_type body) h = refl
  alone (Delete id) h = refl
  alone (AddTx tx id user_type body) h = absurd h
  alone (UpdateTx tx id user_type body) h = absurd h
  alone (DeleteTx tx id body) h = absurd h
  alone (Prepare tx count extra) h = absurd h
  alone (Commit tx count) h = absurd h
  alone (Rollback tx) h = absurd h

pub in_view-snoc : (l : List Placed) (p : Placed) → IsPlain p.rec → (q : ℕ) → in_view (l ++ p ∷ []) None q ≡ live_behind q (in_view l None q) p
in_view-snoc l p is q = ap (list_any (λ e. eqb e.id q)) (live-snoc l p is) ∙ by p.rec is where
  put : (e : Entry) → list_any (λ e. eqb e.id q) (filter (λ e. true) (live l) ++ e ∷ []) ≡ (list_any (λ e. eqb e.id q) (live l) || eqb e.id q)
  put e = ap (λ (es : List Entry). list_any (λ e. eqb e.id q) (es ++ e ∷ [])) (all_kept (live l)) ∙ any-snoc (λ e. eqb e.id q) (live l) e

  by : (rec : Record) → IsPlain rec → list_any (λ e. eqb e.id q) (kept_by (record { file = p.file; place = p.place; compact = p.compact; rec = rec }) (live l) ++ option_to_list (entry_of (record { file = p.file; place = p.place; compact = p.compact; rec = rec })))
      ≡ live_behind q (in_view l None q) (record { file = p.file; place = p.place; compact = p.compact; rec = rec })
  by (Add id user_type body) h = put _
  by (Update id user_type body) h = put _
  by (Delete id) h = ap (list_any (λ e. eqb e.id q)) (append-nil (filter (λ e. not (eqb id e.id)) (live l))) ∙ any_left id q (live l)
  by (AddTx tx id user_type body) h = absurd h
  by (UpdateTx tx id user_type body) h = absurd h
  by (DeleteTx tx id body) h = absurd h
  by (Prepare tx count extra) h = absurd h
  by (Commit tx count) h = absurd h
  by (Rollback tx) h = absurd h

-- ---- answers

no_number : (rec : Record) → IsPlain rec → number_of rec ≡ None
no_number (Add id user_type body) h = refl
no_number (Update id user_type body) h = refl
no_number (Delete id) h = refl
no_number (AddTx tx id user_type body) h = absurd h
no_number (UpdateTx tx id user_type body) h = absurd h
no_number (DeleteTx tx id body) h = absurd h
no_number (Prepare tx count extra) h = absurd h
no_number (Commit tx count) h = absurd h
no_number (Rollback tx) h = absurd h

-- there is no transaction
pub no_numbers : (l : List Placed) → All (λ p. IsPlain p.rec) l → filter_map (λ p. number_of p.rec) l ≡ []
no_numbers [] all = refl
no_numbers (p ∷ ps) all = by (number_of p.rec) (no_number p.rec (All-head (λ p. IsPlain p.rec) p ps all)) (no_numbers ps (All-tail (λ p. IsPlain p.rec) p ps all)) where
  by : (o : Option ℕ) → o ≡ None → filter_map (λ p. number_of p.rec) ps ≡ [] → cons_option o (filter_map (λ p. number_of p.rec) ps) ≡ []
  by None e rest = rest
  by (Some n) e rest = absurd cc

nobody : (steps : List Step) (id : ℕ) → filter_map (λ p. number_of p.rec) (history_of steps) ≡ [] → holders [] steps None id ≡ []
nobody steps id none = rw none refl

held_by : ℕ → List ℕ → Option Refusal
held_by id txs = elim txs [ [] ↦ None | tx ∷ others ↦ Some (Held id tx) ]

shorter : (a b : Option Refusal) → first_some (a ∷ None ∷ None ∷ b ∷ None ∷ []) ≡ first_some (a ∷ b ∷ [])
shorter None None = refl
shorter None (Some y) = refl
shorter (Some x) None = refl
shorter (Some x) (Some y) = refl

unheld : (steps : List Step) (id : ℕ) (a b : Option Refusal) → All (λ p. IsPlain p.rec) (history_of steps) → first_some (a ∷ None ∷ held_by id (holders [] steps None id) ∷ b ∷ None ∷ []) ≡ first_some (a ∷ b ∷ [])
unfolding held_by
unheld steps id a b all = ap (λ (txs : List ℕ). first_some (a ∷ None ∷ held_by id txs ∷ b ∷ None ∷ [])) (nobody steps id (no_numbers (history_of steps) all)) ∙ shorter a b

-- with no transaction, a plain command is refused for its length or its id alone
pub plain_refusal : (steps : List Step) (config : Config) (command : Command) → IsPlainCommand command → All (λ p. IsPlain p.rec) (history_of steps)
    → refusal [] steps config command ≡ first_some (too_large config command ∷ id_refusal [] steps command ∷ [])
unfolding held_by
plain_refusal steps config (c.Add id user_type body) is all = unheld steps id (too_large config (c.Add id user_type body)) (id_refusal [] steps (c.Add id user_type body)) all
plain_refusal steps config (c.Delete id) is all = unheld steps id (too_large config (c.Delete id)) (id_refusal [] steps (c.Delete id)) all
plain_refusal steps config (c.Update id user_type body) is all = unheld steps id (too_large config (c.Update id user_type body)) (id_refusal [] steps (c.Update id user_type body)) all
plain_refusal steps config c.Begin is all = absurd is
plain_refusal steps config (c.AddTx tx id user_type body) is all = absurd is
plain_refusal steps config (c.UpdateTx tx id user_type body) is all = absurd is
plain_refusal steps config (c.DeleteTx tx id body) is all = absurd is
plain_refusal steps config (c.Prepare tx extra) is all = absurd is
plain_refusal steps config (c.Commit tx) is all = absurd is
plain_refusal steps config (c.Rollback tx) is all = absurd is
plain_refusal steps config c.Flush is all = refl
