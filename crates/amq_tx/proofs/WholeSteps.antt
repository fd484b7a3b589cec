-- What a legal step does: nothing to any transaction, or it begins one, or it appends a record.
use Rattle.std.proofs.Common.{◌≡◌, ◌⊎◌, inl, inr, ⊎_elim, ℕ, ◌+◌, Bool, true, false, cond, eqb, List, [], ◌∷◌, ◌++◌, refl, sym, ap, ◌∙◌, Option, Some, None, not}
use Rattle.std.specs.Prelude.{◌&&◌, ◌||◌, ◌-◌, ◌^◌}
use Rattle.std.proofs.lemmas.Bool.{eqb-true, eq-eqb, false≢true}
use Rattle.std.proofs.lemmas.Option.{same_Some, none-some}
use Rattle.amq_model.specs.declared.record.Record.{Record}
use Rattle.amq_model.specs.declared.record.Record.TheVariants as r
use Rattle.amq_model.specs.declared.record.Placed.{Placed}
use Rattle.amq_model.specs.declared.command.Command.{Command}
use Rattle.amq_model.specs.declared.command.Command.TheVariants as c
use Rattle.amq_model.specs.declared.command.Reply.{Reply}
use Rattle.amq_model.specs.declared.command.Reply.TheVariants.{Appended, Begun, Durable}
use Rattle.amq_model.specs.declared.config.Config.{Config}
use Rattle.amq_model.specs.declared.history.Answer.{Answer}
use Rattle.amq_model.specs.declared.history.Answer.TheVariants.{Done, Refused}
use Rattle.amq_model.specs.declared.history.Step.{Step}
use Rattle.amq_model.specs.declared.refusal.Refusal.{Refusal}
use Rattle.amq_model.specs.declared.refusal.Refusal.TheVariants.{FileIdsSpent}
use Rattle.amq_model.specs.Effect.{ends, counted, is_sound}
use Rattle.amq_model.specs.Kept.{closing_tx}
use Rattle.amq_model.specs.Answers.{history_of, open_behind, is_open, begun_in, highest, too_large, tx_refusal, held, id_refusal, spent, first_some, accepted, refusal, answer}
use Rattle.amq_model.specs.Legal.{Appends, IsAnswered, IsLegalStep}

-- ---- the kinds of steps

-- It appends p. A PREPARE, COMMIT or ROLLBACK is of an open transaction, and the first two are sound; behind an end the transaction isn't open.
pub record Appending (base : List Placed) (before : List Step) (s : Step) (p : Placed) : Type 0 where
  pub placed : s.placed ≡ Some p
  pub closing : (tx : ℕ) → closing_tx p.rec ≡ Some tx → (is_open base before tx ≡ true) × (is_sound (base ++ history_of before) p ≡ true)
  pub ended : (tx : ℕ) → ends tx p ≡ true → is_open base before tx ≡ true
  pub behind : (tx : ℕ) (b : Bool) → open_behind tx b s ≡ true → (b ≡ true) × (ends tx p ≡ false)

-- it begins the transaction of the next number
pub record Beginning (base : List Placed) (before : List Step) (s : Step) : Type 0 where
  pub placed : s.placed ≡ None
  pub begun : begun_in s ≡ Some (highest base before + 1)
  pub behind : (tx : ℕ) (b : Bool) → open_behind tx b s ≡ true → (b ≡ true) ⊎ (highest base before + 1 ≡ tx)

-- it appends nothing, and what was open is open
pub record Unchanging (s : Step) : Type 0 where
  pub placed : s.placed ≡ None
  pub behind : (tx : ℕ) (b : Bool) → open_behind tx b s ≡ b

abbrev pub Kind : List Placed → List Step → Step → Type 0
Kind base before s = Unchanging s ⊎ Beginning base before s ⊎ ((p : Placed) × Appending base before s p)

-- ---- what was accepted

-- what was done was answered by the journal of one thread
answered_done : (base : List Placed) (steps : List Step) (config : Config) (command : Command) (reply : Reply) → IsAnswered base steps config command (Done reply) → Done reply ≡ answer base steps config command
answered_done base steps config command reply h = ⊎_elim (λ e. e) (λ spent. let e : Done reply ≡ Refused (FileIdsSpent (2 ^ 31 - 1)) = spent.0 in absurd cc) h

none_refused : (o : Option Refusal) (a : Answer) (reply : Reply) → Done reply ≡ elim o [ Some refusal ↦ Refused refusal | None ↦ a ] → (o ≡ None) × (Done reply ≡ a)
none_refused None a reply e = (refl, e)
none_refused (Some refusal) a reply e = absurd cc

second_none : (a b : Option Refusal) (os : List (Option Refusal)) → first_some (a ∷ b ∷ os) ≡ None → b ≡ None
second_none None None os e = refl
second_none None (Some x) os e = absurd cc
second_none (Some x) b os e = absurd cc

was_open : (b : Bool) (x : Option Refusal) (z : Refusal) → cond b x (Some z) ≡ None → b ≡ true
was_open true x z e = refl
was_open false x z e = absurd cc

both_true : (a b : Bool) → (a && b) ≡ true → (a ≡ true) × (b ≡ true)
both_true true b e = (refl, e)
both_true false b e = absurd cc

either_true : (a b : Bool) → (a || b) ≡ true → (a ≡ true) ⊎ (b ≡ true)
either_true true b e = inl refl
either_true false b e = inr e

not_true : (a : Bool) → not a ≡ true → a ≡ false
not_true true e = absurd cc
not_true false e = refl

-- the record that p would be
abbrev with_record : Placed → Record → Placed
with_record p rec = record { file = p.file; place = p.place; compact = p.compact; rec = rec }

module _ (base : List Placed) (before : List Step) (config : Config) where
  abbrev step : ℕ → ℕ → Command → Answer → Option Placed → Step
  step seat number command ans placed = record { seat = seat; number = number; command = command; answer = ans; placed = placed }

  abbrev others : Command → List (Option Refusal)
  others command = held base before command ∷ id_refusal base before command ∷ spent base before command ∷ []

  abbrev L : List Placed
  L = base ++ history_of before

  -- an append that is no end and no PREPARE
  plain : (seat number : ℕ) (command : Command) (k : ℕ) (p : Placed) (rec : Record) → rec ≡ p.rec → closing_tx rec ≡ None → ((tx : ℕ) → ends tx (with_record p rec) ≡ false)
      → ((tx : ℕ) (b : Bool) → open_behind tx b (step seat number command (Done (Appended k)) (Some p)) ≡ b) → Appending base before (step seat number command (Done (Appended k)) (Some p)) p
  plain seat number command k p rec is none no_end behind = record {
    placed = refl;
    closing = λ tx e. absurd (none-some tx (sym none ∙ ap closing_tx is ∙ e));
    ended = λ tx e. absurd (false≢true (sym (no_end tx) ∙ ap (λ (rec : Record). ends tx (with_record p rec)) is ∙ e));
    behind = λ tx b e. (sym (behind tx b) ∙ e, sym (ap (λ (rec : Record). ends tx (with_record p rec)) is) ∙ no_end tx);
  }

  -- a PREPARE, COMMIT or ROLLBACK of an open transaction
  closes : (seat number : ℕ) (command : Command) (k : ℕ) (p : Placed) (rec : Record) (own : ℕ) → rec ≡ p.rec → is_open base before own ≡ true
      → ((tx : ℕ) → closing_tx rec ≡ Some tx → (own ≡ tx) × (is_sound L (with_record p rec) ≡ true)) → ((tx : ℕ) → ends tx (with_record p rec) ≡ true → own ≡ tx)
      → ((tx : ℕ) (b : Bool) → open_behind tx b (step seat number command (Done (Appended k)) (Some p)) ≡ true → (b ≡ true) × (ends tx (with_record p rec) ≡ false)) → Appending base before (step seat number command (Done (Appended k)) (Some p)) p
  closes seat number command k p rec own is opened closing ended behind = record {
    placed = refl;
    closing = λ tx e. let h = closing tx (ap closing_tx is ∙ e) in (sym (ap (is_open base before) h.0) ∙ opened, sym (ap (λ (rec : Record). is_sound L (with_record p rec)) is) ∙ h.1);
    ended = λ tx e. sym (ap (is_open base before) (ended tx (ap (λ (rec : Record). ends tx (with_record p rec)) is ∙ e))) ∙ opened;
    behind = λ tx b e. let h = behind tx b e in (h.0, sym (ap (λ (rec : Record). ends tx (with_record p rec)) is) ∙ h.1);
  }

  kind : (seat number : ℕ) (command : Command) (ans : Answer) (placed : Option Placed) → IsLegalStep base before config (step seat number command ans placed) → Kind base before (step seat number command ans placed)
  kind seat number command (Refused refusal) placed legal = inl (record { placed = legal.placed; behind = λ tx b. refl })
  kind seat number command (Done reply) placed legal =
      let t = none_refused (refusal base before config command) (accepted base before command) reply (answered_done base before config command reply legal.answered) in
      by command reply placed (second_none (too_large config command) (tx_refusal base before command) (others command) t.0) t.1 legal.placed
    where
      by : (command : Command) (reply : Reply) (placed : Option Placed) → tx_refusal base before command ≡ None → Done reply ≡ accepted base before command → Appends base before config command placed → Kind base before (step seat number command (Done reply) placed)
      by c.Begin (Begun n) None free e h = inr (inl (record {
        placed = refl;
        begun = cc;
        behind = λ tx b o. ⊎_elim (λ l. inl l) (λ q. let same : n ≡ highest base before + 1 = cc in inr (sym same ∙ eqb-true n tx q)) (either_true b (eqb n tx) o);
      }))
      by c.Begin (Begun n) (Some p) free e h = absurd (none-some p.rec h.0)
      by c.Begin (Appended k) placed free e h = absurd cc
      by c.Begin (Durable k) placed free e h = absurd cc
      by c.Flush (Durable k) None free e h = inl (record { placed = refl; behind = λ tx b. refl })
      by c.Flush (Durable k) (Some p) free e h = absurd (none-some p.rec h.0)
      by c.Flush (Appended k) placed free e h = absurd cc
      by c.Flush (Begun n) placed free e h = absurd cc
      by (c.Add id user_type body) (Appended k) (Some p) free e h = inr (inr (p, plain seat number (c.Add id user_type body) k p (r.Add id user_type body) (same_Some _ _ h.0) refl (λ tx. refl) (λ tx b. refl)))
      by (c.Update id user_type body) (Appended k) (Some p) free e h = inr (inr (p, plain seat number (c.Update id user_type body) k p (r.Update id user_type body) (same_Some _ _ h.0) refl (λ tx. refl) (λ tx b. refl)))
      by (c.Delete id) (Appended k) (Some p) free e h = inr (inr (p, plain seat number (c.Delete id) k p (r.Delete id) (same_Some _ _ h.0) refl (λ tx. refl) (λ tx b. refl)))
      by (c.AddTx tx id user_type body) (Appended k) (Some p) free e h = inr (inr (p, plain seat number (c.AddTx tx id user_type body) k p (r.AddTx tx id user_type body) (same_Some _ _ h.0) refl (λ tx. refl) (λ tx b. refl)))
      by (c.UpdateTx tx id user_type body) (Appended k) (Some p) free e h = inr (inr (p, plain seat number (c.UpdateTx tx id user_type body) k p (r.UpdateTx tx id user_type body) (same_Some _ _ h.0) refl (λ tx. refl) (λ tx b. refl)))
      by (c.DeleteTx tx id body) (Appended k) (Some p) free e h = inr (inr (p, plain seat number (c.DeleteTx tx id body) k p (r.DeleteTx tx id body) (same_Some _ _ h.0) refl (λ tx. refl) (λ tx b. refl)))
      by (c.Prepare tx extra) (Appended k) (Some p) free e h =
          inr (inr (
            p,
            closes seat number (c.Prepare tx extra) k p (r.Prepare tx (counted L tx p.file) extra) tx (same_Some _ _ h.0) (was_open (is_open base before tx) _ _ free)
                (λ t e. (same_Some tx t e, eq-eqb (counted L tx p.file) (counted L tx p.file) refl)) (λ t e. absurd (false≢true e)) (λ t b o. (o, refl)),
          ))
      by (c.Commit tx) (Appended k) (Some p) free e h =
          inr (inr (
            p,
            closes seat number (c.Commit tx) k p (r.Commit tx (counted L tx p.file)) tx (same_Some _ _ h.0) (was_open (is_open base before tx) _ _ free)
                (λ t e. (same_Some tx t e, eq-eqb (counted L tx p.file) (counted L tx p.file) refl)) (λ t e. eqb-true tx t e) (λ t b o. let q = both_true b (not (eqb tx t)) o in (q.0, not_true (eqb tx t) q.1)),
          ))
      by (c.Rollback tx) (Appended k) (Some p) free e h =
          inr (inr (
            p,
            closes seat number (c.Rollback tx) k p (r.Rollback tx) tx (same_Some _ _ h.0) (was_open (is_open base before tx) _ _ free)
                (λ t e. absurd (none-some t e)) (λ t e. eqb-true tx t e) (λ t b o. let q = both_true b (not (eqb tx t)) o in (q.0, not_true (eqb tx t) q.1)),
          ))
      by command (Appended k) None free e h = absurd cc
      by command (Begun n) placed free e h = absurd cc
      by command (Durable k) placed free e h = absurd cc

  pub kind_of : (s : Step) → IsLegalStep base before config s → Kind base before s
  kind_of s legal = kind s.seat s.number s.command s.answer s.placed legal
