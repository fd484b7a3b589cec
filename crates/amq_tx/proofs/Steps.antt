-- A state that follows a base and steps follows them behind one step more.
use Rattle.std.proofs.Common.{◌≡◌, ℕ, ◌+◌, ◌≤◌, Bool, true, false, cond, not, ◌&&◌, ◌||◌, eqb, List, [], ◌∷◌, ◌++◌, length, Option, Some, None, refl, sym, ap, subst, ◌∙◌, arith, append_assoc}
use Rattle.std.specs.Prelude.{fold, max}
use Rattle.std.specs.List.{cons_option, filter_map}
use Rattle.std.specs.Option.{is_some, unwrap_or, option_to_list}
use Rattle.std.specs.Map.{lookup}
use Rattle.std.proofs.Math.Path.{fun_ext}
use Rattle.std.proofs.lemmas.Bool.{eqb-true, eq-eqb}
use Rattle.std.proofs.lemmas.List.{append-nil}
use Rattle.std.proofs.lemmas.List.Elements.{filter_map-append}
use Rattle.std.proofs.lemmas.List.Sums.{fold-append}
use Rattle.amq_model.specs.declared.record.Placed.{Placed}
use Rattle.amq_model.specs.declared.record.Record.{Record}
use Rattle.amq_model.specs.declared.record.Record.TheVariants as r
use Rattle.amq_model.specs.declared.state.EntryEnd.{EntryEnd}
use Rattle.amq_model.specs.declared.state.EntryEnd.TheVariants.{Put, Gone}
use Rattle.amq_model.specs.declared.command.Command.{Command}
use Rattle.amq_model.specs.declared.command.Command.TheVariants as c
use Rattle.amq_model.specs.declared.command.Reply.TheVariants.{Appended, Begun, Durable}
use Rattle.amq_model.specs.declared.history.Step.{Step}
use Rattle.amq_model.specs.declared.history.Answer.{Answer}
use Rattle.amq_model.specs.declared.history.Answer.TheVariants.{Done, Refused}
use Rattle.amq_model.specs.declared.refusal.Refusal.{Refusal}
use Rattle.amq_model.specs.Effect.{open_changes, counted}
use Rattle.amq_model.specs.Answers.{history_of, number_of, is_left_open, open_behind, is_open, begun_in, highest, in_view, first_some, record_of}
use Rattle.amq_model.specs.Legal.{number_for}
use Rattle.amq_model.proofs.Grows.{prepares}
use Rattle.amq_tx.specs.State.{TurnState, TxState, put, first_but, count_of, is_prepared_in}
use Rattle.amq_tx.specs.Refusing.{turn_refusal, tx_refusal_in, held_in, held_by, id_refusal_in, live_refusal, live_after, spent_in, refusal_in, holder_in}
use Rattle.amq_tx.specs.Applying.{begun, with_begin, with_change, with_prepare, with_commit, with_rollback, with_live, state_after}
use Rattle.amq_tx.specs.Follows.{Knows, Follows, IsPlacedIn, IsAccepted, end_in}
use Rattle.amq_tx.proofs.OneMore.{plain_knows, prepare_knows, change_knows, end_knows}
use Rattle.amq_tx.proofs.Views.{view_after, view_is}

-- ---- the base and the steps, behind one step more

records_more : (base : List Placed) (steps : List Step) (st : Step) → base ++ history_of (steps ++ st ∷ []) ≡ (base ++ history_of steps) ++ cons_option st.placed []
records_more base steps st = ap (λ (ps : List Placed). base ++ ps) (filter_map-append (λ s. s.placed) steps (st ∷ [])) ∙ sym (append_assoc base (history_of steps) (cons_option st.placed []))

open_more : (base : List Placed) (steps : List Step) (st : Step) (tx : ℕ) → is_open base (steps ++ st ∷ []) tx ≡ open_behind tx (is_open base steps tx) st
open_more base steps st tx = fold-append (open_behind tx) (is_left_open tx base) steps (st ∷ [])

highest_more : (base : List Placed) (steps : List Step) (st : Step) → highest base (steps ++ st ∷ []) ≡ fold max (highest base steps) (cons_option (begun_in st) [])
highest_more base steps st =
    ap (λ (ns : List ℕ). fold max 0 (filter_map (λ p. number_of p.rec) base ++ ns)) (filter_map-append begun_in steps (st ∷ []))
    ∙ ap (fold max 0) (sym (append_assoc (filter_map (λ p. number_of p.rec) base) (filter_map begun_in steps) (cons_option (begun_in st) [])))
    ∙ fold-append max 0 (filter_map (λ p. number_of p.rec) base ++ filter_map begun_in steps) (cons_option (begun_in st) [])

carried : (s : TxState) (base l m : List Placed) (f g : ℕ → Bool) (n o : ℕ) → l ≡ m → ((tx : ℕ) → f tx ≡ g tx) → n ≡ o → Knows s base l f n → Knows s base m g o
carried s base l m f g n o records opens top k =
    subst (λ (m : List Placed). Knows s base m g o) records (subst (λ (g : ℕ → Bool). Knows s base l g o) (fun_ext opens) (subst (Knows s base l f) top k))

-- what a step of this answer and command makes of an open transaction, and the number that it gives
abbrev open_by : ℕ → Bool → Answer → Command → Bool
open_by tx before answer command = elim answer [
  | Done reply ↦ elim reply [
    | Begun n ↦ before || eqb n tx
    | _ ↦ elim command [ c.Commit n ↦ before && not (eqb n tx) | c.Rollback n ↦ before && not (eqb n tx) | _ ↦ before ]
  ]
  | Refused refusal ↦ before
]

abbrev begun_by : Answer → Option ℕ
begun_by answer = elim answer [ Done reply ↦ elim reply [ Begun n ↦ Some n | _ ↦ None ] | Refused refusal ↦ None ]

module _ (s : TxState) (base : List Placed) (steps : List Step) (st : Step) (answer : Answer) (command : Command) (placed : Option Placed) (said : st.answer ≡ answer) (asked : st.command ≡ command) (stands : st.placed ≡ placed) where
  -- what is to be known, by what the step says
  follows_from : Knows s base ((base ++ history_of steps) ++ cons_option placed []) (λ tx. open_by tx (is_open base steps tx) answer command) (fold max (highest base steps) (cons_option (begun_by answer) [])) → Follows s base (steps ++ st ∷ [])
  follows_from k = carried s base ((base ++ history_of steps) ++ cons_option placed []) (base ++ history_of (steps ++ st ∷ [])) (λ tx. open_by tx (is_open base steps tx) answer command) (is_open base (steps ++ st ∷ []))
      (fold max (highest base steps) (cons_option (begun_by answer) [])) (highest base (steps ++ st ∷ []))
      (sym (records_more base steps st ∙ ap (λ (o : Option Placed). (base ++ history_of steps) ++ cons_option o []) stands))
      (λ tx. sym (open_more base steps st tx ∙ ap (λ (a : Answer). open_by tx (is_open base steps tx) a st.command) said ∙ ap (open_by tx (is_open base steps tx) answer) asked))
      (sym (highest_more base steps st ∙ ap (λ (a : Answer). fold max (highest base steps) (cons_option (begun_by a) [])) said))
      k

-- ---- a refused command

pub refused_follows : (s : TxState) (base : List Placed) (steps : List Step) (st : Step) (refusal : Refusal) → Follows s base steps → st.answer ≡ Refused refusal → st.placed ≡ None → Follows s base (steps ++ st ∷ [])
refused_follows s base steps st refusal k said stands =
    follows_from s base steps st (Refused refusal) st.command None said refl stands (subst (λ (l : List Placed). Knows s base l (is_open base steps) (highest base steps)) (sym (append-nil (base ++ history_of steps))) k)

-- ---- what a check that found no refusal says

none_first : (a : Option Refusal) (os : List (Option Refusal)) → first_some (a ∷ os) ≡ None → (a ≡ None) × (first_some os ≡ None)
none_first None os e = (refl, e)
none_first (Some refusal) os e = absurd cc

is_open_turn : (o : Option TurnState) (tx : ℕ) (works : Bool) → turn_refusal o tx works ≡ None → (t : TurnState) × (o ≡ Some t)
is_open_turn None tx works e = absurd cc
is_open_turn (Some t) tx works e = (t, refl)

not_held : (id : ℕ) (o : Option ℕ) → held_by id o ≡ None → o ≡ None
not_held id None e = refl
not_held id (Some tx) e = absurd cc

is_live : (id : ℕ) (b : Bool) → live_refusal id b false ≡ None → b ≡ true
is_live id true e = refl
is_live id false e = absurd cc

-- ---- an accepted command

abbrev at : Placed → Record → Placed
at p rec = record { file = p.file; place = p.place; compact = p.compact; rec = rec }

-- the record that stands in the file, where the command has one
stands_there : (file : ℕ) (l : List Placed) (command : Command) (o : Option Placed) → (record_of command 0 ≡ None → ⊥) → IsPlacedIn file l command o → (p : Placed) × (o ≡ Some p) × (record_of command (number_for l command p.file) ≡ Some p.rec) × (p.file ≡ file)
stands_there file l command None has h = absurd (has h)
stands_there file l command (Some p) has h = (p, refl, h.0, h.1)

-- nothing stands where it has none
none_there : (file : ℕ) (l : List Placed) (command : Command) (o : Option Placed) → ((n : ℕ) → record_of command n ≡ None) → IsPlacedIn file l command o → o ≡ None
none_there file l command None has h = refl
none_there file l command (Some p) has h = absurd (let no : Some p.rec ≡ None = sym h.0 ∙ has (number_for l command p.file) in cc)

is_placed : (p : Placed) (rec : Record) → Some rec ≡ Some p.rec → at p rec ≡ p
is_placed p rec e = ap (λ (o : Option Record). at p (unwrap_or o rec)) e

module _ (s : TxState) (base : List Placed) (steps : List Step) (k : Follows s base steps) where
  abbrev l : List Placed
  l = base ++ history_of steps

  -- ---- Begin and Flush

  begin_knows : Knows (with_begin s) base (base ++ history_of steps) (λ tx. is_open base steps tx || eqb (highest base steps + 1) tx) (max (highest base steps) (highest base steps + 1))
  begin_knows = record {
    live = k.live;
    opened = λ q. some q (eqb (s.highest + 1) q) ∙ ap (λ (n : ℕ). is_open base steps q || eqb (n + 1) q) k.highest;
    prepared = λ q. told q (eqb (s.highest + 1) q) refl ∙ k.prepared q;
    counts = λ q f below. number q (eqb (s.highest + 1) q) refl f ∙ k.counts q f below;
    closed = λ q none. k.closed q (nothing q (eqb (s.highest + 1) q) none);
    touched = k.touched;
    ascends = k.ascends;
    highest = omega (arith, k.highest);
    bounded = λ q there. low q (eqb (s.highest + 1) q) refl there;
  } where
    unused : s.turns (s.highest + 1) ≡ None
    unused = by (s.turns (s.highest + 1)) (k.bounded (s.highest + 1)) where
      by : (o : Option TurnState) → (is_some o ≡ true → s.highest + 1 ≤ s.highest) → o ≡ None
      by None h = refl
      by (Some t) h = absurd (omega (arith, h refl))

    some : (q : ℕ) (b : Bool) → is_some (cond b (Some begun) (s.turns q)) ≡ (is_open base steps q || b)
    some q true = sym (or_true (is_open base steps q)) where
      or_true : (b : Bool) → (b || true) ≡ true
      or_true true = refl
      or_true false = refl
    some q false = k.opened q ∙ sym (or_false (is_open base steps q)) where
      or_false : (b : Bool) → (b || false) ≡ b
      or_false true = refl
      or_false false = refl

    here : (q : ℕ) → eqb (s.highest + 1) q ≡ true → s.turns q ≡ None
    here q e = ap s.turns (sym (eqb-true (s.highest + 1) q e)) ∙ unused

    number : (q : ℕ) (b : Bool) → eqb (s.highest + 1) q ≡ b → (f : ℕ) → count_of (cond b (Some begun) (s.turns q)) f ≡ count_of (s.turns q) f
    number q true e f = ap (λ (o : Option TurnState). count_of o f) (sym (here q e))
    number q false e f = refl

    told : (q : ℕ) (b : Bool) → eqb (s.highest + 1) q ≡ b → is_prepared_in (cond b (Some begun) (s.turns q)) ≡ is_prepared_in (s.turns q)
    told q true e = ap is_prepared_in (sym (here q e))
    told q false e = refl

    nothing : (q : ℕ) (b : Bool) → cond b (Some begun) (s.turns q) ≡ None → s.turns q ≡ None
    nothing q true e = absurd cc
    nothing q false e = e

    low : (q : ℕ) (b : Bool) → eqb (s.highest + 1) q ≡ b → is_some (cond b (Some begun) (s.turns q)) ≡ true → q ≤ s.highest + 1
    low q true e there = omega (arith, eqb-true (s.highest + 1) q e)
    low q false e there = omega (arith, k.bounded q there)

  -- ---- commands with a record

  -- behind the record p of a command that isn't an end
  along : (after : TxState) (opens : ℕ → Bool) (p q : Placed) → p ≡ q → Knows after base ((base ++ history_of steps) ++ p ∷ []) opens (highest base steps) → Knows after base ((base ++ history_of steps) ++ q ∷ []) opens (highest base steps)
  along after opens p q e k = subst (λ (p : Placed). Knows after base ((base ++ history_of steps) ++ p ∷ []) opens (highest base steps)) e k

  or_put : (id q : ℕ) (b : Bool) → cond (eqb id q) true b ≡ (b || eqb id q)
  or_put id q b = by (eqb id q) b where
    by : (c b : Bool) → cond c true b ≡ (b || c)
    by true true = refl
    by true false = refl
    by false true = refl
    by false false = refl

  add_knows : (p : Placed) (id user_type : ℕ) (body : List ℕ) → Knows (with_live id true s) base ((base ++ history_of steps) ++ at p (r.Add id user_type body) ∷ []) (is_open base steps) (highest base steps)
  add_knows p id user_type body = plain_knows s base (base ++ history_of steps) (is_open base steps) (highest base steps) k (at p (r.Add id user_type body)) (λ q. refl) (λ q. refl) refl (put id true s.live)
      (λ q. or_put id q (s.live q) ∙ ap (λ (b : Bool). b || eqb id q) (k.live q) ∙ sym (view_after (base ++ history_of steps) (at p (r.Add id user_type body)) (at p (r.Add id user_type body) ∷ []) refl q))

  update_knows : (p : Placed) (id user_type : ℕ) (body : List ℕ) → s.live id ≡ true → Knows s base ((base ++ history_of steps) ++ at p (r.Update id user_type body) ∷ []) (is_open base steps) (highest base steps)
  update_knows p id user_type body there = plain_knows s base (base ++ history_of steps) (is_open base steps) (highest base steps) k (at p (r.Update id user_type body)) (λ q. refl) (λ q. refl) refl s.live
      (λ q. by q (eqb id q) refl ∙ ap (λ (b : Bool). b || eqb id q) (k.live q) ∙ sym (view_after (base ++ history_of steps) (at p (r.Update id user_type body)) (at p (r.Update id user_type body) ∷ []) refl q)) where
        by : (q : ℕ) (b : Bool) → eqb id q ≡ b → s.live q ≡ (s.live q || b)
        by q true e = ap (λ (c : Bool). c) here ∙ sym (ap (λ (c : Bool). c || true) here) where
          here : s.live q ≡ true
          here = ap s.live (sym (eqb-true id q e)) ∙ there
        by q false e = sym (or_false (s.live q)) where
          or_false : (b : Bool) → (b || false) ≡ b
          or_false true = refl
          or_false false = refl

  delete_knows : (p : Placed) (id : ℕ) → Knows (with_live id false s) base ((base ++ history_of steps) ++ at p (r.Delete id) ∷ []) (is_open base steps) (highest base steps)
  delete_knows p id = plain_knows s base (base ++ history_of steps) (is_open base steps) (highest base steps) k (at p (r.Delete id)) (λ q. refl) (λ q. refl) refl (put id false s.live)
      (λ q. ap (cond (eqb id q) false) (k.live q) ∙ sym (view_after (base ++ history_of steps) (at p (r.Delete id)) (at p (r.Delete id) ∷ []) refl q))

  or_none : (b : Bool) → (b || false) ≡ b
  or_none true = refl
  or_none false = refl

  add_tx_knows : (p : Placed) (tx id user_type : ℕ) (body : List ℕ) (t : TurnState) → s.turns tx ≡ Some t → first_but (Some tx) (s.touched id) ≡ None → Knows (with_change tx id Put p.file s) base ((base ++ history_of steps) ++ at p (r.AddTx tx id user_type body) ∷ []) (is_open base steps) (highest base steps)
  add_tx_knows p tx id user_type body t is free = change_knows s base (base ++ history_of steps) (is_open base steps) (highest base steps) k (at p (r.AddTx tx id user_type body)) tx id Put t (λ q. refl) (λ q. refl) (λ i. refl) refl refl refl is free

  update_tx_knows : (p : Placed) (tx id user_type : ℕ) (body : List ℕ) (t : TurnState) → s.turns tx ≡ Some t → first_but (Some tx) (s.touched id) ≡ None → Knows (with_change tx id Put p.file s) base ((base ++ history_of steps) ++ at p (r.UpdateTx tx id user_type body) ∷ []) (is_open base steps) (highest base steps)
  update_tx_knows p tx id user_type body t is free = change_knows s base (base ++ history_of steps) (is_open base steps) (highest base steps) k (at p (r.UpdateTx tx id user_type body)) tx id Put t (λ q. refl) (λ q. refl) (λ i. refl) refl refl refl is free

  delete_tx_knows : (p : Placed) (tx id : ℕ) (body : List ℕ) (t : TurnState) → s.turns tx ≡ Some t → first_but (Some tx) (s.touched id) ≡ None → Knows (with_change tx id Gone p.file s) base ((base ++ history_of steps) ++ at p (r.DeleteTx tx id body) ∷ []) (is_open base steps) (highest base steps)
  delete_tx_knows p tx id body t is free = change_knows s base (base ++ history_of steps) (is_open base steps) (highest base steps) k (at p (r.DeleteTx tx id body)) tx id Gone t (λ q. refl) (λ q. refl) (λ i. or_none (eqb id i))
      (ap (λ (b : Bool). cond b Gone Put) (eq-eqb id id refl)) refl refl is free

  sound_prepare : (p : Placed) (tx : ℕ) (extra : List ℕ) → prepares (base ++ history_of steps) (at p (r.Prepare tx (counted (base ++ history_of steps) tx p.file) extra)) ≡ (tx, extra) ∷ []
  sound_prepare p tx extra = ap (λ (b : Bool). option_to_list (cond (b && true) (Some (tx, extra)) None)) (eq-eqb (counted (base ++ history_of steps) tx p.file) (counted (base ++ history_of steps) tx p.file) refl)

  prepare_tx_knows : (p : Placed) (tx : ℕ) (extra : List ℕ) (t : TurnState) → s.turns tx ≡ Some t
      → Knows (with_prepare tx s) base ((base ++ history_of steps) ++ at p (r.Prepare tx (counted (base ++ history_of steps) tx p.file) extra) ∷ []) (is_open base steps) (highest base steps)
  prepare_tx_knows p tx extra t is = prepare_knows s base (base ++ history_of steps) (is_open base steps) (highest base steps) k (at p (r.Prepare tx (counted (base ++ history_of steps) tx p.file) extra)) (λ q. refl) (λ q. refl) tx extra t (sound_prepare p tx extra) refl is

  commit_knows : (p : Placed) (tx : ℕ) → Knows (with_commit tx s) base ((base ++ history_of steps) ++ at p (r.Commit tx (counted (base ++ history_of steps) tx p.file)) ∷ []) (λ q. is_open base steps q && not (eqb tx q)) (highest base steps)
  commit_knows p tx = end_knows s base (base ++ history_of steps) (is_open base steps) (highest base steps) k (at p (r.Commit tx (counted (base ++ history_of steps) tx p.file))) tx (λ q. refl) (λ q. refl) refl
      (λ id. live_after (lookup (eqb tx) (s.touched id)) (s.live id))
      (λ q. ap (λ (o : Option EntryEnd). live_after o (s.live q)) (k.touched tx q) ∙ ap (live_after (end_in q (open_changes tx (base ++ history_of steps)))) (k.live q)
      ∙ sym (view_is q (open_changes tx (base ++ history_of steps)) (in_view (base ++ history_of steps) None q))
      ∙ sym (view_after (base ++ history_of steps) (at p (r.Commit tx (counted (base ++ history_of steps) tx p.file))) (open_changes tx (base ++ history_of steps))
      (ap (λ (b : Bool). cond b (open_changes tx (base ++ history_of steps)) []) (eq-eqb (counted (base ++ history_of steps) tx p.file) (counted (base ++ history_of steps) tx p.file) refl)) q))

  rollback_knows : (p : Placed) (tx : ℕ) → Knows (with_rollback tx s) base ((base ++ history_of steps) ++ at p (r.Rollback tx) ∷ []) (λ q. is_open base steps q && not (eqb tx q)) (highest base steps)
  rollback_knows p tx = end_knows s base (base ++ history_of steps) (is_open base steps) (highest base steps) k (at p (r.Rollback tx)) tx (λ q. refl) (λ q. refl) refl s.live
      (λ q. k.live q ∙ sym (view_after (base ++ history_of steps) (at p (r.Rollback tx)) [] refl q))

  -- ---- any command

  passed : (command : Command) → refusal_in s command ≡ None → (tx_refusal_in s command ≡ None) × (held_in s command ≡ None) × (id_refusal_in s command ≡ None)
  passed command checked =
      let first = none_first (tx_refusal_in s command) (held_in s command ∷ id_refusal_in s command ∷ spent_in s command ∷ []) checked in
      let second = none_first (held_in s command) (id_refusal_in s command ∷ spent_in s command ∷ []) first.1 in
      let third = none_first (id_refusal_in s command) (spent_in s command ∷ []) second.1 in
      (first.0, second.0, third.0)

  -- behind the record of a change, in its file
  in_file : (tx id : ℕ) (end : EntryEnd) (file other : ℕ) (p : Placed) → file ≡ other → Knows (with_change tx id end file s) base ((base ++ history_of steps) ++ p ∷ []) (is_open base steps) (highest base steps) → Knows (with_change tx id end other s) base ((base ++ history_of steps) ++ p ∷ []) (is_open base steps) (highest base steps)
  in_file tx id end file other p e k = subst (λ (f : ℕ). Knows (with_change tx id end f s) base ((base ++ history_of steps) ++ p ∷ []) (is_open base steps) (highest base steps)) e k

  pub accepted_follows : (command : Command) (file : ℕ) (st : Step) → refusal_in s command ≡ None → IsAccepted base steps command file st → Follows (state_after command file s) base (steps ++ st ∷ [])
  accepted_follows (c.Add id user_type body) file st checked a =
      let h = stands_there file (base ++ history_of steps) (c.Add id user_type body) st.placed (λ e. cc) a.placed in
      follows_from (with_live id true s) base steps st (Done (Appended (length (history_of steps)))) (c.Add id user_type body) (Some h.0) a.answered a.is h.1
      (along (with_live id true s) (is_open base steps) (at h.0 (r.Add id user_type body)) h.0 (is_placed h.0 (r.Add id user_type body) h.2) (add_knows h.0 id user_type body))
  accepted_follows (c.Update id user_type body) file st checked a =
      let h = stands_there file (base ++ history_of steps) (c.Update id user_type body) st.placed (λ e. cc) a.placed in
      let there : s.live id ≡ true = is_live id (s.live id) (passed (c.Update id user_type body) checked).2 in
      follows_from s base steps st (Done (Appended (length (history_of steps)))) (c.Update id user_type body) (Some h.0) a.answered a.is h.1
      (along s (is_open base steps) (at h.0 (r.Update id user_type body)) h.0 (is_placed h.0 (r.Update id user_type body) h.2) (update_knows h.0 id user_type body there))
  accepted_follows (c.Delete id) file st checked a =
      let h = stands_there file (base ++ history_of steps) (c.Delete id) st.placed (λ e. cc) a.placed in
      follows_from (with_live id false s) base steps st (Done (Appended (length (history_of steps)))) (c.Delete id) (Some h.0) a.answered a.is h.1
      (along (with_live id false s) (is_open base steps) (at h.0 (r.Delete id)) h.0 (is_placed h.0 (r.Delete id) h.2) (delete_knows h.0 id))
  accepted_follows c.Begin file st checked a =
      follows_from (with_begin s) base steps st (Done (Begun (highest base steps + 1))) c.Begin None a.answered a.is (none_there file (base ++ history_of steps) c.Begin st.placed (λ n. refl) a.placed)
      (subst (λ (l : List Placed). Knows (with_begin s) base l (λ tx. is_open base steps tx || eqb (highest base steps + 1) tx) (max (highest base steps) (highest base steps + 1))) (sym (append-nil (base ++ history_of steps))) begin_knows)
  accepted_follows (c.AddTx tx id user_type body) file st checked a =
      let h = stands_there file (base ++ history_of steps) (c.AddTx tx id user_type body) st.placed (λ e. cc) a.placed in
      let none = passed (c.AddTx tx id user_type body) checked in
      let turn = is_open_turn (s.turns tx) tx true none.0 in
      follows_from (with_change tx id Put file s) base steps st (Done (Appended (length (history_of steps)))) (c.AddTx tx id user_type body) (Some h.0) a.answered a.is h.1
      (in_file tx id Put h.0.file file h.0 h.3
      (along (with_change tx id Put h.0.file s) (is_open base steps) (at h.0 (r.AddTx tx id user_type body)) h.0 (is_placed h.0 (r.AddTx tx id user_type body) h.2)
      (add_tx_knows h.0 tx id user_type body turn.0 turn.1 (not_held id (holder_in s id (Some tx)) none.1))))
  accepted_follows (c.UpdateTx tx id user_type body) file st checked a =
      let h = stands_there file (base ++ history_of steps) (c.UpdateTx tx id user_type body) st.placed (λ e. cc) a.placed in
      let none = passed (c.UpdateTx tx id user_type body) checked in
      let turn = is_open_turn (s.turns tx) tx true none.0 in
      follows_from (with_change tx id Put file s) base steps st (Done (Appended (length (history_of steps)))) (c.UpdateTx tx id user_type body) (Some h.0) a.answered a.is h.1
      (in_file tx id Put h.0.file file h.0 h.3
      (along (with_change tx id Put h.0.file s) (is_open base steps) (at h.0 (r.UpdateTx tx id user_type body)) h.0 (is_placed h.0 (r.UpdateTx tx id user_type body) h.2)
      (update_tx_knows h.0 tx id user_type body turn.0 turn.1 (not_held id (holder_in s id (Some tx)) none.1))))
  accepted_follows (c.DeleteTx tx id body) file st checked a =
      let h = stands_there file (base ++ history_of steps) (c.DeleteTx tx id body) st.placed (λ e. cc) a.placed in
      let none = passed (c.DeleteTx tx id body) checked in
      let turn = is_open_turn (s.turns tx) tx true none.0 in
      follows_from (with_change tx id Gone file s) base steps st (Done (Appended (length (history_of steps)))) (c.DeleteTx tx id body) (Some h.0) a.answered a.is h.1
      (in_file tx id Gone h.0.file file h.0 h.3
      (along (with_change tx id Gone h.0.file s) (is_open base steps) (at h.0 (r.DeleteTx tx id body)) h.0 (is_placed h.0 (r.DeleteTx tx id body) h.2)
      (delete_tx_knows h.0 tx id body turn.0 turn.1 (not_held id (holder_in s id (Some tx)) none.1))))
  accepted_follows (c.Prepare tx extra) file st checked a =
      let h = stands_there file (base ++ history_of steps) (c.Prepare tx extra) st.placed (λ e. cc) a.placed in
      let turn = is_open_turn (s.turns tx) tx true (passed (c.Prepare tx extra) checked).0 in
      let rec : Record = r.Prepare tx (counted (base ++ history_of steps) tx h.0.file) extra in
      follows_from (with_prepare tx s) base steps st (Done (Appended (length (history_of steps)))) (c.Prepare tx extra) (Some h.0) a.answered a.is h.1
      (along (with_prepare tx s) (is_open base steps) (at h.0 rec) h.0 (is_placed h.0 rec h.2) (prepare_tx_knows h.0 tx extra turn.0 turn.1))
  accepted_follows (c.Commit tx) file st checked a =
      let h = stands_there file (base ++ history_of steps) (c.Commit tx) st.placed (λ e. cc) a.placed in
      let rec : Record = r.Commit tx (counted (base ++ history_of steps) tx h.0.file) in
      follows_from (with_commit tx s) base steps st (Done (Appended (length (history_of steps)))) (c.Commit tx) (Some h.0) a.answered a.is h.1
      (along (with_commit tx s) (λ q. is_open base steps q && not (eqb tx q)) (at h.0 rec) h.0 (is_placed h.0 rec h.2) (commit_knows h.0 tx))
  accepted_follows (c.Rollback tx) file st checked a =
      let h = stands_there file (base ++ history_of steps) (c.Rollback tx) st.placed (λ e. cc) a.placed in
      follows_from (with_rollback tx s) base steps st (Done (Appended (length (history_of steps)))) (c.Rollback tx) (Some h.0) a.answered a.is h.1
      (along (with_rollback tx s) (λ q. is_open base steps q && not (eqb tx q)) (at h.0 (r.Rollback tx)) h.0 (is_placed h.0 (r.Rollback tx) h.2) (rollback_knows h.0 tx))
  accepted_follows c.Flush file st checked a =
      follows_from s base steps st (Done (Durable (length (history_of steps)))) c.Flush None a.answered a.is (none_there file (base ++ history_of steps) c.Flush st.placed (λ n. refl) a.placed)
      (subst (λ (l : List Placed). Knows s base l (is_open base steps) (highest base steps)) (sym (append-nil (base ++ history_of steps))) k)
