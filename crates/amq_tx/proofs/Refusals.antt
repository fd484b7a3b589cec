-- The refusals of a state that follows a base and steps are those of the journal of one thread.
use Rattle.std.proofs.Common.{◌≡◌, ℕ, ◌-◌, ◌^◌, Bool, true, false, cond, not, ◌&&◌, ◌||◌, eqb, List, [], ◌∷◌, ◌++◌, Option, Some, None, refl, sym, ap, ◌∙◌}
use Rattle.std.specs.Prelude.{filter, nat_le, slice_get}
use Rattle.std.specs.List.{cons_option, filter_map, list_any}
use Rattle.std.specs.Option.{is_some}
use Rattle.std.specs.Ordering.{nat_cmp}
use Rattle.std.specs.Map.{keys_of}
use Rattle.std.specs.Cmp.{nat_eq_equiv}
use Rattle.std.proofs.lemmas.Bool.{eqb-true}
use Rattle.std.proofs.lemmas.List.Kept.{IsStrictlySortedBy-filter}
use Rattle.std.proofs.lemmas.Map.Made.{is_member-filter}
use Rattle.amq_model.specs.declared.record.Placed.{Placed}
use Rattle.amq_model.specs.declared.record.Record.{Record}
use Rattle.amq_model.specs.declared.record.Record.TheVariants.{Add, Update, AddTx, UpdateTx, DeleteTx, Delete, Prepare, Commit, Rollback}
use Rattle.amq_model.specs.declared.state.EntryEnd.{EntryEnd}
use Rattle.amq_model.specs.declared.command.Command.{Command}
use Rattle.amq_model.specs.declared.command.Command.TheVariants as c
use Rattle.amq_model.specs.declared.history.Step.{Step}
use Rattle.amq_model.specs.declared.refusal.Refusal.{Refusal}
use Rattle.amq_model.specs.declared.refusal.Refusal.TheVariants.{NoTx, TxPrepared, Held, AlreadyLive, NoRecord, TxNumbersSpent}
use Rattle.amq_model.specs.Effect.{ends, changes, open_changes, prepared, ascending}
use Rattle.amq_model.specs.Answers.{tx_of, id_of, is_add, works_in_tx, number_of, is_some_of, is_open, is_prepared, in_view, touches, history_of, holders, tx_refusal, held, id_refusal, spent, first_some}
use Rattle.amq_model.specs.Open.{end_of}
use Rattle.amq_model.proofs.AscendingLaws.{any-ascending, ascending-sorted, same_numbers, sides}
use Rattle.amq_tx.specs.State.{TurnState, TxState, first_but, is_prepared_in}
use Rattle.amq_tx.specs.Refusing.{turn_refusal, tx_refusal_in, holder_in, held_by, held_in, live_after, view_in, live_refusal, id_refusal_in, spent_in, refusal_in}
use Rattle.amq_tx.specs.Follows.{Follows, end_in}
use Rattle.amq_tx.proofs.Starts.{key_listed}
use Rattle.amq_tx.proofs.Views.{view_is}

-- ---- holders

first_kept : (own : Option ℕ) (xs : List (ℕ × EntryEnd)) → first_but own xs ≡ slice_get (filter (λ n. not (is_some_of own n)) (keys_of xs)) 0
first_kept own [] = refl
first_kept own (x ∷ xs) = by (first_kept own xs) (is_some_of own x.0) where
  by : first_but own xs ≡ slice_get (filter (λ n. not (is_some_of own n)) (keys_of xs)) 0 → (b : Bool) → cond b (first_but own xs) (Some x.0) ≡ slice_get (cond (not b) (x.0 ∷ filter (λ n. not (is_some_of own n)) (keys_of xs)) (filter (λ n. not (is_some_of own n)) (keys_of xs))) 0
  by rest true = rest
  by rest false = refl

-- an open add, update or delete has its number there
change_listed : (q : ℕ) (t : Placed → Bool) (ps : List Placed) → list_any t (open_changes q ps) ≡ true → list_any (eqb q) (filter_map (λ p. number_of p.rec) ps) ≡ true
change_listed q t [] is = absurd cc
change_listed q t (p ∷ ps) is = by (λ e. change_listed q t ps e) (changes q p) (not (list_any (ends q) ps)) (number_is p.rec) is where
  behind : (o : Option ℕ) → list_any (eqb q) (filter_map (λ p. number_of p.rec) ps) ≡ true → list_any (eqb q) (cons_option o (filter_map (λ p. number_of p.rec) ps)) ≡ true
  behind None h = h
  behind (Some n) h = ap (λ (b : Bool). eqb q n || b) h ∙ or_true (eqb q n) where
    or_true : (b : Bool) → (b || true) ≡ true
    or_true true = refl
    or_true false = refl

  here : (n : ℕ) → eqb n q ≡ true → list_any (eqb q) (n ∷ filter_map (λ p. number_of p.rec) ps) ≡ true
  here n e = ap (λ (b : Bool). b || list_any (eqb q) (filter_map (λ p. number_of p.rec) ps)) (sides q n ∙ e)

  number_is : (rec : Record) → changes q (record { file = p.file; place = p.place; compact = p.compact; rec = rec }) ≡ true → list_any (eqb q) (cons_option (number_of rec) (filter_map (λ p. number_of p.rec) ps)) ≡ true
  number_is (AddTx n id user_type body) e = here n e
  number_is (UpdateTx n id user_type body) e = here n e
  number_is (DeleteTx n id body) e = here n e
  number_is (Add id user_type body) e = absurd cc
  number_is (Update id user_type body) e = absurd cc
  number_is (Delete id) e = absurd cc
  number_is (Prepare n count extra) e = absurd cc
  number_is (Commit n count) e = absurd cc
  number_is (Rollback n) e = absurd cc

  by : (list_any t (open_changes q ps) ≡ true → list_any (eqb q) (filter_map (λ p. number_of p.rec) ps) ≡ true) → (own last : Bool) → (own ≡ true → list_any (eqb q) (cons_option (number_of p.rec) (filter_map (λ p. number_of p.rec) ps)) ≡ true)
      → list_any t (cond (own && last) (p ∷ open_changes q ps) (open_changes q ps)) ≡ true → list_any (eqb q) (cons_option (number_of p.rec) (filter_map (λ p. number_of p.rec) ps)) ≡ true
  by rest true last mine is = mine refl
  by rest false last mine is = behind (number_of p.rec) (rest is)

touched_is : (id : ℕ) (ps : List Placed) → is_some (end_in id ps) ≡ list_any (touches id) ps
touched_is id ps = by (list_any (touches id) ps) where
  by : (b : Bool) → is_some (cond b (Some (end_of id ps)) None) ≡ b
  by true = refl
  by false = refl

module _ (s : TxState) (base : List Placed) (steps : List Step) (k : Follows s base steps) where
  abbrev all : List Placed
  all = base ++ history_of steps

  -- the transactions but own that hold the id
  holds : Option ℕ → ℕ → ℕ → Bool
  holds own id tx = not (is_some_of own tx) && is_open base steps tx && list_any (touches id) (open_changes tx (base ++ history_of steps))

  -- one that touches the id is listed and open
  held_is : (own : Option ℕ) (id q : ℕ) → (list_any (eqb q) (keys_of (s.touched id)) && not (is_some_of own q)) ≡ (list_any (eqb q) (filter_map (λ p. number_of p.rec) (base ++ history_of steps)) && holds own id q)
  unfolding holds
  held_is own id q =
      ap (λ (b : Bool). b && not (is_some_of own q)) (sym (key_listed q (s.touched id)) ∙ ap is_some (k.touched q id) ∙ touched_is id (open_changes q (base ++ history_of steps)))
      ∙ by (list_any (touches id) (open_changes q (base ++ history_of steps))) (is_open base steps q) (list_any (eqb q) (filter_map (λ p. number_of p.rec) (base ++ history_of steps))) (not (is_some_of own q))
      (λ e. change_listed q (touches id) (base ++ history_of steps) e) opened where
        opened : list_any (touches id) (open_changes q (base ++ history_of steps)) ≡ true → is_open base steps q ≡ true
        opened e = at (s.turns q) (k.closed q) (k.opened q) where
          at : (o : Option TurnState) → (o ≡ None → open_changes q (base ++ history_of steps) ≡ []) → is_some o ≡ is_open base steps q → is_open base steps q ≡ true
          at None none is = absurd (let no : false ≡ true = sym (ap (list_any (touches id)) (none refl)) ∙ e in cc)
          at (Some t) none is = sym is

        by : (touched opens listed other : Bool) → (touched ≡ true → listed ≡ true) → (touched ≡ true → opens ≡ true) → (touched && other) ≡ (listed && (other && opens && touched))
        by true opens listed other h g = at listed opens other (h refl) (g refl) where
          at : (listed opens other : Bool) → listed ≡ true → opens ≡ true → other ≡ (listed && (other && opens && true))
          at true true true a b = refl
          at true true false a b = refl
          at false opens other a b = absurd cc
          at true false other a b = absurd cc
        by false opens true true h g = at opens where
          at : (b : Bool) → false ≡ (true && b && false)
          at true = refl
          at false = refl
        by false opens true false h g = refl
        by false opens false other h g = refl

  holders_are : (own : Option ℕ) (id : ℕ) → filter (λ n. not (is_some_of own n)) (keys_of (s.touched id)) ≡ holders base steps own id
  unfolding holds
  holders_are own id = same_numbers (filter (λ n. not (is_some_of own n)) (keys_of (s.touched id))) (holders base steps own id)
      (IsStrictlySortedBy-filter nat_cmp (λ n. not (is_some_of own n)) (keys_of (s.touched id)) (k.ascends id))
      (IsStrictlySortedBy-filter nat_cmp (holds own id) (ascending (filter_map (λ p. number_of p.rec) (base ++ history_of steps))) (ascending-sorted (filter_map (λ p. number_of p.rec) (base ++ history_of steps))))
      (λ q. is_member-filter nat_eq_equiv (λ n. not (is_some_of own n)) q (λ x e. ap (λ (n : ℕ). not (is_some_of own n)) (eqb-true q x e)) (keys_of (s.touched id))
      ∙ held_is own id q
      ∙ sym (is_member-filter nat_eq_equiv (holds own id) q (λ x e. ap (holds own id) (eqb-true q x e)) (ascending (filter_map (λ p. number_of p.rec) (base ++ history_of steps)))
      ∙ ap (λ (b : Bool). b && holds own id q) (any-ascending q (filter_map (λ p. number_of p.rec) (base ++ history_of steps)))))

  -- the least holder
  pub holder_is : (own : Option ℕ) (id : ℕ) → holder_in s id own ≡ slice_get (holders base steps own id) 0
  holder_is own id = first_kept own (s.touched id) ∙ ap (λ (ns : List ℕ). slice_get ns 0) (holders_are own id)

  -- ---- each refusal

  tx_is : (command : Command) → tx_refusal_in s command ≡ tx_refusal base steps command
  tx_is command = by (tx_of command) where
    by : (o : Option ℕ) → ◌≡◌ {A = Option Refusal} (elim o [ None ↦ None | Some tx ↦ turn_refusal (s.turns tx) tx (works_in_tx command) ])
        (elim o [ None ↦ None | Some tx ↦ cond (is_open base steps tx) (cond (works_in_tx command && is_prepared base steps tx) (Some (TxPrepared tx)) None) (Some (NoTx tx)) ])
    by None = refl
    by (Some tx) = at (s.turns tx) (works_in_tx command) (is_open base steps tx) (list_any (λ x. eqb x.0 tx) (prepared (base ++ history_of steps))) (k.opened tx) (k.prepared tx) where
      at : (o : Option TurnState) (works opens sound : Bool) → is_some o ≡ opens → is_prepared_in o ≡ sound → turn_refusal o tx works ≡ cond opens (cond (works && (opens && sound)) (Some (TxPrepared tx)) None) (Some (NoTx tx))
      at None works true sound e p = absurd cc
      at None works false sound e p = refl
      at (Some t) works true sound e p = ap (λ (b : Bool). cond (works && b) (Some (TxPrepared tx)) None) p
      at (Some t) works false sound e p = absurd cc

  held_refusal : (command : Command) → held_in s command ≡ held base steps command
  held_refusal command = by (id_of command) where
    at : (id : ℕ) (ns : List ℕ) → ◌≡◌ {A = Option Refusal} (held_by id (slice_get ns 0)) (elim ns [ [] ↦ None | tx ∷ others ↦ Some (Held id tx) ])
    at id [] = refl
    at id (n ∷ ns) = refl

    by : (o : Option ℕ) → ◌≡◌ {A = Option Refusal} (elim o [ None ↦ None | Some id ↦ held_by id (holder_in s id (tx_of command)) ]) (elim o [ None ↦ None | Some id ↦ elim (holders base steps (tx_of command) id) [ [] ↦ None | tx ∷ others ↦ Some (Held id tx) ] ])
    by None = refl
    by (Some id) = ap (held_by id) (holder_is (tx_of command) id) ∙ at id (holders base steps (tx_of command) id)

  view_here : (own : Option ℕ) (id : ℕ) → view_in s own id ≡ in_view (base ++ history_of steps) own id
  view_here None id = k.live id
  view_here (Some tx) id =
      ap (λ (o : Option EntryEnd). live_after o (s.live id)) (k.touched tx id) ∙ ap (live_after (end_in id (open_changes tx (base ++ history_of steps)))) (k.live id)
      ∙ sym (view_is id (open_changes tx (base ++ history_of steps)) (in_view (base ++ history_of steps) None id))

  id_is : (command : Command) → id_refusal_in s command ≡ id_refusal base steps command
  id_is command = by (id_of command) where
    by : (o : Option ℕ) → ◌≡◌ {A = Option Refusal} (elim o [ None ↦ None | Some id ↦ live_refusal id (view_in s (tx_of command) id) (is_add command) ])
        (elim o [ None ↦ None | Some id ↦ cond (in_view (base ++ history_of steps) (tx_of command) id) (cond (is_add command) (Some (AlreadyLive id)) None) (cond (is_add command) None (Some (NoRecord id))) ])
    by None = refl
    by (Some id) = ap (λ (b : Bool). live_refusal id b (is_add command)) (view_here (tx_of command) id)

  spent_is : (command : Command) → spent_in s command ≡ spent base steps command
  spent_is command = ap (λ (n : ℕ). elim command [ c.Begin ↦ cond (nat_le (2 ^ 63 - 1) n) (Some (TxNumbersSpent n)) None | _ ↦ None ]) k.highest

  pub refusals_are : (command : Command) → refusal_in s command ≡ first_some (tx_refusal base steps command ∷ held base steps command ∷ id_refusal base steps command ∷ spent base steps command ∷ [])
  refusals_are command =
      ap (λ (o : Option Refusal). first_some (o ∷ held_in s command ∷ id_refusal_in s command ∷ spent_in s command ∷ [])) (tx_is command)
      ∙ ap (λ (o : Option Refusal). first_some (tx_refusal base steps command ∷ o ∷ id_refusal_in s command ∷ spent_in s command ∷ [])) (held_refusal command)
      ∙ ap (λ (o : Option Refusal). first_some (tx_refusal base steps command ∷ held base steps command ∷ o ∷ spent_in s command ∷ [])) (id_is command)
      ∙ ap (λ (o : Option Refusal). first_some (tx_refusal base steps command ∷ held base steps command ∷ id_refusal base steps command ∷ o ∷ [])) (spent_is command)
