-- An opening's rollbacks.
use Rattle.std.proofs.Common.{◌≡◌, ℕ, zero, suc, ◌+◌, ◌-◌, ◌^◌, ◌<◌, ◌≤◌, Bool, true, false, cond, ltb, leb, eqb, List, [], ◌∷◌, ◌++◌, length, drop, Option, None, Some, refl, sym, ap, subst, ◌∙◌, arith}
use Rattle.std.specs.Prelude.{IfSome, All, IsTrue, fold, option_map, slice_get, not, ◌&&◌}
use Rattle.std.specs.List.{cons_option, filter_map, list_any}
use Rattle.std.specs.List.Sorted.{IsStrictlySortedBy}
use Rattle.std.specs.Option.{is_some}
use Rattle.std.specs.Ordering.{nat_cmp}
use Rattle.std.proofs.lemmas.Bool.{ltb-true, leb-true, ne_eqb}
use Rattle.std.proofs.lemmas.List.{length-append}
use Rattle.std.proofs.lemmas.List.Elements.{All-get_or, filter_passes}
use Rattle.std.proofs.lemmas.List.Kept.{IsStrictlySortedBy-filter}
use Rattle.std.proofs.lemmas.List.Sums.{fold-append}
use Rattle.std.proofs.lemmas.Map.Keys.{below_from_sorted, sorted_tail}
use Rattle.std.proofs.lemmas.Option.{slice_get_within, get_or_from_slice_get}
use Rattle.amq_model.specs.declared.record.Record.{Record}
use Rattle.amq_model.specs.declared.record.Record.TheVariants as rec
use Rattle.amq_model.specs.declared.record.Placed.{Placed}
use Rattle.amq_model.specs.declared.command.Command.{Command}
use Rattle.amq_model.specs.declared.command.Command.TheVariants.{Rollback}
use Rattle.amq_model.specs.declared.command.Reply.TheVariants as reply
use Rattle.amq_model.specs.declared.command.Reply.TheVariants.{Appended}
use Rattle.amq_model.specs.declared.config.Config.{Config}
use Rattle.amq_model.specs.declared.history.Answer.{Answer}
use Rattle.amq_model.specs.declared.history.Answer.TheVariants.{Done, Refused}
use Rattle.amq_model.specs.declared.history.Step.{Step}
use Rattle.amq_model.specs.declared.refusal.Refusal.{Refusal}
use Rattle.amq_model.specs.declared.refusal.Refusal.TheVariants.{FileIdsSpent, TooLarge}
use Rattle.amq_model.specs.Configs.{IsConfig}
use Rattle.amq_model.specs.RecordAt.{len_of, spelling}
use Rattle.amq_model.specs.Calls.{Past}
use Rattle.amq_model.specs.Effect.{prepared, ascending}
use Rattle.amq_model.specs.Answers.{history_of, number_of, is_left_open, open_behind, is_open, limit, first_some, too_large}
use Rattle.amq_model.specs.Legal.{rolled_back, OpensPartly, AreLegalOfRefused, end_of, needs_file}
use Rattle.amq_model.proofs.AscendingLaws.{ascending-sorted}
use Rattle.amq_record.proofs.Records.{length_spelling}
use Rattle.amq_tx.specs.State.{TurnState, TxState}
use Rattle.amq_tx.specs.Refusing.{refusal_in, turn_refusal}
use Rattle.amq_tx.specs.Follows.{Follows, IsAccepted}
use Rattle.amq_tx.proofs.Refusals.{refusals_are}
use Rattle.amq_pool.specs.Pools.{PoolOf, ids_of}
use Rattle.amq_engine.specs.declared.tail.Tail.{Tail}
use Rattle.amq_engine.specs.Lists.{Lists, with_step}
use Rattle.amq_engine.specs.Receipts.{IsCrashSafe}
use Rattle.amq_engine.proofs.Receipts.{if_some, both_some}
use Rattle.amq_engine.specs.Engine.{Stage, rolling, IsValid, passes, spent, refused, end_of_tail, with_put, placed_behind}
use Rattle.amq_engine.specs.Opening.{EndsIn, NeedsFile, NextNeedsFile}
use Rattle.amq_engine.proofs.History.{history-snoc}
use Rattle.amq_engine.proofs.Recovering.{valid_safe}
use Rattle.amq_engine.proofs.Commanding.{needs_one, valid_accepted}
use Rattle.amq_engine.proofs.Stages.{rolls_more}

-- ---- the next transaction is still open

-- a rollback of another transaction leaves it open, whatever was answered
stays_open : (tx x : ℕ) (s : Step) → s.command ≡ Rollback x → eqb x tx ≡ false → open_behind tx true s ≡ true
stays_open tx x s command other = by s.answer where
  named : elim s.command [ Rattle.amq_model.specs.declared.command.Command.TheVariants.Commit n ↦ not (eqb n tx) | Rollback n ↦ not (eqb n tx) | _ ↦ true ] ≡ true
  named = ap (λ (c : Command). elim c [ Rattle.amq_model.specs.declared.command.Command.TheVariants.Commit n ↦ not (eqb n tx) | Rollback n ↦ not (eqb n tx) | _ ↦ true ]) command ∙ ap not other

  by : (a : Answer) → open_behind tx true (record { seat = s.seat; number = s.number; command = s.command; answer = a; placed = s.placed }) ≡ true
  by (Refused r) = refl
  by (Done (reply.Begun n)) = refl
  by (Done (reply.Appended n)) = named
  by (Done (reply.Durable n)) = named

-- the transactions ascend, so the one behind the front that was rolled back is none of it
stays : (tx n : ℕ) (txs : List ℕ) (steps : List Step) → IsStrictlySortedBy nat_cmp txs → OpensPartly n txs steps → slice_get txs (length steps) ≡ Some tx → fold (open_behind tx) true steps ≡ true
stays tx n txs [] sorted partly there = refl
stays tx n [] (s ∷ ss) sorted partly there = absurd partly
stays tx n (x ∷ xs) (s ∷ ss) sorted partly there =
    let within : length (s ∷ ss) < length (x ∷ xs) = slice_get_within (x ∷ xs) (length (s ∷ ss)) tx there in
    let below : x < tx = omega (arith, below_from_sorted (x ∷ xs) 0 (length (s ∷ ss)) tx sorted (omega arith) within, get_or_from_slice_get (x ∷ xs) (length (s ∷ ss)) tx tx there) in
    ap (λ (b : Bool). fold (open_behind tx) b ss) (stays_open tx x s partly.0.command (ne_eqb x tx (λ e. omega (arith, below, e))))
    ∙ stays tx (n + 1) xs ss (sorted_tail nat_cmp x xs sorted) partly.1 there

passes_at : (P : ℕ → Bool) (xs : List ℕ) (n x : ℕ) → All (λ x. P x ≡ true) xs → slice_get xs n ≡ Some x → P x ≡ true
passes_at P xs n x all there = subst (λ (y : ℕ). P y ≡ true) (get_or_from_slice_get xs n x x there) (All-get_or (λ x. P x ≡ true) xs n x (slice_get_within xs n x there) all)

-- the transaction behind those that were rolled back is open
pub still_open : (base : List Placed) (steps : List Step) (tx : ℕ) → OpensPartly 1 (rolled_back base) steps → slice_get (rolled_back base) (length steps) ≡ Some tx → is_open base steps tx ≡ true
still_open base steps tx partly there =
    let numbers : List ℕ = ascending (filter_map (λ p. number_of p.rec) base) in
    let rolls : ℕ → Bool = λ tx. is_left_open tx base && not (list_any (λ x. eqb x.0 tx) (prepared base)) in
    let left : is_left_open tx base ≡ true = first_true (is_left_open tx base) (not (list_any (λ x. eqb x.0 tx) (prepared base))) (passes_at rolls (rolled_back base) (length steps) tx (filter_passes rolls numbers) there) in
    ap (λ (b : Bool). fold (open_behind tx) b steps) left
    ∙ stays tx 1 (rolled_back base) steps (IsStrictlySortedBy-filter nat_cmp rolls numbers (ascending-sorted (filter_map (λ p. number_of p.rec) base))) partly there
  where
    first_true : (a b : Bool) → (a && b) ≡ true → a ≡ true
    first_true true b is = refl
    first_true false b is = is

-- ---- the steps of the opening

-- what stands there, and what stands behind it
behind_at : (xs : List ℕ) (n x : ℕ) → slice_get xs n ≡ Some x → (rest : List ℕ) × (drop n xs ≡ x ∷ rest)
behind_at [] n x there = absurd (let within = slice_get_within [] n x there in omega (arith, within))
behind_at (y ∷ ys) zero x there = let same : y ≡ x = let e : Some y ≡ Some x = there in cc in (ys, ap (λ (z : ℕ). z ∷ ys) same)
behind_at (y ∷ ys) (suc n) x there = behind_at ys n x there

-- ---- what isn't refused

-- a rollback of an open transaction isn't refused
accepts_open : (table : TxState) (base : List Placed) (steps : List Step) (tx : ℕ) → Follows table base steps → is_open base steps tx ≡ true → refusal_in table (Rollback tx) ≡ None
accepts_open table base steps tx follows is = by (table.turns tx) (follows.opened tx ∙ is) where
  by : (o : Option TurnState) → is_some o ≡ true → first_some (turn_refusal o tx false ∷ None ∷ None ∷ None ∷ []) ≡ None
  by None some = absurd cc
  by (Some t) some = refl

-- nor is that of the next transaction
pub accepts_next : (past : Option Past) (moment : ℕ) (lists : Option Lists) (room : ℕ) (config : Config) (table : TxState) (pool : PoolOf) (t : Tail) (base : List Placed) (n tx : ℕ) → slice_get (rolled_back base) n ≡ Some tx → IsValid (rolling base n) past moment lists room config table pool t → refusal_in table (Rollback tx) ≡ None
accepts_next past moment lists room config table pool t base n tx there v =
    let p = v.sound.parts in
    let here : slice_get (rolled_back p.base) (length p.steps) ≡ Some tx = ap (λ (b : List Placed). slice_get (rolled_back b) (length p.steps)) v.opening.0 ∙ ap (slice_get (rolled_back base)) v.opening.1 ∙ there in
    accepts_open table p.base p.steps tx p.follows (still_open p.base p.steps tx v.opening.2 here)

-- a ROLLBACK is short
small_rollback : (config : Config) (tx : ℕ) → IsConfig config → too_large config (Rollback tx) ≡ None
small_rollback config tx ranges = by (ltb (limit config) 18) refl where
  by : (b : Bool) → ltb (limit config) 18 ≡ b → cond b (Some (TooLarge 18 (limit config))) None ≡ None
  by true is = absurd (omega (arith, ltb-true (limit config) 18 is, ranges.file_size_least, ranges.buffer_size_least))
  by false is = refl

-- it is refused only where the numbers of files are spent
pub refused_spent : (config : Config) (by_table by_numbers : Option Refusal) (tx : ℕ) → IsConfig config → by_table ≡ None → refused config by_table by_numbers (Rollback tx) ≡ by_numbers
refused_spent config by_table by_numbers tx ranges none =
    ap (λ (o : Option Refusal). first_some (o ∷ by_table ∷ by_numbers ∷ [])) (small_rollback config tx ranges)
    ∙ ap (λ (o : Option Refusal). first_some (None ∷ o ∷ by_numbers ∷ [])) none
    ∙ by by_numbers
  where
    by : (o : Option Refusal) → first_some (None ∷ None ∷ o ∷ []) ≡ o
    by None = refl
    by (Some r) = refl

-- where they are, the file is needed and they are all given
spent_top : (m : Bool) (top : ℕ) (ids : List ℕ) → top ≤ 2 ^ 31 - 1 → is_some (spent m top ids) ≡ true → (top ≡ 2 ^ 31 - 1) × (m ≡ true)
spent_top m top (id ∷ ids) low is = absurd cc
spent_top false top [] low is = absurd cc
spent_top true top [] low is = by (leb (2 ^ 31 - 1) top) refl is where
  by : (b : Bool) → leb (2 ^ 31 - 1) top ≡ b → is_some (let o : Option Refusal = cond b (Some (FileIdsSpent top)) None in o) ≡ true → (top ≡ 2 ^ 31 - 1) × (true ≡ true)
  by true high some = (omega (arith, low, leb-true _ _ high), refl)
  by false high some = absurd cc

-- where one more doesn't fit there is an append, and the last one stands in the file in use
last_file : (config : Config) (end first file : ℕ) (history : List Placed) → IsConfig config → passes config.file_size end (Some 18) ≡ true → EndsIn first history file end → fold (λ _ p. p.file) 0 history ≡ file
last_file config end first file [] ranges moves ends = absurd (omega (arith, ltb-true config.file_size (end + 18) moves, ends.1, ranges.file_size_least))
last_file config end first file (p ∷ ps) ranges moves ends = sym ends.0

-- where the next rollback doesn't fit the rest of the file it needs a further one
pub roll_needs : (stage : Stage) (past : Option Past) (moment : ℕ) (lists : Option Lists) (room : ℕ) (config : Config) (table : TxState) (pool : PoolOf) (t : Tail) → IsValid stage past moment lists room config table pool t → passes config.file_size (end_of_tail t) (Some 18) ≡ true → IfSome lists (NextNeedsFile config)
roll_needs stage past moment lists room config table pool t v moves =
    let p = v.sound.parts in
    let needed : IsTrue (needs_file (history_of p.steps) config (Rollback 0)) = needs_one config table pool t p (Rollback 0) v.ranges (small_rollback config 0 v.ranges) moves in
    if_some _ (NextNeedsFile config) lists (λ l told. subst (λ (ss : List Step). IsTrue (needs_file (history_of ss) config (Rollback 0))) (sym told.same) needed) v.sound.told

-- so the next rollback needs a further file
pub roll_spent : (past : Option Past) (moment : ℕ) (lists : Option Lists) (room : ℕ) (config : Config) (table : TxState) (pool : PoolOf) (t : Tail) (base : List Placed) (n tx : ℕ) → slice_get (rolled_back base) n ≡ Some tx → IsValid (rolling base n) past moment lists room config table pool t
    → is_some (spent (passes config.file_size (end_of_tail t) (Some 18)) pool.highest (ids_of pool.prepared)) ≡ true → pool.highest ≡ t.file.id → IfSome lists (λ l. (first : ℕ) × EndsIn first (history_of l.steps) t.file.id (end_of_tail t)) → (pool.highest ≡ 2 ^ 31 - 1) × IfSome lists (NeedsFile config)
roll_spent past moment lists room config table pool t base n tx there v spent_is here ended =
    let p = v.sound.parts in
    let top = spent_top (passes config.file_size (end_of_tail t) (Some 18)) pool.highest (ids_of pool.prepared) p.numbers spent_is in
    let needed : IsTrue (needs_file (history_of p.steps) config (Rollback 0)) = needs_one config table pool t p (Rollback 0) v.ranges (small_rollback config 0 v.ranges) top.1 in
    let more : length p.steps < length (rolled_back p.base) = omega (arith, v.opening.1, ap (λ (b : List Placed). length (rolled_back b)) v.opening.0, slice_get_within (rolled_back base) n tx there) in (
      top.0,
      both_some _ (λ l. (first : ℕ) × EndsIn first (history_of l.steps) t.file.id (end_of_tail t)) (NeedsFile config) lists (λ l told e. (
        subst (λ (ss : List Step). length ss < length (rolled_back l.base)) (sym told.same) (subst (λ (b : List Placed). length p.steps < length (rolled_back b)) (sym told.base) more),
        subst (λ (ss : List Step). IsTrue (needs_file (history_of ss) config (Rollback 0))) (sym told.same) needed,
        last_file config (end_of_tail t) e.0 t.file.id (history_of l.steps) v.ranges top.1 e.1 ∙ sym here ∙ top.0,
      )) v.sound.told ended,
    )

-- ---- what a rollback leaves

pub end_snoc : (ps : List Placed) (q : Placed) → end_of (ps ++ q ∷ []) ≡ q.place + len_of q.rec
end_snoc [] q = refl
end_snoc (p ∷ []) q = refl
end_snoc (p ∷ r ∷ rs) q = end_snoc (r ∷ rs) q

-- the history ends with it, where the tail ends
pub rolled_ends : (lists lists' : Option Lists) (t u : Tail) (x : Step) (rec : Record) → x.placed ≡ Some (placed_behind t rec) → u ≡ with_put 0 (Some rec) t → lists' ≡ option_map (with_step x) lists
    → IfSome lists' (λ l. (first : ℕ) → EndsIn first (history_of l.steps) u.file.id (end_of_tail u))
rolled_ends lists lists' t u x rec placed is noted =
    subst (λ (o : Option Lists). IfSome o (λ l. (first : ℕ) → EndsIn first (history_of l.steps) u.file.id (end_of_tail u))) (sym noted)
    (subst (λ (u : Tail). IfSome (option_map (with_step x) lists) (λ l. (first : ℕ) → EndsIn first (history_of l.steps) u.file.id (end_of_tail u))) (sym is) (by lists))
  where
    q : Placed
    q = placed_behind t rec

    grown : (steps : List Step) → history_of (steps ++ x ∷ []) ≡ history_of steps ++ placed_behind t rec ∷ []
    grown steps = history-snoc steps x ∙ ap (λ (o : Option Placed). history_of steps ++ cons_option o []) placed

    by : (o : Option Lists) → IfSome (option_map (with_step x) o) (λ l. (first : ℕ) → EndsIn first (history_of l.steps) t.file.id (end_of_tail (with_put 0 (Some rec) t)))
    by None = tt
    by (Some l) = λ first. (
      sym (ap (λ (ps : List Placed). fold (λ _ p. p.file) first ps) (grown l.steps) ∙ fold-append (λ _ p. p.file) first (history_of l.steps) (placed_behind t rec ∷ [])),
      omega (arith, length-append t.buffer.bytes (spelling 2 t.file.id 0 rec), length_spelling 2 t.file.id 0 rec) ∙ sym (ap end_of (grown l.steps) ∙ end_snoc (history_of l.steps) (placed_behind t rec)),
    )

-- the step was noted
pub valid_rolled : (past : Option Past) (moment : ℕ) (lists lists' : Option Lists) (room room' : ℕ) (config : Config) (table table' : TxState) (pool : PoolOf) (t : Tail) (base : List Placed) (n tx : ℕ) (given : Option ℕ) → slice_get (rolled_back base) n ≡ Some tx → tx < 2 ^ 64 → IsValid (rolling base n) past moment lists room config table pool t
    → end_of_tail t + 18 ≤ config.file_size → given ≡ None → ((base : List Placed) (steps : List Step) (x : Step) → Follows table base steps → IsAccepted base steps (Rollback tx) t.file.id x → Follows table' base (steps ++ x ∷ []))
    → lists' ≡ option_map (with_step (record { seat = 0; number = n + 1; command = Rollback tx; answer = Done (Appended t.appended); placed = Some (placed_behind t (rec.Rollback tx)) })) lists → 1 ≤ room'
    → IsValid (rolling base (n + 1)) past moment lists' room' config table' pool (with_put 0 (Some (rec.Rollback tx)) t)
valid_rolled past moment lists lists' room room' config table table' pool t base n tx given there number v fits told goes noted more =
    let p = v.sound.parts in
    let x : Step = record { seat = 0; number = n + 1; command = Rollback tx; answer = Done (Appended t.appended); placed = Some (placed_behind t (rec.Rollback tx)) } in
    let accepts = accepts_next past moment lists room config table pool t base n tx there v in
    let next = behind_at (rolled_back base) n tx there in
    valid_accepted past config table pool t (Rollback tx) 0 (n + 1) (rolling base n) (rolling base (n + 1)) moment lists lists' room room' 0 table' given (Some (rec.Rollback tx)) None v
    (refusals_are table p.base p.steps p.follows (Rollback tx)) (refused_spent config (refusal_in table (Rollback tx)) None tx v.ranges accepts) refl told number fits (λ no. absurd cc)
    (λ x accepted. goes p.base p.steps x p.follows accepted) (rolls_more p.base base n p.steps x tx next.0 next.1 (record { seat = refl; number = refl; command = refl }) (placed_behind t (rec.Rollback tx)) refl v.opening) noted more

-- ---- an opening that failed

-- its steps are a front of its rollbacks, and each receipt is kept
pub rolled_safe : (past : Option Past) (moment : ℕ) (lists : Option Lists) (room : ℕ) (config : Config) (table : TxState) (pool : PoolOf) (t : Tail) (base : List Placed) (n : ℕ) → IsValid (rolling base n) past moment lists room config table pool t
    → IfSome lists (λ l. IsCrashSafe past moment config.user_version l × AreLegalOfRefused l.base l.steps config)
rolled_safe past moment None room config table pool t base n v = tt
rolled_safe past moment (Some l) room config table pool t base n v =
    let p = v.sound.parts in (
      valid_safe (rolling base n) past moment (Some l) room config table pool t v,
      subst (λ (b : List Placed). AreLegalOfRefused b l.steps config) (sym v.sound.told.base) (subst (λ (ss : List Step). AreLegalOfRefused p.base ss config) (sym v.sound.told.same) (record { each = p.each; opening = v.opening.2 })),
    )
