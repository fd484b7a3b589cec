-- One line of a replay, through the engine.
use Rattle.std.proofs.Common.{◌≡◌, inl, inr, ℕ, ◌+◌, ◌-◌, ◌<◌, ◌≤◌, Bool, true, false, cond, eqb, ltb, List, [], ◌∷◌, ◌++◌, length, Option, None, Some, refl, sym, ap, subst, ◌∙◌, arith}
use Rattle.std.specs.Prelude.{IfOk, IfSome, max, option_map, ◌||◌, ◌↔◌, Result, Ok, Err}
use Rattle.std.specs.List.{list_any}
use Rattle.std.proofs.lemmas.Bool.{eq-eqb, leb-true, ltb-true, ltb-false}
use Rattle.amq_model.specs.declared.record.Record.TheVariants as r
use Rattle.amq_model.specs.declared.record.Placed.{Placed}
use Rattle.amq_model.specs.RecordAt.{len_of}
use Rattle.amq_model.specs.declared.command.Command.{Command}
use Rattle.amq_model.specs.declared.command.Command.TheVariants as c
use Rattle.amq_model.specs.declared.command.Reply.{Reply}
use Rattle.amq_model.specs.declared.command.Reply.TheVariants.{Appended, Begun, Durable}
use Rattle.amq_model.specs.declared.script.Line.{Line}
use Rattle.amq_model.specs.declared.script.Line.TheVariants as l
use Rattle.amq_model.specs.declared.history.Answer.{Answer}
use Rattle.amq_model.specs.declared.history.Answer.TheVariants.{Done, Refused}
use Rattle.amq_model.specs.declared.history.Step.{Step}
use Rattle.amq_model.specs.declared.refusal.Refusal.{Refusal}
use Rattle.amq_model.specs.declared.refusal.Refusal.TheVariants as no
use Rattle.amq_engine.specs.declared.chronicle.Kept.{Kept}
use Rattle.amq_engine.specs.declared.chronicle.Receipted.{Receipted}
use Rattle.amq_engine.specs.Lists.{Lists, with_step, with_receipt}
use Rattle.amq_engine.specs.Receipts.{IsLastCount, EndsWith}
use Rattle.amq_model.specs.declared.config.Config.{Config}
use Rattle.amq_model.specs.Calls.{Past}
use Rattle.amq_model.specs.Legal.{AreLegalFrom, IsDone}
use Rattle.amq_engine.specs.Engine.{BehindRefused, IsChronicle, record_len, EngineOf, Notes, is_noted, answer_of, receipted, IsReply, IsCommandAnswer, IsCommandRefusal, flushes, flushed, moves, moved, with_record, behind_command, at_clock, must_flush, behind_tick, is_due}
use Rattle.amq_cli.specs.Offline.{lists_of}
use Rattle.amq_cli.specs.Replay.{IsOld, IsNotedBy, IsFlushCount, IsTickCount, AreCounted, steps_behind, rolled, IsTicked, is_begin, number_behind, Answered, sent, commanded, counted, placed_at, ticked, clock_of, IsReceipted, IsLineAnswer}
use Rattle.amq_cli.specs.Owed.{IsOwedSoFar}
use Rattle.amq_cli.specs.Playing.{Grows, HasNoStep, AreNumbers, AreSteps, IsOwing, IsPlaying}
use Rattle.amq_cli.proofs.Owing.{len_or, behind_numbers, behind_end, last_len, last_none, flushes_first, owing_line, owing_flushed, owing_step, step_counts, many_steps, ticks_snoc, ticks_more, counts_all, flush_counts, no_tick, noted_by}
use Rattle.amq_cli.proofs.Playing.{numbers_flushed, numbers_appended, numbers_answered, tick_waits, tick_flushes, same_clock, later_clock, one_more_answer, step_more, steps_same, weaker_receipts}

-- ---- what was noted

any_front : (p : Receipted → Bool) (rs : List Receipted) (r : Receipted) → list_any p rs ≡ true → list_any p (rs ++ r ∷ []) ≡ true
any_front p [] r is = absurd cc
any_front p (q ∷ qs) r is = by (p q) refl (any_front p qs r) where
  by : (b : Bool) → p q ≡ b → (list_any p qs ≡ true → list_any p (qs ++ r ∷ []) ≡ true) → (p q || list_any p (qs ++ r ∷ [])) ≡ true
  by true here rest = ap (λ x. x || list_any p (qs ++ r ∷ [])) here
  by false here rest = ap (λ x. x || list_any p (qs ++ r ∷ [])) here ∙ rest (sym (ap (λ x. x || list_any p qs) here) ∙ is)

pub more_receipts : (durable appended : ℕ) (old new : Lists) → Grows durable appended old new → (n : ℕ) → IsReceipted old.receipts n → IsReceipted new.receipts n
more_receipts durable appended old new (inl same) n is = subst (λ rs. IsReceipted rs n) (sym same) is
more_receipts durable appended old new (inr one) n is = subst (λ rs. IsReceipted rs n) (sym one.1) (any_front (λ r. eqb r.durable n) old.receipts one.0 is)

-- each count of a receipt is one still
abbrev Keeps : List Receipted → List Receipted → Type 0
Keeps old new = (n : ℕ) → IsReceipted old n → IsReceipted new n

-- with one receipt more, or none
abbrev with_one : Bool → ℕ → ℕ → Lists → List Receipted
with_one b appended moment old = cond b (old.receipts ++ record { durable = appended; moment = moment; steps = length old.steps } ∷ []) old.receipts

one_keeps : (b : Bool) (appended moment : ℕ) (old : Lists) (new : List Receipted) → new ≡ with_one b appended moment old → Keeps old.receipts new
one_keeps true appended moment old new is n has = subst (λ rs. IsReceipted rs n) (sym is) (any_front (λ r. eqb r.durable n) old.receipts _ has)
one_keeps false appended moment old new is n has = subst (λ rs. IsReceipted rs n) (sym is) has

ends_some : (n : ℕ) (r : Receipted) (rs : List Receipted) → EndsWith n r rs → list_any (λ r. eqb r.durable n) (r ∷ rs) ≡ true
ends_some n r [] ends = ap (λ x. x || false) (eq-eqb r.durable n ends)
ends_some n r (s ∷ ss) ends = by (eqb r.durable n) (ends_some n s ss ends) where
  by : (b : Bool) → list_any (λ r. eqb r.durable n) (s ∷ ss) ≡ true → (b || list_any (λ r. eqb r.durable n) (s ∷ ss)) ≡ true
  by true is = refl
  by false is = is

-- the last count is that of a receipt
pub last_receipted : (n : ℕ) (rs : List Receipted) → IsLastCount n rs → IsReceipted rs n
last_receipted n [] last = absurd last
last_receipted n (r ∷ rs) last = ends_some n r rs last

-- a flush, or none, and no step
pub no_step : (b : Bool) (durable appended moment : ℕ) (old new : Lists) → (b ≡ true → durable < appended) → Some new ≡ receipted b appended moment (Some old) → HasNoStep durable appended old new
no_step true durable appended moment old new more is = let same : new ≡ with_receipt appended moment old = cc in record { steps = ap (λ (l : Lists). l.steps) same; receipts = inr (record { durable = appended; moment = moment; steps = length old.steps }, ap (λ (l : Lists). l.receipts) same, refl, refl, more refl) }
no_step false durable appended moment old new more is = let same : new ≡ old = cc in record { steps = ap (λ (l : Lists). l.steps) same; receipts = inl (ap (λ (l : Lists). l.receipts) same) }

-- the same lists
pub same_step : (durable appended : ℕ) (old new : Lists) → new ≡ old → HasNoStep durable appended old new
same_step durable appended old new is = record { steps = ap (λ (l : Lists). l.steps) is; receipts = inl (ap (λ (l : Lists). l.receipts) is) }

-- the step that a command noted
pub record IsNoted (number : ℕ) (command : Command) (result : Result Reply Refusal) (b : Bool) (appended moment end : ℕ) (old new : Lists) : Type 0 where
  pub step : Step
  pub steps : new.steps ≡ old.steps ++ step ∷ []
  pub receipts : new.receipts ≡ with_one b appended moment old
  pub stands : IfSome step.placed (λ p. p.place + len_of p.rec ≡ end)
  pub seated : step.seat ≡ 1
  pub numbered : step.number ≡ number
  pub commanded : step.command ≡ command
  pub answered : step.answer ≡ answer_of result

-- the step of a command
abbrev step_of : ℕ → Command → Answer → Option Placed → Step
step_of number command answer placed = record { seat = 1; number = number; command = command; answer = answer; placed = placed }

pub noted : {file end : ℕ} (number : ℕ) (command : Command) (result : Result Reply Refusal) (b : Bool) (appended moment : ℕ) (old new : Lists) → is_noted result ≡ true → Notes 1 number command result file end (receipted b appended moment (Some old)) (Some new) → IsNoted number command result b appended moment end old new
noted {file} {end} number command result b appended moment old new taken notes = by b refl where
  is : Some new ≡ option_map (with_step (step_of number command (answer_of result) notes.placed)) (receipted b appended moment (Some old))
  is = notes.is ∙ ap (λ (x : Bool). cond x (option_map (with_step (step_of number command (answer_of result) notes.placed)) (receipted b appended moment (Some old))) (receipted b appended moment (Some old))) taken

  stood : (o : Option Placed) → IfSome o (λ p. (p.file ≡ file) × (p.place + len_of p.rec ≡ end)) → IfSome o (λ p. p.place + len_of p.rec ≡ end)
  stood None is = tt
  stood (Some p) is = is.1

  by : (x : Bool) → b ≡ x → IsNoted number command result b appended moment end old new
  by true here =
      let e : Some new ≡ Some (with_step (step_of number command (answer_of result) notes.placed) (with_receipt appended moment old)) = is ∙ ap (λ (x : Bool). option_map (with_step (step_of number command (answer_of result) notes.placed)) (receipted x appended moment (Some old))) here in
      let same : new ≡ with_step (step_of number command (answer_of result) notes.placed) (with_receipt appended moment old) = cc in
      record { step = step_of number command (answer_of result) notes.placed; steps = ap (λ (l : Lists). l.steps) same; receipts = ap (λ (l : Lists). l.receipts) same ∙ sym (ap (λ (x : Bool). with_one x appended moment old) here); stands = stood notes.placed notes.stands; seated = refl; numbered = refl; commanded = refl; answered = refl }
  by false here =
      let e : Some new ≡ Some (with_step (step_of number command (answer_of result) notes.placed) old) = is ∙ ap (λ (x : Bool). option_map (with_step (step_of number command (answer_of result) notes.placed)) (receipted x appended moment (Some old))) here in
      let same : new ≡ with_step (step_of number command (answer_of result) notes.placed) old = cc in
      record { step = step_of number command (answer_of result) notes.placed; steps = ap (λ (l : Lists). l.steps) same; receipts = ap (λ (l : Lists). l.receipts) same ∙ sym (ap (λ (x : Bool). with_one x appended moment old) here); stands = stood notes.placed notes.stands; seated = refl; numbered = refl; commanded = refl; answered = refl }

-- a call that notes no step
pub unnoted : {file end : ℕ} (number : ℕ) (command : Command) (result : Result Reply Refusal) (b : Bool) (durable appended moment : ℕ) (old new : Lists) → (b ≡ true → durable < appended) → is_noted result ≡ false → Notes 1 number command result file end (receipted b appended moment (Some old)) (Some new) → HasNoStep durable appended old new
unnoted number command result b durable appended moment old new more ends notes = no_step b durable appended moment old new more (notes.is ∙ ap (λ (x : Bool). cond x (option_map (with_step (step_of number command (answer_of result) notes.placed)) (receipted b appended moment (Some old))) (receipted b appended moment (Some old))) ends)

-- a refusal that is noted is one of the command
pub of_command : (refusal : Refusal) → is_noted (Err refusal) ≡ true → IsCommandAnswer refusal → IsCommandRefusal refusal
of_command (no.Closed call) taken is = absurd cc
of_command (no.Disk call) taken is = absurd cc
of_command no.NoMemory taken is = absurd cc
of_command (no.TooLarge len limit) taken is = is
of_command (no.NoTx tx) taken is = is
of_command (no.TxPrepared tx) taken is = is
of_command (no.Held id tx) taken is = is
of_command (no.AlreadyLive id) taken is = is
of_command (no.NoRecord id) taken is = is
of_command (no.TxNumbersSpent highest) taken is = is
of_command (no.Compacting phase) taken is = is
of_command (no.FileIdsSpent highest) taken is = is

-- a line that sends a command has the command and its answer
said : {number : ℕ} {command : Command} {result : Result Reply Refusal} {b : Bool} {appended moment end : ℕ} {old new : Lists} (answered : List Answered) (line : Line) → sent answered line ≡ Some command → (n : IsNoted number command result b appended moment end old new) → commanded answered (line, Some (answer_of result)) ≡ Some (n.step.command, n.step.answer)
said {number} {command} {result} answered line is n =
    ap (λ (o : Option Command). elim o [ None ↦ None | Some command ↦ option_map (λ answer. (command, answer)) (Some (answer_of result)) ]) is ∙ ap (λ (c : Command). Some (c, answer_of result)) (sym n.commanded) ∙ ap (λ (a : Answer). Some (n.step.command, a)) (sym n.answered)

-- it is no tick
sent_no_tick : (answered : List Answered) (line : Line) (command : Command) (answer : Option Answer) → sent answered line ≡ Some command → ticked (line, answer) ≡ None
sent_no_tick answered (l.Plain given) command answer is = refl
sent_no_tick answered (l.Labelled label given) command answer is = refl
sent_no_tick answered (l.Bind label tx) command answer is = absurd (let e : None ≡ Some command = is in cc)
sent_no_tick answered (l.Tick now) command answer is = absurd (let e : None ≡ Some command = is in cc)
sent_no_tick answered l.Reclaim command answer is = absurd (let e : None ≡ Some command = is in cc)
sent_no_tick answered l.Compact command answer is = absurd (let e : None ≡ Some command = is in cc)
sent_no_tick answered (l.Step steps) command answer is = absurd (let e : None ≡ Some command = is in cc)

-- and any answer will do
sent_answer : (opened timeout : ℕ) (answered : List Answered) (line : Line) (command : Command) (answer : Answer) → sent answered line ≡ Some command → IsLineAnswer opened timeout answered line (Some answer)
sent_answer opened timeout answered (l.Plain given) command answer is = tt
sent_answer opened timeout answered (l.Labelled label given) command answer is = tt
sent_answer opened timeout answered (l.Bind label tx) command answer is = absurd (let e : None ≡ Some command = is in cc)
sent_answer opened timeout answered (l.Tick now) command answer is = absurd (let e : None ≡ Some command = is in cc)
sent_answer opened timeout answered l.Reclaim command answer is = absurd (let e : None ≡ Some command = is in cc)
sent_answer opened timeout answered l.Compact command answer is = absurd (let e : None ≡ Some command = is in cc)
sent_answer opened timeout answered (l.Step steps) command answer is = absurd (let e : None ≡ Some command = is in cc)

-- the place of an append is no count
no_count : (appended : ℕ) (reply : Reply) (count : ℕ) (line : Line) → reply ≡ Appended appended → counted (line, Some (Done reply)) ≡ Some count → ⊥
no_count appended reply count line is counts = let e : None ≡ Some count = sym (ap (λ (r : Reply). counted (line, Some (Done r))) is) ∙ counts in cc

-- a record was appended, so the reply has its place
reply_appended : (appended : ℕ) (command : Command) (reply : Reply) (len : ℕ) → IsReply appended command reply → record_len command ≡ Some len → reply ≡ Appended appended
reply_appended appended (c.Add id user_type body) reply len is some = is
reply_appended appended (c.Update id user_type body) reply len is some = is
reply_appended appended (c.Delete id) reply len is some = is
reply_appended appended (c.AddTx tx id user_type body) reply len is some = is
reply_appended appended (c.UpdateTx tx id user_type body) reply len is some = is
reply_appended appended (c.DeleteTx tx id body) reply len is some = is
reply_appended appended (c.Prepare tx extra) reply len is some = is
reply_appended appended (c.Commit tx) reply len is some = is
reply_appended appended (c.Rollback tx) reply len is some = is
reply_appended appended c.Begin reply len is some = absurd (let e : None ≡ Some len = some in cc)
reply_appended appended c.Flush reply len is some = absurd (let e : None ≡ Some len = some in cc)

-- a command whose reply has a count is a flush, and counts all appends
flush_reply : (appended : ℕ) (command : Command) (reply : Reply) (count : ℕ) (line : Line) → IsReply appended command reply → counted (line, Some (Done reply)) ≡ Some count → (command ≡ c.Flush) × (count ≡ appended)
flush_reply appended c.Flush reply count line is counts = (refl, (let e : Some count ≡ Some appended = sym counts ∙ ap (λ (r : Reply). counted (line, Some (Done r))) is in cc))
flush_reply appended c.Begin (Begun tx) count line is counts = absurd (let e : None ≡ Some count = counts in cc)
flush_reply appended c.Begin (Appended place) count line is counts = absurd is
flush_reply appended c.Begin (Durable n) count line is counts = absurd is
flush_reply appended (c.Add id user_type body) reply count line is counts = absurd (no_count appended reply count line is counts)
flush_reply appended (c.Update id user_type body) reply count line is counts = absurd (no_count appended reply count line is counts)
flush_reply appended (c.Delete id) reply count line is counts = absurd (no_count appended reply count line is counts)
flush_reply appended (c.AddTx tx id user_type body) reply count line is counts = absurd (no_count appended reply count line is counts)
flush_reply appended (c.UpdateTx tx id user_type body) reply count line is counts = absurd (no_count appended reply count line is counts)
flush_reply appended (c.DeleteTx tx id body) reply count line is counts = absurd (no_count appended reply count line is counts)
flush_reply appended (c.Prepare tx extra) reply count line is counts = absurd (no_count appended reply count line is counts)
flush_reply appended (c.Commit tx) reply count line is counts = absurd (no_count appended reply count line is counts)
flush_reply appended (c.Rollback tx) reply count line is counts = absurd (no_count appended reply count line is counts)

-- nothing more waits
no_more : (waiting : ℕ) (placed : Option Placed) → placed ≡ None → waiting ≡ waiting + len_or (option_map (λ (p : Placed). len_of p.rec) placed)
no_more waiting placed none = omega (arith, ap (λ (o : Option Placed). len_or (option_map (λ (p : Placed). len_of p.rec) o)) none)

-- a buffer that is due has a first append, which is old
due_since : (now timeout : ℕ) (since : Option ℕ) → is_due now timeout since ≡ true → (moment : ℕ) × (since ≡ Some moment) × (timeout ≤ now - moment)
due_since now timeout None is = absurd cc
due_since now timeout (Some moment) is = (moment, refl, leb-true _ _ is)

-- where something waits not all is durable
waits_more : (since : Option ℕ) (moment durable appended : ℕ) → since ≡ Some moment → ((since ≡ None) ↔ (durable ≡ appended)) → durable ≤ appended → durable < appended
waits_more since moment durable appended some waits most = by (ltb durable appended) refl where
  by : (b : Bool) → ltb durable appended ≡ b → durable < appended
  by true lt = ltb-true _ _ lt
  by false ge = absurd (let same : durable ≡ appended = omega (arith, most, ltb-false _ _ ge) in let e : None ≡ Some moment = sym (waits.1 same) ∙ some in cc)

-- ---- lines

module _ {D : Type 0} (timeout : ℕ) (answered : List Answered) (number : ℕ) (old new : EngineOf D Kept) (was : IsPlaying timeout answered number old) where
  -- the numbers of this engine, with the receipts that there are now
  abbrev Numbers : List Answered → EngineOf D Kept → Type 0
  Numbers xs e = AreNumbers was.opened xs new.chronicle.receipts.items e.clock e.appended e.durable e.since

  -- the buffer written out first, or not
  first_flushed : (b : Bool) → Keeps old.chronicle.receipts.items new.chronicle.receipts.items → IsReceipted new.chronicle.receipts.items (cond b (flushed old) old).durable → Numbers answered (cond b (flushed old) old)
  first_flushed true grows last = numbers_flushed was.opened answered old.chronicle.receipts.items new.chronicle.receipts.items old.clock old.appended old.durable old.since was.numbers grows last
  first_flushed false grows last = weaker_receipts was.opened answered old.chronicle.receipts.items new.chronicle.receipts.items old.clock old.appended old.durable old.since was.numbers grows last

  -- the numbers are those of an engine of which no more is said
  as_new : (xs : List Answered) (e : EngineOf D Kept) → new ≡ record e { disk = new.disk; chronicle = new.chronicle } → Numbers xs e → Numbers xs new
  as_new xs e is n = subst (Numbers xs) (sym is) n

  -- behind a move to the first of these files, or to a new one
  abbrev Gone : List ℕ → EngineOf D Kept
  Gone ids = elim ids [
    | [] ↦ record (flushed old) { file = old.highest + 1; end = 16; highest = old.highest + 1 }
    | id ∷ ids ↦ record (flushed old) { file = id; end = 16; free = ids }
  ]

  -- behind a move, or behind the buffer written out, or as before
  abbrev Ready : Bool → Bool → EngineOf D Kept
  Ready m b = cond m (moved old) (cond b (flushed old) old)

  -- one append more
  record_numbers : (x : Answered) (len : ℕ) (m b : Bool) → ticked x ≡ None → placed_at x ≡ Some old.appended → counted x ≡ None → Keeps old.chronicle.receipts.items new.chronicle.receipts.items → IsReceipted new.chronicle.receipts.items (Ready m b).durable
      → Numbers (answered ++ x ∷ []) (with_record (Some len) (Ready m b))
  record_numbers x len true b no_tick at no_count grows last = by old.free last where
    by : (ids : List ℕ) → IsReceipted new.chronicle.receipts.items (Gone ids).durable → Numbers (answered ++ x ∷ []) (with_record (Some len) (Gone ids))
    by [] last = numbers_appended was.opened answered x _ old.clock old.appended old.appended None no_tick at no_count (first_flushed true grows last)
    by (id ∷ ids) last = numbers_appended was.opened answered x _ old.clock old.appended old.appended None no_tick at no_count (first_flushed true grows last)
  record_numbers x len false true no_tick at no_count grows last = numbers_appended was.opened answered x _ old.clock old.appended old.appended None no_tick at no_count (first_flushed true grows last)
  record_numbers x len false false no_tick at no_count grows last = numbers_appended was.opened answered x _ old.clock old.appended old.durable old.since no_tick at no_count (first_flushed false grows last)

  -- a command that was accepted
  command_numbers : (line : Line) (command : Command) (reply : Reply) → ticked (line, Some (Done reply)) ≡ None → IsReply old.appended command reply → Keeps old.chronicle.receipts.items new.chronicle.receipts.items → IsReceipted new.chronicle.receipts.items (behind_command command old).durable
      → Numbers (answered ++ (line, Some (Done reply)) ∷ []) (behind_command command old)
  command_numbers line command reply no_tick is grows last = by command is last where
    appended : (command : Command) (len : ℕ) → reply ≡ Appended old.appended → IsReceipted new.chronicle.receipts.items (Ready (moves old command) (flushes old.config.buffer_size old.waiting command)).durable
        → Numbers (answered ++ (line, Some (Done reply)) ∷ []) (with_record (Some len) (Ready (moves old command) (flushes old.config.buffer_size old.waiting command)))
    appended command len is last = record_numbers (line, Some (Done reply)) len (moves old command) (flushes old.config.buffer_size old.waiting command) no_tick (ap (λ (r : Reply). placed_at (line, Some (Done r))) is) (ap (λ (r : Reply). counted (line, Some (Done r))) is) grows last

    of_begin : (r : Reply) → IsReply old.appended c.Begin r → (placed_at (line, Some (Done r)) ≡ None) × (counted (line, Some (Done r)) ≡ None)
    of_begin (Begun tx) is = (refl, refl)
    of_begin (Appended place) is = absurd is
    of_begin (Durable count) is = absurd is

    by : (command : Command) → IsReply old.appended command reply → IsReceipted new.chronicle.receipts.items (behind_command command old).durable → Numbers (answered ++ (line, Some (Done reply)) ∷ []) (behind_command command old)
    by (c.Add id user_type body) is last = appended (c.Add id user_type body) (len_of (r.Add id user_type body)) is last
    by (c.Update id user_type body) is last = appended (c.Update id user_type body) (len_of (r.Update id user_type body)) is last
    by (c.Delete id) is last = appended (c.Delete id) (len_of (r.Delete id)) is last
    by (c.AddTx tx id user_type body) is last = appended (c.AddTx tx id user_type body) (len_of (r.AddTx tx id user_type body)) is last
    by (c.UpdateTx tx id user_type body) is last = appended (c.UpdateTx tx id user_type body) (len_of (r.UpdateTx tx id user_type body)) is last
    by (c.DeleteTx tx id body) is last = appended (c.DeleteTx tx id body) (len_of (r.DeleteTx tx id body)) is last
    by (c.Prepare tx extra) is last = appended (c.Prepare tx extra) (len_of (r.Prepare tx 0 extra)) is last
    by (c.Commit tx) is last = appended (c.Commit tx) (len_of (r.Commit tx 0)) is last
    by (c.Rollback tx) is last = appended (c.Rollback tx) (len_of (r.Rollback tx)) is last
    by c.Begin is last =
        let none = of_begin reply is in
        numbers_answered was.opened answered (line, Some (Done reply)) _ old.clock old.clock old.appended old.durable old.since (was.numbers.time ∙ sym (same_clock answered (line, Some (Done reply)) no_tick)) none.0 (inl none.1) (first_flushed false grows last)
    by c.Flush is last =
        numbers_answered was.opened answered (line, Some (Done reply)) _ old.clock old.clock old.appended old.appended None (was.numbers.time ∙ sym (same_clock answered (line, Some (Done reply)) no_tick)) (ap (λ (r : Reply). placed_at (line, Some (Done r))) is) (inr (ap (λ (r : Reply). counted (line, Some (Done r))) is)) (first_flushed true grows last)

  -- whether the receipts grew, and so does the durable count
  abbrev grew : Bool
  grew = ltb old.durable new.durable

  -- what is owed behind a command that was accepted
  accepted_owing : {end moment : ℕ} (line : Line) (command : Command) (reply : Reply) (past : Option Past) (now : ℕ) → IsReply old.appended command reply → new ≡ record (behind_command command old) { disk = new.disk; chronicle = new.chronicle } → end ≡ new.end
      → (n : IsNoted number command (Ok reply) grew old.appended moment end (lists_of old.chronicle) (lists_of new.chronicle)) → IsChronicle past now new.config new.appended new.durable (lists_of new.chronicle)
      → IsOwing was.opened (answered ++ (line, Some (Done reply)) ∷ []) old.config (lists_of new.chronicle) new.appended new.durable new.waiting new.end
  accepted_owing {end} {moment} line command reply past now is went ends n chronicle =
      let numbers = behind_numbers old command in
      let m : Bool = moves old command || flushes old.config.buffer_size old.waiting command in
      let len : record_len command ≡ option_map (λ (p : Placed). len_of p.rec) n.step.placed =
      ap record_len (sym n.commanded) ∙ last_len new.chronicle.base new.config old.chronicle.steps.items n.step reply n.answered (subst (AreLegalFrom new.chronicle.base new.config []) n.steps chronicle.legal.each) in
      owing_step was.opened answered (line, Some (Done reply)) old.config (lists_of old.chronicle) old.appended old.durable old.waiting old.end was.owing n.step m moment (lists_of new.chronicle) new.appended new.durable new.waiting new.end was.numbers.most n.seated n.steps n.receipts
      (ap (λ (e : EngineOf D Kept). e.durable) went ∙ numbers.0)
      (ap (λ (e : EngineOf D Kept). e.waiting) went ∙ numbers.1 ∙ ap (λ (o : Option ℕ). cond m 0 old.waiting + len_or o) len)
      (λ none. ap (λ (e : EngineOf D Kept). e.end) went ∙ behind_end old command (len ∙ ap (option_map (λ (p : Placed). len_of p.rec)) none))
      (subst (λ (k : ℕ). IfSome n.step.placed (λ p. p.place + len_of p.rec ≡ k)) ends n.stands)
      chronicle.history
      (λ flush. flushes_first old old.durable old.chronicle.steps.items n.step command n.commanded (subst IsDone (sym n.answered) tt) was.owing.waits was.owing.ends flush)
      chronicle.last
      (λ p placed. ap (λ (r : Reply). placed_at (line, Some (Done r))) (reply_appended old.appended command reply (len_of p.rec) is (len ∙ ap (option_map (λ (p : Placed). len_of p.rec)) placed)))

  -- the ticks before a step count what they counted
  step_ticks : {b : Bool} {end moment : ℕ} (x : Answered) (command : Command) (result : Result Reply Refusal) → ticked x ≡ None → ((count : ℕ) → counted x ≡ Some count → IsFlushCount (length (rolled old.chronicle.steps.items)) answered x count new.chronicle.receipts.items) → IsNoted number command result b old.appended moment end (lists_of old.chronicle) (lists_of new.chronicle)
      → AreCounted timeout (length (rolled new.chronicle.steps.items)) new.chronicle.receipts.items [] (answered ++ x ∷ [])
  step_ticks {b} {end} {moment} x command result none flush n =
      step_counts timeout answered x (lists_of old.chronicle) (lists_of new.chronicle) n.step b old.appended moment n.seated n.steps n.receipts (no_tick timeout (length (rolled old.chronicle.steps.items)) new.chronicle.receipts.items answered x none flush) many was.counts
    where
      many : steps_behind (length (rolled old.chronicle.steps.items)) answered ≤ length old.chronicle.steps.items
      many = omega (arith, many_steps was.opened number answered old.chronicle.steps.items was.steps)

  -- a flush that was accepted counts what the last receipt before its step does
  accepted_flush : {end moment : ℕ} (line : Line) (command : Command) (reply : Reply) → IsReply old.appended command reply → new ≡ record (behind_command command old) { disk = new.disk; chronicle = new.chronicle } → IsLastCount new.durable new.chronicle.receipts.items
      → IsNoted number command (Ok reply) grew old.appended moment end (lists_of old.chronicle) (lists_of new.chronicle) → (count : ℕ) → counted (line, Some (Done reply)) ≡ Some count → IsFlushCount (length (rolled old.chronicle.steps.items)) answered (line, Some (Done reply)) count new.chronicle.receipts.items
  accepted_flush {end} {moment} line command reply is went last n count counts =
      let flush = flush_reply old.appended command reply count line is counts in
      let all : new.durable ≡ old.appended =
      ap (λ (e : EngineOf D Kept). e.durable) went ∙ (behind_numbers old command).0 ∙ ap (λ (k : Command). cond (moves old k || flushes old.config.buffer_size old.waiting k) old.appended old.durable) flush.0 in
      flush_counts (IsOwedSoFar old.config answered old.chronicle.steps.items) (length (rolled old.chronicle.steps.items)) answered (line, Some (Done reply)) (lists_of old.chronicle) old.durable old.appended count moment grew (many_steps was.opened number answered old.chronicle.steps.items was.steps) was.owing.owed was.owing.last was.owing.history
      (λ more. omega (arith, ltb-true _ _ more, all)) new.chronicle.receipts.items n.receipts (subst (λ (k : ℕ). IsLastCount k new.chronicle.receipts.items) (all ∙ sym flush.1) last)

  pub command_accepted : {file : ℕ} (line : Line) (command : Command) (reply : Reply) (moment : ℕ) (past : Option Past) (now : ℕ) → sent answered line ≡ Some command → IsReply old.appended command reply → new ≡ record (behind_command command old) { disk = new.disk; chronicle = new.chronicle }
      → Notes 1 number command (Ok reply) file new.end (receipted grew old.appended moment (Some (lists_of old.chronicle))) (Some (lists_of new.chronicle)) → IsChronicle past now new.config new.appended new.durable (lists_of new.chronicle) → IsPlaying timeout (answered ++ (line, Some (Done reply)) ∷ []) (number + 1) new
  command_accepted line command reply moment past now sends is went notes chronicle =
      let x : Answered = (line, Some (Done reply)) in
      let n = noted number command (Ok reply) grew old.appended moment (lists_of old.chronicle) (lists_of new.chronicle) refl notes in
      let durable : new.durable ≡ (behind_command command old).durable = ap (λ (e : EngineOf D Kept). e.durable) went in
      let config : new.config ≡ old.config = ap (λ (e : EngineOf D Kept). e.config) went ∙ (behind_numbers old command).2 in
      let keeps = one_keeps grew old.appended moment (lists_of old.chronicle) new.chronicle.receipts.items n.receipts in
      record {
        opened = was.opened;
        numbers = as_new _ (behind_command command old) went (command_numbers line command reply (sent_no_tick answered line command (Some (Done reply)) sends) is keeps (subst (IsReceipted new.chronicle.receipts.items) durable (last_receipted new.durable new.chronicle.receipts.items chronicle.last)));
        steps = subst (λ ss. AreSteps was.opened (answered ++ x ∷ []) ss (number + 1)) (sym n.steps) (step_more was.opened answered old.chronicle.steps.items number n.step x was.steps n.seated n.numbered (said answered line sends n));
        answers = one_more_answer was.opened timeout answered x was.answers (sent_answer was.opened timeout answered line command (Done reply) sends);
        time = was.time ∙ ap (λ (k : Config). k.buffer_timeout) (sym config);
        counts = step_ticks x command (Ok reply) (sent_no_tick answered line command (Some (Done reply)) sends) (accepted_flush line command reply is went chronicle.last n) n;
        owing = subst (λ (k : Config). IsOwing was.opened (answered ++ x ∷ []) k (lists_of new.chronicle) new.appended new.durable new.waiting new.end) (sym config) (accepted_owing line command reply past now is went refl n chronicle);
      }

  pub command_refused : {file : ℕ} (line : Line) (command : Command) (refusal : Refusal) (moment : ℕ) (past : Option Past) (now : ℕ) → sent answered line ≡ Some command → is_noted (Err refusal) ≡ true → new ≡ record old { chronicle = new.chronicle }
      → Notes 1 number command (Err refusal) file new.end (receipted grew old.appended moment (Some (lists_of old.chronicle))) (Some (lists_of new.chronicle)) → IsChronicle past now new.config new.appended new.durable (lists_of new.chronicle) → IsPlaying timeout (answered ++ (line, Some (Refused refusal)) ∷ []) (number + 1) new
  command_refused line command refusal moment past now sends taken went notes chronicle =
      let n = noted number command (Err refusal) grew old.appended moment (lists_of old.chronicle) (lists_of new.chronicle) taken notes in
      let x : Answered = (line, Some (Refused refusal)) in
      let config : new.config ≡ old.config = ap (λ (e : EngineOf D Kept). e.config) went in
      let none : n.step.placed ≡ None = last_none new.chronicle.base new.config old.chronicle.steps.items n.step refusal n.answered (subst (AreLegalFrom new.chronicle.base new.config []) n.steps chronicle.legal.each) in
      let keeps = one_keeps grew old.appended moment (lists_of old.chronicle) new.chronicle.receipts.items n.receipts in
      record {
        opened = was.opened;
        numbers = subst (Numbers (answered ++ x ∷ [])) (sym went)
            (numbers_answered was.opened answered x _ old.clock old.clock old.appended old.durable old.since (was.numbers.time ∙ sym (same_clock answered x (sent_no_tick answered line command (Some (Refused refusal)) sends))) refl (inl refl) (first_flushed false keeps (keeps old.durable was.numbers.last)));
        steps = subst (λ ss. AreSteps was.opened (answered ++ x ∷ []) ss (number + 1)) (sym n.steps) (step_more was.opened answered old.chronicle.steps.items number n.step x was.steps n.seated n.numbered (said answered line sends n));
        answers = one_more_answer was.opened timeout answered x was.answers (sent_answer was.opened timeout answered line command (Refused refusal) sends);
        time = was.time ∙ ap (λ (k : Config). k.buffer_timeout) (sym config);
        counts = step_ticks x command (Err refusal) (sent_no_tick answered line command (Some (Refused refusal)) sends) (λ count counts. absurd (let e : None ≡ Some count = counts in cc)) n;
        owing = subst (λ (k : Config). IsOwing was.opened (answered ++ x ∷ []) k (lists_of new.chronicle) new.appended new.durable new.waiting new.end) (sym config)
            (owing_step was.opened answered x old.config (lists_of old.chronicle) old.appended old.durable old.waiting old.end was.owing n.step false moment (lists_of new.chronicle) new.appended new.durable new.waiting new.end was.numbers.most n.seated n.steps n.receipts
            (ap (λ (e : EngineOf D Kept). e.durable) went)
            (ap (λ (e : EngineOf D Kept). e.waiting) went ∙ no_more old.waiting n.step.placed none)
            (λ none. ap (λ (e : EngineOf D Kept). e.end) went)
            n.stands
            chronicle.history
            (λ flush. absurd cc)
            chronicle.last
            (λ p placed. absurd (let e : None ≡ Some p = sym none ∙ placed in cc)));
      }

  module _ (now count : ℕ) where
    abbrev x : Answered
    x = (l.Tick now, Some (Done (Durable count)))

    pub tick_answered : (moment : ℕ) (past : Option Past) (at : ℕ) → timeout ≡ old.config.buffer_timeout → count ≡ new.durable → new ≡ record (behind_tick now old) { disk = new.disk; chronicle = new.chronicle }
        → Some (lists_of new.chronicle) ≡ receipted (must_flush (at_clock now old)) old.appended moment (Some (lists_of old.chronicle)) → IsChronicle past at new.config new.appended new.durable (lists_of new.chronicle) → IsPlaying timeout (answered ++ x ∷ []) number new
    tick_answered moment past at time is went receipt chronicle = by (must_flush (at_clock now old)) refl where
      later : max old.clock now ≡ clock_of (answered ++ x ∷ [])
      later = ap (λ k. max k now) was.numbers.time ∙ sym (later_clock answered x now refl)

      receipted_now : IsReceipted new.chronicle.receipts.items new.durable
      receipted_now = last_receipted new.durable new.chronicle.receipts.items chronicle.last

      many : length old.chronicle.steps.items ≡ steps_behind (length (rolled old.chronicle.steps.items)) answered
      many = many_steps was.opened number answered old.chronicle.steps.items was.steps

      -- the ticks before it count what they did, and this one what the last receipt counts
      counts : (receipts : List Receipted) → new.chronicle.steps.items ≡ old.chronicle.steps.items → new.chronicle.receipts.items ≡ receipts → AreCounted timeout (length (rolled old.chronicle.steps.items)) receipts [] answered
          → IsOwing was.opened (answered ++ x ∷ []) old.config (lists_of new.chronicle) new.appended new.durable new.waiting new.end → AreCounted timeout (length (rolled new.chronicle.steps.items)) new.chronicle.receipts.items [] (answered ++ x ∷ [])
      counts receipts steps same all owing =
          let k = length (rolled old.chronicle.steps.items) in
          let O = IsOwedSoFar old.config (answered ++ x ∷ []) new.chronicle.steps.items in
          let tick : IsTickCount old.config.buffer_timeout (length (rolled new.chronicle.steps.items)) answered now new.durable new.chronicle.receipts.items =
          counts_all (IsNotedBy old.config.buffer_timeout (length (rolled new.chronicle.steps.items)) answered now) O new.chronicle.steps.items (steps_behind (length (rolled new.chronicle.steps.items)) answered) new.durable new.chronicle.receipts.items
          (λ n r o. noted_by old.config answered x now new.chronicle.steps.items refl (subst (λ (ss : List Step). length ss ≡ steps_behind (length (rolled ss)) answered) (sym steps) many) n r o) owing.owed chronicle.last in
          subst (λ (ss : List Step). AreCounted timeout (length (rolled ss)) new.chronicle.receipts.items [] (answered ++ x ∷ [])) (sym steps)
          (ticks_snoc timeout k new.chronicle.receipts.items answered x (subst (λ (rs : List Receipted). AreCounted timeout k rs [] answered) (sym same) all)
          (subst (λ (n : ℕ). IsTickCount timeout k answered now n new.chronicle.receipts.items) (sym is) (subst (λ (t : ℕ). IsTickCount t k answered now new.durable new.chronicle.receipts.items) (sym time) (subst (λ (ss : List Step). IsTickCount old.config.buffer_timeout (length (rolled ss)) answered now new.durable new.chronicle.receipts.items) steps tick))))

      by : (b : Bool) → must_flush (at_clock now old) ≡ b → IsPlaying timeout (answered ++ x ∷ []) number new
      by true here =
          let gone : new ≡ record (flushed (at_clock now old)) { disk = new.disk; chronicle = new.chronicle } = went ∙ ap (λ b. record (cond b (flushed (at_clock now old)) (at_clock now old)) { disk = new.disk; chronicle = new.chronicle }) here in
          let all : count ≡ old.appended = is ∙ ap (λ (e : EngineOf D Kept). e.durable) gone in
          let lists : lists_of new.chronicle ≡ with_receipt old.appended moment (lists_of old.chronicle) = let e : Some (lists_of new.chronicle) ≡ receipted true old.appended moment (Some (lists_of old.chronicle)) = receipt ∙ ap (λ (b : Bool). receipted b old.appended moment (Some (lists_of old.chronicle))) here in cc in
          let steps : new.chronicle.steps.items ≡ old.chronicle.steps.items = ap (λ (k : Lists). k.steps) lists in
          let r : Receipted = record { durable = old.appended; moment = moment; steps = length old.chronicle.steps.items } in
          let grown : new.chronicle.receipts.items ≡ old.chronicle.receipts.items ++ r ∷ [] = ap (λ (k : Lists). k.receipts) lists in
          let keeps = one_keeps true old.appended moment (lists_of old.chronicle) new.chronicle.receipts.items grown in
          let config : new.config ≡ old.config = ap (λ (e : EngineOf D Kept). e.config) gone in
          let due = due_since (max old.clock now) old.config.buffer_timeout old.since here in
          let more : old.durable < old.appended = waits_more old.since due.0 old.durable old.appended due.1 was.numbers.waits was.numbers.most in
          let first = was.owing.each old.durable was.numbers.least more in
          let old_enough : IsOld old.config.buffer_timeout answered now old.durable = record {
            front = first.front;
            line = first.line;
            back = first.back;
            is = first.is;
            placed = first.placed;
            old = omega (arith, due.2, was.numbers.time, was.numbers.first due.0 due.1 first.front first.line first.back first.is first.placed);
          } in
          let owed : IsOwedSoFar old.config (answered ++ x ∷ []) old.chronicle.steps.items old.durable r = inr (inr (record { before = answered; now = now; answer = Some (Done (Durable count)); behind = []; is = refl; place = many; old = old_enough })) in
          let owing : IsOwing was.opened (answered ++ x ∷ []) old.config (lists_of new.chronicle) old.appended old.appended 0 old.end =
          owing_flushed was.opened answered x old.config (lists_of old.chronicle) old.appended old.durable old.waiting old.end was.owing moment (lists_of new.chronicle) more steps (grown, owed) in
          let owing_new : IsOwing was.opened (answered ++ x ∷ []) old.config (lists_of new.chronicle) new.appended new.durable new.waiting new.end =
          subst (λ (e : EngineOf D Kept). IsOwing was.opened (answered ++ x ∷ []) old.config (lists_of new.chronicle) e.appended e.durable e.waiting e.end) (sym gone) owing in
          record {
            opened = was.opened;
            numbers = subst (Numbers (answered ++ x ∷ [])) (sym gone) (numbers_answered was.opened answered x _ old.clock (max old.clock now) old.appended old.appended None later refl (inr (ap Some all)) (first_flushed true keeps (subst (IsReceipted new.chronicle.receipts.items) (ap (λ (e : EngineOf D Kept). e.durable) gone) receipted_now)));
            steps = subst (λ ss. AreSteps was.opened (answered ++ x ∷ []) ss number) (sym steps) (steps_same was.opened answered old.chronicle.steps.items number x was.steps refl);
            answers = one_more_answer was.opened timeout answered x was.answers (subst (λ (n : ℕ). IsTicked was.opened timeout answered now n) (sym all) (tick_flushes was.opened timeout answered _ old.clock old.appended old.durable now old.since was.numbers));
            time = was.time ∙ ap (λ (k : Config). k.buffer_timeout) (sym config);
            counts = counts (old.chronicle.receipts.items ++ r ∷ []) steps grown (ticks_more timeout (length (rolled old.chronicle.steps.items)) old.chronicle.receipts.items r answered (omega (arith, many)) was.counts) owing_new;
            owing = subst (λ (k : Config). IsOwing was.opened (answered ++ x ∷ []) k (lists_of new.chronicle) new.appended new.durable new.waiting new.end) (sym config) owing_new;
          }
      by false here =
          let gone : new ≡ record (at_clock now old) { disk = new.disk; chronicle = new.chronicle } = went ∙ ap (λ b. record (cond b (flushed (at_clock now old)) (at_clock now old)) { disk = new.disk; chronicle = new.chronicle }) here in
          let same : count ≡ old.durable = is ∙ ap (λ (e : EngineOf D Kept). e.durable) gone in
          let lists : lists_of new.chronicle ≡ lists_of old.chronicle = let e : Some (lists_of new.chronicle) ≡ receipted false old.appended moment (Some (lists_of old.chronicle)) = receipt ∙ ap (λ (b : Bool). receipted b old.appended moment (Some (lists_of old.chronicle))) here in cc in
          let steps : new.chronicle.steps.items ≡ old.chronicle.steps.items = ap (λ (k : Lists). k.steps) lists in
          let still : new.chronicle.receipts.items ≡ old.chronicle.receipts.items = ap (λ (k : Lists). k.receipts) lists in
          let keeps = one_keeps false old.appended moment (lists_of old.chronicle) new.chronicle.receipts.items still in
          let config : new.config ≡ old.config = ap (λ (e : EngineOf D Kept). e.config) gone in
          let owing_new : IsOwing was.opened (answered ++ x ∷ []) old.config (lists_of new.chronicle) new.appended new.durable new.waiting new.end =
          subst (λ (e : EngineOf D Kept). IsOwing was.opened (answered ++ x ∷ []) old.config (lists_of new.chronicle) e.appended e.durable e.waiting e.end) (sym gone)
          (subst (λ (k : Lists). IsOwing was.opened (answered ++ x ∷ []) old.config k old.appended old.durable old.waiting old.end) (sym lists) (owing_line was.opened answered x old.config (lists_of old.chronicle) old.appended old.durable old.waiting old.end was.owing)) in
          record {
            opened = was.opened;
            numbers = subst (Numbers (answered ++ x ∷ [])) (sym gone) (numbers_answered was.opened answered x _ old.clock (max old.clock now) old.appended old.durable old.since later refl (inr (ap Some same)) (first_flushed false keeps (keeps old.durable was.numbers.last)));
            steps = subst (λ ss. AreSteps was.opened (answered ++ x ∷ []) ss number) (sym steps) (steps_same was.opened answered old.chronicle.steps.items number x was.steps refl);
            answers = one_more_answer was.opened timeout answered x was.answers (subst (λ (n : ℕ). IsTicked was.opened timeout answered now n) (sym same) (tick_waits was.opened timeout answered _ old.clock old.appended old.durable now old.since (ap (λ (t : ℕ). is_due (max old.clock now) t old.since) time ∙ here) was.numbers));
            time = was.time ∙ ap (λ (k : Config). k.buffer_timeout) (sym config);
            counts = counts old.chronicle.receipts.items steps still was.counts owing_new;
            owing = subst (λ (k : Config). IsOwing was.opened (answered ++ x ∷ []) k (lists_of new.chronicle) new.appended new.durable new.waiting new.end) (sym config) owing_new;
          }

-- ---- labels

-- a bind is no command
pub bound : {D : Type 0} (timeout : ℕ) (answered : List Answered) (number : ℕ) (e : EngineOf D Kept) (label : List ℕ) (tx : ℕ) → IsPlaying timeout answered number e → IsPlaying timeout (answered ++ (l.Bind label tx, None) ∷ []) number e
bound timeout answered number e label tx was = record {
  opened = was.opened;
  numbers = numbers_answered was.opened answered (l.Bind label tx, None) _ e.clock e.clock e.appended e.durable e.since (was.numbers.time ∙ sym (same_clock answered (l.Bind label tx, None) refl)) refl (inl refl) was.numbers;
  steps = steps_same was.opened answered _ number (l.Bind label tx, None) was.steps refl;
  answers = one_more_answer was.opened timeout answered (l.Bind label tx, None) was.answers tt;
  time = was.time;
  counts = ticks_snoc timeout (length (rolled e.chronicle.steps.items)) e.chronicle.receipts.items answered (l.Bind label tx, None) was.counts tt;
  owing = owing_line was.opened answered (l.Bind label tx, None) e.config (lists_of e.chronicle) e.appended e.durable e.waiting e.end was.owing;
}

-- a line that begins nothing leaves each label as it is
pub not_begun : (name label : List ℕ) (command : Command) (answer : Option Answer) (before : ℕ) → is_begin command ≡ false → before ≡ number_behind label before (l.Labelled name command, answer)
not_begun name label c.Begin answer before is = absurd cc
not_begun name label (c.Add id user_type body) answer before is = refl
not_begun name label (c.Update id user_type body) answer before is = refl
not_begun name label (c.Delete id) answer before is = refl
not_begun name label (c.AddTx tx id user_type body) answer before is = refl
not_begun name label (c.UpdateTx tx id user_type body) answer before is = refl
not_begun name label (c.DeleteTx tx id body) answer before is = refl
not_begun name label (c.Prepare tx extra) answer before is = refl
not_begun name label (c.Commit tx) answer before is = refl
not_begun name label (c.Rollback tx) answer before is = refl
not_begun name label c.Flush answer before is = refl

pub begins : (command : Command) → is_begin command ≡ true → command ≡ c.Begin
begins c.Begin is = refl
begins (c.Add id user_type body) is = absurd cc
begins (c.Update id user_type body) is = absurd cc
begins (c.Delete id) is = absurd cc
begins (c.AddTx tx id user_type body) is = absurd cc
begins (c.UpdateTx tx id user_type body) is = absurd cc
begins (c.DeleteTx tx id body) is = absurd cc
begins (c.Prepare tx extra) is = absurd cc
begins (c.Commit tx) is = absurd cc
begins (c.Rollback tx) is = absurd cc
begins c.Flush is = absurd cc

-- what holds of each answer holds of this one too
pub with_each : {X E : Type 0} (r : Result X E) (P Q : X → Type 0) → ((x : X) → Q x) → IfOk r P → IfOk r (λ x. P x × Q x)
with_each (Ok x) P Q each is = (is, each x)
with_each (Err e) P Q each is = is

-- behind a command that was refused more is durable only where all is
pub grown_refused : {D : Type 0} (command : Command) (old new : EngineOf D Kept) → BehindRefused command old new → ltb old.durable new.durable ≡ true → old.durable < old.appended
grown_refused command old new (inl same) more = absurd (omega (arith, ltb-true _ _ more, ap (λ (e : EngineOf _ Kept). e.durable) same))
grown_refused command old new (inr all) more = omega (arith, ltb-true _ _ more, ap (λ (e : EngineOf _ Kept). e.durable) all.1)
