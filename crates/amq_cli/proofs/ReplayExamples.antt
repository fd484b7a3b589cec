-- Lines of a replay that may be answered so, and lines that may not.
use Rattle.std.proofs.Common.{◌≡◌, inl, inr, ℕ, ◌-◌, ◌<◌, ◌≤◌, List, [], ◌∷◌, ◌++◌, length, map, codes, None, Some, All, refl, sym, ap, subst, true≢false, arith}
use Rattle.std.proofs.lemmas.List.Elements.{All-nil, All-cons, All-head, All-tail}
use Rattle.std.specs.Fmt.{digits}
use Rattle.amq_model.specs.declared.record.Record.TheVariants as rec
use Rattle.amq_model.specs.declared.command.Command.{Command}
use Rattle.amq_model.specs.declared.command.Command.TheVariants as c
use Rattle.amq_model.specs.declared.command.Reply.TheVariants.{Appended, Durable}
use Rattle.amq_model.specs.declared.script.Line.{Line}
use Rattle.amq_model.specs.declared.script.Line.TheVariants as l
use Rattle.amq_model.specs.declared.history.Answer.{Answer}
use Rattle.amq_model.specs.declared.history.Answer.TheVariants.{Done}
use Rattle.amq_model.specs.declared.history.Step.{Step}
use Rattle.amq_engine.specs.declared.chronicle.Receipted.{Receipted}
use Rattle.amq_cli.specs.Replay.{IsOld, IsTickCount, IsFlushCount, AreCounted, Answered, placed_at, reply_lines, IsTicked, IsReceipted, AreAnswered, HasEnded, all_commanded, line_of, IsLineAnswer}
use Rattle.amq_model.specs.declared.refusal.DiskCall.TheVariants.{Read, WriteAt}
use Rattle.amq_cli.specs.Output.{IsBrokenOff}
use Rattle.amq_cli.specs.Offline.{IsEnding, IsGiven}
use Rattle.amq_cli.specs.declared.status.Status.{Status}
use Rattle.amq_cli.specs.declared.status.Status.TheVariants as s

-- ---- the lines

abbrev pub add : Command
add = c.Add 1 7 []

abbrev update : Command
update = c.Update 1 8 (0x6a ∷ [])

-- an append of this place
abbrev appended : Command → ℕ → Answered
appended command place = (l.Plain command, Some (Done (Appended place)))

-- a tick at this moment
abbrev durable : ℕ → ℕ → Answered
durable now count = (l.Tick now, Some (Done (Durable count)))

-- ---- a tick behind an add and an update, with a timeout of 3

abbrev two : List Answered
two = appended add 0 ∷ appended update 1 ∷ []

-- what holds of each element holds of one of them
abbrev one_of : {X : Type 0} (P : X → Type 0) (front : List X) (x : X) (back : List X) → All P (front ++ x ∷ back) → P x
one_of P [] x back h = All-head P x back h
one_of P (f ∷ fs) x back h = one_of P fs x back (All-tail P f (fs ++ x ∷ back) h)

-- one place isn't another
not_at : (m n : ℕ) → m < n → Some m ≡ Some n → ⊥
not_at m n lt e = let same : m ≡ n = cc in omega (arith, same, lt)

-- they are less than 3 old
pub nothing_is_due : IsTicked 0 3 two 2 0
nothing_is_due = record { within = omega arith; least = omega arith; rising = All-nil (λ c. c ≤ 0); young = λ front x back is place. omega arith }

-- at 3 the first one is due
pub a_tick_that_does_not_flush : IsTicked 0 3 two 3 0 → ⊥
a_tick_that_does_not_flush h = let young : 3 - 0 < 3 = h.young [] (appended add 0) (appended update 1 ∷ []) refl refl in omega (arith, young)

-- and the second one with it, since they came at one time
pub a_tick_that_flushes_one : IsTicked 0 3 two 3 1 → ⊥
a_tick_that_flushes_one h = let young : 3 - 0 < 3 = h.young (appended add 0 ∷ []) (appended update 1) [] refl refl in omega (arith, young)

pub all_are_durable : IsTicked 0 3 two 3 2
all_are_durable = record { within = omega arith; least = omega arith; rising = All-nil (λ c. c ≤ 2); young = λ front x back is place. absurd (one_of (λ y. placed_at y ≡ Some 2 → ⊥) front x back (subst (All (λ y. placed_at y ≡ Some 2 → ⊥)) is each) place) } where
  each : All (λ y. placed_at y ≡ Some 2 → ⊥) two
  each = All-cons (λ y. placed_at y ≡ Some 2 → ⊥) (appended add 0) (appended update 1 ∷ []) (not_at 0 2 (omega arith)) (All-cons (λ y. placed_at y ≡ Some 2 → ⊥) (appended update 1) [] (not_at 1 2 (omega arith)) (All-nil (λ y. placed_at y ≡ Some 2 → ⊥)))

pub more_than_there_are : IsTicked 0 3 two 2 3 → ⊥
more_than_there_are h = let within : 3 ≤ 2 = h.within in omega (arith, within)

-- ---- a tick behind one that was answered 2, and an add

abbrev later : List Answered
later = appended add 0 ∷ appended update 1 ∷ durable 3 2 ∷ appended (c.Delete 1) 2 ∷ []

pub fewer_than_before : IsTicked 0 3 later 4 1 → ⊥
fewer_than_before h = let rising : 2 ≤ 1 = All-head (λ c. c ≤ 1) 2 [] h.rising in omega (arith, rising)

-- the delete came behind the tick of 3, so at 6 it is due
pub the_delete_is_due : IsTicked 0 3 later 6 2 → ⊥
the_delete_is_due h = let young : 6 - 3 < 3 = h.young (appended add 0 ∷ appended update 1 ∷ durable 3 2 ∷ []) (appended (c.Delete 1) 2) [] refl refl in omega (arith, young)

-- ---- a tick behind an opening that rolled back

-- the append of the opening counts
pub the_rollback_counts : IsTicked 1 3 [] 5 1
the_rollback_counts = record { within = omega arith; least = omega arith; rising = All-nil (λ c. c ≤ 1); young = λ front x back is place. absurd (none front x back is) } where
  none : (front : List Answered) (x : Answered) (back : List Answered) → [] ≡ front ++ x ∷ back → ⊥
  none [] x back e = cc
  none (f ∷ fs) x back e = cc

pub the_rollback_is_durable : IsTicked 1 3 [] 0 0 → ⊥
the_rollback_is_durable h = let least : 1 ≤ 0 = h.least in omega (arith, least)

-- ---- three lines and their steps

abbrev pub lines : List Line
lines = l.Plain add ∷ l.Tick 3 ∷ l.Plain (c.Delete 1) ∷ []

abbrev pub answered : List Answered
answered = appended add 0 ∷ durable 3 1 ∷ appended (c.Delete 1) 1 ∷ []

abbrev pub first : Step
first = record { seat = 1; number = 1; command = add; answer = Done (Appended 0); placed = Some (record { file = 1; place = 16; compact = 0; rec = rec.Add 1 7 [] }) }

abbrev pub second : Step
second = record { seat = 1; number = 2; command = c.Delete 1; answer = Done (Appended 1); placed = Some (record { file = 1; place = 39; compact = 0; rec = rec.Delete 1 }) }

abbrev pub receipts : List Receipted
receipts = record { durable = 0; moment = 5; steps = 0 } ∷ record { durable = 1; moment = 7; steps = 1 } ∷ record { durable = 2; moment = 9; steps = 2 } ∷ []

-- the append of place 0 is 3 old at a tick of 3
pub three_old : IsOld 3 (appended add 0 ∷ []) 3 0
three_old = record { front = []; line = appended add 0; back = []; is = refl; placed = refl; old = omega arith }

pub two_young : IsOld 3 (appended add 0 ∷ []) 2 0 → ⊥
two_young h = let old = h.old in omega (arith, old)

-- so the tick of 3 counts what the second receipt does
pub counted_by_the_tick : IsTickCount 3 0 (appended add 0 ∷ []) 3 1 receipts
counted_by_the_tick = inr (inr (inr (refl, three_old)), inl (refl, omega arith))

-- behind the step that comes next it would be counted with it
pub counted_before_a_step : IsTickCount 3 0 (appended add 0 ∷ appended (c.Delete 1) 1 ∷ []) 0 1 receipts
counted_before_a_step = inr (inr (inl (omega arith)), inl (refl, omega arith))

-- a tick of 2 doesn't
pub counted_too_early : IsTickCount 3 0 (appended add 0 ∷ []) 2 1 receipts → ⊥
counted_too_early (inl (same, later)) = omega (arith, same)
counted_too_early (inr (inl opening, rest)) = omega (arith, opening)
counted_too_early (inr (inr (inl before), rest)) = omega (arith, before)
counted_too_early (inr (inr (inr (here, old)), rest)) = two_young old

pub a_line_counted_too_early : AreCounted 3 0 receipts [] (appended add 0 ∷ durable 2 1 ∷ []) → ⊥
a_line_counted_too_early h = counted_too_early h.1.0

-- a flush behind the first append counts what the receipt before its step does
abbrev flush : Answered
flush = (l.Plain c.Flush, Some (Done (Durable 1)))

pub counted_by_a_flush : IsFlushCount 0 (appended add 0 ∷ []) flush 1 receipts
counted_by_a_flush = inr (omega arith, inl (refl, omega arith))

-- and not one that is noted behind it
pub counted_before_the_receipt : IsFlushCount 0 (appended add 0 ∷ []) flush 1 (record { durable = 0; moment = 5; steps = 0 } ∷ record { durable = 1; moment = 9; steps = 2 } ∷ []) → ⊥
counted_before_the_receipt (inl (same, later)) = omega (arith, same)
counted_before_the_receipt (inr (before, rest)) = omega (arith, before)

-- the tick is no step
pub three_lines : AreAnswered 3 lines (first ∷ second ∷ []) receipts answered
three_lines = record { front = refl; commands = refl; numbered = (refl, refl, (refl, refl, tt)); receipted = All-cons (IsReceipted receipts) 1 [] refl (All-nil (IsReceipted receipts)); answers = (tt, (ticked, (tt, tt))); counts = (tt, (counted_by_the_tick, (tt, tt))) } where
  ticked : IsTicked 0 3 (appended add 0 ∷ []) 3 1
  ticked = record { within = omega arith; least = omega arith; rising = All-nil (λ c. c ≤ 1); young = λ front x back is place. absurd (one_of (λ y. placed_at y ≡ Some 1 → ⊥) front x back (subst (All (λ y. placed_at y ≡ Some 1 → ⊥)) is each) place) } where
    each : All (λ y. placed_at y ≡ Some 1 → ⊥) (appended add 0 ∷ [])
    each = All-cons (λ y. placed_at y ≡ Some 1 → ⊥) (appended add 0) [] (not_at 0 1 (omega arith)) (All-nil (λ y. placed_at y ≡ Some 1 → ⊥))

-- behind a rollback of the opening the first append has the place 1
abbrev pub rollback : Step
rollback = record { seat = 0; number = 1; command = c.Rollback 5; answer = Done (Appended 0); placed = Some (record { file = 2; place = 16; compact = 0; rec = rec.Rollback 5 }) }

pub behind_a_rollback : AreAnswered 3 (l.Plain add ∷ []) (rollback ∷ record first { answer = Done (Appended 1) } ∷ []) receipts (appended add 1 ∷ [])
behind_a_rollback = record { front = refl; commands = refl; numbered = (refl, refl, tt); receipted = All-nil (IsReceipted receipts); answers = (tt, tt); counts = (tt, tt) }

pub the_rollback_is_no_line : AreAnswered 3 (l.Plain (c.Rollback 5) ∷ []) (rollback ∷ []) receipts (appended (c.Rollback 5) 0 ∷ []) → ⊥
the_rollback_is_no_line h = let n : ◌≡◌ {A = ℕ} 0 1 = ap length h.commands in omega (arith, n)

pub a_step_is_missing : AreAnswered 3 lines (first ∷ []) receipts answered → ⊥
a_step_is_missing h = let n : ◌≡◌ {A = ℕ} 1 2 = ap length h.commands in omega (arith, n)

pub a_number_is_left_out : AreAnswered 3 lines (first ∷ record second { number = 3 } ∷ []) receipts answered → ⊥
a_number_is_left_out h = let n : ◌≡◌ {A = ℕ} 3 2 = h.numbered.2.1 in omega (arith, n)

pub a_count_without_a_receipt : AreAnswered 3 lines (first ∷ second ∷ []) (record { durable = 0; moment = 5; steps = 0 } ∷ record { durable = 2; moment = 9; steps = 2 } ∷ []) answered → ⊥
a_count_without_a_receipt h = true≢false (sym (All-head (IsReceipted (record { durable = 0; moment = 5; steps = 0 } ∷ record { durable = 2; moment = 9; steps = 2 } ∷ [])) 1 [] h.receipted))

-- the tick would be answered 0 a moment too late
pub a_tick_too_late : AreAnswered 3 lines (first ∷ second ∷ []) receipts (appended add 0 ∷ durable 3 0 ∷ appended (c.Delete 1) 1 ∷ []) → ⊥
a_tick_too_late h = let young : 3 - 0 < 3 = h.answers.1.0.young [] (appended add 0) [] refl refl in omega (arith, young)

-- ---- how a replay ends

-- the first two lines were answered
two_lines : AreAnswered 3 lines (first ∷ []) receipts (appended add 0 ∷ durable 3 1 ∷ [])
two_lines = record { front = refl; commands = refl; numbered = (refl, refl, tt); receipted = three_lines.receipted; answers = (three_lines.answers.0, (three_lines.answers.1.0, tt)); counts = (tt, (counted_by_the_tick, tt)) }

-- memory was short at the third one
pub ended_for_memory : HasEnded 3 lines (first ∷ []) receipts (codes "ok 0\ndurable 1\n") []
unfolding digits
ended_for_memory = record { answered = appended add 0 ∷ durable 3 1 ∷ []; are = two_lines; is = refl; early = omega arith }

-- a disk call failed at it
pub ended_by_a_disk_call : HasEnded 3 lines (first ∷ []) receipts (codes "ok 0\ndurable 1\nrefused Disk WriteAt\n") (codes "refused Disk WriteAt\n")
unfolding digits
ended_by_a_disk_call = record { answered = appended add 0 ∷ durable 3 1 ∷ []; are = two_lines; is = refl; early = omega arith }

-- the replay of no line doesn't end early
pub ended_before_no_line : HasEnded 3 [] [] receipts (codes "refused Disk WriteAt\n") (codes "refused Disk WriteAt\n") → ⊥
ended_before_no_line h = omega (arith, h.early)

-- the one step's line is there
pub ended_without_a_line : HasEnded 3 lines (first ∷ []) receipts [] [] → ⊥
unfolding digits
ended_without_a_line h = by h.answered h.are h.is where
  none : (b : ℕ) (bs : List ℕ) → [] ≡ b ∷ bs → ⊥
  none b bs e = cc

  shown : (x : Answered) (others : List Answered) → x.1 ≡ Some (Done (Appended 0)) → [] ≡ (line_of x ++ reply_lines others) ++ [] → ⊥
  shown (line, answer) others first e = none 111 (107 ∷ 32 ∷ 48 ∷ 10 ∷ (reply_lines others ++ [])) (subst (λ v. [] ≡ (line_of (line, v) ++ reply_lines others) ++ []) first e)

  first_of : List (Command × Answer) → Answer
  first_of [] = Done (Appended 0)
  first_of (y ∷ ys) = y.1

  head : (x : Answered) (xs : List Answered) → x.0 ≡ l.Plain add → IsLineAnswer 0 3 [] x.0 x.1 → map (λ s. (s.command, s.answer)) (first ∷ []) ≡ all_commanded [] (x ∷ xs) → x.1 ≡ Some (Done (Appended 0))
  head (line, Some answer) xs e may commands = ap Some (sym (ap first_of (subst (λ v. map (λ s. (s.command, s.answer)) (first ∷ []) ≡ all_commanded [] ((v, Some answer) ∷ xs)) e commands)))
  head (line, None) xs e may commands = absurd (subst (λ v. IsLineAnswer 0 3 [] v None) e may)

  -- the line of the first one of these
  first_line : List Line → Line
  first_line [] = l.Plain add
  first_line (y ∷ ys) = y

  by : (xs : List Answered) → AreAnswered 3 lines (first ∷ []) receipts xs → [] ≡ reply_lines xs ++ [] → ⊥
  by [] are e = let n : ◌≡◌ {A = ℕ} 1 0 = ap length are.commands in omega (arith, n)
  by (x ∷ xs) are e = shown x xs (head x xs (ap first_line are.front) are.answers.0 are.commands) e

-- ---- what stands behind the lines

abbrev ends : Status → Type 0 → ℕ → List Answered → List ℕ → Type 0
ends status Opened now answered ending = IsEnding status (λ state. ⊥) (λ fault. ⊥) Opened (3, Some Read) (now, Some WriteAt) lines answered ending

-- a disk call failed at a line
pub the_line_of_a_call : ends s.DiskFault (Unit {0}) 4 [] (codes "refused Disk WriteAt\n")
the_line_of_a_call = inr (tt, inr (omega arith, omega arith, (WriteAt, refl, refl)))

-- its line doesn't lack
pub no_line_lacks : ends s.DiskFault (Unit {0}) 4 [] [] → ⊥
no_line_lacks (inl refused) = refused.0.1
no_line_lacks (inr (opened, inl all)) = omega (arith, all.1)
no_line_lacks (inr (opened, inr (early, rose, (call, failed, is)))) = absurd cc

-- an opening that was refused has none
pub no_line_of_an_opening : (ending : List ℕ) → ends s.DiskFault ⊥ 4 [] ending → ⊥
no_line_of_an_opening ending (inl refused) = refused.0.1
no_line_of_an_opening ending (inr opened) = opened.0

-- memory was short, and a call failed at the closing
pub for_memory_alone : ends s.NoMemory (Unit {0}) 4 [] []
for_memory_alone = (refl, inr (tt, (codes "refused Disk WriteAt\n", (omega arith, omega arith, (WriteAt, refl, refl)))))

-- nothing stands there then
pub no_line_for_memory : ends s.NoMemory (Unit {0}) 4 [] (codes "refused Disk WriteAt\n") → ⊥
no_line_for_memory h = absurd (let none : codes "refused Disk WriteAt\n" ≡ [] = h.0 in cc)

-- ---- want of memory of the sink

-- the sink had no memory for the last two bytes
pub broken_off : IsBrokenOff (1 ∷ 2 ∷ 3 ∷ 4 ∷ []) (Some (9 ∷ [])) (Some (9 ∷ 1 ∷ 2 ∷ []))
broken_off = record { count = 2; within = omega arith; is = refl }

pub not_broken_off : IsBrokenOff [] (Some (9 ∷ [])) (Some (9 ∷ [])) → ⊥
not_broken_off h = omega (arith, h.within)

-- a run that ended well has status 8 then
pub given_in_part : IsGiven s.NoMemory s.Ok (1 ∷ 2 ∷ 3 ∷ 4 ∷ []) 5 5 (Some (9 ∷ [])) (Some (9 ∷ 1 ∷ 2 ∷ []))
given_in_part = inr (inr (refl, refl, broken_off))

-- but not where it has no text
pub not_given_in_part : IsGiven s.NoMemory s.Ok [] 5 5 (Some (9 ∷ [])) (Some (9 ∷ [])) → ⊥
not_given_in_part (inl same) = absurd (let e : s.NoMemory ≡ s.Ok = same.0 in cc)
not_given_in_part (inr (inl failed)) = absurd (let e : s.NoMemory ≡ s.SinkFault = failed.0 in cc)
not_given_in_part (inr (inr broken)) = omega (arith, broken.2.within)
