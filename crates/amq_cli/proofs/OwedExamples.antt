-- Receipts of a run that are owed, and receipts that aren't.
use Rattle.std.proofs.Common.{◌≡◌, ◌∙◌, inl, inr, ℕ, true, false, List, [], ◌∷◌, ◌++◌, length, None, Some, refl, sym, ap, subst, true≢false, arith, zero, suc, map, take}
use Rattle.std.proofs.lemmas.List.{length-append, length-map, length-take}
use Rattle.amq_model.specs.declared.command.Command.TheVariants as c
use Rattle.amq_model.specs.declared.command.Reply.TheVariants.{Appended, Durable}
use Rattle.amq_model.specs.declared.script.Line.{Line}
use Rattle.amq_model.specs.declared.script.Line.TheVariants as l
use Rattle.amq_model.specs.declared.history.Answer.TheVariants.{Done}
use Rattle.amq_model.specs.declared.history.Step.{Step}
use Rattle.amq_engine.specs.declared.chronicle.Receipted.{Receipted}
use Rattle.amq_engine.specs.Owed.{FlushesFirst, IsOwedToStep}
use Rattle.amq_cli.specs.Offline.{defaults}
use Rattle.amq_cli.specs.Replay.{Answered, ticked}
use Rattle.amq_cli.specs.Owed.{IsOwedToTick, IsOwed, HasOwed, is_opened}
use Rattle.amq_cli.proofs.ReplayExamples.{rollback, add, first, second, lines, answered, receipts, three_old, three_lines}

abbrev steps : List Step
steps = first ∷ second ∷ []

abbrev receipt : ℕ → ℕ → ℕ → Receipted
receipt durable moment behind = record { durable = durable; moment = moment; steps = behind }

-- ---- ticks

-- the tick of 3 behind the first append
pub owed_to_the_tick : IsOwedToTick 3 0 answered 0 (receipt 1 7 1)
owed_to_the_tick = record { before = (l.Plain add, Some (Done (Appended 0))) ∷ []; now = 3; answer = Some (Done (Durable 1)); behind = (l.Plain (c.Delete 1), Some (Done (Appended 1))) ∷ []; is = refl; place = refl; old = three_old }

-- two lines without a tick
abbrev untimed : List Answered
untimed = (l.Plain add, Some (Done (Appended 0))) ∷ (l.Plain (c.Delete 1), Some (Done (Appended 1))) ∷ []

pub owed_to_no_tick : IsOwedToTick 3 0 untimed 0 (receipt 1 7 1) → ⊥
owed_to_no_tick h = by h.before (l.Tick h.now, h.answer) h.behind h.is refl where
  by : (before : List Answered) (x : Answered) (behind : List Answered) → untimed ≡ before ++ x ∷ behind → ticked x ≡ Some h.now → ⊥
  by [] x behind is tick = let e : (l.Plain add, Some (Done (Appended 0))) ≡ x = cc in let n : None ≡ Some h.now = ap ticked e ∙ tick in cc
  by (y ∷ []) x behind is tick = let e : (l.Plain (c.Delete 1), Some (Done (Appended 1))) ≡ x = cc in let n : None ≡ Some h.now = ap ticked e ∙ tick in cc
  by (y ∷ z ∷ ys) x behind is tick = short ys x behind (let e : [] ≡ ys ++ x ∷ behind = cc in e) where
    short : (ys : List Answered) (x : Answered) (behind : List Answered) → [] ≡ ys ++ x ∷ behind → ⊥
    short [] x behind e = cc
    short (y ∷ ys) x behind e = cc

-- ---- a run

-- a receipt for the tick, and one for the closing
pub three_owed : HasOwed defaults lines steps receipts
three_owed = record {
  answered = answered;
  are = three_lines;
  owed = (
    refl,
    refl,
    (
      omega arith,
      record { before = first ∷ []; behind = second ∷ []; is = refl; place = refl; count = refl },
      inl (inr (inr owed_to_the_tick)),
      (omega arith, record { before = steps; behind = []; is = refl; place = refl; count = refl }, inr refl, tt),
    ),
  );
  opened = inr refl;
}

-- the second step has room
roomy : IsOwedToStep defaults steps 0 (receipt 1 7 1) → ⊥
roomy h = by h.before h.step h.behind h.is h.place h.flushes where
  fits : FlushesFirst defaults 0 (first ∷ []) second → ⊥
  fits f = true≢false (sym f.needed)

  by : (before : List Step) (s : Step) (behind : List Step) → steps ≡ before ++ s ∷ behind → 1 ≡ length before → FlushesFirst defaults 0 before s → ⊥
  by [] s behind is place flushes = omega (arith, place)
  by (x ∷ []) s behind is place flushes =
      let one : first ≡ x = cc in
      let two : second ≡ s = cc in
      fits (subst (λ y. FlushesFirst defaults 0 (y ∷ []) second) (sym one) (subst (λ y. FlushesFirst defaults 0 (x ∷ []) y) (sym two) flushes))
  by (x ∷ y ∷ ys) s behind is place flushes = omega (arith, place)

-- a command that flushes without need
pub flushed_by_a_command : IsOwed defaults untimed steps 0 (receipt 1 7 1) → ⊥
flushed_by_a_command (inl (inl opening)) = omega (arith, opening)
flushed_by_a_command (inl (inr (inl step))) = roomy step
flushed_by_a_command (inl (inr (inr tick))) = owed_to_no_tick tick
flushed_by_a_command (inr end) = omega (arith, end)

-- the lines of a script without a tick, and with a receipt that no step needs
abbrev plain : List Line
plain = l.Plain add ∷ l.Plain (c.Delete 1) ∷ []

pub flushed_without_need : HasOwed defaults plain steps (receipt 0 5 0 ∷ receipt 1 7 1 ∷ []) → ⊥
flushed_without_need h = by h.owed.2.2 where
  none : (k now : ℕ) (before : List Answered) (x : Answered) (behind : List Answered) → x.0 ≡ l.Tick now → map (λ y. y.0) (before ++ x ∷ behind) ≡ take k plain → ⊥
  none zero now [] x behind tick is = absurd (let n : suc (length (map (λ (y : Answered). y.0) behind)) ≡ 0 = ap length is in omega (arith, n))
  none (suc k) now [] x behind tick is = let e : x.0 ≡ l.Plain add = cc in let f : l.Tick now ≡ l.Plain add = sym tick ∙ e in cc
  none zero now (y ∷ ys) x behind tick is = absurd (let n : suc (length (map (λ (y : Answered). y.0) (ys ++ x ∷ behind))) ≡ 0 = ap length is in omega (arith, n))
  none (suc zero) now (y ∷ []) x behind tick is = absurd (let n : suc (suc (length (map (λ (y : Answered). y.0) behind))) ≡ 1 = ap length is in omega (arith, n))
  none (suc (suc k)) now (y ∷ []) x behind tick is = let e : x.0 ≡ l.Plain (c.Delete 1) = cc in let f : l.Tick now ≡ l.Plain (c.Delete 1) = sym tick ∙ e in cc
  none (suc k) now (y ∷ z ∷ zs) x behind tick is =
      let n : suc (suc (length (map (λ (y : Answered). y.0) (zs ++ x ∷ behind)))) ≡ length (take (suc k) plain) = ap length is in
      omega (arith, n, length-map (zs ++ x ∷ behind) (λ (y : Answered). y.0), length-append zs (x ∷ behind), length-take (suc k) plain)

  by : IsOwed defaults h.answered steps 0 (receipt 1 7 1) → ⊥
  by (inl (inl opening)) = omega (arith, opening)
  by (inl (inr (inl step))) = roomy step
  by (inl (inr (inr tick))) = none (length h.answered) tick.now tick.before (l.Tick tick.now, tick.answer) tick.behind refl (ap (map (λ (y : Answered). y.0)) (sym tick.is) ∙ h.are.front)
  by (inr end) = omega (arith, end)

-- ---- the opening

-- it makes its rollback durable before the first line
pub rollback_counted : is_opened (rollback ∷ first ∷ []) (receipt 0 5 0 ∷ receipt 1 7 1 ∷ []) ≡ true
rollback_counted = refl

pub rollback_counted_late : is_opened (rollback ∷ first ∷ []) (receipt 0 5 0 ∷ receipt 2 7 2 ∷ []) ≡ false
rollback_counted_late = refl
