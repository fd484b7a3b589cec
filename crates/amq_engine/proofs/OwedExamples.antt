-- Receipts that are owed, and receipts that aren't.
use Rattle.std.proofs.Common.{◌≡◌, inl, inr, ℕ, ◌<◌, List, [], ◌∷◌, ◌++◌, length, Option, None, Some, refl, sym, ap, subst, true≢false, arith}
use Rattle.std.specs.List.{cons_option}
use Rattle.std.proofs.lemmas.List.{length-append}
use Rattle.amq_model.specs.declared.config.Config.{Config}
use Rattle.amq_model.specs.declared.record.Placed.{Placed}
use Rattle.amq_model.specs.declared.record.Record.TheVariants as rec
use Rattle.amq_model.specs.declared.command.Command.TheVariants as c
use Rattle.amq_model.specs.declared.command.Reply.TheVariants.{Appended}
use Rattle.amq_model.specs.declared.refusal.Refusal.TheVariants.{NoRecord}
use Rattle.amq_model.specs.declared.history.Answer.TheVariants.{Done, Refused}
use Rattle.amq_model.specs.declared.history.Step.{Step}
use Rattle.amq_model.specs.Answers.{history_of}
use Rattle.amq_engine.specs.declared.chronicle.Receipted.{Receipted}
use Rattle.amq_engine.specs.Lists.{Lists}
use Rattle.amq_engine.specs.Owed.{waiting_behind, FlushesFirst, CountsAll, IsOwedToStep, AreOwedToSteps, IsOwedAtOpening, AreOwedAtOpening}

-- a configuration with a file and a buffer of these sizes
abbrev sizes : ℕ → ℕ → Config
sizes file buffer = record { file_size = file; min_files = 2; pool_files = None; compact_min_files = 10; compact_percentage = 30; buffer_size = buffer; buffer_timeout = 3; user_version = 0 }

-- an ADD of 23 bytes and a DELETE of 18
abbrev first : Step
first = record { seat = 1; number = 1; command = c.Add 1 7 []; answer = Done (Appended 0); placed = Some (record { file = 1; place = 16; compact = 0; rec = rec.Add 1 7 [] }) }

abbrev second : Step
second = record { seat = 1; number = 2; command = c.Delete 1; answer = Done (Appended 1); placed = Some (record { file = 1; place = 39; compact = 0; rec = rec.Delete 1 }) }

abbrev steps : List Step
steps = first ∷ second ∷ []

abbrev receipt : ℕ → ℕ → ℕ → Receipted
receipt durable moment behind = record { durable = durable; moment = moment; steps = behind }

-- ---- the bytes that wait

pub both_wait : waiting_behind 0 (history_of steps) ≡ 41
both_wait = refl

pub the_second_waits : waiting_behind 1 (history_of steps) ≡ 18
the_second_waits = refl

pub none_waits : waiting_behind 2 (history_of steps) ≡ 0
none_waits = refl

-- ---- steps that flush first

-- 41 bytes are above 40
pub full_buffer : FlushesFirst (sizes 100 40) 0 (first ∷ []) second
full_buffer = record { accepted = tt; needed = refl }

pub roomy_buffer : FlushesFirst (sizes 100 41) 0 (first ∷ []) second → ⊥
roomy_buffer h = true≢false (sym h.needed)

-- the second one ends at 57
pub full_file : FlushesFirst (sizes 56 50) 0 (first ∷ []) second
full_file = record { accepted = tt; needed = refl }

pub roomy_file : FlushesFirst (sizes 57 50) 0 (first ∷ []) second → ⊥
roomy_file h = true≢false (sym h.needed)

pub refused_step : FlushesFirst (sizes 56 40) 0 (first ∷ []) (record second { answer = Refused (NoRecord 1) }) → ⊥
refused_step h = h.accepted

-- ---- what a receipt counts

pub one_counted : CountsAll steps (receipt 1 7 1)
one_counted = record { before = first ∷ []; behind = second ∷ []; is = refl; place = refl; count = refl }

pub more_counted : CountsAll steps (receipt 2 7 1) → ⊥
more_counted h = by h.before h.place h.count where
  one : (o : Option Placed) → 2 ≡ length (cons_option o []) → ⊥
  one None is = omega (arith, is)
  one (Some p) is = omega (arith, is)

  by : (before : List Step) → 1 ≡ length before → 2 ≡ length (history_of before) → ⊥
  by [] place count = omega (arith, place)
  by (x ∷ []) place count = one x.placed count
  by (x ∷ y ∷ ys) place count = omega (arith, place)

-- ---- receipts that are owed

abbrev lists : List Receipted → Lists
lists receipts = record { base = []; steps = steps; receipts = receipts }

pub owed_to_the_second : IsOwedToStep (sizes 100 40) steps 0 (receipt 1 7 1)
owed_to_the_second = record { before = first ∷ []; step = second; behind = []; is = refl; place = refl; flushes = full_buffer }

pub owed : AreOwedToSteps (sizes 100 40) (lists (receipt 0 5 0 ∷ receipt 1 7 1 ∷ []))
owed = (refl, refl, (omega arith, one_counted, owed_to_the_second, tt))

-- where both fit no receipt is owed to the second
pub not_owed : IsOwedToStep (sizes 100 41) steps 0 (receipt 1 7 1) → ⊥
not_owed h = by h.before h.step h.behind h.is h.place h.flushes where
  by : (before : List Step) (s : Step) (behind : List Step) → steps ≡ before ++ s ∷ behind → 1 ≡ length before → FlushesFirst (sizes 100 41) 0 before s → ⊥
  by [] s behind is place flushes = omega (arith, place)
  by (x ∷ []) s behind is place flushes =
      let one : first ≡ x = cc in
      let two : second ≡ s = cc in
      roomy_buffer (subst (λ y. FlushesFirst (sizes 100 41) 0 (y ∷ []) second) (sym one) (subst (λ y. FlushesFirst (sizes 100 41) 0 (x ∷ []) y) (sym two) flushes))
  by (x ∷ y ∷ ys) s behind is place flushes = omega (arith, place)

-- the same one is noted once
pub noted_twice : AreOwedToSteps (sizes 100 40) (lists (receipt 0 5 0 ∷ receipt 1 7 1 ∷ receipt 1 7 1 ∷ [])) → ⊥
noted_twice h = let more : 1 < 1 = h.2.3.0 in omega (arith, more)

-- no step is behind all of them
pub behind_all : IsOwedToStep (sizes 100 40) steps 1 (receipt 2 9 2) → ⊥
behind_all h = omega (arith, h.place, ap length h.is, length-append h.before (h.step ∷ h.behind))

-- there an opening flushes
pub at_the_end : AreOwedAtOpening (sizes 100 40) (lists (receipt 0 5 0 ∷ receipt 1 7 1 ∷ receipt 2 9 2 ∷ []))
at_the_end = (refl, refl, (omega arith, one_counted, inr owed_to_the_second, (omega arith, record { before = steps; behind = []; is = refl; place = refl; count = refl }, inl refl, tt)))

pub not_at_the_end : IsOwedAtOpening (sizes 100 41) steps 0 (receipt 1 7 1) → ⊥
not_at_the_end (inl end) = omega (arith, end)
not_at_the_end (inr owed) = not_owed owed
