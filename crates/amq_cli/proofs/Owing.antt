-- Each receipt of a replay is owed, line by line.
use Rattle.std.proofs.Common.{◌≡◌, ◌⊎◌, inl, inr, ℕ, ◌+◌, ◌<◌, ◌≤◌, Bool, true, false, cond, ltb, eqb, leb, List, [], ◌∷◌, ◌++◌, length, drop, Option, None, Some, refl, sym, ap, subst, ◌∙◌, append_assoc, arith}
use Rattle.std.specs.Prelude.{IfSome, IsTrue, max, fold, map, not, option_map, ◌==◌, ◌||◌, ◌&&◌}
use Rattle.std.specs.List.{sum_by, filter_map, cons_option, list_any}
use Rattle.std.proofs.lemmas.Bool.{eq-eqb, le-leb, ltb-true, ltb-false}
use Rattle.std.proofs.lemmas.List.{append-nil, length-append, length-map, drop-append-le, drop_all}
use Rattle.std.proofs.lemmas.List.Sums.{sum_by_push, fold-append}
use Rattle.std.proofs.lemmas.List.Elements.{filter_map-append}
use Rattle.amq_model.specs.declared.config.Config.{Config}
use Rattle.amq_model.specs.declared.record.Record.{Record}
use Rattle.amq_model.specs.declared.record.Placed.{Placed}
use Rattle.amq_model.specs.declared.command.Command.{Command}
use Rattle.amq_model.specs.declared.command.Command.TheVariants as c
use Rattle.amq_model.specs.declared.script.Line.TheVariants as lines
use Rattle.amq_model.specs.declared.history.Answer.{Answer}
use Rattle.amq_model.specs.declared.history.Answer.TheVariants.{Done, Refused}
use Rattle.amq_model.specs.declared.history.Step.{Step}
use Rattle.amq_model.specs.RecordAt.{len_of}
use Rattle.amq_model.specs.Answers.{history_of, record_of}
use Rattle.amq_model.specs.declared.command.Reply.{Reply}
use Rattle.amq_model.specs.declared.refusal.Refusal.{Refusal}
use Rattle.amq_model.specs.Legal.{AreLegalFrom, IsLegalStep, Appends, IsDone, needs_file, end_of}
use Rattle.amq_engine.specs.declared.chronicle.Receipted.{Receipted}
use Rattle.amq_engine.specs.Lists.{Lists}
use Rattle.amq_engine.specs.Receipts.{IsLastCount, EndsWith}
use Rattle.amq_engine.specs.Engine.{EngineOf, flushes, flushed, moves, moved, passes, with_record, record_len, behind_command}
use Rattle.amq_engine.specs.Owed.{waiting_behind, FlushesFirst, AreOwed, BeginOwed}
use Rattle.amq_engine.proofs.History.{history-snoc}
use Rattle.amq_engine.proofs.Owing.{begin_weaker, begin_snoc, counts_more, step_more, counts_now}
use Rattle.amq_cli.specs.Replay.{Answered, all_commanded, commanded, placed_at, counted, ticked, clock_of, IsOld, IsNotedBy, IsCountOf, IsCountIn, IsTickCount, IsFlushCount, IsLineCount, AreCounted, steps_behind, own, rolled}
use Rattle.amq_cli.specs.Owed.{IsOwedSoFar, is_opened}
use Rattle.amq_cli.specs.Playing.{Grows, AreSteps, IsPlacedIn, IsOwing}
use Rattle.amq_cli.proofs.Playing.{split-snoc, own_more}

-- ---- counts of steps and lines

-- the commands of a front are a front of the commands
commanded_both : (before xs ys : List Answered) → all_commanded before (xs ++ ys) ≡ all_commanded before xs ++ all_commanded (before ++ xs) ys
commanded_both before [] ys = ap (λ (b : List Answered). all_commanded b ys) (sym (append-nil before))
commanded_both before (x ∷ xs) ys =
    ap (cons_option (commanded before x)) (commanded_both (before ++ x ∷ []) xs ys) ∙ ap (λ (b : List Answered). cons_option (commanded before x) (all_commanded (before ++ x ∷ []) xs ++ all_commanded b ys)) (append_assoc before (x ∷ []) xs)
    ∙ by (all_commanded (before ++ x ∷ []) xs) (all_commanded (before ++ x ∷ xs) ys) (commanded before x) where
      by : {Y : Type 0} (cs ds : List Y) (o : Option Y) → cons_option o (cs ++ ds) ≡ cons_option o cs ++ ds
      by cs ds None = refl
      by cs ds (Some c) = refl

pub steps_more : (opening : ℕ) (xs ys : List Answered) → steps_behind opening xs ≤ steps_behind opening (xs ++ ys)
steps_more opening xs ys = omega (arith, ap length (commanded_both [] xs ys), length-append (all_commanded [] xs) (all_commanded xs ys))

-- the steps are those of the opening and those of producers
both_kinds : (steps : List Step) → length steps ≡ length (rolled steps) + length (own steps)
both_kinds [] = refl
both_kinds (s ∷ ss) = by (s.seat == 0) (both_kinds ss) where
  by : (b : Bool) → length ss ≡ length (rolled ss) + length (own ss) → length (s ∷ ss) ≡ length (cond b (s ∷ rolled ss) (rolled ss)) + length (cond (not b) (s ∷ own ss) (own ss))
  by true rest = omega (arith, rest)
  by false rest = omega (arith, rest)

pub many_by : (answered : List Answered) (steps : List Step) → map (λ s. (s.command, s.answer)) (own steps) ≡ all_commanded [] answered → length steps ≡ steps_behind (length (rolled steps)) answered
many_by answered steps commands =
    let given : Step → Command × Answer = λ s. (s.command, s.answer) in
    omega (arith, both_kinds steps, length-map (own steps) given, ap (λ (cs : List (Command × Answer)). length cs) commands)

pub many_steps : (opened number : ℕ) (answered : List Answered) (steps : List Step) → AreSteps opened answered steps number → length steps ≡ steps_behind (length (rolled steps)) answered
many_steps opened number answered steps are = many_by answered steps are.commands

-- ---- the clock

max_grows : (a : ℕ) (xs : List ℕ) → a ≤ fold max a xs
max_grows a [] = omega arith
max_grows a (x ∷ xs) = let rest : max a x ≤ fold max (max a x) xs = max_grows (max a x) xs in omega (arith, rest)

clock_behind : (xs : List Answered) (now : ℕ) (answer : Option Answer) (ys : List Answered) (x : Answered) → ticked x ≡ Some now → max (clock_of xs) now ≤ clock_of (xs ++ x ∷ ys)
clock_behind xs now answer ys x is =
    let all : clock_of (xs ++ x ∷ ys) ≡ fold max (max (clock_of xs) now) (filter_map ticked ys) =
    ap (fold max 0) (filter_map-append ticked xs (x ∷ ys) ∙ ap (λ (o : Option ℕ). filter_map ticked xs ++ cons_option o (filter_map ticked ys)) is) ∙ fold-append max 0 (filter_map ticked xs) (now ∷ filter_map ticked ys) in
    let more : max (clock_of xs) now ≤ fold max (max (clock_of xs) now) (filter_map ticked ys) = max_grows (max (clock_of xs) now) (filter_map ticked ys) in
    subst (λ (n : ℕ). max (clock_of xs) now ≤ n) (sym all) more

-- ---- ticks

ticks_from : (timeout opening : ℕ) (receipts : List Receipted) (before answered : List Answered) (x : Answered) → AreCounted timeout opening receipts before answered → IsLineCount timeout opening receipts (before ++ answered) x → AreCounted timeout opening receipts before (answered ++ x ∷ [])
ticks_from timeout opening receipts before [] x all one = (subst (λ (xs : List Answered). IsLineCount timeout opening receipts xs x) (append-nil before) one, tt)
ticks_from timeout opening receipts before (y ∷ ys) x all one = (all.0, ticks_from timeout opening receipts (before ++ y ∷ []) ys x all.1 (subst (λ (xs : List Answered). IsLineCount timeout opening receipts xs x) (sym (append_assoc before (y ∷ []) ys)) one))

-- one line more
pub ticks_snoc : (timeout opening : ℕ) (receipts : List Receipted) (answered : List Answered) (x : Answered) → AreCounted timeout opening receipts [] answered → IsLineCount timeout opening receipts answered x → AreCounted timeout opening receipts [] (answered ++ x ∷ [])
ticks_snoc timeout opening receipts answered x all one = ticks_from timeout opening receipts [] answered x all one

-- what a line with such a count and such a moment does
abbrev Counts : ℕ → ℕ → List Answered → Answered → List Receipted → Option ℕ → Option ℕ → Type 0
Counts timeout opening before x receipts c t = elim c [ None ↦ Unit {0} | Some count ↦ elim t [ None ↦ IsFlushCount opening before x count receipts | Some now ↦ IsTickCount timeout opening before now count receipts ] ]

-- one that is no tick
pub no_tick : (timeout opening : ℕ) (receipts : List Receipted) (before : List Answered) (x : Answered) → ticked x ≡ None → ((count : ℕ) → counted x ≡ Some count → IsFlushCount opening before x count receipts) → IsLineCount timeout opening receipts before x
no_tick timeout opening receipts before x is flush = by (counted x) refl where
  by : (c : Option ℕ) → counted x ≡ c → Counts timeout opening before x receipts c (ticked x)
  by None here = tt
  by (Some count) here = subst (Counts timeout opening before x receipts (Some count)) (sym is) (flush count here)

count_snoc : (IsNoted : ℕ → Receipted → Type 0) (k count n : ℕ) (rs : List Receipted) (r : Receipted) → k ≤ r.steps → IsCountOf IsNoted k count n rs → IsCountOf IsNoted k count n (rs ++ r ∷ [])
count_snoc IsNoted k count n [] r le is = inl (is, le)
count_snoc IsNoted k count n (q ∷ qs) r le (inl is) = inl is
count_snoc IsNoted k count n (q ∷ qs) r le (inr is) = inr (is.0, count_snoc IsNoted k count q.durable qs r le is.1)

in_snoc : (IsNoted : ℕ → Receipted → Type 0) (k count : ℕ) (rs : List Receipted) (r : Receipted) → k ≤ r.steps → IsCountIn IsNoted k count rs → IsCountIn IsNoted k count (rs ++ r ∷ [])
in_snoc IsNoted k count [] r le is = absurd is
in_snoc IsNoted k count (q ∷ qs) r le is = count_snoc IsNoted k count q.durable qs r le is

line_snoc : (timeout opening : ℕ) (rs : List Receipted) (r : Receipted) (before : List Answered) (x : Answered) → steps_behind opening (before ++ x ∷ []) ≤ r.steps → IsLineCount timeout opening rs before x → IsLineCount timeout opening (rs ++ r ∷ []) before x
line_snoc timeout opening rs r before x le is = by (counted x) (ticked x) is where
  by : (c t : Option ℕ) → Counts timeout opening before x rs c t → Counts timeout opening before x (rs ++ r ∷ []) c t
  by None t is = tt
  by (Some count) None is = in_snoc (λ durable r. r.steps ≤ steps_behind opening before) (steps_behind opening (before ++ x ∷ [])) count rs r le is
  by (Some count) (Some now) is = in_snoc (IsNotedBy timeout opening before now) (steps_behind opening before) count rs r (omega (arith, le, steps_more opening before (x ∷ []))) is

ticks_later : (timeout opening : ℕ) (rs : List Receipted) (r : Receipted) (before answered : List Answered) → steps_behind opening (before ++ answered) ≤ r.steps → AreCounted timeout opening rs before answered → AreCounted timeout opening (rs ++ r ∷ []) before answered
ticks_later timeout opening rs r before [] le all = tt
ticks_later timeout opening rs r before (x ∷ xs) le all =
    let further : steps_behind opening ((before ++ x ∷ []) ++ xs) ≤ r.steps = subst (λ (ys : List Answered). steps_behind opening ys ≤ r.steps) (sym (append_assoc before (x ∷ []) xs)) le in (
      line_snoc timeout opening rs r before x (omega (arith, further, steps_more opening (before ++ x ∷ []) xs)) all.0,
      ticks_later timeout opening rs r (before ++ x ∷ []) xs further all.1,
    )

-- a further receipt behind all steps
pub ticks_more : (timeout opening : ℕ) (rs : List Receipted) (r : Receipted) (answered : List Answered) → steps_behind opening answered ≤ r.steps → AreCounted timeout opening rs [] answered → AreCounted timeout opening (rs ++ r ∷ []) [] answered
ticks_more timeout opening rs r answered le all = ticks_later timeout opening rs r [] answered le all

pub ticks_grown : (timeout durable appended : ℕ) (old new : Lists) (answered : List Answered) → map (λ s. (s.command, s.answer)) (own old.steps) ≡ all_commanded [] answered → Grows durable appended old new → AreCounted timeout (length (rolled old.steps)) old.receipts [] answered
    → AreCounted timeout (length (rolled old.steps)) new.receipts [] answered
ticks_grown timeout durable appended old new answered commands (inl same) all = subst (λ (rs : List Receipted). AreCounted timeout (length (rolled old.steps)) rs [] answered) (sym same) all
ticks_grown timeout durable appended old new answered commands (inr one) all = subst (λ (rs : List Receipted). AreCounted timeout (length (rolled old.steps)) rs [] answered) (sym one.1) (ticks_more timeout (length (rolled old.steps)) old.receipts one.0 answered (omega (arith, one.2, many_by answered old.steps commands)) all)

count_of_all : (IsNoted O : ℕ → Receipted → Type 0) (steps : List Step) (k count : ℕ) (q : Receipted) (rs : List Receipted) → ((n : ℕ) (r : Receipted) → O n r → IsNoted n r) → AreOwed O steps q.durable rs → EndsWith count q rs → IsCountOf IsNoted k count q.durable rs
count_of_all IsNoted O steps k count q [] f all ends = sym ends
count_of_all IsNoted O steps k count q (r ∷ rs) f all ends = inr (f q.durable r all.2, count_of_all IsNoted O steps k count r rs f all.3 ends)

-- all receipts were noted up to then
pub counts_all : (IsNoted O : ℕ → Receipted → Type 0) (steps : List Step) (k count : ℕ) (rs : List Receipted) → ((n : ℕ) (r : Receipted) → O n r → IsNoted n r) → BeginOwed O steps rs → IsLastCount count rs → IsCountIn IsNoted k count rs
counts_all IsNoted O steps k count [] f all last = absurd last
counts_all IsNoted O steps k count (q ∷ qs) f all last = count_of_all IsNoted O steps k count q qs f all.2 last

-- behind these receipts, and perhaps one more, a flush counts all
pub flush_counts : (O : ℕ → Receipted → Type 0) (opening : ℕ) (before : List Answered) (x : Answered) (l : Lists) (durable appended count moment : ℕ) (b : Bool) → length l.steps ≡ steps_behind opening before → BeginOwed O l.steps l.receipts → IsLastCount durable l.receipts → appended ≡ length (history_of l.steps)
    → (b ≡ true → durable < appended) → (receipts : List Receipted) → receipts ≡ cond b (l.receipts ++ record { durable = appended; moment = moment; steps = length l.steps } ∷ []) l.receipts → IsLastCount count receipts → IsFlushCount opening before x count receipts
flush_counts O opening before x l durable appended count moment b many owed last history more receipts is ends =
    counts_all IsNoted IsNoted l.steps (steps_behind opening (before ++ x ∷ [])) count receipts (λ n r le. le) (subst (BeginOwed IsNoted l.steps) (sym is) (by b more)) ends
  where
    IsNoted : ℕ → Receipted → Type 0
    IsNoted durable r = r.steps ≤ steps_behind opening before

    noted : BeginOwed IsNoted l.steps l.receipts
    noted = begin_weaker O IsNoted l.steps l.steps l.receipts (λ r c. c) (λ n r c o. omega (arith, many, c.place, ap length c.is, length-append c.before c.behind)) owed

    by : (b : Bool) → (b ≡ true → durable < appended) → BeginOwed IsNoted l.steps (cond b (l.receipts ++ record { durable = appended; moment = moment; steps = length l.steps } ∷ []) l.receipts)
    by false more = noted
    by true more = begin_snoc IsNoted l.steps durable l.receipts (record { durable = appended; moment = moment; steps = length l.steps }) last (more refl) (counts_now l.steps appended moment history) (omega (arith, many)) noted

-- what is owed so far was noted up to a tick that stands last
pub noted_by : (config : Config) (answered : List Answered) (x : Answered) (now : ℕ) (steps : List Step) → ticked x ≡ Some now → length steps ≡ steps_behind (length (rolled steps)) answered → (n : ℕ) (r : Receipted) → IsOwedSoFar config (answered ++ x ∷ []) steps n r → IsNotedBy config.buffer_timeout (length (rolled steps)) answered now n r
noted_by config answered x now steps is many n r (inl opening) = inl (omega (arith, opening))
noted_by config answered x now steps is many n r (inr (inl o)) = inr (inl (omega (arith, many, o.place, ap length o.is, length-append o.before (o.step ∷ o.behind))))
noted_by config answered x now steps is many n r (inr (inr t)) = by (split-snoc answered x t.before (lines.Tick t.now, t.answer) t.behind t.is) where
  opening : ℕ
  opening = length (rolled steps)

  by : ((x ≡ (lines.Tick t.now, t.answer)) × (t.before ≡ answered)) ⊎ ((rest : List Answered) × (answered ≡ t.before ++ (lines.Tick t.now, t.answer) ∷ rest)) → IsNotedBy config.buffer_timeout (length (rolled steps)) answered now n r
  by (inl here) =
      let same : t.now ≡ now = let e : Some t.now ≡ Some now = sym (ap ticked here.0) ∙ is in cc in
      inr (inr (t.place ∙ ap (λ (b : List Answered). steps_behind opening b) here.1, subst (λ (b : List Answered). IsOld config.buffer_timeout b now n) here.1 (subst (λ (k : ℕ). IsOld config.buffer_timeout t.before k n) same t.old)))
  by (inr earlier) =
      let tick : Answered = (lines.Tick t.now, t.answer) in
      let le : r.steps ≤ steps_behind opening answered = omega (arith, t.place, steps_more opening t.before (tick ∷ earlier.0), ap (λ (b : List Answered). steps_behind opening b) earlier.1) in
      let clock : max (clock_of t.before) t.now ≤ clock_of answered = subst (λ (b : List Answered). max (clock_of t.before) t.now ≤ clock_of b) (sym earlier.1) (clock_behind t.before t.now t.answer earlier.0 tick refl) in
      let old : IsOld config.buffer_timeout answered now n = record {
        front = t.old.front;
        line = t.old.line;
        back = t.old.back ++ tick ∷ earlier.0;
        is = earlier.1 ∙ ap (λ (b : List Answered). b ++ tick ∷ earlier.0) t.old.is ∙ append_assoc t.old.front (t.old.line ∷ t.old.back) (tick ∷ earlier.0);
        placed = t.old.placed;
        old = omega (arith, t.old.old, clock);
      } in
      either (ltb r.steps (steps_behind opening answered)) refl le old
    where
      either : (b : Bool) → ltb r.steps (steps_behind (length (rolled steps)) answered) ≡ b → r.steps ≤ steps_behind (length (rolled steps)) answered → IsOld config.buffer_timeout answered now n → IsNotedBy config.buffer_timeout (length (rolled steps)) answered now n r
      either true lt le old = inr (inl (ltb-true _ _ lt))
      either false ge le old = inr (inr (omega (arith, le, ltb-false _ _ ge), old))

-- ---- causes, as lines and steps go on

pub so_far_step : (config : Config) (answered : List Answered) (x : Answered) (steps : List Step) (s : Step) → s.seat ≡ 1 → (n : ℕ) (r : Receipted) → IsOwedSoFar config answered steps n r → IsOwedSoFar config (answered ++ x ∷ []) (steps ++ s ∷ []) n r
so_far_step config answered x steps s seat n r (inl opening) = inl (opening ∙ ap (λ (ss : List Step). length ss) (sym (own_more steps s seat).1))
so_far_step config answered x steps s seat n r (inr (inl o)) = inr (inl (step_more config steps s n r o))
so_far_step config answered x steps s seat n r (inr (inr t)) = inr (inr (record {
  before = t.before;
  now = t.now;
  answer = t.answer;
  behind = t.behind ++ x ∷ [];
  is = ap (λ (xs : List Answered). xs ++ x ∷ []) t.is ∙ append_assoc t.before _ (x ∷ []);
  place = t.place ∙ ap (λ (ss : List Step). steps_behind (length ss) t.before) (sym (own_more steps s seat).1);
  old = t.old;
}))

pub so_far_line : (config : Config) (answered : List Answered) (x : Answered) (steps : List Step) (n : ℕ) (r : Receipted) → IsOwedSoFar config answered steps n r → IsOwedSoFar config (answered ++ x ∷ []) steps n r
so_far_line config answered x steps n r (inl opening) = inl opening
so_far_line config answered x steps n r (inr (inl o)) = inr (inl o)
so_far_line config answered x steps n r (inr (inr t)) = inr (inr (record { before = t.before; now = t.now; answer = t.answer; behind = t.behind ++ x ∷ []; is = ap (λ (xs : List Answered). xs ++ x ∷ []) t.is ∙ append_assoc t.before _ (x ∷ []); place = t.place; old = t.old }))

-- ---- the opening's receipt

any_more : (p : Receipted → Bool) (rs : List Receipted) (r : Receipted) → list_any p rs ≡ true → list_any p (rs ++ r ∷ []) ≡ true
any_more p [] r is = absurd cc
any_more p (q ∷ qs) r is = by (p q) refl (any_more p qs r) where
  by : (b : Bool) → p q ≡ b → (list_any p qs ≡ true → list_any p (qs ++ r ∷ []) ≡ true) → (p q || list_any p (qs ++ r ∷ [])) ≡ true
  by true here rest = ap (λ x. x || list_any p (qs ++ r ∷ [])) here
  by false here rest = ap (λ x. x || list_any p (qs ++ r ∷ [])) here ∙ rest (sym (ap (λ x. x || list_any p qs) here) ∙ is)

abbrev pub counts_opening : List Step → Receipted → Bool
counts_opening opening r = eqb r.durable (length (history_of opening)) && leb r.steps (length opening)

pub opened_more : (steps : List Step) (rs : List Receipted) (r : Receipted) → IsTrue (is_opened steps rs) → IsTrue (is_opened steps (rs ++ r ∷ []))
opened_more steps rs r is = any_more (counts_opening (rolled steps)) rs r is

pub opened_step : (steps : List Step) (s : Step) (rs : List Receipted) → s.seat ≡ 1 → IsTrue (is_opened steps rs) → IsTrue (is_opened (steps ++ s ∷ []) rs)
opened_step steps s rs seat is = subst (λ (ss : List Step). IsTrue (list_any (counts_opening ss) rs)) (sym (own_more steps s seat).1) is

opening_counts : (O : ℕ → Receipted → Type 0) (steps : List Step) (n : ℕ) (q : Receipted) (rs : List Receipted) → n ≡ length (history_of steps) → q.steps ≤ length steps → AreOwed O steps q.durable rs → EndsWith n q rs → list_any (counts_opening steps) (q ∷ rs) ≡ true
opening_counts O steps n q [] all le owed ends =
    ap (λ (b : Bool). (b && leb q.steps (length steps)) || false) (eq-eqb q.durable (length (history_of steps)) (ends ∙ all)) ∙ ap (λ (b : Bool). b || false) (le-leb q.steps (length steps) le)
opening_counts O steps n q (r ∷ rs) all le owed ends = by (counts_opening steps q) (opening_counts O steps n r rs all (omega (arith, owed.1.place, ap length owed.1.is, length-append owed.1.before owed.1.behind)) owed.3 ends) where
  by : (b : Bool) → list_any (counts_opening steps) (r ∷ rs) ≡ true → (b || list_any (counts_opening steps) (r ∷ rs)) ≡ true
  by true is = refl
  by false is = is

-- a receipt counts all appends of these steps, where the last one does
pub begun_counts : (O : ℕ → Receipted → Type 0) (steps : List Step) (n : ℕ) (rs : List Receipted) → n ≡ length (history_of steps) → BeginOwed O steps rs → IsLastCount n rs → list_any (counts_opening steps) rs ≡ true
begun_counts O steps n [] all owed last = absurd last
begun_counts O steps n (q ∷ qs) all owed last = opening_counts O steps n q qs all (omega (arith, owed.1)) owed.2 last

-- ---- one step more

abbrev pub len_or : Option ℕ → ℕ
len_or None = 0
len_or (Some len) = len

end_snoc : (ps : List Placed) (q : Placed) → end_of (ps ++ q ∷ []) ≡ q.place + len_of q.rec
end_snoc [] q = refl
end_snoc (p ∷ []) q = refl
end_snoc (p ∷ r ∷ rs) q = end_snoc (r ∷ rs) q

waiting_snoc : (d : ℕ) (h : List Placed) (p : Placed) → d ≤ length h → waiting_behind d (h ++ p ∷ []) ≡ waiting_behind d h + len_of p.rec
waiting_snoc d h p le = ap (sum_by (λ (q : Placed). len_of q.rec)) (drop-append-le d h (p ∷ []) le) ∙ sum_by_push (λ (q : Placed). len_of q.rec) (drop d h) p

pub waiting_none : (h : List Placed) → waiting_behind (length h) h ≡ 0
waiting_none h = ap (sum_by (λ (q : Placed). len_of q.rec)) (drop_all (length h) h (omega arith))

placed_later : (answered : List Answered) (x : Answered) (place : ℕ) → IsPlacedIn answered place → IsPlacedIn (answered ++ x ∷ []) place
placed_later answered x place p = record { front = p.front; line = p.line; back = p.back ++ x ∷ []; is = ap (λ (xs : List Answered). xs ++ x ∷ []) p.is ∙ append_assoc p.front (p.line ∷ p.back) (x ∷ []); placed = p.placed }

module _ (opened : ℕ) (answered : List Answered) (x : Answered) (config : Config) (l : Lists) (appended durable waiting end : ℕ) (was : IsOwing opened answered config l appended durable waiting end) where
  -- a line that leaves steps and receipts
  pub owing_line : IsOwing opened (answered ++ x ∷ []) config l appended durable waiting end
  owing_line = record {
    history = was.history;
    waits = was.waits;
    ends = was.ends;
    last = was.last;
    each = λ place least most. placed_later answered x place (was.each place least most);
    owed = begin_weaker (IsOwedSoFar config answered l.steps) (IsOwedSoFar config (answered ++ x ∷ []) l.steps) l.steps l.steps l.receipts (λ r c. c) (λ n r c o. so_far_line config answered x l.steps n r o) was.owed;
    begun = was.begun;
  }

  -- what waits was made durable by a line without a step
  pub owing_flushed : (moment : ℕ) (l' : Lists) → durable < appended → l'.steps ≡ l.steps → (let r : Receipted = record { durable = appended; moment = moment; steps = length l.steps } in (l'.receipts ≡ l.receipts ++ r ∷ []) × IsOwedSoFar config (answered ++ x ∷ []) l.steps durable r) → IsOwing opened (answered ++ x ∷ []) config l' appended appended 0 end
  owing_flushed moment l' more steps receipts =
      let r : Receipted = record { durable = appended; moment = moment; steps = length l.steps } in
      let O : ℕ → Receipted → Type 0 = IsOwedSoFar config (answered ++ x ∷ []) l.steps in
      let later = begin_snoc O l.steps durable l.receipts r was.last more (counts_now l.steps appended moment was.history) receipts.1 owing_line.owed in
      record {
        history = was.history ∙ ap (λ (ss : List Step). length (history_of ss)) (sym steps);
        waits = sym (waiting_none (history_of l.steps)) ∙ ap (λ (n : ℕ). waiting_behind n (history_of l.steps)) (sym was.history) ∙ ap (λ (ss : List Step). waiting_behind appended (history_of ss)) (sym steps);
        ends = was.ends ∙ ap (λ (ss : List Step). end_of (history_of ss)) (sym steps);
        last = subst (IsLastCount appended) (sym receipts.0) (last_is l.receipts);
        each = owing_line.each;
        owed = subst (λ (ss : List Step). BeginOwed (IsOwedSoFar config (answered ++ x ∷ []) ss) ss l'.receipts) (sym steps) (subst (BeginOwed O l.steps) (sym receipts.0) later);
        begun = subst (λ (ss : List Step). IsTrue (is_opened ss l'.receipts)) (sym steps) (subst (λ (rs : List Receipted). IsTrue (is_opened l.steps rs)) (sym receipts.0) (opened_more l.steps l.receipts r was.begun));
      }
    where
      ends_is : (q : Receipted) (rs : List Receipted) → EndsWith appended q (rs ++ record { durable = appended; moment = moment; steps = length l.steps } ∷ [])
      ends_is q [] = refl
      ends_is q (y ∷ ys) = ends_is y ys

      last_is : (rs : List Receipted) → IsLastCount appended (rs ++ record { durable = appended; moment = moment; steps = length l.steps } ∷ [])
      last_is [] = refl
      last_is (y ∷ ys) = ends_is y ys

  -- a step was noted, and what waits made durable before it or not
  module _ (s : Step) (flush : Bool) (moment : ℕ) (l' : Lists) (appended' durable' waiting' end' : ℕ) (low : durable ≤ appended) (seat : s.seat ≡ 1) (steps : l'.steps ≡ l.steps ++ s ∷ [])
      (receipts : l'.receipts ≡ cond (ltb durable durable') (l.receipts ++ record { durable = appended; moment = moment; steps = length l.steps } ∷ []) l.receipts) (durable_is : durable' ≡ cond flush appended durable)
      (waiting_is : waiting' ≡ cond flush 0 waiting + len_or (option_map (λ (p : Placed). len_of p.rec) s.placed)) (end_none : s.placed ≡ None → end' ≡ end) (end_some : IfSome s.placed (λ p. p.place + len_of p.rec ≡ end')) (history : appended' ≡ length (history_of l'.steps))
      (first : flush ≡ true → FlushesFirst config durable l.steps s) (last : IsLastCount durable' l'.receipts) (here : (p : Placed) → s.placed ≡ Some p → placed_at x ≡ Some appended) where
    abbrev h : List Placed
    h = history_of l.steps

    behind : history_of l'.steps ≡ h ++ cons_option s.placed []
    behind = ap history_of steps ∙ history-snoc l.steps s

    some_behind : (p : Placed) → s.placed ≡ Some p → history_of l'.steps ≡ h ++ p ∷ []
    some_behind p is = behind ∙ ap (λ (o : Option Placed). h ++ cons_option o []) is

    none_behind : s.placed ≡ None → history_of l'.steps ≡ h
    none_behind is = behind ∙ ap (λ (o : Option Placed). h ++ cons_option o []) is ∙ append-nil h

    flushed_wait : (b : Bool) → (cond b 0 waiting ≡ waiting_behind (cond b appended durable) h) × (cond b appended durable ≤ length h)
    flushed_wait true = (sym (waiting_none h) ∙ ap (λ (n : ℕ). waiting_behind n h) (sym was.history), omega (arith, was.history))
    flushed_wait false = (was.waits, omega (arith, was.history, low))

    waits_now : (o : Option Placed) → s.placed ≡ o → waiting' ≡ waiting_behind durable' (history_of l'.steps)
    waits_now None is =
        let w = flushed_wait flush in
        omega (arith, waiting_is, ap (λ (o : Option Placed). len_or (option_map (λ (p : Placed). len_of p.rec) o)) is, w.0, ap (λ (n : ℕ). waiting_behind n h) durable_is, ap (waiting_behind durable') (none_behind is))
    waits_now (Some p) is =
        let w = flushed_wait flush in
        omega (arith, waiting_is, ap (λ (o : Option Placed). len_or (option_map (λ (p : Placed). len_of p.rec) o)) is, w.0, ap (λ (n : ℕ). waiting_behind n (h ++ p ∷ [])) durable_is, ap (waiting_behind durable') (some_behind p is), waiting_snoc (cond flush appended durable) h p w.1)

    ends_now : (o : Option Placed) → s.placed ≡ o → end' ≡ end_of (history_of l'.steps)
    ends_now None is = end_none is ∙ was.ends ∙ ap end_of (sym (none_behind is))
    ends_now (Some p) is = sym (subst (λ (o : Option Placed). IfSome o (λ p. p.place + len_of p.rec ≡ end')) is end_some) ∙ sym (end_snoc h p) ∙ ap end_of (sym (some_behind p is))

    each_now : (o : Option Placed) → s.placed ≡ o → (place : ℕ) → opened ≤ place → place < appended' → IsPlacedIn (answered ++ x ∷ []) place
    each_now None is place least most = placed_later answered x place (was.each place least (omega (arith, most, history, was.history, ap (λ (ps : List Placed). length ps) (none_behind is))))
    each_now (Some p) is place least most = by (ltb place appended) refl where
      by : (b : Bool) → ltb place appended ≡ b → IsPlacedIn (answered ++ x ∷ []) place
      by true lt = placed_later answered x place (was.each place least (ltb-true _ _ lt))
      by false ge =
          let same : appended ≡ place = omega (arith, ltb-false _ _ ge, most, history, was.history, ap (λ (ps : List Placed). length ps) (some_behind p is), length-append h (p ∷ [])) in
          record { front = answered; line = x; back = []; is = refl; placed = here p is ∙ ap Some same }

    abbrev O : ℕ → Receipted → Type 0
    O = IsOwedSoFar config (answered ++ x ∷ []) (l.steps ++ s ∷ [])

    before_owed : BeginOwed O (l.steps ++ s ∷ []) l.receipts
    before_owed = begin_weaker (IsOwedSoFar config answered l.steps) O l.steps (l.steps ++ s ∷ []) l.receipts (counts_more l.steps s) (λ n r c o. so_far_step config answered x l.steps s seat n r o) was.owed

    abbrev one : Receipted
    one = record { durable = appended; moment = moment; steps = length l.steps }

    grown : durable < durable' → (flush ≡ true) × (durable < appended)
    grown more = by flush durable_is where
      by : (b : Bool) → durable' ≡ cond b appended durable → (b ≡ true) × (durable < appended)
      by true is = (refl, omega (arith, more, is))
      by false is = absurd (omega (arith, more, is))

    owed_now : (b : Bool) → ltb durable durable' ≡ b → BeginOwed O (l.steps ++ s ∷ []) (cond b (l.receipts ++ one ∷ []) l.receipts) × IsTrue (is_opened (l.steps ++ s ∷ []) (cond b (l.receipts ++ one ∷ []) l.receipts))
    owed_now false is = (before_owed, opened_step l.steps s l.receipts seat was.begun)
    owed_now true is =
        let more = grown (ltb-true durable durable' is) in (
          begin_snoc O (l.steps ++ s ∷ []) durable l.receipts one was.last more.1 (counts_more l.steps s one (counts_now l.steps appended moment was.history)) (inr (inl (record { before = l.steps; step = s; behind = []; is = refl; place = refl; flushes = first more.0 }))) before_owed,
          opened_more (l.steps ++ s ∷ []) l.receipts one (opened_step l.steps s l.receipts seat was.begun),
        )

    pub owing_step : IsOwing opened (answered ++ x ∷ []) config l' appended' durable' waiting' end'
    owing_step = record {
      history = history;
      waits = waits_now s.placed refl;
      ends = ends_now s.placed refl;
      last = last;
      each = each_now s.placed refl;
      owed = subst (λ (ss : List Step). BeginOwed (IsOwedSoFar config (answered ++ x ∷ []) ss) ss l'.receipts) (sym steps) (subst (BeginOwed O (l.steps ++ s ∷ [])) (sym receipts) (owed_now (ltb durable durable') refl).0);
      begun = subst (λ (ss : List Step). IsTrue (is_opened ss l'.receipts)) (sym steps) (subst (λ (rs : List Receipted). IsTrue (is_opened (l.steps ++ s ∷ []) rs)) (sym receipts) (owed_now (ltb durable durable') refl).1);
    }

-- the ticks before a step count what they counted
pub step_counts : (timeout : ℕ) (answered : List Answered) (x : Answered) (l l' : Lists) (s : Step) (b : Bool) (appended moment : ℕ) → s.seat ≡ 1 → l'.steps ≡ l.steps ++ s ∷ [] → l'.receipts ≡ cond b (l.receipts ++ record { durable = appended; moment = moment; steps = length l.steps } ∷ []) l.receipts → IsLineCount timeout (length (rolled l.steps)) l'.receipts answered x
    → steps_behind (length (rolled l.steps)) answered ≤ length l.steps → AreCounted timeout (length (rolled l.steps)) l.receipts [] answered → AreCounted timeout (length (rolled l'.steps)) l'.receipts [] (answered ++ x ∷ [])
step_counts timeout answered x l l' s b appended moment seat steps receipts line many all =
    let opening : length (rolled l.steps) ≡ length (rolled l'.steps) = ap (λ (ss : List Step). length ss) (sym (own_more l.steps s seat).1 ∙ ap rolled (sym steps)) in
    let k = length (rolled l.steps) in
    subst (λ (n : ℕ). AreCounted timeout n l'.receipts [] (answered ++ x ∷ [])) opening
    (ticks_snoc timeout k l'.receipts answered x (subst (λ (rs : List Receipted). AreCounted timeout k rs [] answered) (sym receipts) (by b)) line)
  where
    by : (b : Bool) → AreCounted timeout (length (rolled l.steps)) (cond b (l.receipts ++ record { durable = appended; moment = moment; steps = length l.steps } ∷ []) l.receipts) [] answered
    by true = ticks_more timeout (length (rolled l.steps)) l.receipts (record { durable = appended; moment = moment; steps = length l.steps }) answered many all
    by false = all

-- ---- what a command leaves of an engine's numbers

abbrev one_or : Option ℕ → ℕ
one_or None = 0
one_or (Some len) = 1

module _ {D C : Type 0} (e : EngineOf D C) where
  abbrev Gone : List ℕ → EngineOf D C
  Gone ids = elim ids [
    | [] ↦ record (flushed e) { file = e.highest + 1; end = 16; highest = e.highest + 1 }
    | id ∷ ids ↦ record (flushed e) { file = id; end = 16; free = ids }
  ]

  abbrev Ready : Bool → Bool → EngineOf D C
  Ready m b = cond m (moved e) (cond b (flushed e) e)

  gone_numbers : (ids : List ℕ) → ((Gone ids).durable ≡ e.appended) × ((Gone ids).waiting ≡ 0) × ((Gone ids).config ≡ e.config)
  gone_numbers [] = (refl, refl, refl)
  gone_numbers (id ∷ ids) = (refl, refl, refl)

  ready_numbers : (m b : Bool) → ((Ready m b).durable ≡ cond (m || b) e.appended e.durable) × ((Ready m b).waiting ≡ cond (m || b) 0 e.waiting) × ((Ready m b).config ≡ e.config)
  ready_numbers true b = gone_numbers e.free
  ready_numbers false true = (refl, refl, refl)
  ready_numbers false false = (refl, refl, refl)

  put_numbers : (o : Option ℕ) (f : EngineOf D C) → ((with_record o f).durable ≡ f.durable) × ((with_record o f).waiting ≡ f.waiting + len_or o) × ((with_record o f).config ≡ f.config)
  put_numbers None f = (refl, omega arith, refl)
  put_numbers (Some len) f = (refl, refl, refl)

  pub behind_numbers : (command : Command) → (let m = moves e command || flushes e.config.buffer_size e.waiting command in ((behind_command command e).durable ≡ cond m e.appended e.durable) × ((behind_command command e).waiting ≡ cond m 0 e.waiting + len_or (record_len command)) × ((behind_command command e).config ≡ e.config))
  behind_numbers command =
      let m = moves e command in
      let b = flushes e.config.buffer_size e.waiting command in
      let put = put_numbers (record_len command) (Ready m b) in
      let ready = ready_numbers m b in
      (put.0 ∙ ready.0, put.1 ∙ ap (λ (n : ℕ). n + len_or (record_len command)) ready.1, put.2 ∙ ready.2)

  end_by : (o : Option ℕ) (b : Bool) → o ≡ None → (with_record o (cond (passes e.config.file_size e.end o) (moved e) (cond b (flushed e) e))).end ≡ e.end
  end_by None true is = refl
  end_by None false is = refl
  end_by (Some len) b is = absurd cc

  -- where there is no record the last append ends there still
  pub behind_end : (command : Command) → record_len command ≡ None → (behind_command command e).end ≡ e.end
  behind_end command none = end_by (record_len command) (flushes e.config.buffer_size e.waiting command) none

-- a record's length doesn't depend on its number of records
len_same : (command : Command) (n : ℕ) (rec : Record) → record_of command n ≡ Some rec → record_len command ≡ Some (len_of rec)
len_same (c.Add id user_type body) n rec is = ap (option_map len_of) is
len_same (c.Update id user_type body) n rec is = ap (option_map len_of) is
len_same (c.Delete id) n rec is = ap (option_map len_of) is
len_same (c.AddTx tx id user_type body) n rec is = ap (option_map len_of) is
len_same (c.UpdateTx tx id user_type body) n rec is = ap (option_map len_of) is
len_same (c.DeleteTx tx id body) n rec is = ap (option_map len_of) is
len_same (c.Prepare tx extra) n rec is = ap (option_map len_of) is
len_same (c.Commit tx) n rec is = ap (option_map len_of) is
len_same (c.Rollback tx) n rec is = ap (option_map len_of) is
len_same c.Begin n rec is = absurd (let e : None ≡ Some rec = is in cc)
len_same c.Flush n rec is = absurd (let e : None ≡ Some rec = is in cc)

placed_len : (base : List Placed) (steps : List Step) (config : Config) (command : Command) (placed : Option Placed) → Appends base steps config command placed → record_len command ≡ option_map (λ (p : Placed). len_of p.rec) placed
placed_len base steps config command None is = ap (option_map len_of) is
placed_len base steps config command (Some p) is = len_same command _ p.rec is.0

legal_last : (base : List Placed) (config : Config) (before ss : List Step) (s : Step) → AreLegalFrom base config before (ss ++ s ∷ []) → IsLegalStep base (before ++ ss) config s
legal_last base config before [] s all = subst (λ (b : List Step). IsLegalStep base b config s) (sym (append-nil before)) all.0
legal_last base config before (t ∷ ts) s all = subst (λ (b : List Step). IsLegalStep base b config s) (append_assoc before (t ∷ []) ts) (legal_last base config (before ++ t ∷ []) ts s all.1)

-- what may be placed behind this answer
abbrev PlacedFor : List Placed → List Step → Config → Command → Option Placed → Answer → Type 0
PlacedFor base steps config command placed a = elim a [ Done reply ↦ Appends base steps config command placed | Refused refusal ↦ placed ≡ None ]

-- the length of the record that the last step appended
pub last_len : (base : List Placed) (config : Config) (steps : List Step) (s : Step) (reply : Reply) → s.answer ≡ Done reply → AreLegalFrom base config [] (steps ++ s ∷ []) → record_len s.command ≡ option_map (λ (p : Placed). len_of p.rec) s.placed
last_len base config steps s reply is all =
    let p = (legal_last base config [] steps s all).placed in
    placed_len base steps config s.command s.placed (subst (PlacedFor base steps config s.command s.placed) is p)

pub last_none : (base : List Placed) (config : Config) (steps : List Step) (s : Step) (refusal : Refusal) → s.answer ≡ Refused refusal → AreLegalFrom base config [] (steps ++ s ∷ []) → s.placed ≡ None
last_none base config steps s refusal is all =
    subst (PlacedFor base steps config s.command s.placed) is (legal_last base config [] steps s all).placed

needs_by : (size end : ℕ) (o : Option Record) → (elim o [ None ↦ false | Some rec ↦ ltb size (end + len_of rec) ]) ≡ passes size end (option_map len_of o)
needs_by size end None = refl
needs_by size end (Some rec) = refl

-- it flushes first, as the history says
pub flushes_first : {D C : Type 0} (e : EngineOf D C) (durable : ℕ) (steps : List Step) (s : Step) (command : Command) → s.command ≡ command → IsDone s.answer → e.waiting ≡ waiting_behind durable (history_of steps) → e.end ≡ end_of (history_of steps) → (moves e command || flushes e.config.buffer_size e.waiting command) ≡ true
    → FlushesFirst e.config durable steps s
flushes_first e durable steps s command is done waits ends flush = record {
  accepted = done;
  needed = subst (λ (c : Command). IsTrue (flushes e.config.buffer_size (waiting_behind durable (history_of steps)) c || needs_file (history_of steps) e.config c)) (sym is) needed;
} where
  either_way : (a b : Bool) → (a || b) ≡ true → (b || a) ≡ true
  either_way true true is = refl
  either_way true false is = refl
  either_way false true is = refl
  either_way false false is = is

  needed : (flushes e.config.buffer_size (waiting_behind durable (history_of steps)) command || needs_file (history_of steps) e.config command) ≡ true
  needed =
      ap (λ (b : Bool). flushes e.config.buffer_size (waiting_behind durable (history_of steps)) command || b) (needs_by e.config.file_size (end_of (history_of steps)) (record_of command 0) ∙ ap (λ (n : ℕ). passes e.config.file_size n (record_len command)) (sym ends))
      ∙ ap (λ (n : ℕ). flushes e.config.buffer_size n command || moves e command) (sym waits)
      ∙ either_way (moves e command) (flushes e.config.buffer_size e.waiting command) flush
