-- How a replay goes on by a line, and how it ends.
use Rattle.std.proofs.Common.{◌≡◌, ◌⊎◌, inl, inr, ℕ, ◌≤◌, false, List, [], ◌∷◌, ◌++◌, length, map, Option, None, Some, refl, sym, ap, subst, ◌∙◌, append_assoc, arith}
use Rattle.std.specs.Prelude.{All, Err, IsTrue, reverse}
use Rattle.std.proofs.lemmas.List.{append-nil, length-append, length-map, length-take, map-append, take-append-le, take_all, reverse-append}
use Rattle.std.proofs.lemmas.List.Elements.{All-head, All-tail}
use Rattle.std.proofs.lemmas.Grind.{flat_map-append}
use Rattle.amq_model.specs.declared.script.Line.{Line}
use Rattle.amq_model.specs.declared.history.Answer.{Answer}
use Rattle.amq_model.specs.declared.history.Step.{Step}
use Rattle.amq_model.specs.declared.refusal.DiskCall.{DiskCall}
use Rattle.amq_model.specs.declared.refusal.Refusal.{Refusal}
use Rattle.amq_model.specs.declared.refusal.Refusal.TheVariants as r
use Rattle.amq_engine.specs.declared.chronicle.Kept.{Kept}
use Rattle.amq_engine.specs.declared.chronicle.Receipted.{Receipted}
use Rattle.amq_engine.specs.Engine.{EngineOf, is_noted, IsFlushRefusal}
use Rattle.amq_cli.specs.Offline.{lists_of}
use Rattle.amq_cli.specs.Replay.{Answered, line_of, reply_lines, AreAnswered, AreLineAnswers, HasEnded, HasReplayed, IsLast}
use Rattle.amq_engine.specs.Lists.{Lists}
use Rattle.amq_model.specs.declared.config.Config.{Config}
use Rattle.amq_model.specs.Answers.{history_of}
use Rattle.amq_engine.specs.Receipts.{IsLastCount}
use Rattle.amq_engine.specs.Owed.{BeginOwed}
use Rattle.amq_engine.proofs.Owing.{begin_weaker, begin_snoc}
use Rattle.amq_cli.specs.Owed.{IsOwedSoFar, IsOwed, is_opened, HasOwed}
use Rattle.amq_cli.specs.Playing.{Grows, HasNoStep, IsPlaying, HasPlayed, AreNumbersOf}
use Rattle.amq_cli.proofs.Owing.{ticks_grown, opened_more}
use Rattle.amq_cli.proofs.Answering.{more_receipts}

-- a refusal that isn't an answer, of a journal that isn't closed
pub last_of_command : (refusal : Refusal) → is_noted (Err refusal) ≡ false → ((call : DiskCall) → refusal ≡ r.Closed call → ⊥) → IsLast refusal
last_of_command (r.Closed call) ends unclosed = absurd (unclosed call refl)
last_of_command (r.Disk call) ends unclosed = tt
last_of_command r.NoMemory ends unclosed = tt
last_of_command (r.TooLarge len limit) ends unclosed = absurd cc
last_of_command (r.NoTx tx) ends unclosed = absurd cc
last_of_command (r.TxPrepared tx) ends unclosed = absurd cc
last_of_command (r.Held id tx) ends unclosed = absurd cc
last_of_command (r.AlreadyLive id) ends unclosed = absurd cc
last_of_command (r.NoRecord id) ends unclosed = absurd cc
last_of_command (r.TxNumbersSpent highest) ends unclosed = absurd cc
last_of_command (r.Compacting phase) ends unclosed = absurd cc
last_of_command (r.FileIdsSpent highest) ends unclosed = absurd cc

pub last_of_tick : (refusal : Refusal) → IsFlushRefusal refusal → ((call : DiskCall) → refusal ≡ r.Closed call → ⊥) → IsLast refusal
last_of_tick (r.Closed call) is unclosed = absurd (unclosed call refl)
last_of_tick (r.Disk call) is unclosed = tt
last_of_tick r.NoMemory is unclosed = tt
last_of_tick (r.TooLarge len limit) is unclosed = absurd is
last_of_tick (r.NoTx tx) is unclosed = absurd is
last_of_tick (r.TxPrepared tx) is unclosed = absurd is
last_of_tick (r.Held id tx) is unclosed = absurd is
last_of_tick (r.AlreadyLive id) is unclosed = absurd is
last_of_tick (r.NoRecord id) is unclosed = absurd is
last_of_tick (r.TxNumbersSpent highest) is unclosed = absurd is
last_of_tick (r.Compacting phase) is unclosed = absurd is
last_of_tick (r.FileIdsSpent highest) is unclosed = absurd is

lines_more : (answered : List Answered) (x : Answered) → reply_lines (answered ++ x ∷ []) ≡ reply_lines answered ++ line_of x
lines_more answered x = flat_map-append line_of answered (x ∷ []) ∙ ap (λ (t : List ℕ). reply_lines answered ++ t) (append-nil (line_of x))

-- with more receipts
pub answered_more : (timeout : ℕ) (lines : List Line) (durable appended : ℕ) (old new : Lists) (answered : List Answered) → HasNoStep durable appended old new → AreAnswered timeout lines old.steps old.receipts answered → AreAnswered timeout lines new.steps new.receipts answered
answered_more timeout lines durable appended old new answered kept are = subst (λ ss. AreAnswered timeout lines ss new.receipts answered) (sym kept.steps) (record {
  front = are.front;
  commands = are.commands;
  numbered = are.numbered;
  receipted = λ k d lt. more_receipts durable appended old new kept.receipts _ (are.receipted k d lt);
  answers = are.answers;
  counts = ticks_grown timeout durable appended old new answered are.commands kept.receipts are.counts;
})

module _ {D : Type 0} (timeout : ℕ) where
  -- what was played is a front of any script that goes on with these lines
  pub are_answered : (done more : List Line) (number : ℕ) (answered : List Answered) (e : EngineOf D Kept) → map (λ x. x.0) answered ≡ done → IsPlaying timeout answered number e → AreAnswered timeout (done ++ more) e.chronicle.steps.items e.chronicle.receipts.items answered
  are_answered done more number answered e lines playing = record {
    front = lines ∙ sym (take_all (length answered) done (omega (arith, long))) ∙ sym (take-append-le (length answered) done more (omega (arith, long)));
    commands = playing.steps.commands;
    numbered = playing.steps.numbered;
    receipted = playing.numbers.receipted;
    answers = subst (λ (n : ℕ). AreLineAnswers n timeout [] answered) (sym playing.steps.rolls) playing.answers;
    counts = playing.counts;
  } where
    long : length answered ≡ length done
    long = sym (length-map answered (λ (x : Answered). x.0)) ∙ ap length lines

  -- a line was answered, and its text written
  pub line_played : (done : List Line) (line : Line) (answer : Option Answer) (labels labels' : List ℕ → ℕ) (number number' : ℕ) (old new : EngineOf D Kept) (before after : List ℕ) → HasPlayed timeout done labels number old before
      → ((answered : List Answered) → AreNumbersOf labels answered → IsPlaying timeout answered number old → IsPlaying timeout (answered ++ (line, answer) ∷ []) number' new × AreNumbersOf labels' (answered ++ (line, answer) ∷ [])) → after ≡ before ++ line_of (line, answer)
      → HasPlayed timeout (done ++ line ∷ []) labels' number' new after
  line_played done line answer labels labels' number number' old new before after was goes is = record {
    answered = was.answered ++ (line, answer) ∷ [];
    lines = map-append (λ (x : Answered). x.0) was.answered ((line, answer) ∷ []) ∙ ap (λ (ls : List Line). ls ++ line ∷ []) was.lines;
    playing = (goes was.answered was.labelled was.playing).0;
    labelled = (goes was.answered was.labelled was.playing).1;
    is = is ∙ ap (λ (t : List ℕ). t ++ line_of (line, answer)) was.is ∙ sym (lines_more was.answered (line, answer));
  }

  -- a line ended the replay
  pub line_refused : (done : List Line) (line : Line) (labels : List ℕ → ℕ) (number : ℕ) (old new : EngineOf D Kept) (before after ending : List ℕ) → HasPlayed timeout done labels number old before → HasNoStep old.durable old.appended (lists_of old.chronicle) (lists_of new.chronicle) → after ≡ before ++ ending
      → HasEnded timeout (done ++ line ∷ []) new.chronicle.steps.items new.chronicle.receipts.items after ending
  line_refused done line labels number old new before after ending was kept is =
      let are = are_answered done (line ∷ []) number was.answered old was.lines was.playing in
      record {
        answered = was.answered;
        are = answered_more timeout (done ++ line ∷ []) old.durable old.appended (lists_of old.chronicle) (lists_of new.chronicle) was.answered kept are;
        is = is ∙ ap (λ (t : List ℕ). t ++ ending) was.is;
        early = omega (arith, sym (length-map was.answered (λ (x : Answered). x.0)) ∙ ap length was.lines, length-append done (line ∷ []));
      }

  -- all lines were answered
  pub all_played : (done : List Line) (labels : List ℕ → ℕ) (number : ℕ) (e : EngineOf D Kept) (text : List ℕ) → HasPlayed timeout done labels number e text → HasReplayed timeout done e.chronicle.steps.items e.chronicle.receipts.items text
  all_played done labels number e text p = record {
    answered = p.answered;
    are = subst (λ (ls : List Line). AreAnswered timeout ls e.chronicle.steps.items e.chronicle.receipts.items p.answered) (append-nil done) (are_answered done [] number p.answered e p.lines p.playing);
    all = sym (length-map p.answered (λ (x : Answered). x.0)) ∙ ap length p.lines;
    is = p.is;
  }

-- one line is taken from those that are left, the next one at the end
pub one_taken : (all done left rest : List Line) (line : Line) → left ≡ rest ++ line ∷ [] → done ++ reverse left ≡ all → (done ++ line ∷ []) ++ reverse rest ≡ all
one_taken all done left rest line popped so_far =
    append_assoc done (line ∷ []) (reverse rest) ∙ ap (λ (ls : List Line). done ++ ls) (sym (ap reverse popped ∙ reverse-append rest (line ∷ []))) ∙ so_far

-- a journal that isn't closed isn't
pub still_open : (closed : Option DiskCall) (call : DiskCall) → closed ≡ None → closed ≡ Some call → ⊥
still_open closed call none is = let e : None ≡ Some call = sym none ∙ is in cc

-- of a script that goes on
pub ended_more : (timeout : ℕ) (front more : List Line) (steps : List Step) (receipts : List Receipted) (text ending : List ℕ) → HasEnded timeout front steps receipts text ending → HasEnded timeout (front ++ more) steps receipts text ending
ended_more timeout front more steps receipts text ending e =
    let long : length e.answered ≤ length front = omega (arith, sym (length-map e.answered (λ (x : Answered). x.0)), ap length e.are.front, length-take (length e.answered) front) in
    record {
      answered = e.answered;
      are = record {
        front = e.are.front ∙ sym (take-append-le (length e.answered) front more long);
        commands = e.are.commands;
        numbered = e.are.numbered;
        receipted = e.are.receipted;
        answers = e.are.answers;
        counts = e.are.counts;
      };
      is = e.is;
      early = omega (arith, e.early, length-append front more);
    }

-- the same of what is owed
pub owed_front : (config : Config) (front more : List Line) (steps : List Step) (receipts : List Receipted) → HasOwed config front steps receipts → HasOwed config (front ++ more) steps receipts
owed_front config front more steps receipts o =
    let long : length o.answered ≤ length front = omega (arith, sym (length-map o.answered (λ (x : Answered). x.0)), ap length o.are.front, length-take (length o.answered) front) in
    record {
      answered = o.answered;
      are = record {
        front = o.are.front ∙ sym (take-append-le (length o.answered) front more long);
        commands = o.are.commands;
        numbered = o.are.numbered;
        receipted = o.are.receipted;
        answers = o.are.answers;
        counts = o.are.counts;
      };
      owed = o.owed;
      opened = o.opened;
    }

-- each receipt of a replay under way is owed
pub played_owed : {D : Type 0} (timeout : ℕ) (done more : List Line) (number : ℕ) (answered : List Answered) (e : EngineOf D Kept) → map (λ x. x.0) answered ≡ done → IsPlaying timeout answered number e → HasOwed e.config (done ++ more) e.chronicle.steps.items e.chronicle.receipts.items
played_owed timeout done more number answered e lines playing =
    let steps = e.chronicle.steps.items in
    record {
      answered = answered;
      are = subst (λ (t : ℕ). AreAnswered t (done ++ more) steps e.chronicle.receipts.items answered) playing.time (are_answered timeout done more number answered e lines playing);
      owed = begin_weaker (IsOwedSoFar e.config answered steps) (IsOwed e.config answered steps) steps steps e.chronicle.receipts.items (λ r c. c) (λ n r c o. inl o) playing.owing.owed;
      opened = inr playing.owing.begun;
    }

-- a further receipt behind all steps is owed
pub owed_more : (config : Config) (lines : List Line) (durable appended : ℕ) (old new : Lists) → IsLastCount durable old.receipts → appended ≡ length (history_of old.steps) → HasNoStep durable appended old new → HasOwed config lines old.steps old.receipts → HasOwed config lines new.steps new.receipts
owed_more config lines durable appended old new last history kept o = record {
  answered = o.answered;
  are = answered_more config.buffer_timeout lines durable appended old new o.answered kept o.are;
  owed = subst (λ (ss : List Step). BeginOwed (IsOwed config o.answered ss) ss new.receipts) (sym kept.steps) (owed_by kept.receipts);
  opened = subst (λ (ss : List Step). (o.answered ≡ []) ⊎ IsTrue (is_opened ss new.receipts)) (sym kept.steps) (opened_by kept.receipts o.opened);
} where
  owed_by : Grows durable appended old new → BeginOwed (IsOwed config o.answered old.steps) old.steps new.receipts
  owed_by (inl same) = subst (BeginOwed (IsOwed config o.answered old.steps) old.steps) (sym same) o.owed
  owed_by (inr one) = subst (BeginOwed (IsOwed config o.answered old.steps) old.steps) (sym one.1)
      (begin_snoc (IsOwed config o.answered old.steps) old.steps durable old.receipts one.0 last (omega (arith, one.3, one.4)) (record { before = old.steps; behind = []; is = sym (append-nil old.steps); place = one.2; count = one.3 ∙ history }) (inr one.2) o.owed)

  opened_by : Grows durable appended old new → (o.answered ≡ []) ⊎ IsTrue (is_opened old.steps old.receipts) → (o.answered ≡ []) ⊎ IsTrue (is_opened old.steps new.receipts)
  opened_by grows (inl none) = inl none
  opened_by (inl same) (inr is) = inr (subst (λ (rs : List Receipted). IsTrue (is_opened old.steps rs)) (sym same) is)
  opened_by (inr one) (inr is) = inr (subst (λ (rs : List Receipted). IsTrue (is_opened old.steps rs)) (sym one.1) (opened_more old.steps old.receipts one.0 is))

-- no call was made
pub none_noted : (durable appended : ℕ) (l : Lists) → HasNoStep durable appended l l
none_noted durable appended l = record { steps = refl; receipts = inl refl }

-- a line that ended the replay left each receipt owed
pub refused_owed : {D : Type 0} (timeout : ℕ) (done : List Line) (line : Line) (labels : List ℕ → ℕ) (number : ℕ) (old new : EngineOf D Kept) (text : List ℕ) → HasPlayed timeout done labels number old text → HasNoStep old.durable old.appended (lists_of old.chronicle) (lists_of new.chronicle)
    → HasOwed old.config (done ++ line ∷ []) new.chronicle.steps.items new.chronicle.receipts.items
refused_owed timeout done line labels number old new text was kept =
    owed_more old.config (done ++ line ∷ []) old.durable old.appended (lists_of old.chronicle) (lists_of new.chronicle) was.playing.owing.last was.playing.owing.history kept (played_owed timeout done (line ∷ []) number was.answered old was.lines was.playing)

-- all lines were answered
pub all_owed : {D : Type 0} (timeout : ℕ) (done : List Line) (labels : List ℕ → ℕ) (number : ℕ) (e : EngineOf D Kept) (text : List ℕ) → HasPlayed timeout done labels number e text → HasOwed e.config done e.chronicle.steps.items e.chronicle.receipts.items
all_owed timeout done labels number e text p = subst (λ (ls : List Line). HasOwed e.config ls e.chronicle.steps.items e.chronicle.receipts.items) (append-nil done) (played_owed timeout done [] number p.answered e p.lines p.playing)

-- what is so of all lines is so of the last one
pub last_of_all : {X : Type 0} (P : X → Type 0) (xs : List X) (x : X) → All P (xs ++ x ∷ []) → P x
last_of_all P [] x all = All-head P x [] all
last_of_all P (y ∷ ys) x all = last_of_all P ys x (All-tail P y (ys ++ x ∷ []) all)

-- labels that stand for the same numbers
pub same_labels : {D : Type 0} (timeout : ℕ) (done : List Line) (labels labels' : List ℕ → ℕ) (number : ℕ) (e : EngineOf D Kept) (text : List ℕ) → ((label : List ℕ) → labels' label ≡ labels label) → HasPlayed timeout done labels number e text → HasPlayed timeout done labels' number e text
same_labels timeout done labels labels' number e text same p = record { answered = p.answered; lines = p.lines; playing = p.playing; labelled = λ label. same label ∙ p.labelled label; is = p.is }
