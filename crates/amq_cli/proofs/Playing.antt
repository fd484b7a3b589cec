-- A replay under way, line by line.
use Rattle.std.proofs.Common.{◌≡◌, ◌⊎◌, inl, inr, ℕ, ◌+◌, ◌-◌, ◌<◌, ◌≤◌, false, List, [], ◌∷◌, ◌++◌, length, Option, None, Some, refl, sym, ap, subst, ◌∙◌, append_assoc, arith}
use Rattle.std.specs.Prelude.{max, fold, All, map, not, ◌==◌, if◌then◌else◌}
use Rattle.std.specs.List.{filter_map, cons_option}
use Rattle.std.proofs.lemmas.Bool.{leb-false}
use Rattle.std.proofs.lemmas.List.{append-nil, length-append, map-append}
use Rattle.std.proofs.lemmas.List.Sums.{fold_push}
use Rattle.std.proofs.lemmas.List.Elements.{All-push, All-head, All-tail, filter-append, filter_map-append}
use Rattle.amq_model.specs.declared.command.Command.{Command}
use Rattle.amq_model.specs.declared.history.Answer.{Answer}
use Rattle.amq_model.specs.declared.history.Step.{Step}
use Rattle.amq_model.specs.Answers.{history_of}
use Rattle.amq_engine.specs.Engine.{begun, is_due}
use Rattle.amq_engine.specs.declared.chronicle.Receipted.{Receipted}
use Rattle.amq_cli.specs.Replay.{Answered, commanded, all_commanded, number_behind, placed_at, counted, ticked, clock_of, AreLineAnswers, IsLineAnswer, IsTicked, AreNumbered, IsReceipted, own, rolled}
use Rattle.amq_cli.specs.Playing.{AreNumbers, AreSteps, AreNumbersOf}

-- ---- lists

-- what stands in a list with one more at the end
pub split-snoc : {X : Type 0} (xs : List X) (x : X) (front : List X) (y : X) (back : List X) → xs ++ x ∷ [] ≡ front ++ y ∷ back → ((x ≡ y) × (front ≡ xs)) ⊎ ((rest : List X) × (xs ≡ front ++ y ∷ rest))
split-snoc [] x [] y back is = inl (first_same is, refl) where
  first_same : x ∷ [] ≡ y ∷ back → x ≡ y
  first_same e = cc
split-snoc [] x (f ∷ []) y back is = absurd (let e : [] ≡ y ∷ back = cc in cc)
split-snoc [] x (f ∷ g ∷ fs) y back is = absurd (let e : [] ≡ g ∷ (fs ++ y ∷ back) = cc in cc)
split-snoc (z ∷ zs) x [] y back is = inr (zs, (let e : z ≡ y = cc in ap (λ v. v ∷ zs) e))
split-snoc (z ∷ zs) x (f ∷ fs) y back is = by (split-snoc zs x fs y back tails) where
  tails : zs ++ x ∷ [] ≡ fs ++ y ∷ back
  tails = cc

  heads : z ≡ f
  heads = cc

  by : ((x ≡ y) × (fs ≡ zs)) ⊎ ((rest : List _) × (zs ≡ fs ++ y ∷ rest)) → ((x ≡ y) × (f ∷ fs ≡ z ∷ zs)) ⊎ ((rest : List _) × (z ∷ zs ≡ f ∷ (fs ++ y ∷ rest)))
  by (inl r) = inl (r.0, (let e : fs ≡ zs = r.1 in cc))
  by (inr r) = inr (r.0, (let e : zs ≡ fs ++ y ∷ r.0 = r.1 in cc))

-- what a list gives with one more at the end, which gives nothing
none_more : {X Y : Type 0} (f : X → Option Y) (xs : List X) (x : X) → f x ≡ None → filter_map f (xs ++ x ∷ []) ≡ filter_map f xs
none_more f xs x is = filter_map-append f xs (x ∷ []) ∙ ap (λ o. filter_map f xs ++ cons_option o []) is ∙ append-nil (filter_map f xs)

-- or which gives this
some_more : {X Y : Type 0} (f : X → Option Y) (xs : List X) (x : X) (y : Y) → f x ≡ Some y → filter_map f (xs ++ x ∷ []) ≡ filter_map f xs ++ y ∷ []
some_more f xs x y is = filter_map-append f xs (x ∷ []) ∙ ap (λ ys. filter_map f xs ++ ys) (ap (λ o. cons_option o []) is)

-- ---- the clock

pub same_clock : (answered : List Answered) (x : Answered) → ticked x ≡ None → clock_of (answered ++ x ∷ []) ≡ clock_of answered
same_clock answered x is = ap (fold max 0) (none_more ticked answered x is)

pub later_clock : (answered : List Answered) (x : Answered) (now : ℕ) → ticked x ≡ Some now → clock_of (answered ++ x ∷ []) ≡ max (clock_of answered) now
later_clock answered x now is = ap (fold max 0) (some_more ticked answered x now is) ∙ fold_push max 0 (filter_map ticked answered) now

-- ---- numbers

weaker : {X : Type 0} (P Q : X → Type 0) (xs : List X) → ((x : X) → P x → Q x) → All P xs → All Q xs
weaker P Q xs f all = λ k d lt. f _ (all k d lt)

-- all became durable, with one more receipt
pub numbers_flushed : (opened : ℕ) (answered : List Answered) (receipts receipts' : List Receipted) (clock appended durable : ℕ) (since : Option ℕ) → AreNumbers opened answered receipts clock appended durable since → ((n : ℕ) → IsReceipted receipts n → IsReceipted receipts' n) → IsReceipted receipts' appended
    → AreNumbers opened answered receipts' clock appended appended None
numbers_flushed opened answered receipts receipts' clock appended durable since n more last = record {
  time = n.time;
  count = n.count;
  below = n.below;
  least = omega (arith, n.least, n.most);
  most = omega arith;
  waits = (λ e. refl, λ e. refl);
  first = λ moment is. absurd (let e : None ≡ Some moment = is in cc);
  counts = weaker (λ count. count ≤ durable) (λ count. count ≤ appended) (filter_map counted answered) (λ count le. omega (arith, le, n.most)) n.counts;
  receipted = weaker (IsReceipted receipts) (IsReceipted receipts') (filter_map counted answered) more n.receipted;
  last = last;
}

-- with more receipts
pub weaker_receipts : (opened : ℕ) (answered : List Answered) (receipts receipts' : List Receipted) (clock appended durable : ℕ) (since : Option ℕ) → AreNumbers opened answered receipts clock appended durable since → ((n : ℕ) → IsReceipted receipts n → IsReceipted receipts' n) → IsReceipted receipts' durable
    → AreNumbers opened answered receipts' clock appended durable since
weaker_receipts opened answered receipts receipts' clock appended durable since n more last = record {
  time = n.time;
  count = n.count;
  below = n.below;
  least = n.least;
  most = n.most;
  waits = n.waits;
  first = n.first;
  counts = n.counts;
  receipted = weaker (IsReceipted receipts) (IsReceipted receipts') (filter_map counted answered) more n.receipted;
  last = last;
}

middle : (n : ℕ) (xs : List ℕ) (y : ℕ) (ys : List ℕ) → All (λ place. place < n) (xs ++ y ∷ ys) → y < n
middle n [] y ys all = All-head (λ place. place < n) y ys all
middle n (x ∷ xs) y ys all = middle n xs y ys (All-tail (λ place. place < n) x (xs ++ y ∷ ys) all)

-- the place of an append is below the count
no_place : (answered : List Answered) (appended : ℕ) (front : List Answered) (x : Answered) (back : List Answered) (place : ℕ) → All (λ place. place < appended) (filter_map placed_at answered) → answered ≡ front ++ x ∷ back → placed_at x ≡ Some place → place < appended
no_place answered appended front x back place all is at =
    let parts : filter_map placed_at answered ≡ filter_map placed_at front ++ (place ∷ filter_map placed_at back) =
    ap (filter_map placed_at) is ∙ filter_map-append placed_at front (x ∷ back) ∙ ap (λ o. filter_map placed_at front ++ cons_option o (filter_map placed_at back)) at in
    let P : List ℕ → Type 0 = All (λ place. place < appended) in
    middle appended (filter_map placed_at front) place (filter_map placed_at back) (subst P parts all)

-- one more append
pub numbers_appended : (opened : ℕ) (answered : List Answered) (x : Answered) (receipts : List Receipted) (clock appended durable : ℕ) (since : Option ℕ) → ticked x ≡ None → placed_at x ≡ Some appended → counted x ≡ None → AreNumbers opened answered receipts clock appended durable since
    → AreNumbers opened (answered ++ x ∷ []) receipts clock (appended + 1) durable (begun clock since)
numbers_appended opened answered x receipts clock appended durable since no_tick at no_count n = record {
  time = n.time ∙ sym (same_clock answered x no_tick);
  count = omega (arith, n.count, ap length (some_more placed_at answered x appended at) ∙ length-append (filter_map placed_at answered) (appended ∷ []));
  below = subst (All (λ place. place < appended + 1)) (sym (some_more placed_at answered x appended at)) (All-push (λ place. place < appended + 1) (filter_map placed_at answered) appended (weaker (λ place. place < appended) (λ place. place < appended + 1) (filter_map placed_at answered) (λ place lt. omega (arith, lt)) n.below) (omega arith));
  least = n.least;
  most = omega (arith, n.most);
  waits = (λ e. absurd (never since e), λ e. absurd (omega (arith, e, n.most)));
  first = by since refl;
  counts = subst (All (λ count. count ≤ durable)) (sym (none_more counted answered x no_count)) n.counts;
  receipted = subst (All (IsReceipted receipts)) (sym (none_more counted answered x no_count)) n.receipted;
  last = n.last;
} where
  never : (since : Option ℕ) → begun clock since ≡ None → ⊥
  never None e = cc
  never (Some first) e = cc

  by : (o : Option ℕ) → since ≡ o → (moment : ℕ) → begun clock since ≡ Some moment → (front : List Answered) (y : Answered) (back : List Answered) → answered ++ x ∷ [] ≡ front ++ y ∷ back → placed_at y ≡ Some durable → moment ≡ clock_of front
  by None none moment is front y back split place =
      let moment_is : clock ≡ moment = let e : Some clock ≡ Some moment = sym (ap (begun clock) none) ∙ is in cc in
      let all : durable ≡ appended = n.waits.0 none in
      at_last (split-snoc answered x front y back split) moment_is all
    where
      at_last : ((x ≡ y) × (front ≡ answered)) ⊎ ((rest : List Answered) × (answered ≡ front ++ y ∷ rest)) → clock ≡ moment → durable ≡ appended → moment ≡ clock_of front
      at_last (inl here) moment_is all = sym moment_is ∙ n.time ∙ ap clock_of (sym here.1)
      at_last (inr before) moment_is all = absurd (omega (arith, no_place answered appended front y before.0 durable n.below before.1 place, all))
  by (Some first) some moment is front y back split place =
      let moment_is : first ≡ moment = let e : Some first ≡ Some moment = sym (ap (begun clock) some) ∙ is in cc in
      at_last (split-snoc answered x front y back split) moment_is
    where
      at_last : ((x ≡ y) × (front ≡ answered)) ⊎ ((rest : List Answered) × (answered ≡ front ++ y ∷ rest)) → first ≡ moment → moment ≡ clock_of front
      at_last (inl here) moment_is =
          let same : appended ≡ durable = let e : Some appended ≡ Some durable = sym at ∙ ap placed_at here.0 ∙ place in cc in
          absurd (let e : None ≡ Some first = sym (n.waits.1 (sym same)) ∙ some in cc)
      at_last (inr before) moment_is = n.first moment (some ∙ ap Some moment_is) front y before.0 before.1 place

-- one more line without an append
pub numbers_answered : (opened : ℕ) (answered : List Answered) (x : Answered) (receipts : List Receipted) (clock clock' appended durable : ℕ) (since : Option ℕ) → clock' ≡ clock_of (answered ++ x ∷ []) → placed_at x ≡ None → (counted x ≡ None) ⊎ (counted x ≡ Some durable) → AreNumbers opened answered receipts clock appended durable since
    → AreNumbers opened (answered ++ x ∷ []) receipts clock' appended durable since
numbers_answered opened answered x receipts clock clock' appended durable since time no_place_here count n = record {
  time = time;
  count = n.count ∙ ap (λ (l : List ℕ). opened + length l) (sym (none_more placed_at answered x no_place_here));
  below = subst (All (λ place. place < appended)) (sym (none_more placed_at answered x no_place_here)) n.below;
  least = n.least;
  most = n.most;
  waits = n.waits;
  first = λ moment is front y back split place. at_last moment is front y back place (split-snoc answered x front y back split);
  counts = by_count (λ count. count ≤ durable) (omega arith) n.counts count;
  receipted = by_count (IsReceipted receipts) n.last n.receipted count;
  last = n.last;
} where
  at_last : (moment : ℕ) → since ≡ Some moment → (front : List Answered) (y : Answered) (back : List Answered) → placed_at y ≡ Some durable → ((x ≡ y) × (front ≡ answered)) ⊎ ((rest : List Answered) × (answered ≡ front ++ y ∷ rest)) → moment ≡ clock_of front
  at_last moment is front y back place (inl here) = absurd (let e : None ≡ Some durable = sym no_place_here ∙ ap placed_at here.0 ∙ place in cc)
  at_last moment is front y back place (inr before) = n.first moment is front y before.0 before.1 place

  by_count : (P : ℕ → Type 0) → P durable → All P (filter_map counted answered) → (counted x ≡ None) ⊎ (counted x ≡ Some durable) → All P (filter_map counted (answered ++ x ∷ []))
  by_count P here all (inl none) = subst (All P) (sym (none_more counted answered x none)) all
  by_count P here all (inr some) = subst (All P) (sym (some_more counted answered x durable some)) (All-push P (filter_map counted answered) durable all here)

-- ---- ticks

-- the count of a tick, behind which the buffer isn't due
pub tick_waits : (opened timeout : ℕ) (answered : List Answered) (receipts : List Receipted) (clock appended durable now : ℕ) (since : Option ℕ) → is_due (max clock now) timeout since ≡ false → AreNumbers opened answered receipts clock appended durable since → IsTicked opened timeout answered now durable
tick_waits opened timeout answered receipts clock appended durable now since not_due n = record {
  within = omega (arith, n.most, n.count);
  least = n.least;
  rising = n.counts;
  young = λ front x back split place. by since refl front x back split place;
} where
  by : (o : Option ℕ) → since ≡ o → (front : List Answered) (x : Answered) (back : List Answered) → answered ≡ front ++ x ∷ back → placed_at x ≡ Some durable → max (clock_of answered) now - clock_of front < timeout
  by None none front x back split place = absurd (omega (arith, no_place answered appended front x back durable n.below split place, n.waits.0 none))
  by (Some first) some front x back split place =
      let at : first ≡ clock_of front = n.first first some front x back split place in
      let late : max clock now - first < timeout = leb-false _ _ (sym (ap (is_due (max clock now) timeout) some) ∙ not_due) in
      subst (λ k. max k now - clock_of front < timeout) n.time (subst (λ k. max clock now - k < timeout) at late)

-- the count of a tick that flushed
pub tick_flushes : (opened timeout : ℕ) (answered : List Answered) (receipts : List Receipted) (clock appended durable now : ℕ) (since : Option ℕ) → AreNumbers opened answered receipts clock appended durable since → IsTicked opened timeout answered now appended
tick_flushes opened timeout answered receipts clock appended durable now since n = record {
  within = omega (arith, n.count);
  least = omega (arith, n.least, n.most);
  rising = weaker (λ count. count ≤ durable) (λ count. count ≤ appended) (filter_map counted answered) (λ count le. omega (arith, le, n.most)) n.counts;
  young = λ front x back split place. absurd (omega (arith, no_place answered appended front x back appended n.below split place));
}

-- ---- answers and steps

answers_from : (opened timeout : ℕ) (before answered : List Answered) (x : Answered) → AreLineAnswers opened timeout before answered → IsLineAnswer opened timeout (before ++ answered) x.0 x.1 → AreLineAnswers opened timeout before (answered ++ x ∷ [])
answers_from opened timeout before [] x all one = (subst (λ (xs : List Answered). IsLineAnswer opened timeout xs x.0 x.1) (append-nil before) one, tt)
answers_from opened timeout before (y ∷ ys) x all one = (all.0, answers_from opened timeout (before ++ y ∷ []) ys x all.1 (subst (λ (xs : List Answered). IsLineAnswer opened timeout xs x.0 x.1) (sym (append_assoc before (y ∷ []) ys)) one))

pub one_more_answer : (opened timeout : ℕ) (answered : List Answered) (x : Answered) → AreLineAnswers opened timeout [] answered → IsLineAnswer opened timeout answered x.0 x.1 → AreLineAnswers opened timeout [] (answered ++ x ∷ [])
one_more_answer opened timeout answered x all one = answers_from opened timeout [] answered x all one

numbered-snoc : (n : ℕ) (steps : List Step) (s : Step) → AreNumbered n steps → s.seat ≡ 1 → s.number ≡ n + length steps → AreNumbered n (steps ++ s ∷ [])
numbered-snoc n [] s are seat number = (seat, number ∙ omega arith, tt)
numbered-snoc n (t ∷ ts) s are seat number = (are.0, are.1, numbered-snoc (n + 1) ts s are.2 seat (number ∙ omega arith))

-- one line more gives the command that it sends behind all the others, if it sends one
commanded_one_more : (before answered : List Answered) (x : Answered) → all_commanded before (answered ++ x ∷ []) ≡ all_commanded before answered ++ cons_option (commanded (before ++ answered) x) []
commanded_one_more before [] x = ap (λ (xs : List Answered). cons_option (commanded xs x) []) (sym (append-nil before))
commanded_one_more before (y ∷ ys) x =
    ap (cons_option (commanded before y)) (commanded_one_more (before ++ y ∷ []) ys x) ∙ ap (λ (xs : List Answered). cons_option (commanded before y) (all_commanded (before ++ y ∷ []) ys ++ cons_option (commanded xs x) [])) (append_assoc before (y ∷ []) ys) ∙ by (all_commanded (before ++ y ∷ []) ys) (cons_option (commanded (before ++ y ∷ ys) x) []) (commanded before y) where
      by : {Y : Type 0} (cs ds : List Y) (o : Option Y) → cons_option o (cs ++ ds) ≡ cons_option o cs ++ ds
      by cs ds None = refl
      by cs ds (Some c) = refl

-- a producer's step behind the others
pub own_more : (steps : List Step) (s : Step) → s.seat ≡ 1 → (own (steps ++ s ∷ []) ≡ own steps ++ s ∷ []) × (rolled (steps ++ s ∷ []) ≡ rolled steps)
own_more steps s seat =
    let here : own (s ∷ []) ≡ s ∷ [] = ap (λ (n : ℕ). if not (n == 0) then s ∷ [] else []) seat in
    let none : rolled (s ∷ []) ≡ [] = ap (λ (n : ℕ). if n == 0 then s ∷ [] else []) seat in (
      filter-append (λ (s : Step). not (s.seat == 0)) steps (s ∷ []) ∙ ap (λ (ss : List Step). own steps ++ ss) here,
      filter-append (λ (s : Step). s.seat == 0) steps (s ∷ []) ∙ ap (λ (ss : List Step). rolled steps ++ ss) none ∙ append-nil (rolled steps),
    )

-- a command's step
pub step_more : (opened : ℕ) (answered : List Answered) (steps : List Step) (number : ℕ) (s : Step) (x : Answered) → AreSteps opened answered steps number → s.seat ≡ 1 → s.number ≡ number → commanded answered x ≡ Some (s.command, s.answer) → AreSteps opened (answered ++ x ∷ []) (steps ++ s ∷ []) (number + 1)
step_more opened answered steps number s x are seat numbered is =
    let more = own_more steps s seat in
    let given : List Step → List (Command × Answer) = map (λ (s : Step). (s.command, s.answer)) in
    record {
      rolls = ap (λ (ss : List Step). length (history_of ss)) more.1 ∙ are.rolls;
      commands = ap given more.0 ∙ map-append (λ (s : Step). (s.command, s.answer)) (own steps) (s ∷ []) ∙ ap (λ cs. cs ++ (s.command, s.answer) ∷ []) are.commands ∙ sym (commanded_one_more [] answered x ∙ ap (λ o. all_commanded [] answered ++ cons_option o []) is);
      numbered = subst (AreNumbered 1) (sym more.0) (numbered-snoc 1 (own steps) s are.numbered seat (numbered ∙ are.next ∙ omega arith));
      next = omega (arith, are.next, ap length more.0 ∙ length-append (own steps) (s ∷ []));
    }

-- a line without a command
pub steps_same : (opened : ℕ) (answered : List Answered) (steps : List Step) (number : ℕ) (x : Answered) → AreSteps opened answered steps number → commanded answered x ≡ None → AreSteps opened (answered ++ x ∷ []) steps number
steps_same opened answered steps number x are is = record {
  rolls = are.rolls;
  commands = are.commands ∙ sym (commanded_one_more [] answered x ∙ ap (λ o. all_commanded [] answered ++ cons_option o []) is ∙ append-nil (all_commanded [] answered));
  numbered = are.numbered;
  next = are.next;
}

-- ---- labels

-- behind one more line, each label stands for this number
pub labels_behind : (old new : List ℕ → ℕ) (answered : List Answered) (x : Answered) → AreNumbersOf old answered → ((label : List ℕ) → new label ≡ number_behind label (old label) x) → AreNumbersOf new (answered ++ x ∷ [])
labels_behind old new answered x are is label = is label ∙ ap (λ (n : ℕ). number_behind label n x) (are label) ∙ sym (fold_push (number_behind label) 0 answered x)
