-- In a legal history each PREPARE and COMMIT is sound, and no end of its transaction stands before it.
use Rattle.std.proofs.Common.{◌≡◌, ◌⊎◌, inl, inr, ⊎_elim, ℕ, zero, suc, ◌+◌, ◌<◌, ◌≤◌, Bool, true, false, eqb, List, [], ◌∷◌, ◌++◌, length, take, refl, sym, ap, subst, ◌∙◌, arith, Option, Some, None, max, not, append_assoc}
use Rattle.std.specs.Prelude.{IfSome, IsTrue, IsFalse, ◌&&◌, ◌||◌, fold, slice_get}
use Rattle.std.specs.List.{list_any, filter_map, cons_option}
use Rattle.std.proofs.lemmas.Bool.{eqb-true, cases_lt, false≢true}
use Rattle.std.proofs.lemmas.List.{take-append-le, take_at, append-nil}
use Rattle.std.proofs.lemmas.List.Elements.{filter_map-append}
use Rattle.std.proofs.lemmas.List.Folds.{list_any-append}
use Rattle.std.proofs.lemmas.List.Sums.{fold-append}
use Rattle.amq_model.specs.declared.record.Placed.{Placed}
use Rattle.amq_model.specs.declared.command.Command.{Command}
use Rattle.amq_model.specs.declared.config.Config.{Config}
use Rattle.amq_model.specs.declared.history.Answer.{Answer}
use Rattle.amq_model.specs.declared.history.Answer.TheVariants.{Done, Refused}
use Rattle.amq_model.specs.declared.history.Step.{Step}
use Rattle.amq_model.specs.Effect.{ends, is_sound}
use Rattle.amq_model.specs.Kept.{closing_tx}
use Rattle.amq_model.specs.Answers.{history_of, number_of, open_behind, is_some_of, is_left_open, is_open, begun_in, highest}
use Rattle.amq_model.specs.Legal.{Placing, AreLegalFrom}
use Rattle.amq_tx.proofs.WholeOrder.{IsOrdered, ordered_first, ordered_more}
use Rattle.amq_tx.proofs.WholeSteps.{Kind, kind_of}

-- a PREPARE or COMMIT is sound behind these records, and its transaction had no end among those of the history
abbrev pub IsClosing : List Placed → List Placed → Placed → Type 0
IsClosing base before p = IfSome (closing_tx p.rec) (λ tx. IsTrue (is_sound (base ++ before) p) × IsFalse (list_any (ends tx) before))

abbrev pub AreClosing : List Placed → List Placed → Type 0
AreClosing base history = (h : ℕ) → IfSome (slice_get history h) (IsClosing base (take h history))

-- what goes on from step to step: no end of an open transaction stands in the history, and no number of an open or ended one is above the highest
pub record LegalFacts (base : List Placed) (before : List Step) : Type 0 where
  pub ordered : IsOrdered base (history_of before)
  pub closing : AreClosing base (history_of before)
  pub open_none : (tx : ℕ) → is_open base before tx ≡ true → list_any (ends tx) (history_of before) ≡ false
  pub ends_low : (tx : ℕ) → list_any (ends tx) (history_of before) ≡ true → tx ≤ highest base before
  pub open_low : (tx : ℕ) → is_open base before tx ≡ true → tx ≤ highest base before

-- ---- one step more

none_more : (before : List Step) (s : Step) → s.placed ≡ None → history_of (before ++ s ∷ []) ≡ history_of before
none_more before s e = filter_map-append (λ s. s.placed) before (s ∷ []) ∙ ap (λ (o : Option Placed). history_of before ++ cons_option o []) e ∙ append-nil (history_of before)

some_more : (before : List Step) (s : Step) (p : Placed) → s.placed ≡ Some p → history_of (before ++ s ∷ []) ≡ history_of before ++ p ∷ []
some_more before s p e = filter_map-append (λ s. s.placed) before (s ∷ []) ∙ ap (λ (o : Option Placed). history_of before ++ cons_option o []) e

open_more : (base : List Placed) (before : List Step) (s : Step) (tx : ℕ) → is_open base (before ++ s ∷ []) tx ≡ open_behind tx (is_open base before tx) s
open_more base before s tx = fold-append (open_behind tx) (is_left_open tx base) before (s ∷ [])

max_fold : (a : ℕ) (ns : List ℕ) → a ≤ fold max a ns
max_fold a [] = omega arith
max_fold a (n ∷ ns) = omega (arith, max_fold (max a n) ns)

numbers : List Placed → List ℕ
numbers base = filter_map (λ p. number_of p.rec) base

highest_is : (base : List Placed) (before : List Step) (s : Step) → highest base (before ++ s ∷ []) ≡ fold max (highest base before) (filter_map begun_in (s ∷ []))
unfolding numbers
highest_is base before s =
    ap (λ (l : List ℕ). fold max 0 (numbers base ++ l)) (filter_map-append begun_in before (s ∷ []))
    ∙ ap (fold max 0) (sym (append_assoc (numbers base) (filter_map begun_in before) (filter_map begun_in (s ∷ []))))
    ∙ fold-append max 0 (numbers base ++ filter_map begun_in before) (filter_map begun_in (s ∷ []))

highest_grows : (base : List Placed) (before : List Step) (s : Step) → highest base before ≤ highest base (before ++ s ∷ [])
highest_grows base before s = omega (arith, highest_is base before s, max_fold (highest base before) (filter_map begun_in (s ∷ [])))

highest_begun : (base : List Placed) (before : List Step) (s : Step) (n : ℕ) → begun_in s ≡ Some n → n ≤ highest base (before ++ s ∷ [])
highest_begun base before s n e =
    let one : filter_map begun_in (s ∷ []) ≡ n ∷ [] = ap (λ (o : Option ℕ). cons_option o []) e in
    omega (arith, highest_is base before s, ap (fold max (highest base before)) one)

either_true : (a b : Bool) → (a || b) ≡ true → (a ≡ true) ⊎ (b ≡ true)
either_true true b e = inl refl
either_true false b e = inr e

or_false : (a : Bool) → (a || false) ≡ a
or_false true = refl
or_false false = refl

any_none : (t : Placed → Bool) (l : List Placed) (p : Placed) → list_any t l ≡ false → t p ≡ false → list_any t (l ++ p ∷ []) ≡ false
any_none t l p none no_end = list_any-append t l (p ∷ []) ∙ ap (λ (b : Bool). b || (t p || false)) none ∙ ap (λ (b : Bool). b || false) no_end

any_some : (t : Placed → Bool) (l : List Placed) (p : Placed) → list_any t (l ++ p ∷ []) ≡ true → (list_any t l ≡ true) ⊎ (t p ≡ true)
any_some t l p e = either_true (list_any t l) (t p) (sym (list_any-append t l (p ∷ []) ∙ ap (λ (b : Bool). list_any t l || b) (or_false (t p))) ∙ e)

get_front : (l : List Placed) (p : Placed) (h : ℕ) → h < length l → slice_get (l ++ p ∷ []) h ≡ slice_get l h
get_front [] p h lt = absurd (omega (arith, lt))
get_front (x ∷ xs) p zero lt = refl
get_front (x ∷ xs) p (suc h) lt = get_front xs p h (omega (arith, lt))

get_beyond : (l : List Placed) (p : Placed) (h : ℕ) → length l < h → slice_get (l ++ p ∷ []) h ≡ None
get_beyond [] p zero lt = absurd (omega (arith, lt))
get_beyond [] p (suc h) lt = refl
get_beyond (x ∷ xs) p zero lt = absurd (omega (arith, lt))
get_beyond (x ∷ xs) p (suc h) lt = get_beyond xs p h (omega (arith, lt))

get_last : (l : List Placed) (p : Placed) → slice_get (l ++ p ∷ []) (length l) ≡ Some p
get_last [] p = refl
get_last (x ∷ xs) p = get_last xs p

closing_more : (base l : List Placed) (p : Placed) → AreClosing base l → IsClosing base l p → AreClosing base (l ++ p ∷ [])
closing_more base l p old new h = elim (cases_lt h (length l)) [
  | inl lt ↦ subst (λ (o : Option Placed). IfSome o (IsClosing base (take h (l ++ p ∷ [])))) (sym (get_front l p h lt)) (subst (λ (t : List Placed). IfSome (slice_get l h) (IsClosing base t)) (sym (take-append-le h l (p ∷ []) (omega (arith, lt)))) (old h))
  | inr ge ↦ elim (cases_lt (length l) h) [
    | inl past ↦ subst (λ (o : Option Placed). IfSome o (IsClosing base (take h (l ++ p ∷ [])))) (sym (get_beyond l p h past)) tt
    | inr le ↦
        let same : h ≡ length l = omega (arith, ge, le) in
        let F : ℕ → Type 0 = λ k. IfSome (slice_get (l ++ p ∷ []) k) (IsClosing base (take k (l ++ p ∷ []))) in
        let all : take (length l) (l ++ p ∷ []) ≡ l = take_at l (p ∷ []) (length l) refl in
        subst F (sym same) (subst (λ (o : Option Placed). IfSome o (IsClosing base (take (length l) (l ++ p ∷ [])))) (sym (get_last l p)) (subst (λ (t : List Placed). IsClosing base t p) (sym all) new))
  ]
]

-- the record of a step stands where it may
ordered_step : (base : List Placed) (before : List Step) (config : Config) (seat number : ℕ) (command : Command) (ans : Answer) (placed : Option Placed) (s : Step) → s ≡ record { seat = seat; number = number; command = command; answer = ans; placed = placed }
    → Placing base before config (record { seat = seat; number = number; command = command; answer = ans; placed = placed }) → IsOrdered base (history_of before) → IsOrdered base (history_of (before ++ s ∷ []))
ordered_step base before config seat number command ans None s is h o = subst (IsOrdered base) (sym (none_more before s (ap (λ (s : Step). s.placed) is))) o
ordered_step base before config seat number command (Refused refusal) (Some p) s is h o = absurd cc
ordered_step base before config seat number command (Done reply) (Some p) s is h o = subst (IsOrdered base) (sym (some_more before s p (ap (λ (s : Step). s.placed) is))) (ordered_more base (history_of before) p o h.3)

facts_step : (base : List Placed) (before : List Step) (s : Step) → LegalFacts base before → IsOrdered base (history_of (before ++ s ∷ [])) → Kind base before s → LegalFacts base (before ++ s ∷ [])
facts_step base before s was order (inl unchanged) =
    let same = none_more before s unchanged.placed in
    let opened : (tx : ℕ) → is_open base (before ++ s ∷ []) tx ≡ is_open base before tx = λ tx. open_more base before s tx ∙ unchanged.behind tx (is_open base before tx) in
    record {
      ordered = order;
      closing = subst (AreClosing base) (sym same) was.closing;
      open_none = λ tx e. ap (list_any (ends tx)) same ∙ was.open_none tx (sym (opened tx) ∙ e);
      ends_low = λ tx e. omega (arith, was.ends_low tx (sym (ap (list_any (ends tx)) same) ∙ e), highest_grows base before s);
      open_low = λ tx e. omega (arith, was.open_low tx (sym (opened tx) ∙ e), highest_grows base before s);
    }
facts_step base before s was order (inr (inl begins)) =
    let same = none_more before s begins.placed in
    let split : (tx : ℕ) → is_open base (before ++ s ∷ []) tx ≡ true → (is_open base before tx ≡ true) ⊎ (highest base before + 1 ≡ tx) = λ tx e. begins.behind tx (is_open base before tx) (sym (open_more base before s tx) ∙ e) in
    record {
      ordered = order;
      closing = subst (AreClosing base) (sym same) was.closing;
      open_none = λ tx e. ap (list_any (ends tx)) same ∙ ⊎_elim (was.open_none tx) (λ n. fresh tx n) (split tx e);
      ends_low = λ tx e. omega (arith, was.ends_low tx (sym (ap (list_any (ends tx)) same) ∙ e), highest_grows base before s);
      open_low = λ tx e. ⊎_elim (λ o. omega (arith, was.open_low tx o, highest_grows base before s)) (λ n. omega (arith, n, highest_begun base before s (highest base before + 1) begins.begun)) (split tx e);
    }
  where
    -- the next number has no end yet
    fresh : (tx : ℕ) → highest base before + 1 ≡ tx → list_any (ends tx) (history_of before) ≡ false
    fresh tx n = by (list_any (ends tx) (history_of before)) refl where
      by : (b : Bool) → list_any (ends tx) (history_of before) ≡ b → b ≡ false
      by true e = absurd (omega (arith, n, was.ends_low tx e))
      by false e = refl
facts_step base before s was order (inr (inr (p, puts))) =
    let same = some_more before s p puts.placed in
    let l = history_of before in
    let split : (tx : ℕ) → is_open base (before ++ s ∷ []) tx ≡ true → (is_open base before tx ≡ true) × (ends tx p ≡ false) = λ tx e. puts.behind tx (is_open base before tx) (sym (open_more base before s tx) ∙ e) in
    let new : IsClosing base l p = closes_by (closing_tx p.rec) refl in
    record {
      ordered = order;
      closing = subst (AreClosing base) (sym same) (closing_more base l p was.closing new);
      open_none = λ tx e. let q = split tx e in ap (list_any (ends tx)) same ∙ any_none (ends tx) l p (was.open_none tx q.0) q.1;
      ends_low = λ tx e. ⊎_elim (λ old. omega (arith, was.ends_low tx old, highest_grows base before s)) (λ now. omega (arith, was.open_low tx (puts.ended tx now), highest_grows base before s)) (any_some (ends tx) l p (sym (ap (list_any (ends tx)) same) ∙ e));
      open_low = λ tx e. omega (arith, was.open_low tx (split tx e).0, highest_grows base before s);
    }
  where
    closes_by : (o : Option ℕ) → closing_tx p.rec ≡ o → IfSome o (λ tx. IsTrue (is_sound (base ++ history_of before) p) × IsFalse (list_any (ends tx) (history_of before)))
    closes_by None e = tt
    closes_by (Some tx) e = let h = puts.closing tx e in (h.1, was.open_none tx h.0)

facts_from : (base : List Placed) (config : Config) (before steps : List Step) → LegalFacts base before → AreLegalFrom base config before steps → LegalFacts base (before ++ steps)
facts_from base config before [] was legal = subst (LegalFacts base) (sym (append-nil before)) was
facts_from base config before (s ∷ ss) was legal =
    subst (LegalFacts base) (append_assoc before (s ∷ []) ss)
    (facts_from base config (before ++ s ∷ []) ss (facts_step base before s was (ordered_step base before config s.seat s.number s.command s.answer s.placed s refl legal.0.placed was.ordered) (kind_of base before config s legal.0)) legal.1)

-- ---- before the first step

left_here : (tx a : ℕ) (behind x y : Bool) (rest : List ℕ) (o : Option ℕ) → ((k : ℕ) → behind ≡ true → tx ≤ fold max k rest) → ((is_some_of o tx && x && y) || behind) ≡ true → tx ≤ fold max a (cons_option o rest)
left_here tx a behind x y rest None more e = more a e
left_here tx a behind x y rest (Some n) more e = ⊎_elim
    (λ h. let q = first_true (eqb n tx) x (first_true (eqb n tx && x) y h) in omega (arith, eqb-true n tx q, max_fold (max a n) rest))
    (λ h. more (max a n) h)
    (either_true (eqb n tx && x && y) behind e)
  where
    first_true : (a b : Bool) → (a && b) ≡ true → a ≡ true
    first_true true b e = refl
    first_true false b e = absurd cc

left_low : (tx : ℕ) (base : List Placed) (a : ℕ) → is_left_open tx base ≡ true → tx ≤ fold max a (numbers base)
unfolding numbers
left_low tx [] a e = absurd (false≢true e)
left_low tx (p ∷ ps) a e = left_here tx a (is_left_open tx ps) (not (ends tx p)) (not (list_any (ends tx) ps)) (numbers ps) (number_of p.rec) (λ k h. left_low tx ps k h) e

pub legal_facts : (base : List Placed) (config : Config) (steps : List Step) → AreLegalFrom base config [] steps → LegalFacts base steps
unfolding numbers
legal_facts base config steps legal = facts_from base config [] steps (record {
  ordered = ordered_first base;
  closing = λ h. tt;
  open_none = λ tx e. refl;
  ends_low = λ tx e. absurd (false≢true e);
  open_low = λ tx e. subst (λ (l : List ℕ). tx ≤ fold max 0 l) (sym (append-nil (numbers base))) (left_low tx base 0 e);
}) legal
