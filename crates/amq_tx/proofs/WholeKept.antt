-- A PREPARE or COMMIT that is sound in what a crash left has its transaction there.
use Rattle.std.proofs.Common.{◌≡◌, ⊎_elim, ℕ, ◌+◌, ◌-◌, ◌≤◌, true, List, [], ◌++◌, length, take, drop, refl, sym, ap, subst, ◌∙◌, arith, Option, Some, None, append_assoc}
use Rattle.std.specs.Prelude.{All, Contains, slice_get, IfSome, IsTrue, IsFalse}
use Rattle.std.specs.List.{list_any}
use Rattle.std.proofs.Math.Seq.{drop-append_seam}
use Rattle.std.proofs.lemmas.List.{take-append-drop, take-take, drop-take, drop-drop, take_at, length-append}
use Rattle.std.proofs.lemmas.Option.{MatchOption-at_some}
use Rattle.amq_model.specs.declared.record.Placed.{Placed}
use Rattle.amq_model.specs.declared.config.Config.{Config}
use Rattle.amq_model.specs.declared.history.Step.{Step}
use Rattle.amq_model.specs.Effect.{changes, ends, is_sound, open_changes}
use Rattle.amq_model.specs.Answers.{history_of}
use Rattle.amq_model.specs.Legal.{AreLegalFrom}
use Rattle.amq_model.specs.Kept.{closing_tx, IsPart, IsWhole, IsKept}
use Rattle.amq_tx.proofs.WholeParts.{Has, has_contains, all_by, all_has, has_front, has_behind, has_either, get_has, take_has, part_has, part_behind, part_front, any_part, part_before}
use Rattle.amq_tx.proofs.WholeCounts.{changes_in, is_change_in, all_counted, count_here, open_has}
use Rattle.amq_tx.proofs.WholeOrder.{IsBefore, IsInOrder, IsOrdered, distinct, front_before, taken_before, not_both}
use Rattle.amq_tx.proofs.WholeClosing.{IsClosing, AreClosing, legal_facts}

module _ (base history durable written later left : List Placed) (file : ℕ) (split : history ≡ durable ++ (written ++ later)) (order : IsOrdered base history) (closing : AreClosing base history)
    (one : All (λ p. p.file ≡ file) written) (part : IsPart left written) where
  abbrev remaining : List Placed
  remaining = durable ++ left

  part_of_history : IsPart remaining history
  part_of_history = subst (IsPart remaining) (sym split) (part_behind durable left (written ++ later) (part_front written later left part))

  -- a record before p that is of p's file counts for p, and no such record is lost
  counted_is_kept : (k h tx : ℕ) (p q : Placed) → slice_get remaining k ≡ Some p → slice_get history h ≡ Some p → closing_tx p.rec ≡ Some tx → is_sound (base ++ take k remaining) p ≡ true
      → Has (take h history) q → changes tx q ≡ true → q.file ≡ p.file → Has remaining q
  counted_is_kept k h tx p q at there tx_is sound has change same =
      let before : IsPart (take k remaining) (take h history) = part_before remaining history k h p (distinct history order.order) part_of_history at there in
      let closes : IsTrue (is_sound (base ++ take h history) p) × IsFalse (list_any (ends tx) (take h history)) =
      MatchOption-at_some {o = closing_tx p.rec} _ _ tx tx_is (MatchOption-at_some {o = slice_get history h} _ (IsClosing base (take h history)) p there (closing h)) in
      let apart : (b : Placed) → Has base b → b.file ≡ p.file → ⊥ = λ b hb e. omega (arith, e, order.above b p hb (get_has history h p there)) in
      let here = count_here base (take k remaining) tx p apart (any_part (ends tx) (take k remaining) (take h history) before closes.1) tx_is sound in
      let all = count_here base (take h history) tx p apart closes.1 tx_is closes.0 in
      take_has k remaining q (all_counted (changes_in tx p.file) (take k remaining) (take h history) q before (omega (arith, here, all)) has (is_change_in tx p.file q change same))

  -- each record of the transaction before p is kept
  one_is_kept : (k h tx : ℕ) (p q : Placed) → slice_get remaining k ≡ Some p → slice_get history h ≡ Some p → closing_tx p.rec ≡ Some tx → is_sound (base ++ take k remaining) p ≡ true
      → Has (take h history) q → changes tx q ≡ true → Has remaining q
  one_is_kept k h tx p q at there tx_is sound has change =
      let ordered : IsInOrder (durable ++ (written ++ later)) = subst IsInOrder split order.order in
      let front_ordered : IsInOrder ((durable ++ written) ++ later) = subst IsInOrder (sym (append_assoc durable written later)) ordered in
      let before : IsBefore p q → ⊥ = λ behind. not_both p q behind (taken_before h history p q order.order there has) in
      let from_durable : Has durable p → Has (written ++ later) q → ⊥ = λ hp hq. before (front_before durable (written ++ later) p q ordered hp hq) in
      let from_written : Has written p → Has later q → ⊥ = λ hp hq. before (front_before (durable ++ written) later p q front_ordered (has_behind durable written p hp) hq) in
      let both_written : Has written p → Has written q → Has remaining q = λ hp hq. counted_is_kept k h tx p q at there tx_is sound has change (all_has (λ p. p.file ≡ file) written one q hq ∙ sym (all_has (λ p. p.file ≡ file) written one p hp)) in
      ⊎_elim
      (λ (q_in : Has durable q). has_front durable left q q_in)
      (λ (q_in : Has (written ++ later) q). ⊎_elim
      (λ (p_in : Has durable p). absurd (from_durable p_in q_in))
      (λ (p_in : Has left p). let hp = part_has left written p part p_in in ⊎_elim (λ (hq : Has written q). both_written hp hq) (λ (hq : Has later q). absurd (from_written hp hq)) (has_either written later q q_in))
      (has_either durable left p (get_has remaining k p at)))
      (has_either durable (written ++ later) q (subst (λ (l : List Placed). Has l q) split (take_has h history q has)))

  remaining_whole : IsWhole base history remaining
  remaining_whole k h p at there sound = by (closing_tx p.rec) refl where
    by : (o : Option ℕ) → closing_tx p.rec ≡ o → IfSome o (λ tx. All (Contains remaining) (open_changes tx (take h history)))
    by None e = tt
    by (Some tx) e = all_by (Contains remaining) (open_changes tx (take h history)) (λ q has. let r = open_has tx (take h history) q has in has_contains remaining q (one_is_kept k h tx p q at there e sound r.0 r.1))

pub left_is_whole : (base : List Placed) (config : Config) (steps : List Step) (durable written later left kept : List Placed) (file : ℕ) → AreLegalFrom base config [] steps → history_of steps ≡ durable ++ (written ++ later)
    → All (λ p. p.file ≡ file) written → kept ≡ durable ++ left → IsPart left written → IsWhole base (history_of steps) kept
left_is_whole base config steps durable written later left kept file legal split one is part =
    let l = legal_facts base config steps legal in
    subst (IsWhole base (history_of steps)) (sym is) (remaining_whole base (history_of steps) durable written later left file split l.ordered l.closing one part)

-- ---- receipts

-- what is kept of a later receipt is kept of an earlier one
pub kept_earlier : (base history kept : List Placed) (d later : ℕ) → d ≤ later → IsKept base history later kept → IsKept base history d kept
kept_earlier base history kept d later le k =
    let middle : List Placed = drop d (take later history) in
    let front : take later history ≡ take d history ++ middle = sym (take-append-drop d (take later history)) ∙ ap (λ (l : List Placed). l ++ middle) (take-take d later history le) in
    let again : later ≡ d + (later - d) = omega (arith, le) in
    let back : drop d history ≡ middle ++ drop later history =
    sym (take-append-drop (later - d) (drop d history))
    ∙ ap (λ (l : List Placed). l ++ drop (later - d) (drop d history)) (sym (drop-take d (later - d) history) ∙ ap (λ (n : ℕ). drop d (take n history)) (sym again))
    ∙ ap (λ (l : List Placed). middle ++ l) (drop-drop (later - d) d history ∙ ap (λ (n : ℕ). drop n history) (sym again)) in
    record {
      rest = middle ++ k.rest;
      counted = omega (arith, le, k.counted);
      front = k.front ∙ ap (λ (l : List Placed). l ++ k.rest) front ∙ append_assoc (take d history) middle k.rest;
      some = subst (IsPart (middle ++ k.rest)) (sym back) (part_behind middle k.rest (drop later history) k.some);
      whole = k.whole;
    }

-- the receipt of all that is durable
all_kept : (base history durable written later left kept : List Placed) → history ≡ durable ++ (written ++ later) → kept ≡ durable ++ left → IsPart left written → IsWhole base history kept → IsKept base history (length durable) kept
all_kept base history durable written later left kept split is part whole = record {
  rest = left;
  counted = omega (arith, ap length split, length-append durable (written ++ later));
  front = is ∙ ap (λ (l : List Placed). l ++ left) (sym (ap (take (length durable)) split ∙ take_at durable (written ++ later) (length durable) refl));
  some = subst (IsPart left) (sym (ap (drop (length durable)) split ∙ drop-append_seam durable (written ++ later))) (part_front written later left part);
  whole = whole;
}

pub left_is_kept : (base : List Placed) (config : Config) (steps : List Step) (durable written later left kept : List Placed) (file count : ℕ) → AreLegalFrom base config [] steps → history_of steps ≡ durable ++ (written ++ later)
    → All (λ p. p.file ≡ file) written → kept ≡ durable ++ left → IsPart left written → count ≤ length durable → IsKept base (history_of steps) count kept
left_is_kept base config steps durable written later left kept file count legal split one is part le =
    kept_earlier base (history_of steps) kept count (length durable) le
    (all_kept base (history_of steps) durable written later left kept split is part (left_is_whole base config steps durable written later left kept file legal split one is part))
