-- Tables of open transactions: what a change of one leaves of the others.
use Rattle.std.proofs.Common.{◌≡◌, ℕ, ◌+◌, Bool, true, false, cond, eqb, List, [], ◌∷◌, ◌++◌, Option, Some, refl, sym, ap, ◌∙◌, arith}
use Rattle.std.specs.Prelude.{max}
use Rattle.std.specs.Option.{unwrap_or}
use Rattle.std.specs.Ordering.{nat_cmp}
use Rattle.std.specs.BTreeMap.{get, is_at}
use Rattle.std.specs.Cow.{cow_value}
use Rattle.std.specs.declared.borrow.Cow.{Cow}
use Rattle.std.proofs.lemmas.Bool.{eqb-true}
use Rattle.std.proofs.lemmas.List.{map-append}
use Rattle.std.proofs.lemmas.List.Sums.{sum_by_push}
use Rattle.amq_model.specs.declared.record.Placed.{Placed}
use Rattle.amq_model.specs.declared.record.Brief.{Brief}
use Rattle.amq_model.specs.Records.{brief_of}
use Rattle.amq_model.specs.Effect.{in_effect}
use Rattle.amq_model.specs.Answers.{number_of}
use Rattle.amq_model.proofs.AscendingLaws.{is_here}
use Rattle.amq_model.proofs.EffectGrows.{effect_grows}
use Rattle.amq_state.specs.declared.tables.Tables.{Tables}
use Rattle.amq_state.specs.Held.{held}
use Rattle.amq_state.specs.Turns.{told, count_in, turn_after, added, turn_in}
use Rattle.amq_state.specs.Follows.{Follows}
use Rattle.amq_state.proofs.Lists.{highest_grows}
use Rattle.amq_state.proofs.TurnLaws.{turns_grow, effect_is}

-- a record more is counted in its own file
pub counts_grow : (old new : Option ℕ) (cs : List (Cow Placed)) (c : Cow Placed) (file n q : ℕ) → file ≡ (cow_value c).file → new ≡ cond (is_at (nat_cmp file) q) (Some (n + 1)) old
    → n ≡ count_in file (held cs) → unwrap_or old 0 ≡ count_in q (held cs) → unwrap_or new 0 ≡ count_in q (held (cs ++ c ∷ []))
counts_grow old new cs c file n q same is here there =
    ap (λ (o : Option ℕ). unwrap_or o 0) (is ∙ ap (λ (b : Bool). cond b (Some (n + 1)) old) (is_here file q ∙ ap (λ (k : ℕ). eqb k q) same))
    ∙ by (eqb (cow_value c).file q) refl
    ∙ sym (ap (count_in q) (map-append cow_value cs (c ∷ [])) ∙ sum_by_push (λ p. cond (eqb p.file q) 1 0) (held cs) (cow_value c)) where
      by : (b : Bool) → eqb (cow_value c).file q ≡ b → unwrap_or (cond b (Some (n + 1)) old) 0 ≡ count_in q (held cs) + cond b 1 0
      by true e = ap (λ (k : ℕ). k + 1) (here ∙ ap (λ (k : ℕ). count_in k (held cs)) (same ∙ eqb-true (cow_value c).file q e))
      by false e = omega (arith, there)

-- tables that follow a list follow it behind one record more
pub follows_more : (l : List Placed) (p : Placed) (old new : Tables) → Follows l old
    → held new.effect.items ≡ held old.effect.items ++ added p (brief_of p.rec) (λ q. told (get nat_cmp old.turns q))
    → ((q : ℕ) → told (get nat_cmp new.turns q) ≡ turn_after p (brief_of p.rec) q (told (get nat_cmp old.turns q)))
    → new.highest_tx ≡ max old.highest_tx (unwrap_or (number_of p.rec) 0) → Follows (l ++ p ∷ []) new
follows_more l p old new h effect_is' turns_are highest_is = record {
  effect = effect_is' ∙ ap (λ (ps : List Placed). ps ++ added p (brief_of p.rec) (λ q. told (get nat_cmp old.turns q))) h.effect
      ∙ ap (λ (ps : List Placed). in_effect l ++ ps) (same_added (brief_of p.rec) ∙ sym (effect_is l p)) ∙ sym (effect_grows l p);
  turns = λ q. turns_are q ∙ ap (turn_after p (brief_of p.rec) q) (h.turns q) ∙ sym (turns_grow l p q);
  highest_tx = highest_is ∙ ap (λ (n : ℕ). max n (unwrap_or (number_of p.rec) 0)) h.highest_tx ∙ sym (highest_grows l p);
} where
  same_added : (b : Brief) → added p b (λ q. told (get nat_cmp old.turns q)) ≡ added p b (turn_in l)
  same_added b = simp h.turns
