-- What is live, from the back of an order of effect.
use Rattle.std.proofs.Common.{◌≡◌, ℕ, zero, suc, ◌+◌, ◌<◌, Bool, true, false, cond, List, [], ◌∷◌, ◌++◌, length, drop, get_or, Option, Some, None, refl, sym, ap, ◌∙◌, add-one, arith, Bor}
use Rattle.std.specs.Prelude.{reverse}
use Rattle.std.specs.List.{list_any}
use Rattle.std.proofs.lemmas.List.{reverse-append}
use Rattle.amq_model.specs.declared.record.Placed.{Placed}
use Rattle.amq_model.specs.declared.state.Entry.{Entry}
use Rattle.amq_model.specs.Effect.{deletes, entry_of, remaining}
use Rattle.amq_state.specs.Backward.{values, standing_of, standing}

pub from_place : (ps : List (Bor Placed)) (i : ℕ) (p : Bor Placed) → i < length ps → p ≡ get_or ps i p → drop i (values ps) ≡ p.now ∷ drop (i + 1) (values ps)
from_place [] i p lt is = absurd (omega arith)
from_place (q ∷ ps) zero p lt is = ap (λ (p : Bor Placed). p.now ∷ values ps) (sym is)
from_place (q ∷ ps) (suc i) p lt is = rw (add-one) (simp add-one at (from_place ps i p (omega arith) is))

-- the record in front of these, if it stands
pub remaining-parts : (p : Placed) (ps : List Placed) → remaining (p ∷ ps) ≡ standing (λ id. list_any (deletes id) ps) p ++ remaining ps
remaining-parts p ps = by (entry_of p) where
  kept : (e : Entry) (b : Bool) → cond b (remaining ps) (e ∷ remaining ps) ≡ cond b [] (e ∷ []) ++ remaining ps
  kept e true = refl
  kept e false = refl

  by : (o : Option Entry) → (elim o [ None ↦ remaining ps | Some e ↦ cond (list_any (deletes e.id) ps) (remaining ps) (e ∷ remaining ps) ]) ≡ standing_of (λ id. list_any (deletes id) ps) o ++ remaining ps
  by None = refl
  by (Some e) = kept e (list_any (deletes e.id) ps)

-- the same tests let the same record stand
pub standing-same : (f g : ℕ → Bool) (p : Placed) → ((id : ℕ) → f id ≡ g id) → standing f p ≡ standing g p
standing-same f g p h = by (entry_of p) where
  by : (o : Option Entry) → standing_of f o ≡ standing_of g o
  by None = refl
  by (Some e) = ap (λ (b : Bool). cond b [] (e ∷ [])) (h e.id)

-- at most one stands
pub standing-reversed : (f : ℕ → Bool) (p : Placed) → reverse (standing f p) ≡ standing f p
standing-reversed f p = by (entry_of p) where
  one : (e : Entry) (b : Bool) → reverse (cond b [] (e ∷ [])) ≡ cond b [] (e ∷ [])
  one e true = refl
  one e false = refl

  by : (o : Option Entry) → reverse (standing_of f o) ≡ standing_of f o
  by None = refl
  by (Some e) = one e (f e.id)

-- one more record in front
pub one_more : (f : ℕ → Bool) (p : Placed) (ps : List Placed) (found : List Entry) → ((id : ℕ) → f id ≡ list_any (deletes id) ps) → reverse found ≡ remaining ps
    → reverse (found ++ standing f p) ≡ remaining (p ∷ ps)
one_more f p ps found tests so_far =
    reverse-append found (standing f p) ∙ ap (λ (es : List Entry). es ++ reverse found) (standing-reversed f p)
    ∙ ap (λ (es : List Entry). standing f p ++ es) so_far
    ∙ ap (λ (es : List Entry). es ++ remaining ps) (standing-same f (λ id. list_any (deletes id) ps) p tests) ∙ sym (remaining-parts p ps)
