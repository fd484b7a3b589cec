-- Transactions that touch an id: without one of them.
use Rattle.std.proofs.Common.{◌≡◌, ℕ, Bool, true, false, cond, not, eqb, List, [], ◌∷◌, Some, None, refl, sym, ap, ◌∙◌}
use Rattle.std.specs.Prelude.{filter}
use Rattle.std.specs.Map.{lookup, keys_of}
use Rattle.std.proofs.lemmas.Bool.{eqb-true}
use Rattle.std.proofs.lemmas.Map.Entries.{lookup-filter-keys}
use Rattle.amq_model.specs.declared.state.EntryEnd.{EntryEnd}
use Rattle.amq_model.proofs.AscendingLaws.{sides}
use Rattle.amq_tx.specs.State.{without}

pub without_twice : (tx : ℕ) (xs : List (ℕ × EntryEnd)) → without tx (without tx xs) ≡ without tx xs
without_twice tx [] = refl
without_twice tx (x ∷ xs) = by (without_twice tx xs) (not (eqb x.0 tx)) refl where
  by : without tx (without tx xs) ≡ without tx xs → (b : Bool) → not (eqb x.0 tx) ≡ b → filter (λ x. not (eqb x.0 tx)) (cond b (x ∷ without tx xs) (without tx xs)) ≡ cond b (x ∷ without tx xs) (without tx xs)
  by rest true e = ap (λ (b : Bool). cond b (x ∷ without tx (without tx xs)) (without tx (without tx xs))) e ∙ ap (λ (ys : List (ℕ × EntryEnd)). x ∷ ys) rest
  by rest false e = rest

-- the transaction itself is gone, and every other one stays
pub lookup-without : (tx q : ℕ) (xs : List (ℕ × EntryEnd)) → lookup (eqb q) (without tx xs) ≡ cond (eqb tx q) None (lookup (eqb q) xs)
lookup-without tx q xs =
    lookup-filter-keys (eqb q) (λ k. not (eqb k tx)) (not (eqb q tx)) (λ k e. ap (λ (n : ℕ). not (eqb n tx)) (sym (eqb-true q k e))) xs
    ∙ by (eqb q tx) (eqb tx q) (sides q tx) where
      by : (a b : Bool) → a ≡ b → cond (not a) (lookup (eqb q) xs) None ≡ cond b None (lookup (eqb q) xs)
      by true b e = ap (λ (b : Bool). cond b None (lookup (eqb q) xs)) e
      by false b e = ap (λ (b : Bool). cond b None (lookup (eqb q) xs)) e

-- one that isn't among them takes nothing away
pub without_none : (tx : ℕ) (xs : List (ℕ × EntryEnd)) → lookup (eqb tx) xs ≡ None → without tx xs ≡ xs
without_none tx [] none = refl
without_none tx (x ∷ xs) none = by (λ e. without_none tx xs e) (eqb tx x.0) none (sides x.0 tx) where
  by : (lookup (eqb tx) xs ≡ None → without tx xs ≡ xs) → (b : Bool) → cond b (Some x.1) (lookup (eqb tx) xs) ≡ None → eqb x.0 tx ≡ b → cond (not (eqb x.0 tx)) (x ∷ without tx xs) (without tx xs) ≡ x ∷ xs
  by rest true none e = absurd cc
  by rest false none e = ap (λ (b : Bool). cond (not b) (x ∷ without tx xs) (without tx xs)) e ∙ ap (λ (ys : List (ℕ × EntryEnd)). x ∷ ys) (rest none)

-- the numbers of those of other transactions
pub without_keys : (tx : ℕ) (xs : List (ℕ × EntryEnd)) → filter (λ n. not (eqb n tx)) (keys_of xs) ≡ keys_of (without tx xs)
without_keys tx [] = refl
without_keys tx (x ∷ xs) = by (without_keys tx xs) (not (eqb x.0 tx)) where
  by : filter (λ n. not (eqb n tx)) (keys_of xs) ≡ keys_of (without tx xs) → (b : Bool) → cond b (x.0 ∷ filter (λ n. not (eqb n tx)) (keys_of xs)) (filter (λ n. not (eqb n tx)) (keys_of xs)) ≡ keys_of (cond b (x ∷ without tx xs) (without tx xs))
  by rest true = ap (λ (ns : List ℕ). x.0 ∷ ns) rest
  by rest false = rest

-- where a change at a key stands by what is there
pub changed_here : {X : Type 0} (f : ℕ → X) (g : X → X) (k q : ℕ) → cond (eqb k q) (g (f q)) (f q) ≡ cond (eqb k q) (g (f k)) (f q)
changed_here {X} f g k q = by (eqb k q) refl where
  by : (b : Bool) → eqb k q ≡ b → cond b (g (f q)) (f q) ≡ cond b (g (f k)) (f q)
  by true e = ap (λ (n : ℕ). g (f n)) (sym (eqb-true k q e))
  by false e = refl
