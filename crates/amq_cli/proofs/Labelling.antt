-- What labels stand for, once one of them is set.
use Rattle.std.proofs.Common.{◌≡◌, ℕ, Bool, true, false, cond, List, Option, None, Some, if◌then◌else◌, refl, sym, ap, ◌∙◌}
use Rattle.std.specs.declared.cmp.Ordering.{Ordering}
use Rattle.std.specs.declared.cmp.Ordering.TheVariants.{Less, Equal, Greater}
use Rattle.std.specs.Ordering.{nat_cmp, is_eq}
use Rattle.std.specs.Option.{is_some}
use Rattle.std.specs.Cmp.Lexicographic.{slice_cmp}
use Rattle.std.specs.BTreeMap.{BTreeMap, get, is_at}
use Rattle.std.proofs.lemmas.Map.Lookups.{exact_bytes}
use Rattle.std.proofs.lemmas.Map.Text.{is_eq-slice_cmp}
use Rattle.amq_model.specs.Names.{same}
use Rattle.amq_cli.specs.Labelled.{number_or_none}

abbrev Map : Type 0
Map = BTreeMap (List ℕ) ℕ

abbrev at : Map → List ℕ → Option ℕ
at m q = get (slice_cmp nat_cmp) m q

-- a label that stood for nothing stands for 0, as before
pub fresh_stays : (m n : Map) (k : List ℕ) → is_some (at m k) ≡ false → ((q : List ℕ) → at n q ≡ cond (is_at (slice_cmp nat_cmp k) q) (Some 0) (at m q)) → (q : List ℕ) → number_or_none (at n q) ≡ number_or_none (at m q)
fresh_stays m n k absent is q = ap number_or_none (is q) ∙ by (slice_cmp nat_cmp k q) refl where
  none : (o : Option ℕ) → is_some o ≡ false → 0 ≡ number_or_none o
  none None e = refl
  none (Some x) e = absurd cc

  by : (o : Ordering) → slice_cmp nat_cmp k q ≡ o → number_or_none (cond (is_eq o) (Some 0) (at m q)) ≡ number_or_none (at m q)
  by Less e = refl
  by Greater e = refl
  by Equal e = none (at m q) (ap (λ l. is_some (at m l)) (sym (exact_bytes k q e)) ∙ absent)

-- where a label is set, it alone stands for another number
pub set_numbers : (m n : Map) (k : List ℕ) (number : ℕ) → ((q : List ℕ) → at n q ≡ cond (is_at (slice_cmp nat_cmp k) q) (Some number) (at m q)) → (q : List ℕ) → number_or_none (at n q) ≡ (if same k q then number else number_or_none (at m q))
set_numbers m n k number is q = ap number_or_none (is q) ∙ by (is_eq (slice_cmp nat_cmp k q)) ∙ ap (λ b. if b then number else number_or_none (at m q)) (is_eq-slice_cmp k q) where
  by : (b : Bool) → number_or_none (cond b (Some number) (at m q)) ≡ (if b then number else number_or_none (at m q))
  by true = refl
  by false = refl
