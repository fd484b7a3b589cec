-- Small lists of live ids and open transactions ascend.
use Rattle.std.proofs.Common.{ℕ, ◌≤◌, Bool, [], ◌∷◌, refl, arith}
use Rattle.std.specs.List.Sorted.{IsStrictlySortedBy}
use Rattle.std.specs.Ordering.{nat_cmp}
use Rattle.std.specs.Map.{keys_of}
use Rattle.std.proofs.lemmas.List.Elements.{All-cons}
use Rattle.amq_model.specs.declared.state.EntryEnd.{EntryEnd}
use Rattle.amq_model.specs.declared.state.OpenTx.{OpenTx}
use Rattle.amq_tx.specs.Starting.{AreListed}

pub none_sorted : IsStrictlySortedBy nat_cmp []
unfolding IsStrictlySortedBy
none_sorted = tt

pub one_sorted : (n : ℕ) → IsStrictlySortedBy nat_cmp (n ∷ [])
unfolding IsStrictlySortedBy
one_sorted n = (tt, tt)

pub none_opened : (highest : ℕ) → AreListed [] highest
unfolding IsStrictlySortedBy
none_opened highest = record { numbers = tt; touched = λ k d lt. absurd (omega (arith, lt)); bounded = λ k d lt. absurd (omega (arith, lt)) }

abbrev holds : ℕ → Bool → EntryEnd → OpenTx
holds tx prepared end = record { tx = tx; prepared = prepared; touched = (7, end) ∷ [] }

pub two_opened : (p q : Bool) (e f : EntryEnd) → AreListed (holds 5 p e ∷ holds 9 q f ∷ []) 9
unfolding IsStrictlySortedBy
two_opened p q e f = record {
  numbers = ((refl, tt), (tt, tt));
  touched = All-cons (λ (o : OpenTx). IsStrictlySortedBy nat_cmp (keys_of o.touched)) (holds 5 p e) (holds 9 q f ∷ []) (tt, tt) (All-cons (λ (o : OpenTx). IsStrictlySortedBy nat_cmp (keys_of o.touched)) (holds 9 q f) [] (tt, tt) (λ k d lt. absurd (omega (arith, lt))));
  bounded = All-cons (λ (o : OpenTx). o.tx ≤ 9) (holds 5 p e) (holds 9 q f ∷ []) (omega arith) (All-cons (λ (o : OpenTx). o.tx ≤ 9) (holds 9 q f) [] (omega arith) (λ k d lt. absurd (omega (arith, lt))));
}
