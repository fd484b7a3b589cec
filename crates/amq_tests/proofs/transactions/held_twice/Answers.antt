use Rattle.std.proofs.Common.{◌∙◌, ◌++◌, ◌∷◌, [], List, ℕ, sym, ap, subst}
use Rattle.std.specs.List.Sorted.{IsStrictlySortedBy}
use Rattle.std.specs.Ordering.{nat_cmp}
use Rattle.amq_tests.proofs.OpenTxLemmas.{one_sorted}
use Rattle.amq_tests.proofs.transactions.held_twice.Goals as goal

pub new-requires-clause-live : goal.new-requires-clause-live
new-requires-clause-live c = subst (IsStrictlySortedBy nat_cmp) (sym (c.in_ok-push.ensures.items ∙ ap (λ (ns : List ℕ). ns ++ 7 ∷ []) c.new-live.ensures.items)) (one_sorted 7)
