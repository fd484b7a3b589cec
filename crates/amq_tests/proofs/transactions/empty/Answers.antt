use Rattle.std.proofs.Common.{List, sym, subst}
use Rattle.std.specs.List.Sorted.{IsStrictlySortedBy}
use Rattle.std.specs.Ordering.{nat_cmp}
use Rattle.amq_model.specs.declared.state.OpenTx.{OpenTx}
use Rattle.amq_tx.specs.Starting.{AreListed}
use Rattle.amq_tests.proofs.OpenTxLemmas.{none_sorted, none_opened}
use Rattle.amq_tests.proofs.transactions.empty.Goals as goal

pub new-requires-3-clause-live : goal.new-requires-3-clause-live
new-requires-3-clause-live c = subst (IsStrictlySortedBy nat_cmp) (sym c.new.ensures.items) none_sorted

pub new-requires-3-clause-opened : goal.new-requires-3-clause-opened
new-requires-3-clause-opened c = subst (λ (os : List OpenTx). AreListed os c.args.highest) (sym c.new-2.ensures.items) (none_opened c.args.highest)
