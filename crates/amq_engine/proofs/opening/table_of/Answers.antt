use Rattle.std.proofs.Common.{◌≡◌, ℕ, List, sym, subst, ◌∙◌}
use Rattle.std.specs.List.Sorted.{IsStrictlySortedBy}
use Rattle.std.specs.Ordering.{nat_cmp}
use Rattle.amq_model.specs.declared.state.OpenTx.{OpenTx}
use Rattle.amq_model.specs.Open.{highest_of}
use Rattle.amq_tx.specs.Starting.{AreListed}
use Rattle.amq_tx.proofs.Begins.{live_listed, opened_listed}
use Rattle.amq_engine.proofs.opening.table_of.Goals as goal

pub new-requires-3-clause-live : goal.new-requires-3-clause-live
new-requires-3-clause-live c =
    let load = c.requires.1 in
    let is : c.into_vec.result.items ≡ c.args.loaded.now.live = cc in
    subst (IsStrictlySortedBy nat_cmp) (sym (is ∙ load.live)) (live_listed c.args.loaded.now.base)

pub new-requires-3-clause-opened : goal.new-requires-3-clause-opened
new-requires-3-clause-opened c =
    let load = c.requires.1 in
    let is : c.into_vec-2.result.items ≡ c.args.loaded.now.open_txs = cc in
    let base = c.args.loaded.now.base in
    subst (λ (n : ℕ). AreListed c.into_vec-2.result.items n) (sym load.highest_tx) (subst (λ (os : List OpenTx). AreListed os (highest_of base)) (sym (is ∙ load.opened)) (opened_listed base))
