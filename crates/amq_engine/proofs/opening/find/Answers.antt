use Rattle.std.proofs.Common.{◌≡◌, List, sym, ap, subst, ◌∙◌, length, ◌+◌, ◌≤◌}
use Rattle.amq_model.specs.Legal.{rolled_back}
use Rattle.std.specs.Prelude.{map, filter, not}
use Rattle.amq_model.specs.declared.state.OpenTx.{OpenTx}
use Rattle.amq_model.specs.Leaves.{Told}
use Rattle.amq_loader.specs.declared.loaded.Loaded.{Loaded}
use Rattle.amq_loader.specs.Loads.{IsStateOf}
use Rattle.amq_engine.specs.Opening.{HasBase, HasNumbers}
use Rattle.amq_engine.proofs.Found.{told_base, told_numbers, told_state, load_few, left_are_rolled_back}
use Rattle.amq_engine.proofs.opening.find.Goals as goal

pub returns-in-Ok-table_of-clause-has_base : goal.returns-in-Ok-table_of-clause-has_base
returns-in-Ok-table_of-clause-has_base g c =
    let P : Loaded → Type 0 = λ l. Told (g.D.Disk.past c.args.disk.now) (HasBase c.args.config.now.user_version l.base) in
    subst P (sym c.table_of.ensures.rest) (told_base c.args.config.now.user_version c.in_ok-loaded.loaded (g.D.Disk.past c.args.disk.now) c.in_ok-loaded.ensures.told)

pub returns-in-Ok-table_of-clause-numbers : goal.returns-in-Ok-table_of-clause-numbers
returns-in-Ok-table_of-clause-numbers g c =
    let P : Loaded → Type 0 = λ l. Told (g.D.Disk.past c.args.disk.now) (HasNumbers (length l.files) l.highest_file) in
    subst P (sym c.table_of.ensures.rest) (told_numbers c.args.config.now.user_version c.in_ok-loaded.loaded (g.D.Disk.past c.args.disk.now) c.in_ok-loaded.ensures.told)

pub returns-in-Ok-table_of-clause-loaded : goal.returns-in-Ok-table_of-clause-loaded
returns-in-Ok-table_of-clause-loaded g c =
    let P : Loaded → Type 0 = λ l. Told (g.D.Disk.past c.args.disk.now) (IsStateOf c.args.config.now.user_version l.state) in
    subst P (sym c.table_of.ensures.rest) (told_state c.args.config.now.user_version c.in_ok-loaded.loaded (g.D.Disk.past c.args.disk.now) c.in_ok-loaded.ensures.every.state c.in_ok-loaded.ensures.told)

pub returns-in-Ok-table_of-clause-count : goal.returns-in-Ok-table_of-clause-count
returns-in-Ok-table_of-clause-count g c =
    let P : Loaded → Type 0 = λ l. length l.files ≤ l.highest_file + 1 in
    subst P (sym c.table_of.ensures.rest) (load_few c.args.config.now.user_version c.in_ok-loaded.loaded c.in_ok-loaded.ensures.every)

pub returns-in-Ok-table_of-clause-rollbacks : goal.returns-in-Ok-table_of-clause-rollbacks
returns-in-Ok-table_of-clause-rollbacks g c =
    let load = c.in_ok-loaded.ensures.every in
    let P : Loaded → Type 0 = λ l. c.in-Ok.rollbacks.items ≡ rolled_back l.base in
    let is : c.in-Ok.rollbacks.items ≡ map (λ (o : OpenTx). o.tx) (filter (λ (o : OpenTx). not o.prepared) c.in_ok-loaded.loaded.open_txs) = c.in-Ok.ensures ∙ ap (λ (os : List OpenTx). map (λ (o : OpenTx). o.tx) (filter (λ (o : OpenTx). not o.prepared) os)) c.as_slice.ensures in
    subst P (sym c.table_of.ensures.rest) (is ∙ ap (λ (os : List OpenTx). map (λ (o : OpenTx). o.tx) (filter (λ (o : OpenTx). not o.prepared) os)) load.opened ∙ left_are_rolled_back c.in_ok-loaded.loaded.base)
