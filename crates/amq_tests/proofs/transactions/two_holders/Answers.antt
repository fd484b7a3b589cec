use Rattle.std.proofs.Common.{◌∙◌, ◌++◌, ◌∷◌, [], true, false, List, sym, ap, subst}
use Rattle.amq_model.specs.declared.state.EntryEnd.TheVariants.{Put, Gone}
use Rattle.amq_model.specs.declared.state.OpenTx.{OpenTx}
use Rattle.amq_tx.specs.Starting.{AreListed}
use Rattle.amq_tests.proofs.OpenTxLemmas.{two_opened}
use Rattle.amq_tests.proofs.transactions.two_holders.Goals as goal

pub returns : goal.returns
returns c =
    let items = c.in_ok-push-2.ensures.items ∙ ap (λ (os : List OpenTx). os ++ c.in_ok-second.second ∷ []) (c.in_ok-push.ensures.items ∙ ap (λ (os : List OpenTx). os ++ c.in_ok-first.first ∷ []) c.new-opened.ensures.items)
    ∙ ap (λ (o : OpenTx). o ∷ c.in_ok-second.second ∷ []) c.in_ok-first.ensures ∙ ap (λ (o : OpenTx). record { tx = 5; prepared = false; touched = (7, Put) ∷ [] } ∷ o ∷ []) c.in_ok-second.ensures in
    subst (λ (os : List OpenTx). AreListed os 9) (sym items) (two_opened false true Put Gone)
