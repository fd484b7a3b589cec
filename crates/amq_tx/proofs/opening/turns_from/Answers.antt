use Rattle.std.proofs.Common.{◌∙◌, ap, sym, arith, None, [], Option, List, ℕ, length, ◌<◌}
use Rattle.std.proofs.lemmas.List.Sums.{fold_more}
use Rattle.amq_tx.specs.State.{TurnState}
use Rattle.amq_tx.specs.Starting.{turn_or, ids_or}
use Rattle.amq_tx.proofs.Starts.{turn_put, ids_put}
use Rattle.amq_tx.proofs.opening.turns_from.Goals as goal

pub loop-open-preserved : goal.loop-open-preserved
loop-open-preserved c =
    let i = c.loop-open.open-index in
    let o = c.open-item.result in
    let here : i < length c.args.opened.now = omega arith in
    record {
      turns = λ q. turn_put o c.new-turn.result _ _ q (c.in-Ok.ensures.updates.0 q) c.new-turn.ensures.state
          ∙ ap (λ (found : Option TurnState). turn_or q found o) (c.loop-open.invariant.turns q)
          ∙ ap (turn_or q _) c.open-item.is ∙ sym (fold_more (turn_or q) None c.args.opened.now i o here);
      ids = λ q. ids_put o c.new-turn.result _ _ q (c.in-Ok.ensures.updates.0 q) (c.new-turn.ensures.ids ∙ c.in_ok-ids_from.ensures)
          ∙ ap (λ (found : List ℕ). ids_or q found o) (c.loop-open.invariant.ids q)
          ∙ ap (ids_or q _) c.open-item.is ∙ sym (fold_more (ids_or q) [] c.args.opened.now i o here);
    }
