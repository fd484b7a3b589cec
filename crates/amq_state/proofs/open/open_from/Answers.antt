use Rattle.std.proofs.Common.{◌≡◌, ◌∙◌, ℕ, List, ◌++◌, map, sym, ap}
use Rattle.std.proofs.lemmas.List.{append-nil}
use Rattle.amq_state.specs.declared.turn.Turn.{Turn}
use Rattle.amq_state.specs.Parts.{open_at}
use Rattle.amq_state.proofs.OpenLaws.{opens_are}
use Rattle.amq_state.proofs.open.open_from.Goals as goal

pub returns : goal.returns
returns c = λ l follows.
    let all : c.loop-tx.open.items ≡ map open_at c.args.turns.now.entries =
    sym (append-nil c.loop-tx.open.items) ∙ ap (λ (es : List (ℕ × Turn)). c.loop-tx.open.items ++ map open_at es) (sym c.in-None.ensures.steps.0) ∙ c.loop-tx.invariant in
    all ∙ opens_are l c.args.turns.now c.into_iter-tx-iterator.ensures.into_iter_gives.5 follows
