use Rattle.std.proofs.Common.{◌≡◌, ◌∙◌, ℕ, List, ◌++◌, sym, ap}
use Rattle.std.specs.List.{filter_map}
use Rattle.std.proofs.lemmas.List.{append-nil}
use Rattle.amq_state.specs.declared.turn.Turn.{Turn}
use Rattle.amq_state.specs.Parts.{doubt_at}
use Rattle.amq_state.proofs.OpenLaws.{doubts_are}
use Rattle.amq_state.proofs.doubts.doubts_from.Goals as goal

pub returns : goal.returns
returns c = λ l follows.
    let all : c.loop-tx.doubts.items ≡ filter_map doubt_at c.args.turns.entries =
    sym (append-nil c.loop-tx.doubts.items) ∙ ap (λ (es : List (ℕ × Turn)). c.loop-tx.doubts.items ++ filter_map doubt_at es) (sym c.in-None.ensures.steps.0) ∙ c.loop-tx.invariant in
    all ∙ doubts_are l c.args.turns c.into_iter-tx-iterator.ensures.into_iter_gives.5 follows
