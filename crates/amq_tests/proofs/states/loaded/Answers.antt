use Rattle.std.proofs.Common.{◌<◌, sym, subst, arith}
use Rattle.std.proofs.lemmas.List.Elements.{All-nil}
use Rattle.amq_state.specs.Fed.{AreBelow}
use Rattle.amq_tests.proofs.FeedingLemmas.{fed_below}
use Rattle.amq_tests.proofs.states.loaded.Goals as goal

pub feed_file-requires-2 : goal.feed_file-requires-2
feed_file-requires-2 c =
    let none : AreBelow 1 c.new-loading.result = subst (AreBelow 1) (sym c.new-loading.ensures) (All-nil (λ p. p.file < 1)) in
    subst (AreBelow 2) (sym c.in_ok-feed_file.ensures.ok) (fed_below 1 2 c.new-loading.result c.args.first.now (omega arith) none)

pub feed_file-requires-3 : goal.feed_file-requires-3
feed_file-requires-3 c =
    let none : AreBelow 1 c.new-loading.result = subst (AreBelow 1) (sym c.new-loading.ensures) (All-nil (λ p. p.file < 1)) in
    let first : AreBelow 2 c.feed_file.new.self = subst (AreBelow 2) (sym c.in_ok-feed_file.ensures.ok) (fed_below 1 2 c.new-loading.result c.args.first.now (omega arith) none) in
    subst (AreBelow 3) (sym c.in_ok-feed_file-2.ensures.ok) (fed_below 2 3 c.feed_file.new.self c.args.second.now (omega arith) first)
