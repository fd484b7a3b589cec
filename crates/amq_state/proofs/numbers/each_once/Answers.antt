use Rattle.std.proofs.Common.{◌∙◌, ◌-◌, ap, arith, get_or, List, ℕ}
use Rattle.std.specs.Ordering.{nat_cmp}
use Rattle.std.specs.BTreeSet.{insert_key}
use Rattle.amq_state.proofs.Lists.{one_ascending}
use Rattle.amq_state.proofs.numbers.each_once.Goals as goal

pub loop-i-preserved : goal.loop-i-preserved
loop-i-preserved c =
    c.in-Ok.ensures.keys ∙ ap (λ (ks : List ℕ). insert_key nat_cmp ks (get_or c.args.numbers.now (c.loop-i.i - 1) 0)) c.loop-i.invariant
    ∙ one_ascending c.args.numbers.now (c.loop-i.i - 1) c.loop-i.i (omega arith) (omega arith)
