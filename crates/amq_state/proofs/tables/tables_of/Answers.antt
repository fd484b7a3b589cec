use Rattle.std.proofs.Common.{sym, subst, arith, List}
use Rattle.amq_model.specs.declared.record.Placed.{Placed}
use Rattle.amq_state.specs.Follows.{Follows}
use Rattle.amq_state.proofs.Lists.{one_taken}
use Rattle.amq_state.proofs.TableLaws.{follows_more}
use Rattle.amq_state.proofs.tables.tables_of.Goals as goal

pub loop-placed-preserved : goal.loop-placed-preserved
loop-placed-preserved c =
    let P : List Placed → Type 0 = λ ps. Follows ps c.take_in.new.self in
    subst P (sym (one_taken c.args.list.now c.loop-placed.placed-index c.placed-item.result (omega arith) c.placed-item.is))
    (follows_more _ c.placed-item.result c.loop-placed.tables _ c.loop-placed.invariant c.in_ok-take_in.ensures.effect c.in_ok-take_in.ensures.turns c.in_ok-take_in.ensures.highest_tx)
