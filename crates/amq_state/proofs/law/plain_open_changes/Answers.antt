use Rattle.std.proofs.Common.{arith}
use Rattle.amq_state.specs.Backward.{values}
use Rattle.amq_state.proofs.Lists.{opened_more}
use Rattle.amq_state.proofs.law.plain_open_changes.Goals as goal

pub loop-placed-preserved : goal.loop-placed-preserved
loop-placed-preserved c = opened_more c.args.tx c.args.list.now c.loop-placed.placed-index c.placed-item.result (values c.loop-placed.open.items) (values c.change_or_end.new.pending.items) (omega arith) c.placed-item.is c.loop-placed.invariant c.in_ok-change_or_end.ensures
