use Rattle.std.proofs.Common.{arith}
use Rattle.amq_model.specs.Effect.{removal_of}
use Rattle.amq_state.proofs.Lists.{found_more}
use Rattle.amq_state.proofs.changes.removals_of.Goals as goal

pub loop-placed-preserved : goal.loop-placed-preserved
loop-placed-preserved c = found_more removal_of c.args.changes.now c.loop-placed.placed-index c.placed-item.result c.loop-placed.removals.items c.push_removal.new.removals.items (omega arith) c.placed-item.is c.loop-placed.invariant c.in_ok-push_removal.ensures
