use Rattle.std.proofs.Common.{arith}
use Rattle.amq_model.specs.Effect.{entry_of}
use Rattle.amq_state.proofs.Lists.{found_more}
use Rattle.amq_state.proofs.changes.entries_of.Goals as goal

pub loop-placed-preserved : goal.loop-placed-preserved
loop-placed-preserved c = found_more entry_of c.args.changes.now c.loop-placed.placed-index c.placed-item.result c.loop-placed.entries.items c.push_entry.new.entries.items (omega arith) c.placed-item.is c.loop-placed.invariant c.in_ok-push_entry.ensures
