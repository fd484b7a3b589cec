use Rattle.std.proofs.Common.{arith, rules}
use Rattle.amq_loader.proofs.Tallies.{greatest_more}
use Rattle.amq_loader.proofs.names.greatest_id.Goals as goal

pub loop-part-preserved : goal.loop-part-preserved
loop-part-preserved c = greatest_more c.args.parts.now c.loop-part.part-index c.part-item.result c.loop-part.greatest c.max-greatest.result (omega arith) c.part-item.is c.loop-part.invariant (search rules)
