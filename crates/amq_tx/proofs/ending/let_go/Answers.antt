use Rattle.std.proofs.Common.{arith}
use Rattle.std.proofs.lemmas.Grind.{common_steps}
use Rattle.amq_tx.proofs.Lists.{without_twice}
use Rattle.amq_tx.proofs.ending.let_go.Goals as goal

pub loop-id-preserved : goal.loop-id-preserved
loop-id-preserved c = λ q. grind (arith, common_steps, without_twice, c.let_go_of.ensures q, c.loop-id.invariant q)
