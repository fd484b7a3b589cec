use Rattle.std.proofs.Common.{arith}
use Rattle.amq_pool.proofs.Queue.{not_many}
use Rattle.amq_pool.proofs.pool.Pool.free_count.Goals as goal

pub overflow_cast-result : goal.overflow_cast-result
overflow_cast-result c = let h = not_many c.self.inside.config c.self.inside.highest c.self.inside.prepared.items c.self.invariant in omega (arith, h, c.len.ensures)
