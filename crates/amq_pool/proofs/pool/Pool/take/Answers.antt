use Rattle.amq_pool.proofs.Queue.{taken, least}
use Rattle.amq_pool.proofs.pool.Pool.take.Goals as goal

pub invariant_of-self : goal.invariant_of-self
invariant_of-self c = taken c.self.inside.config c.self.inside.highest c.self.inside.prepared.items c.pop_front.new.self.items c.pop_front.result c.pop_front.ensures.items c.self.invariant

pub returns-clause-is : goal.returns-clause-is
returns-clause-is c = taken c.self.inside.config c.self.inside.highest c.self.inside.prepared.items c.pop_front.new.self.items c.pop_front.result c.pop_front.ensures.items c.self.invariant

pub returns-clause-least : goal.returns-clause-least
returns-clause-least c = least c.self.inside.config c.self.inside.highest c.self.inside.prepared.items c.pop_front.new.self.items c.pop_front.result c.pop_front.ensures.items c.self.invariant
