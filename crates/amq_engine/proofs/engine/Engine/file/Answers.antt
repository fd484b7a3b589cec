use Rattle.std.proofs.Common.{◌++◌, arith}
use Rattle.amq_engine.proofs.Listing.{used_id}
use Rattle.amq_engine.proofs.engine.Engine.file.Goals as goal

pub returns-clause-number : goal.returns-clause-number
returns-clause-number g c =
    let parts = c.self.invariant.sound.parts in
    omega (arith, parts.numbers, used_id c.self.inside.pool.highest (parts.old ++ parts.closed) c.self.inside.tail.file c.self.inside.pool.prepared parts.listed)
