use Rattle.amq_io.proofs.Starting.{holds_started}
use Rattle.amq_io.proofs.memory_disk.MemoryDisk.failing.Goals as goal

pub returns-clause-holds : goal.returns-clause-holds
returns-clause-holds c = holds_started c.started.result c.args.files.items c.requires c.started.ensures.fresh c.started.ensures.start
