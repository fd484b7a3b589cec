use Rattle.amq_pool.proofs.Nothing.{nothing_made, nothing_changed}
use Rattle.amq_pool.proofs.making.make_file.Goals as goal

pub returns-in_default-clause-crash : goal.returns-in_default-clause-crash
returns-in_default-clause-crash g c = nothing_made c.args.config.now c.args.id (g.D.Disk.past c.args.disk.now)

pub returns-in_default-clause-memory : goal.returns-in_default-clause-memory
returns-in_default-clause-memory g c = nothing_changed c.args.config.now c.args.id (g.D.Disk.past c.args.disk.now)

pub returns-in_default-temporary_name-clause-crash : goal.returns-in_default-temporary_name-clause-crash
returns-in_default-temporary_name-clause-crash g c = nothing_made c.args.config.now c.args.id (g.D.Disk.past c.args.disk.now)

pub returns-in_default-temporary_name-clause-memory : goal.returns-in_default-temporary_name-clause-memory
returns-in_default-temporary_name-clause-memory g c = nothing_changed c.args.config.now c.args.id (g.D.Disk.past c.args.disk.now)
