use Rattle.std.proofs.Common.{inl, rules}
use Rattle.amq_engine.proofs.Found.{asks_sync, asks_then_sync, told_there, told_left, told_some_numbers}
use Rattle.amq_engine.proofs.OpeningCalls.{load_alone, all_synced, some_synced, first_of_all}
use Rattle.amq_engine.proofs.opening.load_durably.Goals as goal

pub returns-in-Err-clause-crash : goal.returns-in-Err-clause-crash
returns-in-Err-clause-crash g c = asks_sync (g.D.Disk.past c.args.disk.now) (g.D.Disk.past c.load.new.disk) c.load.ensures.only_asks

pub returns-then-loaded-ge-MOST_NUMBER-clause-crash : goal.returns-then-loaded-ge-MOST_NUMBER-clause-crash
returns-then-loaded-ge-MOST_NUMBER-clause-crash g c = asks_sync (g.D.Disk.past c.args.disk.now) (g.D.Disk.past c.load.new.disk) c.load.ensures.only_asks

pub returns-then-loaded-ge-MOST_NUMBER-clause-cause : goal.returns-then-loaded-ge-MOST_NUMBER-clause-cause
returns-then-loaded-ge-MOST_NUMBER-clause-cause g c lists blank = ((c.in-Ok.ensures.cause.0, c.in-Ok.ensures.cause.1), inl (search rules, c.load.ensures.asks, blank, told_some_numbers c.args.config.now.user_version c.in-Ok.loaded (g.D.Disk.past c.args.disk.now) c.in-Ok.ensures.told))

pub sync_files-requires-clause-there : goal.sync_files-requires-clause-there
sync_files-requires-clause-there g c = told_there c.args.config.now.user_version c.in-Ok.loaded (g.D.Disk.past c.args.disk.now) (g.D.Disk.past c.load.new.disk) c.load.ensures.asks c.in-Ok.ensures.told

pub returns-in-Ok-sync_files-clause-left : goal.returns-in-Ok-sync_files-clause-left
returns-in-Ok-sync_files-clause-left g c = told_left c.args.config.now.user_version c.in-Ok.loaded (g.D.Disk.past c.args.disk.now) (g.D.Disk.past c.load.new.disk) (g.D.Disk.past c.sync_files.new.disk) c.load.ensures.asks c.sync_files.ensures.crash c.in-Ok.ensures.told

pub returns-in-Ok-sync_files-clause-crash : goal.returns-in-Ok-sync_files-clause-crash
returns-in-Ok-sync_files-clause-crash g c = asks_then_sync (g.D.Disk.past c.args.disk.now) (g.D.Disk.past c.load.new.disk) (g.D.Disk.past c.sync_files.new.disk) c.load.ensures.only_asks c.sync_files.ensures.crash

pub returns-in-Err-sync_files-clause-crash : goal.returns-in-Err-sync_files-clause-crash
returns-in-Err-sync_files-clause-crash g c = asks_then_sync (g.D.Disk.past c.args.disk.now) (g.D.Disk.past c.load.new.disk) (g.D.Disk.past c.sync_files.new.disk) c.load.ensures.only_asks c.sync_files.ensures.crash

pub returns-in-Err-clause-first_calls : goal.returns-in-Err-clause-first_calls
returns-in-Err-clause-first_calls g c = load_alone c.load.result (g.D.Disk.past c.args.disk.now) (g.D.Disk.past c.load.new.disk) c.load.ensures.calls

pub returns-then-loaded-ge-MOST_NUMBER-clause-first_calls : goal.returns-then-loaded-ge-MOST_NUMBER-clause-first_calls
returns-then-loaded-ge-MOST_NUMBER-clause-first_calls g c = load_alone c.load.result (g.D.Disk.past c.args.disk.now) (g.D.Disk.past c.load.new.disk) c.load.ensures.calls

pub returns-in-Ok-sync_files-clause-calls : goal.returns-in-Ok-sync_files-clause-calls
returns-in-Ok-sync_files-clause-calls g c =
    all_synced c.args.config.now.user_version c.in-Ok.loaded (g.D.Disk.past c.args.disk.now) (g.D.Disk.past c.load.new.disk) (g.D.Disk.past c.sync_files.new.disk) c.in-Ok.ensures.told c.in-Ok.ensures.calls c.in-Ok-sync_files.ensures.calls

pub returns-in-Ok-sync_files-clause-first_calls : goal.returns-in-Ok-sync_files-clause-first_calls
returns-in-Ok-sync_files-clause-first_calls g c = first_of_all (g.D.Disk.past c.args.disk.now) (g.D.Disk.past c.sync_files.new.disk) (returns-in-Ok-sync_files-clause-calls g c)

pub returns-in-Err-sync_files-clause-first_calls : goal.returns-in-Err-sync_files-clause-first_calls
returns-in-Err-sync_files-clause-first_calls g c =
    some_synced c.args.config.now.user_version c.in-Ok.loaded (g.D.Disk.past c.args.disk.now) (g.D.Disk.past c.load.new.disk) (g.D.Disk.past c.sync_files.new.disk) c.in-Ok.ensures.told c.in-Ok.ensures.calls c.in-Err-sync_files.ensures.calls
