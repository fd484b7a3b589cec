use Rattle.amq_io.specs.Faults.{as_error}
use Rattle.amq_engine.specs.Puts.{Puts}
use Rattle.amq_engine.proofs.Putting.{run2, try1, try2, there1}
use Rattle.amq_engine.proofs.GoingOn.{goes_by}
use Rattle.amq_engine.proofs.put.put.Goals as goal

pub returns-in_err-write_at-clause-crash : goal.returns-in_err-write_at-clause-crash
returns-in_err-write_at-clause-crash g c =
    let n = c.args.name.now in
    let x = c.args.bytes.now in
    let past = g.D.Disk.past in
    let a = past c.args.disk.now in
    let b = past c.write_at.new.disk in
    try1 n c.args.place x a b (as_error c.write_at.result) c.write_at.ensures.note

pub returns-in_err-sync-clause-crash : goal.returns-in_err-sync-clause-crash
returns-in_err-sync-clause-crash g c =
    let n = c.args.name.now in
    let x = c.args.bytes.now in
    let past = g.D.Disk.past in
    let a = past c.args.disk.now in
    let b = past c.write_at.new.disk in
    let d = past c.sync.new.disk in
    try2 n c.args.place x a b d (as_error c.sync.result) c.in_ok-write_at.ensures.note c.sync.ensures.note

pub returns-clause-crash : goal.returns-clause-crash
returns-clause-crash g c =
    let n = c.args.name.now in
    let x = c.args.bytes.now in
    let past = g.D.Disk.past in
    let a = past c.args.disk.now in
    let b = past c.write_at.new.disk in
    let d = past c.sync.new.disk in
    try2 n c.args.place x a b d (as_error c.sync.result) c.in_ok-write_at.ensures.note c.sync.ensures.note

pub returns-clause-ok : goal.returns-clause-ok
returns-clause-ok g c =
    let n = c.args.name.now in
    let x = c.args.bytes.now in
    let past = g.D.Disk.past in
    let a = past c.args.disk.now in
    let b = past c.write_at.new.disk in
    let d = past c.sync.new.disk in
    run2 n c.args.place x a b d c.in_ok-write_at.ensures.note c.in_ok-sync.ensures.note

pub sync-requires : goal.sync-requires
sync-requires g c =
    let n = c.args.name.now in
    let x = c.args.bytes.now in
    let past = g.D.Disk.past in
    let a = past c.args.disk.now in
    let b = past c.write_at.new.disk in
    there1 n c.args.place x a b c.requires.there c.in_ok-write_at.ensures.note

pub returns-in_err-write_at-clause-goes_on : goal.returns-in_err-write_at-clause-goes_on
returns-in_err-write_at-clause-goes_on g c =
    let past = g.D.Disk.past in
    let P = Puts c.args.name.now c.args.place c.args.bytes.now in
    goes_by P P (past c.args.disk.now) (past c.write_at.new.disk) (returns-in_err-write_at-clause-crash g c)

pub returns-in_err-sync-clause-goes_on : goal.returns-in_err-sync-clause-goes_on
returns-in_err-sync-clause-goes_on g c =
    let past = g.D.Disk.past in
    let P = Puts c.args.name.now c.args.place c.args.bytes.now in
    goes_by P P (past c.args.disk.now) (past c.sync.new.disk) (returns-in_err-sync-clause-crash g c)

pub returns-clause-goes_on : goal.returns-clause-goes_on
returns-clause-goes_on g c =
    let past = g.D.Disk.past in
    let P = Puts c.args.name.now c.args.place c.args.bytes.now in
    goes_by P P (past c.args.disk.now) (past c.sync.new.disk) (returns-clause-crash g c)
