use Rattle.std.proofs.Common.{◌+◌, true, sym, subst}
use Rattle.amq_pool.specs.Pools.{PoolOf, IsPool, Making, with_next}
use Rattle.amq_engine.specs.Engine.{IsValid}
use Rattle.amq_engine.proofs.Going.{valid_prepared, valid_unprepared}
use Rattle.amq_engine.proofs.GoingOn.{goes_by}
use Rattle.amq_engine.proofs.Tidying.{told_made}
use Rattle.amq_engine.proofs.DataFiles.{made_worked, making_worked}
use Rattle.amq_engine.proofs.moving.prepare.Goals as goal

pub returns-in-Ok-clause-valid : goal.returns-in-Ok-clause-valid
returns-in-Ok-clause-valid g c stage lists room config table tail v =
    let past = g.D.Disk.past in
    let moment = g.D.Disk.moment in
    subst (λ (p : PoolOf). IsValid stage (past c.prepare_step.new.disk) (moment c.prepare_step.new.disk) lists room config table p tail) (sym c.in-Ok.ensures.prepared)
    (valid_prepared stage (past c.args.disk.now) (past c.prepare_step.new.disk) (moment c.args.disk.now) (moment c.prepare_step.new.disk) lists room config table c.args.pool.now tail c.requires.number c.prepare_step.ensures.later (subst IsPool c.in-Ok.ensures.prepared c.prepare_step.ensures.is) c.in-Ok.ensures.ok v)

pub returns-in-Err-Disk-clause-valid : goal.returns-in-Err-Disk-clause-valid
returns-in-Err-Disk-clause-valid g c stage lists room config table tail v =
    let past = g.D.Disk.past in
    let moment = g.D.Disk.moment in
    subst (λ (p : PoolOf). IsValid stage (past c.prepare_step.new.disk) (moment c.prepare_step.new.disk) lists room config table p tail) (sym c.in-Err-Disk.ensures.unchanged)
    (valid_unprepared stage (past c.args.disk.now) (past c.prepare_step.new.disk) (moment c.args.disk.now) (moment c.prepare_step.new.disk) lists room config table c.args.pool.now tail c.requires.number c.prepare_step.ensures.later c.prepare_step.ensures.crash v)

pub returns-in-Err-NoMemory-clause-valid : goal.returns-in-Err-NoMemory-clause-valid
returns-in-Err-NoMemory-clause-valid g c stage lists room config table tail v =
    let past = g.D.Disk.past in
    let moment = g.D.Disk.moment in
    subst (λ (p : PoolOf). IsValid stage (past c.prepare_step.new.disk) (moment c.prepare_step.new.disk) lists room config table p tail) (sym c.in-Err-NoMemory.ensures.unchanged)
    (valid_unprepared stage (past c.args.disk.now) (past c.prepare_step.new.disk) (moment c.args.disk.now) (moment c.prepare_step.new.disk) lists room config table c.args.pool.now tail c.requires.number c.prepare_step.ensures.later c.prepare_step.ensures.crash v)

pub returns-in-Ok-clause-goes_on : goal.returns-in-Ok-clause-goes_on
returns-in-Ok-clause-goes_on g c =
    let past = g.D.Disk.past in
    let P = Making c.args.pool.now.config (c.args.pool.now.highest + 1) in
    goes_by P P (past c.args.disk.now) (past c.prepare_step.new.disk) c.prepare_step.ensures.crash

pub returns-in-Err-Disk-clause-goes_on : goal.returns-in-Err-Disk-clause-goes_on
returns-in-Err-Disk-clause-goes_on g c =
    let past = g.D.Disk.past in
    let P = Making c.args.pool.now.config (c.args.pool.now.highest + 1) in
    goes_by P P (past c.args.disk.now) (past c.prepare_step.new.disk) c.prepare_step.ensures.crash

pub returns-in-Err-NoMemory-clause-goes_on : goal.returns-in-Err-NoMemory-clause-goes_on
returns-in-Err-NoMemory-clause-goes_on g c =
    let past = g.D.Disk.past in
    let P = Making c.args.pool.now.config (c.args.pool.now.highest + 1) in
    goes_by P P (past c.args.disk.now) (past c.prepare_step.new.disk) c.prepare_step.ensures.crash

pub returns-in-Ok-clause-tidy : goal.returns-in-Ok-clause-tidy
returns-in-Ok-clause-tidy g c tidy = told_made c.args.pool.now.config c.args.pool.now.highest (g.D.Disk.past c.args.disk.now) (g.D.Disk.past c.prepare_step.new.disk) c.requires.number c.in-Ok.ensures.ok tidy

pub returns-in-Ok-clause-works : goal.returns-in-Ok-clause-works
returns-in-Ok-clause-works g c =
    let is : IsPool (with_next c.args.pool.now) = subst IsPool c.in-Ok.ensures.prepared c.prepare_step.ensures.is in
    made_worked c.args.pool.now.config c.args.pool.now.highest is.config c.requires.number (g.D.Disk.past c.args.disk.now) (g.D.Disk.past c.prepare_step.new.disk) true c.in-Ok.ensures.ok

pub returns-in-Err-Disk-clause-failed_works : goal.returns-in-Err-Disk-clause-failed_works
returns-in-Err-Disk-clause-failed_works g c =
    let is : IsPool c.args.pool.now = subst IsPool c.in-Err-Disk.ensures.unchanged c.prepare_step.ensures.is in
    making_worked c.args.pool.now.config c.args.pool.now.highest is.config c.requires.number (g.D.Disk.past c.args.disk.now) (g.D.Disk.past c.prepare_step.new.disk) c.prepare_step.ensures.crash

pub returns-in-Err-NoMemory-clause-failed_works : goal.returns-in-Err-NoMemory-clause-failed_works
returns-in-Err-NoMemory-clause-failed_works g c =
    let is : IsPool c.args.pool.now = subst IsPool c.in-Err-NoMemory.ensures.unchanged c.prepare_step.ensures.is in
    making_worked c.args.pool.now.config c.args.pool.now.highest is.config c.requires.number (g.D.Disk.past c.args.disk.now) (g.D.Disk.past c.prepare_step.new.disk) c.prepare_step.ensures.crash
