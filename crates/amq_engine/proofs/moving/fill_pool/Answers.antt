use Rattle.std.proofs.Common.{◌≡◌, ◌+◌, ◌-◌, ◌<◌, true, false, subst, ℕ, suc, refl, sym, ap, ◌∙◌, arith}
use Rattle.amq_pool.specs.Pools.{PoolOf, with_next}
use Rattle.amq_engine.specs.Engine.{with_files}
use Rattle.amq_engine.proofs.GoingOn.{goes_still, goes_through}
use Rattle.amq_model.specs.declared.config.Config.{Config}
use Rattle.amq_model.specs.Leaves.{SparesAllBut}
use Rattle.amq_engine.specs.DataFiles.{IsPreparing, Worked, WorkedTo}
use Rattle.amq_engine.proofs.DataFiles.{on_err, to_still, to_then, with_files_config}
use Rattle.amq_engine.proofs.moving.fill_pool.Goals as goal

pub returns-in_err-prepare-clause-valid : goal.returns-in_err-prepare-clause-valid
returns-in_err-prepare-clause-valid g c stage lists room config table tail v = c.prepare.ensures.valid stage lists room config table tail (c.loop.invariant.valid stage lists room config table tail v)

pub returns-in_err-prepare-clause-goes_on : goal.returns-in_err-prepare-clause-goes_on
returns-in_err-prepare-clause-goes_on g c = goes_through (g.D.Disk.past c.args.disk.now) (g.D.Disk.past c.loop.disk) (g.D.Disk.past c.prepare.new.disk) c.loop.invariant.goes c.prepare.ensures.goes_on

pub loop-init : goal.loop-init
loop-init g c = record {
  filled = refl;
  few = omega arith;
  highest = omega arith;
  valid = λ stage lists room config table tail v. v;
  faults = (omega arith, refl);
  later = omega arith;
  tidy = λ tidy. tidy;
  goes = goes_still (g.D.Disk.past c.args.disk.now);
  works = to_still true c.args.pool.now.config.file_size (c.args.pool.now.highest + 1) c.args.pool.now.highest (g.D.Disk.past c.args.disk.now) c.requires.numbers;
}

pub loop-preserved : goal.loop-preserved
loop-preserved g c =
    let e : c.loop.counter + 1 ≡ suc c.loop.counter = omega arith in
    record {
      filled = c.in_ok-prepare.ensures.prepared ∙ ap with_next c.loop.invariant.filled ∙ sym (ap (λ (n : ℕ). with_files n c.args.pool.now) e);
      few = grind (arith, c.loop-test.true, c.min-end.ensures, c.saturating_sub-missing.ensures, c.saturating_sub-left.ensures, c.highest.ensures.value, c.from.ensures);
      highest = omega (arith, ap (λ (p : PoolOf). p.highest) c.in_ok-prepare.ensures.prepared, c.loop.invariant.highest);
      valid = λ stage lists room config table tail v. c.prepare.ensures.valid stage lists room config table tail (c.loop.invariant.valid stage lists room config table tail v);
      faults = (omega (arith, c.loop.invariant.faults.0, c.in_ok-prepare.ensures.cause.0), c.in_ok-prepare.ensures.cause.1 ∙ c.loop.invariant.faults.1);
      later = omega (arith, c.loop.invariant.later, c.prepare.ensures.later);
      tidy = λ tidy. c.in_ok-prepare.ensures.tidy (c.loop.invariant.tidy tidy);
      goes = goes_through (g.D.Disk.past c.args.disk.now) (g.D.Disk.past c.loop.disk) (g.D.Disk.past c.prepare.new.disk) c.loop.invariant.goes c.prepare.ensures.goes_on;
      works =
          let p = c.args.pool.now in
          let now = c.loop.pool in
          let more : c.prepare.new.pool.highest ≡ now.highest + 1 = ap (λ (q : PoolOf). q.highest) c.in_ok-prepare.ensures.prepared in
          let past = g.D.Disk.past in
          let size : now.config.file_size ≡ p.config.file_size = ap (λ (q : PoolOf). q.config.file_size) c.loop.invariant.filled ∙ ap (λ (k : Config). k.file_size) (with_files_config c.loop.counter p) in
          let made : Worked true (SparesAllBut (IsPreparing (now.highest + 1) (now.highest + 1))) p.config.file_size now.highest (now.highest + 1) (past c.loop.disk) (past c.prepare.new.disk) =
          subst (λ (n : ℕ). Worked true (SparesAllBut (IsPreparing (now.highest + 1) (now.highest + 1))) n now.highest (now.highest + 1) (past c.loop.disk) (past c.prepare.new.disk)) size
          c.in_ok-prepare.ensures.works in
          to_then true p.config.file_size (p.highest + 1) p.highest now.highest (now.highest + 1) (now.highest + 1) c.prepare.new.pool.highest (past c.args.disk.now) (past c.loop.disk) (past c.prepare.new.disk)
          (omega (arith, c.loop.invariant.highest)) (omega arith) (grind (arith, c.loop-test.true, c.loop.invariant.highest, c.min-end.ensures, c.saturating_sub-missing.ensures, c.saturating_sub-left.ensures, c.highest.ensures.value, c.from.ensures)) (λ d. sym more) (omega (arith, more)) c.loop.invariant.works made (omega (arith, more, made.all refl));
    }

pub returns-in_err-prepare-clause-failed_works : goal.returns-in_err-prepare-clause-failed_works
returns-in_err-prepare-clause-failed_works g c =
    let p = c.args.pool.now in
    let now = c.loop.pool in
    let past = g.D.Disk.past in
    let size : now.config.file_size ≡ p.config.file_size = ap (λ (q : PoolOf). q.config.file_size) c.loop.invariant.filled ∙ ap (λ (k : Config). k.file_size) (with_files_config c.loop.counter p) in
    let same : c.prepare.new.pool.highest ≡ now.highest = ap (λ (q : PoolOf). q.highest) c.in_err-prepare.ensures.unchanged in
    let made : Worked false (SparesAllBut (IsPreparing (now.highest + 1) (now.highest + 1))) p.config.file_size now.highest (now.highest + 1) (past c.loop.disk) (past c.prepare.new.disk) =
    subst (λ (n : ℕ). Worked false (SparesAllBut (IsPreparing (now.highest + 1) (now.highest + 1))) n now.highest (now.highest + 1) (past c.loop.disk) (past c.prepare.new.disk)) size
    c.in_err-prepare.ensures.failed_works in
    on_err _ (WorkedTo false p.config.file_size (p.highest + 1) p.highest c.prepare.new.pool.highest (past c.args.disk.now) (past c.prepare.new.disk))
    (to_then false p.config.file_size (p.highest + 1) p.highest now.highest (now.highest + 1) (now.highest + 1) c.prepare.new.pool.highest (past c.args.disk.now) (past c.loop.disk) (past c.prepare.new.disk)
    (omega (arith, c.loop.invariant.highest)) (omega arith) (grind (arith, c.loop-test.true, c.loop.invariant.highest, c.min-end.ensures, c.saturating_sub-missing.ensures, c.saturating_sub-left.ensures, c.highest.ensures.value, c.from.ensures)) (λ d. absurd (no d)) (omega (arith, same)) c.loop.invariant.works made (omega (arith, same, made.least)))
  where
    no : false ≡ true → ⊥
    no e = cc

pub returns-clause-works : goal.returns-clause-works
returns-clause-works g c = c.loop.invariant.works

pub returns-in_err-prepare-clause-few : goal.returns-in_err-prepare-clause-few
returns-in_err-prepare-clause-few g c =
    let same : c.prepare.new.pool.highest ≡ c.loop.pool.highest = ap (λ (q : PoolOf). q.highest) c.in_err-prepare.ensures.unchanged in
    on_err _ (c.prepare.new.pool.highest < c.args.pool.now.highest + (c.args.min_files - c.args.files)) (grind (arith, same, c.loop-test.true, c.loop.invariant.highest, c.min-end.ensures, c.saturating_sub-missing.ensures, c.saturating_sub-left.ensures, c.highest.ensures.value, c.from.ensures))
