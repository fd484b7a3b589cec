use Rattle.std.proofs.Common.{◌≡◌, ◌+◌, Bool, true, false, cond, refl, sym, subst}
use Rattle.std.specs.Prelude.{◌&&◌, OnOk, OnErr}
use Rattle.amq_model.specs.Leaves.{SparesAllBut}
use Rattle.amq_engine.specs.Engine.{is_nil}
use Rattle.amq_engine.specs.DataFiles.{IsUsedOrNew, Worked}
use Rattle.amq_engine.proofs.DataFiles.{on_ok, on_err, works_still, wrote_only}
use Rattle.amq_engine.proofs.GoingOn.{goes_still}
use Rattle.amq_engine.proofs.moving.ready.Goals as goal

pub returns-then-writes_first-clause-valid : goal.returns-then-writes_first-clause-valid
returns-then-writes_first-clause-valid g c stage config table v = c.write_out.ensures.valid stage config table c.args.pool.now v

pub returns-else-writes_first-clause-goes_on : goal.returns-else-writes_first-clause-goes_on
returns-else-writes_first-clause-goes_on g c = goes_still (g.D.Disk.past c.args.disk.now)

pub returns-else-writes_first-clause-tidy : goal.returns-else-writes_first-clause-tidy
returns-else-writes_first-clause-tidy g c tidy = tidy

pub returns-then-moves-clause-works : goal.returns-then-moves-clause-works
returns-then-moves-clause-works g c =
    let p = c.args.pool.now in
    let h = p.highest in
    subst (λ (m : Bool). OnOk c.go_on.result (Worked true (SparesAllBut (IsUsedOrNew c.args.tail.now.file.name (h + 1) (cond (m && is_nil p.prepared) (h + 1) h))) p.config.file_size h (cond (m && is_nil p.prepared) (h + 1) h) (g.D.Disk.past c.args.disk.now) (g.D.Disk.past c.go_on.new.disk))) (sym c.if-moves.true) c.go_on.ensures.works

pub returns-then-writes_first-clause-works : goal.returns-then-writes_first-clause-works
returns-then-writes_first-clause-works g c =
    let past = g.D.Disk.past in
    let p = c.args.pool.now in
    let h = p.highest in
    let size = p.config.file_size in
    on_ok _ (Worked true (SparesAllBut (IsUsedOrNew c.args.tail.now.file.name (h + 1) (cond (c.args.moves && is_nil p.prepared) (h + 1) h))) size h (cond (c.args.moves && is_nil p.prepared) (h + 1) h) (past c.args.disk.now) (past c.write_out.new.disk))
    (subst (λ (m : Bool). Worked true (SparesAllBut (IsUsedOrNew c.args.tail.now.file.name (h + 1) (cond (m && is_nil p.prepared) (h + 1) h))) size h (cond (m && is_nil p.prepared) (h + 1) h) (past c.args.disk.now) (past c.write_out.new.disk)) (sym c.if-moves.false)
    (wrote_only c.args.tail.now.file.name size h (past c.args.disk.now) (past c.write_out.new.disk) (past c.write_out.new.disk) (c.write_out.ensures.works size h) true))

pub returns-then-moves-clause-failed_works : goal.returns-then-moves-clause-failed_works
returns-then-moves-clause-failed_works g c =
    let p = c.args.pool.now in
    let h = p.highest in
    subst (λ (m : Bool). OnErr c.go_on.result (Worked false (SparesAllBut (IsUsedOrNew c.args.tail.now.file.name (h + 1) (cond (m && is_nil p.prepared) (h + 1) h))) p.config.file_size h (cond (m && is_nil p.prepared) (h + 1) h) (g.D.Disk.past c.args.disk.now) (g.D.Disk.past c.go_on.new.disk))) (sym c.if-moves.true) c.go_on.ensures.failed_works

pub returns-then-writes_first-clause-failed_works : goal.returns-then-writes_first-clause-failed_works
returns-then-writes_first-clause-failed_works g c =
    let past = g.D.Disk.past in
    let p = c.args.pool.now in
    let h = p.highest in
    let size = p.config.file_size in
    on_err _ (Worked false (SparesAllBut (IsUsedOrNew c.args.tail.now.file.name (h + 1) (cond (c.args.moves && is_nil p.prepared) (h + 1) h))) size h (cond (c.args.moves && is_nil p.prepared) (h + 1) h) (past c.args.disk.now) (past c.write_out.new.disk))
    (subst (λ (m : Bool). Worked false (SparesAllBut (IsUsedOrNew c.args.tail.now.file.name (h + 1) (cond (m && is_nil p.prepared) (h + 1) h))) size h (cond (m && is_nil p.prepared) (h + 1) h) (past c.args.disk.now) (past c.write_out.new.disk)) (sym c.if-moves.false)
    (wrote_only c.args.tail.now.file.name size h (past c.args.disk.now) (past c.write_out.new.disk) (past c.write_out.new.disk) (c.write_out.ensures.works size h) false))

pub returns-else-writes_first-clause-works : goal.returns-else-writes_first-clause-works
returns-else-writes_first-clause-works g c =
    let p = c.args.pool.now in
    let h = p.highest in
    let size = p.config.file_size in
    let a = g.D.Disk.past c.args.disk.now in
    let used = c.args.tail.now.file.name in
    subst (λ (m : Bool). Worked true (SparesAllBut (IsUsedOrNew used (h + 1) (cond (m && is_nil p.prepared) (h + 1) h))) size h (cond (m && is_nil p.prepared) (h + 1) h) a a) (sym c.if-moves.false)
    (wrote_only used size h a a a (works_still (SparesAllBut (λ n. n ≡ used)) size h a (λ s n out. refl)) true)
