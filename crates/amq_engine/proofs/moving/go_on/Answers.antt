use Rattle.std.proofs.Common.{◌≡◌, ◌+◌, Bool, true, false, cond, sym, subst, ap, ◌∙◌}
use Rattle.amq_engine.specs.Receipts.{GoesOn}
use Rattle.amq_model.specs.Leaves.{SparesAllBut}
use Rattle.amq_engine.specs.DataFiles.{IsUsedOrNew, Worked}
use Rattle.amq_engine.proofs.DataFiles.{nil_files, on_err, nil_by, some_by, wrote_first, wrote_only, wrote_then}
use Rattle.amq_engine.specs.Engine.{IsValid, is_nil}
use Rattle.amq_engine.proofs.Going.{valid_on}
use Rattle.amq_engine.proofs.GoingOn.{goes_still, goes_through}
use Rattle.amq_model.specs.Leaves.{Told}
use Rattle.amq_loader.specs.Loads.{IsTidy}
use Rattle.amq_engine.proofs.moving.go_on.Goals as goal
use Rattle.amq_engine.proofs.moving.go_on.Goals.{then-free_count-eq0+in_ok-prepare, else-free_count-eq0}

pub returns-in_err-write_out-clause-valid : goal.returns-in_err-write_out-clause-valid
returns-in_err-write_out-clause-valid g c stage config table v = c.write_out.ensures.valid stage config table c.args.pool.now v

pub returns-in_err-prepare-clause-valid : goal.returns-in_err-prepare-clause-valid
returns-in_err-prepare-clause-valid g c stage config table v =
    c.prepare.ensures.valid stage (g.C.Chronicle.lists c.write_out.new.chronicle) (g.C.Chronicle.receipt_room c.write_out.new.chronicle) config table c.write_out.new.tail (c.write_out.ensures.valid stage config table c.args.pool.now v)

pub returns-clause-valid : goal.returns-clause-valid
returns-clause-valid g c stage config table v =
    let past = g.D.Disk.past in
    let moment = g.D.Disk.moment in
    let lists = g.C.Chronicle.lists c.write_out.new.chronicle in
    let room = g.C.Chronicle.receipt_room c.write_out.new.chronicle in
    let t = c.write_out.new.tail in
    let written = c.write_out.ensures.valid stage config table c.args.pool.now v in
    let ready : IsValid stage (past c.if-free_count-eq0.disk) (moment c.if-free_count-eq0.disk) lists room config table c.if-free_count-eq0.pool t =
    elim c.if-free_count-eq0.branch [
      | then-free_count-eq0+in_ok-prepare w ↦ (let prepared = w.prepare.ensures.valid stage lists room config table t written in
          subst (λ p. IsValid stage (past c.if-free_count-eq0.disk) (moment c.if-free_count-eq0.disk) lists room config table p t) (sym w.pool-is) (subst (λ d. IsValid stage (past d) (moment d) lists room config table w.prepare.new.pool t) (sym w.disk-is) prepared))
      | else-free_count-eq0 w ↦ subst (λ p. IsValid stage (past c.if-free_count-eq0.disk) (moment c.if-free_count-eq0.disk) lists room config table p t) (sym w.pool-is) (subst (λ d. IsValid stage (past d) (moment d) lists room config table c.args.pool.now t) (sym w.disk-is) written)
    ] in
    valid_on config table c.if-free_count-eq0.pool c.take.new.self t c.in-Some.file v.ranges c.in-Some.ensures.file c.take.ensures.is (ap (λ u. u.buffer.bytes) c.in_ok-write_out.ensures.ok) stage (past c.if-free_count-eq0.disk) (moment c.if-free_count-eq0.disk) lists room ready

pub returns-in_err-prepare-clause-goes_on : goal.returns-in_err-prepare-clause-goes_on
returns-in_err-prepare-clause-goes_on g c =
    let past = g.D.Disk.past in
    goes_through (past c.args.disk.now) (past c.write_out.new.disk) (past c.prepare.new.disk) c.write_out.ensures.goes_on c.prepare.ensures.goes_on

pub returns-clause-goes_on : goal.returns-clause-goes_on
returns-clause-goes_on g c =
    let past = g.D.Disk.past in
    let written = past c.write_out.new.disk in
    let ready : GoesOn written (past c.if-free_count-eq0.disk) =
    elim c.if-free_count-eq0.branch [
      | then-free_count-eq0+in_ok-prepare w ↦ subst (λ d. GoesOn written (past d)) (sym w.disk-is) w.prepare.ensures.goes_on
      | else-free_count-eq0 w ↦ subst (λ d. GoesOn written (past d)) (sym w.disk-is) (goes_still written)
    ] in
    goes_through (past c.args.disk.now) written (past c.if-free_count-eq0.disk) c.write_out.ensures.goes_on ready

pub returns-clause-tidy : goal.returns-clause-tidy
returns-clause-tidy g c tidy =
    let past = g.D.Disk.past in
    elim c.if-free_count-eq0.branch [
      | then-free_count-eq0+in_ok-prepare w ↦ subst (λ d. Told (past d) IsTidy) (sym w.disk-is) (w.in_ok-prepare.ensures.tidy (c.in_ok-write_out.ensures.tidy tidy))
      | else-free_count-eq0 w ↦ subst (λ d. Told (past d) IsTidy) (sym w.disk-is) (c.in_ok-write_out.ensures.tidy tidy)
    ]

pub returns-in_err-write_out-clause-failed_works : goal.returns-in_err-write_out-clause-failed_works
returns-in_err-write_out-clause-failed_works g c =
    let past = g.D.Disk.past in
    let p = c.args.pool.now in
    let h = p.highest in
    let used = c.args.tail.now.file.name in
    on_err _ (Worked false (SparesAllBut (IsUsedOrNew used (h + 1) (cond (is_nil p.prepared) (h + 1) h))) p.config.file_size h (cond (is_nil p.prepared) (h + 1) h) (past c.args.disk.now) (past c.write_out.new.disk))
    (wrote_first used p.config.file_size h (past c.args.disk.now) (past c.write_out.new.disk) (past c.write_out.new.disk) (c.write_out.ensures.works p.config.file_size h) (is_nil p.prepared))

pub returns-in_err-prepare-clause-failed_works : goal.returns-in_err-prepare-clause-failed_works
returns-in_err-prepare-clause-failed_works g c =
    let past = g.D.Disk.past in
    let p = c.args.pool.now in
    let h = p.highest in
    let used = c.args.tail.now.file.name in
    let none : is_nil p.prepared ≡ true = nil_by p.prepared (sym c.free_count.ensures.value ∙ c.if-free_count-eq0.true) in
    let R : Bool → Type 0 = λ k. Worked false (SparesAllBut (IsUsedOrNew used (h + 1) (cond k (h + 1) h))) p.config.file_size h (cond k (h + 1) h) (past c.args.disk.now) (past c.prepare.new.disk) in
    on_err _ (R (is_nil p.prepared)) (subst R (sym none)
    (wrote_then used p.config.file_size h (past c.args.disk.now) (past c.write_out.new.disk) (past c.prepare.new.disk) (c.write_out.ensures.works p.config.file_size h) false (c.requires.number (nil_files p.prepared none)) c.in_err-prepare.ensures.failed_works))

pub returns-clause-works : goal.returns-clause-works
returns-clause-works g c =
    let past = g.D.Disk.past in
    let p = c.args.pool.now in
    let h = p.highest in
    let used = c.args.tail.now.file.name in
    let size = p.config.file_size in
    let wrote = c.write_out.ensures.works size h in
    let R : Bool → Type 0 = λ k. Worked true (SparesAllBut (IsUsedOrNew used (h + 1) (cond k (h + 1) h))) size h (cond k (h + 1) h) (past c.args.disk.now) (past c.if-free_count-eq0.disk) in
    elim c.if-free_count-eq0.branch [
      | then-free_count-eq0+in_ok-prepare w ↦ (let none : is_nil p.prepared ≡ true = nil_by p.prepared (sym c.free_count.ensures.value ∙ w.if-free_count-eq0.true) in
          subst R (sym none) (subst (λ d. Worked true (SparesAllBut (IsUsedOrNew used (h + 1) (h + 1))) size h (h + 1) (past c.args.disk.now) (past d)) (sym w.disk-is)
          (wrote_then used size h (past c.args.disk.now) (past c.write_out.new.disk) (past w.prepare.new.disk) wrote true (c.requires.number (nil_files p.prepared none)) w.in_ok-prepare.ensures.works)))
      | else-free_count-eq0 w ↦ (let some : is_nil p.prepared ≡ false = some_by p.prepared (λ none. w.if-free_count-eq0.false (c.free_count.ensures.value ∙ none)) in
          subst R (sym some) (subst (λ d. Worked true (SparesAllBut (IsUsedOrNew used (h + 1) h)) size h h (past c.args.disk.now) (past d)) (sym w.disk-is)
          (wrote_only used size h (past c.args.disk.now) (past c.write_out.new.disk) (past c.write_out.new.disk) wrote true)))
    ]
