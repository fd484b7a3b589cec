use Rattle.std.proofs.Common.{◌+◌, false, subst}
use Rattle.amq_model.specs.Leaves.{Leaves, SparesAllBut}
use Rattle.amq_pool.specs.Pools.{PoolOf, Making, Made}
use Rattle.amq_engine.specs.DataFiles.{Worked, IsRenewed}
use Rattle.amq_engine.proofs.Begun.{kept_cleared, kept_making, reads_begun, told_tidy}
use Rattle.amq_loader.specs.Bases.{Clears}
use Rattle.amq_engine.proofs.GoingOn.{goes_by, goes_through}
use Rattle.amq_engine.proofs.DataFiles.{made_works, making_worked, on_err}
use Rattle.amq_engine.proofs.OpenedFiles.{renewed_works, renewed_worked, cleared_worked}
use Rattle.amq_engine.proofs.opening.renew.Goals as goal

pub returns-in_err-settle_directory-clause-kept : goal.returns-in_err-settle_directory-clause-kept
returns-in_err-settle_directory-clause-kept g c base moment b holds =
    kept_cleared c.args.config.now c.requires.config c.args.loaded.now.highest_file c.requires.number base b.files b.records b.ascending b.named b.each
    c.args.loaded.now.leftovers moment (g.D.Disk.past c.args.disk.now) (g.D.Disk.past c.settle_directory.new.disk) c.requires.left b.reads c.settle_directory.ensures.crash holds

pub returns-in_err-file-clause-kept : goal.returns-in_err-file-clause-kept
returns-in_err-file-clause-kept g c base moment b holds =
    let past = g.D.Disk.past in
    let P : PoolOf → Type 0 = λ p. Leaves (Making p.config (p.highest + 1)) (Making p.config (p.highest + 1)) (past c.settle_directory.new.disk) (past c.begin_file.new.disk) in
    kept_making c.args.config.now c.requires.config c.args.loaded.now.highest_file c.requires.number base b.files b.records b.ascending b.named b.each
    c.args.loaded.now.leftovers moment (past c.args.disk.now) (past c.settle_directory.new.disk) (past c.begin_file.new.disk) c.requires.left b.reads c.settle_directory.ensures.crash (subst P c.new-pool.ensures.value c.begin_file.ensures.crash) holds

pub returns-clause-kept : goal.returns-clause-kept
returns-clause-kept g c base moment b holds =
    let past = g.D.Disk.past in
    let P : PoolOf → Type 0 = λ p. Leaves (Making p.config (p.highest + 1)) (Making p.config (p.highest + 1)) (past c.settle_directory.new.disk) (past c.begin_file.new.disk) in
    kept_making c.args.config.now c.requires.config c.args.loaded.now.highest_file c.requires.number base b.files b.records b.ascending b.named b.each
    c.args.loaded.now.leftovers moment (past c.args.disk.now) (past c.settle_directory.new.disk) (past c.begin_file.new.disk) c.requires.left b.reads c.settle_directory.ensures.crash (subst P c.new-pool.ensures.value c.begin_file.ensures.crash) holds

pub returns-clause-stands : goal.returns-clause-stands
returns-clause-stands g c base b =
    let past = g.D.Disk.past in
    let P : PoolOf → Type 0 = λ p. Leaves (Making p.config (p.highest + 1)) (Made p.config (p.highest + 1)) (past c.settle_directory.new.disk) (past c.begin_file.new.disk) in
    reads_begun c.args.config.now c.requires.config c.args.loaded.now.highest_file c.requires.number base b.files b.records b.ascending b.named b.each
    c.args.loaded.now.leftovers (past c.args.disk.now) (past c.settle_directory.new.disk) (past c.begin_file.new.disk) c.requires.left b.reads c.settle_directory.ensures.crash (subst P c.new-pool.ensures.value c.in_ok-file.ensures.ok)

pub returns-clause-tidy : goal.returns-clause-tidy
returns-clause-tidy g c =
    let past = g.D.Disk.past in
    let P : PoolOf → Type 0 = λ p. Leaves (Making p.config (p.highest + 1)) (Made p.config (p.highest + 1)) (past c.settle_directory.new.disk) (past c.begin_file.new.disk) in
    told_tidy c.args.config.now c.args.loaded.now.highest_file c.args.loaded.now.leftovers (past c.args.disk.now) (past c.settle_directory.new.disk) (past c.begin_file.new.disk) c.requires.number c.requires.left c.in_ok-settle_directory.ensures.ok
    (subst P c.new-pool.ensures.value c.in_ok-file.ensures.ok)

pub returns-in_err-settle_directory-clause-goes_on : goal.returns-in_err-settle_directory-clause-goes_on
returns-in_err-settle_directory-clause-goes_on g c =
    let P = Clears c.args.loaded.now.leftovers in
    goes_by P P (g.D.Disk.past c.args.disk.now) (g.D.Disk.past c.settle_directory.new.disk) c.settle_directory.ensures.crash

pub returns-in_err-file-clause-goes_on : goal.returns-in_err-file-clause-goes_on
returns-in_err-file-clause-goes_on g c =
    let past = g.D.Disk.past in
    let C = Clears c.args.loaded.now.leftovers in
    let M = Making c.args.config.now (c.args.loaded.now.highest_file + 1) in
    let P : PoolOf → Type 0 = λ p. Leaves (Making p.config (p.highest + 1)) (Making p.config (p.highest + 1)) (past c.settle_directory.new.disk) (past c.begin_file.new.disk) in
    goes_through (past c.args.disk.now) (past c.settle_directory.new.disk) (past c.begin_file.new.disk) (goes_by C C (past c.args.disk.now) (past c.settle_directory.new.disk) c.settle_directory.ensures.crash)
    (goes_by M M (past c.settle_directory.new.disk) (past c.begin_file.new.disk) (subst P c.new-pool.ensures.value c.begin_file.ensures.crash))

pub returns-clause-goes_on : goal.returns-clause-goes_on
returns-clause-goes_on g c =
    let past = g.D.Disk.past in
    let C = Clears c.args.loaded.now.leftovers in
    let M = Making c.args.config.now (c.args.loaded.now.highest_file + 1) in
    let P : PoolOf → Type 0 = λ p. Leaves (Making p.config (p.highest + 1)) (Making p.config (p.highest + 1)) (past c.settle_directory.new.disk) (past c.begin_file.new.disk) in
    goes_through (past c.args.disk.now) (past c.settle_directory.new.disk) (past c.begin_file.new.disk) (goes_by C C (past c.args.disk.now) (past c.settle_directory.new.disk) c.settle_directory.ensures.crash)
    (goes_by M M (past c.settle_directory.new.disk) (past c.begin_file.new.disk) (subst P c.new-pool.ensures.value c.begin_file.ensures.crash))

pub returns-clause-works : goal.returns-clause-works
returns-clause-works g c =
    let past = g.D.Disk.past in
    let h = c.args.loaded.now.highest_file in
    let config = c.args.config.now in
    let P : PoolOf → Type 0 = λ p. Leaves (Making p.config (p.highest + 1)) (Made p.config (p.highest + 1)) (past c.settle_directory.new.disk) (past c.begin_file.new.disk) in
    renewed_works config.file_size h c.args.loaded.now.leftovers (past c.args.disk.now) (past c.settle_directory.new.disk) (past c.begin_file.new.disk) c.requires.number c.requires.left c.settle_directory.ensures.crash
    (made_works config h c.requires.config c.requires.number (past c.settle_directory.new.disk) (past c.begin_file.new.disk) (subst P c.new-pool.ensures.value c.in_ok-file.ensures.ok))

pub returns-in_err-settle_directory-clause-failed_works : goal.returns-in_err-settle_directory-clause-failed_works
returns-in_err-settle_directory-clause-failed_works g c =
    let past = g.D.Disk.past in
    let h = c.args.loaded.now.highest_file in
    on_err _ (Worked false (SparesAllBut (IsRenewed (past c.args.disk.now) h (h + 1))) c.args.config.now.file_size h (h + 1) (past c.args.disk.now) (past c.settle_directory.new.disk))
    (cleared_worked c.args.config.now.file_size h c.args.loaded.now.leftovers (past c.args.disk.now) (past c.settle_directory.new.disk) c.requires.left c.settle_directory.ensures.crash)

pub returns-in_err-file-clause-failed_works : goal.returns-in_err-file-clause-failed_works
returns-in_err-file-clause-failed_works g c =
    let past = g.D.Disk.past in
    let h = c.args.loaded.now.highest_file in
    let config = c.args.config.now in
    let P : PoolOf → Type 0 = λ p. Leaves (Making p.config (p.highest + 1)) (Making p.config (p.highest + 1)) (past c.settle_directory.new.disk) (past c.begin_file.new.disk) in
    on_err _ (Worked false (SparesAllBut (IsRenewed (past c.args.disk.now) h (h + 1))) config.file_size h (h + 1) (past c.args.disk.now) (past c.begin_file.new.disk))
    (renewed_worked false config.file_size h c.args.loaded.now.leftovers (past c.args.disk.now) (past c.settle_directory.new.disk) (past c.begin_file.new.disk) c.requires.number c.requires.left c.settle_directory.ensures.crash
    (making_worked config h c.requires.config c.requires.number (past c.settle_directory.new.disk) (past c.begin_file.new.disk) (subst P c.new-pool.ensures.value c.begin_file.ensures.crash)))
