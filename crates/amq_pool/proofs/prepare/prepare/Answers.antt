use Rattle.amq_io.specs.Faults.{as_error}
use Rattle.amq_pool.proofs.Preparing.{run4, try1, try2, try3, try4, memory1, memory2, memory3, memory4, there1, within1, there2, there3}
use Rattle.std.proofs.Common.{◌≡◌, Err, sym, ap, ◌∙◌, subst}
use Rattle.std.proofs.lemmas.Result.{err_from_is_err_and}
use Rattle.amq_model.specs.Leaves.{Leaves}
use Rattle.amq_pool.specs.Prepare.{Prepares, Spares}
use Rattle.amq_pool.specs.Faults.{OnNoMemory}
use Rattle.amq_pool.proofs.prepare.prepare.Goals as goal

pub returns-in_err-create-clause-crash : goal.returns-in_err-create-clause-crash
returns-in_err-create-clause-crash g c =
    let t = c.args.temporary.now in
    let n = c.args.name.now in
    let h = c.args.header.now in
    let past = g.D.Disk.past in
    let a = past c.args.disk.now in
    let b = past c.create.new.disk in
    try1 t n c.args.len 74 h c.requires.differ a b (as_error c.create.result) c.create.ensures.note

pub returns-in_err-write_at-clause-crash : goal.returns-in_err-write_at-clause-crash
returns-in_err-write_at-clause-crash g c =
    let t = c.args.temporary.now in
    let n = c.args.name.now in
    let h = c.args.header.now in
    let past = g.D.Disk.past in
    let a = past c.args.disk.now in
    let b = past c.create.new.disk in
    let c1 = past c.write_at.new.disk in
    try2 t n c.args.len 74 h c.requires.differ a b c1 (as_error c.write_at.result) c.in_ok-create.ensures.note c.write_at.ensures.note

pub returns-in_err-sync-clause-crash : goal.returns-in_err-sync-clause-crash
returns-in_err-sync-clause-crash g c =
    let t = c.args.temporary.now in
    let n = c.args.name.now in
    let h = c.args.header.now in
    let past = g.D.Disk.past in
    let a = past c.args.disk.now in
    let b = past c.create.new.disk in
    let c1 = past c.write_at.new.disk in
    let d = past c.sync.new.disk in
    try3 t n c.args.len 74 h c.requires.differ a b c1 d (as_error c.sync.result) c.in_ok-create.ensures.note c.in_ok-write_at.ensures.note c.sync.ensures.note

pub returns-in_err-rename-clause-crash : goal.returns-in_err-rename-clause-crash
returns-in_err-rename-clause-crash g c =
    let t = c.args.temporary.now in
    let n = c.args.name.now in
    let h = c.args.header.now in
    let past = g.D.Disk.past in
    let a = past c.args.disk.now in
    let b = past c.create.new.disk in
    let c1 = past c.write_at.new.disk in
    let d = past c.sync.new.disk in
    let e = past c.rename.new.disk in
    try4 t n c.args.len 74 h c.requires.differ a b c1 d e (as_error c.rename.result) c.in_ok-create.ensures.note c.in_ok-write_at.ensures.note c.in_ok-sync.ensures.note c.rename.ensures.note

pub returns-clause-crash : goal.returns-clause-crash
returns-clause-crash g c =
    let t = c.args.temporary.now in
    let n = c.args.name.now in
    let h = c.args.header.now in
    let past = g.D.Disk.past in
    let a = past c.args.disk.now in
    let b = past c.create.new.disk in
    let c1 = past c.write_at.new.disk in
    let d = past c.sync.new.disk in
    let e = past c.rename.new.disk in
    try4 t n c.args.len 74 h c.requires.differ a b c1 d e (as_error c.rename.result) c.in_ok-create.ensures.note c.in_ok-write_at.ensures.note c.in_ok-sync.ensures.note c.rename.ensures.note

pub returns-clause-ok : goal.returns-clause-ok
returns-clause-ok g c =
    let t = c.args.temporary.now in
    let n = c.args.name.now in
    let h = c.args.header.now in
    let past = g.D.Disk.past in
    let a = past c.args.disk.now in
    let b = past c.create.new.disk in
    let c1 = past c.write_at.new.disk in
    let d = past c.sync.new.disk in
    let e = past c.rename.new.disk in
    run4 t n c.args.len 74 h c.requires.differ a b c1 d e c.in_ok-create.ensures.note c.in_ok-write_at.ensures.note c.in_ok-sync.ensures.note c.in_ok-rename.ensures.note

pub write_at-requires-clause-there : goal.write_at-requires-clause-there
write_at-requires-clause-there g c =
    let t = c.args.temporary.now in
    let n = c.args.name.now in
    let h = c.args.header.now in
    let past = g.D.Disk.past in
    let a = past c.args.disk.now in
    let b = past c.create.new.disk in
    there1 t n c.args.len 74 h c.requires.differ a b c.in_ok-create.ensures.note

pub write_at-requires-clause-within : goal.write_at-requires-clause-within
write_at-requires-clause-within g c =
    let t = c.args.temporary.now in
    let n = c.args.name.now in
    let h = c.args.header.now in
    let past = g.D.Disk.past in
    let a = past c.args.disk.now in
    let b = past c.create.new.disk in
    within1 t n c.args.len 74 h c.requires.differ a b c.requires.fits c.in_ok-create.ensures.note

pub sync-requires : goal.sync-requires
sync-requires g c =
    let t = c.args.temporary.now in
    let n = c.args.name.now in
    let h = c.args.header.now in
    let past = g.D.Disk.past in
    let a = past c.args.disk.now in
    let b = past c.create.new.disk in
    let c1 = past c.write_at.new.disk in
    there2 t n c.args.len 74 h c.requires.differ a b c1 c.in_ok-create.ensures.note c.in_ok-write_at.ensures.note

pub rename-requires-clause-there : goal.rename-requires-clause-there
rename-requires-clause-there g c =
    let t = c.args.temporary.now in
    let n = c.args.name.now in
    let h = c.args.header.now in
    let past = g.D.Disk.past in
    let a = past c.args.disk.now in
    let b = past c.create.new.disk in
    let c1 = past c.write_at.new.disk in
    let d = past c.sync.new.disk in
    there3 t n c.args.len 74 h c.requires.differ a b c1 d c.in_ok-create.ensures.note c.in_ok-write_at.ensures.note c.in_ok-sync.ensures.note

pub returns-in_err-create-clause-memory : goal.returns-in_err-create-clause-memory
returns-in_err-create-clause-memory g c =
    let t = c.args.temporary.now in
    let n = c.args.name.now in
    let h = c.args.header.now in
    let past = g.D.Disk.past in
    let a = past c.args.disk.now in
    let b = past c.create.new.disk in
    let p = err_from_is_err_and c.from_residual.result c.from_residual.ensures.1 in
    let same : c.create.result ≡ c.from_residual.result = c.in_err-create.was ∙ ap Err (sym p.2) ∙ sym p.1 in
    subst (λ r. OnNoMemory r (Leaves (Prepares t n c.args.len 74 h) (Spares t) a b)) same (memory1 t n c.args.len 74 h c.requires.differ a b c.create.result c.create.ensures.note)

pub returns-in_err-write_at-clause-memory : goal.returns-in_err-write_at-clause-memory
returns-in_err-write_at-clause-memory g c =
    let t = c.args.temporary.now in
    let n = c.args.name.now in
    let h = c.args.header.now in
    let past = g.D.Disk.past in
    let a = past c.args.disk.now in
    let b = past c.create.new.disk in
    let c1 = past c.write_at.new.disk in
    let p = err_from_is_err_and c.from_residual-in_err-write_at.result c.from_residual-in_err-write_at.ensures.1 in
    let same : c.write_at.result ≡ c.from_residual-in_err-write_at.result = c.in_err-write_at.was ∙ ap Err (sym p.2) ∙ sym p.1 in
    subst (λ r. OnNoMemory r (Leaves (Prepares t n c.args.len 74 h) (Spares t) a c1)) same (memory2 t n c.args.len 74 h c.requires.differ a b c1 c.write_at.result c.in_ok-create.ensures.note c.write_at.ensures.note)

pub returns-in_err-sync-clause-memory : goal.returns-in_err-sync-clause-memory
returns-in_err-sync-clause-memory g c =
    let t = c.args.temporary.now in
    let n = c.args.name.now in
    let h = c.args.header.now in
    let past = g.D.Disk.past in
    let a = past c.args.disk.now in
    let b = past c.create.new.disk in
    let c1 = past c.write_at.new.disk in
    let d = past c.sync.new.disk in
    let p = err_from_is_err_and c.from_residual-in_err-sync.result c.from_residual-in_err-sync.ensures.1 in
    let same : c.sync.result ≡ c.from_residual-in_err-sync.result = c.in_err-sync.was ∙ ap Err (sym p.2) ∙ sym p.1 in
    subst (λ r. OnNoMemory r (Leaves (Prepares t n c.args.len 74 h) (Spares t) a d)) same (memory3 t n c.args.len 74 h c.requires.differ a b c1 d c.sync.result c.in_ok-create.ensures.note c.in_ok-write_at.ensures.note c.sync.ensures.note)

pub returns-in_err-rename-clause-memory : goal.returns-in_err-rename-clause-memory
returns-in_err-rename-clause-memory g c =
    let t = c.args.temporary.now in
    let n = c.args.name.now in
    let h = c.args.header.now in
    let past = g.D.Disk.past in
    let a = past c.args.disk.now in
    let b = past c.create.new.disk in
    let c1 = past c.write_at.new.disk in
    let d = past c.sync.new.disk in
    let e = past c.rename.new.disk in
    let p = err_from_is_err_and c.from_residual-in_err-rename.result c.from_residual-in_err-rename.ensures.1 in
    let same : c.rename.result ≡ c.from_residual-in_err-rename.result = c.in_err-rename.was ∙ ap Err (sym p.2) ∙ sym p.1 in
    subst (λ r. OnNoMemory r (Leaves (Prepares t n c.args.len 74 h) (Spares t) a e)) same (memory4 t n c.args.len 74 h c.requires.differ a b c1 d e c.rename.result c.in_ok-create.ensures.note c.in_ok-write_at.ensures.note c.in_ok-sync.ensures.note c.rename.ensures.note)
