use Rattle.std.proofs.Common.{◌≡◌, ◌<◌, ap, subst, ◌∙◌, ℕ, ◌≡◌}
use Rattle.std.specs.Prelude.{IfSome, IsSome}
use Rattle.amq_tx.specs.Tables.{state_of}
use Rattle.amq_engine.specs.Receipts.{GoesOn}
use Rattle.amq_engine.specs.Engine.{opened, IsChronicle, end_of_tail}
use Rattle.amq_model.specs.Leaves.{Told, SparesAllBut}
use Rattle.amq_engine.specs.DataFiles.{HasSameFiles, HasId, LeavesAllBut}
use Rattle.amq_engine.proofs.FilesTold.{sound_start, sound_used, used_only, leaves_told, works_same, same_told, still_alone}
use Rattle.amq_loader.specs.Loads.{IsTidy}
use Rattle.amq_engine.proofs.Sound.{sound_there, sound_within}
use Rattle.amq_engine.proofs.Flushing.{written_durable, seen_flushed}
use Rattle.amq_engine.proofs.Commanding.{valid_chronicle}
use Rattle.amq_engine.proofs.GoingOn.{goes_still}
use Rattle.amq_engine.proofs.Owing.{more_appended}
use Rattle.amq_engine.specs.Opening.{StandsFrom}
use Rattle.amq_engine.proofs.Places.{stands_same, flushed_end}
use Rattle.amq_engine.proofs.Rollbacks.{same_steps}
use Rattle.amq_engine.specs.DataFiles.{HasFilesSoFar}
use Rattle.amq_engine.proofs.JournalFiles.{so_far_wrote, none_steps}
use Rattle.amq_engine.proofs.engine.Engine.flush.Goals as goal

pub returns-in-Some-clause-chronicle : goal.returns-in-Some-clause-chronicle
returns-in-Some-clause-chronicle g c =
    let e = c.self.inside in
    subst (λ v. IfSome (g.C.Chronicle.lists v.chronicle) (IsChronicle (g.D.Disk.past v.disk) (g.D.Disk.moment v.disk) v.config v.appended v.durable)) c.self.view_is
    (valid_chronicle (g.D.Disk.past e.disk) (g.D.Disk.moment e.disk) (g.C.Chronicle.lists e.chronicle) (g.C.Chronicle.receipt_room e.chronicle) e.config (state_of e.table) e.pool e.tail c.self.invariant)

pub write_out-requires-clause-there : goal.write_out-requires-clause-there
write_out-requires-clause-there g c =
    let e = c.self.inside in
    sound_there (g.D.Disk.past e.disk) (g.C.Chronicle.lists e.chronicle) (g.C.Chronicle.receipt_room e.chronicle) e.config (state_of e.table) e.pool e.tail c.self.invariant.sound

pub write_out-requires-clause-within : goal.write_out-requires-clause-within
write_out-requires-clause-within g c =
    let e = c.self.inside in
    sound_within (g.D.Disk.past e.disk) (g.C.Chronicle.lists e.chronicle) (g.C.Chronicle.receipt_room e.chronicle) e.config (state_of e.table) e.pool e.tail c.self.invariant.sound

pub invariant_of-self : goal.invariant_of-self
invariant_of-self g c =
    let e = c.self.inside in
    c.write_out.ensures.valid opened e.config (state_of e.table) e.pool c.self.invariant

pub invariant_of-self-in-Err : goal.invariant_of-self-in-Err
invariant_of-self-in-Err g c =
    let e = c.self.inside in
    c.write_out.ensures.valid opened e.config (state_of e.table) e.pool c.self.invariant

pub returns-in-Ok-clause-count : goal.returns-in-Ok-clause-count
returns-in-Ok-clause-count g c =
    let e = c.self.inside in
    let all = written_durable e.config (state_of e.table) e.pool e.tail c.self.invariant.sound.parts in
    ap (λ t. t.durable) c.in-Ok.ensures.ok ∙ all ∙ ap (λ v. v.appended) c.self.view_is

pub returns-in-Ok-clause-ok : goal.returns-in-Ok-clause-ok
returns-in-Ok-clause-ok g c =
    let e = c.self.inside in
    let all = written_durable e.config (state_of e.table) e.pool e.tail c.self.invariant.sound.parts in
    seen_flushed c.args.self.now e.disk c.write_out.new.disk e.chronicle c.write_out.new.chronicle e.config e.pool e.tail c.write_out.new.tail e.clock e.closed c.self.view_is c.in-Ok.ensures.ok all

pub returns-in-Ok-clause-chronicle : goal.returns-in-Ok-clause-chronicle
returns-in-Ok-clause-chronicle g c =
    let e = c.self.inside in
    valid_chronicle (g.D.Disk.past c.write_out.new.disk) (g.D.Disk.moment c.write_out.new.disk) (g.C.Chronicle.lists c.write_out.new.chronicle) (g.C.Chronicle.receipt_room c.write_out.new.chronicle) e.config (state_of e.table) e.pool c.write_out.new.tail (invariant_of-self g c)

pub returns-in-Err-clause-chronicle : goal.returns-in-Err-clause-chronicle
returns-in-Err-clause-chronicle g c =
    let e = c.self.inside in
    valid_chronicle (g.D.Disk.past c.write_out.new.disk) (g.D.Disk.moment c.write_out.new.disk) (g.C.Chronicle.lists c.write_out.new.chronicle) (g.C.Chronicle.receipt_room c.write_out.new.chronicle) e.config (state_of e.table) e.pool c.write_out.new.tail (invariant_of-self-in-Err g c)

pub returns-in-Some-clause-goes_on : goal.returns-in-Some-clause-goes_on
returns-in-Some-clause-goes_on g c = goes_still (g.D.Disk.past c.args.self.now.disk)

pub returns-in-Ok-clause-goes_on : goal.returns-in-Ok-clause-goes_on
returns-in-Ok-clause-goes_on g c = subst (λ v. GoesOn (g.D.Disk.past v.disk) (g.D.Disk.past c.write_out.new.disk)) c.self.view_is c.write_out.ensures.goes_on

pub returns-in-Err-clause-goes_on : goal.returns-in-Err-clause-goes_on
returns-in-Err-clause-goes_on g c = subst (λ v. GoesOn (g.D.Disk.past v.disk) (g.D.Disk.past c.write_out.new.disk)) c.self.view_is c.write_out.ensures.goes_on

pub returns-in-Some-clause-waits : goal.returns-in-Some-clause-waits
returns-in-Some-clause-waits g c =
    let e = c.self.inside in
    subst (λ v. IsSome v.since → v.durable < v.appended) c.self.view_is (more_appended e.config (state_of e.table) e.pool e.tail c.self.invariant.sound.parts)

pub returns-in-Some-clause-told : goal.returns-in-Some-clause-told
returns-in-Some-clause-told g c =
    let e = c.self.inside in
    subst (λ v. IfSome (g.C.Chronicle.lists v.chronicle) (IsChronicle (g.D.Disk.past v.disk) (g.D.Disk.moment v.disk) v.config v.appended v.durable)) c.self.view_is
    (valid_chronicle (g.D.Disk.past e.disk) (g.D.Disk.moment e.disk) (g.C.Chronicle.lists e.chronicle) (g.C.Chronicle.receipt_room e.chronicle) e.config (state_of e.table) e.pool e.tail c.self.invariant)

pub returns-in-Ok-clause-waits : goal.returns-in-Ok-clause-waits
returns-in-Ok-clause-waits g c =
    let e = c.self.inside in
    subst (λ v. IsSome v.since → v.durable < v.appended) c.self.view_is (more_appended e.config (state_of e.table) e.pool e.tail c.self.invariant.sound.parts)

pub returns-in-Ok-clause-told : goal.returns-in-Ok-clause-told
returns-in-Ok-clause-told g c =
    let e = c.self.inside in
    subst (λ v. IfSome (g.C.Chronicle.lists v.chronicle) (IsChronicle (g.D.Disk.past v.disk) (g.D.Disk.moment v.disk) v.config v.appended v.durable)) c.self.view_is
    (valid_chronicle (g.D.Disk.past e.disk) (g.D.Disk.moment e.disk) (g.C.Chronicle.lists e.chronicle) (g.C.Chronicle.receipt_room e.chronicle) e.config (state_of e.table) e.pool e.tail c.self.invariant)

pub returns-in-Err-clause-waits : goal.returns-in-Err-clause-waits
returns-in-Err-clause-waits g c =
    let e = c.self.inside in
    subst (λ v. IsSome v.since → v.durable < v.appended) c.self.view_is (more_appended e.config (state_of e.table) e.pool e.tail c.self.invariant.sound.parts)

pub returns-in-Err-clause-told : goal.returns-in-Err-clause-told
returns-in-Err-clause-told g c =
    let e = c.self.inside in
    subst (λ v. IfSome (g.C.Chronicle.lists v.chronicle) (IsChronicle (g.D.Disk.past v.disk) (g.D.Disk.moment v.disk) v.config v.appended v.durable)) c.self.view_is
    (valid_chronicle (g.D.Disk.past e.disk) (g.D.Disk.moment e.disk) (g.C.Chronicle.lists e.chronicle) (g.C.Chronicle.receipt_room e.chronicle) e.config (state_of e.table) e.pool e.tail c.self.invariant)

pub returns-in-Some-clause-stands : goal.returns-in-Some-clause-stands
returns-in-Some-clause-stands g c first stands = stands

pub returns-in-Ok-clause-stands : goal.returns-in-Ok-clause-stands
returns-in-Ok-clause-stands g c =
    let e = c.self.inside in
    let lists = g.C.Chronicle.lists in
    let t = c.write_out.new.tail in
    let at = flushed_end e.tail t c.in-Ok.ensures.ok in
    subst (λ v. (first : ℕ) → IfSome (lists v.chronicle) (StandsFrom v.config first v.file v.end) → IfSome (lists c.write_out.new.chronicle) (StandsFrom e.config first t.file.id (end_of_tail t))) c.self.view_is
    (λ first stands. stands_same e.config first e.tail.file.id (end_of_tail e.tail) t.file.id (end_of_tail t) (lists e.chronicle) (lists c.write_out.new.chronicle) (same_steps _ e.tail.appended _ (lists e.chronicle) (lists c.write_out.new.chronicle) c.write_out.ensures.receipt) at.0 at.1 stands)

pub returns-in-Err-clause-stands : goal.returns-in-Err-clause-stands
returns-in-Err-clause-stands g c =
    let e = c.self.inside in
    let lists = g.C.Chronicle.lists in
    let t = c.write_out.new.tail in
    let is : t ≡ e.tail = c.in-Err.ensures.same in
    subst (λ v. (first : ℕ) → IfSome (lists v.chronicle) (StandsFrom v.config first v.file v.end) → IfSome (lists c.write_out.new.chronicle) (StandsFrom e.config first t.file.id (end_of_tail t))) c.self.view_is
    (λ first stands. stands_same e.config first e.tail.file.id (end_of_tail e.tail) t.file.id (end_of_tail t) (lists e.chronicle) (lists c.write_out.new.chronicle) (same_steps _ e.tail.appended _ (lists e.chronicle) (lists c.write_out.new.chronicle) c.write_out.ensures.receipt) (ap (λ x. x.file.id) is) (ap end_of_tail is) stands)

pub returns-in-Some-clause-tidy : goal.returns-in-Some-clause-tidy
returns-in-Some-clause-tidy g c = tt

pub returns-in-Ok-clause-tidy : goal.returns-in-Ok-clause-tidy
returns-in-Ok-clause-tidy g c = subst (λ v. Told (g.D.Disk.past v.disk) IsTidy → Told (g.D.Disk.past c.write_out.new.disk) IsTidy) c.self.view_is c.in-Ok.ensures.tidy

pub write_out-requires-clause-start : goal.write_out-requires-clause-start
write_out-requires-clause-start g c =
    let e = c.self.inside in
    sound_start e.config (state_of e.table) e.pool e.tail c.self.invariant.sound.parts

pub returns-in-Some-clause-spares : goal.returns-in-Some-clause-spares
returns-in-Some-clause-spares g c = still_alone (HasId c.args.self.now.file) (g.D.Disk.past c.args.self.now.disk)

pub returns-in-Ok-clause-spares : goal.returns-in-Ok-clause-spares
returns-in-Ok-clause-spares g c =
    let e = c.self.inside in
    subst (λ v. LeavesAllBut (HasId v.file) (g.D.Disk.past v.disk) (g.D.Disk.past c.write_out.new.disk)) c.self.view_is
    (leaves_told (λ n. n ≡ e.tail.file.name) (HasId e.tail.file.id) (g.D.Disk.past e.disk) (g.D.Disk.past c.write_out.new.disk)
    (used_only e.tail.file.name e.tail.file.id (g.D.Disk.past e.disk) (sound_used (g.D.Disk.past e.disk) (g.C.Chronicle.lists e.chronicle) (g.C.Chronicle.receipt_room e.chronicle) e.config (state_of e.table) e.pool e.tail c.self.invariant.ranges c.self.invariant.sound)) (c.write_out.ensures.works 0 0).keeps)

pub returns-in-Err-clause-spares : goal.returns-in-Err-clause-spares
returns-in-Err-clause-spares g c =
    let e = c.self.inside in
    subst (λ v. LeavesAllBut (HasId v.file) (g.D.Disk.past v.disk) (g.D.Disk.past c.write_out.new.disk)) c.self.view_is
    (leaves_told (λ n. n ≡ e.tail.file.name) (HasId e.tail.file.id) (g.D.Disk.past e.disk) (g.D.Disk.past c.write_out.new.disk)
    (used_only e.tail.file.name e.tail.file.id (g.D.Disk.past e.disk) (sound_used (g.D.Disk.past e.disk) (g.C.Chronicle.lists e.chronicle) (g.C.Chronicle.receipt_room e.chronicle) e.config (state_of e.table) e.pool e.tail c.self.invariant.ranges c.self.invariant.sound)) (c.write_out.ensures.works 0 0).keeps)

pub returns-in-Some-clause-files : goal.returns-in-Some-clause-files
returns-in-Some-clause-files g c = same_told (g.D.Disk.past c.args.self.now.disk)

pub returns-in-Ok-clause-files : goal.returns-in-Ok-clause-files
returns-in-Ok-clause-files g c =
    let e = c.self.inside in
    subst (λ v. Told (g.D.Disk.past v.disk) (λ o. Told (g.D.Disk.past c.write_out.new.disk) (HasSameFiles o))) c.self.view_is
    (works_same (SparesAllBut (λ n. n ≡ e.tail.file.name)) 0 0 (g.D.Disk.past e.disk) (g.D.Disk.past c.write_out.new.disk) (c.write_out.ensures.works 0 0))

pub returns-in-Err-clause-files : goal.returns-in-Err-clause-files
returns-in-Err-clause-files g c =
    let e = c.self.inside in
    subst (λ v. Told (g.D.Disk.past v.disk) (λ o. Told (g.D.Disk.past c.write_out.new.disk) (HasSameFiles o))) c.self.view_is
    (works_same (SparesAllBut (λ n. n ≡ e.tail.file.name)) 0 0 (g.D.Disk.past e.disk) (g.D.Disk.past c.write_out.new.disk) (c.write_out.ensures.works 0 0))

pub returns-in-Some-clause-journal_files : goal.returns-in-Some-clause-journal_files
returns-in-Some-clause-journal_files g c done first is = is

pub returns-in-Ok-clause-journal_files : goal.returns-in-Ok-clause-journal_files
returns-in-Ok-clause-journal_files g c done first =
    let e = c.self.inside in
    let past = g.D.Disk.past in
    let lists = g.C.Chronicle.lists in
    let t = c.write_out.new.tail in
    let at = flushed_end e.tail t c.in-Ok.ensures.ok in
    let steps = same_steps _ e.tail.appended _ (lists e.chronicle) (lists c.write_out.new.chronicle) c.write_out.ensures.receipt in
    subst (λ v. IfSome (lists v.chronicle) (λ l. HasFilesSoFar done v.config v.file v.end v.highest l first (past v.disk)) → IfSome (lists c.write_out.new.chronicle) (λ l. HasFilesSoFar done e.config t.file.id (end_of_tail t) e.pool.highest l first (past c.write_out.new.disk))) c.self.view_is
    (so_far_wrote done first (past e.disk) (lists e.chronicle) (g.C.Chronicle.receipt_room e.chronicle) e.config (state_of e.table) e.pool e.tail c.self.invariant.ranges c.self.invariant.sound (lists c.write_out.new.chronicle) (none_steps (lists e.chronicle) (lists c.write_out.new.chronicle) steps) (past c.write_out.new.disk) t.file.id (end_of_tail t)
    (c.write_out.ensures.works e.pool.config.file_size e.pool.highest) at.0 (λ from stands. stands_same e.config from e.tail.file.id (end_of_tail e.tail) t.file.id (end_of_tail t) (lists e.chronicle) (lists c.write_out.new.chronicle) steps at.0 at.1 stands))

pub returns-in-Err-clause-journal_files : goal.returns-in-Err-clause-journal_files
returns-in-Err-clause-journal_files g c done first =
    let e = c.self.inside in
    let past = g.D.Disk.past in
    let lists = g.C.Chronicle.lists in
    let t = c.write_out.new.tail in
    let is : t ≡ e.tail = c.in-Err.ensures.same in
    let steps = same_steps _ e.tail.appended _ (lists e.chronicle) (lists c.write_out.new.chronicle) c.write_out.ensures.receipt in
    subst (λ v. IfSome (lists v.chronicle) (λ l. HasFilesSoFar done v.config v.file v.end v.highest l first (past v.disk)) → IfSome (lists c.write_out.new.chronicle) (λ l. HasFilesSoFar done e.config t.file.id (end_of_tail t) e.pool.highest l first (past c.write_out.new.disk))) c.self.view_is
    (so_far_wrote done first (past e.disk) (lists e.chronicle) (g.C.Chronicle.receipt_room e.chronicle) e.config (state_of e.table) e.pool e.tail c.self.invariant.ranges c.self.invariant.sound (lists c.write_out.new.chronicle) (none_steps (lists e.chronicle) (lists c.write_out.new.chronicle) steps) (past c.write_out.new.disk) t.file.id (end_of_tail t)
    (c.write_out.ensures.works e.pool.config.file_size e.pool.highest) (ap (λ x. x.file.id) is) (λ from stands. stands_same e.config from e.tail.file.id (end_of_tail e.tail) t.file.id (end_of_tail t) (lists e.chronicle) (lists c.write_out.new.chronicle) steps (ap (λ x. x.file.id) is) (ap end_of_tail is) stands))
