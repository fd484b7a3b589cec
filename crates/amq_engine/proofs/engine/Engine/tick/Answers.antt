use Rattle.std.proofs.Common.{◌≡◌, subst, ℕ}
use Rattle.std.specs.Prelude.{IfSome, ◌↔◌, Some, Err, OnOk}
use Rattle.amq_tx.specs.Tables.{state_of}
use Rattle.amq_model.specs.declared.refusal.Refusal.TheVariants.{Closed}
use Rattle.amq_engine.specs.Receipts.{GoesOn}
use Rattle.amq_engine.specs.Engine.{IsChronicle, end_of_tail}
use Rattle.amq_model.specs.Leaves.{Told}
use Rattle.amq_engine.specs.DataFiles.{HasSameFiles, HasId, LeavesAllBut, HasFilesSoFar}
use Rattle.amq_engine.proofs.FilesTold.{same_told, still_alone}
use Rattle.amq_loader.specs.Loads.{IsTidy}
use Rattle.amq_engine.proofs.Commanding.{valid_chronicle}
use Rattle.amq_engine.proofs.GoingOn.{goes_still}
use Rattle.amq_engine.specs.Opening.{StandsFrom}
use Rattle.amq_engine.proofs.engine.Engine.tick.Goals as goal

pub returns-in-Some-clause-chronicle : goal.returns-in-Some-clause-chronicle
returns-in-Some-clause-chronicle g c =
    let e = c.self.inside in
    subst (λ v. IfSome (g.C.Chronicle.lists v.chronicle) (IsChronicle (g.D.Disk.past v.disk) (g.D.Disk.moment v.disk) v.config v.appended v.durable)) c.self.view_is
    (valid_chronicle (g.D.Disk.past e.disk) (g.D.Disk.moment e.disk) (g.C.Chronicle.lists e.chronicle) (g.C.Chronicle.receipt_room e.chronicle) e.config (state_of e.table) e.pool e.tail c.self.invariant)

pub returns-then-due-clause-closed : goal.returns-then-due-clause-closed
returns-then-due-clause-closed g c call = subst (λ v. (c.flush.result ≡ Err (Closed call)) ↔ (v.closed ≡ Some call)) c.self.view_is (c.flush.ensures.closed call)

pub returns-clause-chronicle : goal.returns-clause-chronicle
returns-clause-chronicle g c =
    let e = c.self.inside in
    valid_chronicle (g.D.Disk.past e.disk) (g.D.Disk.moment e.disk) (g.C.Chronicle.lists e.chronicle) (g.C.Chronicle.receipt_room e.chronicle) e.config (state_of e.table) e.pool e.tail c.self.invariant

pub returns-in-Some-clause-goes_on : goal.returns-in-Some-clause-goes_on
returns-in-Some-clause-goes_on g c = goes_still (g.D.Disk.past c.args.self.now.disk)

pub returns-then-due-clause-goes_on : goal.returns-then-due-clause-goes_on
returns-then-due-clause-goes_on g c = subst (λ v. GoesOn (g.D.Disk.past v.disk) (g.D.Disk.past c.flush.new.self.disk)) c.self.view_is c.flush.ensures.goes_on

pub returns-clause-goes_on : goal.returns-clause-goes_on
returns-clause-goes_on g c = subst (λ v. GoesOn (g.D.Disk.past v.disk) (g.D.Disk.past c.self.inside.disk)) c.self.view_is (goes_still (g.D.Disk.past c.self.inside.disk))

pub returns-in-Some-clause-stands : goal.returns-in-Some-clause-stands
returns-in-Some-clause-stands g c first stands = stands

pub returns-then-due-clause-stands : goal.returns-then-due-clause-stands
returns-then-due-clause-stands g c =
    let lists = g.C.Chronicle.lists in
    let t = c.flush.new.self in
    subst (λ v. (first : ℕ) → IfSome (lists v.chronicle) (StandsFrom v.config first v.file v.end) → IfSome (lists t.chronicle) (StandsFrom t.config first t.file t.end)) c.self.view_is c.flush.ensures.stands

pub returns-clause-stands : goal.returns-clause-stands
returns-clause-stands g c =
    let e = c.self.inside in
    let lists = g.C.Chronicle.lists in
    subst (λ v. (first : ℕ) → IfSome (lists v.chronicle) (StandsFrom v.config first v.file v.end) → IfSome (lists e.chronicle) (StandsFrom e.config first e.tail.file.id (end_of_tail e.tail))) c.self.view_is (λ first stands. stands)

pub returns-then-due-clause-tidy : goal.returns-then-due-clause-tidy
returns-then-due-clause-tidy g c = subst (λ v. OnOk c.flush.result (Told (g.D.Disk.past v.disk) IsTidy → Told (g.D.Disk.past c.flush.new.self.disk) IsTidy)) c.self.view_is c.flush.ensures.tidy

pub returns-clause-tidy : goal.returns-clause-tidy
returns-clause-tidy g c = subst (λ v. Told (g.D.Disk.past v.disk) IsTidy → Told (g.D.Disk.past c.self.inside.disk) IsTidy) c.self.view_is (λ tidy. tidy)

pub returns-in-Some-clause-spares : goal.returns-in-Some-clause-spares
returns-in-Some-clause-spares g c = still_alone (HasId c.args.self.now.file) (g.D.Disk.past c.args.self.now.disk)

pub returns-then-due-clause-spares : goal.returns-then-due-clause-spares
returns-then-due-clause-spares g c = subst (λ v. LeavesAllBut (HasId v.file) (g.D.Disk.past v.disk) (g.D.Disk.past c.flush.new.self.disk)) c.self.view_is c.flush.ensures.spares

pub returns-clause-spares : goal.returns-clause-spares
returns-clause-spares g c = subst (λ v. LeavesAllBut (HasId v.file) (g.D.Disk.past v.disk) (g.D.Disk.past c.self.inside.disk)) c.self.view_is (still_alone (HasId c.self.inside.tail.file.id) (g.D.Disk.past c.self.inside.disk))

pub returns-in-Some-clause-files : goal.returns-in-Some-clause-files
returns-in-Some-clause-files g c = same_told (g.D.Disk.past c.args.self.now.disk)

pub returns-then-due-clause-files : goal.returns-then-due-clause-files
returns-then-due-clause-files g c = subst (λ v. Told (g.D.Disk.past v.disk) (λ o. Told (g.D.Disk.past c.flush.new.self.disk) (HasSameFiles o))) c.self.view_is c.flush.ensures.files

pub returns-clause-files : goal.returns-clause-files
returns-clause-files g c = subst (λ v. Told (g.D.Disk.past v.disk) (λ o. Told (g.D.Disk.past c.self.inside.disk) (HasSameFiles o))) c.self.view_is (same_told (g.D.Disk.past c.self.inside.disk))

pub returns-in-Some-clause-journal_files : goal.returns-in-Some-clause-journal_files
returns-in-Some-clause-journal_files g c done first is = is

pub returns-then-due-clause-journal_files : goal.returns-then-due-clause-journal_files
returns-then-due-clause-journal_files g c done first =
    let past = g.D.Disk.past in
    let lists = g.C.Chronicle.lists in
    let t = c.flush.new.self in
    subst (λ v. IfSome (lists v.chronicle) (λ l. HasFilesSoFar done v.config v.file v.end v.highest l first (past v.disk)) → IfSome (lists t.chronicle) (λ l. HasFilesSoFar done t.config t.file t.end t.highest l first (past t.disk))) c.self.view_is (c.flush.ensures.journal_files done first)

pub returns-clause-journal_files : goal.returns-clause-journal_files
returns-clause-journal_files g c done first =
    let e = c.self.inside in
    let past = g.D.Disk.past in
    let lists = g.C.Chronicle.lists in
    subst (λ v. IfSome (lists v.chronicle) (λ l. HasFilesSoFar done v.config v.file v.end v.highest l first (past v.disk)) → IfSome (lists e.chronicle) (λ l. HasFilesSoFar done e.config e.tail.file.id (end_of_tail e.tail) e.pool.highest l first (past e.disk))) c.self.view_is (λ is. is)
