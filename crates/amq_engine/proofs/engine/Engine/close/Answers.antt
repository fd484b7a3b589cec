use Rattle.std.proofs.Common.{◌≡◌, sym, ap, subst, ◌∙◌}
use Rattle.std.specs.Prelude.{IfSome, OnOk}
use Rattle.amq_loader.specs.Loads.{IsTidy}
use Rattle.amq_tx.specs.Tables.{state_of}
use Rattle.amq_model.specs.declared.config.Config.{Config}
use Rattle.amq_model.specs.Answers.{history_of}
use Rattle.amq_model.specs.Leaves.{Told}
use Rattle.amq_engine.specs.DataFiles.{HasSameFiles, HasId, LeavesAllBut, HasFilesOf, HasFilesSoFar}
use Rattle.amq_engine.proofs.Receipts.{if_some}
use Rattle.amq_engine.proofs.JournalFiles.{flushed_config}
use Rattle.amq_engine.specs.Directory.{IsJournal}
use Rattle.amq_engine.specs.Receipts.{GoesOn}
use Rattle.amq_engine.proofs.Closed.{when_ok, sound_journal}
use Rattle.amq_engine.proofs.engine.Engine.close.Goals as goal

pub returns-clause-content : goal.returns-clause-content
returns-clause-content g c =
    let e = c.self.inside in
    let P : Config → Type 0 = λ k. IfSome (g.C.Chronicle.lists e.chronicle) (λ l. Told (g.D.Disk.past e.disk) (IsJournal k.user_version l.base (history_of l.steps))) in
    when_ok c.flush-outcome.result _ _
    (λ done.
    let config : e.config ≡ c.args.self.config = ap (λ v. v.config) c.self.view_is ∙ ap (λ v. v.config) done in
    subst P config
    (sound_journal (g.D.Disk.past e.disk) (g.C.Chronicle.lists e.chronicle) (g.C.Chronicle.receipt_room e.chronicle) e.config (state_of e.table) e.pool e.tail c.self.invariant.sound
    (ap (λ v. v.durable) c.self.view_is ∙ ap (λ v. v.durable) done ∙ sym (ap (λ v. v.appended) done) ∙ sym (ap (λ v. v.appended) c.self.view_is)) c.self.invariant.ranges))
    c.flush-outcome.ensures.ok

pub returns-clause-goes_on : goal.returns-clause-goes_on
returns-clause-goes_on g c = subst (λ d. GoesOn (g.D.Disk.past c.args.self.disk) (g.D.Disk.past d)) (sym (ap (λ v. v.disk) c.self.view_is)) c.flush-outcome.ensures.goes_on

pub returns-clause-tidy : goal.returns-clause-tidy
returns-clause-tidy g c = subst (λ d. OnOk c.flush-outcome.result (Told (g.D.Disk.past c.args.self.disk) IsTidy → Told (g.D.Disk.past d) IsTidy)) (sym (ap (λ v. v.disk) c.self.view_is)) c.flush-outcome.ensures.tidy

pub returns-clause-spares : goal.returns-clause-spares
returns-clause-spares g c = subst (λ d. LeavesAllBut (HasId c.args.self.file) (g.D.Disk.past c.args.self.disk) (g.D.Disk.past d)) (sym (ap (λ v. v.disk) c.self.view_is)) c.flush-outcome.ensures.spares

pub returns-clause-files : goal.returns-clause-files
returns-clause-files g c = subst (λ d. Told (g.D.Disk.past c.args.self.disk) (λ o. Told (g.D.Disk.past d) (HasSameFiles o))) (sym (ap (λ v. v.disk) c.self.view_is)) c.flush-outcome.ensures.files

pub returns-clause-journal_files : goal.returns-clause-journal_files
returns-clause-journal_files g c done first is =
    let past = g.D.Disk.past in
    let lists = g.C.Chronicle.lists in
    let e = c.self.inside in
    let v = c.flush-outcome.new.self in
    let config : v.config ≡ c.args.self.config = flushed_config c.flush-outcome.result c.args.self v c.flush-outcome.ensures.ok c.flush-outcome.ensures.err in
    subst (λ w. IfSome (lists w.chronicle) (λ l. HasFilesOf done c.args.self.config (history_of l.steps) first (past w.disk))) (sym c.self.view_is)
    (subst (λ (k : Config). IfSome (lists v.chronicle) (λ l. HasFilesOf done k (history_of l.steps) first (past v.disk))) config
    (if_some (λ l. HasFilesSoFar done v.config v.file v.end v.highest l first (past v.disk)) (λ l. HasFilesOf done v.config (history_of l.steps) first (past v.disk)) (lists v.chronicle) (λ l f. f.files) (c.flush-outcome.ensures.journal_files done first is)))
