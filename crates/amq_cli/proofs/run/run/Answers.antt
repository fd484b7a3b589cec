use Rattle.std.proofs.Common.{rules, Bool, true, false, ◌≡◌, ◌⊎◌, ⊎_elim, inl, inr, ℕ, ◌≤◌, length, sym, ap, subst, ◌∙◌, arith, List, Option, Some, [], refl}
use Rattle.std.specs.Prelude.{Err, IsSome, IfOk, is_ok, is_some}
use Rattle.amq_model.specs.declared.config.Config.{Config}
use Rattle.amq_model.specs.Answers.{history_of}
use Rattle.amq_model.specs.declared.refusal.DiskCall.{DiskCall}
use Rattle.amq_io.specs.Cause.{Rose, NoneFailed}
use Rattle.amq_model.specs.Leaves.{Told, Unchanged}
use Rattle.amq_engine.specs.Directory.{IsJournal}
use Rattle.amq_engine.specs.Receipts.{IsCrashSafe, GoesOn}
use Rattle.amq_engine.specs.Engine.{HasCause}
use Rattle.amq_engine.specs.DataFiles.{HasFilesOf, HasFilesSoFar}
use Rattle.amq_cli.proofs.DataFileLemmas.{and_true, files_as, files_asked, never_is_done, opening_not_done}
use Rattle.amq_cli.specs.Statuses.{status_of}
use Rattle.amq_cli.specs.Offline.{is_done, IsReported, HasRunOn, HasText, HasDiskCause, IsLoadedState, lists_of, HasRunFiles, IsEnding, IsOfOpened, IsOfRefusedOpening, HasRunCause}
use Rattle.amq_cli.specs.declared.status.Status.TheVariants.{Ok, DiskFault, NoMemory}
use Rattle.amq_engine.proofs.GoingOn.{goes_by, goes_through}
use Rattle.amq_engine.proofs.Noting.{both_true}
use Rattle.amq_cli.proofs.Answering.{no_step}
use Rattle.amq_cli.proofs.Ending.{owed_more}
use Rattle.amq_cli.proofs.Causes.{closing_cause, count_behind, count_refused, none_further, none_refused}
use Rattle.amq_cli.specs.Counts.{HasDiskCount, HasLoadCount}
use Rattle.amq_cli.proofs.Beginning.{first_through, first_receipted}
use Rattle.amq_cli.proofs.Recovering.{safe_still, last_of_all, synced_nothing_new, begins_bare}
use Rattle.amq_cli.proofs.Loading.{has_run_on, never_done, closed_so}
use Rattle.amq_cli.proofs.Running.{NotRefused, replayed_closed, ended_closed, reported_text, unreported_text, refused_text, refusal_status, named_refusal, between_cause, refusal_cause, begun_played, unopened_text, opening_ends, opening_cause, opens_partly, unopened_owed}
use Rattle.amq_model.specs.declared.history.Step.{Step}
use Rattle.amq_engine.specs.Opening.{StandBehind}
use Rattle.amq_engine.proofs.Rollbacks.{same_steps}
use Rattle.std.proofs.lemmas.List.{take_all}
use Rattle.amq_cli.specs.declared.status.Status.{Status}
use Rattle.amq_engine.specs.Owed.{AreOwedAtOpening}
use Rattle.amq_cli.specs.Outcome.{seen_disk}
use Rattle.amq_cli.proofs.Opened.{RanOn, ran_opened}
use Rattle.amq_model.specs.Legal.{rolled_back}
use Rattle.amq_engine.proofs.Places.{told_front}
use Rattle.amq_cli.proofs.run.run.Goals as goal
use Rattle.amq_cli.proofs.run.run.Goals.{in-Ok-played+in-Ok-closed, in-Ok-played+in-Err-closed, in-Err-played}

pub replay-played-requires-clause-begun : goal.replay-played-requires-clause-begun
replay-played-requires-clause-begun g c =
    let e = c.in-Ok.engine in
    let o = c.in-Ok.ensures.opened in
    begun_played e.config.buffer_timeout e e.chronicle.base c.args.text.now.items refl o.1 o.2 o.3 o.4 c.in-Ok.ensures.chronicle.history c.in-Ok.ensures.rolled c.in-Ok.ensures.chronicle.last c.in-Ok.ensures.ends (subst (λ (k : Config). AreOwedAtOpening k (lists_of e.chronicle)) (sym o.0) c.in-Ok.ensures.owed) c.requires.empty

pub returns : goal.returns
returns g c = record {
  ran =
      let e = c.in-Ok.engine in
      let seen = seen_disk g.D.Disk.past g.D.Disk.moment g.D.Disk.faults in
      let opening = c.in-Ok.ensures in
      ran_opened c.args.config c.args.lines.items c.match-played.status c.close-disk.result.1 c.match-played.text.items e (seen c.args.disk) (seen e.disk) (seen c.match-played.disk) opening.opened.0
      (record {
        last = opening.chronicle.last;
        begins = opening.begins;
        base = opening.base;
        filled = opening.files;
        files = opening.journal_files;
        none = opening.faults;
      })
      on;
} where
  ran : c.match-played.status ≡ Ok → HasRunOn c.in-Ok.engine.config c.args.lines.items c.match-played.text.items (g.D.Disk.past c.match-played.disk) c.close-disk.result.1.base c.close-disk.result.1.steps.items c.close-disk.result.1.receipts.items
  ran =
      let config = c.in-Ok.engine.config in
      let lines = c.args.lines.items in
      let kept = c.close-disk.result.1 in
      let closed = g.D.Disk.past c.close-disk.result.0 in
      let played = c.replay-played.new.engine in
      elim c.match-played.branch [
        | in-Ok-played+in-Ok-closed w ↦ (λ done.
            let before = c.replay-played.new.text.items in
            let replayed = replayed_closed config.buffer_timeout lines (lists_of played.chronicle) (lists_of kept) _ played.durable _ _ (λ both. c.close-disk.ensures.waits (both_true (is_ok c.close-disk.result.2) (is_some played.since) both).1) c.close-disk.ensures.receipt before w.in-Ok-played.ensures.replays.replayed in
            let journal : Told closed (IsJournal config.user_version kept.base (history_of kept.steps.items)) = subst (λ (k : Config). Told closed (IsJournal k.user_version kept.base (history_of kept.steps.items))) c.replay-played.ensures.replays.continues.same.0 (closed_so c.close-disk.result.2 w.in-Ok-closed.field-0 _ w.in-Ok-closed.is c.close-disk.ensures.content) in
            let reported = subst (λ (wanted : ℕ). IsReported wanted before w.add_report.new.text.items closed (g.D.Disk.past w.add_report.new.disk)) (sym (ap (λ (k : Config). k.user_version) c.in-Ok.ensures.opened.0)) (w.add_report.ensures.reported (sym w.status-is ∙ done)) in
            let ran = has_run_on config lines before w.add_report.new.text.items kept.base kept.steps.items kept.receipts.items closed (g.D.Disk.past w.add_report.new.disk) replayed journal reported in
            subst (λ d. HasRunOn config lines c.match-played.text.items (g.D.Disk.past d) kept.base kept.steps.items kept.receipts.items) (sym w.disk-is) (subst (λ t. HasRunOn config lines t.items (g.D.Disk.past w.add_report.new.disk) kept.base kept.steps.items kept.receipts.items) (sym w.text-is) ran))
        | in-Ok-played+in-Err-closed w ↦ (λ done. absurd (never_done _ (sym w.status_of_refusal.ensures ∙ sym w.status-is ∙ done)))
        | in-Err-played w ↦ (λ done. absurd (never_done _ (sym w.status_of_refusal-status.ensures ∙ sym w.status-is ∙ done)))
      ]

  on : RanOn c.args.lines.items c.match-played.status c.close-disk.result.1 c.match-played.text.items c.in-Ok.engine (seen_disk g.D.Disk.past g.D.Disk.moment g.D.Disk.faults c.in-Ok.engine.disk) (seen_disk g.D.Disk.past g.D.Disk.moment g.D.Disk.faults c.match-played.disk)
  on = record {
    crash_safe = (let kept = lists_of c.close-disk.result.1 in
        let wanted = c.in-Ok.engine.config.user_version in
        let closed : IsCrashSafe (g.D.Disk.past c.close-disk.result.0) (g.D.Disk.moment c.close-disk.result.0) wanted kept =
        subst (λ (k : Config). IsCrashSafe (g.D.Disk.past c.close-disk.result.0) (g.D.Disk.moment c.close-disk.result.0) k.user_version kept) c.replay-played.ensures.replays.continues.same.0 c.close-disk.ensures.chronicle.crash_safe in
        elim c.match-played.branch [
          | in-Ok-played+in-Ok-closed w ↦ subst (λ d. IsCrashSafe (g.D.Disk.past d) (g.D.Disk.moment d) wanted kept) (sym w.disk-is)
              (safe_still (g.D.Disk.past c.close-disk.result.0) (g.D.Disk.past w.add_report.new.disk) (g.D.Disk.moment c.close-disk.result.0) (g.D.Disk.moment w.add_report.new.disk) wanted kept w.add_report.ensures.only_asks w.add_report.ensures.moment closed)
          | in-Ok-played+in-Err-closed w ↦ subst (λ d. IsCrashSafe (g.D.Disk.past d) (g.D.Disk.moment d) wanted kept) (sym w.disk-is) closed
          | in-Err-played w ↦ subst (λ d. IsCrashSafe (g.D.Disk.past d) (g.D.Disk.moment d) wanted kept) (sym w.disk-is) closed
        ]);
    durable = (let played = c.replay-played.new.engine in
        let kept = c.close-disk.result.1 in
        let chronicle = c.close-disk.ensures.chronicle in
        elim c.match-played.branch [
          | in-Ok-played+in-Ok-closed w ↦ (λ done. last_of_all c.close-disk.result.2 w.in-Ok-closed.field-0 played.appended played.durable (length (history_of kept.steps.items)) kept.receipts.items w.in-Ok-closed.is
              (subst (λ r. IfOk r (λ count. count ≡ played.appended)) w.in-Ok-closed.is c.close-disk.ensures.count) chronicle.history chronicle.last)
          | in-Ok-played+in-Err-closed w ↦ (λ done. absurd (never_done _ (sym w.status_of_refusal.ensures ∙ sym w.status-is ∙ done)))
          | in-Err-played w ↦ (λ done. absurd (never_done _ (sym w.status_of_refusal-status.ensures ∙ sym w.status-is ∙ done)))
        ]);
    owed = (let played = c.replay-played.new.engine in
        let kept = c.close-disk.result.1 in
        owed_more c.in-Ok.engine.config c.args.lines.items played.durable played.appended (lists_of played.chronicle) (lists_of kept) c.close-disk.ensures.told.last c.close-disk.ensures.told.history
        (no_step _ played.durable played.appended _ (lists_of played.chronicle) (lists_of kept) (λ both. c.close-disk.ensures.waits (both_true (is_ok c.close-disk.result.2) (is_some played.since) both).1) c.close-disk.ensures.receipt) c.replay-played.ensures.replays.owed);
    run = ran;
    text = (let config = c.in-Ok.engine.config in
        let timeout = config.buffer_timeout in
        let lines = c.args.lines.items in
        let kept = c.close-disk.result.1 in
        let steps = kept.steps.items in
        let receipts = kept.receipts.items in
        let played = c.replay-played.new.engine in
        let before = c.replay-played.new.text.items in
        let status = c.match-played.status in
        let faults = g.D.Disk.faults in
        let first = faults c.in-Ok.engine.disk in
        let now = c.match-played.disk in
        let closed = faults c.close-disk.result.0 in
        let loaded = IsLoadedState (g.D.Disk.past now) config.user_version kept.base steps in
        elim c.match-played.branch [
          | in-Ok-played+in-Ok-closed w ↦ (let replayed = replayed_closed timeout lines (lists_of played.chronicle) (lists_of kept) _ played.durable _ _ (λ both. c.close-disk.ensures.waits (both_true (is_ok c.close-disk.result.2) (is_some played.since) both).1) c.close-disk.ensures.receipt before w.in-Ok-played.ensures.replays.replayed in
              let unreported = subst (λ s. (s ≡ Ok) ⊎ (c.match-played.text.items ≡ before)) (sym w.status-is) (subst (λ t. (w.add_report.result ≡ Ok) ⊎ (t.items ≡ before)) (sym w.text-is) w.add_report.ensures.unreported) in
              let cause = subst (λ s. HasDiskCause s closed (faults w.add_report.new.disk)) (sym w.status-is) w.add_report.ensures.cause in
              let none = none_further first (faults played.disk) closed w.in-Ok-played.ensures.replays.continues.cause (subst (λ r. HasCause r (faults played.disk) closed) w.in-Ok-closed.is c.close-disk.ensures.cause) in
              let count = subst (λ s. HasLoadCount s closed (faults now)) (sym w.status-is) (subst (λ d. HasLoadCount w.add_report.result closed (faults d)) (sym w.disk-is) w.add_report.ensures.count) in
              reported_text config status lines first (faults now) closed (faults w.add_report.new.disk) kept.base steps receipts before c.match-played.text.items (g.D.Disk.past now) replayed ran unreported cause none count)
          | in-Ok-played+in-Err-closed w ↦ (let replayed = replayed_closed timeout lines (lists_of played.chronicle) (lists_of kept) _ played.durable _ _ (λ both. c.close-disk.ensures.waits (both_true (is_ok c.close-disk.result.2) (is_some played.since) both).1) c.close-disk.ensures.receipt before w.in-Ok-played.ensures.replays.replayed in
              let cause : HasCause {T = ℕ} (Err w.in-Err-closed.refusal) (faults played.disk) closed = subst (λ r. HasCause r (faults played.disk) closed) w.in-Err-closed.is c.close-disk.ensures.cause in
              let which : (status_of w.in-Err-closed.refusal ≡ DiskFault) ⊎ ((status_of w.in-Err-closed.refusal ≡ NoMemory) × NoneFailed first (faults now)) =
              ⊎_elim (λ is. inl is) (λ is. inr (is, subst (λ d. NoneFailed first (faults d)) (sym w.disk-is) (none_further first (faults played.disk) closed w.in-Ok-played.ensures.replays.continues.cause (none_refused ℕ w.in-Err-closed.refusal (faults played.disk) closed is cause)))) (refusal_status w.in-Err-closed.refusal) in
              let same = w.status-is ∙ w.status_of_refusal.ensures in
              subst (λ s. HasText timeout s loaded NotRefused (Unit {0}) lines first (faults now) steps receipts c.match-played.text.items) (sym same) (unreported_text timeout _ loaded lines first (faults now) steps receipts before c.match-played.text.items replayed (ap (λ t. t.items) w.text-is) which))
          | in-Err-played w ↦ (let ended = ended_closed timeout lines (lists_of played.chronicle) (lists_of kept) _ played.durable _ _ (λ both. c.close-disk.ensures.waits (both_true (is_ok c.close-disk.result.2) (is_some played.since) both).1) c.close-disk.ensures.receipt before _ w.in-Err-played.ensures.replays.ended in
              let idle : IsSome played.closed → faults now ≡ faults played.disk = λ some. ap faults (w.disk-is ∙ c.close-disk.ensures.idle (inr some)) in
              let further = subst (λ d. NoneFailed (faults played.disk) (faults d) ⊎ (Rose (faults played.disk).0 (faults d).0 × ((call : DiskCall) × ((faults d).1 ≡ Some call)))) (sym w.disk-is) (closing_cause c.close-disk.result.2 (faults played.disk) closed c.close-disk.ensures.cause) in
              let named = named_refusal (Unit {0}) w.in-Err-played.refusal first (faults played.disk) (faults now) played.closed w.in-Err-played.ensures.replays.continues.cause w.in-Err-played.ensures.replays.continues.closes idle further in
              subst (λ t. HasText timeout status loaded NotRefused (Unit {0}) lines first (faults now) steps receipts t.items) (sym w.text-is) (refused_text timeout status loaded lines first (faults now) steps receipts before w.in-Err-played.refusal w.in-Err-played.ensures.replays.continues.last (w.status-is ∙ w.status_of_refusal-status.ensures) named ended))
        ]);
    files = λ first so_far. (
        let played = c.replay-played.new.engine in
        let kept = c.close-disk.result.1 in
        let past = g.D.Disk.past in
        let config = c.in-Ok.engine.config in
        let same = c.replay-played.ensures.replays.continues.same.0 in
        let so : (b : Bool) → is_ok c.replay-played.result ≡ b → HasFilesOf b config (history_of kept.steps.items) first (past c.close-disk.result.0) =
        λ b is. subst (λ (k : Config). HasFilesOf b k (history_of kept.steps.items) first (past c.close-disk.result.0)) same
        (c.close-disk.ensures.journal_files b first (subst (λ (d : Bool). HasFilesSoFar d played.config played.file played.end played.highest (lists_of played.chronicle) first (past played.disk)) (and_true (is_ok c.replay-played.result) ∙ is) (c.replay-played.ensures.replays.continues.files true first so_far))) in
        elim c.match-played.branch [
          | in-Ok-played+in-Ok-closed w ↦ (let here = so true (ap is_ok w.in-Ok-played.is) in
              subst (λ s. HasFilesOf (is_done s) config (history_of kept.steps.items) first (past c.match-played.disk)) (sym w.status-is)
              (subst (λ d. HasFilesOf (is_done w.add_report.result) config (history_of kept.steps.items) first (past d)) (sym w.disk-is)
              (files_asked (is_done w.add_report.result) config (history_of kept.steps.items) first (past c.close-disk.result.0) (past w.add_report.new.disk) (files_as (is_done w.add_report.result) config (history_of kept.steps.items) first (past c.close-disk.result.0) here) w.add_report.ensures.only_asks)))
          | in-Ok-played+in-Err-closed w ↦ (let here = so true (ap is_ok w.in-Ok-played.is) in
              subst (λ s. HasFilesOf (is_done s) config (history_of kept.steps.items) first (past c.match-played.disk)) (sym (w.status-is ∙ w.status_of_refusal.ensures))
              (subst (λ d. HasFilesOf (is_done (status_of w.in-Err-closed.refusal)) config (history_of kept.steps.items) first (past d)) (sym w.disk-is)
              (files_as (is_done (status_of w.in-Err-closed.refusal)) config (history_of kept.steps.items) first (past c.close-disk.result.0) here)))
          | in-Err-played w ↦ (let here = so false (ap is_ok w.in-Err-played.is) in
              subst (λ s. HasFilesOf (is_done s) config (history_of kept.steps.items) first (past c.match-played.disk)) (sym (w.status-is ∙ w.status_of_refusal-status.ensures))
              (subst (λ d. HasFilesOf (is_done (status_of w.in-Err-played.refusal)) config (history_of kept.steps.items) first (past d)) (sym w.disk-is)
              (subst (λ (b : Bool). HasFilesOf b config (history_of kept.steps.items) first (past c.close-disk.result.0)) (sym (never_is_done w.in-Err-played.refusal)) here)))
        ]);
    stands = λ first stands. (let config = c.in-Ok.engine.config in
        let played = c.replay-played.new.engine in
        let kept = c.close-disk.result.1 in
        let on = c.replay-played.ensures.replays.continues.stands first stands in
        let same : (let o : Option (List Step) = Some kept.steps.items in o) ≡ Some played.chronicle.steps.items = same_steps _ played.appended _ (Some (lists_of played.chronicle)) (Some (lists_of kept)) c.close-disk.ensures.receipt in
        let steps : kept.steps.items ≡ played.chronicle.steps.items = cc in
        subst (λ (ss : List Step). StandBehind config first 16 (history_of ss)) (sym steps) (subst (λ (k : Config). StandBehind k first 16 (history_of played.chronicle.steps.items)) c.replay-played.ensures.replays.continues.same.0 on.0));
    legal = search rules;
    rolled = (c.close-disk.ensures.chronicle.rolled);
    spent = (c.close-disk.ensures.chronicle.spent);
    receipted = search rules;
    cause = (let faults = g.D.Disk.faults in
        let was = faults c.in-Ok.engine.disk in
        let played = faults c.replay-played.new.engine.disk in
        let closed = faults c.close-disk.result.0 in
        let now = faults c.match-played.disk in
        let on : was.0 ≤ closed.0 = omega (arith, c.replay-played.ensures.replays.continues.later, c.close-disk.ensures.later) in
        elim c.match-played.branch [
          | in-Ok-played+in-Ok-closed w ↦ subst (λ s. HasDiskCause s was now) (sym w.status-is) (subst (λ d. HasDiskCause w.add_report.result was (faults d)) (sym w.disk-is) (between_cause w.add_report.result was closed (faults w.add_report.new.disk) on w.add_report.ensures.cause))
          | in-Ok-played+in-Err-closed w ↦ subst (λ s. HasDiskCause s was now) (sym (w.status-is ∙ w.status_of_refusal.ensures)) (subst (λ d. HasDiskCause (status_of w.in-Err-closed.refusal) was (faults d)) (sym w.disk-is)
              (refusal_cause ℕ w.in-Err-closed.refusal was played closed closed c.replay-played.ensures.replays.continues.later (omega arith) (subst (λ r. HasCause r played closed) w.in-Err-closed.is c.close-disk.ensures.cause)))
          | in-Err-played w ↦ subst (λ s. HasDiskCause s was now) (sym (w.status-is ∙ w.status_of_refusal-status.ensures)) (subst (λ d. HasDiskCause (status_of w.in-Err-played.refusal) was (faults d)) (sym w.disk-is)
              (refusal_cause (Unit {0}) w.in-Err-played.refusal was was played closed (omega arith) c.close-disk.ensures.later w.in-Err-played.ensures.replays.continues.cause))
        ]);
    count = (let faults = g.D.Disk.faults in
        let was = faults c.in-Ok.engine.disk in
        let played = faults c.replay-played.new.engine.disk in
        let closed = faults c.close-disk.result.0 in
        let now = faults c.match-played.disk in
        elim c.match-played.branch [
          | in-Ok-played+in-Ok-closed w ↦ subst (λ s. HasDiskCount s was now) (sym w.status-is) (subst (λ d. HasDiskCount w.add_report.result was (faults d)) (sym w.disk-is)
              (count_behind w.add_report.result was played closed (faults w.add_report.new.disk) w.in-Ok-played.ensures.replays.continues.cause (subst (λ r. HasCause r played closed) w.in-Ok-closed.is c.close-disk.ensures.cause) w.add_report.ensures.count))
          | in-Ok-played+in-Err-closed w ↦ subst (λ s. HasDiskCount s was now) (sym (w.status-is ∙ w.status_of_refusal.ensures)) (count_refused (status_of w.in-Err-closed.refusal) was now (refusal_status w.in-Err-closed.refusal))
          | in-Err-played w ↦ subst (λ s. HasDiskCount s was now) (sym (w.status-is ∙ w.status_of_refusal-status.ensures)) (count_refused (status_of w.in-Err-played.refusal) was now (refusal_status w.in-Err-played.refusal))
        ]);
    later = search rules;
    base = search rules;
    goes_on = (let past = g.D.Disk.past in
        let start = past c.in-Ok.engine.disk in
        let closed = past c.close-disk.result.0 in
        let goes : GoesOn start closed = goes_through start (past c.replay-played.new.engine.disk) closed c.replay-played.ensures.replays.continues.goes_on c.close-disk.ensures.goes_on in
        elim c.match-played.branch [
          | in-Ok-played+in-Ok-closed w ↦ subst (λ d. GoesOn start (past d)) (sym w.disk-is) (goes_through start closed (past w.add_report.new.disk) goes (goes_by Unchanged Unchanged closed (past w.add_report.new.disk) w.add_report.ensures.only_asks))
          | in-Ok-played+in-Err-closed w ↦ subst (λ d. GoesOn start (past d)) (sym w.disk-is) goes
          | in-Err-played w ↦ subst (λ d. GoesOn start (past d)) (sym w.disk-is) goes
        ]);
    first = (let played = lists_of c.replay-played.new.engine.chronicle in
        let kept = lists_of c.close-disk.result.1 in
        first_through (lists_of c.in-Ok.engine.chronicle) played kept c.replay-played.ensures.replays.continues.first (first_receipted _ _ _ played kept c.close-disk.ensures.receipt));
  }

pub returns-in-Err : goal.returns-in-Err
returns-in-Err g c = record {
  ran = record {
    told = record {
      crash_safe = search rules;
      begins = (c.in-Err.ensures.failed_begins);
      nothing_new = λ none. (synced_nothing_new (g.D.Disk.past c.args.disk) (g.D.Disk.past c.in-Err.field-0.disk) (begins_bare (g.D.Disk.past c.args.disk) (g.D.Disk.past c.in-Err.field-0.disk) c.in-Err.field-0.chronicle.receipts.items none c.in-Err.ensures.failed_begins));
      blank = search rules;
      opened = (⊎_elim (λ blank. inl blank.2) (λ based. inr based) c.in-Err.ensures.failed_base);
      stands = (⊎_elim (λ blank. inl blank.2) (λ first. inr (told_front c.args.config (lists_of c.in-Err.field-0.chronicle) (g.D.Disk.past c.args.disk) first)) c.in-Err.ensures.failed_rollbacks);
      spent = search rules;
    };
    durable = search rules;
    owed = (let kept = c.in-Err.field-0.chronicle in
        let none = (opens_partly 1 (rolled_back kept.base) kept.steps.items c.in-Err.ensures.failed_legal.opening).0 in
        unopened_owed c.args.config c.args.lines.items (lists_of kept) none c.in-Err.ensures.failed_owed);
    run = search rules;
    text = (let disk = c.in-Err.field-0.disk in
        let kept = c.in-Err.field-0.chronicle in
        let refused : IsOfRefusedOpening c.args.config (lists_of kept) (g.D.Disk.past c.args.disk) (g.D.Disk.past disk) (g.D.Disk.faults c.args.disk) (g.D.Disk.faults disk) c.in-Err.field-0.fault = record {
          cause = c.in-Err.ensures.cause;
          legal = c.in-Err.ensures.failed_legal;
          appended = ap (λ (ss : List Step). length (history_of ss)) (take_all (length kept.steps.items) kept.steps.items (omega arith)) ∙ c.in-Err.ensures.failed_appended;
          base = c.in-Err.ensures.failed_base;
          rollbacks = c.in-Err.ensures.failed_rollbacks;
          spent = c.in-Err.ensures.failed_spent;
          unnoted = c.in-Err.ensures.failed_unnoted;
          begins = c.in-Err.ensures.failed_begins;
          owed = c.in-Err.ensures.failed_owed;
          files = c.in-Err.ensures.failed_files;
        } in
        let lines = c.args.lines.items in
        let was = g.D.Disk.faults c.args.disk in
        let now = g.D.Disk.faults disk in
        let old = g.D.Disk.past c.args.disk in
        let new = g.D.Disk.past disk in
        let loaded = IsLoadedState new c.args.config.user_version kept.base kept.steps.items in
        let opened = IsOfOpened c.args.config (lists_of kept) in
        let ends = subst (λ (s : Status). IsEnding s loaded (IsOfRefusedOpening c.args.config (lists_of kept) old new was now) opened was now lines [] []) (sym c.status_of_opening.ensures) (opening_ends c.in-Err.field-0.fault c.args.config (lists_of kept) old new loaded opened was now lines refused) in
        let none = (opens_partly 1 (rolled_back kept.base) kept.steps.items c.in-Err.ensures.failed_legal.opening).0 in
        unopened_text c.args.config.buffer_timeout c.status_of_opening.result loaded (IsOfRefusedOpening c.args.config (lists_of kept) old new was now) opened lines was now kept.steps.items kept.receipts.items c.args.text.now.items none c.requires.empty ends);
    files = (let config = c.args.config in
        let kept = c.in-Err.field-0.chronicle in
        let past = g.D.Disk.past in
        let ends = opening_not_done c.in-Err.field-0.fault in
        subst (λ (s : Status). HasRunFiles s config kept.steps.items (past c.args.disk) (past c.in-Err.field-0.disk)) (sym c.status_of_opening.ensures)
        (⊎_elim (λ synced. inr (ends, synced.0, synced.1)) (λ made. inl (subst (λ (b : Bool). HasFilesOf b config (history_of kept.steps.items) (past c.args.disk) (past c.in-Err.field-0.disk)) (sym ends) made.files)) c.in-Err.ensures.failed_files));
    legal = (let disk = c.in-Err.field-0.disk in
        let kept = c.in-Err.field-0.chronicle in
        let refused : IsOfRefusedOpening c.args.config (lists_of kept) (g.D.Disk.past c.args.disk) (g.D.Disk.past disk) (g.D.Disk.faults c.args.disk) (g.D.Disk.faults disk) c.in-Err.field-0.fault = record {
          cause = c.in-Err.ensures.cause;
          legal = c.in-Err.ensures.failed_legal;
          appended = ap (λ (ss : List Step). length (history_of ss)) (take_all (length kept.steps.items) kept.steps.items (omega arith)) ∙ c.in-Err.ensures.failed_appended;
          base = c.in-Err.ensures.failed_base;
          rollbacks = c.in-Err.ensures.failed_rollbacks;
          spent = c.in-Err.ensures.failed_spent;
          unnoted = c.in-Err.ensures.failed_unnoted;
          begins = c.in-Err.ensures.failed_begins;
          owed = c.in-Err.ensures.failed_owed;
          files = c.in-Err.ensures.failed_files;
        } in
        inr ((c.in-Err.field-0.fault, c.status_of_opening.ensures, refused), c.requires.empty));
    rolled = (let disk = c.in-Err.field-0.disk in
        let kept = c.in-Err.field-0.chronicle in
        let refused : IsOfRefusedOpening c.args.config (lists_of kept) (g.D.Disk.past c.args.disk) (g.D.Disk.past disk) (g.D.Disk.faults c.args.disk) (g.D.Disk.faults disk) c.in-Err.field-0.fault = record {
          cause = c.in-Err.ensures.cause;
          legal = c.in-Err.ensures.failed_legal;
          appended = ap (λ (ss : List Step). length (history_of ss)) (take_all (length kept.steps.items) kept.steps.items (omega arith)) ∙ c.in-Err.ensures.failed_appended;
          base = c.in-Err.ensures.failed_base;
          rollbacks = c.in-Err.ensures.failed_rollbacks;
          spent = c.in-Err.ensures.failed_spent;
          unnoted = c.in-Err.ensures.failed_unnoted;
          begins = c.in-Err.ensures.failed_begins;
          owed = c.in-Err.ensures.failed_owed;
          files = c.in-Err.ensures.failed_files;
        } in
        inr ((c.in-Err.field-0.fault, c.status_of_opening.ensures, refused), c.requires.empty));
    cause = (let lists = lists_of c.in-Err.field-0.chronicle in
        let old = g.D.Disk.past c.args.disk in
        let new = g.D.Disk.past c.in-Err.field-0.disk in
        let was = g.D.Disk.faults c.args.disk in
        let now = g.D.Disk.faults c.in-Err.field-0.disk in
        subst (λ (s : Status). HasRunCause c.args.config lists s old new was now) (sym c.status_of_opening.ensures) (opening_cause c.args.config lists c.in-Err.field-0.fault old new was now c.in-Err.ensures.cause));
    count = search rules;
    later = search rules;
    unbuilt = search rules;
    silent = search rules;
  };
}
