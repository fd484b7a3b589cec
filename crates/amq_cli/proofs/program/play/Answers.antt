use Rattle.std.proofs.Common.{◌≡◌, ⊎_elim, inl, inr, [], sym, ap, subst, rules}
use Rattle.amq_cli.specs.Offline.{HasLegal, HasRolledBack, HasRunFiles, IsTextOf, IsLoadedState, IsOfOpened, IsOfRefusedOpening, HasText, lists_of}
use Rattle.amq_cli.proofs.Outputs.{unwritten_text, given_or_refused}
use Rattle.amq_cli.specs.declared.status.Status.{Status}
use Rattle.amq_cli.proofs.DataFileLemmas.{files_ended}
use Rattle.amq_cli.proofs.program.play.Goals as goal
use Rattle.amq_cli.proofs.program.play.Goals.{in-NotBuilt, in_default}

pub returns : goal.returns
returns g c = record {
  played = record {
    told = record {
      crash_safe = search rules;
      begins = search rules;
      nothing_new = search rules;
      blank = search rules;
      opened = search rules;
      stands = search rules;
      spent = search rules;
    };
    durable = search rules;
    owed = search rules;
    run = search rules;
    run_unwritten = search rules;
    output = output;
    files = files;
    legal = legal;
    rolled = rolled;
    cause = search rules;
    sink_count = search rules;
    disk_count = search rules;
    later = search rules;
    unwritten = search rules;
    silent = search rules;
  };
} where
  output : IsTextOf c.args.config.buffer_timeout c.match-outcome.status (IsLoadedState (g.D.Disk.past c.run-outcome.result.1) c.args.config.user_version c.run-outcome.result.2.base c.run-outcome.result.2.steps.items) (IsOfRefusedOpening c.args.config (lists_of c.run-outcome.result.2) (g.D.Disk.past c.args.disk) (g.D.Disk.past c.run-outcome.result.1) (g.D.Disk.faults c.args.disk) (g.D.Disk.faults c.run-outcome.result.1)) (IsOfOpened c.args.config (lists_of c.run-outcome.result.2)) c.args.lines.items (g.D.Disk.faults c.args.disk) (g.D.Disk.faults c.run-outcome.result.1) (g.K.Sink.faults c.args.sink.now) (g.K.Sink.faults c.match-outcome.sink) (g.K.Sink.taken c.args.sink.now) (g.K.Sink.taken c.match-outcome.sink) c.run-outcome.result.2.steps.items c.run-outcome.result.2.receipts.items
  output =
      let config = c.args.config in
      let timeout = config.buffer_timeout in
      let lines = c.args.lines.items in
      let taken = g.K.Sink.taken in
      let faults = g.K.Sink.faults in
      let outcome = c.run-outcome.result.0 in
      let disk = c.run-outcome.result.1 in
      let kept = c.run-outcome.result.2 in
      let before = g.D.Disk.faults c.args.disk in
      let after = g.D.Disk.faults disk in
      let steps = kept.steps.items in
      let receipts = kept.receipts.items in
      let loaded = IsLoadedState (g.D.Disk.past disk) config.user_version kept.base steps in
      let refused = IsOfRefusedOpening config (lists_of kept) (g.D.Disk.past c.args.disk) (g.D.Disk.past disk) before after in
      let opened = IsOfOpened config (lists_of kept) in
      let text = c.run-outcome.new.text.items in
      let was = c.args.sink.now in
      elim c.match-outcome.branch [
        | in-NotBuilt w ↦ (let out = unwritten_text timeout outcome loaded refused opened lines before after (faults was) (taken was) steps receipts text (c.run-outcome.ensures.ran.unbuilt (search rules)) c.run-outcome.ensures.ran.count c.run-outcome.ensures.ran.text in
            subst (λ s. IsTextOf timeout s loaded refused opened lines before after (faults was) (faults c.match-outcome.sink) (taken was) (taken c.match-outcome.sink) steps receipts) (sym w.status-is)
            (subst (λ k. IsTextOf timeout outcome loaded refused opened lines before after (faults was) (faults k) (taken was) (taken k) steps receipts) (sym w.sink-is) out))
        | in_default w ↦ (let out : IsTextOf timeout w.write-status.result loaded refused opened lines before after (faults was) (faults w.write-status.new.sink) (taken was) (taken w.write-status.new.sink) steps receipts = record {
          outcome = outcome;
          count = c.run-outcome.ensures.ran.count;
          text = w.deref.result.now;
          has = subst (λ t. HasText timeout outcome loaded refused opened lines before after steps receipts t) (search rules) c.run-outcome.ensures.ran.text;
          part = w.write-status.ensures.part;
          given = w.write-status.ensures.given;
        } in
            subst (λ s. IsTextOf timeout s loaded refused opened lines before after (faults was) (faults c.match-outcome.sink) (taken was) (taken c.match-outcome.sink) steps receipts) (sym w.status-is)
            (subst (λ k. IsTextOf timeout w.write-status.result loaded refused opened lines before after (faults was) (faults k) (taken was) (taken k) steps receipts) (sym w.sink-is) out))
      ]

  legal : HasLegal c.match-outcome.status c.args.config (lists_of c.run-outcome.result.2) (g.D.Disk.past c.args.disk) (g.D.Disk.past c.run-outcome.result.1) (g.D.Disk.faults c.args.disk) (g.D.Disk.faults c.run-outcome.result.1) (g.K.Sink.taken c.match-outcome.sink ≡ g.K.Sink.taken c.args.sink.now)
  legal =
      let config = c.args.config in
      let taken = g.K.Sink.taken in
      let faults = g.K.Sink.faults in
      let outcome = c.run-outcome.result.0 in
      let disk = c.run-outcome.result.1 in
      let l = lists_of c.run-outcome.result.2 in
      let old = g.D.Disk.past c.args.disk in
      let new = g.D.Disk.past disk in
      let before = g.D.Disk.faults c.args.disk in
      let after = g.D.Disk.faults disk in
      let was = c.args.sink.now in
      elim c.match-outcome.branch [
        | in-NotBuilt w ↦ subst (λ s. HasLegal s config l old new before after (taken c.match-outcome.sink ≡ taken was)) (sym w.status-is) (⊎_elim (λ so. inl so) (λ refused. inr (refused.0, ap taken w.sink-is)) c.run-outcome.ensures.ran.legal)
        | in_default w ↦ (let same : c.run-outcome.new.text.items ≡ w.deref.result.now = search rules in
            let sink = w.write-status.new.sink in
            let status = w.write-status.result in
            subst (λ s. HasLegal s config l old new before after (taken c.match-outcome.sink ≡ taken was)) (sym w.status-is) (subst (λ k. HasLegal status config l old new before after (taken k ≡ taken was)) (sym w.sink-is)
            (given_or_refused config l old new before after status outcome w.deref.result.now (faults was) (faults sink) (taken was) (taken sink) w.write-status.ensures.given w.write-status.ensures.part
            (subst (λ t. HasLegal outcome config l old new before after (t ≡ [])) same c.run-outcome.ensures.ran.legal))))
      ]

  rolled : HasRolledBack c.match-outcome.status c.args.config (lists_of c.run-outcome.result.2) (g.D.Disk.past c.args.disk) (g.D.Disk.past c.run-outcome.result.1) (g.D.Disk.faults c.args.disk) (g.D.Disk.faults c.run-outcome.result.1) (g.K.Sink.taken c.match-outcome.sink ≡ g.K.Sink.taken c.args.sink.now)
  rolled =
      let config = c.args.config in
      let taken = g.K.Sink.taken in
      let faults = g.K.Sink.faults in
      let outcome = c.run-outcome.result.0 in
      let disk = c.run-outcome.result.1 in
      let l = lists_of c.run-outcome.result.2 in
      let old = g.D.Disk.past c.args.disk in
      let new = g.D.Disk.past disk in
      let before = g.D.Disk.faults c.args.disk in
      let after = g.D.Disk.faults disk in
      let was = c.args.sink.now in
      elim c.match-outcome.branch [
        | in-NotBuilt w ↦ subst (λ s. HasRolledBack s config l old new before after (taken c.match-outcome.sink ≡ taken was)) (sym w.status-is) (⊎_elim (λ so. inl so) (λ refused. inr (refused.0, ap taken w.sink-is)) c.run-outcome.ensures.ran.rolled)
        | in_default w ↦ (let same : c.run-outcome.new.text.items ≡ w.deref.result.now = search rules in
            let sink = w.write-status.new.sink in
            let status = w.write-status.result in
            subst (λ s. HasRolledBack s config l old new before after (taken c.match-outcome.sink ≡ taken was)) (sym w.status-is) (subst (λ k. HasRolledBack status config l old new before after (taken k ≡ taken was)) (sym w.sink-is)
            (given_or_refused config l old new before after status outcome w.deref.result.now (faults was) (faults sink) (taken was) (taken sink) w.write-status.ensures.given w.write-status.ensures.part
            (subst (λ t. HasRolledBack outcome config l old new before after (t ≡ [])) same c.run-outcome.ensures.ran.rolled))))
      ]

  files : HasRunFiles c.match-outcome.status c.args.config c.run-outcome.result.2.steps.items (g.D.Disk.past c.args.disk) (g.D.Disk.past c.run-outcome.result.1)
  files =
      let Files : Status → Type 0 = λ s. HasRunFiles s c.args.config c.run-outcome.result.2.steps.items (g.D.Disk.past c.args.disk) (g.D.Disk.past c.run-outcome.result.1) in
      let faults = g.K.Sink.faults in
      elim c.match-outcome.branch [
        | in-NotBuilt w ↦ subst Files (sym w.status-is) c.run-outcome.ensures.ran.files
        | in_default w ↦ subst Files (sym w.status-is) (files_ended w.write-status.result c.run-outcome.result.0 c.args.config c.run-outcome.result.2.steps.items (g.D.Disk.past c.args.disk) (g.D.Disk.past c.run-outcome.result.1) (faults c.args.sink.now) (faults w.write-status.new.sink) w.write-status.ensures.status c.run-outcome.ensures.ran.files)
      ]
