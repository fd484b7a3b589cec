use Rattle.std.proofs.Common.{◌≡◌, inl, inr, [], false, refl, sym, subst, ◌∙◌, rules}
use Rattle.std.specs.Prelude.{IfErr}
use Rattle.amq_model.proofs.Recovering.{nothing_new}
use Rattle.amq_cli.specs.declared.status.Status.TheVariants.{NoMemory}
use Rattle.amq_cli.specs.Offline.{IsLoadedState, IsEnding, IsOfOpened, IsOfRefusedOpening, is_past_script, lists_of}
use Rattle.amq_cli.specs.Script.{HasReadCause}
use Rattle.amq_model.proofs.Settling.{unchanged_are_syncs}
use Rattle.amq_cli.proofs.Beginning.{nothing_begins, begins_still, print_begins}
use Rattle.amq_cli.proofs.Outputs.{no_output, reading_ends, asking_ends, short_ends}
use Rattle.amq_cli.proofs.Running.{nothing_owed}
use Rattle.amq_cli.proofs.DataFileLemmas.{not_done}
use Rattle.amq_cli.proofs.program.offline_with.Goals as goal
use Rattle.amq_cli.proofs.program.offline_with.Goals.{in-Some-Replay, in-Some-Settle, in-None}

pub returns-in-Some-Print : goal.returns-in-Some-Print
returns-in-Some-Print g c =
    let old = g.D.Disk.past c.args.disk in
    let new = g.D.Disk.past c.print-status.new.disk in
    record {
      outcome = record {
        told = record {
          crash_safe = search rules;
          begins = nothing_begins old new c.new.result.receipts.items (search rules) (unchanged_are_syncs old new c.print-status.ensures.only_asks, print_begins c.print-status.result old new c.print-status.ensures.calls);
          nothing_new = λ none. nothing_new old new c.print-status.ensures.only_asks;
          blank = search rules;
          opened = search rules;
          stands = search rules;
          spent = search rules;
        };
        durable = search rules;
        owed = search rules;
        run = search rules;
        run_unwritten = search rules;
        output = search rules;
        script = search rules;
        print = search rules;
        files = search rules;
        legal = search rules;
        rolled = search rules;
        words = search rules;
        cause = search rules;
        source_count = search rules;
        sink_count = search rules;
        disk_count = search rules;
        print_counts = search rules;
        later = search rules;
        unread = search rules;
        unopened = search rules;
        unwritten = search rules;
        silent = search rules;
        unprinted = search rules;
      };
    }

pub returns-in-Err : goal.returns-in-Err
returns-in-Err g c =
    let status = c.in-Err.status in
    let faults = g.D.Disk.faults c.args.disk in
    let past = g.D.Disk.past c.args.disk in
    let left = g.S.Source.left in
    let loaded = IsLoadedState past c.args.config.user_version c.new-in-Err.result.base c.new-in-Err.result.steps.items in
    let refused = IsOfRefusedOpening c.args.config (lists_of c.new-in-Err.result) past past faults faults in
    let opened = IsOfOpened c.args.config (lists_of c.new-in-Err.result) in
    let ends : (is_past_script status ≡ false) × IsEnding status loaded refused opened faults faults [] [] [] =
    elim c.match-task_of.branch [
      | in-Some-Replay w ↦ reading_ends status loaded refused opened _ _ _ faults faults (refl, refl) (subst (λ r. IfErr r (λ s. HasReadCause s (left c.args.source.now) (g.S.Source.faults c.args.source.now) (g.S.Source.faults w.read_script-lines.new.source))) (sym w.lines-is ∙ c.in-Err.is) w.read_script-lines.ensures.cause)
      | in-Some-Settle w ↦ short_ends status loaded refused opened faults faults (refl, refl) (subst (λ r. IfErr r (λ s. s ≡ NoMemory)) (sym w.lines-is ∙ c.in-Err.is) w.one_line-lines.ensures.memory)
      | in-None w ↦ asking_ends status loaded refused opened faults faults (search rules)
    ] in
    record {
      outcome = record {
        told = record {
          crash_safe = search rules;
          begins = nothing_begins past past c.new-in-Err.result.receipts.items (search rules) (begins_still past);
          nothing_new = search rules;
          blank = search rules;
          opened = search rules;
          stands = search rules;
          spent = search rules;
        };
        durable = search rules;
        owed = λ opens. record {
          lines = [];
          said = inl (ends.0, refl);
          owed = nothing_owed c.args.config [] c.new-in-Err.result.steps.items c.new-in-Err.result.receipts.items (search rules) (search rules);
        };
        run = search rules;
        run_unwritten = search rules;
        output = λ opens. no_output _ c.args.config.buffer_timeout status loaded refused opened (left c.args.source.now) (left c.match-task_of.source) faults faults (g.K.Sink.faults c.args.sink.now) (g.K.Sink.taken c.args.sink.now) c.new-in-Err.result.steps.items c.new-in-Err.result.receipts.items (search rules) (refl, refl) ends.0 ends.1;
        script = search rules;
        print = search rules;
        files = λ opens. inr (not_done status ends.0, search rules, (begins_still past).0);
        legal = search rules;
        rolled = search rules;
        words = search rules;
        cause = search rules;
        source_count = search rules;
        sink_count = search rules;
        disk_count = search rules;
        print_counts = search rules;
        later = search rules;
        unread = search rules;
        unopened = search rules;
        unwritten = search rules;
        silent = search rules;
        unprinted = search rules;
      };
    }

pub returns-in-Ok : goal.returns-in-Ok
returns-in-Ok g c = record {
  outcome = record {
    told = record {
      crash_safe = search rules;
      begins = search rules;
      nothing_new = search rules;
      blank = search rules;
      opened = search rules;
      stands = search rules;
      spent = search rules;
    };
    durable = search rules;
    owed = search rules;
    run = search rules;
    run_unwritten = search rules;
    output = search rules;
    script = search rules;
    print = search rules;
    files = search rules;
    legal = search rules;
    rolled = search rules;
    words = search rules;
    cause = search rules;
    source_count = search rules;
    sink_count = search rules;
    disk_count = search rules;
    print_counts = search rules;
    later = search rules;
    unread = search rules;
    unopened = search rules;
    unwritten = search rules;
    silent = search rules;
    unprinted = search rules;
  };
}
