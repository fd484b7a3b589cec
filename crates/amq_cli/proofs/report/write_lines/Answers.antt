use Rattle.std.proofs.Common.{[], ◌∷◌, ◌++◌, List, ℕ, length, codes, ap, ◌∙◌}
use Rattle.std.specs.Fmt.{decimal}
use Rattle.std.specs.List.{flat_map}
use Rattle.amq_model.specs.declared.state.LoadState.{LoadState}
use Rattle.amq_model.specs.Texts.{line, entry_line, in_doubt_lines}
use Rattle.amq_print.proofs.Joins.{on_err}
use Rattle.amq_cli.proofs.Reporting.{half_part, part_of_half, whole_sent, whole_part_of, all_written, part_written, counted, part_of, sent_of}
use Rattle.amq_cli.proofs.report.write_lines.Goals as goal

-- the four parts of a report
abbrev live : ℕ → List ℕ
live count = line (codes "live" ∷ decimal count ∷ [])

abbrev entries : LoadState → List ℕ
entries state = flat_map entry_line state.live

abbrev in_doubt : ℕ → List ℕ
in_doubt count = line (codes "in" ∷ codes "doubt" ∷ decimal count ∷ [])

abbrev in_doubts : LoadState → List ℕ
in_doubts state = flat_map in_doubt_lines state.in_doubt

pub returns-in_err-write_entries-clause-part : goal.returns-in_err-write_entries-clause-part
returns-in_err-write_entries-clause-part g c =
    let s = c.args.state.now in
    let first = counted live c.push_live_count.result c.len.result (length s.live) c.new-waiting.result.items c.push_live_count.new.out.items c.in_ok-grown.ensures.same c.push_live_count.ensures c.len.ensures ∙ ap (λ (t : List ℕ). t ++ live (length s.live)) c.new-waiting.ensures.items in
    on_err c.from_residual-in_err-write_entries.result
    (part_of_half (live (length s.live)) (entries s) (in_doubt (length s.in_doubt)) (in_doubts s) c.push_live_count.new.out.items (g.K.Sink.taken c.args.sink.now) (g.K.Sink.taken c.write_entries.new.sink) first (part_of entry_line c.push_live_count.new.out.items c.as_slice.ensures c.in_err-write_entries.ensures.part))

pub returns-in_err-grown-2-clause-part : goal.returns-in_err-grown-2-clause-part
returns-in_err-grown-2-clause-part g c =
    let s = c.args.state.now in
    let first = counted live c.push_live_count.result c.len.result (length s.live) c.new-waiting.result.items c.push_live_count.new.out.items c.in_ok-grown.ensures.same c.push_live_count.ensures c.len.ensures ∙ ap (λ (t : List ℕ). t ++ live (length s.live)) c.new-waiting.ensures.items in
    on_err c.from_residual-in_err-grown-2.result
    (half_part (live (length s.live)) (entries s) (in_doubt (length s.in_doubt)) (in_doubts s) c.push_live_count.new.out.items c.write_entries.new.waiting.items (g.K.Sink.taken c.args.sink.now) (g.K.Sink.taken c.write_entries.new.sink) first (sent_of entry_line c.push_live_count.new.out.items c.as_slice.ensures c.in_ok-write_entries.ensures.ok))

pub returns-in_err-write_in_doubts-clause-part : goal.returns-in_err-write_in_doubts-clause-part
returns-in_err-write_in_doubts-clause-part g c =
    let s = c.args.state.now in
    let first = counted live c.push_live_count.result c.len.result (length s.live) c.new-waiting.result.items c.push_live_count.new.out.items c.in_ok-grown.ensures.same c.push_live_count.ensures c.len.ensures ∙ ap (λ (t : List ℕ). t ++ live (length s.live)) c.new-waiting.ensures.items in
    let second = counted in_doubt c.push_in_doubt_count.result c.len-2.result (length s.in_doubt) c.write_entries.new.waiting.items c.push_in_doubt_count.new.out.items c.in_ok-grown-2.ensures.same c.push_in_doubt_count.ensures c.len-2.ensures in
    on_err c.from_residual-in_err-write_in_doubts.result
    (whole_part_of (live (length s.live)) (entries s) (in_doubt (length s.in_doubt)) (in_doubts s) c.push_live_count.new.out.items c.write_entries.new.waiting.items c.push_in_doubt_count.new.out.items (g.K.Sink.taken c.args.sink.now) (g.K.Sink.taken c.write_entries.new.sink) (g.K.Sink.taken c.write_in_doubts.new.sink) first second (sent_of entry_line c.push_live_count.new.out.items c.as_slice.ensures c.in_ok-write_entries.ensures.ok) (part_of in_doubt_lines c.push_in_doubt_count.new.out.items c.as_slice-2.ensures c.in_err-write_in_doubts.ensures.part))

pub returns-clause-ok : goal.returns-clause-ok
returns-clause-ok g c =
    let s = c.args.state.now in
    let first = counted live c.push_live_count.result c.len.result (length s.live) c.new-waiting.result.items c.push_live_count.new.out.items c.in_ok-grown.ensures.same c.push_live_count.ensures c.len.ensures ∙ ap (λ (t : List ℕ). t ++ live (length s.live)) c.new-waiting.ensures.items in
    let second = counted in_doubt c.push_in_doubt_count.result c.len-2.result (length s.in_doubt) c.write_entries.new.waiting.items c.push_in_doubt_count.new.out.items c.in_ok-grown-2.ensures.same c.push_in_doubt_count.ensures c.len-2.ensures in
    let sent = whole_sent (live (length s.live)) (entries s) (in_doubt (length s.in_doubt)) (in_doubts s) c.push_live_count.new.out.items c.write_entries.new.waiting.items c.push_in_doubt_count.new.out.items c.write_in_doubts.new.waiting.items (g.K.Sink.taken c.args.sink.now) (g.K.Sink.taken c.write_entries.new.sink) (g.K.Sink.taken c.write_in_doubts.new.sink) first second (sent_of entry_line c.push_live_count.new.out.items c.as_slice.ensures c.in_ok-write_entries.ensures.ok) (sent_of in_doubt_lines c.push_in_doubt_count.new.out.items c.as_slice-2.ensures c.in_ok-write_in_doubts.ensures.ok) in
    all_written c.write_whole.result c.as_slice-3.result.now (g.K.Sink.taken c.write_whole.new.sink) c.as_slice-3.ensures.value sent c.write_whole.ensures.whole

pub returns-clause-part : goal.returns-clause-part
returns-clause-part g c =
    let s = c.args.state.now in
    let first = counted live c.push_live_count.result c.len.result (length s.live) c.new-waiting.result.items c.push_live_count.new.out.items c.in_ok-grown.ensures.same c.push_live_count.ensures c.len.ensures ∙ ap (λ (t : List ℕ). t ++ live (length s.live)) c.new-waiting.ensures.items in
    let second = counted in_doubt c.push_in_doubt_count.result c.len-2.result (length s.in_doubt) c.write_entries.new.waiting.items c.push_in_doubt_count.new.out.items c.in_ok-grown-2.ensures.same c.push_in_doubt_count.ensures c.len-2.ensures in
    let sent = whole_sent (live (length s.live)) (entries s) (in_doubt (length s.in_doubt)) (in_doubts s) c.push_live_count.new.out.items c.write_entries.new.waiting.items c.push_in_doubt_count.new.out.items c.write_in_doubts.new.waiting.items (g.K.Sink.taken c.args.sink.now) (g.K.Sink.taken c.write_entries.new.sink) (g.K.Sink.taken c.write_in_doubts.new.sink) first second (sent_of entry_line c.push_live_count.new.out.items c.as_slice.ensures c.in_ok-write_entries.ensures.ok) (sent_of in_doubt_lines c.push_in_doubt_count.new.out.items c.as_slice-2.ensures c.in_ok-write_in_doubts.ensures.ok) in
    part_written c.write_whole.result c.as_slice-3.result.now (g.K.Sink.taken c.write_whole.new.sink) c.as_slice-3.ensures.value sent c.write_whole.ensures.part
