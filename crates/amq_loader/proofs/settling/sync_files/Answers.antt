use Rattle.std.proofs.Common.{◌≡◌, ◌<◌, Err, get_or, length, refl, ap, ◌∙◌, arith, rules}
use Rattle.amq_model.specs.Calls.{syncing, fine}
use Rattle.amq_model.proofs.Settling.{syncs_on, listed_synced}
use Rattle.amq_model.proofs.Asking.{names_noted}
use Rattle.amq_io.specs.Faults.{as_error}
use Rattle.amq_io.proofs.Called.{syncing_syncs}
use Rattle.amq_loader.proofs.Syncing.{AllSettled, sync_of, none_synced, none_settled, one_settled, all_settled, next_is_there}
use Rattle.amq_loader.proofs.Asking.{calls_more, calls_failed, calls_done, no_calls}
use Rattle.amq_loader.proofs.FromLoads.{loaded_is_base}
use Rattle.amq_loader.proofs.settling.sync_files.Goals as goal

pub loop-file-init : goal.loop-file-init
loop-file-init g c = record {
  so_far = none_synced (g.D.Disk.past c.args.disk.now);
  calls = no_calls sync_of (g.D.Disk.past c.args.disk.now);
  names = c.requires.settled;
  settled = none_settled (g.D.Disk.past c.args.disk.now);
  listed = λ is. is;
  later = omega arith;
  faults = (omega arith, refl);
}

pub sync-requires : goal.sync-requires
sync-requires g c =
    let files = c.args.loaded.now.files in
    let low : c.loop-file.file-index < length files = omega (arith, c.loop-file-test.true, ap length c.as_slice-file-items.ensures) in
    let is : c.file-item.result ≡ get_or files c.loop-file.file-index c.file-item.result = cc in
    next_is_there files c.loop-file.file-index c.file-item.result c.as_str.result.now (g.D.Disk.past c.args.disk.now) (g.D.Disk.past c.loop-file.disk) low is c.as_str.ensures.text c.requires.there c.loop-file.invariant.so_far

pub returns-in_err-sync-clause-crash : goal.returns-in_err-sync-clause-crash
returns-in_err-sync-clause-crash g c =
    syncs_on (g.D.Disk.past c.args.disk.now) (g.D.Disk.past c.loop-file.disk) (g.D.Disk.past c.sync.new.disk) c.loop-file.invariant.so_far
    (syncing_syncs c.as_str.result.now (as_error c.sync.result) (g.D.Disk.past c.loop-file.disk) (g.D.Disk.past c.sync.new.disk) c.sync.ensures.note)

pub loop-file-preserved : goal.loop-file-preserved
loop-file-preserved g c =
    let files = c.args.loaded.now.files in
    let was = c.loop-file.invariant in
    let old = g.D.Disk.past c.loop-file.disk in
    let new = g.D.Disk.past c.sync.new.disk in
    let name = c.as_str.result.now in
    let low : c.loop-file.file-index < length files = omega (arith, c.loop-file-test.true, ap length c.as_slice-file-items.ensures) in
    let is : c.file-item.result ≡ get_or files c.loop-file.file-index c.file-item.result = cc in
    record {
      so_far = syncs_on (g.D.Disk.past c.args.disk.now) old new was.so_far (syncing_syncs name (as_error c.sync.result) old new c.sync.ensures.note);
      calls = calls_more sync_of files c.loop-file.file-index c.file-item.result (g.D.Disk.past c.args.disk.now) old new (syncing name) (ap syncing c.as_str.ensures.text) low is was.calls c.in_ok-sync.ensures.note;
      names = names_noted (syncing name) fine old new tt was.names c.in_ok-sync.ensures.note;
      settled = one_settled files c.loop-file.file-index c.file-item.result name old new low is c.as_str.ensures.text was.names was.settled c.in_ok-sync.ensures.note;
      listed = λ listed. listed_synced name old new (was.listed listed) c.in_ok-sync.ensures.note;
      later = omega (arith, was.later, c.sync.ensures.time);
      faults = (omega (arith, was.faults.0, c.in_ok-sync.ensures.cause.0), c.in_ok-sync.ensures.cause.1 ∙ was.faults.1);
    }

pub returns-clause-base : goal.returns-clause-base
returns-clause-base g c =
    let was = c.loop-file.invariant in
    let files = c.args.loaded.now.files in
    let old = g.D.Disk.past c.args.disk.now in
    let new = g.D.Disk.past c.loop-file.disk in
    let settled : AllSettled new files = all_settled files c.loop-file.file-index new (omega (arith, c.loop-file-test.false, ap length c.as_slice-file-items.ensures)) was.settled in
    λ wanted load of listed low. loaded_is_base wanted c.args.loaded.now old new load of low was.so_far (was.listed listed) settled

pub returns-in_err-sync-clause-calls : goal.returns-in_err-sync-clause-calls
returns-in_err-sync-clause-calls g c =
    let files = c.args.loaded.now.files in
    let low : c.loop-file.file-index < length files = omega (arith, c.loop-file-test.true, ap length c.as_slice-file-items.ensures) in
    let here : c.file-item.result ≡ get_or files c.loop-file.file-index c.file-item.result = cc in
    let is : c.from_residual.result ≡ Err c.in_err-sync.field-0.0 = search rules in
    calls_failed (Unit {0}) _ sync_of files c.loop-file.file-index c.file-item.result (g.D.Disk.past c.args.disk.now) (g.D.Disk.past c.loop-file.disk) (g.D.Disk.past c.sync.new.disk) (syncing c.as_str.result.now) c.in_err-sync.field-0.0 c.from_residual.result is (ap syncing c.as_str.ensures.text) low here c.loop-file.invariant.calls c.in_err-sync.ensures.note

pub returns-clause-calls : goal.returns-clause-calls
returns-clause-calls g c = calls_done sync_of c.args.loaded.now.files c.loop-file.file-index (g.D.Disk.past c.args.disk.now) (g.D.Disk.past c.loop-file.disk) (omega (arith, c.loop-file-test.false, ap length c.as_slice-file-items.ensures)) c.loop-file.invariant.calls
