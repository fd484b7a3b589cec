use Rattle.std.proofs.Common.{◌≡◌, ◌∙◌, Err, Vec, Global, ap, sym, rules}
use Rattle.std.specs.List.{list_any}
use Rattle.amq_model.specs.Calls.{listing}
use Rattle.amq_model.specs.Names.{same, control_name}
use Rattle.amq_io.specs.declared.disk.FileInfo.{FileInfo}
use Rattle.amq_io.specs.Faults.{as_error}
use Rattle.amq_io.proofs.Called.{listing_only_asks}
use Rattle.amq_loader.specs.Causes.{load_fault}
use Rattle.amq_loader.proofs.Asking.{call_done, list_failed}
use Rattle.amq_loader.proofs.Chain.{call_asks}
use Rattle.amq_loader.proofs.Meanings.{control_there}
use Rattle.amq_loader.proofs.loading.list_files.Goals as goal

pub returns-in_err-infos-clause-asks : goal.returns-in_err-infos-clause-asks
returns-in_err-infos-clause-asks g c = call_asks listing (as_error c.list.result) (g.D.Disk.past c.args.disk.now) (g.D.Disk.past c.list.new.disk) tt c.list.ensures.note

pub returns-in_err-infos-clause-only_asks : goal.returns-in_err-infos-clause-only_asks
returns-in_err-infos-clause-only_asks g c = listing_only_asks (as_error c.list.result) (g.D.Disk.past c.args.disk.now) (g.D.Disk.past c.list.new.disk) c.list.ensures.note

pub returns-then-has_control-clause-cause : goal.returns-then-has_control-clause-cause
returns-then-has_control-clause-cause g c = (
  control_there c.in_ok-infos.infos.items (g.D.Disk.past c.args.disk.now) c.in_ok-infos.ensures.listed (sym (c.if-has_control.ensures ∙ ap (list_any (λ (i : FileInfo). same i.name control_name)) c.deref.ensures.value)),
  c.in_ok-infos.ensures.cause.0,
  c.in_ok-infos.ensures.cause.1,
)

pub returns-then-has_control-clause-asks : goal.returns-then-has_control-clause-asks
returns-then-has_control-clause-asks g c = call_asks listing (as_error c.list.result) (g.D.Disk.past c.args.disk.now) (g.D.Disk.past c.list.new.disk) tt c.list.ensures.note

pub returns-then-has_control-clause-only_asks : goal.returns-then-has_control-clause-only_asks
returns-then-has_control-clause-only_asks g c = listing_only_asks (as_error c.list.result) (g.D.Disk.past c.args.disk.now) (g.D.Disk.past c.list.new.disk) c.list.ensures.note

pub returns-clause-asks : goal.returns-clause-asks
returns-clause-asks g c = call_asks listing (as_error c.list.result) (g.D.Disk.past c.args.disk.now) (g.D.Disk.past c.list.new.disk) tt c.list.ensures.note

pub returns-clause-only_asks : goal.returns-clause-only_asks
returns-clause-only_asks g c = listing_only_asks (as_error c.list.result) (g.D.Disk.past c.args.disk.now) (g.D.Disk.past c.list.new.disk) c.list.ensures.note

pub returns-in_err-infos-clause-calls : goal.returns-in_err-infos-clause-calls
returns-in_err-infos-clause-calls g c =
    let is : c.from_residual.result ≡ Err (load_fault c.in_err-infos.field-0.0) = search rules in
    list_failed (Vec FileInfo Global) _ c.in_err-infos.field-0.0 c.from_residual.result (g.D.Disk.past c.args.disk.now) (g.D.Disk.past c.list.new.disk) is c.in_err-infos.ensures.note

pub returns-then-has_control-clause-calls : goal.returns-then-has_control-clause-calls
returns-then-has_control-clause-calls g c = call_done listing (g.D.Disk.past c.args.disk.now) (g.D.Disk.past c.list.new.disk) c.in_ok-infos.ensures.note

pub returns-clause-calls : goal.returns-clause-calls
returns-clause-calls g c = call_done listing (g.D.Disk.past c.args.disk.now) (g.D.Disk.past c.list.new.disk) c.in_ok-infos.ensures.note
