use Rattle.std.proofs.Common.{◌≡◌, ◌<◌, Err, get_or, length, refl, ap, ◌∙◌, arith, rules}
use Rattle.amq_io.specs.Faults.{as_error}
use Rattle.amq_model.specs.Calls.{removing}
use Rattle.amq_loader.proofs.Asking.{calls_more, calls_failed, calls_done, no_calls}
use Rattle.amq_loader.proofs.Clearing.{none_cleared, one_cleared, cut_off, next_is_there, all_cleared, cleared_clears}
use Rattle.amq_loader.proofs.settling.settle_directory.Goals as goal

pub loop-name-init : goal.loop-name-init
loop-name-init g c = record {
  so_far = none_cleared c.args.loaded.now.leftovers (g.D.Disk.past c.args.disk.now);
  calls = no_calls removing (g.D.Disk.past c.args.disk.now);
  later = omega arith;
  faults = (omega arith, refl);
}

pub remove-requires : goal.remove-requires
remove-requires g c =
    let names = c.args.loaded.now.leftovers in
    let low : c.loop-name.name-index < length names = omega (arith, c.loop-name-test.true, ap length c.as_slice-name-items.ensures) in
    let is : c.as_str.result.now ≡ get_or names c.loop-name.name-index c.as_str.result.now = cc in
    next_is_there names c.loop-name.name-index c.as_str.result.now low is (g.D.Disk.past c.args.disk.now) (g.D.Disk.past c.loop-name.disk) c.requires.there c.requires.apart c.loop-name.invariant.so_far

pub returns-in_err-remove-clause-crash : goal.returns-in_err-remove-clause-crash
returns-in_err-remove-clause-crash g c =
    let names = c.args.loaded.now.leftovers in
    let low : c.loop-name.name-index < length names = omega (arith, c.loop-name-test.true, ap length c.as_slice-name-items.ensures) in
    let is : c.as_str.result.now ≡ get_or names c.loop-name.name-index c.as_str.result.now = cc in
    cut_off names c.loop-name.name-index c.as_str.result.now low is (as_error c.remove.result) (g.D.Disk.past c.args.disk.now) (g.D.Disk.past c.loop-name.disk) (g.D.Disk.past c.remove.new.disk) c.loop-name.invariant.so_far c.remove.ensures.note

pub loop-name-preserved : goal.loop-name-preserved
loop-name-preserved g c =
    let names = c.args.loaded.now.leftovers in
    let was = c.loop-name.invariant in
    let low : c.loop-name.name-index < length names = omega (arith, c.loop-name-test.true, ap length c.as_slice-name-items.ensures) in
    let is : c.as_str.result.now ≡ get_or names c.loop-name.name-index c.as_str.result.now = cc in
    record {
      so_far = one_cleared names c.loop-name.name-index c.as_str.result.now low is c.in_ok-remove.field-0 (g.D.Disk.past c.args.disk.now) (g.D.Disk.past c.loop-name.disk) (g.D.Disk.past c.remove.new.disk) was.so_far c.in_ok-remove.ensures.note;
      calls = calls_more removing names c.loop-name.name-index c.as_str.result.now (g.D.Disk.past c.args.disk.now) (g.D.Disk.past c.loop-name.disk) (g.D.Disk.past c.remove.new.disk) (removing c.as_str.result.now) refl low is was.calls c.in_ok-remove.ensures.note;
      later = omega (arith, was.later, c.remove.ensures.time);
      faults = (omega (arith, was.faults.0, c.in_ok-remove.ensures.cause.0), c.in_ok-remove.ensures.cause.1 ∙ was.faults.1);
    }

pub returns-clause-crash : goal.returns-clause-crash
returns-clause-crash g c =
    let names = c.args.loaded.now.leftovers in
    cleared_clears names (g.D.Disk.past c.args.disk.now) (g.D.Disk.past c.loop-name.disk)
    (all_cleared names c.loop-name.name-index (g.D.Disk.past c.args.disk.now) (g.D.Disk.past c.loop-name.disk) (omega (arith, c.loop-name-test.false, ap length c.as_slice-name-items.ensures)) c.loop-name.invariant.so_far)

pub returns-in_err-remove-clause-calls : goal.returns-in_err-remove-clause-calls
returns-in_err-remove-clause-calls g c =
    let names = c.args.loaded.now.leftovers in
    let low : c.loop-name.name-index < length names = omega (arith, c.loop-name-test.true, ap length c.as_slice-name-items.ensures) in
    let here : c.as_str.result.now ≡ get_or names c.loop-name.name-index c.as_str.result.now = cc in
    let is : c.from_residual.result ≡ Err c.in_err-remove.field-0.0 = search rules in
    calls_failed (Unit {0}) _ removing names c.loop-name.name-index c.as_str.result.now (g.D.Disk.past c.args.disk.now) (g.D.Disk.past c.loop-name.disk) (g.D.Disk.past c.remove.new.disk) (removing c.as_str.result.now) c.in_err-remove.field-0.0 c.from_residual.result is refl low here c.loop-name.invariant.calls c.in_err-remove.ensures.note

pub returns-clause-calls : goal.returns-clause-calls
returns-clause-calls g c = calls_done removing c.args.loaded.now.leftovers c.loop-name.name-index (g.D.Disk.past c.args.disk.now) (g.D.Disk.past c.loop-name.disk) (omega (arith, c.loop-name-test.false, ap length c.as_slice-name-items.ensures)) c.loop-name.invariant.calls
