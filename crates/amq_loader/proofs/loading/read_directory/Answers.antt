use Rattle.std.proofs.Common.{◌≡◌, [], Vec, Global, Err, refl, sym, ap, subst, ◌∙◌, arith, rules}
use Rattle.amq_model.specs.Leaves.{Told}
use Rattle.amq_loader.specs.declared.part.Part.{Part}
use Rattle.amq_loader.specs.Parts.{IsFirstFault, IsFault, AreLoaded, parts_by_id, shared_id}
use Rattle.std.proofs.lemmas.List.{append-nil}
use Rattle.amq_loader.specs.Asked.{sizes}
use Rattle.amq_loader.specs.declared.faults.LoadFault.TheVariants.{NoMemory as without_memory}
use Rattle.amq_loader.proofs.Asking.{reads_cut_off, ids_failed}
use Rattle.amq_loader.proofs.Chain.{cause_err, checked_cause, told_weaker}
use Rattle.amq_loader.proofs.Found.{are_loaded, two_told, first_told}
use Rattle.amq_loader.proofs.loading.read_directory.Goals as goal

pub returns-in_err-parts-clause-cause : goal.returns-in_err-parts-clause-cause
returns-in_err-parts-clause-cause g c =
    let past = g.D.Disk.past c.args.disk.now in
    let w = c.args.user_version in
    let is : c.from_residual.result ≡ Err c.in_err-parts.field-0.0 = search rules in
    cause_err (Vec Part Global) _ (λ found. Told past (IsFirstFault w found)) ⊥ (λ found. Told past (IsFault w found)) ⊥ c.in_err-parts.field-0.0 c.from_residual.result
    (g.D.Disk.faults c.args.disk.now) (g.D.Disk.faults c.args.disk.now) (g.D.Disk.faults c.read_files.new.disk)
    (λ found h. told_weaker (IsFirstFault w found) (IsFault w found) past (first_told w found) h)
    (λ h. h) (omega arith, refl) is c.in_err-parts.ensures.cause

pub returns-in_err-check_ids-clause-cause : goal.returns-in_err-check_ids-clause-cause
returns-in_err-check_ids-clause-cause g c =
    let past = g.D.Disk.past c.args.disk.now in
    let w = c.args.user_version in
    let is : c.from_residual-in_err-check_ids.result ≡ Err c.in_err-check_ids.field-0.0 = search rules in
    let sorted : c.deref.result.now ≡ parts_by_id c.in_ok-parts.parts.items = c.deref.ensures.value ∙ c.in_ok-sort_by_id.ensures in
    checked_cause (Unit {0}) _ (shared_id c.deref.result.now) (λ found. Told past (IsFault w found)) c.in_err-check_ids.field-0.0 c.from_residual-in_err-check_ids.result
    (g.D.Disk.faults c.args.disk.now) (g.D.Disk.faults c.read_files.new.disk)
    (λ found h. two_told w past c.args.infos.now c.in_ok-parts.parts.items found c.requires.listed c.in_ok-parts.ensures.found (ap shared_id (sym sorted) ∙ h))
    (c.in_ok-parts.ensures.cause.0, c.in_ok-parts.ensures.cause.1) is c.in_err-check_ids.ensures

pub returns-clause-loaded : goal.returns-clause-loaded
returns-clause-loaded g c =
    let past = g.D.Disk.past c.args.disk.now in
    let w = c.args.user_version in
    let sorted : c.deref.result.now ≡ parts_by_id c.in_ok-parts.parts.items = c.deref.ensures.value ∙ c.in_ok-sort_by_id.ensures in
    subst (AreLoaded w _ past) (sym c.in_ok-sort_by_id.ensures) (are_loaded w past c.args.infos.now c.in_ok-parts.parts.items c.requires.listed c.in_ok-parts.ensures.found (ap shared_id (sym sorted) ∙ c.in_ok-check_ids.ensures))

pub returns-in_err-sort_by_id-clause-calls : goal.returns-in_err-sort_by_id-clause-calls
returns-in_err-sort_by_id-clause-calls g c =
    let is : c.from_residual-in_err-sort_by_id.result ≡ Err without_memory = search rules in
    reads_cut_off _ c.from_residual-in_err-sort_by_id.result (sizes c.args.infos.now) [] (sizes c.args.infos.now) (g.D.Disk.past c.args.disk.now) (g.D.Disk.past c.read_files.new.disk) is (sym (append-nil (sizes c.args.infos.now))) c.in_ok-parts.ensures.calls

pub returns-in_err-check_ids-clause-calls : goal.returns-in_err-check_ids-clause-calls
returns-in_err-check_ids-clause-calls g c =
    let is : c.from_residual-in_err-check_ids.result ≡ Err c.in_err-check_ids.field-0.0 = search rules in
    ids_failed (Unit {0}) _ c.deref.result.now c.in_err-check_ids.field-0.0 c.from_residual-in_err-check_ids.result (sizes c.args.infos.now) (g.D.Disk.past c.args.disk.now) (g.D.Disk.past c.read_files.new.disk) is c.in_err-check_ids.ensures c.in_ok-parts.ensures.calls
