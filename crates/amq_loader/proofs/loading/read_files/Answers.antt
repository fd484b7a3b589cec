use Rattle.std.proofs.Common.{◌≡◌, ◌+◌, ℕ, drop, List, [], Option, Err, map, take, refl, sym, subst, ◌∙◌, arith, rules}
use Rattle.std.proofs.lemmas.List.{take_all}
use Rattle.amq_model.specs.Leaves.{Unchanged, Told}
use Rattle.amq_model.proofs.Moments.{still}
use Rattle.amq_io.specs.declared.disk.FileInfo.{FileInfo}
use Rattle.amq_io.specs.Listed.{IsListed}
use Rattle.amq_loader.specs.declared.part.Part.{Part}
use Rattle.amq_loader.specs.declared.faults.LoadFault.TheVariants.{NoMemory as without_memory}
use Rattle.amq_loader.specs.Parts.{IsListedFile, IsFaultIn, AreFound, IsFirstFault}
use Rattle.amq_model.specs.Files.{FileName}
use Rattle.amq_model.specs.LoadCalls.{Makes}
use Rattle.amq_loader.specs.Asked.{sizes}
use Rattle.amq_loader.proofs.Asking.{AreReads, no_reads, one_more_read, sizes_more, sizes_split, sizes_parts, reads_failed, reads_cut_off}
use Rattle.amq_loader.proofs.Chain.{still_asks, asks_on, asked_on, told_on, told_back, told_weaker, cause_err}
use Rattle.amq_loader.proofs.Found.{found_none, found_more, told_fault, listed_file}
use Rattle.amq_loader.proofs.OneFile.{found_back}
use Rattle.amq_loader.proofs.loading.read_files.Goals as goal

pub loop-info-init : goal.loop-info-init
loop-info-init g c =
    let past = g.D.Disk.past c.args.disk.now in
    record {
      found = subst (AreFound c.args.user_version [] past) (sym c.new-parts.ensures.items) (found_none c.args.user_version past);
      calls = no_reads past;
      asks = still_asks past;
      only_asks = still Unchanged Unchanged past (λ s. refl);
      later = omega arith;
      faults = (omega arith, refl);
    }

pub read_file-requires : goal.read_file-requires
read_file-requires g c =
    let infos = c.args.infos.now in
    record {
      listed = told_on (IsListedFile c.info-item.result) (g.D.Disk.past c.args.disk.now) (g.D.Disk.past c.loop-info.disk) c.loop-info.invariant.only_asks
          (told_weaker (IsListed infos) (IsListedFile c.info-item.result) (g.D.Disk.past c.args.disk.now) (λ s h. listed_file c.loop-info.info-index infos c.info-item.result s (omega arith) c.info-item.is h) c.requires.listed);
    }

pub returns-in_err-found-clause-cause : goal.returns-in_err-found-clause-cause
returns-in_err-found-clause-cause g c =
    let was = c.loop-info.invariant in
    let old = g.D.Disk.past c.args.disk.now in
    let now = g.D.Disk.past c.loop-info.disk in
    let info = c.info-item.result in
    let is : c.from_residual.result ≡ Err c.in_err-found.field-0.0 = search rules in
    cause_err (Option Part) _ (λ found. Told now (IsFaultIn c.args.user_version info.name found)) ⊥ (λ found. Told old (IsFirstFault c.args.user_version found)) ⊥ c.in_err-found.field-0.0 c.from_residual.result
    (g.D.Disk.faults c.args.disk.now) (g.D.Disk.faults c.loop-info.disk) (g.D.Disk.faults c.read_file.new.disk)
    (λ found h. told_fault c.args.user_version old c.loop-info.info-index c.args.infos.now info c.loop-info.parts.items found (omega arith) c.info-item.is c.requires.listed was.found (told_back (IsFaultIn c.args.user_version info.name found) old now was.only_asks h))
    (λ h. h) was.faults is c.in_err-found.ensures.cause

pub returns-in_err-found-clause-asks : goal.returns-in_err-found-clause-asks
returns-in_err-found-clause-asks g c = asks_on (g.D.Disk.past c.args.disk.now) (g.D.Disk.past c.loop-info.disk) (g.D.Disk.past c.read_file.new.disk) c.loop-info.invariant.asks c.read_file.ensures.asks

pub returns-in_err-found-clause-only_asks : goal.returns-in_err-found-clause-only_asks
returns-in_err-found-clause-only_asks g c = asked_on (g.D.Disk.past c.args.disk.now) (g.D.Disk.past c.loop-info.disk) (g.D.Disk.past c.read_file.new.disk) c.loop-info.invariant.only_asks c.read_file.ensures.only_asks

pub returns-in_err-keep-clause-asks : goal.returns-in_err-keep-clause-asks
returns-in_err-keep-clause-asks g c = asks_on (g.D.Disk.past c.args.disk.now) (g.D.Disk.past c.loop-info.disk) (g.D.Disk.past c.read_file.new.disk) c.loop-info.invariant.asks c.read_file.ensures.asks

pub returns-in_err-keep-clause-only_asks : goal.returns-in_err-keep-clause-only_asks
returns-in_err-keep-clause-only_asks g c = asked_on (g.D.Disk.past c.args.disk.now) (g.D.Disk.past c.loop-info.disk) (g.D.Disk.past c.read_file.new.disk) c.loop-info.invariant.only_asks c.read_file.ensures.only_asks

pub loop-info-preserved : goal.loop-info-preserved
loop-info-preserved g c =
    let was = c.loop-info.invariant in
    let old = g.D.Disk.past c.args.disk.now in
    let now = g.D.Disk.past c.loop-info.disk in
    let info = c.info-item.result in
    record {
      found = subst (AreFound c.args.user_version (map (λ (i : FileInfo). i.name) (take (c.loop-info.info-index + 1) c.args.infos.now)) old) (sym c.in_ok-keep.ensures)
          (found_more c.args.user_version old c.loop-info.info-index c.args.infos.now info c.loop-info.parts.items c.in_ok-found.found (omega arith) c.info-item.is c.requires.listed was.found
          (found_back c.args.user_version info.name old now c.in_ok-found.found was.only_asks c.in_ok-found.ensures.found));
      calls = subst (λ (files : List (FileName × ℕ)). Makes (AreReads files) old (g.D.Disk.past c.read_file.new.disk)) (sym (sizes_more c.args.infos.now c.loop-info.info-index info (omega arith) c.info-item.is))
          (one_more_read (Option Part) c.in_ok-found.found (sizes (take c.loop-info.info-index c.args.infos.now)) info.name info.len old now (g.D.Disk.past c.read_file.new.disk) was.calls c.in_ok-found.ensures.calls);
      asks = asks_on old now (g.D.Disk.past c.read_file.new.disk) was.asks c.read_file.ensures.asks;
      only_asks = asked_on old now (g.D.Disk.past c.read_file.new.disk) was.only_asks c.read_file.ensures.only_asks;
      later = omega (arith, was.later, c.read_file.ensures.later);
      faults = (omega (arith, was.faults.0, c.in_ok-found.ensures.cause.0), c.in_ok-found.ensures.cause.1 ∙ was.faults.1);
    }

pub returns-clause-found : goal.returns-clause-found
returns-clause-found g c =
    subst (λ (infos : List FileInfo). AreFound c.args.user_version (map (λ (i : FileInfo). i.name) infos) (g.D.Disk.past c.args.disk.now) c.loop-info.parts.items) (take_all c.loop-info.info-index c.args.infos.now (omega arith)) c.loop-info.invariant.found

pub returns-in_err-found-clause-calls : goal.returns-in_err-found-clause-calls
returns-in_err-found-clause-calls g c =
    let i = c.loop-info.info-index in
    let infos = c.args.infos.now in
    let info = c.info-item.result in
    let is : c.from_residual.result ≡ Err c.in_err-found.field-0.0 = search rules in
    reads_failed (Option Part) _ c.in_err-found.field-0.0 c.from_residual.result (sizes (take i infos)) (sizes (drop (i + 1) infos)) (sizes infos) info.name info.len
    (g.D.Disk.past c.args.disk.now) (g.D.Disk.past c.loop-info.disk) (g.D.Disk.past c.read_file.new.disk) is (sizes_split infos i info (omega arith) c.info-item.is) c.loop-info.invariant.calls c.in_err-found.ensures.calls

pub returns-in_err-keep-clause-calls : goal.returns-in_err-keep-clause-calls
returns-in_err-keep-clause-calls g c =
    let i = c.loop-info.info-index in
    let infos = c.args.infos.now in
    let info = c.info-item.result in
    let old = g.D.Disk.past c.args.disk.now in
    let new = g.D.Disk.past c.read_file.new.disk in
    let is : c.from_residual-in_err-keep.result ≡ Err without_memory = search rules in
    let made = one_more_read (Option Part) c.in_ok-found.found (sizes (take i infos)) info.name info.len old (g.D.Disk.past c.loop-info.disk) new c.loop-info.invariant.calls c.in_ok-found.ensures.calls in
    reads_cut_off _ c.from_residual-in_err-keep.result (sizes (take (i + 1) infos)) (sizes (drop (i + 1) infos)) (sizes infos) old new is (sizes_parts (i + 1) infos)
    (subst (λ (files : List (FileName × ℕ)). Makes (AreReads files) old new) (sym (sizes_more infos i info (omega arith) c.info-item.is)) made)

pub returns-clause-calls : goal.returns-clause-calls
returns-clause-calls g c =
    subst (λ (infos : List FileInfo). Makes (AreReads (sizes infos)) (g.D.Disk.past c.args.disk.now) (g.D.Disk.past c.loop-info.disk)) (take_all c.loop-info.info-index c.args.infos.now (omega arith)) c.loop-info.invariant.calls
