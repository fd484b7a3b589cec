use Rattle.std.proofs.Common.{◌≡◌, Vec, Global, List, Err, map, refl, sym, ap, subst, ◌∙◌, arith, rules}
use Rattle.std.specs.Prelude.{filter}
use Rattle.amq_model.specs.Leaves.{Told, IsThere}
use Rattle.amq_model.specs.Names.{control_name}
use Rattle.amq_io.specs.declared.disk.FileInfo.{FileInfo}
use Rattle.amq_io.specs.Listed.{IsListed}
use Rattle.amq_loader.specs.declared.part.Part.{Part}
use Rattle.amq_loader.specs.Loads.{is_leftover}
use Rattle.amq_loader.specs.Parts.{IsFault, AreLoaded, highest_in}
use Rattle.amq_model.specs.LoadCalls.{Makes}
use Rattle.amq_loader.specs.Asked.{HasReads, sizes}
use Rattle.amq_loader.specs.declared.faults.LoadFault.TheVariants.{NoMemory as without_memory}
use Rattle.amq_loader.proofs.Asking.{AreReads, load_unlisted, load_failed, load_cut_off, load_done}
use Rattle.amq_loader.proofs.InOrder.{load_in_order}
use Rattle.amq_loader.proofs.Chain.{asks_on, asked_on, told_on, told_back, settled_on, listed_on}
use Rattle.amq_loader.proofs.Meanings.{AreTaken, is_load, told_load, told_faulty, load_fault_err, loaded_back}
use Rattle.amq_loader.proofs.loading.load.Goals as goal

pub read_directory-requires : goal.read_directory-requires
read_directory-requires g c =
    let old = g.D.Disk.past c.args.disk.now in
    record {
      listed = told_on (IsListed c.deref.result.now) old (g.D.Disk.past c.list_files.new.disk) c.list_files.ensures.only_asks
          (subst (λ (l : List FileInfo). Told old (IsListed l)) (sym c.deref.ensures.value) c.in_ok-infos.ensures.listed);
    }

pub returns-in_err-infos-clause-cause : goal.returns-in_err-infos-clause-cause
returns-in_err-infos-clause-cause g c =
    let old = g.D.Disk.past c.args.disk.now in
    let is : c.from_residual.result ≡ Err c.in_err-infos.field-0.0 = search rules in
    load_fault_err (Vec FileInfo Global) _ c.args.user_version (λ _. ⊥) (Told old (IsThere control_name)) c.in_err-infos.field-0.0 c.from_residual.result old
    (g.D.Disk.faults c.args.disk.now) (g.D.Disk.faults c.args.disk.now) (g.D.Disk.faults c.list_files.new.disk)
    (λ found h. absurd h) (λ h. h) (omega arith, refl) is c.in_err-infos.ensures.cause

pub returns-in_err-parts-clause-cause : goal.returns-in_err-parts-clause-cause
returns-in_err-parts-clause-cause g c =
    let old = g.D.Disk.past c.args.disk.now in
    let now = g.D.Disk.past c.list_files.new.disk in
    let w = c.args.user_version in
    let is : c.from_residual-in_err-parts.result ≡ Err c.in_err-parts.field-0.0 = search rules in
    load_fault_err (Vec Part Global) _ w (λ found. Told now (IsFault w found)) ⊥ c.in_err-parts.field-0.0 c.from_residual-in_err-parts.result old
    (g.D.Disk.faults c.args.disk.now) (g.D.Disk.faults c.list_files.new.disk) (g.D.Disk.faults c.read_directory.new.disk)
    (λ found h. told_faulty w c.in_ok-infos.infos.items old found c.in_ok-infos.ensures.listed c.in_ok-infos.ensures.uncontrolled (told_back (IsFault w found) old now c.list_files.ensures.only_asks h))
    (λ h. absurd h) (c.in_ok-infos.ensures.cause.0, c.in_ok-infos.ensures.cause.1) is c.in_err-parts.ensures.cause

pub returns-in_err-parts-clause-asks : goal.returns-in_err-parts-clause-asks
returns-in_err-parts-clause-asks g c = asks_on (g.D.Disk.past c.args.disk.now) (g.D.Disk.past c.list_files.new.disk) (g.D.Disk.past c.read_directory.new.disk) c.list_files.ensures.asks c.read_directory.ensures.asks

pub returns-in_err-parts-clause-only_asks : goal.returns-in_err-parts-clause-only_asks
returns-in_err-parts-clause-only_asks g c = asked_on (g.D.Disk.past c.args.disk.now) (g.D.Disk.past c.list_files.new.disk) (g.D.Disk.past c.read_directory.new.disk) c.list_files.ensures.only_asks c.read_directory.ensures.only_asks

pub returns-in_err-loaded-clause-asks : goal.returns-in_err-loaded-clause-asks
returns-in_err-loaded-clause-asks g c = asks_on (g.D.Disk.past c.args.disk.now) (g.D.Disk.past c.list_files.new.disk) (g.D.Disk.past c.read_directory.new.disk) c.list_files.ensures.asks c.read_directory.ensures.asks

pub returns-in_err-loaded-clause-only_asks : goal.returns-in_err-loaded-clause-only_asks
returns-in_err-loaded-clause-only_asks g c = asked_on (g.D.Disk.past c.args.disk.now) (g.D.Disk.past c.list_files.new.disk) (g.D.Disk.past c.read_directory.new.disk) c.list_files.ensures.only_asks c.read_directory.ensures.only_asks

pub returns-clause-asks : goal.returns-clause-asks
returns-clause-asks g c = asks_on (g.D.Disk.past c.args.disk.now) (g.D.Disk.past c.list_files.new.disk) (g.D.Disk.past c.read_directory.new.disk) c.list_files.ensures.asks c.read_directory.ensures.asks

pub returns-clause-only_asks : goal.returns-clause-only_asks
returns-clause-only_asks g c = asked_on (g.D.Disk.past c.args.disk.now) (g.D.Disk.past c.list_files.new.disk) (g.D.Disk.past c.read_directory.new.disk) c.list_files.ensures.only_asks c.read_directory.ensures.only_asks

pub returns-clause-every : goal.returns-clause-every
returns-clause-every g c =
    let old = g.D.Disk.past c.args.disk.now in
    let infos = c.in_ok-infos.infos.items in
    let parts = c.in_ok-parts.parts.items in
    let found = loaded_back c.args.user_version (map (λ (i : FileInfo). i.name) infos) old (g.D.Disk.past c.list_files.new.disk) parts c.list_files.ensures.only_asks
    (subst (λ (l : List FileInfo). AreLoaded c.args.user_version (map (λ (i : FileInfo). i.name) l) (g.D.Disk.past c.list_files.new.disk) parts) c.deref.ensures.value c.in_ok-parts.ensures.loaded) in
    let taken : AreTaken (map (λ (i : FileInfo). i.name) infos) parts c.in_ok-loaded.field-0 = record {
      files = c.in_ok-loaded.ensures.files;
      base = c.in_ok-loaded.ensures.base;
      state = c.in_ok-loaded.ensures.state;
      live = c.in_ok-loaded.ensures.live;
      opened = c.in_ok-loaded.ensures.opened;
      highest_tx = c.in_ok-loaded.ensures.highest_tx;
      highest_file = c.in_ok-loaded.ensures.highest_file ∙ ap (λ (l : List FileInfo). highest_in parts (map (λ (i : FileInfo). i.name) l)) c.deref-2.ensures.value;
      control = c.in_ok-loaded.ensures.control;
      leftovers = c.in_ok-loaded.ensures.leftovers ∙ ap (λ (l : List FileInfo). filter is_leftover (map (λ (i : FileInfo). i.name) l)) c.deref-2.ensures.value;
    } in
    is_load c.args.user_version (map (λ (i : FileInfo). i.name) infos) old parts c.in_ok-loaded.field-0 found taken

pub returns-clause-told : goal.returns-clause-told
returns-clause-told g c =
    let old = g.D.Disk.past c.args.disk.now in
    let infos = c.in_ok-infos.infos.items in
    let parts = c.in_ok-parts.parts.items in
    let found = loaded_back c.args.user_version (map (λ (i : FileInfo). i.name) infos) old (g.D.Disk.past c.list_files.new.disk) parts c.list_files.ensures.only_asks
    (subst (λ (l : List FileInfo). AreLoaded c.args.user_version (map (λ (i : FileInfo). i.name) l) (g.D.Disk.past c.list_files.new.disk) parts) c.deref.ensures.value c.in_ok-parts.ensures.loaded) in
    let taken : AreTaken (map (λ (i : FileInfo). i.name) infos) parts c.in_ok-loaded.field-0 = record {
      files = c.in_ok-loaded.ensures.files;
      base = c.in_ok-loaded.ensures.base;
      state = c.in_ok-loaded.ensures.state;
      live = c.in_ok-loaded.ensures.live;
      opened = c.in_ok-loaded.ensures.opened;
      highest_tx = c.in_ok-loaded.ensures.highest_tx;
      highest_file = c.in_ok-loaded.ensures.highest_file ∙ ap (λ (l : List FileInfo). highest_in parts (map (λ (i : FileInfo). i.name) l)) c.deref-2.ensures.value;
      control = c.in_ok-loaded.ensures.control;
      leftovers = c.in_ok-loaded.ensures.leftovers ∙ ap (λ (l : List FileInfo). filter is_leftover (map (λ (i : FileInfo). i.name) l)) c.deref-2.ensures.value;
    } in
    told_load c.args.user_version infos old parts c.in_ok-loaded.field-0 c.in_ok-infos.ensures.listed c.in_ok-infos.ensures.uncontrolled found taken

pub returns-clause-settled : goal.returns-clause-settled
returns-clause-settled g c = settled_on (g.D.Disk.past c.list_files.new.disk) (g.D.Disk.past c.read_directory.new.disk) c.read_directory.ensures.asks c.in_ok-infos.ensures.settled

pub returns-clause-listed : goal.returns-clause-listed
returns-clause-listed g c = listed_on (g.D.Disk.past c.list_files.new.disk) (g.D.Disk.past c.read_directory.new.disk) c.in_ok-infos.ensures.same c.read_directory.ensures.only_asks

pub returns-in_err-infos-clause-calls : goal.returns-in_err-infos-clause-calls
returns-in_err-infos-clause-calls g c =
    let is : c.from_residual.result ≡ Err c.in_err-infos.field-0.0 = search rules in
    load_unlisted (Vec FileInfo Global) _ c.in_err-infos.field-0.0 c.from_residual.result (g.D.Disk.past c.args.disk.now) (g.D.Disk.past c.list_files.new.disk) is c.in_err-infos.ensures.calls

pub returns-in_err-parts-clause-calls : goal.returns-in_err-parts-clause-calls
returns-in_err-parts-clause-calls g c =
    let infos = c.in_ok-infos.infos.items in
    let e = c.in_err-parts.field-0.0 in
    let is : c.from_residual-in_err-parts.result ≡ Err e = search rules in
    load_failed (Vec Part Global) _ infos e c.from_residual-in_err-parts.result (g.D.Disk.past c.args.disk.now) (g.D.Disk.past c.list_files.new.disk) (g.D.Disk.past c.read_directory.new.disk) is c.in_ok-infos.ensures.listed c.in_ok-infos.ensures.calls
    (subst (λ (l : List FileInfo). Makes (HasReads {T = Vec Part Global} (Err e) (sizes l)) (g.D.Disk.past c.list_files.new.disk) (g.D.Disk.past c.read_directory.new.disk)) c.deref.ensures.value c.in_err-parts.ensures.calls)

pub returns-in_err-loaded-clause-calls : goal.returns-in_err-loaded-clause-calls
returns-in_err-loaded-clause-calls g c =
    let is : c.from_residual-in_err-loaded.result ≡ Err without_memory = search rules in
    load_cut_off _ c.in_ok-infos.infos.items c.from_residual-in_err-loaded.result (g.D.Disk.past c.args.disk.now) (g.D.Disk.past c.list_files.new.disk) (g.D.Disk.past c.read_directory.new.disk) is c.in_ok-infos.ensures.listed c.in_ok-infos.ensures.calls
    (subst (λ (l : List FileInfo). Makes (AreReads (sizes l)) (g.D.Disk.past c.list_files.new.disk) (g.D.Disk.past c.read_directory.new.disk)) c.deref.ensures.value c.in_ok-parts.ensures.calls)

pub returns-clause-calls : goal.returns-clause-calls
returns-clause-calls g c =
    load_done c.in_ok-infos.infos.items (g.D.Disk.past c.args.disk.now) (g.D.Disk.past c.list_files.new.disk) (g.D.Disk.past c.read_directory.new.disk) c.in_ok-infos.ensures.listed c.in_ok-infos.ensures.calls
    (subst (λ (l : List FileInfo). Makes (AreReads (sizes l)) (g.D.Disk.past c.list_files.new.disk) (g.D.Disk.past c.read_directory.new.disk)) c.deref.ensures.value c.in_ok-parts.ensures.calls)

pub returns-clause-base_in_order : goal.returns-clause-base_in_order
returns-clause-base_in_order g c = load_in_order c.args.user_version c.in_ok-loaded.field-0 (returns-clause-every g c)
