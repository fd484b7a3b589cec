use Rattle.std.proofs.Common.{[], refl, ap}
use Rattle.amq_model.specs.Files.{File}
use Rattle.amq_io.specs.Versions.{Versions}
use Rattle.amq_io.proofs.Places.{reads, change_file, change_none, settle_file, settle_none, first_in, absent_in}
use Rattle.amq_io.proofs.entries.sync.Goals as goal

pub returns-in-Some-clause-read : goal.returns-in-Some-clause-read
returns-in-Some-clause-read c =
    let d = c.index_mut-entry.result.now in
    let first = first_in c.args.name.now c.deref.result.now c.args.files.now.items c.in-Some.i c.deref.ensures.value c.in-Some.ensures.found in
    let f : File → File = λ f. record { bytes = f.bytes; pending = [] } in
    change_file reads c.args.name.now c.args.files.now.items c.in-Some.i d _ f first c.index_mut-entry.ensures.value refl (ap (λ (v : Versions). v.read) c.sync.ensures)

pub returns-in-Some-clause-synced : goal.returns-in-Some-clause-synced
returns-in-Some-clause-synced c =
    let d = c.index_mut-entry.result.now in
    let first = first_in c.args.name.now c.deref.result.now c.args.files.now.items c.in-Some.i c.deref.ensures.value c.in-Some.ensures.found in
    settle_file c.args.name.now c.args.files.now.items c.in-Some.i d _ first c.index_mut-entry.ensures.value refl (ap (λ (v : Versions). v.synced) c.sync.ensures)

pub returns-in_default-clause-read : goal.returns-in_default-clause-read
returns-in_default-clause-read c =
    change_none reads c.args.name.now c.args.files.now.items (λ f. record { bytes = f.bytes; pending = [] })
    (absent_in c.args.name.now c.deref.result.now c.args.files.now.items c.deref.ensures.value c.in_default.ensures.none)

pub returns-in_default-clause-synced : goal.returns-in_default-clause-synced
returns-in_default-clause-synced c =
    settle_none c.args.name.now c.args.files.now.items (absent_in c.args.name.now c.deref.result.now c.args.files.now.items c.deref.ensures.value c.in_default.ensures.none)
