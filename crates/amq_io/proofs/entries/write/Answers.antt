use Rattle.std.proofs.Common.{◌+◌, ◌∷◌, length, refl, ap}
use Rattle.amq_model.specs.Files.{File, overlaid}
use Rattle.amq_io.proofs.Places.{reads, syncs, change_file, change_none, same_file, found_within, first_in, absent_in}
use Rattle.amq_io.proofs.entries.write.Goals as goal

pub write-requires : goal.write-requires
write-requires c =
    let first = first_in c.args.name.now c.deref.result.now c.args.files.now.items c.in-Some.i c.deref.ensures.value c.in-Some.ensures.found in
    found_within c.args.name.now c.args.files.now.items c.in-Some.i (c.args.place + length c.args.bytes.now) c.index_mut-entry.result.now first c.index_mut-entry.ensures.value c.requires

pub returns-in_ok-write-clause-ok : goal.returns-in_ok-write-clause-ok
returns-in_ok-write-clause-ok c =
    let d = c.index_mut-entry.result.now in
    let first = first_in c.args.name.now c.deref.result.now c.args.files.now.items c.in-Some.i c.deref.ensures.value c.in-Some.ensures.found in
    let f : File → File = λ f. record { bytes = overlaid f.bytes c.args.place c.args.bytes.now; pending = (c.args.place, length c.args.bytes.now) ∷ f.pending } in
    change_file reads c.args.name.now c.args.files.now.items c.in-Some.i d _ f first c.index_mut-entry.ensures.value refl (ap reads c.in_ok-write.ensures.ok)

pub returns-in_ok-write-clause-synced : goal.returns-in_ok-write-clause-synced
returns-in_ok-write-clause-synced c =
    let d = c.index_mut-entry.result.now in
    let first = first_in c.args.name.now c.deref.result.now c.args.files.now.items c.in-Some.i c.deref.ensures.value c.in-Some.ensures.found in
    same_file syncs c.args.name.now c.args.files.now.items c.in-Some.i d _ first c.index_mut-entry.ensures.value refl (ap syncs c.in_ok-write.ensures.ok)

pub returns-in_default-clause-ok : goal.returns-in_default-clause-ok
returns-in_default-clause-ok c =
    change_none reads c.args.name.now c.args.files.now.items (λ f. record { bytes = overlaid f.bytes c.args.place c.args.bytes.now; pending = (c.args.place, length c.args.bytes.now) ∷ f.pending })
    (absent_in c.args.name.now c.deref.result.now c.args.files.now.items c.deref.ensures.value c.in_default.ensures.none)
