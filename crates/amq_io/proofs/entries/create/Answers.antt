use Rattle.std.proofs.Common.{List, ℕ, ◌∙◌, ap, subst}
use Rattle.std.specs.FinMap as map
use Rattle.amq_io.specs.Versions.{Versions}
use Rattle.amq_io.specs.Entries.{files_of, synced_of, IsFirst}
use Rattle.amq_io.proofs.Places.{reads, syncs, set_file, first_in}
use Rattle.amq_io.proofs.entries.create.Goals as goal

pub returns-in-Some-clause-ok : goal.returns-in-Some-clause-ok
returns-in-Some-clause-ok c =
    let P : List ℕ → Type 0 = λ n. IsFirst n c.deref.result.now c.in-Some.i in
    let first = first_in c.args.name.now c.deref.result.now c.args.files.now.items c.in-Some.i c.deref.ensures.value (subst P c.as_str.ensures.text c.in-Some.ensures.found) in
    set_file reads c.args.name.now c.args.files.now.items c.in-Some.i c.in_ok-entry.entry first c.in_ok-entry.ensures.name
    ∙ ap (λ (v : Versions). map.insert (files_of c.args.files.now.items) c.args.name.now v.read) c.in_ok-entry.ensures.file

pub returns-in-Some-clause-synced : goal.returns-in-Some-clause-synced
returns-in-Some-clause-synced c =
    let P : List ℕ → Type 0 = λ n. IsFirst n c.deref.result.now c.in-Some.i in
    let first = first_in c.args.name.now c.deref.result.now c.args.files.now.items c.in-Some.i c.deref.ensures.value (subst P c.as_str.ensures.text c.in-Some.ensures.found) in
    set_file syncs c.args.name.now c.args.files.now.items c.in-Some.i c.in_ok-entry.entry first c.in_ok-entry.ensures.name
    ∙ ap (λ (v : Versions). map.insert (synced_of c.args.files.now.items) c.args.name.now (syncs v)) c.in_ok-entry.ensures.file
