use Rattle.std.specs.Prelude.{remove}
use Rattle.amq_io.specs.declared.entries.Entry.{Entry}
use Rattle.std.proofs.Common.{◌≡◌, List, get_or, rules, ◌∙◌, ap, subst, refl}
use Rattle.std.specs.FinMap as map
use Rattle.amq_io.specs.Entries.{files_of, synced_of}
use Rattle.amq_io.proofs.Places.{reads, syncs, rename_is, rename_none, first_in, absent_in}
use Rattle.amq_io.proofs.entries.rename.Goals as goal

pub returns-in_ok-try_reserve-clause-ok : goal.returns-in_ok-try_reserve-clause-ok
returns-in_ok-try_reserve-clause-ok c =
    let es = c.args.files.now.items in
    let first = first_in c.args.from.now c.deref.result.now es c.in-Some.i c.deref.ensures.value c.in-Some.ensures.found in
    let same : c.try_reserve.new.self.items ≡ es = c.in_ok-try_reserve.ensures.items in
    let e = c.remove-entry.result in
    let here : e ≡ get_or es c.in-Some.i e = subst (λ (l : List Entry). e ≡ get_or l c.in-Some.i e) same c.remove-entry.ensures.value in
    let named : c.in_ok-name.name ≡ c.args.to.now = search rules in
    let put = rw c.unwrap.ensures at c.insert.ensures.items in
    rename_is reads c.args.from.now c.args.to.now es c.remove.new.files.items c.insert.new.self.items c.in-Some.i e (record { name = c.in_ok-name.name; file = e.file })
    first here (c.remove.ensures.gone ∙ ap (λ (l : List Entry). map.remove (files_of l) c.args.from.now) (c.remove-entry.ensures.items ∙ ap (λ (l : List Entry). remove l c.in-Some.i) same)) put named refl

pub returns-in_ok-try_reserve-clause-synced : goal.returns-in_ok-try_reserve-clause-synced
returns-in_ok-try_reserve-clause-synced c =
    let es = c.args.files.now.items in
    let first = first_in c.args.from.now c.deref.result.now es c.in-Some.i c.deref.ensures.value c.in-Some.ensures.found in
    let same : c.try_reserve.new.self.items ≡ es = c.in_ok-try_reserve.ensures.items in
    let e = c.remove-entry.result in
    let here : e ≡ get_or es c.in-Some.i e = subst (λ (l : List Entry). e ≡ get_or l c.in-Some.i e) same c.remove-entry.ensures.value in
    let named : c.in_ok-name.name ≡ c.args.to.now = search rules in
    let put = rw c.unwrap.ensures at c.insert.ensures.items in
    rename_is syncs c.args.from.now c.args.to.now es c.remove.new.files.items c.insert.new.self.items c.in-Some.i e (record { name = c.in_ok-name.name; file = e.file })
    first here (c.remove.ensures.synced ∙ ap (λ (l : List Entry). map.remove (synced_of l) c.args.from.now) (c.remove-entry.ensures.items ∙ ap (λ (l : List Entry). remove l c.in-Some.i) same)) put named refl

pub returns-in_default-clause-ok : goal.returns-in_default-clause-ok
returns-in_default-clause-ok c =
    rename_none reads c.args.from.now c.args.to.now c.args.files.now.items (absent_in c.args.from.now c.deref.result.now c.args.files.now.items c.deref.ensures.value c.in_default.ensures.none)

pub returns-in_default-clause-synced : goal.returns-in_default-clause-synced
returns-in_default-clause-synced c =
    rename_none syncs c.args.from.now c.args.to.now c.args.files.now.items (absent_in c.args.from.now c.deref.result.now c.args.files.now.items c.deref.ensures.value c.in_default.ensures.none)
