use Rattle.std.proofs.Common.{◌≡◌, List, map, refl, sym, ◌∙◌, ap, subst}
use Rattle.amq_io.specs.declared.asked.PastCall.{PastCall}
use Rattle.amq_io.specs.Entries.{files_by, durable_entry}
use Rattle.amq_io.proofs.Places.{reads, syncs}
use Rattle.amq_io.proofs.Recorded.{Given, Kept}
use Rattle.amq_io.proofs.Starting.{entries_start}
use Rattle.amq_io.proofs.memory_disk.MemoryDisk.started.Goals as goal

pub invariant_of-result : goal.invariant_of-result
invariant_of-result c =
    let start = c.args.start.items in
    let made : c.in-Ok.files.items ≡ map (λ f. durable_entry f.0 f.1.items) start = c.in-Ok.ensures ∙ ap (λ (l : List Given). map (λ f. durable_entry f.0 f.1.items) l) c.deref.ensures.value in
    let P : List PastCall → Type 0 = λ l. Kept start c.in-Ok.files.items l 0 in
    subst P (sym c.new.ensures.items) (ap (files_by reads) made ∙ entries_start reads (λ b. refl) start, ap (files_by syncs) made ∙ entries_start syncs (λ b. refl) start, tt)
