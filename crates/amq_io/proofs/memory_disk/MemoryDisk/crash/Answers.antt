use Rattle.std.proofs.Common.{List, ◌∙◌, ap, subst}
use Rattle.amq_io.specs.declared.entries.Entry.{Entry}
use Rattle.amq_io.specs.Left.{AreTorn}
use Rattle.amq_io.specs.MemoryDisk.{content_of, last_synced_of}
use Rattle.amq_io.proofs.Tearing.{left_started, may_be_started}
use Rattle.amq_io.proofs.memory_disk.MemoryDisk.crash.Goals as goal

pub returns-clause-left : goal.returns-clause-left
returns-clause-left c =
    let P : List Entry → Type 0 = λ l. AreTorn c.args.pick l c.in-Ok.left.items in
    left_started c.args.pick c.started.result c.args.self.now c.self.inside.files.items c.in-Ok.left.items (c.self.invariant.0 ∙ ap content_of c.self.view_is) (c.self.invariant.1 ∙ ap last_synced_of c.self.view_is)
    (subst P c.deref.ensures.value c.in-Ok.ensures) c.started.ensures.fresh c.started.ensures.start

pub returns-clause-image : goal.returns-clause-image
returns-clause-image c = may_be_started c.args.pick c.started.result c.args.self.now (returns-clause-left c)
