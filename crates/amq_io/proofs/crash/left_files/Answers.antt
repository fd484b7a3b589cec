use Rattle.std.proofs.Common.{◌+◌, List, sym, subst, take}
use Rattle.amq_io.specs.Left.{AreTorn}
use Rattle.amq_io.proofs.Tearing.{Given, torn_more}
use Rattle.amq_io.proofs.crash.left_files.Goals as goal

pub loop-entry-preserved : goal.loop-entry-preserved
loop-entry-preserved c =
    let es = c.args.entries.now in
    let i = c.loop-entry.entry-index in
    let P : List Given → Type 0 = AreTorn c.args.pick (take (i + 1) es) in
    subst P (sym {A = List Given} c.in_ok-push.ensures.items)
    (torn_more c.args.pick es c.loop-entry.left.items i c.entry-item.result (c.in_ok-name.name, c.in_ok-left.field-0) c.loop-entry-test.true c.entry-item.is c.loop-entry.invariant c.in_ok-name.ensures c.in_ok-left.ensures)
