use Rattle.std.proofs.Common.{◌≡◌, ◌++◌, take}
use Rattle.std.specs.List.{flat_map}
use Rattle.amq_model.specs.Texts.{removal_line, indented}
use Rattle.amq_print.proofs.reports.push_deletes.Given as goal

abbrev pub invariant-loop-delete : goal.invariant-loop-delete
invariant-loop-delete l =
    l.out.items ≡ l.fn.out.items ++ flat_map (λ r. indented (removal_line r)) (take l.delete-index l.deletes)
