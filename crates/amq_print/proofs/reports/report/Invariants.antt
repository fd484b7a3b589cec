use Rattle.std.proofs.Common.{◌≡◌, ◌++◌, take}
use Rattle.std.specs.List.{flat_map}
use Rattle.amq_model.specs.Texts.{in_doubt_lines}
use Rattle.amq_print.proofs.reports.report.Given as goal

abbrev pub invariant-loop-transaction : goal.invariant-loop-transaction
invariant-loop-transaction l = l.out.items ≡ l.initial.out.items ++ flat_map in_doubt_lines (take l.transaction-index l.transaction-items)
