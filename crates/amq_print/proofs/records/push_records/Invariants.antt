use Rattle.std.proofs.Common.{◌≡◌, ◌++◌, take}
use Rattle.std.specs.Prelude.{filter}
use Rattle.std.specs.List.{flat_map}
use Rattle.amq_model.specs.RecordLines.{record_line, is_in}
use Rattle.amq_print.proofs.records.push_records.Given as goal

abbrev pub invariant-loop-placed : goal.invariant-loop-placed
invariant-loop-placed l = l.out.items ≡ l.fn.out.items ++ flat_map record_line (filter (is_in l.file) (take l.placed-index l.records))
