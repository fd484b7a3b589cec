use Rattle.std.proofs.Common.{◌≡◌, ◌++◌, take}
use Rattle.std.specs.List.{flat_map}
use Rattle.amq_model.specs.RecordLines.{file_lines}
use Rattle.amq_print.proofs.records.record_lines.Given as goal

abbrev pub invariant-loop-file : goal.invariant-loop-file
invariant-loop-file l = l.out.items ≡ l.initial.out.items ++ flat_map (file_lines l.base l.user_version) (take l.file-index l.files)
