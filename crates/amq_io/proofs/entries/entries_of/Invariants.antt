use Rattle.std.proofs.Common.{◌≡◌, map, take}
use Rattle.amq_io.specs.Entries.{durable_entry}
use Rattle.amq_io.proofs.entries.entries_of.Given as goal

abbrev pub invariant-loop-file : goal.invariant-loop-file
invariant-loop-file l = l.entries.items ≡ map (λ f. durable_entry f.0 f.1.items) (take l.file-index l.files)
