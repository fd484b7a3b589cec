use Rattle.std.proofs.Common.{◌≡◌, map}
use Rattle.amq_loader.specs.Parts.{all_records}
use Rattle.amq_loader.proofs.parts.join.Given as goal

abbrev pub invariant-loop-part : goal.invariant-loop-part
invariant-loop-part l = record {
  files : l.files.items ≡ map (λ p. p.file) l.yielded;
  records : l.records.items ≡ all_records l.yielded;
}
