use Rattle.std.proofs.Common.{◌≡◌, map, take}
use Rattle.std.specs.Prelude.{max, fold}
use Rattle.amq_loader.proofs.names.greatest_id.Given as goal

abbrev pub invariant-loop-part : goal.invariant-loop-part
invariant-loop-part l = l.greatest ≡ fold max 0 (map (λ p. p.file.id) (take l.part-index l.parts))
