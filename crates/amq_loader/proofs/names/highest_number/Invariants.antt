use Rattle.std.proofs.Common.{◌≡◌, ◌++◌, map, take}
use Rattle.std.specs.Prelude.{max, fold}
use Rattle.std.specs.List.{filter_map}
use Rattle.amq_loader.specs.Loads.{number_of}
use Rattle.amq_loader.proofs.names.highest_number.Given as goal

abbrev pub invariant-loop-info : goal.invariant-loop-info
invariant-loop-info l = l.highest ≡ fold max 0 (map (λ p. p.file.id) l.parts ++ filter_map number_of (map (λ i. i.name) (take l.info-index l.infos)))
