use Rattle.std.proofs.Common.{◌≡◌, map, take}
use Rattle.std.specs.Prelude.{filter}
use Rattle.amq_loader.specs.Loads.{is_leftover}
use Rattle.amq_loader.proofs.names.leftovers_of.Given as goal

abbrev pub invariant-loop-info : goal.invariant-loop-info
invariant-loop-info l = l.names.items ≡ filter is_leftover (map (λ i. i.name) (take l.info-index l.infos))
