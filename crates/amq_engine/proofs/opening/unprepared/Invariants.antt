use Rattle.std.proofs.Common.{◌≡◌}
use Rattle.std.specs.Prelude.{map, filter, not, take}
use Rattle.amq_engine.proofs.opening.unprepared.Given as goal

abbrev pub invariant-loop-open : goal.invariant-loop-open
invariant-loop-open l = l.txs.items ≡ map (λ o. o.tx) (filter (λ o. not o.prepared) (take l.open-index l.open_txs))
