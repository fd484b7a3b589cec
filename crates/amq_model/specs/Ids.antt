-- The ids of live records.
use Rattle.std.specs.Prelude.{ℕ, List, map}
use Rattle.amq_model.specs.declared.record.Placed.{Placed}
use Rattle.amq_model.specs.Effect.{ascending, live}

-- the ids of the live records, each once, ascending
abbrev pub live_numbers : List Placed → List ℕ
live_numbers l = ascending (map (λ e. e.id) (live l))
