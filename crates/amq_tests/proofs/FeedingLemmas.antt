-- Records that were fed from files in turn.
use Rattle.std.proofs.Common.{ℕ, ◌<◌, List, ◌++◌, map, arith}
use Rattle.std.proofs.lemmas.List.Elements.{All-append, All-map, All-weaker}
use Rattle.amq_model.specs.declared.record.Placed.{Placed}
use Rattle.amq_record.specs.declared.spot.Spot.{Spot}
use Rattle.amq_state.specs.Fed.{placed_of, AreBelow}

-- a file more, below a greater one
pub fed_below : (k file : ℕ) (l : List Placed) (spots : List Spot) → k < file → AreBelow k l → AreBelow file (l ++ map (placed_of k) spots)
fed_below k file l spots lt below =
    All-append (λ p. p.file < file) l (map (placed_of k) spots) (All-weaker (λ p. p.file < k) (λ p. p.file < file) (λ p h. omega arith) l below)
    (All-map (λ p. p.file < file) (placed_of k) spots (λ i d h. lt))
