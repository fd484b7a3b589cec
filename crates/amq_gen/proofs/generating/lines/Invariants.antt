use Rattle.std.proofs.Common.{◌≡◌}
use Rattle.std.specs.List.{flat_map, range_with_len}
use Rattle.amq_model.specs.Generator.{x_at, r_at, lines_made}
use Rattle.amq_gen.proofs.generating.lines.Given as goal

abbrev pub invariant-loop-made : goal.invariant-loop-made
invariant-loop-made l = record {
  lines : l.lines.items ≡ flat_map (λ k. lines_made k (r_at l.number k)) (range_with_len 1 l.made);
  x : l.x ≡ x_at l.number l.made;
}
