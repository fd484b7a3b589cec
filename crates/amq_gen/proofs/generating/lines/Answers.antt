use Rattle.std.proofs.Common.{◌≡◌, ◌+◌, ◌*◌, ◌/◌, ◌%◌, ◌^◌, ◌++◌, sym, ap, ◌∙◌}
use Rattle.std.specs.List.{flat_map, range_with_len}
use Rattle.amq_model.specs.Generator.{x_at, r_at, lines_made}
use Rattle.amq_gen.proofs.Growth.{flat_map-range_more, x_at-more}
use Rattle.amq_gen.proofs.generating.lines.Goals as goal

pub loop-made-preserved : goal.loop-made-preserved
loop-made-preserved c =
    let number = c.args.number in
    let made = c.loop-made.made in
    let so_far = flat_map (λ k. lines_made k (r_at number k)) (range_with_len 1 made) in
    let next : c.next-x.result ≡ x_at number (made + 1) =
    c.next-x.ensures ∙ ap (λ x. (x * 6364136223846793005 + 1442695040888963407) % 2 ^ 64) c.loop-made.invariant.x ∙ sym (x_at-more number made) in
    let bits : c.upper_bits.result ≡ r_at number (made + 1) = c.upper_bits.ensures ∙ ap (λ x. x / 2 ^ 33) next in
    record {
      lines =
          c.in_ok-push_record.ensures
          ∙ ap (λ l. l ++ lines_made (made + 1) c.upper_bits.result) c.loop-made.invariant.lines
          ∙ ap (λ r. so_far ++ lines_made (made + 1) r) bits
          ∙ sym (flat_map-range_more (λ k. lines_made k (r_at number k)) made);
      x = next;
    }
