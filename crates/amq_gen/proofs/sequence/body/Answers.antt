use Rattle.std.proofs.Common.{◌+◌, ◌%◌, zero-add}
use Rattle.std.proofs.lemmas.List.FromFn.{map-range_with_len_more}
use Rattle.amq_gen.proofs.sequence.body.Goals as goal

pub loop-place-preserved : goal.loop-place-preserved
loop-place-preserved c =
    let more = map-range_with_len_more (λ j. (c.args.bits + j) % 256) 0 c.loop-place.place c.loop-place.place (zero-add c.loop-place.place) in
    cc (c.in_default.ensures.items, c.loop-place.invariant, more)
