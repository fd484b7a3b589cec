use Rattle.std.proofs.Common.{◌≡◌, ◌+◌, ◌-◌, ◌<◌, List, ℕ, drop, length, ◌∙◌, ap, subst, arith}
use Rattle.std.specs.Prelude.{reverse}
use Rattle.amq_io.specs.MemoryFile.{picked, all_picked}
use Rattle.amq_io.proofs.Picking.{all_next, next_fits}
use Rattle.amq_io.proofs.memory_file.pick_ranges.Goals as goal

pub pick_range-requires : goal.pick_range-requires
pick_range-requires c =
    let ps = c.args.pending.now in
    let i = c.loop-i.i - 1 in
    let one : c.loop-i.i ≡ i + 1 = omega (arith, c.loop-i-test.true) in
    let lt : i < length ps = omega (arith, c.loop-i-test.true, c.loop-i.auto.i) in
    let P : ℕ → Type 0 = λ k. c.loop-i.bytes ≡ all_picked c.args.pick c.args.bytes.now (reverse (drop k ps)) in
    next_fits c.args.pick c.args.bytes.now c.loop-i.bytes ps i c.index-pending-i.result c.requires (subst P one c.loop-i.invariant) lt c.index-pending-i.is

pub loop-i-preserved : goal.loop-i-preserved
loop-i-preserved c =
    let ps = c.args.pending.now in
    let i = c.loop-i.i - 1 in
    let one : c.loop-i.i ≡ i + 1 = omega (arith, c.loop-i-test.true) in
    let lt : i < length ps = omega (arith, c.loop-i-test.true, c.loop-i.auto.i) in
    let P : ℕ → Type 0 = λ k. c.loop-i.bytes ≡ all_picked c.args.pick c.args.bytes.now (reverse (drop k ps)) in
    c.pick_range.ensures
    ∙ ap (λ (b : List ℕ). picked c.args.pick b c.index-pending-i.result) (subst P one c.loop-i.invariant)
    ∙ all_next c.args.pick c.args.bytes.now ps i c.index-pending-i.result lt c.index-pending-i.is
