use Rattle.std.proofs.Common.{arith}
use Rattle.amq_model.proofs.Digits.{digit_at, fits}
use Rattle.amq_model.proofs.decimal.value_of.Goals as goal

pub overflow_mul-value : goal.overflow_mul-value
overflow_mul-value c =
    let room = fits c.loop-digit.value c.loop-digit.digit-index c.loop-digit.invariant.below (omega arith) in
    omega arith

pub overflow_add-value : goal.overflow_add-value
overflow_add-value c =
    let d = digit_at c.args.digits.now c.loop-digit.digit-index c.requires.digits c.loop-digit-test.true in
    let room = fits c.loop-digit.value c.loop-digit.digit-index c.loop-digit.invariant.below (omega arith) in
    omega (arith, c.from.ensures)
