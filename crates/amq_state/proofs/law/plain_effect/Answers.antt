use Rattle.std.proofs.Common.{◌∙◌, ℕ, ◌++◌, take, ap, arith}
use Rattle.amq_model.specs.Effect.{effect_of}
use Rattle.amq_state.specs.Backward.{values}
use Rattle.amq_state.proofs.Lists.{effect_more}
use Rattle.amq_state.proofs.law.plain_effect.Goals as goal

pub loop-i-preserved : goal.loop-i-preserved
loop-i-preserved c = effect_more c.args.list.now c.loop-i.i c.index-list-i.result (values c.loop-i.effect.items) (values c.add_effect.new.effect.items) (omega arith) c.index-list-i.is c.loop-i.invariant
    (c.in_ok-add_effect.ensures ∙ ap (λ (n : ℕ). values c.loop-i.effect.items ++ effect_of (take n c.args.list.now) c.index-list-i.result) (omega arith))
