use Rattle.amq_model.proofs.EffectGrows.{effect_grows}
use Rattle.amq_model.proofs.law.effect_grows.Goals as goal

pub returns : goal.returns
returns c = effect_grows
