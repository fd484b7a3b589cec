-- By the lemma on one call.
use Rattle.amq_model.proofs.Moments.{one}
use Rattle.amq_model.proofs.law.a_call_may_leave.Goals as goal

pub returns : goal.returns
returns c = λ call outcome p t s le left. (one call outcome p).left t s le left
