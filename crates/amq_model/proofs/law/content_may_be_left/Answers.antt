-- The content is a reading of this moment.
use Rattle.std.proofs.Common.{arith}
use Rattle.amq_model.specs.Calls.{content}
use Rattle.amq_model.proofs.Keeping.{content_reads}
use Rattle.amq_model.proofs.Moments.{reads_now}
use Rattle.amq_model.proofs.law.content_may_be_left.Goals as goal

pub returns : goal.returns
returns c = λ p. reads_now p.start p.calls p.moment p.moment (content p.start p.calls) (omega arith) (content_reads p.start p.calls)
