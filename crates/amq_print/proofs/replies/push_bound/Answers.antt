use Rattle.std.proofs.Common.{arith}
use Rattle.std.specs.Prelude.{codes}
use Rattle.std.specs.Fmt.{decimal}
use Rattle.amq_print.proofs.Longest.{two_words}
use Rattle.amq_print.proofs.replies.push_bound.Goals as goal

pub returns-clause-longest : goal.returns-clause-longest
returns-clause-longest c = two_words (codes "bound") (decimal c.args.tx) (omega (arith, c.number.ensures.short))
