use Rattle.std.proofs.Common.{rules}
use Rattle.amq_cli.proofs.Labelling.{set_numbers}
use Rattle.amq_cli.proofs.labels.Labels.set.Goals as goal

-- src/labels.rt:51:5
pub returns-in-Some : goal.returns-in-Some
returns-in-Some c other = set_numbers c.args.self.now.numbers (c.get_mut.follows.lender c.args.number) c.args.label.now c.args.number ((c.get_mut.follows.holds c.args.number).3 (search rules)).0 other
