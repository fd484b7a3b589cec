use Rattle.std.proofs.Common.{rules, cond, Some, sym, ap, ◌∙◌}
use Rattle.std.specs.Ordering.{nat_cmp}
use Rattle.std.specs.Cmp.Lexicographic.{slice_cmp}
use Rattle.std.specs.BTreeMap.{get, is_at}
use Rattle.amq_cli.proofs.Labelling.{fresh_stays}
use Rattle.amq_cli.proofs.labels.Labels.reserve.Goals as goal
use Rattle.amq_cli.proofs.labels.Labels.reserve.Goals.{in-Ok, in-Err}

-- src/labels.rt:37:5
pub returns-clause-same : goal.returns-clause-same
returns-clause-same c other = elim c.match-insert.branch [
  | in-Ok w ↦ fresh_stays c.args.self.now.numbers c.insert.new.self c.args.label.now (sym c.contains_key.ensures ∙ c.if-contains_key.false) (λ q. w.in-Ok.ensures.updates.0 q ∙ ap (λ k. cond (is_at (slice_cmp nat_cmp k) q) (Some 0) (get (slice_cmp nat_cmp) c.args.self.now.numbers q)) c.in_ok-copy.ensures) other
  | in-Err w ↦ search rules
]
