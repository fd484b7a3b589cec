use Rattle.std.proofs.Common.{◌∙◌, ap, ◌||◌}
use Rattle.std.specs.List.{list_any}
use Rattle.amq_model.specs.Names.{same}
use Rattle.amq_script.proofs.Members.{members_added}
use Rattle.amq_script.proofs.labels.Labels.add.Goals.{in-Ok, in-Err}
use Rattle.amq_script.proofs.labels.Labels.add.Goals as goal

pub returns : goal.returns
returns c =
    elim c.match-insert.branch [
      | in-Ok w ↦
          rw w.result-is
          (λ x. members_added x c.in_ok-label.label c.self.inside.names.keys c.insert.new.self.keys (w.in-Ok.ensures.updates.0 x)
          ∙ ap (λ n. same x n || list_any (same x) c.self.inside.names.keys) c.in_ok-label.ensures
          ∙ ap (λ ns. same x c.args.label.now || list_any (same x) ns) c.self.view_is)
      | in-Err w ↦ rw w.result-is tt
    ]
