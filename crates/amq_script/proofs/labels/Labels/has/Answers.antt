use Rattle.std.proofs.Common.{◌∙◌, ap}
use Rattle.std.specs.List.{list_any}
use Rattle.amq_model.specs.Names.{same}
use Rattle.amq_script.proofs.Members.{members}
use Rattle.amq_script.proofs.labels.Labels.has.Goals as goal

pub returns : goal.returns
returns c = let h = c.contains.ensures in let m = members c.args.label.now c.self.inside.names.keys in h ∙ m ∙ ap (list_any (same c.args.label.now)) c.self.view_is
