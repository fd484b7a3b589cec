use Rattle.std.proofs.Common.{List, ℕ, sym, ap, ◌∙◌}
use Rattle.amq_model.specs.Names.{same, control_name}
use Rattle.amq_loader.proofs.Classes.{control_of, not_control}
use Rattle.amq_loader.proofs.names.is_control.Goals as goal

pub returns-in_default : goal.returns-in_default
returns-in_default c =
    sym (ap (λ (n : List ℕ). same n control_name) (sym c.as_str.ensures.text) ∙ control_of c.as_str.result.now c.file_class.result c.file_class.ensures.class ∙ not_control c.file_class.result c.in_default.not-Control)
