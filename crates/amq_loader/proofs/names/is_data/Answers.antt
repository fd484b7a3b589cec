use Rattle.std.proofs.Common.{sym, ap, ◌∙◌}
use Rattle.amq_model.specs.Names.{is_data}
use Rattle.amq_loader.proofs.Classes.{data_of, not_data}
use Rattle.amq_loader.proofs.names.is_data.Goals as goal

pub returns-in_default : goal.returns-in_default
returns-in_default c = sym (ap is_data (sym c.as_str.ensures.text) ∙ data_of c.as_str.result.now c.file_class.result c.file_class.ensures.class ∙ not_data c.file_class.result c.in_default.not-DataFile)
