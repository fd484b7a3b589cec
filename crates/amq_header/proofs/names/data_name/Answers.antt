use Rattle.std.proofs.Common.{sym, subst, ◌∙◌}
use Rattle.amq_model.specs.Name.{HasNameForm}
use Rattle.amq_header.proofs.Made.{data_form}
use Rattle.amq_header.proofs.names.data_name.Goals as goal

pub named-requires : goal.named-requires
named-requires c = subst HasNameForm (sym (c.as_str.ensures.value ∙ c.in-Ok.ensures.ok)) (data_form c.args.number c.requires)
