use Rattle.std.proofs.Common.{◌≡◌, sym, subst, ◌∙◌}
use Rattle.std.specs.Prelude.{IfOk}
use Rattle.amq_model.specs.Name.{HasNameForm}
use Rattle.amq_header.proofs.Made.{compacted_form, compacted_text}
use Rattle.amq_header.proofs.names.compacted_name.Goals as goal

pub named-requires : goal.named-requires
named-requires c = subst HasNameForm (sym (c.as_str.ensures.value ∙ c.in-Ok.ensures.ok ∙ compacted_text c.args.number)) (compacted_form c.args.number c.requires)

pub returns-in-Ok : goal.returns-in-Ok
returns-in-Ok c = subst (λ text. IfOk c.named.result (λ name. name ≡ text)) (c.as_str.ensures.value ∙ c.in-Ok.ensures.ok ∙ compacted_text c.args.number) c.named.ensures
