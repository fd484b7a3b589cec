use Rattle.std.proofs.Common.{inl, inr, sym, ap, ◌∙◌}
use Rattle.amq_loader.specs.Loads.{number_of}
use Rattle.amq_loader.proofs.Classes.{number_class, number_is}
use Rattle.amq_loader.proofs.names.number_of.Goals as goal

pub returns-in-Temporary : goal.returns-in-Temporary
returns-in-Temporary c = sym (ap number_of (sym c.as_str.ensures.text) ∙ number_is c.as_str.result.now c.file_class.result c.file_class.ensures.class ∙ ap number_class c.in-Temporary.is)

pub returns-in-DataFile-2 : goal.returns-in-DataFile-2
returns-in-DataFile-2 c =
    let is = ap number_of (sym c.as_str.ensures.text) ∙ number_is c.as_str.result.now c.file_class.result c.file_class.ensures.class in
    elim c.in-DataFile.is [
      | inl e ↦ sym (is ∙ ap number_class e)
      | inr e ↦ sym (is ∙ ap number_class e)
    ]
