use Rattle.std.proofs.Common.{inl, inr, sym, ap, ◌∙◌}
use Rattle.amq_loader.specs.Loads.{is_leftover}
use Rattle.amq_loader.proofs.Classes.{leftover_class, leftover_of, not_leftover}
use Rattle.amq_loader.proofs.names.is_leftover.Goals as goal

pub returns-in-Compacted : goal.returns-in-Compacted
returns-in-Compacted c =
    let is = ap is_leftover (sym c.as_str.ensures.text) ∙ leftover_of c.as_str.result.now c.file_class.result c.file_class.ensures.class in
    elim c.in-Compacted.is [
      | inl e ↦ sym (is ∙ ap leftover_class e.1)
      | inr e ↦ sym (is ∙ ap leftover_class e.1)
    ]

pub returns-in_default : goal.returns-in_default
returns-in_default c =
    sym (ap is_leftover (sym c.as_str.ensures.text) ∙ leftover_of c.as_str.result.now c.file_class.result c.file_class.ensures.class ∙ not_leftover c.file_class.result c.in_default.not-Compacted c.in_default.not-Temporary)
