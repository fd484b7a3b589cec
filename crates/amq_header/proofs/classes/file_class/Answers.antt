use Rattle.std.proofs.Common.{sym, ap, ◌∙◌}
use Rattle.amq_model.specs.Names.{data_number, compacted_number}
use Rattle.amq_header.specs.declared.classes.FileClass.TheVariants.{DataFile, Compacted}
use Rattle.amq_header.proofs.Exclusive.{one_class}
use Rattle.amq_header.proofs.classes.file_class.Goals as goal

pub returns-in-Some-clause-only : goal.returns-in-Some-clause-only
returns-in-Some-clause-only c = λ class is. one_class c.args.name.now (DataFile c.in-Some.number) class (ap data_number (sym c.as_bytes-name.ensures.value) ∙ sym c.data_number.ensures ∙ c.in-Some.is) is

pub returns-in-Some-compacted_number-clause-only : goal.returns-in-Some-compacted_number-clause-only
returns-in-Some-compacted_number-clause-only c =
    λ class is. one_class c.args.name.now (Compacted c.in-Some-compacted_number.number) class (ap compacted_number (sym c.as_bytes-name.ensures.value) ∙ sym c.compacted_number.ensures ∙ c.in-Some-compacted_number.is) is
