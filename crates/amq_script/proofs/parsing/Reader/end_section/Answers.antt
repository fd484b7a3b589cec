use Rattle.std.proofs.Common.{[], sym, ap, ◌∙◌}
use Rattle.std.specs.List.{list_any}
use Rattle.amq_model.specs.declared.script.Said.TheVariants.{Section}
use Rattle.amq_model.specs.Names.{same}
use Rattle.amq_script.proofs.Sections.{sections_of-section, labels_more}
use Rattle.amq_script.proofs.parsing.Reader.end_section.Goals.{in-Ok, in-Err}
use Rattle.amq_script.proofs.parsing.Reader.end_section.Goals as goal

pub returns : goal.returns
returns c =
    elim c.match-push.branch [
      | in-Ok w ↦
          rw w.result-is
          (λ saids read. record {
            lines =
                let more = sections_of-section saids in
                let before = read.lines in
                cc (w.in-Ok.ensures.items, c.replace-lines.ensures.value, c.replace-lines.ensures.after, c.of.ensures, c.new.ensures.items);
            labels = λ x. ap (list_any (same x)) (c.new-2.ensures ∙ sym (labels_more saids Section []));
          })
      | in-Err w ↦ rw w.result-is tt
    ]
