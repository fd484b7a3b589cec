use Rattle.std.proofs.Common.{[], fold, sym, ap, ◌∙◌}
use Rattle.std.specs.List.{list_any}
use Rattle.amq_model.specs.declared.script.Said.TheVariants.{Says}
use Rattle.amq_model.specs.Names.{same}
use Rattle.amq_model.specs.Script.{labels_behind, label_named}
use Rattle.amq_script.proofs.Sections.{sections_of-says, labels_more, same_behind}
use Rattle.amq_script.proofs.parsing.Reader.push_line.Goals.{in-Ok, in-Err}
use Rattle.amq_script.proofs.parsing.Reader.push_line.Goals as goal

pub returns : goal.returns
returns c =
    elim c.match-push.branch [
      | in-Ok w ↦
          rw w.result-is
          (λ saids read. record {
            lines = rw w.in-Ok.ensures.items (sections_of-says saids c.args.line c.args.self.now.sections.items c.args.self.now.current.items read.lines);
            labels = λ x.
                c.in_ok-note.ensures x
                ∙ same_behind x (label_named c.args.line) c.args.self.now.labels (fold labels_behind [] saids) (read.labels x)
                ∙ ap (list_any (same x)) (sym (labels_more saids (Says c.args.line) []));
          })
      | in-Err w ↦ rw w.result-is tt
    ]
