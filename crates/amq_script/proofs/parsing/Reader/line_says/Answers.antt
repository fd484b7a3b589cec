use Rattle.std.proofs.Common.{◌≡◌, [], map, fold, count_by, arith, subst, ap, ◌∙◌}
use Rattle.amq_model.specs.Script.{is_section, labels_behind, words_say, words_said}
use Rattle.amq_script.specs.Faults.{Reads}
use Rattle.amq_script.proofs.Sections.{count_sections, same_words}
use Rattle.amq_script.proofs.parsing.Reader.line_says.Goals as goal

pub returns : goal.returns
returns c = λ saids read.
    let counted = count_sections saids c.args.self.now.sections.items c.args.self.now.current.items read.lines in
    let sections : c.len.result ≡ count_by is_section saids = omega (arith, c.len.ensures, counted) in
    let words = ap (map (λ word. word.now)) c.as_slice.ensures.value ∙ c.in_ok-split_words.ensures in
    let same = same_words c.args.mode (count_by is_section saids) c.args.self.now.labels (fold labels_behind [] saids) (words_said c.args.line.now) read.labels in
    let E = ap (λ n. words_say c.args.mode n c.args.self.now.labels (map (λ word. word.now) c.as_slice.result.now)) sections
    ∙ ap (words_say c.args.mode (count_by is_section saids) c.args.self.now.labels) words ∙ same in
    subst (Reads c.words_say.result) E c.words_say.ensures
