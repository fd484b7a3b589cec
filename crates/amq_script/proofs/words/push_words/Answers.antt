use Rattle.std.proofs.Common.{rules, length, nat_lt, ◌==◌, ◌++◌, map, ap, ◌∙◌}
use Rattle.std.proofs.lemmas.List.{map-append}
use Rattle.std.proofs.lemmas.Iterator.Consumers.{YieldsList-from_filter, YieldsList-at}
use Rattle.std.proofs.lemmas.Iterator.Splits.{YieldsList-from_slice_split}
use Rattle.amq_script.proofs.Extending.{extended_by}
use Rattle.amq_script.proofs.words.push_words.Goals as goal

pub returns-in-Ok : goal.returns-in-Ok
returns-in-Ok c =
    extended_by (λ word. word.now) c.in-Ok.ensures.ran
    (YieldsList-from_filter _ (λ word. nat_lt 0 (length word))
    (YieldsList-at c.filter-parts.ensures.source (YieldsList-from_slice_split _ (λ b. b == 32) c.args.line.now c.split.ensures.rest c.split.ensures.done c.split.ensures.closure (λ x b q h. search rules)))
    c.filter-parts.ensures.closure (λ x b q h. search rules))
    (λ xs e gives.
    ap (map (λ word. word.now)) gives.0 ∙ map-append (λ word. word.now) c.args.words.now.items xs ∙ ap (λ l. map (λ word. word.now) c.args.words.now.items ++ l) e)
