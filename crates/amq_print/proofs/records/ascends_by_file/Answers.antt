use Rattle.std.proofs.Common.{rules}
use Rattle.std.proofs.lemmas.Fn.{always_returns_same}
use Rattle.amq_print.proofs.Files.{ascending}
use Rattle.amq_print.proofs.records.ascends_by_file.Goals as goal

pub returns : goal.returns
returns c = λ yes. ascending c.args.base.now c.is_sorted_by_key.result (c.is_sorted_by_key.ensures.cases (λ p. p.file) (always_returns_same _ _ _ (λ a r q k. search rules))) yes
