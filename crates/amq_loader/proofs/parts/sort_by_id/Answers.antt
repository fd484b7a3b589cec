use Rattle.std.proofs.Common.{◌≡◌, rules}
use Rattle.std.proofs.lemmas.Fn.{always_returns_same}
use Rattle.amq_loader.proofs.Sorting.{sorted_is}
use Rattle.amq_loader.proofs.parts.sort_by_id.Goals as goal

pub returns-in-Ok : goal.returns-in-Ok
returns-in-Ok c =
    sorted_is c.args.parts.now.items c.sort_by_key.new.self.items
    (c.in-Ok.ensures.sorted (λ p. p.file.id) (always_returns_same _ (λ a r. r ≡ a.0.now.file.id) _ (λ a r q k. search rules)))
    (c.in-Ok.ensures.stable (λ p. p.file.id) (always_returns_same _ (λ a r. r ≡ a.0.now.file.id) _ (λ a r q k. search rules)))
