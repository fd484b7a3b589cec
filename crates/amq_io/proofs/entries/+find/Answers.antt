use Rattle.std.proofs.Common.{sym, ◌∙◌}
use Rattle.amq_io.proofs.Places.{differs, first_later, absent_later}
use Rattle.amq_io.proofs.entries.+find.Goals as goal

pub returns-in-Some-clause-found : goal.returns-in-Some-clause-found
returns-in-Some-clause-found t c =
    first_later c.args.name.now c.args.files.now c.in-Some.i c.first-item.result c.in-len1-up.len_at_least c.first-item.is
    (λ same. differs c.as_str.result.now c.args.name.now (sym c.if-eq.ensures) (c.as_str.ensures.text ∙ same)) c.in-Some.ensures.found

pub returns-in-None-clause-none : goal.returns-in-None-clause-none
returns-in-None-clause-none t c =
    absent_later c.args.name.now c.args.files.now c.first-item.result c.in-len1-up.len_at_least c.first-item.is
    (λ same. differs c.as_str.result.now c.args.name.now (sym c.if-eq.ensures) (c.as_str.ensures.text ∙ same)) c.in-None.ensures.none
