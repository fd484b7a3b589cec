use Rattle.std.proofs.Common.{arith, rules}
use Rattle.amq_print.proofs.HexDigits.{encoded}
use Rattle.amq_print.proofs.words.write_digits.Goals as goal

pub returns-clause-ok : goal.returns-clause-ok
returns-clause-ok c =
    let e = encoded c.args.piece.now (λ i. let fits = c.type_inv.piece i in omega arith) in
    search rules

pub returns-clause-full : goal.returns-clause-full
returns-clause-full c =
    let e = encoded c.args.piece.now (λ i. let fits = c.type_inv.piece i in omega arith) in
    search rules
