use Rattle.std.proofs.Common.{arith}
use Rattle.std.specs.Prelude.{codes}
use Rattle.std.specs.Fmt.{decimal}
use Rattle.amq_print.proofs.Longest.{two_words}
use Rattle.amq_print.proofs.replies.push_answer.Goals as goal

pub returns-in-Done-Appended-clause-longest : goal.returns-in-Done-Appended-clause-longest
returns-in-Done-Appended-clause-longest c =
    let reply = rw c.in-Done-Appended.is at c.in-Done-Appended.field-0-is in
    rw (c.in-Done-Appended.is, reply) (two_words (codes "ok") (decimal c.in-Done-Appended.place) (omega (arith, c.number.ensures.short)))

pub returns-in-Done-Begun-clause-longest : goal.returns-in-Done-Begun-clause-longest
returns-in-Done-Begun-clause-longest c =
    let reply = rw c.in-Done-Begun.is at c.in-Done-Begun.field-0-is in
    rw (c.in-Done-Begun.is, reply) (two_words (codes "tx") (decimal c.in-Done-Begun.tx) (omega (arith, c.number-in-Done-Begun.ensures.short)))

pub returns-in-Done-Durable-clause-longest : goal.returns-in-Done-Durable-clause-longest
returns-in-Done-Durable-clause-longest c =
    let reply = rw c.in-Done-Durable.is at c.in-Done-Durable.field-0-is in
    rw (c.in-Done-Durable.is, reply) (two_words (codes "durable") (decimal c.in-Done-Durable.count) (omega (arith, c.number-in-Done-Durable.ensures.short)))
