use Rattle.std.proofs.Common.{arith}
use Rattle.std.specs.Prelude.{codes}
use Rattle.std.specs.Fmt.{decimal}
use Rattle.amq_print.proofs.Longest.{three_words, four_words}
use Rattle.amq_print.proofs.replies.push_refusal.Goals as goal

pub returns-in-TooLarge-clause-longest : goal.returns-in-TooLarge-clause-longest
returns-in-TooLarge-clause-longest c = rw c.in-TooLarge.is (four_words (codes "refused") (codes "TooLarge") (decimal c.in-TooLarge.len) (decimal c.in-TooLarge.limit) (omega (arith, c.number.ensures.short, c.number-in-TooLarge.ensures.short)))

pub returns-in-NoTx-clause-longest : goal.returns-in-NoTx-clause-longest
returns-in-NoTx-clause-longest c = rw c.in-NoTx.is (three_words (codes "refused") (codes "NoTx") (decimal c.in-NoTx.tx) (omega (arith, c.number-in-NoTx.ensures.short)))

pub returns-in-TxPrepared-clause-longest : goal.returns-in-TxPrepared-clause-longest
returns-in-TxPrepared-clause-longest c = rw c.in-TxPrepared.is (three_words (codes "refused") (codes "TxPrepared") (decimal c.in-TxPrepared.tx) (omega (arith, c.number-in-TxPrepared.ensures.short)))

pub returns-in-Held-clause-longest : goal.returns-in-Held-clause-longest
returns-in-Held-clause-longest c = rw c.in-Held.is (four_words (codes "refused") (codes "Held") (decimal c.in-Held.id) (decimal c.in-Held.tx) (omega (arith, c.number-in-Held.ensures.short, c.number-in-Held-2.ensures.short)))

pub returns-in-AlreadyLive-clause-longest : goal.returns-in-AlreadyLive-clause-longest
returns-in-AlreadyLive-clause-longest c = rw c.in-AlreadyLive.is (three_words (codes "refused") (codes "AlreadyLive") (decimal c.in-AlreadyLive.id) (omega (arith, c.number-in-AlreadyLive.ensures.short)))

pub returns-in-NoRecord-clause-longest : goal.returns-in-NoRecord-clause-longest
returns-in-NoRecord-clause-longest c = rw c.in-NoRecord.is (three_words (codes "refused") (codes "NoRecord") (decimal c.in-NoRecord.id) (omega (arith, c.number-in-NoRecord.ensures.short)))

pub returns-in-TxNumbersSpent-clause-longest : goal.returns-in-TxNumbersSpent-clause-longest
returns-in-TxNumbersSpent-clause-longest c = rw c.in-TxNumbersSpent.is (three_words (codes "refused") (codes "TxNumbersSpent") (decimal c.in-TxNumbersSpent.highest) (omega (arith, c.number-in-TxNumbersSpent.ensures.short)))

pub returns-in-FileIdsSpent-clause-longest : goal.returns-in-FileIdsSpent-clause-longest
returns-in-FileIdsSpent-clause-longest c = rw c.in-FileIdsSpent.is (three_words (codes "refused") (codes "FileIdsSpent") (decimal c.in-FileIdsSpent.highest) (omega (arith, c.number-in-FileIdsSpent.ensures.short)))
