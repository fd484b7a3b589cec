use Rattle.std.proofs.Common.{◌≡◌, ◌≤◌, ◌++◌, take, map}
use Rattle.std.specs.List.{join_with_byte}
use Rattle.std.specs.Vec.{vec_capacity}
use Rattle.amq_print.specs.Words.{word_text}
use Rattle.amq_print.proofs.words.write_words.Given as goal

abbrev pub invariant-loop-i : goal.invariant-loop-i
invariant-loop-i l = (l.out.items ≡ l.fn.out.items ++ join_with_byte 32 (map word_text (take l.i l.words))) × (vec_capacity l.fn.out ≤ vec_capacity l.out)
