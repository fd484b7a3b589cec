use Rattle.std.proofs.Common.{◌≡◌, ◌+◌, length}
use Rattle.amq_script.proofs.Progress.{IsAt}
use Rattle.amq_script.proofs.parsing.parse.Given as goal

abbrev pub invariant-loop-line : goal.invariant-loop-line
invariant-loop-line l = record {
  can_next : (goal.iterator-loop-line).can_next l.line-iterator;
  is_finite : (goal.iterator-loop-line).is_finite l.line-iterator;
  numbered : l.number ≡ length l.yielded + 1;
  at : IsAt l.mode l.bytes (length l.yielded) l.reader;
}
