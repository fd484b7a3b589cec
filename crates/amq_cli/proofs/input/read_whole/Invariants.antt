use Rattle.std.proofs.Common.{◌≡◌, ◌≤◌, length}
use Rattle.amq_cli.proofs.Pieces.{IsReadPart}
use Rattle.amq_cli.proofs.input.read_whole.Given as goal

-- each turn has taken at least one byte, and what was taken was left
abbrev pub invariant-pieces : goal.invariant-pieces
invariant-pieces g l = record {
  enough : l._taken ≤ length l.bytes.items;
  short : length l.bytes.items ≤ 67108864;
  part : IsReadPart l.bytes.items (g.S.Source.left l.fn.source) (g.S.Source.left l.source);
  sound : g.S.Source.faults l.source ≡ g.S.Source.faults l.fn.source;
}
