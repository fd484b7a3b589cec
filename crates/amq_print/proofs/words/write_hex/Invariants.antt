use Rattle.std.proofs.Common.{◌≡◌, ◌≤◌, ◌++◌, ℕ, List}
use Rattle.std.specs.List.{flat_map}
use Rattle.std.specs.Vec.{vec_capacity}
use Rattle.std.specs.Slice.Iter.{chunks_rest, chunks_size}
use Rattle.amq_model.specs.Texts.{hex_digits}
use Rattle.amq_print.proofs.words.write_hex.Given as goal

abbrev pub invariant-loop-piece : goal.invariant-loop-piece
invariant-loop-piece l =
    goal.iterator-loop-piece.can_next l.piece-iterator
    × goal.iterator-loop-piece.is_finite l.piece-iterator
    × (chunks_size l.piece-iterator ≡ 64)
    × (vec_capacity l.fn.out ≤ vec_capacity l.out)
    × (done : List ℕ) × (l.out.items ≡ l.fn.out.items ++ done)
    × (done ++ flat_map hex_digits (chunks_rest l.piece-iterator) ≡ flat_map hex_digits l.bytes)
