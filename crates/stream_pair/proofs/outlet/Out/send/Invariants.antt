-- What was sent so far, and what is left of the bytes, are the pieces of all of them.
use Rattle.std.proofs.Common.{◌≡◌, List, ◌++◌}
use Rattle.std.specs.Slice.Iter.{chunks_rest, chunks_size}
use Rattle.stream_pair.specs.Pieces.{pieces}
use Rattle.stream_pair.specs.declared.piece.Piece.{Piece}
use Rattle.stream_pair.proofs.outlet.Out.send.Given as goal

abbrev pub invariant-loop-front : goal.invariant-loop-front
invariant-loop-front g l =
    (goal.iterator-loop-front g).can_next l.front-iterator
    × (goal.iterator-loop-front g).is_finite l.front-iterator
    × (chunks_size l.front-iterator ≡ 512)
    × (l.self.stream ≡ l.fn.self.stream)
    × ((done : List Piece) × (l.self.sent ≡ l.fn.self.sent ++ done)
    × (done ++ pieces l.stamp (chunks_rest l.front-iterator) ≡ pieces l.stamp l.fn.bytes))
