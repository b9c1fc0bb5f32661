-- Frames as the pieces of a stream, and what a taker has joined of pieces.
use Rattle.std.specs.Prelude.{ℕ, List, [], ◌∷◌, ◌++◌, Ok}
use Rattle.std.specs.List.{flat_map, AllByRecursion}
use Rattle.rpc_frame.specs.declared.frame.Frame.{Frame}
use Rattle.stream_pair.specs.declared.piece.Piece.{Piece}
use Rattle.stream_pair.specs.Pieces.{pieces}
use Rattle.frame_bytes.specs.Frames.{frame_bytes}
use Rattle.frame_bytes.specs.Ranges.{IsFrame}
use Rattle.frame_bytes.specs.Streams.{Left, Rest, Feeds}
use Rattle.log_laws.specs.Logs.{StampedFrame, stamped}

-- the pieces in which a frame is sent, under the stamp of the event that sends it
abbrev pub pieces_of_frame : StampedFrame → List Piece
pieces_of_frame s = pieces s.stamp (frame_bytes s.frame)

-- Frames are sent one after the other, each by itself: no piece has bytes of two.
abbrev pub pieces_of : List StampedFrame → List Piece
pieces_of sent = flat_map pieces_of_frame sent

-- the bytes of pieces, one behind the other
abbrev pub bytes_of : List Piece → List ℕ
bytes_of ps = flat_map (λ p. p.bytes) ps

-- each of them has a spelling
abbrev pub AreFrames : List StampedFrame → Type 0
AreFrames sent = AllByRecursion (λ s. IsFrame s.frame) sent

-- These pieces were taken and fed to a new joiner, one after the other. They completed these frames, a piece one frame
-- at most, and a frame has the stamp of the piece that completed it. This is what the joiner has now.
pub data Took : List Piece → List StampedFrame → Left → Type 0 where
  TookNothing : Took [] [] (Rest [])
  TookPart : {taken : List Piece} {got : List StampedFrame} {old : Left} → Took taken got old
      → (p : Piece) (new : Left) → Feeds old p.bytes (Ok []) new
      → Took (taken ++ p ∷ []) got new
  TookFrame : {taken : List Piece} {got : List StampedFrame} {old : Left} → Took taken got old
      → (p : Piece) (f : Frame) (new : Left) → Feeds old p.bytes (Ok (f ∷ [])) new
      → Took (taken ++ p ∷ []) (got ++ stamped p.stamp f ∷ []) new
