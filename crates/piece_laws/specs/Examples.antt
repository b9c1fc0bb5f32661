-- Frames and their pieces, computed by the checker.
use Rattle.std.specs.Prelude.{◌≡◌, pos, List, [], ◌∷◌, length, map, replicate, refl}
use Rattle.pico_base.specs.declared.reply.Reply.TheVariants as replies
use Rattle.rpc_frame.specs.declared.frame.Frame.TheVariants as frames
use Rattle.stream_pair.specs.Pieces.{piece}
use Rattle.log_laws.specs.Logs.{StampedFrame, stamped}
use Rattle.piece_laws.specs.Pieces.{pieces_of}

-- a short frame goes as one piece: its length, and its code
one_piece : pieces_of (stamped 7 frames.RecallAll ∷ []) ≡ piece 7 (0 ∷ 0 ∷ 0 ∷ 1 ∷ 0x10 ∷ []) ∷ []
one_piece = refl

-- two short frames of one event go as two pieces
two_frames : pieces_of (stamped 7 frames.RecallAll ∷ stamped 7 (frames.NotOwner 3) ∷ [])
    ≡ piece 7 (0 ∷ 0 ∷ 0 ∷ 1 ∷ 0x10 ∷ []) ∷ piece 7 (0 ∷ 0 ∷ 0 ∷ 5 ∷ 6 ∷ 0 ∷ 0 ∷ 0 ∷ 3 ∷ []) ∷ []
two_frames = refl

-- an answer with a message of 600 bytes, and a short frame of a later event
abbrev long_and_short : List StampedFrame
long_and_short =
    stamped 7 (frames.Answer 3 (replies.Message (pos 1) (replicate 600 0))) ∷ stamped 8 frames.RecallAll ∷ []

-- The first goes as two pieces, and the second begins a piece of its own.
sizes : map (λ p. length p.bytes) (pieces_of long_and_short) ≡ 512 ∷ 106 ∷ 5 ∷ []
sizes = refl

stamps : map (λ p. p.stamp) (pieces_of long_and_short) ≡ 7 ∷ 7 ∷ 8 ∷ []
stamps = refl
