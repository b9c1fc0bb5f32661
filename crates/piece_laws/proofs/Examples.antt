-- What takers of one short frame have of it.
use Rattle.std.proofs.Common.{[], ◌∷◌, refl, arith}
use Rattle.rpc_frame.specs.declared.frame.Frame.TheVariants as frames
use Rattle.stream_pair.specs.Pieces.{piece}
use Rattle.frame_bytes.specs.Frames.{frame_bytes}
use Rattle.frame_bytes.specs.Ranges.{IsFrame}
use Rattle.frame_bytes.specs.Streams.{Rest}
use Rattle.log_laws.specs.Logs.{stamped}
use Rattle.piece_laws.specs.Pieces.{pieces_of, Took, TookNothing, TookPart, TookFrame}
use Rattle.piece_laws.proofs.Readings.{a_frame_is_read, a_front_is_no_frame}

recall_all_is_a_frame : IsFrame frames.RecallAll
recall_all_is_a_frame = record { ranges = tt; within = refl }

-- its one piece completes it, and the joiner has nothing left
one_piece : Took (pieces_of (stamped 7 frames.RecallAll ∷ [])) (stamped 7 frames.RecallAll ∷ []) (Rest [])
one_piece =
    TookFrame TookNothing (piece 7 (frame_bytes frames.RecallAll)) frames.RecallAll (Rest [])
    (a_frame_is_read frames.RecallAll recall_all_is_a_frame, tt)

-- three bytes complete nothing, and the joiner has them
three_bytes : Took (piece 7 (0 ∷ 0 ∷ 0 ∷ []) ∷ []) [] (Rest (0 ∷ 0 ∷ 0 ∷ []))
three_bytes =
    TookPart TookNothing (piece 7 (0 ∷ 0 ∷ 0 ∷ [])) (Rest (0 ∷ 0 ∷ 0 ∷ [])) (
      a_front_is_no_frame frames.RecallAll (0 ∷ 0 ∷ 0 ∷ []) (1 ∷ 0x10 ∷ []) recall_all_is_a_frame refl (omega arith),
      tt,
    )

-- the others complete it, under their own stamp
in_two_parts : Took (piece 7 (0 ∷ 0 ∷ 0 ∷ []) ∷ piece 8 (1 ∷ 0x10 ∷ []) ∷ []) (stamped 8 frames.RecallAll ∷ [])
    (Rest [])
in_two_parts =
    TookFrame three_bytes (piece 8 (1 ∷ 0x10 ∷ [])) frames.RecallAll (Rest [])
    (a_frame_is_read frames.RecallAll recall_all_is_a_frame, tt)
