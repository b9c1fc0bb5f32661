-- What a taker joins of pieces are the frames that were sent in them, with their stamps.
use Rattle.std.specs.Prelude.{◌≡◌, ◌≢◌, List, [], ◌∷◌, ◌++◌, Result, Ok, Err}
use Rattle.rpc_frame.specs.declared.frame.Frame.{Frame}
use Rattle.stream_pair.specs.declared.piece.Piece.{Piece}
use Rattle.frame_bytes.specs.declared.fault.FrameFault.{FrameFault}
use Rattle.frame_bytes.specs.declared.fault.FrameFault.TheVariants.{Memory}
use Rattle.frame_bytes.specs.Frames.{frame_bytes}
use Rattle.frame_bytes.specs.Streams.{Left, Rest, Feeds}
use Rattle.log_laws.specs.Logs.{StampedFrame, stamped}
use Rattle.piece_laws.specs.Pieces.{pieces_of_frame, pieces_of, bytes_of, AreFrames, Took}

-- `begun` are the first pieces of the first of these frames, and at least one piece of it is to come. `rest` are its
-- other pieces and those of the further frames.
pub record IsBegun (s : StampedFrame) (further : List StampedFrame) (begun rest : List Piece) : Type 0 where
  pub after : List Piece
  pub cut : pieces_of_frame s ≡ begun ++ after
  pub spelled : frame_bytes s.frame ≡ bytes_of begun ++ bytes_of after
  pub short : after ≢ []
  pub others : rest ≡ after ++ pieces_of further

-- the pieces of these frames are those that have begun the first of them, and the rest
abbrev pub GoesOn : List StampedFrame → List Piece → List Piece → Type 0
GoesOn [] begun rest = (begun ≡ []) × (rest ≡ [])
GoesOn (s ∷ further) begun rest = IsBegun s further begun rest

-- The frames that a taker got are the first of those that were sent. It has begun the next one, if there is one, or has
-- nothing of it yet: its joiner has the bytes of `begun`.
pub record AreFront (sent got : List StampedFrame) (rest : List Piece) (left : Left) : Type 0 where
  pub untaken : List StampedFrame
  pub begun : List Piece
  pub whole : sent ≡ got ++ untaken
  pub held : left ≡ Rest (bytes_of begun)
  pub next : GoesOn untaken begun rest

-- What a joiner may answer to the next piece of what was sent: no frame, or the next frame that was sent, with the
-- piece's stamp; or memory ran out. It never answers two frames, and never a fault of the bytes.
abbrev pub IsRightAnswer : (sent got : List StampedFrame) (p : Piece) (rest : List Piece)
    → Result (List Frame) FrameFault → Left → Type 0
IsRightAnswer sent got p rest (Ok []) new = AreFront sent got rest new
IsRightAnswer sent got p rest (Ok (f ∷ [])) new = AreFront sent (got ++ stamped p.stamp f ∷ []) rest new
IsRightAnswer sent got p rest (Ok (f ∷ g ∷ more)) new = ⊥
IsRightAnswer sent got p rest (Err Memory) new = Unit {0}
IsRightAnswer sent got p rest (Err fault) new = ⊥

-- where the pieces of some frames are those that were taken, and the rest
abbrev pub TakenAreSent : Type 0
TakenAreSent =
    (sent got : List StampedFrame) (taken rest : List Piece) (left : Left)
    → AreFrames sent → pieces_of sent ≡ taken ++ rest → Took taken got left → AreFront sent got rest left

-- the same, and one more piece that is taken and fed to the joiner
abbrev pub TheNextIsSent : Type 0
TheNextIsSent =
    (sent got : List StampedFrame) (taken rest : List Piece) (p : Piece) (left new : Left)
    (answer : Result (List Frame) FrameFault)
    → AreFrames sent → pieces_of sent ≡ (taken ++ p ∷ []) ++ rest → Took taken got left
    → Feeds left p.bytes answer new
    → IsRightAnswer sent got p rest answer new
