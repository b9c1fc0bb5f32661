-- A stream of bytes as frames: the frames that it begins with, and what is behind them.
use Rattle.std.specs.Prelude.{◌≡◌, ◌≢◌, ℕ, ◌<◌, ◌≤◌, ◌⊎◌, List, [], ◌∷◌, ◌++◌, length, drop, Option, Some, None, Result, Ok, Err}
use Rattle.std.specs.List.{flat_map, AllByRecursion}
use Rattle.rpc_frame.specs.declared.frame.Frame.{Frame}
use Rattle.frame_bytes.specs.declared.fault.FrameFault.{FrameFault}
use Rattle.frame_bytes.specs.declared.fault.FrameFault.TheVariants.{Memory, TooLong, NotAFrame}
use Rattle.frame_bytes.specs.Fields.{IsWord, word, text}
use Rattle.frame_bytes.specs.Frames.{frame_body, frame_bytes, max_frame}
use Rattle.frame_bytes.specs.Ranges.{IsFrame}

-- a length that a frame may have, and fewer bytes than it says
pub record IsCut (bytes : List ℕ) : Type 0 where
  pub len : ℕ
  pub more : List ℕ
  pub spelled : bytes ≡ word len ++ more
  pub short : len ≤ max_frame
  pub cut : length more < len

-- less than a frame, which may still become one: not even a length, or fewer bytes than it says
abbrev pub IsPartial : List ℕ → Type 0
IsPartial bytes = (length bytes < 4) ⊎ IsCut bytes

-- a length that no frame may have
pub record IsTooLong (bytes : List ℕ) : Type 0 where
  pub len : ℕ
  pub more : List ℕ
  pub spelled : bytes ≡ word len ++ more
  pub fits : IsWord len
  pub long : max_frame < len

-- a length, and as many bytes as it says, which no frame has behind its length. A length 0 is such a one.
pub record IsNoFrame (bytes : List ℕ) : Type 0 where
  pub body : List ℕ
  pub more : List ℕ
  pub spelled : bytes ≡ text body ++ more
  pub short : length body ≤ max_frame
  pub none : (f : Frame) → IsFrame f → body ≢ frame_body f

-- the fault that stands where a frame was to begin
abbrev pub Stands : FrameFault → List ℕ → Type 0
Stands Memory bytes = ⊥
Stands TooLong bytes = IsTooLong bytes
Stands NotAFrame bytes = IsNoFrame bytes

-- what is behind the frames that a stream begins with: bytes that may still become a frame, or a fault
pub data Left : Type 0 where
  Rest : (bytes : List ℕ) → Left
  Broken : (fault : FrameFault) → Left

abbrev pub left_of : List ℕ → Option FrameFault → Left
left_of rest None = Rest rest
left_of rest (Some fault) = Broken fault

abbrev pub Ends : List ℕ → Left → Type 0
Ends bytes (Rest rest) = (bytes ≡ rest) × IsPartial rest
Ends bytes (Broken fault) = Stands fault bytes

-- the stream is these frames, and then no further whole one
pub record Splits (stream : List ℕ) (frames : List Frame) (left : Left) : Type 0 where
  pub rest : List ℕ
  pub whole : stream ≡ flat_map frame_bytes frames ++ rest
  pub each : AllByRecursion IsFrame frames
  pub end : Ends rest left

-- frames come before the fault behind them, which is answered next
abbrev pub IsAnswered : List Frame → Left → Type 0
IsAnswered frames (Rest rest) = Unit {0}
IsAnswered frames (Broken fault) = frames ≢ []

-- What feed answers to a piece where this is left of the stream so far, and what is left then. After Memory all is as
-- before; a fault lasts.
abbrev pub Feeds : Left → List ℕ → Result (List Frame) FrameFault → Left → Type 0
Feeds (Broken fault) piece answer new = (answer ≡ Err fault) × (new ≡ Broken fault)
Feeds (Rest rest) piece (Ok frames) new = Splits (rest ++ piece) frames new × IsAnswered frames new
Feeds (Rest rest) piece (Err Memory) new = new ≡ Rest rest
Feeds (Rest rest) piece (Err fault) new = Splits (rest ++ piece) [] (Broken fault) × (new ≡ Broken fault)

-- the frames of an answer, and whether memory ran out

abbrev pub frames_of : Result (List Frame) FrameFault → List Frame
frames_of (Ok frames) = frames
frames_of (Err fault) = []

abbrev pub HadMemory : Result (List Frame) FrameFault → Type 0
HadMemory (Err Memory) = ⊥
HadMemory answer = Unit {0}

-- one piece is fed, and these frames come of it
pub record Fed (old : Left) (piece : List ℕ) (frames : List Frame) (new : Left) : Type 0 where
  pub answer : Result (List Frame) FrameFault
  pub feeds : Feeds old piece answer new
  pub memory : HadMemory answer
  pub given : frames ≡ frames_of answer

-- pieces are fed one after the other, and these frames come of them
pub data AllFed : Left → List (List ℕ) → List Frame → Left → Type 0 where
  Nothing : (left : Left) → AllFed left [] [] left
  Further : (old mid new : Left) (piece : List ℕ) (pieces : List (List ℕ)) (first others : List Frame)
      → Fed old piece first mid → AllFed mid pieces others new → AllFed old (piece ∷ pieces) (first ++ others) new

-- a frame stands at the front of the bytes, and takes this many of them
pub record Begins (f : Frame) (len : ℕ) (bytes : List ℕ) : Type 0 where
  pub fits : IsFrame f
  pub spelled : bytes ≡ frame_bytes f ++ drop len bytes
  pub within : len ≤ length bytes
  pub long : 4 ≤ len
