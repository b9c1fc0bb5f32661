-- What the calls on lines say besides the words of a node that logs.
use Rattle.std.specs.Prelude.{◌≡◌, ℕ, zero, suc, Bool, true, nat_eq, List, [], ◌∷◌, ◌++◌, map, Option, Some, None, Result, Ok, Err, IsErr}
use Rattle.rpc_frame.specs.declared.frame.Frame.{Frame}
use Rattle.frame_bytes.specs.declared.fault.FrameFault.{FrameFault}
use Rattle.frame_bytes.specs.declared.fault.FrameFault.TheVariants as faults
use Rattle.pico_base.specs.declared.fault.Memory.{Memory}
use Rattle.stream_pair.specs.Pieces.{pieces}
use Rattle.log_model.specs.declared.found.Found.{Found}
use Rattle.log_model.specs.declared.found.Found.TheVariants as founds
use Rattle.log_model.specs.Views.{Line}
use Rattle.log_model.specs.Looks.{after_nothing}

-- it is the same line: of the same node, over the same two streams
pub record IsSameLine (old new : Line) : Type 0 where
  pub other : new.other ≡ old.other
  pub out : new.out.stream ≡ old.out.stream
  pub into : new.into.stream ≡ old.into.stream

-- the same of each line of two lists
abbrev pub AreSameLines : List Line → List Line → Type 0
AreSameLines [] [] = Unit {0}
AreSameLines (old ∷ olds) (new ∷ news) = IsSameLine old new × AreSameLines olds news
AreSameLines [] (new ∷ news) = ⊥
AreSameLines (old ∷ olds) [] = ⊥

-- what a look found, by what a joiner answers to the piece, which has this stamp
abbrev pub FoundOf : ℕ → ℕ → Result (List Frame) FrameFault → Result Found Memory → Type 0
FoundOf other stamp (Err faults.Memory) result = IsErr result
FoundOf other stamp (Err fault) result = result ≡ Ok founds.Refused
FoundOf other stamp (Ok []) result = result ≡ Ok founds.Part
FoundOf other stamp (Ok (frame ∷ [])) result = result ≡ Ok (founds.Whole other stamp frame)
FoundOf other stamp (Ok (f ∷ g ∷ fs)) result = result ≡ Ok founds.Refused

-- the line with the pieces of these bytes more
abbrev pub with_bytes : ℕ → List ℕ → Line → Line
with_bytes stamp bytes line =
    record line { out = record { stream = line.out.stream; sent = line.out.sent ++ pieces stamp bytes } }

-- which lines are looked at: that with one node alone, or each
abbrev pub may_look : Option ℕ → ℕ → Bool
may_look None other = true
may_look (Some only) other = nat_eq other only

-- the line after so many looks that found nothing
abbrev pub after_silence : ℕ → Line → Line
after_silence zero line = line
after_silence (suc looks) line = after_nothing (after_silence looks line)

-- all lines after so many looks at each of them that found nothing
abbrev pub after_silences : ℕ → List Line → List Line
after_silences zero lines = lines
after_silences (suc looks) lines = map after_nothing (after_silences looks lines)
