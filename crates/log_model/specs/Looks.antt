-- What a node finds when it looks at its streams, one after the other, by rising node.
use Rattle.std.specs.Prelude.{◌≡◌, ℕ, Bool, true, false, List, [], ◌∷◌, ◌++◌, Result, Ok, Err}
use Rattle.rpc_frame.specs.declared.frame.Frame.{Frame}
use Rattle.stream_pair.specs.declared.piece.Piece.{Piece}
use Rattle.stream_pair.specs.Ends.{one_more_look}
use Rattle.frame_bytes.specs.declared.fault.FrameFault.{FrameFault}
use Rattle.frame_bytes.specs.declared.fault.FrameFault.TheVariants as faults
use Rattle.frame_bytes.specs.Streams.{Left, Feeds}
use Rattle.log_model.specs.declared.found.Found.{Found}
use Rattle.log_model.specs.declared.found.Found.TheVariants.{Nothing, Part, Whole, Refused}
use Rattle.log_model.specs.Views.{Line}

-- ---- one look

-- a look that found nothing
abbrev pub after_nothing : Line → Line
after_nothing l =
    record l {
      into = record {
        stream = l.into.stream;
        taken = l.into.taken;
        told = l.into.told;
        looks = one_more_look l.into.looks;
      };
    }

-- a look that found this piece, behind which this is left
abbrev pub after_piece : Line → Piece → Left → Line
after_piece l piece left =
    record l {
      into = record {
        stream = l.into.stream;
        taken = l.into.taken ++ piece ∷ [];
        told = l.into.told;
        looks = one_more_look l.into.looks;
      };
      left = left;
    }

-- a piece was taken, and the joiner answers this to it
pub record TakesPiece (old : Line) (answer : Result (List Frame) FrameFault) (new : Line) : Type 0 where
  pub piece : Piece
  pub feeds : Feeds old.left piece.bytes answer new.left
  pub is : new ≡ after_piece old piece new.left

-- the piece completes just this frame, and has this stamp
pub record TakesFrame (old : Line) (sender stamp : ℕ) (frame : Frame) (new : Line) : Type 0 where
  pub other : sender ≡ old.other
  pub takes : TakesPiece old (Ok (frame ∷ [])) new
  pub stamped : takes.piece.stamp ≡ stamp

-- the joiner refuses the piece, or makes more than one frame of it
abbrev pub IsRefused : Result (List Frame) FrameFault → Type 0
IsRefused (Err faults.Memory) = ⊥
IsRefused (Err fault) = Unit {0}
IsRefused (Ok (f ∷ g ∷ fs)) = Unit {0}
IsRefused (Ok fs) = ⊥

pub record TakesNone (old new : Line) : Type 0 where
  pub answer : Result (List Frame) FrameFault
  pub refused : IsRefused answer
  pub takes : TakesPiece old answer new

-- what one look found, and how it left the line
abbrev pub IsLook : Line → Found → Line → Type 0
IsLook old Nothing new = new ≡ after_nothing old
IsLook old Part new = TakesPiece old (Ok []) new
IsLook old (Whole sender stamp frame) new = TakesFrame old sender stamp frame new
IsLook old Refused new = TakesNone old new

-- ---- looks at many streams

-- no further stream is looked at
abbrev pub ends_looks : Found → Bool
ends_looks Nothing = false
ends_looks Part = false
ends_looks (Whole sender stamp frame) = true
ends_looks Refused = true

-- what was found in all, where the first look didn't end them
abbrev pub both_found : Found → Found → Found
both_found Part Nothing = Part
both_found first found = found

-- The first line isn't looked at; or the look at it ends the looks; or the others are looked at, too.
pub data LooksOn (may : Bool) (old new : Line) (olds news : List Line) (found : Found) (Rest : Found → Type 0)
    : Type 0 where
  Passed : may ≡ false → new ≡ old → Rest found → LooksOn may old new olds news found Rest
  Stopped : may ≡ true → ends_looks found ≡ true → IsLook old found new → news ≡ olds
      → LooksOn may old new olds news found Rest
  Went : (first next : Found) → may ≡ true → ends_looks first ≡ false → IsLook old first new → Rest next
      → found ≡ both_found first next → LooksOn may old new olds news found Rest

-- the lines that may be taken from were looked at in their order, this was found, and so they are now
abbrev pub Looks : (ℕ → Bool) → List Line → Found → List Line → Type 0
Looks may [] found [] = found ≡ Nothing
Looks may [] found (new ∷ news) = ⊥
Looks may (old ∷ olds) found [] = ⊥
Looks may (old ∷ olds) found (new ∷ news) =
    LooksOn (may old.other) old new olds news found (λ next. Looks may olds next news)
