-- What one look found, by what the joiner answers to the piece.
use Rattle.std.proofs.Common.{◌≡◌, List, [], ◌∷◌, ◌++◌, Result, Ok, Err, IfOk, refl, sym, subst}
use Rattle.std.proofs.lemmas.Result.{IfOk-from_err}
use Rattle.rpc_frame.specs.declared.frame.Frame.{Frame}
use Rattle.pico_base.specs.declared.fault.Memory.{Memory}
use Rattle.stream_pair.specs.declared.piece.Piece.{Piece}
use Rattle.stream_pair.specs.Ends.{Taking, one_more_look}
use Rattle.frame_bytes.specs.declared.fault.FrameFault.{FrameFault}
use Rattle.frame_bytes.specs.declared.fault.FrameFault.TheVariants as faults
use Rattle.frame_bytes.specs.Streams.{Feeds}
use Rattle.log_model.specs.declared.found.Found.{Found}
use Rattle.log_model.specs.declared.found.Found.TheVariants as founds
use Rattle.log_model.specs.Views.{Line}
use Rattle.log_model.specs.Looks.{IsLook, TakesPiece, after_piece}
use Rattle.node_lines.specs.Lines.{FoundOf}

-- the end after a look that took a piece
pub record TakesOne (old new : Taking) (p : Piece) : Type 0 where
  pub stream : new.stream ≡ old.stream
  pub taken : new.taken ≡ old.taken ++ p ∷ []
  pub told : new.told ≡ old.told
  pub looks : new.looks ≡ one_more_look old.looks

-- the line of this end
pub record LooksSo (old new : Line) (p : Piece) : Type 0 where
  pub other : new.other ≡ old.other
  pub out : new.out ≡ old.out
  pub takes : TakesOne old.into new.into p

after_piece-is : (old new : Line) (p : Piece) → LooksSo old new p → new ≡ after_piece old p new.left
after_piece-is old new p h =
    λ i. record {
      other = h.other i;
      out = h.out i;
      into = record {
        stream = h.takes.stream i;
        taken = h.takes.taken i;
        told = h.takes.told i;
        looks = h.takes.looks i;
      };
      left = new.left;
    }

takes-piece : (old new : Line) (p : Piece) (fed : Result (List Frame) FrameFault) → LooksSo old new p
    → Feeds old.left p.bytes fed new.left → TakesPiece old fed new
takes-piece old new p fed h feeds = record { piece = p; feeds = feeds; is = after_piece-is old new p h }

at_ok : (old new : Line) (found : Found) (result : Result Found Memory) → result ≡ Ok found → IsLook old found new
    → IfOk result (λ f. IsLook old f new)
at_ok old new found result e h =
    let P : Result Found Memory → Type 0 = λ r. IfOk r (λ f. IsLook old f new) in
    subst P (sym e) h

-- what is found is a look at the line
pub IsLook-by_found : (old new : Line) (p : Piece) (fed : Result (List Frame) FrameFault) (result : Result Found Memory)
    → FoundOf old.other p.stamp fed result → Feeds old.left p.bytes fed new.left → LooksSo old new p
    → IfOk result (λ found. IsLook old found new)
unfolding takes-piece
IsLook-by_found old new p (Err faults.Memory) result f feeds h = IfOk-from_err result _ f
IsLook-by_found old new p (Err faults.TooLong) result f feeds h =
    at_ok old new founds.Refused result f record {
      answer = Err faults.TooLong;
      refused = tt;
      takes = takes-piece old new p (Err faults.TooLong) h feeds;
    }
IsLook-by_found old new p (Err faults.NotAFrame) result f feeds h =
    at_ok old new founds.Refused result f record {
      answer = Err faults.NotAFrame;
      refused = tt;
      takes = takes-piece old new p (Err faults.NotAFrame) h feeds;
    }
IsLook-by_found old new p (Ok []) result f feeds h =
    at_ok old new founds.Part result f (takes-piece old new p (Ok []) h feeds)
IsLook-by_found old new p (Ok (frame ∷ [])) result f feeds h =
    at_ok old new (founds.Whole old.other p.stamp frame) result f record {
      other = refl;
      takes = takes-piece old new p (Ok (frame ∷ [])) h feeds;
      stamped = refl;
    }
IsLook-by_found old new p (Ok (x ∷ y ∷ frames)) result f feeds h =
    at_ok old new founds.Refused result f record {
      answer = Ok (x ∷ y ∷ frames);
      refused = tt;
      takes = takes-piece old new p (Ok (x ∷ y ∷ frames)) h feeds;
    }
