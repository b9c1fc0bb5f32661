-- How a joiner reads a front of a frame's bytes, and all of them.
use Rattle.std.proofs.Common.{◌≡◌, ℕ, ◌+◌, ◌≤◌, List, [], ◌∷◌, ◌++◌, length, take, drop, Result, Ok, Err, inl, inr, refl, sym, ap, ◌∙◌, arith}
use Rattle.std.specs.List.{flat_map}
use Rattle.std.proofs.Math.Seq.{take-append_seam}
use Rattle.std.proofs.lemmas.Bool.{cases_lt}
use Rattle.std.proofs.lemmas.List.{length-append, length-drop, append-nil, take-append-drop, take-append-le}
use Rattle.std.proofs.lemmas.List.Concat.{flat_map-cons}
use Rattle.rpc_frame.specs.declared.frame.Frame.{Frame}
use Rattle.frame_bytes.specs.declared.fault.FrameFault.{FrameFault}
use Rattle.frame_bytes.specs.declared.fault.FrameFault.TheVariants.{Memory, TooLong, NotAFrame}
use Rattle.frame_bytes.specs.Fields.{word}
use Rattle.frame_bytes.specs.Frames.{frame_body, frame_bytes}
use Rattle.frame_bytes.specs.Ranges.{IsFrame}
use Rattle.frame_bytes.specs.Streams.{IsPartial, Left, Rest, Broken, Splits, Feeds}
use Rattle.frame_bytes.proofs.FrameLaws.{frame-short}
use Rattle.frame_bytes.proofs.StreamLaws.{one-reading}

-- the bytes of a frame are that frame, and nothing is left
pub a_frame_is_read : (f : Frame) → IsFrame f → Splits (frame_bytes f) (f ∷ []) (Rest [])
a_frame_is_read f h =
    record {
      rest = [];
      whole = sym (append-nil (flat_map frame_bytes (f ∷ [])) ∙ flat_map-cons frame_bytes f []
          ∙ append-nil (frame_bytes f));
      each = (h, tt);
      end = (refl, inl (omega arith));
    }

-- at least one byte too few for a frame, but a length: the length is the frame's
cut_begins_with_length : (front behind body : List ℕ) (n : ℕ) → word n ++ body ≡ front ++ behind → 4 ≤ length front
    → front ≡ word n ++ drop 4 front
cut_begins_with_length front behind body n e long =
    let first : take 4 front ≡ word n =
    sym (take-append-le 4 front behind long) ∙ ap (λ (l : List ℕ). take 4 l) (sym e) ∙ take-append_seam (word n) body
    in sym (take-append-drop 4 front) ∙ ap (λ (l : List ℕ). l ++ drop 4 front) first

-- a front of a frame's bytes, without its last one, may still become a frame
front_is_partial : (f : Frame) (front behind : List ℕ) → IsFrame f → frame_bytes f ≡ front ++ behind
    → 1 ≤ length behind
    → IsPartial front
front_is_partial f front behind h e more =
    elim (cases_lt (length front) 4) [
      | inl few ↦ inl few
      | inr long ↦
          let total : length (word (length (frame_body f))) + length (frame_body f) ≡ length front + length behind =
          sym (length-append (word (length (frame_body f))) (frame_body f)) ∙ ap length e ∙ length-append front behind
          in let size = length-drop 4 front
          in inr (
          record {
            len = length (frame_body f);
            more = drop 4 front;
            spelled = cut_begins_with_length front behind (frame_body f) (length (frame_body f)) e long;
            short = frame-short f h;
            cut = omega (arith, total, size, long, more);
          }
          )
    ]

-- and is no frame yet
pub a_front_is_no_frame : (f : Frame) (front behind : List ℕ) → IsFrame f → frame_bytes f ≡ front ++ behind
    → 1 ≤ length behind
    → Splits front [] (Rest front)
a_front_is_no_frame f front behind h e more =
    record { rest = front; whole = refl; each = tt; end = (refl, front_is_partial f front behind h e more) }

-- the answer is this list of frames, and this is left; or memory ran out
abbrev pub IsAnswerOf : List Frame → List ℕ → Result (List Frame) FrameFault → Left → Type 0
IsAnswerOf frames rest (Ok given) new = (given ≡ frames) × (new ≡ Rest rest)
IsAnswerOf frames rest (Err Memory) new = Unit {0}
IsAnswerOf frames rest (Err fault) new = ⊥

no_fault : (rest : List ℕ) (fault : FrameFault) → Rest rest ≡ Broken fault → ⊥
no_fault rest fault e = absurd cc

-- what a joiner answers is the one reading of its bytes
pub the_answer_is_the_reading : (held piece rest : List ℕ) (frames : List Frame)
    (answer : Result (List Frame) FrameFault) (new : Left) → Splits (held ++ piece) frames (Rest rest)
    → Feeds (Rest held) piece answer new
    → IsAnswerOf frames rest answer new
the_answer_is_the_reading held piece rest frames (Ok given) new s fed =
    let same = one-reading (held ++ piece) given frames new (Rest rest) fed.0 s in (same.0, same.1)
the_answer_is_the_reading held piece rest frames (Err Memory) new s fed = tt
the_answer_is_the_reading held piece rest frames (Err TooLong) new s fed =
    no_fault rest TooLong (one-reading (held ++ piece) frames [] (Rest rest) (Broken TooLong) s fed.0).1
the_answer_is_the_reading held piece rest frames (Err NotAFrame) new s fed =
    no_fault rest NotAFrame (one-reading (held ++ piece) frames [] (Rest rest) (Broken NotAFrame) s fed.0).1
