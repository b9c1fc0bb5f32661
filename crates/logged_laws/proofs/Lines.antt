-- A line, and what a look at it leaves of what is known of it.
use Rattle.std.proofs.Common.{◌≡◌, ◌≢◌, ℕ, List, [], ◌∷◌, ◌++◌, Result, Ok, ap, sym, subst, ◌∙◌, append-nil}
use Rattle.std.proofs.lemmas.Bool.{eq-eqb, ne_eqb}
use Rattle.rpc_frame.specs.declared.frame.Frame.{Frame}
use Rattle.stream_pair.specs.declared.piece.Piece.{Piece}
use Rattle.frame_bytes.specs.declared.fault.FrameFault.{FrameFault}
use Rattle.log_laws.specs.Logs.{StampedFrame, stamped, Input, Takes, Log, sent_in, taken_if, takes_of, taken_in}
use Rattle.piece_laws.specs.Pieces.{pieces_of, Took, TookPart, TookFrame}
use Rattle.log_model.specs.Views.{Line}
use Rattle.log_model.specs.Looks.{after_nothing, TakesPiece, TakesFrame}
use Rattle.log_model.specs.Logged.{IsLineOf, IsWholeLine, IsBehind}

-- ---- a frame of an input

-- the one that it takes, where it is looked for from the sender
pub takes-own : (sender other : ℕ) (taken : StampedFrame) → sender ≡ other
    → takes_of other (Takes sender taken) ≡ taken ∷ []
takes-own sender other taken same = ap (λ b. taken_if b taken) (eq-eqb sender other same)

-- and none from another
pub takes-none : (sender other : ℕ) (taken : StampedFrame) → sender ≢ other
    → takes_of other (Takes sender taken) ≡ []
takes-none sender other taken apart = ap (λ b. taken_if b taken) (ne_eqb sender other apart)

-- ---- what is known of a line

-- The frames that the turns took and this input takes were taken, and nothing besides.
pub record IsLineWith (turns : Log) (input : Input) (line : Line) : Type 0 where
  pub sent : line.out.sent ≡ pieces_of (sent_in line.other turns)
  pub took : Took line.into.taken (taken_in line.other turns ++ takes_of line.other input) line.left

-- a whole line, of which the input takes nothing
pub with-nothing : (turns : Log) (input : Input) (line : Line) → takes_of line.other input ≡ []
    → IsWholeLine turns line → IsLineWith turns input line
with-nothing turns input line none whole =
    let same : taken_in line.other turns ++ takes_of line.other input ≡ taken_in line.other turns =
    ap (λ (fs : List StampedFrame). taken_in line.other turns ++ fs) none ∙ append-nil (taken_in line.other turns)
    in record {
      sent = whole.sent;
      took = subst (λ (fs : List StampedFrame). Took line.into.taken fs line.left) (sym same) whole.took;
    }

-- nothing needs to be known besides of a whole line,
pub whole-line-of : (turns : Log) (line : Line) → IsWholeLine turns line → IsLineOf turns line
whole-line-of turns line whole =
    record {
      sent = whole.sent;
      earlier = line.into.taken;
      more = [];
      left = line.left;
      taken = sym (append-nil line.into.taken);
      took = whole.took;
    }

-- nor of one that is a piece behind
pub behind-line-of : (turns : Log) (line : Line) (answer : Result (List Frame) FrameFault)
    → IsBehind turns line answer → IsLineOf turns line
behind-line-of turns line answer behind =
    record {
      sent = behind.sent;
      earlier = behind.earlier;
      more = behind.piece ∷ [];
      left = behind.left;
      taken = behind.taken;
      took = behind.took;
    }

-- ---- a look at a whole line

-- that finds nothing,
pub whole-after-nothing : (turns : Log) (old new : Line) → new ≡ after_nothing old → IsWholeLine turns old
    → IsWholeLine turns new
whole-after-nothing turns old new is whole =
    subst (IsWholeLine turns) (sym is) (record { sent = whole.sent; took = whole.took })

-- a piece that completes no frame,
pub whole-after-part : (turns : Log) (old new : Line) → TakesPiece old (Ok []) new → IsWholeLine turns old
    → IsWholeLine turns new
whole-after-part turns old new takes whole =
    subst (IsWholeLine turns) (sym takes.is)
    (record { sent = whole.sent; took = TookPart whole.took takes.piece new.left takes.feeds })

-- a piece that completes a frame,
pub with-frame : (turns : Log) (old new : Line) (sender stamp : ℕ) (frame : Frame)
    → TakesFrame old sender stamp frame new → IsWholeLine turns old
    → IsLineWith turns (Takes sender (stamped stamp frame)) new
with-frame turns old new sender stamp frame takes whole =
    let input : Input = Takes sender (stamped stamp frame)
    in let piece : Piece = takes.takes.piece
    in let taken : takes_of old.other input ≡ stamped piece.stamp frame ∷ [] =
    takes-own sender old.other (stamped stamp frame) takes.other
    ∙ ap (λ s. stamped s frame ∷ []) (sym takes.stamped)
    in subst (IsLineWith turns input) (sym takes.takes.is)
    (record {
      sent = whole.sent;
      took = subst
          (λ (fs : List StampedFrame).
          Took (old.into.taken ++ piece ∷ []) (taken_in old.other turns ++ fs) new.left) (sym taken)
          (TookFrame whole.took piece frame new.left takes.takes.feeds);
    })

-- or any piece
abbrev pub behind-piece : (turns : Log) (old new : Line) (answer : Result (List Frame) FrameFault)
    → TakesPiece old answer new → IsWholeLine turns old → IsBehind turns new answer
behind-piece turns old new answer takes whole =
    record {
      sent =
          ap (λ (l : Line). l.out.sent) takes.is
          ∙ whole.sent
          ∙ sym (ap (λ (l : Line). pieces_of (sent_in l.other turns)) takes.is);
      earlier = old.into.taken;
      piece = takes.piece;
      left = old.left;
      new = new.left;
      taken = ap (λ (l : Line). l.into.taken) takes.is;
      took = subst (λ (other : ℕ). Took old.into.taken (taken_in other turns) old.left)
          (sym (ap (λ (l : Line). l.other) takes.is)) whole.took;
      feeds = takes.feeds;
    }
