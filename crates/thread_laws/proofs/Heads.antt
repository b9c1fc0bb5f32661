-- What a node would have taken in besides is the first frame that is on its way to it.
use Rattle.std.proofs.Common.{◌≡◌, ◌≢◌, ℕ, List, [], ◌∷◌, ◌++◌, Result, Ok, Err, ap, sym, subst, ◌∙◌, append_assoc}
use Rattle.std.specs.List.{AllByRecursion, Contains}
use Rattle.std.proofs.lemmas.List.{append_cancel_left}
use Rattle.pico_base.specs.declared.script.Script.{Script}
use Rattle.rpc_frame.specs.declared.frame.Frame.{Frame}
use Rattle.world_model.specs.World.{IsNode}
use Rattle.stream_pair.specs.declared.piece.Piece.{Piece}
use Rattle.frame_bytes.specs.declared.fault.FrameFault.{FrameFault}
use Rattle.frame_bytes.specs.declared.fault.FrameFault.TheVariants as frame_faults
use Rattle.frame_bytes.specs.Streams.{Left}
use Rattle.log_laws.specs.Logs.{StampedFrame, stamped, sent_in, taken_in, AreConsistent}
use Rattle.log_laws.specs.Drawn.{IsStampOfTurn}
use Rattle.log_laws.proofs.Drawn.{known-sent}
use Rattle.log_laws.proofs.Lists.{right-all}
use Rattle.piece_laws.specs.Laws.{AreFront, IsRightAnswer, TheNextIsSent}
use Rattle.log_model.specs.Views.{Line, LoggedNode}
use Rattle.log_model.specs.Looks.{IsRefused}
use Rattle.log_model.specs.Logged.{IsBehind, WouldTake, IsRefusedLine}
use Rattle.thread_laws.specs.Joined.{IsSettled}
use Rattle.thread_laws.proofs.Lists.{IsOther}
use Rattle.thread_laws.proofs.Nodes.{HaveMade}
use Rattle.thread_laws.proofs.Streams.{line-is-other, IsTakenFrom, taken-from}

-- the frame is a node's, and the first that is on the way from it
pub record IsFirst (script : Script) (way : ℕ → ℕ → List StampedFrame) (p sender : ℕ) (taken : StampedFrame) : Type 0
  where
    pub node : IsNode script sender
    pub behind : List StampedFrame
    pub first : way p sender ≡ taken ∷ behind

-- no joiner refuses what it is fed
no-answer-refused : (sent got : List StampedFrame) (piece : Piece) (rest : List Piece)
    (answer : Result (List Frame) FrameFault) (new : Left) → IsRightAnswer sent got piece rest answer new
    → IsRefused answer → ⊥
no-answer-refused sent got piece rest (Ok []) new right refused = refused
no-answer-refused sent got piece rest (Ok (f ∷ [])) new right refused = refused
no-answer-refused sent got piece rest (Ok (f ∷ g ∷ fs)) new right refused = right
no-answer-refused sent got piece rest (Err frame_faults.Memory) new right refused = refused
no-answer-refused sent got piece rest (Err frame_faults.TooLong) new right refused = right
no-answer-refused sent got piece rest (Err frame_faults.NotAFrame) new right refused = right

module _ (script : Script) (nodes : ℕ → LoggedNode) (have : HaveMade script nodes)
    (settled : (p q : ℕ) → IsNode script p → IsNode script q → p ≢ q → IsSettled (nodes p) (nodes q))
    (next : TheNextIsSent) where
  -- a piece that was taken besides
  record IsAnswered (p : ℕ) (line : Line) (answer : Result (List Frame) FrameFault)
      (behind : IsBehind (have.logs p) line answer) : Type 0 where
    rest : List Piece
    right : IsRightAnswer (sent_in p (have.logs line.other)) (taken_in line.other (have.logs p)) behind.piece rest
        answer behind.new

  is-answered : (p : ℕ) → IsNode script p → (line : Line) → Contains (nodes p).lines line
      → (answer : Result (List Frame) FrameFault) (behind : IsBehind (have.logs p) line answer)
      → IsAnswered p line answer behind
  is-answered p is line there answer behind =
      let from : IsTakenFrom (sent_in p (have.logs line.other)) line =
      taken-from script nodes have settled p is line there
      in record {
        rest = from.rest;
        right =
            next (sent_in p (have.logs line.other)) (taken_in line.other (have.logs p)) behind.earlier from.rest
            behind.piece behind.left behind.new answer from.frames
            (from.sent_is ∙ ap (λ (ps : List Piece). ps ++ from.rest) behind.taken) behind.took behind.feeds;
      }

  pub no-line-refused : (p : ℕ) → IsNode script p → IsRefusedLine (have.logs p) (nodes p).lines → ⊥
  no-line-refused p is h =
      let answered : IsAnswered p h.line h.answer h.behind = is-answered p is h.line h.there h.answer h.behind
      in no-answer-refused (sent_in p (have.logs h.line.other)) (taken_in h.line.other (have.logs p)) h.behind.piece
      answered.rest h.answer h.behind.new answered.right h.refused

  module _ (untaken : ℕ → ℕ → List StampedFrame) (consistent : AreConsistent script have.logs have.last untaken) where
    -- the frame that it would take is the first one
    pub is-first : (p : ℕ) → IsNode script p → (sender : ℕ) (taken : StampedFrame)
        → WouldTake (have.logs p) (nodes p).lines sender taken → IsFirst script untaken p sender taken
    is-first p is sender taken h =
        let q : ℕ = h.line.other
        in let other : IsOther script p q =
        line-is-other script p (nodes p) (have.logs p) (have.last p) (have.made p is) h.line h.there
        in let answered : IsAnswered p h.line (Ok (taken.frame ∷ [])) h.behind =
        is-answered p is h.line h.there (Ok (taken.frame ∷ [])) h.behind
        in let front : AreFront (sent_in p (have.logs q))
        (taken_in q (have.logs p) ++ stamped h.behind.piece.stamp taken.frame ∷ []) answered.rest h.behind.new =
        answered.right
        in let both : taken_in q (have.logs p) ++ untaken p q
        ≡ taken_in q (have.logs p) ++ (stamped h.behind.piece.stamp taken.frame ∷ front.untaken) =
        consistent.streams p q is other.node
        ∙ front.whole
        ∙ append_assoc (taken_in q (have.logs p)) (stamped h.behind.piece.stamp taken.frame ∷ []) front.untaken
        in let same : stamped h.behind.piece.stamp taken.frame ≡ taken =
        ap (λ (n : ℕ). stamped n taken.frame) h.stamped
        in let first : untaken p q ≡ taken ∷ front.untaken =
        append_cancel_left (taken_in q (have.logs p)) (untaken p q)
        (stamped h.behind.piece.stamp taken.frame ∷ front.untaken) both
        ∙ ap (λ (f : StampedFrame). f ∷ front.untaken) same
        in subst (λ n. IsFirst script untaken p n taken) h.other
        (record { node = other.node; behind = front.untaken; first = first })

    -- so its stamp is a turn's
    pub frame-known : (p : ℕ) → IsNode script p → (sender : ℕ) (taken : StampedFrame)
        → IsFirst script untaken p sender taken → IsStampOfTurn script have.logs taken.stamp
    frame-known p is sender taken h =
        let all : AllByRecursion (λ (f : StampedFrame). IsStampOfTurn script have.logs f.stamp)
        (taken_in sender (have.logs p) ++ untaken p sender) =
        subst (AllByRecursion (λ (f : StampedFrame). IsStampOfTurn script have.logs f.stamp))
        (sym (consistent.streams p sender is h.node)) (known-sent script have.logs p sender h.node)
        in let first : AllByRecursion (λ (f : StampedFrame). IsStampOfTurn script have.logs f.stamp)
        (taken ∷ h.behind) =
        subst (AllByRecursion (λ (f : StampedFrame). IsStampOfTurn script have.logs f.stamp)) h.first
        (right-all (λ (f : StampedFrame). IsStampOfTurn script have.logs f.stamp) (taken_in sender (have.logs p))
        (untaken p sender) all)
        in first.0
