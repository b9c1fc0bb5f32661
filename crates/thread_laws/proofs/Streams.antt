-- What one node sent to another is what that one took from it, and what it didn't take.
use Rattle.std.proofs.Common.{◌≡◌, ◌≢◌, ℕ, if◌then◌else◌, List, [], ◌∷◌, ◌++◌, map, refl, ap, sym, subst, ◌∙◌, inl, inr, append_assoc, arith}
use Rattle.std.specs.List.{AllByRecursion, Contains}
use Rattle.std.proofs.lemmas.Bool.{cases_eq, eq-eqb, ne_eqb}
use Rattle.pico_base.specs.declared.script.Script.{Script}
use Rattle.rpc_frame.specs.declared.frame.Frame.{Frame}
use Rattle.stream_pair.specs.declared.piece.Piece.{Piece}
use Rattle.stamp_merge.proofs.Filters.{all-map}
use Rattle.frame_bytes.specs.Ranges.{IsFrame}
use Rattle.world_model.specs.Node.{Node}
use Rattle.world_model.specs.World.{IsNode}
use Rattle.log_laws.specs.Logs.{StampedFrame, frame_if, sent_to, stamped, Input, Runs, Takes, Log, sends_of, sent_in, taken_if, takes_of, taken_in, AreConsistent}
use Rattle.log_laws.proofs.Lists.{append-all}
use Rattle.piece_laws.specs.Pieces.{pieces_of, AreFrames}
use Rattle.piece_laws.specs.Laws.{AreFront, TakenAreSent}
use Rattle.log_model.specs.Views.{Line, LoggedNode}
use Rattle.log_model.specs.Logged.{others_of, others_in, IsLineOf, IsFromOther, GoesToOthers, SendsFrames}
use Rattle.thread_laws.specs.Joined.{sent_on, taken_on, IsSettled}
use Rattle.thread_laws.proofs.Lists.{first-or-later, at-one, in-map, IsMade, of-map, AreApart, IsOther, others-apart, is-other, in-others}
use Rattle.thread_laws.proofs.Nodes.{HasMade, HaveMade, node-or-none}

-- ---- a line by its other node

-- what was sent and taken with this line's other node is what the line says
pub record IsOnly (lines : List Line) (line : Line) : Type 0 where
  pub sent : sent_on lines line.other ≡ line.out.sent
  pub taken : taken_on lines line.other ≡ line.into.taken

only-first : (first line : Line) (lines : List Line) → first ≡ line → IsOnly (first ∷ lines) line
only-first first line lines e =
    let same = eq-eqb first.other line.other (ap (λ (l : Line). l.other) e)
    in record {
      sent =
          ap (λ b. if b then first.out.sent else sent_on lines line.other) same
          ∙ ap (λ (l : Line). l.out.sent) e;
      taken =
          ap (λ b. if b then first.into.taken else taken_on lines line.other) same
          ∙ ap (λ (l : Line). l.into.taken) e;
    }

only-later : (first line : Line) (lines : List Line) → first.other ≢ line.other → IsOnly lines line
    → IsOnly (first ∷ lines) line
only-later first line lines d rest =
    let other = ne_eqb first.other line.other d
    in record {
      sent = ap (λ b. if b then first.out.sent else sent_on lines line.other) other ∙ rest.sent;
      taken = ap (λ b. if b then first.into.taken else taken_on lines line.other) other ∙ rest.taken;
    }

is-only : (lines : List Line) (line : Line) → AreApart (others_in lines) → Contains lines line → IsOnly lines line
is-only [] line apart there = absurd (omega (arith, there.1))
is-only (first ∷ lines) line apart there =
    elim (first-or-later first lines line there) [
      | inl e ↦ only-first first line lines e
      | inr later ↦
          only-later first line lines
          (at-one (λ m. first.other ≢ m) (others_in lines) line.other apart.0
          (in-map (λ (l : Line). l.other) lines line later))
          (is-only lines line apart.1 later)
    ]

module _ (script : Script) (p : ℕ) (l : LoggedNode) (turns : Log) (last : Node) (made : HasMade script p l turns last)
  where
    pub line-is-only : (line : Line) → Contains l.lines line → IsOnly l.lines line
    line-is-only line there =
        is-only l.lines line (subst AreApart (sym made.other_nodes) (others-apart script p)) there

    -- the other end of a line is another node of the script
    pub line-is-other : (line : Line) → Contains l.lines line → IsOther script p line.other
    line-is-other line there =
        is-other script p line.other
        (subst (λ ns. Contains ns line.other) made.other_nodes (in-map (λ (m : Line). m.other) l.lines line there))

    -- and each has a line
    pub line-with : (q : ℕ) → IsNode script q → q ≢ p → IsMade (λ (line : Line). line.other) l.lines q
    line-with q is d =
        of-map (λ (line : Line). line.other) l.lines q
        (subst (λ ns. Contains ns q) (sym made.other_nodes) (in-others script p q is d))

    -- what was sent to it are the turns' frames in pieces
    pub sent-is : (q : ℕ) → IsNode script q → q ≢ p → sent_on l.lines q ≡ pieces_of (sent_in q turns)
    sent-is q is d =
        let with = line-with q is d
        in let line : Line = with.from
        in let of_line : IsLineOf turns line = at-one (IsLineOf turns) l.lines line made.lines with.there
        in subst (λ n. sent_on l.lines n ≡ pieces_of (sent_in n turns)) with.is
        ((line-is-only line with.there).sent ∙ of_line.sent)

-- ---- each sent frame has a spelling

frames-to : (to stamp : ℕ) (sends : List (ℕ × Frame)) → AllByRecursion (λ (s : ℕ × Frame). IsFrame s.1) sends
    → AreFrames (map (stamped stamp) (sent_to to sends))
frames-to to stamp [] all = tt
frames-to to stamp (s ∷ sends) all =
    elim (cases_eq s.0 to) [
      | inl e ↦
          subst (λ b. AreFrames (map (stamped stamp) (frame_if b s.1 ++ sent_to to sends))) (sym (eq-eqb s.0 to e))
          (all.0, frames-to to stamp sends all.1)
      | inr d ↦
          subst (λ b. AreFrames (map (stamped stamp) (frame_if b s.1 ++ sent_to to sends))) (sym (ne_eqb s.0 to d))
          (frames-to to stamp sends all.1)
    ]

pub frames-sent : (to : ℕ) (turns : Log) → AllByRecursion SendsFrames turns → AreFrames (sent_in to turns)
frames-sent to [] all = tt
frames-sent to (turn ∷ turns) all =
    append-all (λ (s : StampedFrame). IsFrame s.frame) (sends_of to turn) (sent_in to turns)
    (frames-to to turn.stamp turn.step.sends all.0) (frames-sent to turns all.1)

-- ---- nothing goes to the node itself

sends-to-none : (to : ℕ) (sends : List (ℕ × Frame)) → AllByRecursion (λ (s : ℕ × Frame). s.0 ≢ to) sends
    → sent_to to sends ≡ []
sends-to-none to [] all = refl
sends-to-none to (s ∷ sends) all =
    ap (λ b. frame_if b s.1 ++ sent_to to sends) (ne_eqb s.0 to all.0) ∙ sends-to-none to sends all.1

module _ (script : Script) (p : ℕ) (lines : List Line) (are : others_in lines ≡ others_of script p) where
  other-there : (q : ℕ) → Contains (others_in lines) q → q ≢ p
  other-there q there = (is-other script p q (subst (λ ns. Contains ns q) are there)).other

  takes-no-own : (input : Input) → IsFromOther lines input → takes_of p input ≡ []
  takes-no-own Runs from = refl
  takes-no-own (Takes sender taken) from = ap (λ b. taken_if b taken) (ne_eqb sender p (other-there sender from))

  pub sent-to-none : (turns : Log) → AllByRecursion (GoesToOthers lines) turns → sent_in p turns ≡ []
  sent-to-none [] all = refl
  sent-to-none (turn ∷ turns) all =
      ap (λ (fs : List Frame). map (stamped turn.stamp) fs ++ sent_in p turns)
      (sends-to-none p turn.step.sends
      (all-map (λ (s : ℕ × Frame) there. other-there s.0 there) turn.step.sends all.0.sent))
      ∙ sent-to-none turns all.1

  pub taken-from-none : (turns : Log) → AllByRecursion (GoesToOthers lines) turns → taken_in p turns ≡ []
  taken-from-none [] all = refl
  taken-from-none (turn ∷ turns) all =
      ap (λ (fs : List StampedFrame). fs ++ taken_in p turns) (takes-no-own turn.input all.0.taken)
      ∙ taken-from-none turns all.1

-- ---- both ends of a stream

-- what a node's line took are the first pieces of what the node at its other end sent
pub record IsTakenFrom (sent : List StampedFrame) (line : Line) : Type 0 where
  pub rest : List Piece
  pub sent_is : pieces_of sent ≡ line.into.taken ++ rest
  pub frames : AreFrames sent

-- what was sent and not taken
record IsOnWay (taken sent : List StampedFrame) : Type 0 where
  untaken : List StampedFrame
  balance : taken ++ untaken ≡ sent

-- the nodes' logs agree about what went between them
pub record HaveConsistentLogs (script : Script) (nodes : ℕ → LoggedNode) (have : HaveMade script nodes) : Type 0 where
  pub untaken : ℕ → ℕ → List StampedFrame
  pub consistent : AreConsistent script have.logs have.last untaken

module _ (script : Script) (nodes : ℕ → LoggedNode) (have : HaveMade script nodes)
    (settled : (p q : ℕ) → IsNode script p → IsNode script q → p ≢ q → IsSettled (nodes p) (nodes q)) where
  pub taken-from : (p : ℕ) → IsNode script p → (line : Line) → Contains (nodes p).lines line
      → IsTakenFrom (sent_in p (have.logs line.other)) line
  taken-from p is line there =
      let q : ℕ = line.other
      in let other : IsOther script p q =
      line-is-other script p (nodes p) (have.logs p) (have.last p) (have.made p is) line there
      in let back : p ≢ q = λ e. other.other (sym e)
      in let both = settled q p other.node is other.other
      in let sent : sent_on (nodes q).lines p ≡ pieces_of (sent_in p (have.logs q)) =
      sent-is script q (nodes q) (have.logs q) (have.last q) (have.made q other.node) p is back
      in let only : IsOnly (nodes p).lines line =
      line-is-only script p (nodes p) (have.logs p) (have.last p) (have.made p is) line there
      in record {
        rest = both.0;
        sent_is =
            sym sent
            ∙ ap (sent_on (nodes q).lines) (sym (have.made p is).number)
            ∙ both.1
            ∙ ap (λ n. taken_on (nodes p).lines n ++ both.0) (have.made q other.node).number
            ∙ ap (λ (ps : List Piece). ps ++ both.0) only.taken;
        frames = frames-sent p (have.logs q) (have.made q other.node).frames;
      }

  module _ (front : TakenAreSent) where
    on-line : (p : ℕ) → IsNode script p → (line : Line) → Contains (nodes p).lines line
        → IsOnWay (taken_in line.other (have.logs p)) (sent_in p (have.logs line.other))
    on-line p is line there =
        let of_line : IsLineOf (have.logs p) line =
        at-one (IsLineOf (have.logs p)) (nodes p).lines line (have.made p is).lines there
        in let from : IsTakenFrom (sent_in p (have.logs line.other)) line = taken-from p is line there
        in let pieces : pieces_of (sent_in p (have.logs line.other)) ≡ of_line.earlier ++ (of_line.more ++ from.rest) =
        from.sent_is
        ∙ ap (λ (ps : List Piece). ps ++ from.rest) of_line.taken
        ∙ append_assoc of_line.earlier of_line.more from.rest
        in let found : AreFront (sent_in p (have.logs line.other)) (taken_in line.other (have.logs p))
        (of_line.more ++ from.rest) of_line.left =
        front (sent_in p (have.logs line.other)) (taken_in line.other (have.logs p)) of_line.earlier
        (of_line.more ++ from.rest) of_line.left from.frames pieces of_line.took
        in record { untaken = found.untaken; balance = sym found.whole }

    between-others : (p q : ℕ) → IsNode script p → IsNode script q → q ≢ p
        → IsOnWay (taken_in q (have.logs p)) (sent_in p (have.logs q))
    between-others p q is_p is_q d =
        let with = line-with script p (nodes p) (have.logs p) (have.last p) (have.made p is_p) q is_q d
        in subst (λ n. IsOnWay (taken_in n (have.logs p)) (sent_in p (have.logs n))) with.is
        (on-line p is_p with.from with.there)

    to-itself : (p : ℕ) → IsNode script p → IsOnWay (taken_in p (have.logs p)) (sent_in p (have.logs p))
    to-itself p is =
        let made = have.made p is
        in record {
          untaken = [];
          balance =
              ap (λ (fs : List StampedFrame). fs ++ [])
              (taken-from-none script p (nodes p).lines made.other_nodes (have.logs p) made.others)
              ∙ sym (sent-to-none script p (nodes p).lines made.other_nodes (have.logs p) made.others);
        }

    between-nodes : (p q : ℕ) → IsNode script p → IsNode script q
        → IsOnWay (taken_in q (have.logs p)) (sent_in p (have.logs q))
    between-nodes p q is_p is_q =
        elim (cases_eq q p) [
          | inl e ↦
              subst (λ n. IsOnWay (taken_in n (have.logs p)) (sent_in p (have.logs n))) (sym e) (to-itself p is_p)
          | inr d ↦ between-others p q is_p is_q d
        ]

    -- what is on the way from q to p, if both are nodes
    record IsBetween (p q : ℕ) : Type 0 where
      untaken : List StampedFrame
      balance : IsNode script p → IsNode script q → taken_in q (have.logs p) ++ untaken ≡ sent_in p (have.logs q)

    is-between : (p q : ℕ) → IsBetween p q
    is-between p q =
        elim (node-or-none script p) [
          | inr none ↦ record { untaken = []; balance = λ is_p is_q. absurd (none is_p) }
          | inl is_p ↦ elim (node-or-none script q) [
            | inr none ↦ record { untaken = []; balance = λ is_p is_q. absurd (none is_q) }
            | inl is_q ↦
                let way = between-nodes p q is_p is_q
                in record { untaken = way.untaken; balance = λ again_p again_q. way.balance }
          ]
        ]

    -- So the logs are consistent.
    pub are-consistent : HaveConsistentLogs script nodes have
    are-consistent =
        record {
          untaken = λ p q. (is-between p q).untaken;
          consistent = record {
            rise = λ p is. (have.made p is).rise;
            leads = λ p is. (have.made p is).leads;
            streams = λ p q is_p is_q. (is-between p q).balance is_p is_q;
            between = λ p is. (have.made p is).between;
          };
        }
