-- What the streams are after a node has sent frames: those to a receiver are at the end of its stream, in order, and
-- all other streams stay.
use Rattle.std.proofs.Common.{◌≡◌, ◌≢◌, ℕ, ◌≤◌, Bool, true, false, List, [], ◌∷◌, ◌++◌, refl, ap, sym, subst, ◌∙◌, inl, inr, arith, nat_eq, append_assoc, append-nil}
use Rattle.std.specs.List.{flat_map, AllByRecursion}
use Rattle.std.proofs.lemmas.Bool.{cases_eq, eq-eqb, ne_eqb}
use Rattle.rpc_frame.specs.declared.frame.Frame.{Frame}
use Rattle.world_model.specs.World.{Streams, stream_in, with_stream, with_sent, with_all_sent}
use Rattle.world_laws.proofs.Streams.{Square, square-with, stream-same, stream-row, stream-other}

-- the frames that are sent to a node, in order
abbrev pub frame_if : Bool → Frame → List Frame
frame_if true frame = frame ∷ []
frame_if false frame = []

-- of the frames sent, those to a node
abbrev pub sent_to : ℕ → List (ℕ × Frame) → List Frame
sent_to to sends = flat_map (λ s. frame_if (nat_eq s.0 to) s.1) sends

-- each receiver is a node
pub record IsToNode (n : ℕ) (s : ℕ × Frame) : Type 0 where
  pub low : 1 ≤ s.0
  pub high : s.0 ≤ n

-- so is each of them
abbrev pub AreToNodes : ℕ → List (ℕ × Frame) → Type 0
AreToNodes n sends = AllByRecursion (IsToNode n) sends

-- there is still a stream for each pair
pub square-sent : (n p : ℕ) (ss : Streams) (sends : List (ℕ × Frame)) → Square n ss → AreToNodes n sends
    → Square n (with_all_sent p ss sends)
square-sent n p ss [] s all = s
square-sent n p ss (send ∷ sends) s all =
    let first : IsToNode n send = all.0
    in square-sent n p (with_sent p ss send) sends
    (square-with n ss send.0 p (stream_in ss send.0 p ++ send.1 ∷ []) s first.low first.high) all.1

to-same : (to r : ℕ) (frame : Frame) → r ≡ to → frame_if (nat_eq r to) frame ≡ frame ∷ []
to-same to r frame e = ap (λ b. frame_if b frame) (eq-eqb r to e)

to-other : (to r : ℕ) (frame : Frame) → r ≢ to → frame_if (nat_eq r to) frame ≡ []
to-other to r frame d = ap (λ b. frame_if b frame) (ne_eqb r to d)

one-sent : (n p : ℕ) (ss : Streams) (send : ℕ × Frame) (to : ℕ) → Square n ss → IsToNode n send → 1 ≤ p → p ≤ n → 1 ≤ to
    → stream_in (with_sent p ss send) to p ≡ stream_in ss to p ++ frame_if (nat_eq send.0 to) send.1
one-sent n p ss send to s is low high low_to =
    let sent : List Frame = stream_in ss send.0 p ++ send.1 ∷ []
    in elim (cases_eq send.0 to) [
      | inl e ↦
          let there : stream_in (with_stream ss send.0 p sent) send.0 p ≡ sent =
          stream-same n ss send.0 p sent s is.low is.high low high
          in subst (λ t. stream_in (with_stream ss send.0 p sent) t p ≡ stream_in ss t p
          ++ frame_if (nat_eq send.0 t) send.1) e
          (there ∙ sym (ap (λ fs. stream_in ss send.0 p ++ fs) (to-same send.0 send.0 send.1 refl)))
      | inr d ↦
          stream-row n ss send.0 p to p sent (λ g. d (omega arith))
          ∙ sym (ap (λ fs. stream_in ss to p ++ fs) (to-other to send.0 send.1 d) ∙ append-nil (stream_in ss to p))
    ]

-- from the sender
pub all-sent : (n p : ℕ) (ss : Streams) (sends : List (ℕ × Frame)) (to : ℕ) → Square n ss → AreToNodes n sends → 1 ≤ p
    → p ≤ n
    → 1 ≤ to → stream_in (with_all_sent p ss sends) to p ≡ stream_in ss to p ++ sent_to to sends
all-sent n p ss [] to s all low high low_to = sym (append-nil (stream_in ss to p))
all-sent n p ss (send ∷ sends) to s all low high low_to =
    let first : IsToNode n send = all.0
    in let square : Square n (with_sent p ss send) = square-sent n p ss (send ∷ []) s (first, tt)
    in all-sent n p (with_sent p ss send) sends to square all.1 low high low_to
    ∙ ap (λ fs. fs ++ sent_to to sends) (one-sent n p ss send to s first low high low_to)
    ∙ append_assoc (stream_in ss to p) (frame_if (nat_eq send.0 to) send.1) (sent_to to sends)

-- from any other node
pub none-sent : (n p : ℕ) (ss : Streams) (sends : List (ℕ × Frame)) (to q : ℕ) → Square n ss → AreToNodes n sends
    → 1 ≤ p
    → 1 ≤ to → 1 ≤ q → q ≢ p → stream_in (with_all_sent p ss sends) to q ≡ stream_in ss to q
none-sent n p ss [] to q s all low low_to low_q other = refl
none-sent n p ss (send ∷ sends) to q s all low low_to low_q other =
    let first : IsToNode n send = all.0
    in let square : Square n (with_sent p ss send) = square-sent n p ss (send ∷ []) s (first, tt)
    in none-sent n p (with_sent p ss send) sends to q square all.1 low low_to low_q other
    ∙ stream-other n ss send.0 p to q (stream_in ss send.0 p ++ send.1 ∷ []) s first.low first.high low low_to low_q
    (λ e. other)

-- the same, with the node that is asked for in front: of the frames that a node took or sent, those from or to a node
abbrev pub frames_with : ℕ → List (ℕ × Frame) → List Frame
frames_with other pairs = flat_map (λ s. frame_if (nat_eq other s.0) s.1) pairs

eq-turned : (a b : ℕ) → nat_eq a b ≡ nat_eq b a
eq-turned a b =
    elim (cases_eq a b) [
      | inl e ↦ eq-eqb a b e ∙ sym (eq-eqb b a (sym e))
      | inr d ↦ ne_eqb a b d ∙ sym (ne_eqb b a (λ e. d (sym e)))
    ]

-- what is sent to a node, either way
pub sent-is-with : (to : ℕ) (sends : List (ℕ × Frame)) → sent_to to sends ≡ frames_with to sends
sent-is-with to [] = refl
sent-is-with to (s ∷ sends) =
    ap (λ b. frame_if b s.1 ++ sent_to to sends) (eq-turned s.0 to)
    ∙ ap (λ fs. frame_if (nat_eq to s.0) s.1 ++ fs) (sent-is-with to sends)
