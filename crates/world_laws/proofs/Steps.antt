-- A node's turn as a step of the world, and what it changes there.
use Rattle.std.proofs.Common.{◌≡◌, ◌≢◌, ◌⊎◌, ℕ, zero, suc, ◌-◌, ◌<◌, ◌≤◌, Bool, true, false, ◌&&◌, if◌then◌else◌, List, [], ◌∷◌, ◌++◌, length, set, slice_get, get_or, nat_eq, Option, Some, None, option_map, unwrap_or, refl, ap, sym, subst, ◌∙◌, inl, inr, arith, append-nil}
use Rattle.std.proofs.lemmas.Bool.{cases_eq, eq-eqb, ne_eqb, lt-ltb, le-ltb}
use Rattle.std.proofs.lemmas.List.{length-set}
use Rattle.std.proofs.lemmas.Option.{slice_get-get_or}
use Rattle.pico_base.specs.declared.script.Script.{Script}
use Rattle.pico_base.specs.declared.script.Event.{Event}
use Rattle.pico_base.specs.declared.script.Event.TheVariants as events
use Rattle.rpc_frame.specs.declared.frame.Frame.{Frame}
use Rattle.world_model.specs.Node.{Node, unborn_node}
use Rattle.world_model.specs.Step.{Step}
use Rattle.world_model.specs.Turn.{take_by_kind, take_by_rules, take_frame}
use Rattle.world_model.specs.Starting.{run}
use Rattle.world_model.specs.Strikes.{strike, strike_call}
use Rattle.node_model.specs.Caller.{to_cancel}
use Rattle.world_model.specs.World.{World, node_at, stream, stream_in, with_stream, with_all_sent, node_count, world_after, after_turn, takes_with, runs_at, step, is_number}
use Rattle.world_laws.specs.ByRules.{step_by_rules}
use Rattle.world_laws.specs.Places.{Beside}
use Rattle.world_laws.specs.Sights.{node_of, frames_to}
use Rattle.world_laws.specs.Callers.{HasTries}
use Rattle.world_laws.specs.Invariant.{IsShaped, Holds}
use Rattle.world_laws.proofs.Streams.{Square, square-with, stream-same, stream-other}
use Rattle.world_laws.proofs.Sends.{AreToNodes, IsToNode, frame_if, frames_with, sent-is-with, square-sent, all-sent, none-sent}
use Rattle.world_laws.proofs.Changes.{Changes, frames_if, taken, sent}

-- an event has a step by the rules, and the invariant holds after it, with this beside the world
pub record KeepsAs (script : Script) (w : World) (e : Event) (b : Beside) : Type 0 where
  pub next : World
  pub is_step : step_by_rules w e ≡ Some next
  pub holds : Holds script next [] b

-- the frame at the head of the stream to node p from node q
pub record Heads (script : Script) (w : World) (p q : ℕ) (frame : Frame) (rest : List Frame) : Type 0 where
  pub low : 1 ≤ p
  pub high : p ≤ node_count script
  pub low_from : 1 ≤ q
  pub high_from : q ≤ node_count script
  pub head : stream w p q ≡ frame ∷ rest

-- the world without that frame
abbrev pub world_without : World → ℕ → ℕ → List Frame → World
world_without w p q rest = record w { streams = with_stream w.streams p q rest }

-- ---- a step of the world

get-set-same : {X : Type 0} (xs : List X) (i : ℕ) (x : X) → i < length xs → slice_get (set xs i x) i ≡ Some x
get-set-same [] i x h = absurd (omega arith)
get-set-same (y ∷ xs) zero x h = refl
get-set-same (y ∷ xs) (suc i) x h = get-set-same xs i x (omega arith)

get-set-other : {X : Type 0} (xs : List X) (i j : ℕ) (x : X) → j ≢ i → slice_get (set xs i x) j ≡ slice_get xs j
get-set-other [] i j x h = refl
get-set-other (y ∷ xs) zero zero x h = absurd (h refl)
get-set-other (y ∷ xs) zero (suc j) x h = refl
get-set-other (y ∷ xs) (suc i) zero x h = refl
get-set-other (y ∷ xs) (suc i) (suc j) x h = get-set-other xs i j x (λ e. h (ap suc e))

-- the node of a number in range
pub node-there : (script : Script) (w : World) → IsShaped script w → (p : ℕ) → 1 ≤ p → p ≤ node_count script
    → node_at w p ≡ Some (node_of w p)
node-there script w s p low high =
    let there : node_at w p ≡ Some (get_or w.nodes (p - 1) (unborn_node p)) =
    slice_get-get_or w.nodes (p - 1) (unborn_node p) (subst (λ n. p - 1 < n) (sym s.nodes) (omega arith))
    in there
    ∙ ap Some
    (sym (ap (λ b. unwrap_or (if b then node_at w p else None) (unborn_node p)) (lt-ltb 0 p (omega arith))
    ∙ ap (λ o. unwrap_or o (unborn_node p)) there))

-- a node takes the frame at a head by any rule: the turn that this gives
pub turn-with : (rule : Script → Node → ℕ → Frame → Option Step) (script : Script) (w : World) (p q : ℕ)
    (frame : Frame) (rest : List Frame)
    → IsShaped script w → Heads script w p q frame rest
    → takes_with rule w p q (node_at w p) (stream w p q)
    ≡ after_turn (world_without w p q rest) p (rule script (node_of w p) q frame)
turn-with rule script w p q frame rest shape h =
    ap (λ x. takes_with rule w p q x (stream w p q)) (node-there script w shape p h.low h.high)
    ∙ ap (takes_with rule w p q (Some (node_of w p))) h.head
    ∙ ap (λ (x : Script). after_turn (world_without w p q rest) p (rule x (node_of w p) q frame)) shape.of_script

-- a node that takes a frame by a rule: the world's step by the rules, with the strike last
pub struck-steps : (script : Script) (w : World) (p q : ℕ) (frame : Frame) (rest : List Frame) (s : Step)
    → IsShaped script w → Heads script w p q frame rest → take_by_kind script (node_of w p) q frame ≡ Some s
    → step_by_rules w (events.Take p q) ≡ Some (world_after (world_without w p q rest) p (strike script s))
struck-steps script w p q frame rest s shape h rule =
    turn-with take_by_rules script w p q frame rest shape h
    ∙ ap (λ o. after_turn (world_without w p q rest) p (option_map (strike script) o)) rule

-- a step in which no signal strikes is the whole step
pub unstruck : (script : Script) (s : Step) → s.strikes ≡ false → strike script s ≡ s
unstruck script s calm = ap (λ b. if b then strike_call script s (to_cancel s.node.caller) else s) calm

-- where none strikes: the world's step by the rules
pub take-steps : (script : Script) (w : World) (p q : ℕ) (frame : Frame) (rest : List Frame) (s : Step)
    → IsShaped script w → Heads script w p q frame rest → take_by_kind script (node_of w p) q frame ≡ Some s
    → s.strikes ≡ false
    → step_by_rules w (events.Take p q) ≡ Some (world_after (world_without w p q rest) p s)
take-steps script w p q frame rest s shape h rule calm =
    struck-steps script w p q frame rest s shape h rule
    ∙ ap (λ (t : Step). Some (world_after (world_without w p q rest) p t)) (unstruck script s calm)

-- a node that takes a frame: the world's step
pub taken-steps : (script : Script) (w : World) (p q : ℕ) (frame : Frame) (rest : List Frame) (s : Step)
    → IsShaped script w → Heads script w p q frame rest → take_frame script (node_of w p) q frame ≡ Some s
    → step w (events.Take p q) ≡ Some (world_after (world_without w p q rest) p s)
taken-steps script w p q frame rest s shape h rule =
    turn-with take_frame script w p q frame rest shape h ∙ ap (after_turn (world_without w p q rest) p) rule

-- a node that starts a call: the world's step
pub run-steps : (script : Script) (w : World) (p : ℕ) (s : Step)
    → IsShaped script w → 1 ≤ p → p ≤ node_count script → run script (node_of w p) ≡ Some s
    → step w (events.Run p) ≡ Some (world_after w p s)
run-steps script w p s shape low high rule =
    ap (runs_at w p) (node-there script w shape p low high)
    ∙ ap (after_turn w p)
    (ap (λ x. run x (node_of w p)) shape.of_script ∙ rule)

-- ---- what is on its way

-- the stream of two nodes
pub frames-low : (w : World) (to sender : ℕ) → 1 ≤ to → 1 ≤ sender → frames_to w to sender ≡ stream w to sender
frames-low w to sender low low_from =
    rw (lt-ltb 0 to (omega arith), lt-ltb 0 sender (omega arith)) refl

no-frames-to : (w : World) (to sender : ℕ) → to < 1 → frames_to w to sender ≡ []
no-frames-to w to sender none = rw (le-ltb 0 to (omega arith)) refl

and-false : (b : Bool) → (b && false) ≡ false
and-false true = refl
and-false false = refl

no-frames-from : (w : World) (to sender : ℕ) → sender < 1 → frames_to w to sender ≡ []
no-frames-from w to sender none =
    ap (λ b. if is_number to && b then stream w to sender else []) (le-ltb 0 sender (omega arith))
    ∙ ap (λ b. if b then stream w to sender else []) (and-false (is_number to))

low-cases : (x : ℕ) → (1 ≤ x) ⊎ (x < 1)
low-cases zero = inr (omega arith)
low-cases (suc x) = inl (omega arith)

-- a shaped world has a stream for each pair
pub square-of : (script : Script) (w : World) → IsShaped script w → Square (node_count script) w.streams
square-of script w s = record { rows = s.rows; row = s.row }

-- the frame was in its own stream
pub taken-here : (p q : ℕ) (frame : Frame) → taken p ((q, frame) ∷ []) p q ≡ frame ∷ []
taken-here p q frame = rw (eq-eqb p p refl, eq-eqb q q refl) refl

-- and in none to another node
pub taken-not-to : (p to sender : ℕ) (takes : List (ℕ × Frame)) → to ≢ p → taken p takes to sender ≡ []
taken-not-to p to sender takes d = ap (λ b. frames_if b (frames_with sender takes)) (ne_eqb to p d)

frames-of-none : (b : Bool) → frames_if b [] ≡ []
frames-of-none true = refl
frames-of-none false = refl

-- nor from another
pub taken-not-from : (p to q sender : ℕ) (frame : Frame) → sender ≢ q → taken p ((q, frame) ∷ []) to sender ≡ []
taken-not-from p to q sender frame d =
    ap (λ b. frames_if (nat_eq to p) (frame_if b frame ++ [])) (ne_eqb sender q d) ∙ frames-of-none (nat_eq to p)

sent-to-none : (n : ℕ) (sends : List (ℕ × Frame)) → AreToNodes n sends → (to : ℕ) → to < 1 → frames_with to sends ≡ []
sent-to-none n [] all to none = refl
sent-to-none n (s ∷ sends) all to none =
    let first : IsToNode n s = all.0
    in let low : 1 ≤ s.0 = first.low
    in ap (λ b. frame_if b s.1 ++ frames_with to sends) (ne_eqb to s.0 (λ e. omega (arith, e, low, none)))
    ∙ sent-to-none n sends all.1 to none

-- what is on its way from a node that has sent
sends-behind : (n : ℕ) (v : World) (p : ℕ) (s : Step) → Square n v.streams → AreToNodes n s.sends → 1 ≤ p → p ≤ n
    → (to sender : ℕ)
    → frames_to (world_after v p s) to sender ≡ frames_to v to sender ++ sent p s.sends to sender
sends-behind n v p s square to_nodes low high to sender =
    elim (low-cases to) [
      | inr none ↦
          no-frames-to (world_after v p s) to sender none
          ∙ sym (ap (λ fs. fs ++ sent p s.sends to sender) (no-frames-to v to sender none)
          ∙ ap (frames_if (nat_eq sender p)) (sent-to-none n s.sends to_nodes to none)
          ∙ frames-of-none (nat_eq sender p))
      | inl low_to ↦
          elim (low-cases sender) [
            | inr none ↦
                no-frames-from (world_after v p s) to sender none
                ∙ sym (ap (λ fs. fs ++ sent p s.sends to sender) (no-frames-from v to sender none)
                ∙ ap (λ b. frames_if b (frames_with to s.sends)) (ne_eqb sender p (λ e. omega (arith, e, low, none))))
            | inl low_from ↦
                frames-low (world_after v p s) to sender low_to low_from
                ∙ in-range low_to low_from (cases_eq sender p)
                ∙ ap (λ fs. fs ++ sent p s.sends to sender) (sym (frames-low v to sender low_to low_from))
          ]
    ]
  where
    in-range : 1 ≤ to → 1 ≤ sender → (sender ≡ p) ⊎ (sender ≢ p)
        → stream_in (with_all_sent p v.streams s.sends) to sender
        ≡ stream_in v.streams to sender ++ sent p s.sends to sender
    in-range low_to low_from (inl e) =
        subst (λ x. stream_in (with_all_sent p v.streams s.sends) to x
        ≡ stream_in v.streams to x ++ sent p s.sends to x) (sym e)
        (all-sent n p v.streams s.sends to square to_nodes low high low_to
        ∙ ap (λ fs. stream_in v.streams to p ++ fs) (sent-is-with to s.sends)
        ∙ ap (λ b. stream_in v.streams to p ++ frames_if b (frames_with to s.sends)) (sym (eq-eqb p p refl)))
    in-range low_to low_from (inr d) =
        none-sent n p v.streams s.sends to sender square to_nodes low low_to low_from d
        ∙ sym (ap (λ b. stream_in v.streams to sender ++ frames_if b (frames_with to s.sends)) (ne_eqb sender p d)
        ∙ append-nil (stream_in v.streams to sender))

shaped-after : (script : Script) (v : World) (p : ℕ) (s : Step) → v.script ≡ script
    → length v.nodes ≡ node_count script → Square (node_count script) v.streams
    → AreToNodes (node_count script) s.sends → HasTries script
    → IsShaped script (world_after v p s)
shaped-after script v p s of_script nodes square to_nodes tries =
    let sent_square : Square (node_count script) (with_all_sent p v.streams s.sends) =
    square-sent (node_count script) p v.streams s.sends square to_nodes
    in record {
      of_script = of_script;
      nodes = length-set v.nodes (p - 1) s.node ∙ nodes;
      rows = sent_square.rows;
      row = sent_square.row;
      tries = tries;
    }

node-after : (v : World) (p : ℕ) (s : Step) → 1 ≤ p → p ≤ length v.nodes → node_of (world_after v p s) p ≡ s.node
node-after v p s low high =
    ap (λ b. unwrap_or (if b then node_at (world_after v p s) p else None) (unborn_node p)) (lt-ltb 0 p (omega arith))
    ∙ ap (λ o. unwrap_or o (unborn_node p)) (get-set-same v.nodes (p - 1) s.node (omega arith))

node-elsewhere : (v : World) (p : ℕ) (s : Step) → 1 ≤ p → (x : ℕ) → x ≢ p
    → node_of (world_after v p s) x ≡ node_of v x
node-elsewhere v p s low x d =
    elim (low-cases x) [
      | inl low_x ↦
          ap (λ o. unwrap_or (if is_number x then o else None) (unborn_node x))
          (get-set-other v.nodes (p - 1) (x - 1) s.node (λ e. d (omega arith)))
      | inr none ↦
          ap (λ b. unwrap_or (if b then node_at (world_after v p s) x else None) (unborn_node x))
          (le-ltb 0 x (omega arith))
          ∙ sym (ap (λ b. unwrap_or (if b then node_at v x else None) (unborn_node x)) (le-ltb 0 x (omega arith)))
    ]

-- ---- what it changes

module _ (script : Script) (w : World) (shape : IsShaped script w) where
  -- what a node changes that starts a call
  pub changes-by-run : (p : ℕ) (s : Step) → 1 ≤ p → p ≤ node_count script → AreToNodes (node_count script) s.sends
      → Changes script p w (world_after w p s) s.node [] s.sends s.entries
  changes-by-run p s low high to_nodes =
      let square : Square (node_count script) w.streams = square-of script w shape
      in record {
        shape = shaped-after script w p s shape.of_script shape.nodes square to_nodes shape.tries;
        here = node-after w p s low (subst (λ n. p ≤ n) (sym shape.nodes) high);
        others = λ x d. node-elsewhere w p s low x d;
        journal = refl;
        left = frames_to w;
        before = λ to sender. sym (ap (λ fs. fs ++ frames_to w to sender) (frames-of-none (nat_eq to p)));
        after = sends-behind (node_count script) w p s square to_nodes low high;
      }

  -- what a node changes that takes a frame
  pub changes-by-take : (p q : ℕ) (frame : Frame) (rest : List Frame) (s : Step) → Heads script w p q frame rest
      → AreToNodes (node_count script) s.sends
      → Changes script p w (world_after (world_without w p q rest) p s) s.node ((q, frame) ∷ []) s.sends s.entries
  changes-by-take p q frame rest s h to_nodes =
      let square : Square (node_count script) (with_stream w.streams p q rest) =
      square-with (node_count script) w.streams p q rest (square-of script w shape) h.low h.high
      in record {
        shape = shaped-after script
            (world_without w p q rest) p s shape.of_script shape.nodes square to_nodes shape.tries;
        here = node-after (world_without w p q rest) p s h.low (subst (λ n. p ≤ n) (sym shape.nodes) h.high);
        others = λ x d. node-elsewhere (world_without w p q rest) p s h.low x d;
        journal = refl;
        left = frames_to (world_without w p q rest);
        before = λ to sender. was to sender (low-cases to) (low-cases sender);
        after = sends-behind (node_count script) (world_without w p q rest) p s square to_nodes h.low h.high;
      }
    where
      head-was : (to sender : ℕ) → to ≡ p → sender ≡ q
          → frames_to w to sender
          ≡ taken p ((q, frame) ∷ []) to sender ++ frames_to (world_without w p q rest) to sender
      head-was to sender e g =
          subst (λ y. frames_to w y sender
          ≡ taken p ((q, frame) ∷ []) y sender ++ frames_to (world_without w p q rest) y sender) (sym e)
          (subst (λ z. frames_to w p z
          ≡ taken p ((q, frame) ∷ []) p z ++ frames_to (world_without w p q rest) p z) (sym g)
          (frames-low w p q h.low h.low_from ∙ h.head
          ∙ sym (ap (λ fs. fs ++ frames_to (world_without w p q rest) p q) (taken-here p q frame)
          ∙ ap (λ fs. frame ∷ fs)
          (frames-low (world_without w p q rest) p q h.low h.low_from
          ∙ stream-same (node_count script) w.streams p q rest (square-of script w shape) h.low h.high h.low_from
          h.high_from))))

      others-were : (to sender : ℕ) → 1 ≤ to → 1 ≤ sender → (to ≡ p → sender ≢ q)
          → taken p ((q, frame) ∷ []) to sender ≡ []
          → frames_to w to sender
          ≡ taken p ((q, frame) ∷ []) to sender ++ frames_to (world_without w p q rest) to sender
      others-were to sender low_to low_from d none =
          frames-low w to sender low_to low_from
          ∙ sym (ap (λ fs. fs ++ frames_to (world_without w p q rest) to sender) none
          ∙ frames-low (world_without w p q rest) to sender low_to low_from
          ∙ stream-other (node_count script) w.streams p q to sender rest (square-of script w shape) h.low h.high
          h.low_from low_to low_from d)

      was : (to sender : ℕ) → (1 ≤ to) ⊎ (to < 1) → (1 ≤ sender) ⊎ (sender < 1)
          → frames_to w to sender
          ≡ taken p ((q, frame) ∷ []) to sender ++ frames_to (world_without w p q rest) to sender
      was to sender (inr none) low_from =
          no-frames-to w to sender none
          ∙ sym (ap (λ fs. fs ++ frames_to (world_without w p q rest) to sender)
          (taken-not-to p to sender ((q, frame) ∷ []) (let low = h.low in λ e. omega (arith, e, low, none)))
          ∙ no-frames-to (world_without w p q rest) to sender none)
      was to sender (inl low_to) (inr none) =
          no-frames-from w to sender none
          ∙ sym (ap (λ fs. fs ++ frames_to (world_without w p q rest) to sender)
          (taken-not-from p to q sender frame (let low = h.low_from in λ e. omega (arith, e, low, none)))
          ∙ no-frames-from (world_without w p q rest) to sender none)
      was to sender (inl low_to) (inl low_from) =
          elim (cases_eq to p) [
            | inr d ↦
                others-were to sender low_to low_from (λ e. absurd (d e))
                (taken-not-to p to sender ((q, frame) ∷ []) d)
            | inl e ↦
                elim (cases_eq sender q) [
                  | inl g ↦ head-was to sender e g
                  | inr d ↦
                      others-were to sender low_to low_from (λ _. d) (taken-not-from p to q sender frame d)
                ]
          ]
