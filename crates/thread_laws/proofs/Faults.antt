-- No node met a fault. What it would have taken in is there in the world to which all logs lead; in that world it has a
-- rule for it, and what it sends may be sent.
use Rattle.std.proofs.Common.{◌≡◌, ◌≢◌, ℕ, ◌≤◌, true, false, ◌&&◌, nat_eq, if◌then◌else◌, List, [], ◌∷◌, map, Option, Some, None, refl, ap, sym, subst, ◌∙◌, inl, inr, arith}
use Rattle.std.specs.Prelude.{IsSome}
use Rattle.std.specs.List.{AllByRecursion, Contains}
use Rattle.std.specs.Option.{option_and_then}
use Rattle.std.proofs.lemmas.Bool.{and_from, cases_Bool, eq-eqb, eqb-true, false≢true, or_cases, or_left, or_right}
use Rattle.pico_base.specs.declared.script.Script.{Script}
use Rattle.rpc_frame.specs.declared.frame.Frame.{Frame}
use Rattle.frame_bytes.specs.Limits.{is_frame}
use Rattle.kernel_model.specs.Script.{IsSoundScript}
use Rattle.world_model.specs.Node.{Node, is_born}
use Rattle.world_model.specs.Run.{IsReachableWorld}
use Rattle.world_model.specs.Step.{Step}
use Rattle.world_model.specs.World.{IsNode, World, is_checkpoint, node_at, stream}
use Rattle.log_laws.specs.Logs.{StampedFrame, frame_of, Input, Runs, Takes, turn_on, AreConsistent}
use Rattle.log_laws.specs.Drawn.{IsStampOfTurn}
use Rattle.log_laws.specs.Follows.{StandsFirst, IsThere}
use Rattle.turn_laws.specs.Forkers.{forker_of, Forks, ForkersFork}
use Rattle.turn_laws.specs.Laws.{IsTurnIn, GoesToAnother, SendsGoToOthers, may_turn, EnabledTurnsHaveSteps, UnbornTakeTheirCheckpoint, max_events}
use Rattle.piece_laws.specs.Laws.{TheNextIsSent}
use Rattle.log_model.specs.declared.answer.LogFault.{LogFault}
use Rattle.log_model.specs.declared.answer.LogFault.TheVariants as faults
use Rattle.log_model.specs.Views.{Line, LoggedNode}
use Rattle.log_model.specs.Turns.{may_take, has_line, may_send, step_if_sent, rule_of}
use Rattle.log_model.specs.Logged.{others_of, others_in, IsFloor, WasThere, HadNoRule, HadNoStamp, Stands}
use Rattle.thread_laws.specs.Joined.{IsSettled}
use Rattle.thread_laws.proofs.Lists.{first-or-later, in-others}
use Rattle.thread_laws.proofs.Nodes.{HaveMade}
use Rattle.thread_laws.proofs.Heads.{IsFirst, no-line-refused, is-first, frame-known}

-- ---- what may be sent

find-line : (lines : List Line) (to : ℕ) → Contains (others_in lines) to → has_line lines to ≡ true
find-line [] to there = absurd (omega (arith, there.1))
find-line (line ∷ lines) to there =
    elim (first-or-later line.other (others_in lines) to there) [
      | inl e ↦ or_left (nat_eq line.other to) (has_line lines to) (eq-eqb line.other to e)
      | inr later ↦ or_right (nat_eq line.other to) (has_line lines to) (find-line lines to later)
    ]

sends-may-go : (script : Script) (p : ℕ) (lines : List Line) (sends : List (ℕ × Frame))
    → others_in lines ≡ others_of script p → AllByRecursion (GoesToAnother script p) sends
    → may_send lines sends ≡ true
sends-may-go script p lines [] are all = refl
sends-may-go script p lines (s ∷ sends) are all =
    let there : Contains (others_in lines) s.0 =
    subst (λ ns. Contains ns s.0) (sym are) (in-others script p s.0 all.0.receiver all.0.other)
    in and_from (has_line lines s.0 && is_frame s.1) (may_send lines sends)
    (and_from (has_line lines s.0) (is_frame s.1) (find-line lines s.0 there) all.0.within)
    (sends-may-go script p lines sends are all.1)

has-rule : (script : Script) (p : ℕ) (lines : List Line) (n : Node) (input : Input) (o : Option Step)
    → others_in lines ≡ others_of script p → turn_on script n input ≡ o → IsSome o
    → ((s : Step) → o ≡ Some s → AllByRecursion (GoesToAnother script p) s.sends)
    → rule_of script lines n input ≢ None
has-rule script p lines n input None are turns some goes none = false≢true some
has-rule script p lines n input (Some s) are turns some goes none =
    let may = sends-may-go script p lines s.sends are (goes s refl)
    in let rule : rule_of script lines n input ≡ Some s =
    ap (option_and_then (step_if_sent lines)) turns ∙ ap (λ b. if b then Some s else None) may
    in let both : Some s ≡ None = sym rule ∙ none
    in absurd (cc)

-- ---- in the world to which the logs lead

-- a run leads to it, each node is the last of its log, and on the streams is what no log took
pub record IsEnd (script : Script) (nodes : ℕ → LoggedNode) (have : HaveMade script nodes)
    (untaken : ℕ → ℕ → List StampedFrame) (w : World) : Type 0 where
  pub consistent : AreConsistent script have.logs have.last untaken
  pub reachable : IsReachableWorld script w
  pub node : (p : ℕ) → IsNode script p → node_at w p ≡ Some (have.last p)
  pub stream_is : (p q : ℕ) → IsNode script p → IsNode script q → stream w p q ≡ map frame_of (untaken p q)

-- no stamp that a node knows of is high
abbrev pub HasLowFloors : (script : Script) (nodes : ℕ → LoggedNode) → HaveMade script nodes → Type 0
HasLowFloors script nodes have =
    (p : ℕ) → IsNode script p → (input : Input) (floor : ℕ) → IsFloor (have.logs p) input (nodes p).seat.seen floor
    → ((sender : ℕ) (taken : StampedFrame) → input ≡ Takes sender taken → IsStampOfTurn script have.logs taken.stamp)
    → floor ≤ max_events

-- the laws of turns
pub record TurnLaws : Type 0 where
  pub sends : SendsGoToOthers
  pub steps : EnabledTurnsHaveSteps
  pub forks : ForkersFork
  pub births : UnbornTakeTheirCheckpoint

module _ (laws : TurnLaws) (next : TheNextIsSent) (script : Script) (sound : IsSoundScript script)
    (nodes : ℕ → LoggedNode) (have : HaveMade script nodes)
    (settled : (p q : ℕ) → IsNode script p → IsNode script q → p ≢ q → IsSettled (nodes p) (nodes q))
    (untaken : ℕ → ℕ → List StampedFrame) (w : World) (end : IsEnd script nodes have untaken w) (p : ℕ)
    (is : IsNode script p) where
  -- what node p would have taken in
  abbrev WasHere : Input → Type 0
  WasHere input = WasThere (have.logs p) (nodes p).lines (have.last p) input

  first-here : (sender : ℕ) (taken : StampedFrame) → WasHere (Takes sender taken)
      → IsFirst script untaken p sender taken
  first-here sender taken there = is-first script nodes have settled next untaken end.consistent p is sender taken there

  stands-first : (sender : ℕ) (taken : StampedFrame) → IsFirst script untaken p sender taken
      → StandsFirst script w p sender taken.frame
  stands-first sender taken first =
      record {
        sender = first.node;
        rest = map frame_of first.behind;
        first = end.stream_is p sender is first.node ∙ ap (map frame_of) first.first;
      }

  is-there : (input : Input) → WasHere input → IsThere script w p input
  is-there Runs there = tt
  is-there (Takes sender taken) there = stands-first sender taken (first-here sender taken there)

  -- what the node that forks it sent is its Checkpoint, where it isn't born
  is-birth : (sender : ℕ) (taken : StampedFrame) → IsFirst script untaken p sender taken
      → sender ≡ forker_of script p → is_born (have.last p) ≡ false → is_checkpoint taken.frame ≡ true
  is-birth sender taken first same unborn =
      let low = first.node.low
      in let forks : Forks script sender p = laws.forks script sender p (sym same) low
      in let stands : StandsFirst script w p sender taken.frame = stands-first sender taken first
      in laws.births script w p sender (have.last p) taken.frame stands.rest sound end.reachable is (end.node p is)
      unborn forks.forks stands.first

  may-take-it : (sender : ℕ) (taken : StampedFrame) → IsFirst script untaken p sender taken
      → may_take script (nodes p).number (have.last p) sender ≡ true
      → may_turn (have.last p) (Takes sender taken) ≡ true
  may-take-it sender taken first may =
      let born = is_born (have.last p)
      in let forker = forker_of script (nodes p).number
      in elim (cases_Bool born) [
        | inl yet ↦ or_left born (is_checkpoint taken.frame) yet
        | inr unborn ↦ elim (or_cases born (nat_eq sender forker) may) [
          | inl yet ↦ or_left born (is_checkpoint taken.frame) yet
          | inr same ↦
              or_right born (is_checkpoint taken.frame)
              (is-birth sender taken first
              (eqb-true sender forker same ∙ ap (forker_of script) (have.made p is).number) unborn)
        ]
      ]

  may-turn : (input : Input) → WasHere input
      → ((sender : ℕ) (taken : StampedFrame) → input ≡ Takes sender taken
      → may_take script (nodes p).number (have.last p) sender ≡ true)
      → may_turn (have.last p) input ≡ true
  may-turn Runs there may = there
  may-turn (Takes sender taken) there may =
      may-take-it sender taken (first-here sender taken there) (may sender taken refl)

  none-without-rule : HadNoRule script (nodes p) (have.logs p) (have.last p) → ⊥
  none-without-rule h =
      let turn : IsTurnIn script w p (have.last p) h.input =
      record {
        reachable = end.reachable;
        is_node = is;
        node = end.node p is;
        there = is-there h.input h.there;
      }
      in has-rule script p (nodes p).lines (have.last p) h.input (turn_on script (have.last p) h.input)
      (have.made p is).other_nodes refl
      (laws.steps script w p (have.last p) h.input sound turn (may-turn h.input h.there h.may))
      (λ s e. laws.sends script w p (have.last p) h.input s sound turn e)
      h.no_rule

  none-without-stamp : HasLowFloors script nodes have → HadNoStamp script (nodes p) (have.logs p) (have.last p) → ⊥
  none-without-stamp low h =
      let floor_low : h.floor ≤ max_events =
      low p is h.input h.floor h.from (λ sender taken of.
      frame-known script nodes have settled next untaken end.consistent p is sender taken
      (first-here sender taken (subst WasHere of h.there)))
      in let floor_high = h.high
      in omega arith

  no-fault-stands : HasLowFloors script nodes have → (fault : Option LogFault)
      → Stands script (nodes p) (have.logs p) (have.last p) fault → fault ≡ None
  no-fault-stands low None stands = refl
  no-fault-stands low (Some faults.Memory) stands = absurd stands
  no-fault-stands low (Some faults.BadFrame) (inl refused) =
      absurd (no-line-refused script nodes have settled next p is refused)
  no-fault-stands low (Some faults.BadFrame) (inr none) = absurd (none-without-rule none)
  no-fault-stands low (Some (faults.StampEnd last)) stands = absurd (none-without-stamp low stands)

  -- no fault came
  pub no-fault : HasLowFloors script nodes have → (nodes p).fault ≡ None
  no-fault low = no-fault-stands low (nodes p).fault (have.made p is).stands
