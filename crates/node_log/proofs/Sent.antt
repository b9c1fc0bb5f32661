-- The machine's step where all that it sends may be sent; and events by rules that agree.
use Rattle.std.proofs.Common.{ap, ◌≡◌, ℕ, Bool, true, if◌then◌else◌, List, Option, Some, None, Result, Ok, Err, OnOk, refl, ◌∙◌}
use Rattle.std.specs.Option.{option_and_then}
use Rattle.pico_base.specs.declared.reply.Entry.{Entry}
use Rattle.pico_base.specs.declared.script.Script.{Script}
use Rattle.pico_base.specs.declared.script.Event.{Event}
use Rattle.world_model.specs.Node.{Node}
use Rattle.world_model.specs.Step.{Step}
use Rattle.node_core.specs.declared.turn.Input.{Input}
use Rattle.node_core.specs.declared.turn.Turn.{Turn}
use Rattle.node_core.specs.Step.{step_as}
use Rattle.node_core.specs.Turns.{IsTurn}
use Rattle.log_model.specs.declared.answer.LogFault.{LogFault}
use Rattle.log_model.specs.Turns.{HasNoStamp, may_send, step_if_sent}
use Rattle.log_model.specs.Views.{Line}
use Rattle.node_log.specs.declared.works.Works.{Works}
use Rattle.node_log.specs.Steps.{sent_step, IsSentTurn, IsSameSeat}
use Rattle.node_log.specs.Parts.{IsMade, IsNoted, IsUnmade, IsFull, IsUnnoted, IsSamePlace}
use Rattle.node_log.proofs.Places.{lines-same}

-- ---- events by rules that agree

pub made-along : (rule rule' : Node → Option Step) (floor : ℕ) (event : Event) (old new : Works)
    → ((n : Node) → old.node ≡ Some n → rule' n ≡ rule n) → IsMade rule floor event old new
    → IsMade rule' floor event old new
made-along rule rule' floor event old new agree h =
    record {
      node = h.node;
      here = h.here;
      step = h.step;
      is_step = agree h.node h.here ∙ h.is_step;
      next = h.next;
      noted = h.noted;
    }

-- what isn't made by one rule isn't made by one that is the same for this node
pub unmade-along : (rule rule' : Node → Option Step) (old new : Works)
    → ((n : Node) → old.node ≡ Some n → rule' n ≡ rule n) → IsUnmade rule old new → IsUnmade rule' old new
unmade-along rule rule' old new agree h =
    record { node = h.node; here = h.here; none = agree h.node h.here ∙ h.none; seat = h.seat; rest = h.rest }

-- and one that nothing was changed for
pub unmade-here : (rule : Node → Option Step) (old : Works) (n : Node) → old.node ≡ Some n → rule n ≡ None
    → IsUnmade rule old old
unmade-here rule old n here none =
    record {
      node = n;
      here = here;
      none = none;
      seat = refl;
      rest = record { clock = refl; log = refl; lines = refl };
    }

-- and the same of a step that has no stamp
pub full-along : (rule rule' : Node → Option Step) (floor : ℕ) (old new : Works) (last : ℕ)
    → ((n : Node) → old.node ≡ Some n → rule' n ≡ rule n) → IsFull rule floor old new last
    → IsFull rule' floor old new last
full-along rule rule' floor old new last agree h =
    record {
      node = h.node;
      here = h.here;
      step = h.step;
      is_step = agree h.node h.here ∙ h.is_step;
      unnoted = h.unnoted;
    }

-- and of one that is made
pub made_ok-along : (rule rule' : Node → Option Step) (floor : ℕ) (event : Event) (old new : Works)
    (result : Result Unit LogFault) → ((n : Node) → old.node ≡ Some n → rule' n ≡ rule n)
    → OnOk result (IsMade rule floor event old new) → OnOk result (IsMade rule' floor event old new)
made_ok-along rule rule' floor event old new (Ok u) agree h = made-along rule rule' floor event old new agree h
made_ok-along rule rule' floor event old new (Err fault) agree h = h

-- ---- a step that is sent, and then noted

-- the parts with the node that a turn left
abbrev pub with_node : Works → Option Node → Works
with_node w left = record w { node = left }

-- a turn of a node all of whose frames may be sent
pub sent-turn : (script : Script) (lines : List Line) (input : Input) (old new : Option Node) (turn : Turn)
    → IsTurn script old input new turn → may_send lines turn.sends ≡ true
    → IsSentTurn script lines old input new turn
sent-turn script lines input None new turn h may = absurd h
sent-turn script lines input (Some n) None turn h may = absurd h
sent-turn script lines input (Some n) (Some m) turn h may =
    record {
      node = n;
      here = refl;
      next = m;
      left = refl;
      strikes = h.0;
      step = ap (option_and_then (step_if_sent lines)) h.1
          ∙ ap (λ (b : Bool). if b then Some (step_as m turn h.0) else None) may;
      may = may;
    }

-- a step with a stamp is made
pub made-by_note : (script : Script) (old new : Works) (input : Input) (left : Option Node) (turn : Turn) (floor : ℕ)
    (event : Event)
    → IsSentTurn script old.lines.items old.node input left turn
    → IsNoted (with_node old left) floor event turn.entries turn.sends new → new.node ≡ left
    → IsMade (sent_step script old.lines.items input) floor event old new
made-by_note script old new input left turn floor event sent h node =
    record {
      node = sent.node;
      here = sent.here;
      step = step_as sent.next turn sent.strikes;
      is_step = sent.step;
      next = node ∙ sent.left;
      noted = record {
        frames = h.frames;
        stamp = h.stamp;
        is_stamp = h.is_stamp;
        clock = h.clock;
        log = h.log;
        lines = h.lines;
      };
    }

-- a step for which there was no stamp is not noted
pub full-by_note : (script : Script) (old new : Works) (input : Input) (left : Option Node) (turn : Turn)
    (floor last : ℕ)
    → IsSentTurn script old.lines.items old.node input left turn
    → IsUnnoted (with_node old left) floor turn.entries new last
    → IsFull (sent_step script old.lines.items input) floor old new last
full-by_note script old new input left turn floor last sent h =
    record {
      node = sent.node;
      here = sent.here;
      step = step_as sent.next turn sent.strikes;
      is_step = sent.step;
      unnoted = record {
        no_stamp = h.no_stamp;
        rest = record { clock = h.rest.clock; log = h.rest.log; lines = h.rest.lines };
      };
    }

-- ---- no stamp is left

-- the parts with the log and the seat of others
abbrev pub with_noted : Works → Works → Works
with_noted old noted = record old { log = noted.log; seat = noted.seat }

-- where there was no stamp, nothing was noted
pub unnoted-by : (old noted : Works) (floor : ℕ) (entries : List Entry) (last : ℕ)
    → HasNoStamp floor entries old.seat noted.seat last → noted.log ≡ old.log
    → IsUnnoted old floor entries (with_noted old noted) last
unnoted-by old noted floor entries last h log =
    record { no_stamp = h; rest = record { clock = refl; log = log; lines = refl } }

-- a note leaves number, streams and seat
pub place-noted : (old noted : Works) → IsSameSeat old.seat noted.seat → IsSamePlace old (with_noted old noted)
place-noted old noted seat = record { number = refl; seat = seat; lines = lines-same old.lines.items }
