-- What a turn of the parts comes to, as one of the node.
use Rattle.std.proofs.Common.{◌≡◌, ℕ, false, Option, Some, None, IsSome, Result, Ok, Err, OnOk, inl, inr, refl}
use Rattle.pico_base.specs.declared.script.Script.{Script}
use Rattle.world_model.specs.Node.{Node, can_run}
use Rattle.world_model.specs.Step.{Step}
use Rattle.log_laws.specs.Logs.{Input}
use Rattle.log_laws.specs.Merge.{event_at}
use Rattle.log_model.specs.declared.answer.LogFault.{LogFault}
use Rattle.log_model.specs.declared.answer.LogFault.TheVariants as faults
use Rattle.log_model.specs.declared.answer.TurnAnswer.TheVariants as answers
use Rattle.log_model.specs.declared.found.Found.{Found}
use Rattle.log_model.specs.declared.found.Found.TheVariants as founds
use Rattle.log_model.specs.Looks.{Looks}
use Rattle.log_model.specs.Turns.{IsTurn, IsSpent, IsTurnOrSpent, may_take, input_of, rule_of, floor_of, one_more_quiet}
use Rattle.node_lines.specs.Lines.{AreSameLines}
use Rattle.node_log.specs.declared.works.Works.{Works}
use Rattle.node_log.specs.Parts.{IsMade, IsUnmade, IsFull, IsSamePlace, view_with, made_of, answer_after, fault_after, quiet_after}
use Rattle.node_log.proofs.Places.{lines-again}
use Rattle.node_log.proofs.Rules.{node-there}

-- the parts behind looks, which leave all but the lines and who forks the node as it is
abbrev pub behind_looks : Works → Works → Works
behind_looks old looked = record old { forker = looked.forker; lines = looked.lines }

-- what the looks found, by each node that it may be
abbrev pub HasLooked : Script → Works → Found → Works → Type 0
HasLooked script old found looked =
    (n : Node) → old.node ≡ Some n
    → Looks (may_take script old.number n) old.lines.items found looked.lines.items

abbrev pub Gives : Works → Found → Input → Type 0
Gives old found input = (n : Node) → old.node ≡ Some n → input_of n found ≡ Some input

abbrev RuleOf : Script → Works → Input → Node → Option Step
RuleOf script looked input n = rule_of script looked.lines.items n input

did : (script : Script) (old looked new : Works) (found : Found) (input : Input) (quiet : ℕ)
    → HasLooked script old found looked → Gives old found input → IsSamePlace (behind_looks old looked) new
    → IsMade (RuleOf script looked input) (floor_of old.clock input) (event_at old.number input)
    (behind_looks old looked) new
    → IsTurn script (view_with old quiet None) (view_with new 0 None) answers.Did
did script old looked new found input quiet looks gives same h =
    record {
      node = h.node;
      here = h.here;
      found = found;
      lines = looked.lines.items;
      looks = looks h.node h.here;
      ends = record {
        input = input;
        is_input = gives h.node h.here;
        step = h.step;
        is_step = h.is_step;
        frames = h.noted.frames;
        stamp = h.noted.stamp;
        is_stamp = h.noted.is_stamp;
        seat = same.seat.1;
        is = λ i. record {
          number = same.number i;
          node = h.next i;
          forker = new.forker;
          clock = h.noted.clock i;
          log = h.noted.log i;
          lines = h.noted.lines i;
          seat = new.seat;
          quiet = 0;
          fault = None;
        };
      };
    }

badly : (script : Script) (old looked new : Works) (found : Found) (input : Input) (quiet : ℕ)
    → HasLooked script old found looked → Gives old found input → IsSamePlace (behind_looks old looked) new
    → IsUnmade (RuleOf script looked input) (behind_looks old looked) new
    → IsTurn script (view_with old quiet None) (view_with new 0 (Some faults.BadFrame)) answers.BadFrame
badly script old looked new found input quiet looks gives same h =
    record {
      node = h.node;
      here = h.here;
      found = found;
      lines = looked.lines.items;
      looks = looks h.node h.here;
      ends = record {
        cause = inr record { input = input; is_input = gives h.node h.here; no_rule = h.none };
        seat = h.seat;
        is = λ i. record {
          number = same.number i;
          node = new.node;
          forker = new.forker;
          clock = h.rest.clock i;
          log = h.rest.log i;
          lines = h.rest.lines i;
          seat = new.seat;
          quiet = 0;
          fault = Some faults.BadFrame;
        };
      };
    }

full : (script : Script) (old looked new : Works) (found : Found) (input : Input) (quiet last : ℕ)
    → HasLooked script old found looked → Gives old found input → IsSamePlace (behind_looks old looked) new
    → IsFull (RuleOf script looked input) (floor_of old.clock input) (behind_looks old looked) new last
    → IsTurn script (view_with old quiet None) (view_with new 0 (Some (faults.StampEnd last))) (answers.StampEnd last)
full script old looked new found input quiet last looks gives same h =
    record {
      node = h.node;
      here = h.here;
      found = found;
      lines = looked.lines.items;
      looks = looks h.node h.here;
      ends = record {
        input = input;
        is_input = gives h.node h.here;
        step = h.step;
        is_step = h.is_step;
        no_stamp = h.unnoted.no_stamp;
        seat = same.seat.1;
        is = λ i. record {
          number = same.number i;
          node = new.node;
          forker = new.forker;
          clock = h.unnoted.rest.clock i;
          log = h.unnoted.rest.log i;
          lines = h.unnoted.rest.lines i;
          seat = new.seat;
          quiet = 0;
          fault = Some (faults.StampEnd last);
        };
      };
    }

pub spent : (old new : Works) (quiet : ℕ) → IsSamePlace old new
    → IsSpent (view_with old quiet None) (view_with new 0 (Some faults.Memory))
spent old new quiet same =
    record { fault = refl; number = same.number; lock = same.seat.0; seat = same.seat.1; quiet = refl }

-- ---- the same streams

pub place-looked : (old looked : Works) → AreSameLines old.lines.items looked.lines.items
    → IsSamePlace old (behind_looks old looked)
place-looked old looked lines = record { number = refl; seat = (refl, refl); lines = lines }

-- behind looks and an event the place is the same
pub place-behind : (old looked new : Works) → AreSameLines old.lines.items looked.lines.items
    → IsSamePlace (behind_looks old looked) new → IsSamePlace old new
place-behind old looked new lines same =
    record {
      number = same.number;
      seat = same.seat;
      lines = lines-again old.lines.items looked.lines.items new.lines.items lines same.lines;
    }

-- ---- what comes of an input

-- looks and an event are a turn
pub turned-by_event : (script : Script) (old looked new : Works) (found : Found) (input : Input)
    (result : Result Unit LogFault) (quiet : ℕ) → HasLooked script old found looked → Gives old found input
    → AreSameLines old.lines.items looked.lines.items → IsSamePlace (behind_looks old looked) new
    → OnOk result
    (IsMade (RuleOf script looked input) (floor_of old.clock input) (event_at old.number input)
    (behind_looks old looked) new)
    → (result ≡ Err faults.BadFrame → IsUnmade (RuleOf script looked input) (behind_looks old looked) new)
    → ((last : ℕ) → result ≡ Err (faults.StampEnd last)
    → IsFull (RuleOf script looked input) (floor_of old.clock input) (behind_looks old looked) new last)
    → IsTurnOrSpent script (view_with old quiet None)
    (view_with new (quiet_after quiet (made_of result)) (fault_after (made_of result)))
    (answer_after (made_of result))
turned-by_event script old looked new found input (Ok u) quiet looks gives lines same ok bad end =
    did script old looked new found input quiet looks gives same ok
turned-by_event script old looked new found input (Err faults.Memory) quiet looks gives lines same ok bad end =
    spent old new quiet (place-behind old looked new lines same)
turned-by_event script old looked new found input (Err faults.BadFrame) quiet looks gives lines same ok bad end =
    badly script old looked new found input quiet looks gives same (bad refl)
turned-by_event script old looked new found input (Err (faults.StampEnd last)) quiet looks gives lines same ok bad end =
    full script old looked new found input quiet last looks gives same (end last refl)

-- ---- looks that no input comes of

-- looks that found bytes that are no frame are a turn that refuses them
pub turned-refused : (script : Script) (old looked : Works) (quiet : ℕ) → IsSome old.node
    → HasLooked script old founds.Refused looked
    → IsTurn script (view_with old quiet None)
    (view_with (behind_looks old looked) 0 (Some faults.BadFrame)) answers.BadFrame
turned-refused script old looked quiet whole looks =
    let n = node-there old.node whole in
    record {
      node = n.0;
      here = n.1;
      found = founds.Refused;
      lines = looked.lines.items;
      looks = looks n.0 n.1;
      ends = record { cause = inl refl; seat = refl; is = refl };
    }

-- looks that found a part of a frame, where the node can't run, are a turn
pub turned-part : (script : Script) (old looked : Works) (quiet : ℕ) → IsSome old.node
    → HasLooked script old founds.Part looked → ((n : Node) → old.node ≡ Some n → can_run n ≡ false)
    → IsTurn script (view_with old quiet None) (view_with (behind_looks old looked) 0 None) answers.Piece
turned-part script old looked quiet whole looks rests =
    let n = node-there old.node whole in
    record {
      node = n.0;
      here = n.1;
      found = founds.Part;
      lines = looked.lines.items;
      looks = looks n.0 n.1;
      ends = (refl, rests n.0 n.1, refl);
    }

-- looks that found nothing, where the node can't run, are a turn
pub turned-nothing : (script : Script) (old looked : Works) (quiet : ℕ) → IsSome old.node
    → HasLooked script old founds.Nothing looked → ((n : Node) → old.node ≡ Some n → can_run n ≡ false)
    → IsTurn script (view_with old quiet None) (view_with (behind_looks old looked) (one_more_quiet quiet) None)
    answers.Idle
turned-nothing script old looked quiet whole looks rests =
    let n = node-there old.node whole in
    record {
      node = n.0;
      here = n.1;
      found = founds.Nothing;
      lines = looked.lines.items;
      looks = looks n.0 n.1;
      ends = (refl, rests n.0 n.1, refl);
    }
