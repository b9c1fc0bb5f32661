-- What a node does in a turn: its state afterwards, the entries that it makes, and the frames that it sends.
use Rattle.std.specs.Prelude.{ℕ, Bool, false, ◌||◌, nat_eq, List, [], ◌∷◌, ◌++◌, fold, if◌then◌else◌, Option, Some, None}
use Rattle.pico_base.specs.declared.call.Call.{Call}
use Rattle.pico_base.specs.declared.reply.Reply.{Reply}
use Rattle.pico_base.specs.declared.reply.Outcome.{Outcome}
use Rattle.pico_base.specs.declared.reply.Entry.{Entry}
use Rattle.pico_base.specs.declared.script.Script.{Script}
use Rattle.rpc_frame.specs.declared.asked.Asked.{Asked}
use Rattle.rpc_frame.specs.declared.frame.Frame.{Frame}
use Rattle.rpc_frame.specs.declared.frame.Frame.TheVariants as frames
use Rattle.kernel_model.specs.Effect.{reply_alone}
use Rattle.waiting_model.specs.declared.callers.Wake.{Wake}
use Rattle.node_model.specs.Directory.{Directory}
use Rattle.node_model.specs.Caller.{answer_call}
use Rattle.node_model.specs.Bodies.{Deeds}
use Rattle.node_model.specs.Entries.{entry_with, outcome_with}
use Rattle.world_model.specs.Node.{Node, Leader, under_way_as}

-- the frames each with its receiver, in order; and whether a signal strikes the node's own process
pub record Step : Type 0 where
  pub node : Node
  pub entries : List Entry
  pub sends : List (ℕ × Frame)
  pub strikes : Bool

abbrev pub step_to : Node → Step
step_to n = record { node = n; entries = []; sends = []; strikes = false }

abbrev pub with_strike : Step → Bool → Step
with_strike step now = record step { strikes = step.strikes || now }

abbrev pub with_node : Step → Node → Step
with_node step n = record step { node = n }

abbrev pub with_deeds : Step → Deeds → Step
with_deeds step deeds = with_node step (record step.node { deeds = deeds })

abbrev pub with_leader : Node → Leader → Node
with_leader n leader = record n { leader = leader }

abbrev pub with_directory : Node → Directory → Node
with_directory n directory = with_leader n (record n.leader { directory = directory })

abbrev pub send : Step → ℕ → Frame → Step
send step to frame = record step { sends = step.sends ++ (to, frame) ∷ [] }

abbrev pub enter_with : Step → ℕ → Call → Outcome → Step
enter_with step pid call outcome =
    record step { entries = step.entries ++ entry_with step.node.number pid call outcome ∷ [] }

-- the call has its reply, and nobody is woken
abbrev pub enter : Step → ℕ → Call → Reply → Step
enter step pid call reply = enter_with step pid call (reply_alone reply)

-- The reply goes to the node whose call has this ticket, or ends that call at once where it is this node's. A reply to
-- a call that isn't under way any more is dropped, which no run has.
abbrev pub reply_here : Script → Step → Reply → Option Call → Step
reply_here script step reply None = step
reply_here script step reply (Some call) =
    with_node step (record step.node { caller = answer_call script step.node.number step.node.caller call reply })

abbrev pub reply_at : Script → Step → ℕ → ℕ → Reply → Step
reply_at script step caller ticket reply =
    if nat_eq caller step.node.number
    then reply_here script step reply (under_way_as step.node ticket)
    else send step caller (frames.Answer ticket reply)

abbrev pub reply_to : Script → Step → Asked → Reply → Step
reply_to script step asked reply = reply_at script step asked.caller asked.ticket reply

-- a call is carried out here: an entry, and the reply
abbrev pub carry_out : Script → Step → Asked → Reply → Step
carry_out script step asked reply = reply_to script (enter step asked.pid asked.call reply) asked reply

-- The same where the call may wait or wake others: an entry; the reply, if there is one; and then each who is woken has
-- its reply, in the order of waking.
abbrev pub reply_if : Script → Step → Asked → Option Reply → Step
reply_if script step asked None = step
reply_if script step asked (Some reply) = reply_to script step asked reply

abbrev pub wake_one : Script → Step → Wake → Step
wake_one script step w = reply_at script step w.caller w.ticket w.reply

abbrev pub wake_all : Script → Step → List Wake → Step
wake_all script step wakes = fold (wake_one script) step wakes

abbrev pub carry_out_waking : Script → Step → Asked → Option Reply → List Wake → Step
carry_out_waking script step asked own wakes =
    wake_all script (reply_if script (enter_with step asked.pid asked.call (outcome_with own wakes)) asked own) wakes
