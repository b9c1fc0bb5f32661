-- A node takes a frame about a call.
use Rattle.std.specs.Prelude.{ℕ, Bool, true, false, not, ◌&&◌, nat_eq, if◌then◌else◌, Option, Some, None}
use Rattle.std.specs.Option.{option_and_then}
use Rattle.pico_base.specs.declared.call.Call.{Call}
use Rattle.pico_base.specs.declared.call.Home.{Home}
use Rattle.pico_base.specs.declared.call.Home.TheVariants as homes
use Rattle.pico_base.specs.declared.numbers.Name.{Name}
use Rattle.pico_base.specs.declared.reply.Reply.{Reply}
use Rattle.pico_base.specs.declared.script.Script.{Script}
use Rattle.pico_base.specs.Home.{home_of}
use Rattle.rpc_frame.specs.declared.asked.Asked.{Asked}
use Rattle.rpc_frame.specs.declared.frame.Frame.TheVariants as frames
use Rattle.waiting_model.specs.Calls.{is_withdrawal}
use Rattle.node_model.specs.Cache.{learn, forget}
use Rattle.node_model.specs.Leases.{leases_hold}
use Rattle.node_model.specs.Caller.{answer_call}
use Rattle.world_model.specs.Node.{Node, is_leader, is_born, holds, under_way_as, is_node}
use Rattle.world_model.specs.Step.{Step, step_to, send}
use Rattle.world_model.specs.Serving.{serve_asked, serve_nobody}
use Rattle.world_model.specs.Routes.{route_call}
use Rattle.world_model.specs.Starting.{ask}

-- at the leader, from another node; and at another node that is born, from the leader
abbrev pub is_to_leader : Node → ℕ → Bool
is_to_leader n from = is_leader n && not (nat_eq from 1)

abbrev pub is_from_leader : Node → ℕ → Bool
is_from_leader n from = not (is_leader n) && (is_born n && nat_eq from 1)

-- calls by their home
abbrev pub is_on_name : Home → Bool
is_on_name (homes.At name) = true
is_on_name home = false

abbrev pub is_on_name_or_removal : Home → Bool
is_on_name_or_removal (homes.At name) = true
is_on_name_or_removal (homes.Removal name) = true
is_on_name_or_removal home = false

abbrev pub is_for_others : Home → Bool
is_for_others (homes.At name) = true
is_for_others (homes.Removal name) = true
is_for_others homes.Keys = true
is_for_others home = false

-- a call of a script that is for others; a withdrawal goes by a frame of its own
abbrev pub asks_as : (Home → Bool) → ℕ → Call → Bool
asks_as is_home pid call = is_home (home_of pid call) && not (is_withdrawal call)

-- the Ask rule
abbrev pub take_ask : Script → Node → ℕ → ℕ → ℕ → Call → Option Step
take_ask script n from ticket pid call =
    if is_to_leader n from && asks_as is_for_others pid call
    then route_call script (step_to n) (record { caller = from; ticket = ticket; pid = pid; call = call })
    else None

-- the Bounce rule
abbrev pub take_bounce : Script → Node → ℕ → Asked → Option Step
take_bounce script n from asked =
    if is_to_leader n from && (is_node script asked.caller && asks_as is_on_name_or_removal asked.pid asked.call)
    then route_call script (step_to n) asked
    else None

-- the Forward rule: the owner serves the call; a number that isn't given out yet names nothing; else the name has gone
abbrev pub bounce : Node → Asked → Step
bounce n asked = send (step_to n) 1 (frames.Bounce asked)

abbrev pub bounce_or_nobody : Script → Node → Asked → Name → Step
bounce_or_nobody script n asked name =
    if leases_hold n.leases name then serve_nobody script (step_to n) name asked else bounce n asked

abbrev pub forwarded_by : Script → Node → Asked → Home → Option Step
forwarded_by script n asked (homes.At name) =
    if holds n name then serve_asked script (step_to n) name asked else Some (bounce_or_nobody script n asked name)
forwarded_by script n asked (homes.Removal name) =
    if holds n name then Some (bounce n asked) else Some (bounce_or_nobody script n asked name)
forwarded_by script n asked home = None

abbrev pub take_forward : Script → Node → ℕ → Asked → Option Step
take_forward script n from asked =
    if is_from_leader n from && (is_node script asked.caller && not (is_withdrawal asked.call))
    then forwarded_by script n asked (home_of asked.pid asked.call)
    else None

-- the Request rule
abbrev pub requested_by : Script → Node → Asked → Home → Option Step
requested_by script n asked (homes.At name) =
    if holds n name
    then serve_asked script (step_to n) name asked
    else Some (send (step_to n) asked.caller (frames.NotOwner asked.ticket))
requested_by script n asked home = None

abbrev pub take_request : Script → Node → ℕ → ℕ → ℕ → Call → Option Step
take_request script n from ticket pid call =
    if (is_born n && not (nat_eq from n.number)) && not (is_withdrawal call)
    then requested_by script n (record { caller = from; ticket = ticket; pid = pid; call = call }) (home_of pid call)
    else None

-- the NotOwner rule: the cache was out of date, and the leader is asked
abbrev pub with_forgotten : Node → Name → Node
with_forgotten n name = record n { cache = forget n.cache name }

abbrev pub ask_after : Script → Node → Call → Home → Option Step
ask_after script n call (homes.At name) = ask script (step_to (with_forgotten n name)) call
ask_after script n call home = None

abbrev pub take_not_owner : Script → Node → ℕ → Option Step
take_not_owner script n ticket =
    option_and_then (λ call. ask_after script n call (home_of n.pid call)) (under_way_as n ticket)

-- the Answer rule: the call under way has its reply, and the cache learns who owns its name
abbrev pub with_learnt : Node → ℕ → Home → Node
with_learnt n from (homes.At name) = record n { cache = learn n.cache name from }
with_learnt n from home = n

abbrev pub end_with_reply : Script → Node → ℕ → Call → Reply → Node
end_with_reply script n from call reply =
    record (with_learnt n from (home_of n.pid call)) { caller = answer_call script n.number n.caller call reply }

abbrev pub answered_by : Script → Node → ℕ → Reply → Call → Option Step
answered_by script n from reply call =
    if is_for_others (home_of n.pid call) then Some (step_to (end_with_reply script n from call reply)) else None

abbrev pub take_answer : Script → Node → ℕ → ℕ → Reply → Option Step
take_answer script n from ticket reply = option_and_then (answered_by script n from reply) (under_way_as n ticket)
