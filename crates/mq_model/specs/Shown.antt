-- The history of POSIX message queues that a journal of the script of System V stands for.
use Rattle.std.specs.Prelude.{◌≡◌, ℕ, List, [], ◌∷◌, Option, Some, None}
use Rattle.pico_base.specs.declared.call.Call.{Call}
use Rattle.pico_base.specs.declared.call.Call.TheVariants as calls
use Rattle.pico_base.specs.declared.reply.Entry.{Entry}
use Rattle.pico_base.specs.declared.script.Script.{Script}
use Rattle.number_maps.specs.Maps.{get}
use Rattle.kernel_model.specs.Fitting.{due}
use Rattle.waiting_model.specs.Fitting.{Places, Progress, opening_places, places_after}
use Rattle.mq_model.specs.Calls.{MqEntry}
use Rattle.mq_model.specs.SystemV.{shown}

-- the call of the given script that is due for a process
abbrev pub due_in : Option Progress → Option Call
due_in None = None
due_in (Some p) = due p.place

-- a look at the pending signals may stand for a call that its arguments refuse
abbrev pub stands_for : Call → Option Call → Option Call
stands_for calls.SigPending given = given
stands_for call given = None

abbrev pub shown_at : Entry → Option Progress → MqEntry
shown_at e progress = shown e (stands_for e.call (due_in progress))

-- where the processes are in their blocks of the given script, which are those of the script of System V line for line
abbrev pub places_behind : Script → Places → Entry → Option Progress → Places
places_behind given places e None = places
places_behind given places e (Some p) = places_after given places e p

abbrev pub history_from : Script → Places → List Entry → List MqEntry
history_from given places [] = []
history_from given places (e ∷ es) =
    let progress : Option Progress = get places e.pid
    in shown_at e progress ∷ history_from given (places_behind given places e progress) es

abbrev pub history_of : Script → List Entry → List MqEntry
history_of given journal = history_from given (opening_places given) journal
