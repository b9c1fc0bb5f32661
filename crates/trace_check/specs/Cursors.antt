-- The processes of a history, each with its place in its block and the call that waits there, as the code keeps them.
use Rattle.std.specs.Prelude.{◌≡◌, ℕ, Bool, true, false, [], map, fold, if◌then◌else◌, Option, Some, None, is_some, IsTrue, IfSome}
use Rattle.std.specs.List.{AllByRecursion}
use Rattle.std.specs.Option.{option_and_then, option_map_or}
use Rattle.pico_base.specs.declared.call.Call.{Call}
use Rattle.pico_base.specs.declared.call.Call.TheVariants.{Fork, Withdraw}
use Rattle.pico_base.specs.declared.reply.Reply.{Reply}
use Rattle.pico_base.specs.declared.reply.Reply.TheVariants.{Num}
use Rattle.pico_base.specs.declared.reply.Outcome.{Outcome}
use Rattle.pico_base.specs.declared.script.Script.{Script}
use Rattle.pico_base.specs.declared.signal.Sig.{Sig}
use Rattle.number_maps.specs.Maps.{Numbered, get, put}
use Rattle.kernel_model.specs.Script.{Vars}
use Rattle.kernel_model.specs.Fitting.{Place, child_vars, due, is_killed}
use Rattle.waiting_model.specs.Fitting.{Progress, Places}
use Rattle.node_calls.specs.Caller as callers
use Rattle.trace_check.specs.declared.cursor.Cursor.{Cursor}
use Rattle.trace_check.specs.FirstFault.{due_of, may_follow, first_going}

-- a process that a signal has ended has nothing more to do
abbrev pub ended_if : Bool → Place → Place
ended_if false place = place
ended_if true place = record place { left = [] }

abbrev pub place_of : Script → Cursor → Place
place_of script c = ended_if c.is_killed (callers.place_of script c.caller)

-- its call is under way exactly while it waits
abbrev pub progress_of : Script → Cursor → Progress
progress_of script c = record { place = place_of script c; parked = is_some c.caller.caller.under_way }

-- no call is under way
abbrev pub IsIdle : Cursor → Type 0
IsIdle c = c.caller.caller.under_way ≡ None

-- What is under way is the call that is due, and the variables come by rising variable.
pub record IsSteady (script : Script) (c : Cursor) : Type 0 where
  pub waits : IfSome c.caller.caller.under_way (λ call. due (place_of script c) ≡ Some call)
  pub rising : IsTrue (callers.are_rising c.caller.caller.vars)

abbrev pub AreSteady : Script → Numbered Cursor → Type 0
AreSteady script cursors = AllByRecursion (λ e. IsSteady script e.1) cursors

abbrev pub beginning : ℕ → Vars → Cursor
beginning block vars = record { caller = callers.beginning block vars; is_killed = false }

-- An entry of a process.

-- the process has made this call, and has this reply
abbrev pub moved : Script → Cursor → Call → Reply → Cursor
moved script c call reply =
    if is_killed call
    then record c { is_killed = true }
    else record c { caller = callers.answered script (callers.started c.caller call) call reply }

-- the call that is due waits
abbrev pub parked_with : Cursor → Option Call → Cursor
parked_with c None = c
parked_with c (Some call) = record c { caller = callers.started c.caller call }

abbrev pub parked : Script → Cursor → Cursor
parked script c = parked_with c (due (place_of script c))

-- the call that waits, if one does, has this reply
abbrev pub answered_with : Script → Cursor → Reply → Option Call → Cursor
answered_with script c reply None = c
answered_with script c reply (Some call) = record c { caller = callers.answered script c.caller call reply }

abbrev pub answered : Script → Cursor → Reply → Cursor
answered script c reply = answered_with script c reply c.caller.caller.under_way

abbrev pub after_own : Script → Cursor → Call → Option Reply → Cursor
after_own script c call None = parked script c
after_own script c call (Some reply) = moved script c call reply

abbrev pub after_withdrawal : Script → Cursor → Option Reply → Cursor
after_withdrawal script c None = c
after_withdrawal script c (Some reply) = answered script c reply

abbrev pub after_call : Script → Cursor → Call → Option Reply → Cursor
after_call script c (Withdraw name) own = after_withdrawal script c own
after_call script c call own = after_own script c call own

-- All processes.

-- how far each is
abbrev pub places_of : Script → Numbered Cursor → Places
places_of script cursors = map (λ e. (e.0, progress_of script e.1)) cursors

-- a call that is due, where this signal ends the process next
abbrev pub due_in : Script → Numbered Cursor → ℕ → Option Sig → Option Call
due_in script cursors pid doom =
    option_and_then (λ c. due_of pid doom (progress_of script c)) (get cursors pid)

abbrev pub may_come_in : Script → Numbered Cursor → ℕ → Option Sig → Call → Bool
may_come_in script cursors pid doom found =
    option_map_or (λ c. may_follow script pid doom (progress_of script c) found) (get cursors pid) false

abbrev pub first_going_of : Script → Numbered Cursor → Option ℕ
first_going_of script cursors = first_going (places_of script cursors)

-- but for a withdrawal, a process makes a call where one is due, and none is under way
abbrev pub MayMake : Script → Cursor → Call → Type 0
MayMake script c (Withdraw name) = Unit {0}
MayMake script c call = IsIdle c × IsTrue (is_some (due (place_of script c)))

abbrev pub MayMakeAt : Script → Numbered Cursor → ℕ → Call → Type 0
MayMakeAt script cursors pid call = IfSome (get cursors pid) (λ c. MayMake script c call)

-- a call that may make a process
abbrev pub may_fork : Call → Bool
may_fork (Fork block) = true
may_fork call = false

-- the process that a call of this one forks with this reply, and its number
abbrev pub forked_by : Script → Cursor → Call → Option Reply → Option (ℕ × Cursor)
forked_by script parent (Fork block) (Some (Num child)) =
    Some (child, beginning block (child_vars (place_of script parent)))
forked_by script parent call own = None

abbrev pub with_forked : Numbered Cursor → Option (ℕ × Cursor) → Numbered Cursor
with_forked cursors None = cursors
with_forked cursors (Some child) = put cursors child.0 child.1

-- of a process that is there or isn't
abbrev pub forked_at : Script → Option Cursor → Call → Option Reply → Option (ℕ × Cursor)
forked_at script o call own = option_and_then (λ c. forked_by script c call own) o

abbrev pub moved_at : Script → Numbered Cursor → ℕ → Call → Option Reply → Option Cursor → Numbered Cursor
moved_at script cursors pid call own None = cursors
moved_at script cursors pid call own (Some c) = put cursors pid (after_call script c call own)

-- those who are woken go on
abbrev pub woken_at : Script → Numbered Cursor → ℕ × Reply → Option Cursor → Numbered Cursor
woken_at script cursors w None = cursors
woken_at script cursors w (Some c) = put cursors w.0 (answered script c w.1)

abbrev pub after_woken : Script → Numbered Cursor → ℕ × Reply → Numbered Cursor
after_woken script cursors w = woken_at script cursors w (get cursors w.0)

-- the processes after an entry
abbrev pub after_made : Script → Numbered Cursor → ℕ → Call → Option Reply → Option Cursor → Numbered Cursor
after_made script cursors pid call own o =
    with_forked (moved_at script cursors pid call own o) (forked_at script o call own)

abbrev pub moved_on : Script → Numbered Cursor → ℕ → Call → Outcome → Numbered Cursor
moved_on script cursors pid call outcome =
    fold (after_woken script) (after_made script cursors pid call outcome.own (get cursors pid)) outcome.woken
