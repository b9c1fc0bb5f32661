-- What an entry comes to in line: the caller's call, where it has its reply, and then the calls of those whom it wakes.
-- Each of these does in the kernel in which nobody waits what it did in the whole one, where callers wait.
use Rattle.std.specs.Prelude.{◌≡◌, ℕ, true, List, [], ◌∷◌, ◌++◌, Option, Some, None}
use Rattle.std.specs.List.{AllByRecursion}
use Rattle.pico_base.specs.declared.call.Call.{Call}
use Rattle.pico_base.specs.declared.call.Call.TheVariants as calls
use Rattle.pico_base.specs.declared.reply.Entry.{Entry}
use Rattle.pico_base.specs.declared.reply.Reply.{Reply}
use Rattle.number_maps.specs.Rising.{IsRising}
use Rattle.kernel_model.specs.Row as plain_rows
use Rattle.kernel_model.specs.Kernel as plain
use Rattle.kernel_model.specs.Transition as plain_steps
use Rattle.kernel_model.specs.History.{number_in}
use Rattle.waiting_model.specs.Calls.{may_park}
use Rattle.waiting_model.specs.Kernel.{Kernel, opening}
use Rattle.waiting_model.specs.Transition.{successor, transition}
use Rattle.waiting_model.specs.History.{Replays}
use Rattle.waiting_model.specs.Linear.{LeadInLine, in_line, line_of}
use Rattle.waiting_laws.specs.InLine.{IsAlike}
use Rattle.waiting_laws.specs.Parked.{mark_in}
use Rattle.waiting_laws.specs.Sound.{IsSound}

-- ---- the lines of an entry, by the kernel before it

abbrev pub own_line : ℕ → ℕ → Call → Option Reply → List Entry
own_line node pid call None = []
own_line node pid call (Some reply) = line_of node pid call reply ∷ []

-- a wait has this reply: it is of the call with which the process is marked
abbrev pub marked_line : ℕ → ℕ → Option Call → Reply → List Entry
marked_line node pid None reply = []
marked_line node pid (Some call) reply = line_of node pid call reply ∷ []

abbrev pub wait_line : Kernel → ℕ → ℕ × Reply → List Entry
wait_line k node w = marked_line node w.0 (mark_in k.processes w.0) w.1

abbrev pub wait_lines : Kernel → ℕ → List (ℕ × Reply) → List Entry
wait_lines k node [] = []
wait_lines k node (w ∷ woken) = wait_line k node w ++ wait_lines k node woken

abbrev pub withdrawn_line : Kernel → ℕ → ℕ → Option Reply → List Entry
withdrawn_line k node pid None = []
withdrawn_line k node pid (Some reply) = wait_line k node (pid, reply)

abbrev pub lines_by : Kernel → Entry → Call → List Entry
lines_by k e (calls.Withdraw name) = withdrawn_line k e.by e.pid e.outcome.own
lines_by k e call = own_line e.by e.pid call e.outcome.own ++ wait_lines k e.by e.outcome.woken

abbrev pub lines_of : Kernel → Entry → List Entry
lines_of k e = lines_by k e e.call

-- In line, a legal history with one more entry has its lines behind those before.
abbrev pub LinesGoOn : Type 0
LinesGoOn =
    (h : List Entry) (k : Kernel) (e : Entry) (next : Kernel) → Replays opening h k
    → transition k e.pid e.call (number_in e.outcome.own) ≡ Some (successor next e.outcome)
    → in_line (h ++ e ∷ []) ≡ in_line h ++ lines_of k e

-- ---- where they lead

-- no process is parked but with a call that may have to wait
abbrev pub OnlyWaitsPark : Kernel → Type 0
OnlyWaitsPark k = (pid : ℕ) (call : Call) → mark_in k.processes pid ≡ Some call → may_park call ≡ true

abbrev pub ReachableKernelsParkWaits : Type 0
ReachableKernelsParkWaits = (h : List Entry) (k : Kernel) → Replays opening h k → OnlyWaitsPark k

-- each of these processes, if it lives, may make its call
abbrev pub MayMakeLine : plain.Kernel → Entry → Type 0
MayMakeLine k l =
    (a : plain_rows.Alive) → plain.living_at k l.pid ≡ Some a → plain_steps.may_make a l.call ≡ true

abbrev pub MayMakeLines : plain.Kernel → List Entry → Type 0
MayMakeLines k lines = AllByRecursion (MayMakeLine k) lines

-- they lead to a kernel that is alike
pub record LeadsAlike (k : plain.Kernel) (lines : List Entry) (next : Kernel) : Type 0 where
  pub last : plain.Kernel
  pub leads : LeadInLine k lines last
  pub alike : IsAlike next last

-- From alike kernels an entry and its lines lead to alike ones, where each process of the lines may make its call.
abbrev pub EntriesLeadInLine : Type 0
EntriesLeadInLine =
    (whole next : Kernel) (k : plain.Kernel) (e : Entry) → IsSound whole → OnlyWaitsPark whole → IsAlike whole k
    → IsRising k.processes → MayMakeLines k (lines_of whole e)
    → transition whole e.pid e.call (number_in e.outcome.own) ≡ Some (successor next e.outcome)
    → LeadsAlike k (lines_of whole e) next

-- and they lead to no other one
abbrev pub LinesHaveOneEnd : Type 0
LinesHaveOneEnd = (k a b : plain.Kernel) (lines : List Entry) → LeadInLine k lines a → LeadInLine k lines b → a ≡ b
