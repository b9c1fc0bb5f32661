-- How an entry changes the marks of processes.
use Rattle.std.specs.Prelude.{◌≡◌, ℕ, nat_eq, if◌then◌else◌, List, Option, Some, None}
use Rattle.pico_base.specs.declared.call.Call.{Call}
use Rattle.pico_base.specs.declared.reply.Entry.{Entry}
use Rattle.pico_base.specs.declared.reply.Reply.{Reply}
use Rattle.waiting_model.specs.Kernel.{Kernel, opening}
use Rattle.waiting_model.specs.Transition.{Successor, transition}
use Rattle.waiting_model.specs.History.{Replays}
use Rattle.waiting_laws.specs.Parked.{mark_in}
use Rattle.waiting_laws.specs.Woken.{woken_in}

-- the caller's mark: a call without a reply is what it waits with
abbrev pub own_mark : Call → Option Reply → Option Call
own_mark call None = Some call
own_mark call (Some reply) = None

-- The caller has the mark of its call, whoever is woken has none, and all others have theirs.
abbrev pub MovesMarks : Kernel → ℕ → Call → Successor → Type 0
MovesMarks k pid call s =
    (q : ℕ)
    → mark_in s.kernel.processes q
    ≡ (if nat_eq pid q then own_mark call s.outcome.own
    else if woken_in q s.outcome.woken then None else mark_in k.processes q)

-- each entry behind a legal history
abbrev pub ReachableEntriesMoveMarks : Type 0
ReachableEntriesMoveMarks = (h : List Entry) (k : Kernel) → Replays opening h k → (pid : ℕ) (call : Call) (n : ℕ)
    → (s : Successor) → transition k pid call n ≡ Some s → MovesMarks k pid call s
