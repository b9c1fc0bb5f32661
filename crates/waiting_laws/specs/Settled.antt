-- Between entries nobody waits whose call could go on.
use Rattle.std.specs.Prelude.{◌≡◌, ℕ, List, Some}
use Rattle.pico_base.specs.declared.call.Call.{Call}
use Rattle.pico_base.specs.declared.reply.Entry.{Entry}
use Rattle.waiting_model.specs.Waiters.{IsSettled}
use Rattle.waiting_model.specs.Queue.{try_queue}
use Rattle.waiting_model.specs.SemaphoreSet.{try_set}
use Rattle.waiting_model.specs.Kernel.{Kernel, opening}
use Rattle.waiting_model.specs.Transition.{Successor, transition}
use Rattle.waiting_model.specs.History.{Replays}
use Rattle.waiting_model.specs.Plain.{AllValues}

-- no waiter's try gives a reply, at any queue and at any set
pub record NobodyCouldGoOn (k : Kernel) : Type 0 where
  pub queues : AllValues (IsSettled try_queue) k.queues
  pub sets : AllValues (IsSettled try_set) k.sets

-- each entry leads from such a kernel to one of that kind
abbrev pub EntriesSettle : Type 0
EntriesSettle = (k : Kernel) (pid : ℕ) (call : Call) (n : ℕ) (s : Successor) → NobodyCouldGoOn k
    → transition k pid call n ≡ Some s → NobodyCouldGoOn s.kernel

-- and so does each legal history
abbrev pub ReachableKernelsAreSettled : Type 0
ReachableKernelsAreSettled = (h : List Entry) (k : Kernel) → Replays opening h k → NobodyCouldGoOn k
