-- The calls on processes (POSIX.1-2017: fork, _Exit, waitpid, kill, sigaction, sigprocmask). The order of each call's
-- refusals is the profile's.
use Rattle.std.specs.Prelude.{ℕ, Bool, nat_eq, if◌then◌else◌, Option, Some, None, Result, Ok, Err, fold}
use Rattle.pico_base.specs.declared.reply.Errno.{Errno}
use Rattle.pico_base.specs.declared.reply.Errno.TheVariants.{Einval, Esrch, Echild}
use Rattle.pico_base.specs.declared.reply.Reply.TheVariants as replies
use Rattle.pico_base.specs.declared.reply.Ending.{Ending}
use Rattle.pico_base.specs.declared.signal.SigArg.{SigArg}
use Rattle.pico_base.specs.declared.signal.SigArg.TheVariants.{Zero, Is, Bad}
use Rattle.number_maps.specs.Maps.{Numbered, get, put, used_with}
use Rattle.kernel_model.specs.Signals.{Signals, raise}
use Rattle.kernel_model.specs.Row.{Alive, EndedChild, Family, Free, Waited, Found, NotYet, NoChild, child_row, with_child, with_ended_child, without_ended, ignores_children, raise_by_other}
use Rattle.kernel_model.specs.Kernel.{Kernel, Process, Living, Ended, Gone, Parent, parent_in, with_alive}
use Rattle.kernel_model.specs.Effect.{Effect, reply_with, refuse, is_fresh}

-- fork: a new process with a row of its own, which the caller lists
abbrev pub parent_after_fork : Alive → ℕ → Alive
parent_after_fork a n = record a { row = record { signals = a.row.signals; family = with_child a.row.family n } }

abbrev pub new_child : Alive → Alive
new_child a = record { row = child_row a.row; allowance = Free }

abbrev pub processes_after_fork : Numbered Process → ℕ → Alive → ℕ → Numbered Process
processes_after_fork ps pid a n = put (put ps n (Living (new_child a))) pid (Living (parent_after_fork a n))

abbrev pub fork_effect : Kernel → ℕ → Alive → ℕ → Option Effect
fork_effect k pid a n =
    if is_fresh k.used_processes n
    then Some (reply_with
    (record k {
      processes = processes_after_fork k.processes pid a n;
      used_processes =
          used_with k.used_processes n;
    }) n)
    else None

-- The end of a process (_Exit: consequences of the end of a process). Its own ended children are gone, and its living
-- ones have no parent. Without a living parent it is gone itself; else the parent keeps its ending, unless it ignores
-- its children.
abbrev pub bury : Numbered Process → EndedChild → Numbered Process
bury ps e = put ps e.pid Gone

abbrev pub bury_all : Numbered Process → Family → Numbered Process
bury_all ps f = fold bury ps f.ended

abbrev pub process_after_end : Bool → Ending → Process
process_after_end ignored ending = if ignored then Gone else Ended ending

abbrev pub end_under : Numbered Process → ℕ → Ending → Option Parent → Numbered Process
end_under ps pid ending None = put ps pid Gone
end_under ps pid ending (Some p) =
    put (put ps pid (process_after_end (ignores_children p.alive.row) ending)) p.pid
    (Living (with_ended_child p.alive pid ending))

abbrev pub processes_after_end : Numbered Process → ℕ → Alive → Ending → Numbered Process
processes_after_end ps pid a ending = end_under (bury_all ps a.row.family) pid ending (parent_in pid ps)

abbrev pub end_process : Kernel → ℕ → Alive → Ending → Effect
end_process k pid a ending =
    record { kernel = record k { processes = processes_after_end k.processes pid a ending }; reply = replies.Ended }

-- waitpid: the ended child is gone. A pending CHLD stays pending (profile: waitpid would clear it where no other child
-- has ended). ECHILD where no child matches
abbrev pub parent_after_wait : Alive → ℕ → Alive
parent_after_wait a child =
    record a { row = record { signals = a.row.signals; family = without_ended child a.row.family } }

abbrev pub processes_after_wait : Numbered Process → ℕ → Alive → ℕ → Numbered Process
processes_after_wait ps pid a child = put (put ps pid (Living (parent_after_wait a child))) child Gone

abbrev pub reap_child : Kernel → ℕ → Alive → Waited → Effect
reap_child k pid a (Found child ending) =
    record {
      kernel = record k { processes = processes_after_wait k.processes pid a child };
      reply =
          replies.Child child ending;
    }
reap_child k pid a NotYet = reply_with k 0
reap_child k pid a NoChild = refuse k Echild

abbrev pub with_signals : Kernel → ℕ → Alive → Signals → Kernel
with_signals k pid a s = with_alive k pid (record a { row = record { signals = s; family = a.row.family } })

-- sigaction
abbrev pub action_effect : Kernel → ℕ → Alive → Result Signals Errno → Effect
action_effect k pid a (Ok s) = reply_with (with_signals k pid a s) 0
action_effect k pid a (Err e) = refuse k e

-- kill: a signal to oneself, or to another process. The number 0 sends none. It takes effect at once (profile: System
-- Interfaces 2.4 lets it wait, and merge with another of its kind, until the target runs)
abbrev pub signal_living : Kernel → ℕ → ℕ → Alive → SigArg → Effect
signal_living k caller pid target Zero = reply_with k 0
signal_living k caller pid target Bad = refuse k Einval
signal_living k caller pid target (Is g) =
    reply_with
    (if nat_eq caller pid
    then with_signals k pid target (raise target.row.signals g)
    else with_alive k pid (raise_by_other target g))
    0

-- ESRCH for no process. One that has ended but isn't gone can be sent a signal, which does nothing (kill)
abbrev pub kill_at : Kernel → ℕ → ℕ → SigArg → Option Process → Effect
kill_at k caller pid sig None = refuse k Esrch
kill_at k caller pid sig (Some Gone) = refuse k Esrch
kill_at k caller pid sig (Some (Ended ending)) = reply_with k 0
kill_at k caller pid sig (Some (Living target)) = signal_living k caller pid target sig

-- EINVAL for a number that is no signal's, before anything else (profile)
abbrev pub kill : Kernel → ℕ → ℕ → SigArg → Effect
kill k caller pid Bad = refuse k Einval
kill k caller pid Zero = kill_at k caller pid Zero (get k.processes pid)
kill k caller pid (Is g) = kill_at k caller pid (Is g) (get k.processes pid)
