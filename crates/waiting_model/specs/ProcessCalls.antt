-- The calls on processes (POSIX.1-2017: fork, _Exit, waitpid, kill, sigaction, sigprocmask).
use Rattle.std.specs.Prelude.{ℕ, Bool, nat_eq, if◌then◌else◌, List, [], ◌∷◌, Option, Some, None, Result, Ok, Err, fold}
use Rattle.pico_base.specs.declared.reply.Errno.{Errno}
use Rattle.pico_base.specs.declared.reply.Errno.TheVariants.{Einval, Esrch, Echild}
use Rattle.pico_base.specs.declared.reply.Reply.TheVariants as replies
use Rattle.pico_base.specs.declared.reply.Ending.{Ending}
use Rattle.pico_base.specs.declared.signal.Sig.TheVariants.{Chld}
use Rattle.pico_base.specs.declared.signal.SigArg.{SigArg}
use Rattle.pico_base.specs.declared.signal.SigArg.TheVariants.{Zero, Is, Bad}
use Rattle.number_maps.specs.Maps.{Numbered, get, put, used_with}
use Rattle.kernel_model.specs.Effect.{is_fresh}
use Rattle.kernel_model.specs.Signals.{Signals, raise}
use Rattle.kernel_model.specs.Row.{EndedChild, Family, Waited, Found, NotYet, NoChild, child_row, with_child, family_after_end, without_ended, ignores_children, wait}
use Rattle.waiting_model.specs.Marks.{Alive, new_marks, with_signals_of, with_family, after_reply, raise_by_other, awaited_children}
use Rattle.waiting_model.specs.Kernel.{Kernel, Process, Living, Ended, Gone, Parent, parent_in, with_alive}
use Rattle.waiting_model.specs.Effect.{Effect, reply_with, replying, refuse, park}
use Rattle.waiting_model.specs.declared.callers.Wake.{Wake}

-- fork: a new process with a row of its own, which the caller lists. It isn't parked, and nothing has struck it
abbrev pub parent_after_fork : Alive → ℕ → Alive
parent_after_fork a n = with_family a (with_child a.row.family n)

abbrev pub new_child : Alive → Alive
new_child a = record { row = child_row a.row; marks = new_marks }

abbrev pub processes_after_fork : Numbered Process → ℕ → Alive → ℕ → Numbered Process
processes_after_fork ps pid a n = put (put ps n (Living (new_child a))) pid (Living (parent_after_fork a n))

abbrev pub fork_effect : Kernel → ℕ → Alive → ℕ → Option Effect
fork_effect k pid a n =
    if is_fresh k.used_processes n
    then Some (reply_with
    (record k {
      processes = processes_after_fork k.processes pid a n;
      used_processes =
          used_with k.used_processes n;
    }) n)
    else None

-- The end of a process (_Exit: consequences of the end of a process). Its own ended children are gone, and its living
-- ones have no parent. Without a living parent it is gone itself; else the parent keeps its ending, unless it ignores
-- its children. A parent that waits for children may then have its reply; if that is a child, the child is gone. CHLD
-- is raised last, so that it strikes a parent that was woken (profile: the standard has no order of the two).
abbrev pub bury : Numbered Process → EndedChild → Numbered Process
bury ps e = put ps e.pid Gone

abbrev pub bury_all : Numbered Process → Family → Numbered Process
bury_all ps f = fold bury ps f.ended

abbrev pub process_after_end : Bool → Ending → Process
process_after_end ignored ending = if ignored then Gone else Ended ending

-- what a parent's parked waitpid finds; one that isn't parked in it goes on as it is
abbrev pub found_for : Family → Option (Option ℕ) → Waited
found_for f None = NotYet
found_for f (Some which) = wait f which

abbrev pub found_after_end : Alive → ℕ → Ending → Waited
found_after_end a child ending =
    found_for (family_after_end a.row.family child ending (ignores_children a.row)) (awaited_children a.marks.parked)

-- the child that was found is gone
abbrev pub bury_found : Numbered Process → Waited → Numbered Process
bury_found ps (Found child ending) = put ps child Gone
bury_found ps NotYet = ps
bury_found ps NoChild = ps

abbrev pub after_waiting : Alive → Waited → Alive
after_waiting a (Found child ending) = after_reply (with_family a (without_ended child a.row.family))
after_waiting a NotYet = a
after_waiting a NoChild = after_reply a

abbrev pub wakes_of_parent : ℕ → Waited → List Wake
wakes_of_parent parent (Found child ending) =
    record { caller = 0; ticket = 0; pid = parent; reply = replies.Child child ending } ∷ []
wakes_of_parent parent NotYet = []
wakes_of_parent parent NoChild = record { caller = 0; ticket = 0; pid = parent; reply = replies.Fail Echild } ∷ []

abbrev pub raise_chld : Bool → Alive → Alive
raise_chld ignored a = if ignored then a else raise_by_other a Chld

abbrev pub parent_after_end : Alive → ℕ → Ending → Alive
parent_after_end a child ending =
    let ignored = ignores_children a.row
    in let bereft = with_family a (family_after_end a.row.family child ending ignored)
    in raise_chld ignored (after_waiting bereft (found_after_end a child ending))

abbrev pub end_under : Numbered Process → ℕ → Ending → Option Parent → Numbered Process
end_under ps pid ending None = put ps pid Gone
end_under ps pid ending (Some p) =
    put
    (bury_found (put ps pid (process_after_end (ignores_children p.alive.row) ending))
    (found_after_end p.alive pid ending))
    p.pid
    (Living (parent_after_end p.alive pid ending))

abbrev pub wakes_under : ℕ → Ending → Option Parent → List Wake
wakes_under pid ending None = []
wakes_under pid ending (Some p) = wakes_of_parent p.pid (found_after_end p.alive pid ending)

abbrev pub end_process : Kernel → ℕ → Alive → Ending → Effect
end_process k pid a ending =
    record {
      kernel = record k {
        processes = end_under (bury_all k.processes a.row.family) pid ending (parent_in pid k.processes);
      };
      own = Some replies.Ended;
      wakes = wakes_under pid ending (parent_in pid k.processes);
    }

-- waitpid: the ended child is gone. Where only living children match, the call has to wait, or replies 0 with WNOHANG.
-- ECHILD where no child matches
abbrev pub parent_after_wait : Alive → ℕ → Alive
parent_after_wait a child = with_family a (without_ended child a.row.family)

abbrev pub processes_after_wait : Numbered Process → ℕ → Alive → ℕ → Numbered Process
processes_after_wait ps pid a child = put (put ps pid (Living (parent_after_wait a child))) child Gone

abbrev pub reap_child : Kernel → ℕ → Alive → Bool → Waited → Effect
reap_child k pid a nohang (Found child ending) =
    replying (record k { processes = processes_after_wait k.processes pid a child }) (replies.Child child ending)
reap_child k pid a nohang NotYet = if nohang then reply_with k 0 else park k
reap_child k pid a nohang NoChild = refuse k Echild

abbrev pub with_signals : Kernel → ℕ → Alive → Signals → Kernel
with_signals k pid a s = with_alive k pid (with_signals_of a s)

-- sigaction
abbrev pub action_effect : Kernel → ℕ → Alive → Result Signals Errno → Effect
action_effect k pid a (Ok s) = reply_with (with_signals k pid a s) 0
action_effect k pid a (Err e) = refuse k e

-- kill: a signal to oneself, or to another process, which it may strike. The number 0 sends none
abbrev pub signal_living : Kernel → ℕ → ℕ → Alive → SigArg → Effect
signal_living k caller pid target Zero = reply_with k 0
signal_living k caller pid target Bad = refuse k Einval
signal_living k caller pid target (Is g) =
    reply_with
    (if nat_eq caller pid
    then with_signals k pid target (raise target.row.signals g)
    else with_alive k pid (raise_by_other target g))
    0

-- ESRCH for no process. One that has ended but isn't gone can be sent a signal, which does nothing (kill)
abbrev pub kill_at : Kernel → ℕ → ℕ → SigArg → Option Process → Effect
kill_at k caller pid sig None = refuse k Esrch
kill_at k caller pid sig (Some Gone) = refuse k Esrch
kill_at k caller pid sig (Some (Ended ending)) = reply_with k 0
kill_at k caller pid sig (Some (Living target)) = signal_living k caller pid target sig

-- EINVAL for a number that is no signal's, before anything else (profile)
abbrev pub kill : Kernel → ℕ → ℕ → SigArg → Effect
kill k caller pid Bad = refuse k Einval
kill k caller pid Zero = kill_at k caller pid Zero (get k.processes pid)
kill k caller pid (Is g) = kill_at k caller pid (Is g) (get k.processes pid)
