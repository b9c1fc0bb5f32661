-- The calls on processes, where nobody waits.
use Rattle.std.proofs.Common.{◌≡◌, ◌∙◌, ℕ, Bool, true, false, List, [], ◌∷◌, Option, Some, None, Result, Ok, Err, refl, ap, sym, subst, nat_eq}
use Rattle.std.specs.Prelude.{if◌then◌else◌, fold}
use Rattle.std.specs.Option.{option_map}
use Rattle.pico_base.specs.declared.reply.Errno.{Errno}
use Rattle.pico_base.specs.declared.reply.Errno.TheVariants.{Einval, Esrch, Echild}
use Rattle.pico_base.specs.declared.reply.Ending.{Ending}
use Rattle.pico_base.specs.declared.reply.Reply.TheVariants as replies
use Rattle.pico_base.specs.declared.signal.Sig.TheVariants.{Chld}
use Rattle.pico_base.specs.declared.signal.SigArg.{SigArg}
use Rattle.pico_base.specs.declared.signal.SigArg.TheVariants.{Zero, Is, Bad}
use Rattle.number_maps.specs.Maps.{Numbered, get, put, used_with}
use Rattle.kernel_model.specs.Effect.{is_fresh}
use Rattle.kernel_model.specs.Signals.{Signals, raise}
use Rattle.kernel_model.specs.Row.{EndedChild, Waited, Found, NotYet, NoChild, family_after_end, ignores_children, lists}
use Rattle.kernel_model.specs.Row as plain_rows
use Rattle.kernel_model.specs.Kernel as plain_kernels
use Rattle.kernel_model.specs.ProcessCalls as plain
use Rattle.waiting_model.specs.Marks.{Alive, plain_alive, with_family, with_signals_of, raise_by_other}
use Rattle.waiting_model.specs.Kernel.{Kernel, Process, Living, Ended, Gone, Parent, parent_if, parent_in, with_alive}
use Rattle.waiting_model.specs.Effect.{reply_with}
use Rattle.waiting_model.specs.ProcessCalls.{new_child, parent_after_fork, fork_effect, bury, bury_all, process_after_end, found_after_end, found_for, bury_found, after_waiting, raise_chld, parent_after_end, end_under, wakes_of_parent, wakes_under, end_process, parent_after_wait, processes_after_wait, reap_child, with_signals, action_effect, signal_living, kill_at, kill}
use Rattle.waiting_model.specs.Marks.{awaited_children}
use Rattle.waiting_model.specs.Plain.{each, plain_process, plain_parent, plain_kernel, AllValues, IsUnparked, NobodyWaits}
use Rattle.waiting_laws.proofs.Maps.{get-each, put-each, all-get, all-put}
use Rattle.waiting_laws.proofs.Alike.{Alike, BothAlike, alike-test, alike-replying, alike-processes, alike-with_alive, plain_effect, put-twice}

-- fork

-- the child begins unparked
pub fork-alike : (k : Kernel) → NobodyWaits k → (pid : ℕ) (a : Alive) (n : ℕ) → a.marks.parked ≡ None
    → BothAlike (fork_effect k pid a n) (plain.fork_effect (plain_kernel k) pid (plain_alive a) n)
fork-alike k quiet pid a n unparked =
    alike-test (is_fresh k.used_processes n) _ _
    (record {
      kernel =
          ap
          (λ (ps : Numbered plain_kernels.Process).
          record (plain_kernel k) { processes = ps; used_processes = used_with k.used_processes n })
          (put-twice plain_process k.processes n pid (Living (new_child a)) (Living (parent_after_fork a n)));
      own = refl;
      wakes = refl;
      quiet = record {
        processes =
            all-put IsUnparked (put k.processes n (Living (new_child a))) pid (Living (parent_after_fork a n))
            (all-put IsUnparked k.processes n (Living (new_child a)) quiet.processes refl) unparked;
        queues = quiet.queues;
        sets = quiet.sets;
        queues_rise = quiet.queues_rise;
        sets_rise = quiet.sets_rise;
      };
    })

-- the parent of a process

first-by_test : (child pid : ℕ) (a : Alive) (x : Option Parent) (y : Option plain_kernels.Parent) (b : Bool)
    → y ≡ option_map plain_parent x
    → (if b then Some (let p : plain_kernels.Parent = record { pid = pid; alive = plain_alive a } in p) else y)
    ≡ option_map plain_parent (if b then Some (let p : Parent = record { pid = pid; alive = a } in p) else x)
first-by_test child pid a x y true h = refl
first-by_test child pid a x y false h = h

first-alike : (child pid : ℕ) (p : Process) (x : Option Parent) (y : Option plain_kernels.Parent)
    → y ≡ option_map plain_parent x
    → plain_kernels.parent_if child pid (plain_process p) y ≡ option_map plain_parent (parent_if child pid p x)
first-alike child pid (Living a) x y h = first-by_test child pid a x y (lists a.row.family child) h
first-alike child pid (Ended ending) x y h = h
first-alike child pid Gone x y h = h

-- a child has the same parent in the kernel without marks
pub parent-each : (child : ℕ) (ps : Numbered Process)
    → plain_kernels.parent_in child (each plain_process ps) ≡ option_map plain_parent (parent_in child ps)
parent-each child [] = refl
parent-each child (p ∷ ps) = first-alike child p.0 p.1 (parent_in child ps) _ (parent-each child ps)

abbrev IsUnparkedParent : Option Parent → Type 0
IsUnparkedParent None = Unit {0}
IsUnparkedParent (Some p) = p.alive.marks.parked ≡ None

unparked-by_test : (pid : ℕ) (a : Alive) (x : Option Parent) (b : Bool) → a.marks.parked ≡ None → IsUnparkedParent x
    → IsUnparkedParent (if b then Some (let p : Parent = record { pid = pid; alive = a } in p) else x)
unparked-by_test pid a x true h g = h
unparked-by_test pid a x false h g = g

unparked-first : (child pid : ℕ) (p : Process) (x : Option Parent) → IsUnparked p → IsUnparkedParent x
    → IsUnparkedParent (parent_if child pid p x)
unparked-first child pid (Living a) x h g = unparked-by_test pid a x (lists a.row.family child) h g
unparked-first child pid (Ended ending) x h g = g
unparked-first child pid Gone x h g = g

unparked-parent : (child : ℕ) (ps : Numbered Process) → AllValues IsUnparked ps → IsUnparkedParent (parent_in child ps)
unparked-parent child [] h = tt
unparked-parent child (p ∷ ps) h =
    unparked-first child p.0 p.1 (parent_in child ps) h.0 (unparked-parent child ps h.1)

-- the end of a process

bury-each : (ps : Numbered Process) (es : List EndedChild)
    → fold plain.bury (each plain_process ps) es ≡ each plain_process (fold bury ps es)
bury-each ps [] = refl
bury-each ps (e ∷ es) =
    ap (λ (m : Numbered plain_kernels.Process). fold plain.bury m es) (put-each plain_process ps e.pid Gone)
    ∙ bury-each (put ps e.pid Gone) es

unparked-bury : (ps : Numbered Process) (es : List EndedChild) → AllValues IsUnparked ps
    → AllValues IsUnparked (fold bury ps es)
unparked-bury ps [] h = h
unparked-bury ps (e ∷ es) h = unparked-bury (put ps e.pid Gone) es (all-put IsUnparked ps e.pid Gone h tt)

-- a parent that isn't parked finds nothing
found-nothing : (a : Alive) (child : ℕ) (ending : Ending) → a.marks.parked ≡ None
    → found_after_end a child ending ≡ NotYet
found-nothing a child ending h =
    ap (λ p. found_for (family_after_end a.row.family child ending (ignores_children a.row)) (awaited_children p)) h

abbrev bereft : Alive → ℕ → Ending → Alive
bereft a child ending = with_family a (family_after_end a.row.family child ending (ignores_children a.row))

parent-bereft : (a : Alive) (child : ℕ) (ending : Ending) → a.marks.parked ≡ None
    → parent_after_end a child ending ≡ raise_chld (ignores_children a.row) (bereft a child ending)
parent-bereft a child ending h =
    ap (λ w. raise_chld (ignores_children a.row) (after_waiting (bereft a child ending) w))
    (found-nothing a child ending h)

plain-chld : (b : Bool) (a : Alive)
    → plain_alive (raise_chld b a) ≡ (if b then plain_alive a else plain_rows.raise_by_other (plain_alive a) Chld)
plain-chld true a = refl
plain-chld false a = refl

parked-chld : (b : Bool) (a : Alive) → (raise_chld b a).marks.parked ≡ a.marks.parked
parked-chld true a = refl
parked-chld false a = refl

plain-parent_after_end : (a : Alive) (child : ℕ) (ending : Ending) → a.marks.parked ≡ None
    → plain_alive (parent_after_end a child ending) ≡ plain_rows.with_ended_child (plain_alive a) child ending
plain-parent_after_end a child ending h =
    ap plain_alive (parent-bereft a child ending h) ∙ plain-chld (ignores_children a.row) (bereft a child ending)

unparked-parent_after_end : (a : Alive) (child : ℕ) (ending : Ending) → a.marks.parked ≡ None
    → (parent_after_end a child ending).marks.parked ≡ None
unparked-parent_after_end a child ending h =
    ap (λ (x : Alive). x.marks.parked) (parent-bereft a child ending h)
    ∙ (parked-chld (ignores_children a.row) (bereft a child ending) ∙ h)

plain-process_after_end : (b : Bool) (ending : Ending)
    → plain_process (process_after_end b ending) ≡ plain.process_after_end b ending
plain-process_after_end true ending = refl
plain-process_after_end false ending = refl

unparked-process_after_end : (b : Bool) (ending : Ending) → IsUnparked (process_after_end b ending)
unparked-process_after_end true ending = tt
unparked-process_after_end false ending = tt

-- the processes where a parent has nothing to find
abbrev ended_quietly : Numbered Process → ℕ → Ending → Parent → Numbered Process
ended_quietly ps pid ending p =
    put (put ps pid (process_after_end (ignores_children p.alive.row) ending)) p.pid
    (Living (parent_after_end p.alive pid ending))

ends-quietly : (ps : Numbered Process) (pid : ℕ) (ending : Ending) (p : Parent) → p.alive.marks.parked ≡ None
    → end_under ps pid ending (Some p) ≡ ended_quietly ps pid ending p
ends-quietly ps pid ending p h =
    ap
    (λ w.
    put (bury_found (put ps pid (process_after_end (ignores_children p.alive.row) ending)) w) p.pid
    (Living (parent_after_end p.alive pid ending)))
    (found-nothing p.alive pid ending h)

end-each : (ps : Numbered Process) (pid : ℕ) (ending : Ending) (o : Option Parent) → IsUnparkedParent o
    → each plain_process (end_under ps pid ending o)
    ≡ plain.end_under (each plain_process ps) pid ending (option_map plain_parent o)
end-each ps pid ending None h = sym (put-each plain_process ps pid Gone)
end-each ps pid ending (Some p) h =
    ap (each plain_process) (ends-quietly ps pid ending p h)
    ∙ (put-twice plain_process ps pid p.pid (process_after_end (ignores_children p.alive.row) ending)
    (Living (parent_after_end p.alive pid ending))
    ∙ (ap
    (λ (x : plain_kernels.Process).
    put (put (each plain_process ps) pid x) p.pid
    (plain_kernels.Living (plain_alive (parent_after_end p.alive pid ending))))
    (plain-process_after_end (ignores_children p.alive.row) ending)
    ∙ ap
    (λ (x : plain_rows.Alive).
    put
    (put (each plain_process ps) pid (plain.process_after_end (ignores_children p.alive.row) ending))
    p.pid (plain_kernels.Living x))
    (plain-parent_after_end p.alive pid ending h)))

unparked-end : (ps : Numbered Process) (pid : ℕ) (ending : Ending) (o : Option Parent) → IsUnparkedParent o
    → AllValues IsUnparked ps → AllValues IsUnparked (end_under ps pid ending o)
unparked-end ps pid ending None h all = all-put IsUnparked ps pid Gone all tt
unparked-end ps pid ending (Some p) h all =
    subst (AllValues IsUnparked) (sym (ends-quietly ps pid ending p h))
    (all-put IsUnparked (put ps pid (process_after_end (ignores_children p.alive.row) ending)) p.pid
    (Living (parent_after_end p.alive pid ending))
    (all-put IsUnparked ps pid (process_after_end (ignores_children p.alive.row) ending) all
    (unparked-process_after_end (ignores_children p.alive.row) ending))
    (unparked-parent_after_end p.alive pid ending h))

nobody-woken : (pid : ℕ) (ending : Ending) (o : Option Parent) → IsUnparkedParent o → wakes_under pid ending o ≡ []
nobody-woken pid ending None h = refl
nobody-woken pid ending (Some p) h = ap (wakes_of_parent p.pid) (found-nothing p.alive pid ending h)

-- no parent waits, so none is woken
pub end-alike : (k : Kernel) → NobodyWaits k → (pid : ℕ) (a : Alive) (ending : Ending)
    → Alike (end_process k pid a ending) (plain.end_process (plain_kernel k) pid (plain_alive a) ending)
end-alike k quiet pid a ending =
    let buried = bury_all k.processes a.row.family
    in let parent = parent_in pid k.processes
    in let unparked : IsUnparkedParent parent = unparked-parent pid k.processes quiet.processes
    in record {
      kernel =
          ap (λ (ps : Numbered plain_kernels.Process). record (plain_kernel k) { processes = ps })
          (end-each buried pid ending parent unparked
          ∙ (ap
          (λ (ps : Numbered plain_kernels.Process). plain.end_under ps pid ending (option_map plain_parent parent))
          (sym (bury-each k.processes a.row.family.ended))
          ∙ ap
          (λ (o : Option plain_kernels.Parent).
          plain.end_under (plain.bury_all (each plain_process k.processes) a.row.family) pid ending o)
          (sym (parent-each pid k.processes))));
      own = refl;
      wakes = nobody-woken pid ending parent unparked;
      quiet = record {
        processes =
            unparked-end buried pid ending parent unparked
            (unparked-bury k.processes a.row.family.ended quiet.processes);
        queues = quiet.queues;
        sets = quiet.sets;
        queues_rise = quiet.queues_rise;
        sets_rise = quiet.sets_rise;
      };
    }

-- waitpid with WNOHANG

-- a child that is found is gone, as before
pub reap-alike : (k : Kernel) → NobodyWaits k → (pid : ℕ) (a : Alive) → a.marks.parked ≡ None → (w : Waited)
    → Alike (reap_child k pid a true w) (plain.reap_child (plain_kernel k) pid (plain_alive a) w)
reap-alike k quiet pid a unparked (Found child ending) =
    alike-processes k quiet (processes_after_wait k.processes pid a child)
    (all-put IsUnparked (put k.processes pid (Living (parent_after_wait a child))) child Gone
    (all-put IsUnparked k.processes pid (Living (parent_after_wait a child)) quiet.processes unparked) tt)
    (plain.processes_after_wait (each plain_process k.processes) pid (plain_alive a) child)
    (put-twice plain_process k.processes pid child (Living (parent_after_wait a child)) Gone)
    (replies.Child child ending)
reap-alike k quiet pid a unparked NotYet = alike-replying k quiet (replies.Num 0)
reap-alike k quiet pid a unparked NoChild = alike-replying k quiet (replies.Fail Echild)

-- signals

-- sigaction
pub signals-alike : (k : Kernel) → NobodyWaits k → (pid : ℕ) (a : Alive) → a.marks.parked ≡ None
    → (r : Result Signals Errno)
    → Alike (action_effect k pid a r) (plain.action_effect (plain_kernel k) pid (plain_alive a) r)
signals-alike k quiet pid a unparked (Ok s) =
    alike-with_alive k quiet pid (with_signals_of a s) unparked (replies.Num 0)
signals-alike k quiet pid a unparked (Err e) = alike-replying k quiet (replies.Fail e)

struck-by_test : (k : Kernel) → NobodyWaits k → (pid : ℕ) (a : Alive) → a.marks.parked ≡ None → (s : Signals)
    → (b : Alive) → b.marks.parked ≡ None → (own : Bool)
    → Alike (reply_with (if own then with_signals k pid a s else with_alive k pid b) 0)
    (plain_effect
    (if own then plain.with_signals (plain_kernel k) pid (plain_alive a) s
    else plain_kernels.with_alive (plain_kernel k) pid (plain_alive b))
    (replies.Num 0))
struck-by_test k quiet pid a unparked s b unparked_b true =
    alike-with_alive k quiet pid (with_signals_of a s) unparked (replies.Num 0)
struck-by_test k quiet pid a unparked s b unparked_b false =
    alike-with_alive k quiet pid b unparked_b (replies.Num 0)

struck-alike : (k : Kernel) → NobodyWaits k → (caller pid : ℕ) (a : Alive) → a.marks.parked ≡ None → (sig : SigArg)
    → Alike (signal_living k caller pid a sig) (plain.signal_living (plain_kernel k) caller pid (plain_alive a) sig)
struck-alike k quiet caller pid a unparked Zero = alike-replying k quiet (replies.Num 0)
struck-alike k quiet caller pid a unparked Bad = alike-replying k quiet (replies.Fail Einval)
struck-alike k quiet caller pid a unparked (Is g) =
    struck-by_test k quiet pid a unparked (raise a.row.signals g) (raise_by_other a g) unparked (nat_eq caller pid)

abbrev IsUnparkedSome : Option Process → Type 0
IsUnparkedSome None = Unit {0}
IsUnparkedSome (Some p) = IsUnparked p

unparked-got : (m : Numbered Process) (pid : ℕ) (o : Option Process) → get m pid ≡ o → AllValues IsUnparked m
    → IsUnparkedSome o
unparked-got m pid None h all = tt
unparked-got m pid (Some p) h all = all-get IsUnparked m pid p all h

killed-alike : (k : Kernel) → NobodyWaits k → (caller pid : ℕ) (sig : SigArg) (o : Option Process) → IsUnparkedSome o
    → Alike (kill_at k caller pid sig o)
    (plain.kill_at (plain_kernel k) caller pid sig (option_map plain_process o))
killed-alike k quiet caller pid sig None h = alike-replying k quiet (replies.Fail Esrch)
killed-alike k quiet caller pid sig (Some Gone) h = alike-replying k quiet (replies.Fail Esrch)
killed-alike k quiet caller pid sig (Some (Ended ending)) h = alike-replying k quiet (replies.Num 0)
killed-alike k quiet caller pid sig (Some (Living a)) h = struck-alike k quiet caller pid a h sig

killed-there : (k : Kernel) → NobodyWaits k → (caller pid : ℕ) (sig : SigArg)
    → Alike (kill_at k caller pid sig (get k.processes pid))
    (plain.kill_at (plain_kernel k) caller pid sig (get (each plain_process k.processes) pid))
killed-there k quiet caller pid sig =
    subst
    (λ (o : Option plain_kernels.Process).
    Alike (kill_at k caller pid sig (get k.processes pid)) (plain.kill_at (plain_kernel k) caller pid sig o))
    (sym (get-each plain_process k.processes pid))
    (killed-alike k quiet caller pid sig (get k.processes pid)
    (unparked-got k.processes pid (get k.processes pid) refl quiet.processes))

-- a signal that strikes leaves a mark, and nothing else that is new
pub kill-alike : (k : Kernel) → NobodyWaits k → (caller pid : ℕ) (sig : SigArg)
    → Alike (kill k caller pid sig) (plain.kill (plain_kernel k) caller pid sig)
kill-alike k quiet caller pid Bad = alike-replying k quiet (replies.Fail Einval)
kill-alike k quiet caller pid Zero = killed-there k quiet caller pid Zero
kill-alike k quiet caller pid (Is g) = killed-there k quiet caller pid (Is g)
