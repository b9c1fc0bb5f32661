-- The calls on queues and sets, where nobody waits.
use Rattle.std.proofs.Common.{◌≡◌, ◌∙◌, ℕ, Bool, not, ◌&&◌, ◌||◌, nat_eq, List, [], Option, Some, None, Result, Ok, Err, refl, ap, sym, subst}
use Rattle.std.specs.Prelude.{if◌then◌else◌, nat_le, length, slice_get}
use Rattle.std.specs.Option.{option_map, option_map_or}
use Rattle.pico_base.specs.declared.call.SemStep.{SemStep}
use Rattle.pico_base.specs.declared.reply.Errno.{Errno}
use Rattle.pico_base.specs.declared.reply.Errno.TheVariants.{Einval, Enoent, Eexist}
use Rattle.pico_base.specs.declared.reply.Reply.{Reply}
use Rattle.pico_base.specs.declared.reply.Reply.TheVariants as replies
use Rattle.number_maps.specs.Maps.{Numbered, get, put, used_with}
use Rattle.number_maps.specs.Rising.{IsRising}
use Rattle.number_maps.proofs.Rising.{rising-put, rising-filter}
use Rattle.kernel_model.specs.Effect as plain_effects
use Rattle.kernel_model.specs.Effect.{is_fresh}
use Rattle.kernel_model.specs.Queue.{Queue, empty_queue}
use Rattle.kernel_model.specs.QueueCalls as plain_queues
use Rattle.kernel_model.specs.QueueCalls.{unbind}
use Rattle.kernel_model.specs.SemaphoreSet.{SemaphoreSet, new_set, waiting_at, read_semaphore}
use Rattle.kernel_model.specs.SetCalls as plain_sets
use Rattle.waiting_model.specs.declared.callers.Waiting.{Waiting}
use Rattle.waiting_model.specs.Waiters.{Awaited, Attempt, Carried, attempt, changed, looked_up, unawaited, awaited, carry_out_by}
use Rattle.waiting_model.specs.Queue.{try_queue, carry_out_on_queue}
use Rattle.waiting_model.specs.SemaphoreSet.{try_set, carry_out_on_set, counted, count_reply}
use Rattle.waiting_model.specs.Kernel.{Kernel}
use Rattle.waiting_model.specs.Effect.{on_named}
use Rattle.waiting_model.specs.QueueCalls.{new_queue, get_queue_at, get_queue, queue_effect, on_queue, remove_queue}
use Rattle.waiting_model.specs.SetCalls.{new_set_of, set_size, find_set, get_set_at, get_set, set_effect, on_set, remove_set}
use Rattle.waiting_model.specs.Plain.{each, plain_kernel, NobodyWaits}
use Rattle.waiting_laws.proofs.Maps.{get-each, put-each, without-each, rising-each, all-get, all-put, all-filter}
use Rattle.waiting_laws.proofs.Alike.{Alike, BothAlike, alike-test, alike-choice, both-choice, alike-replying, plain_effect}
use Rattle.waiting_laws.proofs.Tries.{DoesOnQueue, answers_set}
use Rattle.waiting_laws.proofs.Tries as tries

-- Queues at which nobody waits.

-- the queues by themselves
abbrev pub queue_states : Kernel → Numbered Queue
queue_states k = each (λ q. q.state) k.queues

quiet-queues : (k : Kernel) → NobodyWaits k → (id : ℕ) (q : Queue) (keys : Numbered ℕ) (used : List ℕ)
    → NobodyWaits (record k { queues = put k.queues id (unawaited q); queue_keys = keys; used_queues = used })
quiet-queues k quiet id q keys used =
    record {
      processes = quiet.processes;
      queues = all-put (λ w. w.waiters ≡ []) k.queues id (unawaited q) quiet.queues refl;
      sets = quiet.sets;
      queues_rise = rising-put k.queues id (unawaited q) quiet.queues_rise;
      sets_rise = quiet.sets_rise;
    }

-- msgget

new-queue : (k : Kernel) → NobodyWaits k → (keys : Numbered ℕ) (n : ℕ)
    → BothAlike (new_queue k keys n) (plain_queues.new_queue (plain_kernel k) keys n)
new-queue k quiet keys n =
    alike-test (is_fresh k.used_queues n) _ _
    (record {
      kernel =
          ap
          (λ (qs : Numbered Queue).
          record (plain_kernel k) { queues = qs; queue_keys = keys; used_queues = used_with k.used_queues n })
          (sym (put-each (λ q. q.state) k.queues n (unawaited empty_queue)));
      own = refl;
      wakes = refl;
      quiet = quiet-queues k quiet n empty_queue keys (used_with k.used_queues n);
    })

got-queue : (k : Kernel) → NobodyWaits k → (key : ℕ) (create excl : Bool) (n : ℕ) (o : Option ℕ)
    → BothAlike (get_queue_at k key create excl n o) (plain_queues.get_queue_at (plain_kernel k) key create excl n o)
got-queue k quiet key create excl n (Some id) =
    alike-choice (create && excl) _ _ _ _ (alike-replying k quiet (replies.Fail Eexist))
    (alike-replying k quiet (replies.Num id))
got-queue k quiet key create excl n None =
    both-choice create _ _ _ _ (new-queue k quiet (put k.queue_keys key n) n)
    (alike-replying k quiet (replies.Fail Enoent))

-- a get makes a queue or finds one, as before
pub get-queue-alike : (k : Kernel) → NobodyWaits k → (key : Option ℕ) (create excl : Bool) (n : ℕ)
    → BothAlike (get_queue k key create excl n) (plain_queues.get_queue (plain_kernel k) key create excl n)
get-queue-alike k quiet None create excl n = new-queue k quiet k.queue_keys n
get-queue-alike k quiet (Some key) create excl n = got-queue k quiet key create excl n (get k.queue_keys key)

-- msgsnd, msgrcv, msgctl: what a try comes to is what the call came to before

-- carried out at a queue at which nobody waits
carried-queue : (k : Kernel) → NobodyWaits k → (id : ℕ) (q : Queue) (who : Waiting) (o : Option (Attempt Queue))
    → (p : plain_effects.Effect) → DoesOnQueue (plain_kernel k) id o p
    → Alike (queue_effect k id (carry_out_by try_queue (unawaited q) who o)) p
carried-queue k quiet id q who None p h = absurd h
carried-queue k quiet id q who (Some a) p h =
    record {
      kernel =
          ap (λ (qs : Numbered Queue). record (plain_kernel k) { queues = qs })
          (sym (put-each (λ w. w.state) k.queues id (unawaited a.state)))
          ∙ ap (λ (e : plain_effects.Effect). e.kernel) (sym h);
      own = ap (λ (e : plain_effects.Effect). (let o : Option Reply = Some e.reply in o)) (sym h);
      wakes = refl;
      quiet = quiet-queues k quiet id a.state k.queue_keys k.used_queues;
    }

on-queue-that-is : (k : Kernel) → NobodyWaits k → (id : ℕ) (who : Waiting) (f : Queue → plain_effects.Effect)
    → ((q : Queue) → get (queue_states k) id ≡ Some q
    → DoesOnQueue (plain_kernel k) id (try_queue q who.pid who.call) (f q))
    → (o : Option (Awaited Queue)) → get k.queues id ≡ o
    → Alike (on_named k o (λ q. queue_effect k id (carry_out_on_queue q who)))
    (plain_effects.on_named (plain_kernel k) (option_map (λ q. q.state) o) f)
on-queue-that-is k quiet id who f does None there = alike-replying k quiet (replies.Fail Einval)
on-queue-that-is k quiet id who f does (Some q) there =
    let alone : q.waiters ≡ [] = all-get (λ w. w.waiters ≡ []) k.queues id q quiet.queues there
    in let state : get (queue_states k) id ≡ Some q.state =
    get-each (λ w. w.state) k.queues id ∙ ap (option_map (λ (w : Awaited Queue). w.state)) there
    in subst
    (λ (ws : List Waiting). Alike (queue_effect k id (carry_out_on_queue (awaited q.state ws) who)) (f q.state))
    (sym alone)
    (carried-queue k quiet id q.state who (try_queue q.state who.pid who.call) (f q.state) (does q.state state))

-- a call on a queue that is there or not
pub on-queue-alike : (k : Kernel) → NobodyWaits k → (id : ℕ) (who : Waiting) (f : Queue → plain_effects.Effect)
    → ((q : Queue) → get (queue_states k) id ≡ Some q
    → DoesOnQueue (plain_kernel k) id (try_queue q who.pid who.call) (f q))
    → Alike (on_queue k id who) (plain_effects.on_named (plain_kernel k) (get (queue_states k) id) f)
on-queue-alike k quiet id who f does =
    subst
    (λ (o : Option Queue). Alike (on_queue k id who) (plain_effects.on_named (plain_kernel k) o f))
    (sym (get-each (λ q. q.state) k.queues id))
    (on-queue-that-is k quiet id who f does (get k.queues id) refl)

-- msgctl with IPC_RMID

removed-queue : (k : Kernel) → NobodyWaits k → (id : ℕ) (q : Awaited Queue) → q.waiters ≡ []
    → Alike (remove_queue k id q) (plain_queues.remove_queue (plain_kernel k) id)
removed-queue k quiet id q alone =
    subst
    (λ (ws : List Waiting).
    Alike (remove_queue k id (awaited q.state ws)) (plain_queues.remove_queue (plain_kernel k) id))
    (sym alone)
    (record {
      kernel =
          ap (λ (qs : Numbered Queue). record (plain_kernel k) { queues = qs; queue_keys = unbind k.queue_keys id })
          (sym (without-each (λ w. w.state) k.queues id));
      own = refl;
      wakes = refl;
      quiet = record {
        processes = quiet.processes;
        queues = all-filter (λ w. w.waiters ≡ []) (λ e. not (nat_eq id e.0)) k.queues quiet.queues;
        sets = quiet.sets;
        queues_rise = rising-filter (λ e. not (nat_eq id e.0)) k.queues quiet.queues_rise;
        sets_rise = quiet.sets_rise;
      };
    })

removed-queue-that-is : (k : Kernel) → NobodyWaits k → (id : ℕ) (o : Option (Awaited Queue)) → get k.queues id ≡ o
    → Alike (on_named k o (remove_queue k id))
    (plain_effects.on_named (plain_kernel k) (option_map (λ q. q.state) o)
    (λ _. plain_queues.remove_queue (plain_kernel k) id))
removed-queue-that-is k quiet id None there = alike-replying k quiet (replies.Fail Einval)
removed-queue-that-is k quiet id (Some q) there =
    removed-queue k quiet id q (all-get (λ w. w.waiters ≡ []) k.queues id q quiet.queues there)

-- nobody is woken
pub remove-queue-alike : (k : Kernel) → NobodyWaits k → (id : ℕ)
    → Alike (on_named k (get k.queues id) (remove_queue k id))
    (plain_effects.on_named (plain_kernel k) (get (queue_states k) id)
    (λ _. plain_queues.remove_queue (plain_kernel k) id))
remove-queue-alike k quiet id =
    subst
    (λ (o : Option Queue).
    Alike (on_named k (get k.queues id) (remove_queue k id))
    (plain_effects.on_named (plain_kernel k) o (λ _. plain_queues.remove_queue (plain_kernel k) id)))
    (sym (get-each (λ q. q.state) k.queues id))
    (removed-queue-that-is k quiet id (get k.queues id) refl)

-- Sets at which nobody waits.

-- the sets by themselves
abbrev pub set_states : Kernel → Numbered SemaphoreSet
set_states k = each (λ s. s.state) k.sets

quiet-sets : (k : Kernel) → NobodyWaits k → (id : ℕ) (s : SemaphoreSet) (keys : Numbered ℕ) (used : List ℕ)
    → NobodyWaits (record k { sets = put k.sets id (unawaited s); set_keys = keys; used_sets = used })
quiet-sets k quiet id s keys used =
    record {
      processes = quiet.processes;
      queues = quiet.queues;
      sets = all-put (λ w. w.waiters ≡ []) k.sets id (unawaited s) quiet.sets refl;
      queues_rise = quiet.queues_rise;
      sets_rise = rising-put k.sets id (unawaited s) quiet.sets_rise;
    }

-- semget

new-set : (k : Kernel) → NobodyWaits k → (keys : Numbered ℕ) (n : ℕ) (r : Result SemaphoreSet Errno)
    → BothAlike (new_set_of k keys n r) (plain_sets.new_set_of (plain_kernel k) keys n r)
new-set k quiet keys n (Err e) = alike-replying k quiet (replies.Fail e)
new-set k quiet keys n (Ok s) =
    alike-test (is_fresh k.used_sets n) _ _
    (record {
      kernel =
          ap
          (λ (ss : Numbered SemaphoreSet).
          record (plain_kernel k) { sets = ss; set_keys = keys; used_sets = used_with k.used_sets n })
          (sym (put-each (λ w. w.state) k.sets n (unawaited s)));
      own = refl;
      wakes = refl;
      quiet = quiet-sets k quiet n s keys (used_with k.used_sets n);
    })

size-of : (o : Option (Awaited SemaphoreSet))
    → option_map_or (λ (s : SemaphoreSet). length s.semaphores) (option_map (λ w. w.state) o) 0
    ≡ option_map_or (λ (w : Awaited SemaphoreSet). length w.state.semaphores) o 0
size-of None = refl
size-of (Some w) = refl

same-size : (k : Kernel) (id : ℕ) → plain_sets.set_size (plain_kernel k) id ≡ set_size k id
same-size k id =
    ap (λ (o : Option SemaphoreSet). option_map_or (λ (s : SemaphoreSet). length s.semaphores) o 0)
    (get-each (λ w. w.state) k.sets id)
    ∙ size-of (get k.sets id)

found-set : (k : Kernel) → NobodyWaits k → (id count : ℕ)
    → Alike (find_set k id count) (plain_sets.find_set (plain_kernel k) id count)
found-set k quiet id count =
    subst
    (λ (size : ℕ).
    Alike (find_set k id count)
    (if nat_eq count 0 || nat_le count size then plain_effects.reply_with (plain_kernel k) id
    else plain_effects.refuse (plain_kernel k) Einval))
    (sym (same-size k id))
    (alike-choice (nat_eq count 0 || nat_le count (set_size k id)) _ _ _ _ (alike-replying k quiet (replies.Num id))
    (alike-replying k quiet (replies.Fail Einval)))

got-set : (k : Kernel) → NobodyWaits k → (key count : ℕ) (create excl : Bool) (n : ℕ) (o : Option ℕ)
    → BothAlike (get_set_at k key count create excl n o)
    (plain_sets.get_set_at (plain_kernel k) key count create excl n o)
got-set k quiet key count create excl n (Some id) =
    alike-choice (create && excl) _ _ _ _ (alike-replying k quiet (replies.Fail Eexist)) (found-set k quiet id count)
got-set k quiet key count create excl n None =
    both-choice create _ _ _ _ (new-set k quiet (put k.set_keys key n) n (new_set count))
    (alike-replying k quiet (replies.Fail Enoent))

-- a get makes a set or finds one, as before
pub get-set-alike : (k : Kernel) → NobodyWaits k → (key : Option ℕ) (count : ℕ) (create excl : Bool) (n : ℕ)
    → BothAlike (get_set k key count create excl n) (plain_sets.get_set (plain_kernel k) key count create excl n)
get-set-alike k quiet None count create excl n = new-set k quiet k.set_keys n (new_set count)
get-set-alike k quiet (Some key) count create excl n = got-set k quiet key count create excl n (get k.set_keys key)

-- semop, semctl

-- a call at a set at which nobody waits has its reply, and nobody waits afterwards
pub record DoesOnSet (k : Kernel) (id : ℕ) (c : Carried SemaphoreSet) (p : plain_effects.Effect) : Type 0 where
  pub state : SemaphoreSet
  pub reply : Reply
  pub carried : (let d : Carried SemaphoreSet =
      record { object = unawaited state; own = Some reply; wakes = [] } in c ≡ d)
  pub answers : p ≡ answers_set (plain_kernel k) id (attempt state reply)

-- the queues of a kernel in which nobody waits are in order
pub queue-states-rise : (k : Kernel) → NobodyWaits k → IsRising (queue_states k)
queue-states-rise k quiet = rising-each (λ w. w.state) k.queues quiet.queues_rise

-- and its sets
set-states-rise : (k : Kernel) → NobodyWaits k → IsRising (set_states k)
set-states-rise k quiet = rising-each (λ w. w.state) k.sets quiet.sets_rise

-- a look leaves the set, and its kernel
pub looks-at-set : (k : Kernel) → NobodyWaits k → (id : ℕ) (s : SemaphoreSet) → get (set_states k) id ≡ Some s
    → (reply : Reply)
    → DoesOnSet k id (let d : Carried SemaphoreSet =
    record { object = unawaited s; own = Some reply; wakes = [] } in d)
    (plain_effect (plain_kernel k) reply)
looks-at-set k quiet id s there reply =
    record {
      state = s;
      reply = reply;
      carried = refl;
      answers = tries.looks-at-set (plain_kernel k) (set-states-rise k quiet) id s there reply;
    }

-- a try that comes to something
tries-set : (k : Kernel) (id : ℕ) (s : SemaphoreSet) (who : Waiting) (a : Attempt SemaphoreSet)
    → (p : plain_effects.Effect) → p ≡ answers_set (plain_kernel k) id a
    → DoesOnSet k id (carry_out_by try_set (unawaited s) who (Some a)) p
tries-set k id s who a p h = record { state = a.state; reply = a.reply; carried = refl; answers = h }

-- semctl with GETVAL and GETPID
pub reads-set : (k : Kernel) → NobodyWaits k → (id : ℕ) (s : SemaphoreSet) → get (set_states k) id ≡ Some s
    → (who : Waiting) (r : Result ℕ Errno)
    → DoesOnSet k id (carry_out_by try_set (unawaited s) who (Some (looked_up s r)))
    (plain_effects.look_up (plain_kernel k) r)
reads-set k quiet id s there who r =
    tries-set k id s who (looked_up s r) _
    (tries.reads-set (plain_kernel k) (set-states-rise k quiet) id s there r)

-- semop, and semctl with SETVAL and SETALL
pub changes-set : (k : Kernel) → NobodyWaits k → (id : ℕ) (s : SemaphoreSet) → get (set_states k) id ≡ Some s
    → (who : Waiting) (r : Result SemaphoreSet Errno)
    → DoesOnSet k id (carry_out_by try_set (unawaited s) who (Some (changed s r)))
    (plain_sets.change_set (plain_kernel k) id r)
changes-set k quiet id s there who r =
    tries-set k id s who (changed s r) _
    (tries.changes-set (plain_kernel k) (set-states-rise k quiet) id s there r)

-- who waits is counted, and there is nobody
pub counts-set : (k : Kernel) → NobodyWaits k → (id : ℕ) (s : SemaphoreSet) → get (set_states k) id ≡ Some s
    → (test : Option SemStep → Bool) (num : ℕ)
    → DoesOnSet k id (counted test (unawaited s) num) (plain_effects.look_up (plain_kernel k) (waiting_at s num))
counts-set k quiet id s there test num = by_result (read_semaphore (slice_get s.semaphores num) (λ _. 0))
  where
    by_result : (r : Result ℕ Errno)
        → DoesOnSet k id
        (let d : Carried SemaphoreSet =
        record { object = unawaited s; own = Some (count_reply r); wakes = [] } in d)
        (plain_effects.look_up (plain_kernel k) r)
    by_result (Ok n) = looks-at-set k quiet id s there (replies.Num n)
    by_result (Err e) = looks-at-set k quiet id s there (replies.Fail e)

carried-set : (k : Kernel) → NobodyWaits k → (id : ℕ) (c : Carried SemaphoreSet) (p : plain_effects.Effect)
    → DoesOnSet k id c p → Alike (set_effect k id c) p
carried-set k quiet id c p h =
    subst (λ (d : Carried SemaphoreSet). Alike (set_effect k id d) p) (sym h.carried)
    (record {
      kernel =
          ap (λ (ss : Numbered SemaphoreSet). record (plain_kernel k) { sets = ss })
          (sym (put-each (λ w. w.state) k.sets id (unawaited h.state)))
          ∙ ap (λ (e : plain_effects.Effect). e.kernel) (sym h.answers);
      own = ap (λ (e : plain_effects.Effect). (let o : Option Reply = Some e.reply in o)) (sym h.answers);
      wakes = refl;
      quiet = quiet-sets k quiet id h.state k.set_keys k.used_sets;
    })

on-set-that-is : (k : Kernel) → NobodyWaits k → (id : ℕ) (who : Waiting) (f : SemaphoreSet → plain_effects.Effect)
    → ((s : SemaphoreSet) → get (set_states k) id ≡ Some s → DoesOnSet k id (carry_out_on_set (unawaited s) who) (f s))
    → (o : Option (Awaited SemaphoreSet)) → get k.sets id ≡ o
    → Alike (on_named k o (λ s. set_effect k id (carry_out_on_set s who)))
    (plain_effects.on_named (plain_kernel k) (option_map (λ s. s.state) o) f)
on-set-that-is k quiet id who f does None there = alike-replying k quiet (replies.Fail Einval)
on-set-that-is k quiet id who f does (Some s) there =
    let alone : s.waiters ≡ [] = all-get (λ w. w.waiters ≡ []) k.sets id s quiet.sets there
    in let state : get (set_states k) id ≡ Some s.state =
    get-each (λ w. w.state) k.sets id ∙ ap (option_map (λ (w : Awaited SemaphoreSet). w.state)) there
    in subst
    (λ (ws : List Waiting). Alike (set_effect k id (carry_out_on_set (awaited s.state ws) who)) (f s.state))
    (sym alone)
    (carried-set k quiet id (carry_out_on_set (unawaited s.state) who) (f s.state) (does s.state state))

-- a call on a set that is there or not
pub on-set-alike : (k : Kernel) → NobodyWaits k → (id : ℕ) (who : Waiting) (f : SemaphoreSet → plain_effects.Effect)
    → ((s : SemaphoreSet) → get (set_states k) id ≡ Some s → DoesOnSet k id (carry_out_on_set (unawaited s) who) (f s))
    → Alike (on_set k id who) (plain_effects.on_named (plain_kernel k) (get (set_states k) id) f)
on-set-alike k quiet id who f does =
    subst
    (λ (o : Option SemaphoreSet). Alike (on_set k id who) (plain_effects.on_named (plain_kernel k) o f))
    (sym (get-each (λ s. s.state) k.sets id))
    (on-set-that-is k quiet id who f does (get k.sets id) refl)

-- semctl with IPC_RMID

removed-set : (k : Kernel) → NobodyWaits k → (id : ℕ) (s : Awaited SemaphoreSet) → s.waiters ≡ []
    → Alike (remove_set k id s) (plain_sets.remove_set (plain_kernel k) id)
removed-set k quiet id s alone =
    subst
    (λ (ws : List Waiting). Alike (remove_set k id (awaited s.state ws)) (plain_sets.remove_set (plain_kernel k) id))
    (sym alone)
    (record {
      kernel =
          ap (λ (ss : Numbered SemaphoreSet). record (plain_kernel k) { sets = ss; set_keys = unbind k.set_keys id })
          (sym (without-each (λ w. w.state) k.sets id));
      own = refl;
      wakes = refl;
      quiet = record {
        processes = quiet.processes;
        queues = quiet.queues;
        sets = all-filter (λ w. w.waiters ≡ []) (λ e. not (nat_eq id e.0)) k.sets quiet.sets;
        queues_rise = quiet.queues_rise;
        sets_rise = rising-filter (λ e. not (nat_eq id e.0)) k.sets quiet.sets_rise;
      };
    })

removed-set-that-is : (k : Kernel) → NobodyWaits k → (id : ℕ) (o : Option (Awaited SemaphoreSet)) → get k.sets id ≡ o
    → Alike (on_named k o (remove_set k id))
    (plain_effects.on_named (plain_kernel k) (option_map (λ s. s.state) o)
    (λ _. plain_sets.remove_set (plain_kernel k) id))
removed-set-that-is k quiet id None there = alike-replying k quiet (replies.Fail Einval)
removed-set-that-is k quiet id (Some s) there =
    removed-set k quiet id s (all-get (λ w. w.waiters ≡ []) k.sets id s quiet.sets there)

-- nobody is woken
pub remove-set-alike : (k : Kernel) → NobodyWaits k → (id : ℕ)
    → Alike (on_named k (get k.sets id) (remove_set k id))
    (plain_effects.on_named (plain_kernel k) (get (set_states k) id)
    (λ _. plain_sets.remove_set (plain_kernel k) id))
remove-set-alike k quiet id =
    subst
    (λ (o : Option SemaphoreSet).
    Alike (on_named k (get k.sets id) (remove_set k id))
    (plain_effects.on_named (plain_kernel k) o (λ _. plain_sets.remove_set (plain_kernel k) id)))
    (sym (get-each (λ s. s.state) k.sets id))
    (removed-set-that-is k quiet id (get k.sets id) refl)
