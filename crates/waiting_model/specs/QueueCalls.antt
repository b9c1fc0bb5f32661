-- The calls on message queues (POSIX.1-2017: msgget, msgsnd, msgrcv, msgctl).
use Rattle.std.specs.Prelude.{ℕ, Bool, ◌&&◌, if◌then◌else◌, Option, Some, None}
use Rattle.pico_base.specs.declared.reply.Errno.TheVariants.{Enoent, Eexist}
use Rattle.pico_base.specs.declared.reply.Reply.TheVariants.{Num}
use Rattle.number_maps.specs.Maps.{Numbered, get, put, without, used_with}
use Rattle.kernel_model.specs.Effect.{is_fresh}
use Rattle.kernel_model.specs.Queue.{Queue, empty_queue}
use Rattle.kernel_model.specs.QueueCalls.{unbind}
use Rattle.waiting_model.specs.Kernel.{Kernel}
use Rattle.waiting_model.specs.Effect.{Effect, reply_with, refuse, waking, on_named}
use Rattle.waiting_model.specs.declared.callers.Waiting.{Waiting}
use Rattle.waiting_model.specs.Waiters.{Awaited, Carried, unawaited, wakes_at_removal}
use Rattle.waiting_model.specs.Queue.{carry_out_on_queue}

abbrev pub with_queue : Kernel → ℕ → Awaited Queue → Kernel
with_queue k id q = record k { queues = put k.queues id q }

-- a new empty queue, with these keys
abbrev pub new_queue : Kernel → Numbered ℕ → ℕ → Option Effect
new_queue k keys n =
    if is_fresh k.used_queues n
    then Some (reply_with
    (record k {
      queues = put k.queues n (unawaited empty_queue);
      queue_keys = keys;
      used_queues =
          used_with k.used_queues n;
    })
    n)
    else None

abbrev pub get_queue_at : Kernel → ℕ → Bool → Bool → ℕ → Option ℕ → Option Effect
get_queue_at k key create excl n (Some id) = Some (if create && excl then refuse k Eexist else reply_with k id)
get_queue_at k key create excl n None =
    if create then new_queue k (put k.queue_keys key n) n else Some (refuse k Enoent)

-- msgget
abbrev pub get_queue : Kernel → Option ℕ → Bool → Bool → ℕ → Option Effect
get_queue k None create excl n = new_queue k k.queue_keys n
get_queue k (Some key) create excl n = get_queue_at k key create excl n (get k.queue_keys key)

-- msgsnd, msgrcv, and msgctl with IPC_STAT and IPC_SET
abbrev pub queue_effect : Kernel → ℕ → Carried Queue → Effect
queue_effect k id c = waking (with_queue k id c.object) c.own c.wakes

abbrev pub on_queue : Kernel → ℕ → Waiting → Effect
on_queue k id who = on_named k (get k.queues id) (λ q. queue_effect k id (carry_out_on_queue q who))

-- msgctl with IPC_RMID: whoever waits is woken
abbrev pub remove_queue : Kernel → ℕ → Awaited Queue → Effect
remove_queue k id q =
    waking (record k { queues = without k.queues id; queue_keys = unbind k.queue_keys id }) (Some (Num 0))
    (wakes_at_removal q)
