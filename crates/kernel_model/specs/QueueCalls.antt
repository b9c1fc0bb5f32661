-- The calls on message queues (POSIX.1-2017: msgget, msgsnd, msgrcv, msgctl). The order of each call's refusals is the
-- profile's.
use Rattle.std.specs.Prelude.{ℕ, Bool, ◌&&◌, if◌then◌else◌, Option, Some, None, Result, Ok, Err}
use Rattle.pico_base.specs.declared.reply.Errno.{Errno}
use Rattle.pico_base.specs.declared.reply.Errno.TheVariants.{Enoent, Eexist}
use Rattle.pico_base.specs.declared.reply.Reply.TheVariants as replies
use Rattle.number_maps.specs.Maps.{Numbered, get, put, without, without_value, used_with}
use Rattle.kernel_model.specs.Queue.{Queue, Received, empty_queue, stat}
use Rattle.kernel_model.specs.Kernel.{Kernel}
use Rattle.kernel_model.specs.Effect.{Effect, reply_with, refuse, is_fresh}

abbrev pub with_queue : Kernel → ℕ → Queue → Kernel
with_queue k id q = record k { queues = put k.queues id q }

-- a new empty queue, with these keys
abbrev pub new_queue : Kernel → Numbered ℕ → ℕ → Option Effect
new_queue k keys n =
    if is_fresh k.used_queues n
    then Some (reply_with
    (record k { queues = put k.queues n empty_queue; queue_keys = keys; used_queues = used_with k.used_queues n })
    n)
    else None

abbrev pub get_queue_at : Kernel → ℕ → Bool → Bool → ℕ → Option ℕ → Option Effect
get_queue_at k key create excl n (Some id) = Some (if create && excl then refuse k Eexist else reply_with k id)
get_queue_at k key create excl n None =
    if create then new_queue k (put k.queue_keys key n) n else Some (refuse k Enoent)

-- msgget: IPC_PRIVATE always makes a queue. ENOENT for a key that leads nowhere without IPC_CREAT, EEXIST for one that
-- leads to a queue with IPC_CREAT and IPC_EXCL; IPC_EXCL alone means nothing
abbrev pub get_queue : Kernel → Option ℕ → Bool → Bool → ℕ → Option Effect
get_queue k None create excl n = new_queue k k.queue_keys n
get_queue k (Some key) create excl n = get_queue_at k key create excl n (get k.queue_keys key)

-- msgsnd, and msgctl with IPC_SET
abbrev pub change_queue : Kernel → ℕ → Result Queue Errno → Effect
change_queue k id (Ok q) = reply_with (with_queue k id q) 0
change_queue k id (Err e) = refuse k e

-- msgrcv
abbrev pub receive_effect : Kernel → ℕ → Result Received Errno → Effect
receive_effect k id (Ok r) =
    record { kernel = with_queue k id r.queue; reply = replies.Message r.message.class r.message.text }
receive_effect k id (Err e) = refuse k e

-- msgctl with IPC_STAT
abbrev pub stat_effect : Kernel → Queue → Effect
stat_effect k q = record { kernel = k; reply = stat q }

-- no key leads to the identifier any more (msgctl and semctl with IPC_RMID)
abbrev pub unbind : Numbered ℕ → ℕ → Numbered ℕ
unbind keys id = without_value (λ thing. thing) keys id

-- msgctl with IPC_RMID
abbrev pub remove_queue : Kernel → ℕ → Effect
remove_queue k id = reply_with (record k { queues = without k.queues id; queue_keys = unbind k.queue_keys id }) 0
