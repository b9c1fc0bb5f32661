-- The calls on semaphore sets (POSIX.1-2017: semget, semop, semctl).
use Rattle.std.specs.Prelude.{ℕ, Bool, ◌&&◌, ◌||◌, nat_eq, nat_le, length, if◌then◌else◌, Option, Some, None, Result, Ok, Err}
use Rattle.std.specs.Option.{option_map_or}
use Rattle.pico_base.specs.declared.reply.Errno.{Errno}
use Rattle.pico_base.specs.declared.reply.Errno.TheVariants.{Einval, Enoent, Eexist}
use Rattle.pico_base.specs.declared.reply.Reply.TheVariants.{Num}
use Rattle.number_maps.specs.Maps.{Numbered, get, put, without, used_with}
use Rattle.kernel_model.specs.Effect.{is_fresh}
use Rattle.kernel_model.specs.SemaphoreSet.{SemaphoreSet, new_set}
use Rattle.kernel_model.specs.QueueCalls.{unbind}
use Rattle.waiting_model.specs.Kernel.{Kernel}
use Rattle.waiting_model.specs.Effect.{Effect, reply_with, refuse, waking, on_named}
use Rattle.waiting_model.specs.declared.callers.Waiting.{Waiting}
use Rattle.waiting_model.specs.Waiters.{Awaited, Carried, unawaited, wakes_at_removal}
use Rattle.waiting_model.specs.SemaphoreSet.{carry_out_on_set}

abbrev pub with_set : Kernel → ℕ → Awaited SemaphoreSet → Kernel
with_set k id set = record k { sets = put k.sets id set }

-- a new set, with these keys. A bad number of semaphores is refused
abbrev pub new_set_of : Kernel → Numbered ℕ → ℕ → Result SemaphoreSet Errno → Option Effect
new_set_of k keys n (Err e) = Some (refuse k e)
new_set_of k keys n (Ok set) =
    if is_fresh k.used_sets n
    then Some (reply_with
    (record k { sets = put k.sets n (unawaited set); set_keys = keys; used_sets = used_with k.used_sets n }) n)
    else None

-- the size of the set of a number
abbrev pub set_size : Kernel → ℕ → ℕ
set_size k id = option_map_or (λ set. length set.state.semaphores) (get k.sets id) 0

-- semget: a bound key leads to its set, EINVAL where it has fewer semaphores than are asked for
abbrev pub find_set : Kernel → ℕ → ℕ → Effect
find_set k id count = if nat_eq count 0 || nat_le count (set_size k id) then reply_with k id else refuse k Einval

abbrev pub get_set_at : Kernel → ℕ → ℕ → Bool → Bool → ℕ → Option ℕ → Option Effect
get_set_at k key count create excl n (Some id) = Some (if create && excl then refuse k Eexist else find_set k id count)
get_set_at k key count create excl n None =
    if create then new_set_of k (put k.set_keys key n) n (new_set count) else Some (refuse k Enoent)

-- semget
abbrev pub get_set : Kernel → Option ℕ → ℕ → Bool → Bool → ℕ → Option Effect
get_set k None count create excl n = new_set_of k k.set_keys n (new_set count)
get_set k (Some key) count create excl n = get_set_at k key count create excl n (get k.set_keys key)

-- semop, and semctl but with IPC_RMID
abbrev pub set_effect : Kernel → ℕ → Carried SemaphoreSet → Effect
set_effect k id c = waking (with_set k id c.object) c.own c.wakes

abbrev pub on_set : Kernel → ℕ → Waiting → Effect
on_set k id who = on_named k (get k.sets id) (λ s. set_effect k id (carry_out_on_set s who))

-- semctl with IPC_RMID: whoever waits is woken
abbrev pub remove_set : Kernel → ℕ → Awaited SemaphoreSet → Effect
remove_set k id set =
    waking (record k { sets = without k.sets id; set_keys = unbind k.set_keys id }) (Some (Num 0))
    (wakes_at_removal set)
