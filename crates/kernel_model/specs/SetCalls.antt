-- The calls on semaphore sets (POSIX.1-2017: semget, semop, semctl). The order of each call's refusals is the
-- profile's.
use Rattle.std.specs.Prelude.{ℕ, Bool, ◌&&◌, ◌||◌, nat_eq, nat_le, List, length, if◌then◌else◌, Option, Some, None, Result, Ok, Err}
use Rattle.std.specs.List.{list_any}
use Rattle.std.specs.Option.{option_map_or}
use Rattle.pico_base.specs.declared.call.SemStep.{SemStep}
use Rattle.pico_base.specs.declared.reply.Errno.{Errno}
use Rattle.pico_base.specs.declared.reply.Errno.TheVariants.{Einval, Enoent, Eexist}
use Rattle.pico_base.specs.declared.reply.Reply.TheVariants as replies
use Rattle.number_maps.specs.Maps.{Numbered, get, put, without, used_with}
use Rattle.kernel_model.specs.Waiting.{may_wait}
use Rattle.kernel_model.specs.SemaphoreSet.{SemaphoreSet, new_set, values_of, op}
use Rattle.kernel_model.specs.Kernel.{Kernel}
use Rattle.kernel_model.specs.Effect.{Effect, reply_with, refuse, on_named, is_fresh}
use Rattle.kernel_model.specs.QueueCalls.{unbind}

abbrev pub with_set : Kernel → ℕ → SemaphoreSet → Kernel
with_set k id set = record k { sets = put k.sets id set }

-- a new set, with these keys. A bad number of semaphores is refused
abbrev pub new_set_of : Kernel → Numbered ℕ → ℕ → Result SemaphoreSet Errno → Option Effect
new_set_of k keys n (Err e) = Some (refuse k e)
new_set_of k keys n (Ok set) =
    if is_fresh k.used_sets n
    then Some (reply_with
    (record k { sets = put k.sets n set; set_keys = keys; used_sets = used_with k.used_sets n }) n)
    else None

-- the size of the set of a number
abbrev pub set_size : Kernel → ℕ → ℕ
set_size k id = option_map_or (λ set. length set.semaphores) (get k.sets id) 0

-- semget: a bound key leads to its set, EINVAL where it has fewer semaphores than are asked for
abbrev pub find_set : Kernel → ℕ → ℕ → Effect
find_set k id count = if nat_eq count 0 || nat_le count (set_size k id) then reply_with k id else refuse k Einval

abbrev pub get_set_at : Kernel → ℕ → ℕ → Bool → Bool → ℕ → Option ℕ → Option Effect
get_set_at k key count create excl n (Some id) = Some (if create && excl then refuse k Eexist else find_set k id count)
get_set_at k key count create excl n None =
    if create then new_set_of k (put k.set_keys key n) n (new_set count) else Some (refuse k Enoent)

-- semget: IPC_PRIVATE always makes a set. ENOENT for a key that leads nowhere without IPC_CREAT, EEXIST for one that
-- leads to a set with IPC_CREAT and IPC_EXCL; IPC_EXCL alone means nothing
abbrev pub get_set : Kernel → Option ℕ → ℕ → Bool → Bool → ℕ → Option Effect
get_set k None count create excl n = new_set_of k k.set_keys n (new_set count)
get_set k (Some key) count create excl n = get_set_at k key count create excl n (get k.set_keys key)

abbrev pub change_set : Kernel → ℕ → Result SemaphoreSet Errno → Effect
change_set k id (Ok set) = reply_with (with_set k id set) 0
change_set k id (Err e) = refuse k e

-- semop. A call that may have to wait has no effect here (profile)
abbrev pub operate : Kernel → ℕ → ℕ → List SemStep → Option Effect
operate k pid id steps =
    if list_any may_wait steps
    then None
    else Some (on_named k (get k.sets id) (λ set. change_set k id (op set pid steps)))

-- semctl with GETALL
abbrev pub all_values : Kernel → SemaphoreSet → Effect
all_values k set = record { kernel = k; reply = replies.All (values_of set.semaphores) }

-- semctl with IPC_RMID
abbrev pub remove_set : Kernel → ℕ → Effect
remove_set k id = reply_with (record k { sets = without k.sets id; set_keys = unbind k.set_keys id }) 0
