-- What a call that is carried out comes to, and the answers that all calls share.
use Rattle.std.specs.Prelude.{ℕ, Bool, not, ◌&&◌, List, [], Option, Some, None, Result, Ok, Err}
use Rattle.pico_base.specs.declared.reply.Errno.{Errno}
use Rattle.pico_base.specs.declared.reply.Errno.TheVariants.{Einval}
use Rattle.pico_base.specs.declared.reply.Outcome.{Outcome}
use Rattle.pico_base.specs.declared.reply.Reply.{Reply}
use Rattle.pico_base.specs.declared.reply.Reply.TheVariants as replies
use Rattle.number_maps.specs.Maps.{is_used}
use Rattle.kernel_model.specs.Kernel.{Kernel}
use Rattle.kernel_model.specs.Numbers.{is_positive_u32}

-- the next kernel, and the caller's reply
pub record Effect : Type 0 where
  pub kernel : Kernel
  pub reply : Reply

abbrev pub reply_with : Kernel → ℕ → Effect
reply_with k n = record { kernel = k; reply = replies.Num n }

-- a refusal changes nothing
abbrev pub refuse : Kernel → Errno → Effect
refuse k e = record { kernel = k; reply = replies.Fail e }

-- a look that changes nothing
abbrev pub look_up : Kernel → Result ℕ Errno → Effect
look_up k (Ok n) = reply_with k n
look_up k (Err e) = refuse k e

-- a call on a queue or a set: EINVAL where there is none of that number (msgctl, msgrcv, msgsnd, semctl, semop)
abbrev pub on_named : {V : Type 0} → Kernel → Option V → (V → Effect) → Effect
on_named k None f = refuse k Einval
on_named k (Some v) f = f v

-- A number that may be given out: a u32, not 0, and not used before. Which of them it is isn't laid down (profile); a
-- number is never used again (profile: System Interfaces 2.7 lets a removed identifier's number come back).
abbrev pub is_fresh : List ℕ → ℕ → Bool
is_fresh used n = is_positive_u32 n && not (is_used used n)

-- the outcome of a call that has its reply and wakes nobody, which is each outcome as long as no call waits
abbrev pub reply_alone : Reply → Outcome
reply_alone reply = record { own = Some reply; woken = [] }
