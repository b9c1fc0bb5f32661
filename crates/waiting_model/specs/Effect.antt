-- What a call that is carried out comes to, and the answers that all calls share.
use Rattle.std.specs.Prelude.{ℕ, List, [], map, Option, Some, None}
use Rattle.pico_base.specs.declared.reply.Errno.{Errno}
use Rattle.pico_base.specs.declared.reply.Errno.TheVariants.{Einval}
use Rattle.pico_base.specs.declared.reply.Outcome.{Outcome}
use Rattle.pico_base.specs.declared.reply.Reply.{Reply}
use Rattle.pico_base.specs.declared.reply.Reply.TheVariants.{Num, Fail}
use Rattle.waiting_model.specs.Kernel.{Kernel, wake_all}
use Rattle.waiting_model.specs.declared.callers.Wake.{Wake}

-- The next kernel but for the caller's own marks, the caller's reply, none where it has to wait, and those who are
-- woken, in order.
pub record Effect : Type 0 where
  pub kernel : Kernel
  pub own : Option Reply
  pub wakes : List Wake

-- the caller has its reply, and nobody is woken
abbrev pub replying : Kernel → Reply → Effect
replying k reply = record { kernel = k; own = Some reply; wakes = [] }

abbrev pub reply_with : Kernel → ℕ → Effect
reply_with k n = replying k (Num n)

-- a refusal changes nothing
abbrev pub refuse : Kernel → Errno → Effect
refuse k e = replying k (Fail e)

-- the call has to wait
abbrev pub park : Kernel → Effect
park k = record { kernel = k; own = None; wakes = [] }

-- those who are woken have their replies
abbrev pub waking : Kernel → Option Reply → List Wake → Effect
waking k own wakes = record { kernel = wake_all k wakes; own = own; wakes = wakes }

-- a call on a queue or a set: EINVAL where there is none of that number (msgctl, msgrcv, msgsnd, semctl, semop)
abbrev pub on_named : {V : Type 0} → Kernel → Option V → (V → Effect) → Effect
on_named k None f = refuse k Einval
on_named k (Some v) f = f v

-- who is woken, as a history has it
abbrev pub woken_pair : Wake → ℕ × Reply
woken_pair w = (w.pid, w.reply)

abbrev pub outcome_of_effect : Effect → Outcome
outcome_of_effect e = record { own = e.own; woken = map woken_pair e.wakes }
