-- A history of a script of POSIX message queues is a list of carried-out calls. It is legal where each is the kernel's
-- at its point.
use Rattle.std.specs.Prelude.{◌≡◌, ℕ, List, [], ◌∷◌, Option, Some}
use Rattle.pico_base.specs.declared.reply.Reply.TheVariants.{Num}
use Rattle.mq_model.specs.Calls.{MqEntry, MqReply, Number, Plain}
use Rattle.mq_model.specs.Kernel.{MqKernel, opening}
use Rattle.mq_model.specs.Transition.{mq_transition, successor}

-- the number that an entry may have created: the one in its reply, and else 0
abbrev pub number_in : Option MqReply → ℕ
number_in (Some (Number n)) = n
number_in (Some (Plain (Num n))) = n
number_in _ = 0

-- the transition gives just this entry's outcome, and the rest goes on from the next kernel
pub record ReplaysEntry (k : MqKernel) (e : MqEntry) (Rest : MqKernel → Type 0) : Type 0 where
  pub next : MqKernel
  pub step : mq_transition k e.pid e.call (number_in e.outcome.own) ≡ Some (successor next e.outcome)
  pub rest : Rest next

-- entry by entry, from a kernel to the last one
abbrev pub Replays : MqKernel → List MqEntry → MqKernel → Type 0
Replays k [] last = k ≡ last
Replays k (e ∷ es) last = ReplaysEntry k e (λ next. Replays next es last)

-- from the opening kernel on, entry by entry
pub record IsLegal (history : List MqEntry) : Type 0 where
  pub last : MqKernel
  pub replays : Replays opening history last
