-- Worked examples of the calls on queues, computed by the checker.
use Rattle.std.specs.Prelude.{◌≡◌, ℕ, pos, true, false, Bool, List, [], ◌∷◌, ◌++◌, Option, Some, None, refl, codes, replicate, map}
use Rattle.pico_base.specs.declared.call.Call.{Call}
use Rattle.pico_base.specs.declared.call.Call.TheVariants as calls
use Rattle.pico_base.specs.declared.call.SemStep.{SemStep}
use Rattle.pico_base.specs.declared.reply.Errno.{Errno}
use Rattle.pico_base.specs.declared.reply.Errno.TheVariants.{Einval, Enoent, Eexist, Eagain}
use Rattle.pico_base.specs.declared.reply.Reply.TheVariants.{Num, Child, Ended}
use Rattle.pico_base.specs.declared.reply.Ending.TheVariants.{Exited}
use Rattle.pico_base.specs.declared.signal.Sig.TheVariants.{Term}
use Rattle.pico_base.specs.declared.signal.SigArg.TheVariants.{Is}
use Rattle.mq_model.specs.declared.errno.MqErrno.{MqErrno}
use Rattle.mq_model.specs.declared.errno.MqErrno.TheVariants.{Base, Ebadf, Emsgsize}
use Rattle.mq_model.specs.Calls.{MqCall, Open, Send, Receive, GetAttr, Other, MqReply, Number, Taken, Attributes, Refused, Plain, MqOutcome}
use Rattle.mq_model.specs.Kernel.{MqKernel, opening}
use Rattle.mq_model.specs.Transition.{MqSuccessor, mq_transition}

-- what a process makes, and the number for what it may create
pub record Made : Type 0 where
  pub pid : ℕ
  pub call : MqCall
  pub number : ℕ

abbrev pub by : ℕ → MqCall → Made
by pid call = record { pid = pid; call = call; number = 0 }

abbrev pub creating : ℕ → MqCall → ℕ → Made
creating pid call number = record { pid = pid; call = call; number = number }

-- the replies to these, in order; none where there is no transition, and the kernel stays
abbrev pub own_in : Option MqSuccessor → Option MqReply
own_in None = None
own_in (Some s) = s.outcome.own

abbrev pub kernel_in : MqKernel → Option MqSuccessor → MqKernel
kernel_in k None = k
kernel_in k (Some s) = s.kernel

abbrev pub replies_from : MqKernel → List Made → List (Option MqReply)
replies_from k [] = []
replies_from k (m ∷ ms) =
    let s : Option MqSuccessor = mq_transition k m.pid m.call m.number
    in own_in s ∷ replies_from (kernel_in k s) ms

abbrev pub kernel_after : MqKernel → List Made → MqKernel
kernel_after k [] = k
kernel_after k (m ∷ ms) = kernel_after (kernel_in k (mq_transition k m.pid m.call m.number)) ms

abbrev pub replies : List Made → List (Option MqReply)
replies made = replies_from opening made

abbrev pub opens : Made
opens = creating 1 (Open 5 true false) 1

abbrev pub sends : ℕ → List ℕ → Made
sends priority text = by 1 (Send 1 priority text)

abbrev pub receives : ℕ → Made
receives size = by 1 (Receive 1 size)

abbrev pub number : ℕ → Option MqReply
number n = Some (Number n)

abbrev pub fails : MqErrno → Option MqReply
fails e = Some (Refused e)

-- the oldest of the highest priority is taken, and the rest stays in order
pub takes_the_oldest_of_the_highest : replies (
    opens ∷ sends 1 (codes "a") ∷ sends 9 (codes "b") ∷ sends 9 (codes "c") ∷ sends 0 (codes "d")
    ∷ receives 16 ∷ receives 16 ∷ receives 16 ∷ receives 65535 ∷ receives 16 ∷ [])
    ≡ number 1 ∷ number 0 ∷ number 0 ∷ number 0 ∷ number 0
    ∷ Some (Taken 9 (codes "b")) ∷ Some (Taken 9 (codes "c")) ∷ Some (Taken 1 (codes "a")) ∷ Some (Taken 0 (codes "d"))
    ∷ fails (Base Eagain) ∷ []
takes_the_oldest_of_the_highest = refl

-- the arguments are looked at before the queue: EINVAL, then EMSGSIZE, and only then EBADF
pub refuses_by_arguments_first : replies (
    opens ∷ by 1 (Send 99 32 (replicate 17 97)) ∷ by 1 (Send 99 31 (replicate 17 97))
    ∷ by 1 (Send 99 31 (replicate 16 97))
    ∷ by 1 (Receive 99 15) ∷ by 1 (Receive 99 16) ∷ by 1 (GetAttr 99) ∷ sends 32 [] ∷ receives 15
    ∷ by 1 (GetAttr 1) ∷ [])
    ≡ number 1 ∷ fails (Base Einval) ∷ fails Emsgsize ∷ fails Ebadf ∷ fails Emsgsize ∷ fails Ebadf ∷ fails Ebadf
    ∷ fails (Base Einval) ∷ fails Emsgsize ∷ Some (Attributes 0) ∷ []
refuses_by_arguments_first = refl

-- what the arguments refuse leaves the whole kernel as it was
pub leaves_all : kernel_after opening (opens ∷ sends 32 (codes "a") ∷ receives 15 ∷ sends 0 (replicate 17 97) ∷ [])
    ≡ kernel_after opening (opens ∷ [])
leaves_all = refl

-- a name has one queue: a second `mqopen` gives its number, or is refused where a new one is wanted
pub opens_by_name : replies (
    by 1 (Open 5 false false) ∷ by 1 (Open 5 false true) ∷ creating 1 (Open 5 true true) 3
    ∷ creating 1 (Open 5 true false) 4
    ∷ by 1 (Open 5 true true) ∷ by 1 (Open 5 false true) ∷ creating 1 (Open 6 true false) 3
    ∷ creating 1 (Open 6 true false) 0 ∷ creating 1 (Open 6 true false) 4 ∷ [])
    ≡ fails (Base Enoent) ∷ fails (Base Enoent) ∷ number 3 ∷ number 3 ∷ fails (Base Eexist) ∷ number 3 ∷ None ∷ None
    ∷ number 4 ∷ []
opens_by_name = refl

-- a queue has 1,024 messages, however short they are
pub is_full : replies_from
    (kernel_after opening (opens ∷ replicate 1023 (sends 3 (replicate 16 97))))
    (sends 3 [] ∷ sends 31 [] ∷ by 1 (GetAttr 1) ∷ receives 16 ∷ sends 31 [] ∷ receives 16 ∷ [])
    ≡ number 0 ∷ fails (Base Eagain) ∷ Some (Attributes 1024) ∷ Some (Taken 3 (replicate 16 97)) ∷ number 0
    ∷ Some (Taken 31 []) ∷ []
is_full = refl

-- a set and a child beside: the other calls are those of the System V kernel, and its calls on queues aren't there
pub goes_on_beside : replies (
    opens ∷ creating 1 (Other (calls.SemGet None 1 false false)) 1 ∷ creating 1 (Other (calls.Fork 2)) 2
    ∷ by 2 (Send 1 7 (codes "x")) ∷ by 2 (Other (calls.SemOp 1 (record { num = 0; add = pos 1; nowait = false } ∷ [])))
    ∷ by 2 (Other (calls.Exit 0)) ∷ by 2 (GetAttr 1) ∷ by 1 (Other (calls.WaitPid None true)) ∷ receives 16
    ∷ by 1 (Other (calls.SemGetVal 1 0)) ∷ by 1 (Other (calls.MsgStat 1)) ∷ [])
    ≡ number 1 ∷ Some (Plain (Num 1)) ∷ Some (Plain (Num 2)) ∷ number 0 ∷ Some (Plain (Num 0)) ∷ Some (Plain Ended)
    ∷ None ∷ Some (Plain (Child 2 (Exited 0))) ∷ Some (Taken 7 (codes "x")) ∷ Some (Plain (Num 1)) ∷ None ∷ []
goes_on_beside = refl

-- a process that is doomed by another's signal has one more call, of queues too, and then its end alone
pub is_spent_by_a_call : replies (
    opens ∷ creating 1 (Other (calls.Fork 2)) 2 ∷ by 1 (Other (calls.Kill 2 (Is Term))) ∷ by 2 (Send 1 0 [])
    ∷ by 2 (Send 1 0 []) ∷ by 2 (Other (calls.Killed Term)) ∷ [])
    ≡ number 1 ∷ Some (Plain (Num 2)) ∷ Some (Plain (Num 0)) ∷ number 0 ∷ None ∷ Some (Plain Ended) ∷ []
is_spent_by_a_call = refl
