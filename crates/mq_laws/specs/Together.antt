-- The kernel of System V and the kernel of POSIX message queues for which it stands step together.
use Rattle.std.specs.Prelude.{◌≡◌, ℕ, negsuc, Bool, true, false, not, ◌&&◌, nat_le, length, Option, Some, None, is_some}
use Rattle.std.specs.Ordering.{int_eq}
use Rattle.pico_base.specs.declared.call.Call.{Call}
use Rattle.pico_base.specs.declared.call.Call.TheVariants as calls
use Rattle.waiting_model.specs.Kernel as plain
use Rattle.waiting_model.specs.Transition as plain_steps
use Rattle.mq_model.specs.declared.errno.MqErrno.{MqErrno}
use Rattle.mq_model.specs.Queue.{max_text}
use Rattle.mq_model.specs.Calls.{MqOutcome, Refused}
use Rattle.mq_model.specs.Kernel.{MqKernel}
use Rattle.mq_model.specs.Transition.{MqSuccessor, mq_transition, alone}
use Rattle.mq_model.specs.Given.{is_given_call}
use Rattle.mq_model.specs.SystemV.{refusal_of, given_call, shown_call, shown_outcome}
use Rattle.mq_laws.specs.Alike.{Alike, is_turned}

-- a call of the script of System V that runs a given script, with actual numbers: its calls on queues don't wait
abbrev pub is_carried_out : Call → Bool
is_carried_out (calls.MsgGet key create excl) = is_some key
is_carried_out (calls.MsgSnd id class text nowait) = is_turned class && (nat_le (length text) max_text && nowait)
is_carried_out (calls.MsgRcv id class size noerror nowait) =
    int_eq class (negsuc 31) && (nat_le max_text size && (not noerror && nowait))
is_carried_out (calls.MsgSet id qbytes) = false
is_carried_out (calls.MsgRmid id) = false
is_carried_out call = true

-- this outcome, and kernels that are alike again
pub record LeadsAlike (outcome : MqOutcome) (s : plain_steps.Successor) (t : MqSuccessor) : Type 0 where
  pub outcome_is : t.outcome ≡ outcome
  pub alike : Alike s.kernel t.kernel

-- both have a result or none
abbrev pub LeadAlike : (plain_steps.Successor → MqOutcome) → Option plain_steps.Successor → Option MqSuccessor → Type 0
LeadAlike outcome None None = Unit {0}
LeadAlike outcome (Some s) (Some t) = LeadsAlike (outcome s) s t
LeadAlike outcome s t = ⊥

-- A call does what the call does that it stands for, with the same outcome as that shows it.
abbrev pub CallsStepTogether : Type 0
CallsStepTogether =
    (k : plain.Kernel) (m : MqKernel) (pid : ℕ) (call : Call) (n : ℕ) → Alike k m → is_carried_out call ≡ true
    → LeadAlike (λ s. shown_outcome (shown_call call) s.outcome) (plain_steps.transition k pid call n)
    (mq_transition m pid (shown_call call) n)

-- A look at the pending signals does what a given call does that its arguments refuse, but for the reply.
abbrev pub RefusalsStepTogether : Type 0
RefusalsStepTogether =
    (k : plain.Kernel) (m : MqKernel) (pid : ℕ) (given : Call) (why : MqErrno) (n : ℕ) → Alike k m
    → is_given_call given ≡ true → refusal_of given ≡ Some why
    → LeadAlike (λ s. alone (Refused why)) (plain_steps.transition k pid calls.SigPending n)
    (mq_transition m pid (given_call given) n)

abbrev pub KernelsStepTogether : Type 0
KernelsStepTogether = CallsStepTogether × RefusalsStepTogether
