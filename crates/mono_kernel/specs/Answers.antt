-- What a call's answer says of the kernel before and after it.
use Rattle.std.specs.Prelude.{◌≡◌, ℕ, map, Option, Some, None, IsSome, if◌then◌else◌, nat_eq, Result, Ok, Err}
use Rattle.pico_base.specs.declared.call.Call.{Call}
use Rattle.pico_base.specs.declared.reply.Outcome.{Outcome}
use Rattle.pico_base.specs.declared.reply.Reply.{Reply}
use Rattle.pico_base.specs.declared.signal.Sig.{Sig}
use Rattle.kernel_model.specs.Signals.{raise}
use Rattle.waiting_model.specs.Marks.{Alive, raise_by_other}
use Rattle.waiting_model.specs.Kernel.{Kernel, with_alive}
use Rattle.waiting_model.specs.ProcessCalls.{with_signals}
use Rattle.waiting_model.specs.Effect.{Effect, replying, woken_pair}
use Rattle.waiting_model.specs.Transition.{finish_call}
use Rattle.mono_kernel.specs.declared.done.Done.{Done}
use Rattle.mono_kernel.specs.declared.fault.CallFault.{CallFault}
use Rattle.mono_kernel.specs.declared.fault.CallFault.TheVariants.{Memory, NotAllowed}
use Rattle.mono_kernel.specs.Done.{own_of, woken_of, ParksIn}

-- the effect leaves this kernel, and comes to this
pub record IsDone (e : Effect) (call : Call) (new : Kernel) (done : Done) : Type 0 where
  pub kernel : e.kernel ≡ new
  pub own : e.own ≡ own_of done
  pub woken : map woken_pair e.wakes ≡ woken_of done
  pub parks : ParksIn call done

-- The call has this effect and comes to this, or has none; want of memory changes nothing.
abbrev pub Answers : Option Effect → Call → Result Done CallFault → Kernel → Kernel → Type 0
Answers None call (Ok done) old new = ⊥
Answers (Some e) call (Ok done) old new = IsDone e call new done
Answers effect call (Err NotAllowed) old new = (effect ≡ None) × (new ≡ old)
Answers effect call (Err Memory) old new = IsSome effect × (new ≡ old)

-- the same for a call that replies at once and wakes nobody
abbrev pub Replies : Option Effect → Result Reply CallFault → Kernel → Kernel → Type 0
Replies effect (Ok reply) old new = effect ≡ Some (replying new reply)
Replies effect (Err NotAllowed) old new = (effect ≡ None) × (new ≡ old)
Replies effect (Err Memory) old new = IsSome effect × (new ≡ old)

-- the kernel after a signal to a living process: its own, or another's
abbrev pub signalled_kernel : Kernel → ℕ → ℕ → Alive → Sig → Kernel
signalled_kernel k caller pid target g =
    if nat_eq caller pid
    then with_signals k pid target (raise target.row.signals g)
    else with_alive k pid (raise_by_other target g)

-- the kernel after the caller's own marks are set, and the outcome
pub record FinishesWith (old : Kernel) (pid : ℕ) (done : Done) (new : Kernel) (outcome : Outcome) : Type 0 where
  pub own : outcome.own ≡ own_of done
  pub woken : outcome.woken ≡ woken_of done
  pub kernel : (call : Call) → ParksIn call done → new ≡ finish_call old pid call (own_of done)
