-- What a refusal leaves.
use Rattle.std.specs.Prelude.{◌≡◌, ℕ, Some, is_some, if◌then◌else◌}
use Rattle.pico_base.specs.declared.call.Call.{Call}
use Rattle.pico_base.specs.declared.reply.Errno.{Errno}
use Rattle.pico_base.specs.declared.reply.Outcome.{Outcome}
use Rattle.pico_base.specs.declared.reply.Reply.TheVariants.{Fail}
use Rattle.kernel_model.specs.Row.{Alive, Spent}
use Rattle.kernel_model.specs.Kernel.{Kernel, living_at, with_alive}
use Rattle.kernel_model.specs.Transition.{successor, transition}

-- what a call that changes nothing leaves: the kernel as it was, but that a doomed caller has nothing left
abbrev pub left_by : Kernel → ℕ → Alive → Kernel
left_by k pid caller =
    if is_some caller.row.signals.doom then with_alive k pid (record caller { allowance = Spent }) else k

-- a call that fails leaves just that
abbrev pub RefusalsChangeNothing : Type 0
RefusalsChangeNothing =
    (k : Kernel) (pid : ℕ) (call : Call) (n : ℕ) (next : Kernel) (outcome : Outcome) (error : Errno)
    → transition k pid call n ≡ Some (successor next outcome) → outcome.own ≡ Some (Fail error)
    → (caller : Alive) × (living_at k pid ≡ Some caller) × (next ≡ left_by k pid caller)
