-- What holds of the processes of each kernel that a legal history leads to.
use Rattle.std.specs.Prelude.{◌≡◌, ℕ, true, false, Some}
use Rattle.pico_base.specs.declared.call.Call.{Call}
use Rattle.pico_base.specs.declared.reply.Outcome.{Outcome}
use Rattle.kernel_model.specs.Signals.{AreSoundSignals}
use Rattle.kernel_model.specs.Row.{Alive, lists}
use Rattle.kernel_model.specs.Kernel.{Kernel, Parent, living_at, parent_in}
use Rattle.kernel_model.specs.Transition.{successor, transition}
use Rattle.kernel_model.specs.Valid.{IsValid}
use Rattle.kernel_laws.specs.Reachable.{IsReachableKernel}

abbrev pub ReachableKernelsAreValid : Type 0
ReachableKernelsAreValid = (k : Kernel) → IsReachableKernel k → IsValid k

-- no pending signal has an action that discards it, KILL is in no mask, and its action is the default one
abbrev pub SignalsAreSound : Type 0
SignalsAreSound = (k : Kernel) → IsReachableKernel k → (pid : ℕ) (a : Alive) → living_at k pid ≡ Some a
    → AreSoundSignals a.row.signals

-- a process's parent is a living process that lists it, and each one that lists it is its parent; none lists itself
pub record HasOneParent (k : Kernel) (child : ℕ) : Type 0 where
  pub lists_it : (p : Parent) → parent_in child k.processes ≡ Some p → (living_at k p.pid ≡ Some p.alive)
      × (lists p.alive.row.family child ≡ true)
  pub is_parent : (pid : ℕ) (a : Alive) → living_at k pid ≡ Some a → lists a.row.family child ≡ true
      → parent_in child k.processes ≡ Some (record { pid = pid; alive = a })
  pub not_itself : (a : Alive) → living_at k child ≡ Some a → lists a.row.family child ≡ false

abbrev pub ChildrenHaveOneParent : Type 0
ChildrenHaveOneParent = (k : Kernel) → IsReachableKernel k → (child : ℕ) → HasOneParent k child

-- no living process lists itself as a child
abbrev pub NoneListsItself : Kernel → Type 0
NoneListsItself k = (pid : ℕ) (a : Alive) → living_at k pid ≡ Some a → lists a.row.family pid ≡ false

-- each entry keeps a kernel valid, whether a history leads to it or not
abbrev pub EntriesKeepValidity : Type 0
EntriesKeepValidity =
    (k next : Kernel) (pid : ℕ) (call : Call) (n : ℕ) (outcome : Outcome) → IsValid k → NoneListsItself k
    → transition k pid call n ≡ Some (successor next outcome) → IsValid next × NoneListsItself next
