-- What is as before where nobody waits: the same calls have the same outcomes, and lead to the same kernels.
use Rattle.std.specs.Prelude.{◌≡◌, ℕ, false, List, Option, Some, None}
use Rattle.std.specs.List.{AllByRecursion}
use Rattle.pico_base.specs.declared.call.Call.{Call}
use Rattle.pico_base.specs.declared.reply.Entry.{Entry}
use Rattle.kernel_model.specs.Transition as plain
use Rattle.kernel_model.specs.History as plain_history
use Rattle.waiting_model.specs.Calls.{may_park}
use Rattle.waiting_model.specs.Kernel.{Kernel}
use Rattle.waiting_model.specs.Transition.{Successor, transition}
use Rattle.waiting_model.specs.History.{IsLegal}
use Rattle.waiting_model.specs.Plain.{plain_kernel, NobodyWaits}

-- the same kernel but for who waits, the same outcome, and nobody waits afterwards
pub record LeadsAlike (s : Successor) (p : plain.Successor) : Type 0 where
  pub kernel : plain_kernel s.kernel ≡ p.kernel
  pub outcome : s.outcome ≡ p.outcome
  pub quiet : NobodyWaits s.kernel

-- both have a result or none
abbrev pub LeadAlike : Option Successor → Option plain.Successor → Type 0
LeadAlike None None = Unit {0}
LeadAlike (Some s) (Some p) = LeadsAlike s p
LeadAlike s p = ⊥

-- Where nobody waits a call that can't park does what it did before: it has the same reply, wakes nobody, and leads to
-- the same kernel, in which nobody waits either. A withdrawal has no result in either.
abbrev pub CallsAreAsBefore : Type 0
CallsAreAsBefore = (k : Kernel) (pid : ℕ) (call : Call) (n : ℕ) → NobodyWaits k → may_park call ≡ false
    → LeadAlike (transition k pid call n) (plain.transition (plain_kernel k) pid call n)

abbrev pub NeverMayPark : List Entry → Type 0
NeverMayPark h = AllByRecursion (λ e. may_park e.call ≡ false) h

-- each history that was legal is, and one without a call that may park is legal only if it was
abbrev pub HistoriesAreAsBefore : Type 0
HistoriesAreAsBefore =
    ((h : List Entry) → plain_history.IsLegal h → IsLegal h)
    × ((h : List Entry) → NeverMayPark h → IsLegal h → plain_history.IsLegal h)
