-- A withdrawal.
use Rattle.std.proofs.Common.{◌≡◌, ◌∙◌, ℕ, Bool, true, false, if◌then◌else◌, Option, Some, None, refl, sym, ap}
use Rattle.std.specs.Option.{option_map_or}
use Rattle.pico_base.specs.declared.call.Call.{Call}
use Rattle.pico_base.specs.declared.call.Call.TheVariants as calls
use Rattle.pico_base.specs.declared.numbers.Name.{Name}
use Rattle.pico_base.specs.declared.reply.Errno.TheVariants.{Eintr}
use Rattle.pico_base.specs.declared.reply.Reply.TheVariants.{Fail}
use Rattle.kernel_model.specs.Effect.{reply_alone}
use Rattle.waiting_model.specs.Calls.{withdrawn_from}
use Rattle.waiting_model.specs.Marks.{Alive}
use Rattle.waiting_model.specs.Kernel.{Kernel, living_at}
use Rattle.waiting_model.specs.Transition.{successor, transition, transition_by, may_withdraw, withdrawn, withdraw}

-- a call that ends a wait is the withdrawal from there
pub is-withdrawal : (call : Call) (name : Name) → withdrawn_from call ≡ Some name → call ≡ calls.Withdraw name
is-withdrawal (calls.Withdraw other) name h = (let same : other ≡ name = cc in ap calls.Withdraw same)
is-withdrawal call name h = absurd (cc)

-- a withdrawal that may be
pub withdrawn-whole : (k new : Kernel) (pid : ℕ) (name : Name) (n : ℕ)
    → option_map_or (λ a. may_withdraw pid a name) (living_at k pid) false ≡ true
    → new ≡ withdrawn k pid name
    → transition k pid (calls.Withdraw name) n ≡ Some (successor new (reply_alone (Fail Eintr)))
withdrawn-whole k new pid name n allowed is = at (living_at k pid) refl allowed
  where
    at : (o : Option Alive) → living_at k pid ≡ o → option_map_or (λ a. may_withdraw pid a name) o false ≡ true
        → transition k pid (calls.Withdraw name) n ≡ Some (successor new (reply_alone (Fail Eintr)))
    at None there h = absurd (cc)
    at (Some a) there h =
        ap (transition_by k pid (calls.Withdraw name) n) there
        ∙ ap (λ (b : Bool). if b then Some (withdraw k pid name) else None) h
        ∙ ap (λ (m : Kernel). Some (successor m (reply_alone (Fail Eintr)))) (sym is)

-- and one that may not
pub not-withdrawn : (k : Kernel) (pid : ℕ) (name : Name) (n : ℕ)
    → option_map_or (λ a. may_withdraw pid a name) (living_at k pid) false ≡ false
    → transition k pid (calls.Withdraw name) n ≡ None
not-withdrawn k pid name n refused = at (living_at k pid) refl refused
  where
    at : (o : Option Alive) → living_at k pid ≡ o → option_map_or (λ a. may_withdraw pid a name) o false ≡ false
        → transition k pid (calls.Withdraw name) n ≡ None
    at None there h = ap (transition_by k pid (calls.Withdraw name) n) there
    at (Some a) there h =
        ap (transition_by k pid (calls.Withdraw name) n) there
        ∙ ap (λ (b : Bool). if b then Some (withdraw k pid name) else None) h
