-- What stands behind a transition that has a result.
use Rattle.std.proofs.Common.{◌≡◌, ◌∙◌, ℕ, Bool, true, false, Option, Some, None, refl, ap, sym}
use Rattle.std.specs.Prelude.{if◌then◌else◌}
use Rattle.pico_base.specs.declared.call.Call.{Call}
use Rattle.pico_base.specs.declared.call.Call.TheVariants as calls
use Rattle.pico_base.specs.declared.numbers.Name.{Name}
use Rattle.kernel_model.specs.Effect as plain_effects
use Rattle.kernel_model.specs.Effect.{reply_alone}
use Rattle.kernel_model.specs.Kernel as plain_kernels
use Rattle.kernel_model.specs.Row as plain_rows
use Rattle.kernel_model.specs.Transition as plain_steps
use Rattle.waiting_model.specs.Calls.{withdrawn_from}
use Rattle.waiting_model.specs.Waiters.{waiter}
use Rattle.waiting_model.specs.Marks.{Alive}
use Rattle.waiting_model.specs.Kernel.{Kernel, living_at}
use Rattle.waiting_model.specs.Effect.{Effect, outcome_of_effect}
use Rattle.waiting_model.specs.Transition.{Successor, successor, effect, may_make, may_withdraw, finish_call, outcome_of, withdraw, step_by, transition_by, transition}

-- a call that is carried out: who made it may, and it has an effect, which the caller's marks finish
pub record Makes (k : Kernel) (pid : ℕ) (call : Call) (n : ℕ) (s : Successor) : Type 0 where
  pub alive : Alive
  pub lives : living_at k pid ≡ Some alive
  pub may : may_make alive call ≡ true
  pub step : Effect
  pub does : effect k (waiter pid call) alive n ≡ Some step
  pub is : successor (finish_call step.kernel pid call step.own) (outcome_of_effect step) ≡ s

nothing : {B A : Type 0} (a : A) (o : Option A) → o ≡ None → o ≡ Some a → B
nothing a o h g = cc

made-by : (k : Kernel) (pid : ℕ) (call : Call) (n : ℕ) (s : Successor) (a : Alive) → living_at k pid ≡ Some a
    → may_make a call ≡ true → (o : Option Effect) → effect k (waiter pid call) a n ≡ o
    → outcome_of pid call o ≡ Some s → Makes k pid call n s
made-by k pid call n s a lives may None does is = nothing s None refl is
made-by k pid call n s a lives may (Some e) does is =
    let same : successor (finish_call e.kernel pid call e.own) (outcome_of_effect e) ≡ s = cc
    in record { alive = a; lives = lives; may = may; step = e; does = does; is = same }

made-if : (k : Kernel) (pid : ℕ) (call : Call) (n : ℕ) (s : Successor) (a : Alive) → living_at k pid ≡ Some a
    → (b : Bool) → may_make a call ≡ b
    → (if b then outcome_of pid call (effect k (waiter pid call) a n) else None) ≡ Some s → Makes k pid call n s
made-if k pid call n s a lives false may is = nothing s None refl is
made-if k pid call n s a lives true may is =
    made-by k pid call n s a lives may (effect k (waiter pid call) a n) refl is

made-living : (k : Kernel) (pid : ℕ) (call : Call) (n : ℕ) (s : Successor) → withdrawn_from call ≡ None
    → (o : Option Alive) → living_at k pid ≡ o → transition_by k pid call n o ≡ Some s → Makes k pid call n s
made-living k pid call n s plain None lives is = nothing s None refl is
made-living k pid call n s plain (Some a) lives is =
    made-if k pid call n s a lives (may_make a call) refl (sym (ap (step_by k pid call n a) plain) ∙ is)

-- the result of each call that is no withdrawal is so
pub makes : (k : Kernel) (pid : ℕ) (call : Call) (n : ℕ) (s : Successor) → withdrawn_from call ≡ None
    → transition k pid call n ≡ Some s → Makes k pid call n s
makes k pid call n s plain is = made-living k pid call n s plain (living_at k pid) refl is

-- a withdrawal that is carried out: who makes it waits there and was struck
pub record Leaves (k : Kernel) (pid : ℕ) (name : Name) (s : Successor) : Type 0 where
  pub alive : Alive
  pub lives : living_at k pid ≡ Some alive
  pub may : may_withdraw pid alive name ≡ true
  pub is : withdraw k pid name ≡ s

left-if : (k : Kernel) (pid : ℕ) (name : Name) (s : Successor) (a : Alive) → living_at k pid ≡ Some a
    → (b : Bool) → may_withdraw pid a name ≡ b → (if b then Some (withdraw k pid name) else None) ≡ Some s
    → Leaves k pid name s
left-if k pid name s a lives false may is = nothing s None refl is
left-if k pid name s a lives true may is =
    let same : withdraw k pid name ≡ s = cc in record { alive = a; lives = lives; may = may; is = same }

left-living : (k : Kernel) (pid : ℕ) (name : Name) (n : ℕ) (s : Successor) (o : Option Alive) → living_at k pid ≡ o
    → transition_by k pid (calls.Withdraw name) n o ≡ Some s → Leaves k pid name s
left-living k pid name n s None lives is = nothing s None refl is
left-living k pid name n s (Some a) lives is = left-if k pid name s a lives (may_withdraw pid a name) refl is

-- each withdrawal's result is so
pub leaves : (k : Kernel) (pid : ℕ) (name : Name) (n : ℕ) (s : Successor)
    → transition k pid (calls.Withdraw name) n ≡ Some s → Leaves k pid name s
leaves k pid name n s is = left-living k pid name n s (living_at k pid) refl is

-- and each such effect is a result
pub step-is : (k : Kernel) (pid : ℕ) (call : Call) (n : ℕ) (a : Alive) (e : Effect) → withdrawn_from call ≡ None
    → living_at k pid ≡ Some a → may_make a call ≡ true → effect k (waiter pid call) a n ≡ Some e
    → transition k pid call n ≡ Some (successor (finish_call e.kernel pid call e.own) (outcome_of_effect e))
step-is k pid call n a e plain lives may does =
    ap (transition_by k pid call n) lives
    ∙ (ap (step_by k pid call n a) plain
    ∙ (ap (λ (b : Bool). (if b then outcome_of pid call (effect k (waiter pid call) a n) else None)) may
    ∙ ap (outcome_of pid call) does))

-- the same in the kernel in which nobody waits
pub plain-step-is : (k : plain_kernels.Kernel) (pid : ℕ) (call : Call) (n : ℕ) (a : plain_rows.Alive)
    → (e : plain_effects.Effect) → plain_kernels.living_at k pid ≡ Some a → plain_steps.may_make a call ≡ true
    → plain_steps.effect k pid a call n ≡ Some e
    → plain_steps.transition k pid call n
    ≡ Some (plain_steps.successor
    (plain_steps.finish_call e.kernel pid (plain_kernels.living_at e.kernel pid)) (reply_alone e.reply))
plain-step-is k pid call n a e lives may does =
    ap (plain_steps.transition_by k pid call n) lives
    ∙ (ap (λ (b : Bool). (if b then plain_steps.outcome_of pid (plain_steps.effect k pid a call n) else None)) may
    ∙ ap (plain_steps.outcome_of pid) does)
