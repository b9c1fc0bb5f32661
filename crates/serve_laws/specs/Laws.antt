-- What it comes to for the kernel when a call is carried out on the body of a deed.
use Rattle.std.specs.Prelude.{◌≡◌, ◌≢◌, ℕ, Bool, true, false, nat_eq, Some}
use Rattle.pico_base.specs.declared.call.Call.{Call}
use Rattle.pico_base.specs.declared.numbers.Name.{Name}
use Rattle.pico_base.specs.declared.numbers.Name.TheVariants.{Proc}
use Rattle.pico_base.specs.declared.reply.Outcome.{Outcome}
use Rattle.pico_base.specs.declared.reply.Reply.{Reply}
use Rattle.pico_base.specs.declared.reply.Reply.TheVariants.{Child}
use Rattle.kernel_model.specs.Kernel.{Kernel}
use Rattle.kernel_model.specs.Effect.{reply_alone}
use Rattle.kernel_model.specs.Valid.{IsValid}
use Rattle.kernel_model.specs.Transition.{successor, transition}
use Rattle.node_model.specs.Bodies.{Body, Gone, body_in}
use Rattle.node_model.specs.Serving.{name_for}
use Rattle.node_model.specs.Carrying.{Done, is_served, on_body}

-- the child that a reply to `waitpid` names
abbrev pub is_found : Reply → Name → Bool
is_found (Child child ending) (Proc pid) = nat_eq child pid
is_found reply name = false

-- The next kernel has this part for the name, and the reply is this one. A child that was found is gone, and other
-- names have the parts that they had.
pub record Follows (k : Kernel) (name : Name) (d : Done Body) (next : Kernel) (answer : Reply) : Type 0 where
  pub reply : answer ≡ d.reply
  pub there : body_in next name ≡ d.left
  pub found : (other : Name) → is_found answer other ≡ true → body_in next other ≡ Gone
  pub others : (other : Name) → other ≢ name → is_found answer other ≡ false → body_in next other ≡ body_in k other

pub record IsServed (k : Kernel) (pid : ℕ) (call : Call) (name : Name) (next : Kernel)
    (outcome : Outcome) : Type 0 where
  pub answer : Reply
  pub alone : outcome ≡ reply_alone answer
  pub follows : Follows k name (on_body name (body_in k name) pid call) next answer

-- The deed has the kernel's part for its name, so the kernel agrees with it on the call's footprint.
abbrev pub ServedCallsAreTheKernels : Type 0
ServedCallsAreTheKernels =
    (k : Kernel) (pid n : ℕ) (call : Call) (name : Name) (next : Kernel) (outcome : Outcome) → IsValid k
    → is_served call ≡ true → name_for pid call ≡ Some name → transition k pid call n ≡ Some (successor next outcome)
    → IsServed k pid call name next outcome
