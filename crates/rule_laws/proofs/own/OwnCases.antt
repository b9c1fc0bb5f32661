-- Each call of a process on itself: it is carried out, it forks, it makes a queue or set, or it is refused.
use Rattle.std.proofs.Common.{◌≡◌, ℕ, Bool, true, false, Some, None, Result, Ok, Err, refl, sym}
use Rattle.std.proofs.lemmas.Bool.{false≢true}
use Rattle.pico_base.specs.declared.call.Call.{Call}
use Rattle.pico_base.specs.declared.call.Call.TheVariants as calls
use Rattle.pico_base.specs.declared.reply.Errno.{Errno}
use Rattle.pico_base.specs.declared.script.Event.{Event}
use Rattle.pico_base.specs.declared.script.Script.{Script}
use Rattle.kernel_model.specs.SemaphoreSet.{SemaphoreSet, new_set}
use Rattle.waiting_model.specs.Calls.{is_withdrawal}
use Rattle.waiting_model.specs.Linear.{at_once}
use Rattle.node_model.specs.Carrying.{is_own, is_served}
use Rattle.world_model.specs.World.{World}
use Rattle.world_laws.specs.Places.{Beside, CallPlace}
use Rattle.world_laws.proofs.Steps.{KeepsAs}

-- what a call of one's own is
pub data OwnCase (call : Call) : Type 0 where
  serves : is_served (at_once call) ≡ true → OwnCase call
  forks : (block : ℕ) → call ≡ calls.Fork block → OwnCase call
  makes-queue : (create excl : Bool) → call ≡ calls.MsgGet None create excl → OwnCase call
  makes-set : (count : ℕ) (create excl : Bool) (set : SemaphoreSet) → call ≡ calls.SemGet None count create excl
      → new_set count ≡ Ok set → OwnCase call
  is-refused : (count : ℕ) (create excl : Bool) (error : Errno) → call ≡ calls.SemGet None count create excl
      → new_set count ≡ Err error → OwnCase call

set-case : (count : ℕ) (create excl : Bool) (r : Result SemaphoreSet Errno) → new_set count ≡ r
    → OwnCase (calls.SemGet None count create excl)
set-case count create excl (Ok set) is = makes-set count create excl set refl is
set-case count create excl (Err error) is = is-refused count create excl error refl is

-- each own call is one of these
pub own-case : (pid : ℕ) (call : Call) → is_own pid call ≡ true → is_withdrawal call ≡ false → OwnCase call
own-case pid (calls.Fork block) own h = forks block refl
own-case pid (calls.MsgGet None create excl) own h = makes-queue create excl refl
own-case pid (calls.MsgGet (Some key) create excl) own h = absurd (false≢true own)
own-case pid (calls.SemGet None count create excl) own h = set-case count create excl (new_set count) refl
own-case pid (calls.SemGet (Some key) count create excl) own h = absurd (false≢true own)
own-case pid (calls.Exit status) own h = absurd (false≢true own)
own-case pid (calls.Killed sig) own h = absurd (false≢true own)
own-case pid (calls.SemOp id steps) own h = absurd (false≢true own)
own-case pid (calls.Withdraw name) own h = absurd (false≢true (sym h))
own-case pid call own h = serves refl

-- an event has a step, and the invariant holds after it, with calls in such places
pub record Keeps (script : Script) (w : World) (e : Event) (After : (ℕ → CallPlace) → Type 0) : Type 0 where
  pub beside : Beside
  pub keeps : KeepsAs script w e beside
  pub after : After beside.call
