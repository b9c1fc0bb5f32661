-- Who may make which call, and by which signal a process ends that may have no further entry.
use Rattle.std.proofs.Common.{◌≡◌, ◌∙◌, Bool, true, false, not, cond, Option, Some, None, is_some, refl, sym, ap}
use Rattle.std.proofs.lemmas.Bool.{and_parts, eqb-true}
use Rattle.std.proofs.lemmas.Option.{same_Some}
use Rattle.pico_base.specs.declared.call.Call.{Call}
use Rattle.pico_base.specs.declared.call.Call.TheVariants as calls
use Rattle.pico_base.specs.declared.signal.Sig.{Sig}
use Rattle.pico_base.specs.Signal.{signal_number}
use Rattle.kernel_model.specs.Transition as plain_kernel
use Rattle.kernel_model.specs.Transition.{is_spent, is_doomed_by}
use Rattle.waiting_model.specs.Marks.{Alive, plain_alive}
use Rattle.waiting_model.specs.Transition.{may_make}
use Rattle.trace_check.specs.FirstFault.{last_doom}
use Rattle.trace_check.proofs.SameTexts.{same-signal}

-- a process that has had its last entry but for its end makes that end alone
pub record IsEnd (a : Alive) (call : Call) : Type 0 where
  pub sig : Sig
  pub is : call ≡ calls.Killed sig
  pub dooms : is_doomed_by a.row.signals.doom sig ≡ true

ends-by : (a : Alive) (call : Call) → is_spent a.marks.allowance ≡ true
    → plain_kernel.may_make (plain_alive a) call ≡ true → IsEnd a call
ends-by a (calls.Killed sig) spent may = record { sig = sig; is = refl; dooms = may }
ends-by a call spent may = let no : false ≡ true = sym (ap not spent) ∙ may in absurd (cc)

-- nobody else may make a call then
pub spent-ends : (a : Alive) (call : Call) → is_spent a.marks.allowance ≡ true → may_make a call ≡ true → IsEnd a call
spent-ends a call spent may =
    ends-by a call spent
    (and_parts (not (is_some a.marks.parked)) (plain_kernel.may_make (plain_alive a) call) may).1

-- it ends by the signal that dooms it
pub doom-ends : (doom : Option Sig) (sig g : Sig) → doom ≡ Some sig → is_doomed_by doom g ≡ true → sig ≡ g
doom-ends None sig g is test = absurd (cc)
doom-ends (Some d) sig g is test =
    let same : d ≡ sig = same_Some d sig is in
    sym same ∙ same-signal d g (eqb-true (signal_number d) (signal_number g) test)

pub record IsLast (a : Alive) (sig : Sig) : Type 0 where
  pub spent : is_spent a.marks.allowance ≡ true
  pub doom : a.row.signals.doom ≡ Some sig

last-by : (a : Alive) (sig : Sig) (parked spent : Bool) → is_spent a.marks.allowance ≡ spent
    → cond parked None (cond spent a.row.signals.doom None) ≡ Some sig → IsLast a sig
last-by a sig true spent is doom = absurd (cc)
last-by a sig false true is doom = record { spent = is; doom = doom }
last-by a sig false false is doom = absurd (cc)

-- the signal that ends a process next is the one that dooms it, and it has no further entry
pub last-is : (a : Alive) (sig : Sig) → last_doom (Some a) ≡ Some sig → IsLast a sig
last-is a sig doom = last-by a sig (is_some a.marks.parked) (is_spent a.marks.allowance) refl doom
