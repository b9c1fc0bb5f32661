-- A process's standing says by which signal it ends next.
use Rattle.std.proofs.Common.{◌≡◌, Bool, true, false, cond, Option, Some, None, is_some, refl}
use Rattle.std.specs.Option.{option_and_then}
use Rattle.pico_base.specs.declared.signal.Sig.{Sig}
use Rattle.kernel_model.specs.Transition.{is_spent}
use Rattle.waiting_model.specs.Marks.{Alive}
use Rattle.waiting_model.specs.Kernel as kernels
use Rattle.mono_kernel.specs.Standing.{standing_of}
use Rattle.trace_check.specs.FirstFault.{last_doom}
use Rattle.trace_check.specs.Standings.{doom_in}

-- the process with this doom
abbrev with_doom : Alive → Option Sig → Alive
with_doom a doom =
    record a { row = record a.row { signals = record a.row.signals { doom = doom } } }

living-by : (a : Alive) (doom : Option Sig) (parked : Bool) → is_some a.marks.parked ≡ parked
    → (spent : Bool) → is_spent a.marks.allowance ≡ spent
    → doom_in (standing_of (Some (kernels.Living (with_doom a doom))))
    ≡ cond (is_some a.marks.parked) None (cond (is_spent a.marks.allowance) doom None)
living-by a doom true waits spent is = rw waits refl
living-by a None false waits true is = rw (waits, is) refl
living-by a None false waits false is = rw (waits, is) refl
living-by a (Some sig) false waits true is = rw (waits, is) refl
living-by a (Some sig) false waits false is = rw (waits, is) refl

-- the standing's doom is the kernel's
pub standing-doom : (o : Option kernels.Process)
    → doom_in (standing_of o) ≡ last_doom (option_and_then kernels.alive_in o)
standing-doom None = refl
standing-doom (Some (kernels.Living a)) =
    living-by a a.row.signals.doom (is_some a.marks.parked) refl (is_spent a.marks.allowance) refl
standing-doom (Some (kernels.Ended ending)) = refl
standing-doom (Some kernels.Gone) = refl
