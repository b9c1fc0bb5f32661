-- How a process stands.
use Rattle.std.specs.Prelude.{ℕ, if◌then◌else◌, Option, Some, None, is_some}
use Rattle.pico_base.specs.declared.signal.Sig.{Sig}
use Rattle.waiting_model.specs.Marks.{Alive}
use Rattle.waiting_model.specs.Kernel as kernels
use Rattle.kernel_model.specs.Transition.{is_spent}
use Rattle.mono_kernel.specs.declared.standing.Standing.{Standing}
use Rattle.mono_kernel.specs.declared.standing.Standing.TheVariants.{Unknown, Living, Doomed, Parked, Ended, Gone}

-- the entries that a doomed process may still have before its ending
abbrev pub entries_left : Alive → ℕ
entries_left a = if is_spent a.marks.allowance then 0 else 1

abbrev pub standing_of_doom : Alive → Option Sig → Standing
standing_of_doom a None = Living
standing_of_doom a (Some sig) = Doomed sig (entries_left a)

abbrev pub standing_alive : Alive → Standing
standing_alive a =
    if is_some a.marks.parked then Parked a.row.signals.doom else standing_of_doom a a.row.signals.doom

abbrev pub standing_of : Option kernels.Process → Standing
standing_of None = Unknown
standing_of (Some (kernels.Living a)) = standing_alive a
standing_of (Some (kernels.Ended ending)) = Ended
standing_of (Some kernels.Gone) = Gone
