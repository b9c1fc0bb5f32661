-- What holds of each signal state that a process can have.
use Rattle.std.specs.Prelude.{◌≡◌, Bool, true, false, not, ◌&&◌}
use Rattle.pico_base.specs.declared.signal.Act.{Act}
use Rattle.pico_base.specs.declared.signal.Act.TheVariants.{Dfl}
use Rattle.pico_base.specs.declared.signal.PerSignal.{PerSignal}
use Rattle.pico_base.specs.declared.signal.Sig.{Sig}
use Rattle.pico_base.specs.Signal.{at}
use Rattle.kernel_model.specs.Signals.{AreSoundSignals, Signals as State, discards}

-- the kernel's laws, and KILL is never pending, since it ends the process at once
pub record IsHeld (s : State) : Type 0 where
  pub sound : AreSoundSignals s
  pub no_kill : s.pending.kill ≡ false

-- the signal isn't pending, or its action doesn't discard it
abbrev pub is_kept : PerSignal Act → PerSignal Bool → Sig → Bool
is_kept actions pending g = not (at pending g && discards (at actions g) g)

-- the same of the parts of a state that these laws speak of
pub record AreHeld (actions : PerSignal Act) (mask pending : PerSignal Bool) : Type 0 where
  pub kill_default : actions.kill ≡ Dfl
  pub unmasked : mask.kill ≡ false
  pub no_kill : pending.kill ≡ false
  pub kept : (g : Sig) → is_kept actions pending g ≡ true
