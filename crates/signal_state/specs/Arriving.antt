-- Whether a signal would arrive as soon as it is raised (POSIX.1-2017: Signal Concepts).
use Rattle.std.specs.Prelude.{Bool, not, ◌&&◌, ◌||◌, is_some}
use Rattle.pico_base.specs.declared.signal.Sig.{Sig}
use Rattle.pico_base.specs.Signal.{at}
use Rattle.kernel_model.specs.Signals.{Signals as State, discards, is_kill}

-- the process isn't doomed, and the signal is KILL, or neither discarded nor masked
abbrev pub arrives : State → Sig → Bool
arrives s g = not (is_some s.doom) && (is_kill g || (not (discards (at s.actions g) g) && not (at s.mask g)))
