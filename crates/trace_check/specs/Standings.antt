-- What a process's standing says of its doom.
use Rattle.std.specs.Prelude.{nat_eq, if◌then◌else◌, Option, Some, None}
use Rattle.pico_base.specs.declared.signal.Sig.{Sig}
use Rattle.mono_kernel.specs.declared.standing.Standing.{Standing}
use Rattle.mono_kernel.specs.declared.standing.Standing.TheVariants.{Unknown, Living, Doomed, Parked, Ended, Gone}

-- the signal that ends a process which isn't parked and may have no further entry before its end
abbrev pub doom_in : Standing → Option Sig
doom_in (Doomed sig more) = if nat_eq more 0 then Some sig else None
doom_in Unknown = None
doom_in Living = None
doom_in (Parked doom) = None
doom_in Ended = None
doom_in Gone = None
