-- The line `trace` where the script's reading may have run out of memory.
use Rattle.std.proofs.Common.{◌≡◌, ℕ, Bool, true, false, cond, ltb, Option, Some, None, Result, Ok, Err, refl, sym, subst}
use Rattle.pico_base.specs.declared.script.Script.{Script}
use Rattle.kernel_model.specs.Script.{IsSoundScript}
use Rattle.std.specs.Prelude.{IfOk}
use Rattle.script_reader.specs.declared.fault.ScriptFault.{ScriptFault}
use Rattle.script_reader.specs.declared.fault.ScriptFault.TheVariants.{LineTooLong}
use Rattle.script_reader.specs.declared.fault.ScriptStop.{ScriptStop}
use Rattle.script_reader.specs.declared.fault.ScriptStop.TheVariants.{Memory, At}
use Rattle.script_reader.specs.Fault.{Gives}
use Rattle.check_input.specs.Parts.{with_long_marker}

abbrev earlier : ℕ → ℕ → ScriptFault → Bool → Result Script ScriptStop
earlier line l fault b = cond b (Err (At l fault)) (Err (At line LineTooLong))

given_itself : (line l : ℕ) (fault : ScriptFault) (b : Bool) → Gives (earlier line l fault b) (earlier line l fault b)
given_itself line l fault true = refl
given_itself line l fault false = refl

-- what was read gives what is to be read, and so it does with the line's fault
pub gives_long_marker : (line : ℕ) (r wanted : Result Script ScriptStop) → Gives r wanted
    → Gives (with_long_marker line r) (with_long_marker line wanted)
gives_long_marker line (Ok script) wanted h = rw h refl
gives_long_marker line (Err Memory) wanted h = tt
gives_long_marker line (Err (At l fault)) wanted h =
    subst (λ (w : Result Script ScriptStop). Gives (with_long_marker line (Err (At l fault))) (with_long_marker line w))
    (sym h) (given_itself line l fault (ltb l line))

none_sound : (line l : ℕ) (fault : ScriptFault) (b : Bool) → IfOk (earlier line l fault b) IsSoundScript
none_sound line l fault true = tt
none_sound line l fault false = tt

pub sound_long_marker : (line : ℕ) (r : Result Script ScriptStop) → IfOk (with_long_marker line r) IsSoundScript
sound_long_marker line (Ok script) = tt
sound_long_marker line (Err Memory) = tt
sound_long_marker line (Err (At l fault)) = none_sound line l fault (ltb l line)
