-- What the code keeps of the entries so far, and what it answers of the next one.
use Rattle.std.specs.Prelude.{◌≡◌, Option, Some, None, Result, Ok, Err}
use Rattle.pico_base.specs.declared.reply.Outcome.{Outcome}
use Rattle.pico_base.specs.declared.script.Script.{Script}
use Rattle.number_maps.specs.Maps.{Numbered}
use Rattle.waiting_model.specs.Kernel.{Kernel}
use Rattle.waiting_model.specs.Transition.{Successor, successor}
use Rattle.trace_text.specs.declared.fault.CheckFault.{CheckFault}
use Rattle.trace_check.specs.declared.cursor.Cursor.{Cursor}
use Rattle.trace_check.specs.Cursors.{places_of}
use Rattle.trace_check.specs.FirstFault.{SoFar, GivesFault}

-- the kernel, and the processes in their blocks
abbrev pub so_far_of : Script → Kernel → Numbered Cursor → SoFar
so_far_of script kernel cursors = record { kernel = kernel; places = places_of script cursors }

-- what a call of the kernel led to: its outcome, or that there is no transition
abbrev pub Carried : Option Outcome → Option Successor → Kernel → Type 0
Carried None wanted kernel = wanted ≡ None
Carried (Some outcome) wanted kernel = wanted ≡ Some (successor kernel outcome)

-- the answer is what is wanted, unless memory ran out; where there is no fault this value is it
abbrev pub Yields : {A X : Type 0} → Result X CheckFault → A → Result A CheckFault → Type 0
Yields (Ok x) value wanted = wanted ≡ Ok value
Yields (Err fault) value wanted = GivesFault fault wanted
