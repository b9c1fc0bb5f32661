-- What a function returned is what is wanted, unless memory ran out.
use Rattle.std.specs.Prelude.{◌≡◌, List, Result, Ok, Err}
use Rattle.pico_base.specs.declared.script.Script.{Script}
use Rattle.stamp_merge.specs.declared.Stamped.{Stamped}
use Rattle.image_text.specs.declared.fault.ImageFault.{ImageFault}
use Rattle.image_text.specs.declared.fault.ImageStop.{ImageStop}
use Rattle.image_text.specs.declared.fault.ImageStop.TheVariants.{Memory, Script as InScript, At}

-- it stopped where it was to stop
abbrev pub Stops : {A : Type 0} → ImageStop → Result A ImageStop → Type 0
Stops Memory wanted = Unit {0}
Stops (InScript line fault) wanted = wanted ≡ Err (InScript line fault)
Stops (At line fault) wanted = wanted ≡ Err (At line fault)

abbrev pub Gives : {A : Type 0} → Result A ImageStop → Result A ImageStop → Type 0
Gives (Ok x) wanted = wanted ≡ Ok x
Gives (Err stop) wanted = Stops stop wanted
