-- The names of faults, as they are printed.
use Rattle.std.specs.Prelude.{ℕ, List, codes}
use Rattle.image_text.specs.declared.fault.ImageFault.{ImageFault}
use Rattle.image_text.specs.declared.fault.ImageFault.TheVariants.{NotAnImage, NotRising, NotEnabled}

abbrev pub name_of : ImageFault → List ℕ
name_of NotAnImage = codes "NotAnImage"
name_of NotRising = codes "NotRising"
name_of NotEnabled = codes "NotEnabled"
