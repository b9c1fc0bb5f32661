-- Where a fitting history has a process's call wait, the kernel has it parked.
use Rattle.std.specs.Prelude.{◌≡◌, ℕ, List, Some, is_some}
use Rattle.pico_base.specs.declared.reply.Entry.{Entry}
use Rattle.pico_base.specs.declared.script.Script.{Script}
use Rattle.number_maps.specs.Maps.{get}
use Rattle.waiting_model.specs.Kernel.{Kernel, opening}
use Rattle.waiting_model.specs.History.{Replays}
use Rattle.waiting_model.specs.Fitting.{FitsFrom, Places, Progress, opening_places}
use Rattle.waiting_laws.specs.Parked.{mark_in}

-- In each legal history that fits a script a process's call that is due waits exactly where the process is parked.
abbrev pub PlacesAreMarks : Type 0
PlacesAreMarks = (script : Script) (h : List Entry) (k : Kernel) (places : Places) → Replays opening h k
    → FitsFrom script (opening_places script) h places → (pid : ℕ) (p : Progress) → get places pid ≡ Some p
    → p.parked ≡ is_some (mark_in k.processes pid)
