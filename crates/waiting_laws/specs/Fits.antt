-- A history fits a script where what it comes to in line does, and the calls that wait at its end are due.
use Rattle.std.specs.Prelude.{◌≡◌, ℕ, List, Some, is_some}
use Rattle.std.specs.Option.{option_map}
use Rattle.pico_base.specs.declared.call.Call.{Call}
use Rattle.pico_base.specs.declared.reply.Entry.{Entry}
use Rattle.pico_base.specs.declared.script.Script.{Script}
use Rattle.number_maps.specs.Maps.{get}
use Rattle.number_maps.specs.Rising.{IsRising}
use Rattle.kernel_model.specs.Fitting as plain
use Rattle.kernel_model.specs.Fitting.{Place, due}
use Rattle.waiting_model.specs.Kernel.{Kernel, opening}
use Rattle.waiting_model.specs.History.{Replays}
use Rattle.waiting_model.specs.Fitting.{FitsFrom, Places, Progress, opening_places}
use Rattle.waiting_model.specs.Linear.{in_line}
use Rattle.waiting_laws.specs.Parked.{mark_in}

-- the call is the one that is due where the process is
pub record IsDueAt (places : plain.Places) (pid : ℕ) (call : Call) : Type 0 where
  pub place : Place
  pub there : get places pid ≡ Some place
  pub due : due place ≡ Some call

-- so is each call that waits
abbrev pub AreDue : Kernel → plain.Places → Type 0
AreDue k places = (pid : ℕ) (call : Call) → mark_in k.processes pid ≡ Some call → IsDueAt places pid call

abbrev pub place_of : Progress → Place
place_of p = p.place

-- the same processes, each at the same place of its block
abbrev pub AreAlike : Places → plain.Places → Type 0
AreAlike places others = (pid : ℕ) → option_map place_of (get places pid) ≡ get others pid

-- The history fits, each process is where it is in line, and its call waits where the kernel has the process parked.
pub record FitsAlike (script : Script) (h : List Entry) (k : Kernel) (places : plain.Places) : Type 0 where
  pub last : Places
  pub fits : FitsFrom script (opening_places script) h last
  pub ordered : IsRising last
  pub alike : AreAlike last places
  pub parked : (pid : ℕ) (p : Progress) → get last pid ≡ Some p → p.parked ≡ is_some (mark_in k.processes pid)

abbrev pub HistoriesFitByLines : Type 0
HistoriesFitByLines =
    (script : Script) (h : List Entry) (k : Kernel) (places : plain.Places) → Replays opening h k
    → plain.FitsFrom script (plain.opening_places script) (in_line h) places → AreDue k places
    → FitsAlike script h k places
