-- A history is a list of carried-out calls. It is legal where each is the kernel's at its point.
use Rattle.std.specs.Prelude.{◌≡◌, List, [], ◌∷◌, Some}
use Rattle.pico_base.specs.declared.reply.Entry.{Entry}
use Rattle.kernel_model.specs.History.{number_in}
use Rattle.waiting_model.specs.Kernel.{Kernel, opening}
use Rattle.waiting_model.specs.Transition.{successor, transition}

-- the kernel's transition gives just this entry's outcome, whom it wakes too, and the rest goes on from the next kernel
pub record ReplaysEntry (k : Kernel) (e : Entry) (Rest : Kernel → Type 0) : Type 0 where
  pub next : Kernel
  pub step : transition k e.pid e.call (number_in e.outcome.own) ≡ Some (successor next e.outcome)
  pub rest : Rest next

-- entry by entry, from a kernel to the last one
abbrev pub Replays : Kernel → List Entry → Kernel → Type 0
Replays k [] last = k ≡ last
Replays k (e ∷ es) last = ReplaysEntry k e (λ next. Replays next es last)

-- from the opening kernel on, entry by entry
pub record IsLegal (history : List Entry) : Type 0 where
  pub last : Kernel
  pub replays : Replays opening history last
