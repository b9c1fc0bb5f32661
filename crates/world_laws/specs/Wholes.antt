-- What holds of the kernel in which callers wait: the journal leads to it; in line it is the other one; and who waits
-- there is who waits in the world.
use Rattle.std.specs.Prelude.{◌≡◌, ℕ, true, Option, Some, None}
use Rattle.pico_base.specs.declared.call.Call.{Call}
use Rattle.pico_base.specs.declared.numbers.Name.{Name}
use Rattle.waiting_model.specs.Marks.{Alive}
use Rattle.waiting_model.specs.Kernel.{living_at, opening}
use Rattle.waiting_model.specs.History.{Replays}
use Rattle.waiting_model.specs.Linear.{in_line}
use Rattle.waiting_model.specs.Transition.{may_make}
use Rattle.waiting_laws.specs.InLine.{IsAlike}
use Rattle.waiting_laws.specs.Sound.{IsSound}
use Rattle.node_model.specs.Bodies.{erase, whole_in}
use Rattle.world_model.specs.Node.{Node}
use Rattle.world_model.specs.World.{World}
use Rattle.world_laws.specs.Places.{CallPlace, Parked, Waits, InAnswer, Beside}
use Rattle.world_laws.specs.Sights.{node_of}
use Rattle.world_laws.specs.Cancels.{Owing, Nothing, AStrike, Wakes}

-- By where a node's call is: its process is parked with it, or isn't parked; and one that isn't carried out may be
-- made.
abbrev pub HasMarksOf : CallPlace → Call → Alive → Type 0
HasMarksOf Parked call a = a.marks.parked ≡ Some call
HasMarksOf (Waits name) call a = a.marks.parked ≡ Some call
HasMarksOf (InAnswer h reply) call a = a.marks.parked ≡ None
HasMarksOf place call a = may_make a call ≡ true

abbrev pub HasMarks : CallPlace → Option Call → Alive → Type 0
HasMarks place None a = a.marks.parked ≡ None
HasMarks place (Some call) a = HasMarksOf place call a

abbrev pub under_way_at : World → ℕ → Option Call
under_way_at w p =
    let n : Node = node_of w p
    in n.caller.under_way

pub record HasWhole (w : World) (b : Beside) : Type 0 where
  pub legal : Replays opening w.journal b.whole
  pub lines : b.lines ≡ in_line w.journal
  pub alike : IsAlike b.whole b.kernel
  pub sound : IsSound b.whole
  pub bodies : (name : Name) → erase (b.body name) ≡ whole_in b.whole name
  pub marks : (p : ℕ) (a : Alive) → living_at b.whole (b.pids p) ≡ Some a
      → HasMarks (b.call p) (under_way_at w p) a

-- while some are still to be woken, the journal is ahead of what is in line
abbrev pub WholeIf : Owing → World → Beside → Type 0
WholeIf Nothing w b = HasWhole w b
WholeIf (AStrike p) w b = HasWhole w b
WholeIf Wakes w b = Unit {0}
