-- From what a kernel has as a process's body to the process, and back; what tells two kernels with the same bodies
-- nothing apart but what processes may still do.
use Rattle.std.proofs.Common.{◌≡◌, ℕ, Option, Some, None, refl, ap}
use Rattle.std.specs.Option.{option_and_then}
use Rattle.pico_base.specs.declared.numbers.Name.TheVariants.{Proc}
use Rattle.number_maps.specs.Maps.{get}
use Rattle.kernel_model.specs.Row.{Alive, Row}
use Rattle.kernel_model.specs.Kernel.{Kernel, Process, alive_in, living_at}
use Rattle.kernel_model.specs.Kernel as kernel
use Rattle.kernel_laws.proofs.People.{from-living}
use Rattle.node_model.specs.Bodies.{Living, body_in, process_body}
use Rattle.entry_laws.specs.Entering.{HasRow}

-- a living process's body is its row
pub living-body : (k : Kernel) (p : ℕ) (a : Alive) → living_at k p ≡ Some a → body_in k (Proc p) ≡ Living a.row
living-body k p a lives = ap process_body (from-living k.processes p a lives)

row_from : (k : Kernel) (p : ℕ) (row : Row) (o : Option Process) → get k.processes p ≡ o → process_body o ≡ Living row
    → HasRow k p row
row_from k p row None there is = absurd (cc)
row_from k p row (Some (kernel.Ended e)) there is = absurd (cc)
row_from k p row (Some kernel.Gone) there is = absurd (cc)
row_from k p row (Some (kernel.Living a)) there is =
    let same : a.row ≡ row = cc
    in record { alive = a; lives = ap (option_and_then alive_in) there; row_is = same }

-- a body that is a row is that of a living process
pub body-living : (k : Kernel) (p : ℕ) (row : Row) → body_in k (Proc p) ≡ Living row → HasRow k p row
body-living k p row is = row_from k p row (get k.processes p) refl is

dead_from : (k : Kernel) (p : ℕ) (o : Option Process) → get k.processes p ≡ o
    → ((row : Row) → process_body o ≡ Living row → ⊥) → living_at k p ≡ None
dead_from k p None there none = ap (option_and_then alive_in) there
dead_from k p (Some (kernel.Living a)) there none = absurd (none a.row refl)
dead_from k p (Some (kernel.Ended e)) there none = ap (option_and_then alive_in) there
dead_from k p (Some kernel.Gone) there none = ap (option_and_then alive_in) there

-- a body that is no row is that of no living process
pub body-dead : (k : Kernel) (p : ℕ) → ((row : Row) → body_in k (Proc p) ≡ Living row → ⊥) → living_at k p ≡ None
body-dead k p none = dead_from k p (get k.processes p) refl none
