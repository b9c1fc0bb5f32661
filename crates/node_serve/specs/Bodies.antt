-- A body of a deed, as the part of the kernel that it stands for. It says nothing of what its process may still do.
use Rattle.std.specs.Prelude.{map}
use Rattle.number_maps.specs.Maps.{Numbered}
use Rattle.node_model.specs.Kinds.{Named}
use Rattle.kernel_model.specs.Row as kernel
use Rattle.node_model.specs.Bodies as model
use Rattle.node_serve.specs.declared.body.Row.{Row}
use Rattle.node_serve.specs.declared.body.Body.{Body}
use Rattle.node_serve.specs.declared.body.Body.TheVariants.{Living, Ended, Gone, Queue, Set, Removed}

abbrev pub row_of : Row → kernel.Row
row_of r = record { signals = r.signals; family = r.family }

abbrev pub body_of : Body → model.Body
body_of (Living row) = model.Living (row_of row)
body_of (Ended ending) = model.Ended ending
body_of Gone = model.Gone
body_of (Queue queue) = model.AQueue queue
body_of (Set semaphores) = model.ASet semaphores
body_of Removed = model.Removed

-- deeds with these bodies
abbrev pub numbered_of : Numbered Body → Numbered model.Body
numbered_of bodies = map (λ e. (e.0, body_of e.1)) bodies

abbrev pub bodies_of : Named Body → model.Deeds
bodies_of bodies =
    record {
      processes = numbered_of bodies.processes;
      queues = numbered_of bodies.queues;
      sets = numbered_of bodies.sets;
    }
