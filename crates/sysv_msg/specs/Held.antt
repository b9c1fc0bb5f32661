-- A queue as a node holds it: with a list for each text, or packed as it came.
use Rattle.kernel_model.specs.Queue.{Queue}
use Rattle.waiting_model.specs.Waiters.{Awaited, unawaited}
use Rattle.sysv_msg.specs.declared.held.Form.{Form}
use Rattle.sysv_msg.specs.declared.held.Form.TheVariants.{Linked, Packed}

-- nobody waits at a queue that is packed
abbrev pub held_of : Form → Awaited Queue
held_of (Linked q) = q
held_of (Packed q) = unawaited q
