-- Bytes of a queue or a set at which nobody waits are those of a body that goes with its name.
use Rattle.std.proofs.Common.{ℕ, Bool, true, false, List, refl}
use Rattle.std.specs.Bool.{OnTrue}
use Rattle.pico_base.specs.declared.numbers.Name.TheVariants.{Msg, Sem}
use Rattle.sysv_msg.specs.Passing as queues
use Rattle.sysv_sem.specs.Passing as sets
use Rattle.waiting_model.specs.Waiters.{unawaited}
use Rattle.node_serve.specs.declared.body.Body.TheVariants.{Queue, Set}
use Rattle.node_serve.specs.Spelled.{IsUnawaited}

-- bytes of a queue at which nobody waits are a body at which nobody waits
pub queue-alone : (yes : Bool) (id : ℕ) (bytes : List ℕ) → OnTrue yes (queues.IsUnawaited bytes)
    → OnTrue yes (IsUnawaited (Msg id) bytes)
queue-alone true id bytes u =
    record { body = Queue (unawaited u.queue); suits_name = refl; spelled = u.is_body; nobody = refl }
queue-alone false id bytes u = tt

-- and so are those of a set
pub set-alone : (yes : Bool) (id : ℕ) (bytes : List ℕ) → OnTrue yes (sets.IsUnawaited bytes)
    → OnTrue yes (IsUnawaited (Sem id) bytes)
set-alone true id bytes u =
    record { body = Set (unawaited u.set); suits_name = refl; spelled = u.is_body; nobody = refl }
set-alone false id bytes u = tt
