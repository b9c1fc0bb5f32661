-- Who asks, and what is noted of those who waited.
use Rattle.std.specs.Prelude.{◌≡◌, ℕ, List, [], ◌∷◌}
use Rattle.pico_base.specs.declared.call.Call.{Call}
use Rattle.waiting_model.specs.declared.callers.Waiting.{Waiting}
use Rattle.waiting_model.specs.declared.callers.Wake.{Wake}
use Rattle.sysv_sem.specs.declared.apply.Asker.{Asker}

-- who asks, as it would wait with its call
abbrev pub asking : Asker → Call → Waiting
asking who call = record { caller = who.caller; ticket = who.ticket; pid = who.pid; call = call }

-- Where a change wakes somebody the processes noted are those. Where it wakes nobody nothing is said of them.
abbrev pub NotesTakers : List Wake → List ℕ → List ℕ → Type 0
NotesTakers [] pids those = Unit {0}
NotesTakers (w ∷ ws) pids those = pids ≡ those
