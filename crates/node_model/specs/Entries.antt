-- What a node enters in the journal.
use Rattle.std.specs.Prelude.{ℕ, List, map, Option}
use Rattle.pico_base.specs.declared.call.Call.{Call}
use Rattle.pico_base.specs.declared.reply.Reply.{Reply}
use Rattle.pico_base.specs.declared.reply.Outcome.{Outcome}
use Rattle.pico_base.specs.declared.reply.Entry.{Entry}
use Rattle.kernel_model.specs.Effect.{reply_alone}
use Rattle.waiting_model.specs.declared.callers.Wake.{Wake}
use Rattle.waiting_model.specs.Effect.{woken_pair}

-- the entry of a process's call that the node carried out
abbrev pub entry_with : ℕ → ℕ → Call → Outcome → Entry
entry_with node pid call outcome = record { pid = pid; call = call; outcome = outcome; by = node }

-- the call has its reply, and nobody is woken
abbrev pub entry_by : ℕ → ℕ → Call → Reply → Entry
entry_by node pid call reply = entry_with node pid call (reply_alone reply)

-- the caller's own reply, none where its call parks, and those who are woken, in order
abbrev pub outcome_with : Option Reply → List Wake → Outcome
outcome_with own wakes = record { own = own; woken = map woken_pair wakes }
