-- The bytes of bodies (profile): a code for the kind, and its fields.
use Rattle.std.specs.Prelude.{◌≡◌, ℕ, ◌<◌, Bool, IsTrue, List, [], ◌∷◌, ◌++◌}
use Rattle.pico_base.specs.declared.numbers.Name.{Name}
use Rattle.pico_base.specs.declared.reply.Ending.{Ending}
use Rattle.pico_base.specs.declared.reply.Ending.TheVariants.{Exited, Killed}
use Rattle.signal_state.specs.Spelling.{signal_bytes, HasBytes as HasSignalBytes}
use Rattle.fork_wait.specs.Spelling.{ending_bytes, family_bytes, HasBytes as HasFamilyBytes}
use Rattle.sysv_msg.specs.Body as queues
use Rattle.sysv_sem.specs.Body as sets
use Rattle.node_model.specs.Bodies.{fits_name, waiters_of}
use Rattle.node_serve.specs.Bodies.{body_of}
use Rattle.node_serve.specs.declared.body.Row.{Row}
use Rattle.node_serve.specs.declared.body.Body.{Body}
use Rattle.node_serve.specs.declared.body.Body.TheVariants.{Living, Ended, Gone, Queue, Set, Removed}

-- the bytes of a row: the 55 of its signals, and those of its family
pub record IsRow (row : Row) (bytes : List ℕ) : Type 0 where
  pub signals : HasSignalBytes row.signals
  pub family : HasFamilyBytes row.family
  pub spelled : bytes ≡ signal_bytes row.signals ++ family_bytes row.family

-- a status has one byte
abbrev pub IsEnding : Ending → Type 0
IsEnding (Exited status) = status < 256
IsEnding (Killed sig) = Unit {0}

-- the bytes are the body's, which is within its limits
abbrev pub IsSpelled : Body → List ℕ → Type 0
IsSpelled (Living row) [] = ⊥
IsSpelled (Living row) (code ∷ bytes) = (code ≡ 1) × IsRow row bytes
IsSpelled (Ended ending) bytes = IsEnding ending × (bytes ≡ 2 ∷ ending_bytes ending)
IsSpelled Gone bytes = bytes ≡ 3 ∷ []
IsSpelled (Queue queue) bytes = queues.IsBodyOf queue bytes
IsSpelled (Set semaphores) bytes = sets.IsBodyOf semaphores bytes
IsSpelled Removed bytes = bytes ≡ 6 ∷ []

-- the kinds of bodies that go with a name
abbrev pub suits : Body → Name → Bool
suits body name = fits_name name (body_of body)

-- the bytes are a body's that goes with the name, and at which nobody waits
pub record IsUnawaited (name : Name) (bytes : List ℕ) : Type 0 where
  pub body : Body
  pub suits_name : IsTrue (suits body name)
  pub spelled : IsSpelled body bytes
  pub nobody : waiters_of (body_of body) ≡ []
