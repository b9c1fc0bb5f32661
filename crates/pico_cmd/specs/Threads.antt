-- The headline: what a run with a thread for each picoprocess comes to, whatever its threads do.
use Rattle.std.specs.Prelude.{◌≡◌, ◌≤◌, ℕ, ◌*◌, Bool, List, [], ◌∷◌, ◌++◌, length, take, map}
use Rattle.pico_base.specs.declared.numbers.Name.{Name}
use Rattle.pico_base.specs.declared.script.Script.{Script}
use Rattle.pico_base.specs.declared.script.Event.{Event}
use Rattle.pico_base.specs.declared.reply.Entry.{Entry}
use Rattle.kernel_model.specs.Trace.{totals_line, trace_text}
use Rattle.waiting_model.specs.Fitting.{FitsWhole}
use Rattle.waiting_model.specs.History.{IsLegal, Replays}
use Rattle.waiting_model.specs.Kernel.{Kernel, opening}
use Rattle.waiting_model.specs.Plain.{plain_kernel}
use Rattle.entry_laws.specs.Entering.{is_used_name}
use Rattle.world_model.specs.World.{World}
use Rattle.world_model.specs.Run.{IsRunOf}
use Rattle.world_model.specs.Census.{one_if, owners}
use Rattle.rest_laws.specs.Laws.{IsQuiet}
use Rattle.weight_laws.specs.Weights.{calls_of}
use Rattle.pico_run.specs.declared.rested.Rested.{Rested}
use Rattle.pico_run.specs.Rested.{IsRested}
use Rattle.pico_cmd.specs.Run.{steps_if}
use Rattle.pico_cmd.specs.Stalled.{IsLeftAs, is_left_stalled}

-- the run's events, by stamp and node, and the entries of its journal
abbrev pub events_in : Rested → List Event
events_in r = map (λ e. e.item) r.events

abbrev pub entries_in : Rested → List Entry
entries_in r = map (λ e. e.entry) r.journal

pub record IsOneHistory (script : Script) (r : Rested) : Type 0 where
  -- The nodes' logs agree about the frames between them, their events by stamp and node are a run of the machine to
  -- rest, and each thread made 100,000 turns in a row that found nothing before it left.
  pub rested : IsRested script r
  pub run : IsRunOf script (events_in r) rested.world
  -- The journal is one history of a single POSIX kernel: each reply is the kernel's at its point, ENOMSG and EAGAIN
  -- only where nothing was ready. Each process's calls stand in it once and in order, to the process's end,
  -- or to the call in which it waits.
  pub legal : IsLegal (entries_in r)
  pub whole : FitsWhole script (entries_in r)
  -- After any first events the journal is legal, and with the kernel that it replays to, a name has one owner where the
  -- kernel has used it, and none where it hasn't.
  pub legal_so_far : (count : ℕ) (w : World) → IsRunOf script (take count (events_in r)) w → IsLegal w.journal
  pub owners : (count : ℕ) (w : World) (k : Kernel) (name : Name) → IsRunOf script (take count (events_in r)) w
      → Replays opening w.journal k → owners name w ≡ one_if (is_used_name (plain_kernel k) name)
  -- At rest nothing is on its way, the leader holds nothing, and each node but node 1 has left, or was never born, or a
  -- call of its process waits. Each process has ended, or, where the run is stalled, some wait.
  pub quiet : IsQuiet script rested.world
  pub left : IsLeftAs (is_left_stalled r) rested.world
  -- There are at most 32 events for each call.
  pub short : length (events_in r) ≤ 32 * calls_of script

-- the text of the run whose outcome is handed back: its trace, and its events where they are wanted
pub record IsTextOfThreads (script : Script) (steps : Bool) (text : List ℕ) (rested : List Rested) : Type 0 where
  pub one : Rested
  pub handed : rested ≡ one ∷ []
  pub history : IsOneHistory script one
  pub is_text : text ≡ trace_text script (entries_in one) ++ steps_if steps (events_in one)

-- the totals of such a run, and its events where they are wanted
pub record IsTotalsOfThreads (script : Script) (steps : Bool) (text : List ℕ) (rested : List Rested) : Type 0 where
  pub one : Rested
  pub handed : rested ≡ one ∷ []
  pub history : IsOneHistory script one
  pub is_text : text ≡ totals_line (entries_in one) ++ steps_if steps (events_in one)
