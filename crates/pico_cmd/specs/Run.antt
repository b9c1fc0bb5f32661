-- What a run of a script comes to.
use Rattle.std.specs.Prelude.{◌≡◌, ◌≤◌, ℕ, ◌*◌, Bool, true, false, List, [], ◌++◌, length, take}
use Rattle.pico_base.specs.declared.numbers.Name.{Name}
use Rattle.pico_base.specs.declared.script.Script.{Script}
use Rattle.pico_base.specs.declared.script.Event.{Event}
use Rattle.kernel_model.specs.Trace.{trace_text}
use Rattle.waiting_model.specs.Fitting.{FitsWhole}
use Rattle.waiting_model.specs.History.{IsLegal, Replays}
use Rattle.waiting_model.specs.Kernel.{Kernel, opening}
use Rattle.waiting_model.specs.Plain.{plain_kernel}
use Rattle.entry_laws.specs.Entering.{is_used_name}
use Rattle.world_model.specs.World.{World, opening_world, node_count}
use Rattle.world_model.specs.Run.{IsRunOf, IsAtRest}
use Rattle.world_model.specs.Schedule.{Follows, schedule_of}
use Rattle.world_model.specs.Census.{one_if, owners}
use Rattle.rest_laws.specs.Laws.{IsQuiet}
use Rattle.weight_laws.specs.Weights.{calls_of}
use Rattle.trace_text.specs.Steps.{steps_text}
use Rattle.pico_words.specs.declared.words.Options.{Options}
use Rattle.pico_cmd.specs.Stalled.{IsLeftAs}

-- A run of a script's picoprocesses to rest, and the world that it ends in.
pub record IsRunToRest (script : Script) (events : List Event) (last : World) : Type 0 where
  pub run : IsRunOf script events last
  pub rest : IsAtRest last
  -- at rest nothing is on its way, the leader holds nothing, and each node but node 1 has left, or was never born, or a
  -- call of its process waits
  pub quiet : IsQuiet script last
  -- the journal is one history of a single POSIX kernel, and each process's calls stand in it once and in order, to
  -- the process's end, or to the call in which it waits
  pub legal : IsLegal last.journal
  pub whole : FitsWhole script last.journal
  -- after any first events the journal is legal, and with the kernel that it replays to, a name has one owner where
  -- the kernel has used it, and none where it hasn't
  pub legal_so_far : (count : ℕ) (w : World) → IsRunOf script (take count events) w → IsLegal w.journal
  pub owners : (count : ℕ) (w : World) (k : Kernel) (name : Name) → IsRunOf script (take count events) w
      → Replays opening w.journal k → owners name w ≡ one_if (is_used_name (plain_kernel k) name)
  -- there are at most 32 events for each call
  pub short : length events ≤ 32 * calls_of script

-- The run that the schedule of this number takes from the opening world.
pub record IsScheduledRun (script : Script) (seed : ℕ) (events : List Event) (last : World) : Type 0 where
  pub schedule : Follows (opening_world script) (schedule_of seed (node_count script)) events last
  pub to_rest : IsRunToRest script events last

-- the text of the events, where it is wanted
abbrev pub steps_if : Bool → List Event → List ℕ
steps_if true events = steps_text events
steps_if false events = []

-- the text of a run that is left so: its trace, and its events where they are wanted
pub record IsTextOfRun (script : Script) (options : Options) (stalled : Bool) (text : List ℕ) : Type 0 where
  pub events : List Event
  pub last : World
  pub run : IsScheduledRun script options.seed events last
  pub left : IsLeftAs stalled last
  pub is_text : text ≡ trace_text script last.journal ++ steps_if options.steps events
