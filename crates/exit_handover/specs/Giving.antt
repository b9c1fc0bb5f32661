-- What a node hands over once its process has made its last call.
use Rattle.std.specs.Prelude.{◌≡◌, ℕ, Bool, if◌then◌else◌, List, [], ◌∷◌, ◌++◌, map}
use Rattle.pico_base.specs.declared.call.Call.{Call}
use Rattle.pico_base.specs.declared.numbers.Name.{Name}
use Rattle.pico_base.specs.declared.numbers.Name.TheVariants.{Proc, Msg, Sem}
use Rattle.rpc_frame.specs.declared.deed.PackedDeed.{PackedDeed}
use Rattle.rpc_frame.specs.declared.frame.Frame.{Frame}
use Rattle.rpc_frame.specs.declared.frame.Frame.TheVariants as frames
use Rattle.node_model.specs.Kinds.{Named, is_object}
use Rattle.deed_box.specs.Deeds.{deeds_of}
use Rattle.deed_box.specs.Packing.{ArePackedDeeds}

-- the frames that hand over these deeds: a GiveBack for each queue and set, and Left with those of the processes
abbrev pub hand_over : List PackedDeed → List PackedDeed → ℕ → ℕ → Call → List Frame
hand_over objects processes pid parent call =
    map (λ deed. frames.GiveBack deed) objects
    ++ frames.Left (record { pid = pid; parent = parent; call = call; deeds = processes }) ∷ []

-- Every deed once: first the queues by rising number, then the sets, and in the end the processes.
pub record HandsOver {B : Type 0} (fits : B → Name → Bool) (IsSpelled : B → List ℕ → Type 0)
    (bodies : Named B) (pid parent : ℕ) (call : Call) (sent : List Frame) : Type 0 where
  pub objects : List PackedDeed
  pub processes : List PackedDeed
  pub objects_packed : ArePackedDeeds fits IsSpelled (deeds_of Msg bodies.queues ++ deeds_of Sem bodies.sets) objects
  pub processes_packed : ArePackedDeeds fits IsSpelled (deeds_of Proc bodies.processes) processes
  pub frames : sent ≡ hand_over objects processes pid parent call

-- the deeds of queues and sets among these, and those of processes
abbrev pub objects_in : List PackedDeed → List PackedDeed
objects_in [] = []
objects_in (deed ∷ deeds) = if is_object deed.name then deed ∷ objects_in deeds else objects_in deeds

abbrev pub processes_in : List PackedDeed → List PackedDeed
processes_in [] = []
processes_in (deed ∷ deeds) = if is_object deed.name then processes_in deeds else deed ∷ processes_in deeds
