-- What holds of one node and its process, and of its family.
use Rattle.std.specs.Prelude.{◌≡◌, ◌≢◌, ◌⊎◌, ◌≤◌, ◌<◌, ℕ, Bool, List, true, false, [], ◌∷◌, Some, None, Contains}
use Rattle.std.specs.List.{list_any, filter}
use Rattle.pico_base.specs.declared.numbers.Name.{Name}
use Rattle.pico_base.specs.declared.numbers.Name.TheVariants.{Proc}
use Rattle.pico_base.specs.declared.script.Script.{Script}
use Rattle.rpc_frame.specs.declared.deed.PackedDeed.{PackedDeed}
use Rattle.rpc_frame.specs.declared.frame.Frame.{Frame}
use Rattle.rpc_frame.specs.declared.frame.Frame.TheVariants as frames
use Rattle.number_maps.specs.Maps.{get}
use Rattle.kernel_model.specs.Row.{Alive, Row, lists}
use Rattle.kernel_model.specs.Kernel.{Kernel, Process, living_at}
use Rattle.kernel_model.specs.Kernel as kernel
use Rattle.kernel_model.specs.Valid.{ListsEnded}
use Rattle.kernel_model.specs.Script.{Vars}
use Rattle.kernel_model.specs.Fitting.{Place, Places, block_place, block_at}
use Rattle.entry_laws.specs.Entering.{IsChildIn}
use Rattle.node_model.specs.Kinds.{none_named, get_named}
use Rattle.node_model.specs.Bodies.{Living as LivingBody, Deeds}
use Rattle.world_model.specs.Node.{Node, Stage, Unborn, Living, Leaving, Left, Over, unborn_node}
use Rattle.world_model.specs.Lives.{names_block, is_new_row}
use Rattle.world_model.specs.World.{World, node_count, is_checkpoint}
use Rattle.world_laws.specs.Places.{DeedPlace, InTable, InCheckpoint, InLeft, InKept, InHand, InExitTo}
use Rattle.world_laws.specs.Sights.{frames_to}
use Rattle.world_laws.specs.Names.{forker}

-- ---- a node

-- it holds its process's row while that makes calls or leaves, and nothing before it is born and once it has left
pub record HoldsRow (deeds : Deeds) (pid : ℕ) : Type 0 where
  pub row : Row
  pub here : get_named deeds (Proc pid) ≡ Some (LivingBody row)

abbrev pub HoldsIn : ℕ → Node → Stage → Type 0
HoldsIn p n Unborn = n ≡ unborn_node p
HoldsIn p n Living = HoldsRow n.deeds n.pid
HoldsIn p n Leaving = HoldsRow n.deeds n.pid
HoldsIn p n Left = n.deeds ≡ none_named
HoldsIn p n Over = p ≡ 1

abbrev pub is_first_stage : Stage → Bool
is_first_stage Living = true
is_first_stage Over = true
is_first_stage stage = false

-- a born node's process has its number, its parent's, and the node whose block forks it
pub record IsBorn (script : Script) (pids : ℕ → ℕ) (p : ℕ) (pid parent parent_node : ℕ) : Type 0 where
  pub pid_is : pid ≡ pids p
  pub parent_is : p ≢ 1 → parent ≡ pids (forker script p)
  pub parent_node_is : p ≢ 1 → parent_node ≡ forker script p
  pub forked : pids p ≢ 0

abbrev pub BornIn : Script → (ℕ → ℕ) → ℕ → ℕ → ℕ → ℕ → Stage → Type 0
BornIn script pids p pid parent parent_node Unborn = Unit {0}
BornIn script pids p pid parent parent_node stage = IsBorn script pids p pid parent parent_node

pub record NodeHolds (script : Script) (pids : ℕ → ℕ) (born : ℕ → Bool) (p : ℕ) (n : Node) : Type 0 where
  pub number : n.number ≡ p
  pub holds : HoldsIn p n n.stage
  pub birth : BornIn script pids p n.pid n.parent n.parent_node n.stage
  pub first : p ≡ 1 → is_first_stage n.stage ≡ true
  pub others : p ≢ 1 → (n.stage ≡ Over) → ⊥
  -- a process's deed that says that it lives is where that process is at work
  pub rows : (pid : ℕ) (row : Row) → get_named n.deeds (Proc pid) ≡ Some (LivingBody row) → pid ≡ n.pid
  -- an owner in the cache is born, and is another node
  pub owners : (name : Name) (owner : ℕ) → Contains n.cache (name, owner) → (born owner ≡ true) × (owner ≢ p)

-- ---- numbers of processes

-- what has a number is a process, has a place in the history, and no two nodes have the same
pub record PidsHold (script : Script) (pids : ℕ → ℕ) (places : Places) (k : Kernel) : Type 0 where
  pub first : pids 1 ≡ 1
  pub apart : (c d : ℕ) → pids c ≢ 0 → pids c ≡ pids d → c ≡ d
  pub nodes : (c : ℕ) → pids c ≢ 0 → (1 ≤ c) × (c ≤ node_count script)
  pub forked : (c : ℕ) → pids c ≢ 0 → c ≢ 1 → (pids (forker script c) ≢ 0) × (forker script c < c)
  pub placed : (pid : ℕ) (place : Place) → get places pid ≡ Some place → (c : ℕ) × (pids c ≡ pid) × (pid ≢ 0)
  pub there : (pid : ℕ) (process : Process) → get k.processes pid ≡ Some process → (c : ℕ) × (pids c ≡ pid)
      × (pid ≢ 0)
  pub has_place : (c : ℕ) → pids c ≢ 0 → (place : Place) × (get places (pids c) ≡ Some place)
  -- a block that a process has still to fork isn't forked
  pub ahead : (p c : ℕ) (place : Place) → get places (pids p) ≡ Some place → pids p ≢ 0
      → list_any (λ line. names_block c line.call) place.left ≡ true → pids c ≡ 0
  -- a process that lives isn't over, and one that doesn't is
  pub alive : (c : ℕ) (a : Alive) (place : Place) → living_at k (pids c) ≡ Some a
      → get places (pids c) ≡ Some place
      → place.left ≢ []
  pub dead : (c : ℕ) (place : Place) → pids c ≢ 0 → living_at k (pids c) ≡ None
      → get places (pids c) ≡ Some place
      → place.left ≡ []

-- ---- families

-- a child that a process lists, living or ended
abbrev pub ListsChild : Alive → ℕ → Type 0
ListsChild a child = (lists a.row.family child ≡ true) ⊎ ListsEnded a child

-- the deed of a process that is over rests at a smaller node, or at the leader, or is in the parcel of a smaller one's
abbrev pub RestsBelow : ℕ → DeedPlace → Type 0
RestsBelow c (InTable x) = (x < c) ⊎ (x ≡ 1)
RestsBelow c (InLeft g) = g < c
RestsBelow c (InKept g) = g < c
RestsBelow c (InHand g) = g < c
RestsBelow c (InExitTo g x) = g < c
RestsBelow c place = ⊥

-- the deed of one that isn't over is at its own node, on its way there, or in its own parcel
abbrev pub IsItsOwn : ℕ → DeedPlace → Type 0
IsItsOwn c (InTable x) = x ≡ c
IsItsOwn c (InCheckpoint to) = to ≡ c
IsItsOwn c (InLeft g) = g ≡ c
IsItsOwn c (InKept g) = g ≡ c
IsItsOwn c (InHand g) = g ≡ c
IsItsOwn c (InExitTo g x) = g ≡ c
IsItsOwn c place = ⊥

abbrev pub IsWhereFor : ℕ → DeedPlace → Process → Type 0
IsWhereFor c place (kernel.Living alive) = IsItsOwn c place
IsWhereFor c place (kernel.Ended ending) = RestsBelow c place
IsWhereFor c place kernel.Gone = RestsBelow c place

-- an ended process's deed is where its parent's is
abbrev pub IsWithParent : (ℕ → DeedPlace) → ℕ → ℕ → Process → Type 0
IsWithParent deed parent pid (kernel.Ended ending) = deed pid ≡ deed parent
IsWithParent deed parent pid process = Unit {0}

-- a Checkpoint brings a process that is at the beginning of its block
pub record IsCheckpointFor (script : Script) (pids : ℕ → ℕ) (places : Places) (c : ℕ) (frame : Frame) : Type 0 where
  pub packed : PackedDeed
  pub vars : Vars
  pub is : frame ≡ frames.Checkpoint (pids c) (pids (forker script c)) packed vars
  pub place : get places (pids c) ≡ Some (block_place (block_at script c) vars)

abbrev pub CheckpointIn : Script → (ℕ → ℕ) → Places → ℕ → List Frame → DeedPlace → Type 0
CheckpointIn script pids places c checkpoints (InCheckpoint to) =
    (frame : Frame) × (checkpoints ≡ frame ∷ []) × IsCheckpointFor script pids places c frame
CheckpointIn script pids places c checkpoints place = Unit {0}

abbrev pub checkpoints_to : Script → World → ℕ → List Frame
checkpoints_to script w c = filter is_checkpoint (frames_to w c (forker script c))

-- and that is new: it has no children, and nothing ends it
abbrev pub IsNewAt : Process → DeedPlace → Type 0
IsNewAt (kernel.Living alive) (InCheckpoint to) = is_new_row alive.row ≡ true
IsNewAt process place = Unit {0}

-- until its Checkpoint has come the node isn't born
abbrev pub IsAwaited : Stage → DeedPlace → Type 0
IsAwaited stage (InCheckpoint to) = stage ≡ Unborn
IsAwaited stage place = Unit {0}

-- where each process's deed is, which Checkpoints are on their way to the node, and how far that is in its life
pub record FamilyHolds (script : Script) (pids : ℕ → ℕ) (places : Places) (k : Kernel) (deed : ℕ → DeedPlace)
    (checkpoints : List Frame) (stage : Stage) (c : ℕ) : Type 0 where
  pub process : Process
  pub is : get k.processes (pids c) ≡ Some process
  pub child : c ≢ 1 → IsChildIn k (pids (forker script c)) (pids c) process
  pub where_it_is : IsWhereFor c (deed (pids c)) process
  pub with_parent : IsWithParent deed (pids (forker script c)) (pids c) process
  pub checkpoint : CheckpointIn script pids places c checkpoints (deed (pids c))
  pub fresh : IsNewAt process (deed (pids c))
  pub awaited : IsAwaited stage (deed (pids c))
  -- its children are those that its block forks
  pub children : (a : Alive) (child : ℕ) → living_at k (pids c) ≡ Some a → ListsChild a child
      → (d : ℕ) × (forker script d ≡ c) × (pids d ≡ child) × (child ≢ 0)
