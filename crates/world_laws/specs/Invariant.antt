-- What holds in every world that a run leads to, and in the middle of an event, while the leader has calls and parcels
-- in hand.
use Rattle.std.specs.Prelude.{◌≡◌, ◌≢◌, ◌⊎◌, ◌≤◌, ◌<◌, ℕ, Bool, List, [], length, get_or, Contains}
use Rattle.pico_base.specs.declared.numbers.Kind.{Kind}
use Rattle.pico_base.specs.declared.numbers.Name.{Name}
use Rattle.pico_base.specs.declared.script.Script.{Script}
use Rattle.rpc_frame.specs.declared.deed.Parcel.{Parcel}
use Rattle.rpc_frame.specs.declared.frame.Frame.{Frame}
use Rattle.rpc_frame.specs.declared.frame.Frame.TheVariants as frames
use Rattle.pico_base.specs.declared.numbers.Name.TheVariants.{Proc}
use Rattle.entry_laws.specs.Entering.{HasHistory}
use Rattle.number_maps.specs.Rising.{IsRising}
use Rattle.node_model.specs.declared.held.Held.{Held}
use Rattle.node_model.specs.Kinds.{is_object}
use Rattle.node_model.specs.Directory.{Directory, stays}
use Rattle.world_model.specs.Node.{Node}
use Rattle.world_model.specs.World.{World, node_count}
use Rattle.world_laws.specs.Places.{DeedPlace, Beside}
use Rattle.world_laws.specs.Sights.{node_of, frames_to, directory_of, stage_of, is_born_in}
use Rattle.world_laws.specs.Names.{NameHolds, name_sight, forker}
use Rattle.world_laws.specs.Callers.{CallHolds, call_sight, HasTries}
use Rattle.world_laws.specs.Cancels.{CancelIf, Owing, Nothing, cancel_sight}
use Rattle.world_laws.specs.Wholes.{WholeIf}
use Rattle.world_laws.specs.Ways.{Way, way_sight, knows_parent, under_way_of, IsParcelIn, HasSender}
use Rattle.world_laws.specs.Ranges.{KindHolds, kind_sight, FewRanges, KeysHold}
use Rattle.world_laws.specs.Families.{NodeHolds, PidsHold, FamilyHolds, checkpoints_to}
use Rattle.std.specs.Prelude.{true}

-- a node for each block, and a stream for each pair of nodes
pub record IsShaped (script : Script) (w : World) : Type 0 where
  pub of_script : w.script ≡ script
  pub nodes : length w.nodes ≡ node_count script
  pub rows : length w.streams ≡ node_count script
  pub row : (p : ℕ) → p < node_count script → length (get_or w.streams p []) ≡ node_count script
  pub tries : HasTries script

-- the leader stays, and it knows each name once
pub record IsLeading (d : Directory) : Type 0 where
  pub stays : stays d 1 ≡ true
  pub processes : IsRising d.places.processes
  pub queues : IsRising d.places.queues
  pub sets : IsRising d.places.sets

-- Who sends which frames to whom. Nobody sends itself any.
abbrev pub MayBe : Script → (ℕ → Bool) → ℕ → ℕ → Frame → Type 0
MayBe script born to sender (frames.Ask ticket pid call) = to ≡ 1
MayBe script born to sender (frames.Request ticket pid call) = born to ≡ true
MayBe script born to sender (frames.Forward asked) = sender ≡ 1
MayBe script born to sender (frames.Bounce asked) = to ≡ 1
MayBe script born to sender (frames.Answer ticket reply) = born sender ≡ true
MayBe script born to sender (frames.NotOwner ticket) = born sender ≡ true
MayBe script born to sender (frames.LeaseAsk kind) = to ≡ 1
MayBe script born to sender (frames.Lease kind first) = sender ≡ 1
MayBe script born to sender (frames.Placed name node) = to ≡ 1
MayBe script born to sender (frames.Checkpoint pid parent deed vars) = sender ≡ forker script to
MayBe script born to sender (frames.Suggest name node) = (to ≡ 1) × (is_object name ≡ true) × (born node ≡ true)
MayBe script born to sender (frames.Recall name) = (sender ≡ 1) × (is_object name ≡ true)
MayBe script born to sender (frames.GiveBack deed) = to ≡ 1
MayBe script born to sender (frames.Grant deed) = (sender ≡ 1) × (born to ≡ true)
MayBe script born to sender (frames.Leaving pid parent parent_node) = to ≡ 1
MayBe script born to sender frames.RecallAll = sender ≡ 1
MayBe script born to sender (frames.Left parcel) = to ≡ 1
MayBe script born to sender (frames.ExitTo parcel) = sender ≡ 1
MayBe script born to sender (frames.Cancel asked) =
    ((to ≡ 1) × (asked.caller ≡ sender)) ⊎ ((sender ≡ 1) × (born to ≡ true))

-- nobody sends itself any
pub record FramesFit (script : Script) (born : ℕ → Bool) (there : ℕ → ℕ → List Frame) : Type 0 where
  pub may_be : (to sender : ℕ) (frame : Frame) → Contains (there to sender) frame → MayBe script born to sender frame
  pub none_to_itself : (p : ℕ) → there p p ≡ []

abbrev pub process_deed : (Name → DeedPlace) → ℕ → DeedPlace
process_deed deed pid = deed (Proc pid)

-- Each field stands on what it looks at alone, so that it stays where that stays. In the middle of an event something
-- may still be owed: some who are to be woken, or the strike that comes last.
pub record HoldsOwing (script : Script) (w : World) (hand : List Held) (owes : Owing) (b : Beside) : Type 0 where
  pub shape : IsShaped script w
  pub history : HasHistory script b.lines b.kernel b.places
  pub whole : WholeIf owes w b
  pub leading : IsLeading (directory_of w)
  pub pids : PidsHold script b.pids b.places b.kernel
  pub nodes : (p : ℕ) → 1 ≤ p → p ≤ node_count script → NodeHolds script b.pids (is_born_in w) p (node_of w p)
  pub frames_fit : FramesFit script (is_born_in w) (frames_to w)
  pub names : (name : Name) → NameHolds script b.pids (is_born_in w) name (name_sight script w hand b name)
  pub calls : (p : ℕ) → 1 ≤ p → p ≤ node_count script → CallHolds script p (is_born_in w) (call_sight w hand b p)
  pub cancels : (p : ℕ) → 1 ≤ p → p ≤ node_count script → CancelIf p owes (cancel_sight w hand b p)
  pub ways : (c : ℕ) → 2 ≤ c → c ≤ node_count script
      → Way script b.pids c (knows_parent script w b.pids c) (way_sight w c)
  pub parcels : (parcel : Parcel) → IsParcelIn w hand parcel
      → HasSender script b.pids (stage_of w) (under_way_of w) parcel
  pub kinds : (kind : Kind) → KindHolds (is_born_in w) (kind_sight w b.kernel kind)
  pub few : (kind : Kind) → FewRanges script w b.call kind
  pub keys : let n : Node = node_of w 1 in KeysHold n.leader b.kernel
  pub families : (c : ℕ) → b.pids c ≢ 0
      → FamilyHolds script b.pids b.places b.kernel (process_deed b.deed) (checkpoints_to script w c) (stage_of w c) c

-- and where none is owed any
abbrev pub Holds : Script → World → List Held → Beside → Type 0
Holds script w hand b = HoldsOwing script w hand Nothing b

-- something stands beside the world with which it holds
pub record HasInvariant (script : Script) (w : World) : Type 0 where
  pub beside : Beside
  pub holds : Holds script w [] beside
