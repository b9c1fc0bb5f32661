-- What holds of one node's way out, and of the parcel of its process.
use Rattle.std.specs.Prelude.{◌≡◌, ◌⊎◌, ℕ, Bool, true, false, List, [], ◌∷◌, Option, Some, None, Contains}
use Rattle.std.specs.List.{filter, AllByRecursion}
use Rattle.pico_base.specs.declared.call.Call.{Call}
use Rattle.pico_base.specs.declared.numbers.Name.TheVariants.{Proc}
use Rattle.pico_base.specs.declared.script.Script.{Script}
use Rattle.rpc_frame.specs.declared.deed.Parcel.{Parcel}
use Rattle.rpc_frame.specs.declared.frame.Frame.{Frame}
use Rattle.rpc_frame.specs.declared.frame.Frame.TheVariants as frames
use Rattle.number_maps.specs.Maps.{Numbered, get}
use Rattle.kernel_model.specs.Row.{Row}
use Rattle.number_maps.specs.Rising.{IsRising}
use Rattle.node_model.specs.declared.held.Held.{Held}
use Rattle.node_model.specs.declared.held.Held.TheVariants.{Ending}
use Rattle.node_model.specs.Directory.{Directory, Parting, IsLeaving, HasLeft, is_known, held_for}
use Rattle.node_model.specs.Bodies.{Body, Living as LivingBody}
use Rattle.node_model.specs.Parcels.{pack_all, may_end_with, is_over_but_for}
use Rattle.world_model.specs.Node.{Node, Stage, Unborn, Living, Leaving, Left}
use Rattle.world_model.specs.World.{World}
use Rattle.world_laws.specs.Sights.{node_of, frames_to, directory_of, stage_of}
use Rattle.world_laws.specs.Names.{forker}

abbrev pub is_leaving_frame : Frame → Bool
is_leaving_frame (frames.Leaving pid parent parent_node) = true
is_leaving_frame frame = false

abbrev pub is_recall_all : Frame → Bool
is_recall_all frames.RecallAll = true
is_recall_all frame = false

abbrev pub is_left_frame : Frame → Bool
is_left_frame (frames.Left parcel) = true
is_left_frame frame = false

-- ---- what there is to see of it

pub record WaySight : Type 0 where
  pub stage : Stage
  pub parting : Option Parting
  pub leavings : List Frame
  pub recalls : List Frame
  pub lefts : List Frame

abbrev pub way_sight : World → ℕ → WaySight
way_sight w c =
    let d : Directory = directory_of w
    in record {
      stage = stage_of w c;
      parting = get d.partings c;
      leavings = filter is_leaving_frame (frames_to w 1 c);
      recalls = filter is_recall_all (frames_to w c 1);
      lefts = filter is_left_frame (frames_to w 1 c);
    }

abbrev pub knows_parent : Script → World → (ℕ → ℕ) → ℕ → Bool
knows_parent script w pids c = is_known (directory_of w) (Proc (pids (forker script c)))

-- ---- where it is on its way

pub record Shows (x : WaySight) (leavings recalls : List Frame) (parting : Option Parting) : Type 0 where
  pub has_leavings : x.leavings ≡ leavings
  pub has_recalls : x.recalls ≡ recalls
  pub has_parting : x.parting ≡ parting

-- the process is not there yet, or makes calls; or node 1 goes on
pub record IsHere (x : WaySight) : Type 0 where
  pub stage : (x.stage ≡ Unborn) ⊎ (x.stage ≡ Living)
  pub shows : Shows x [] [] None
  pub lefts : x.lefts ≡ []

pub record TellsEnd (script : Script) (pids : ℕ → ℕ) (c : ℕ) (x : WaySight) : Type 0 where
  pub stage : x.stage ≡ Leaving
  pub shows : Shows x (frames.Leaving (pids c) (pids (forker script c)) (forker script c) ∷ []) [] None
  pub lefts : x.lefts ≡ []

pub record IsCollected (knows : Bool) (x : WaySight) : Type 0 where
  pub stage : x.stage ≡ Leaving
  pub shows : Shows x [] (frames.RecallAll ∷ []) (Some IsLeaving)
  pub lefts : x.lefts ≡ []
  pub parent : knows ≡ true

pub record HandsOver (knows : Bool) (x : WaySight) : Type 0 where
  pub stage : x.stage ≡ Left
  pub shows : Shows x [] [] (Some IsLeaving)
  pub parcel : Parcel
  pub lefts : x.lefts ≡ frames.Left parcel ∷ []
  pub parent : knows ≡ true

pub record IsGone (knows : Bool) (x : WaySight) : Type 0 where
  pub stage : x.stage ≡ Left
  pub shows : Shows x [] [] (Some HasLeft)
  pub lefts : x.lefts ≡ []
  pub parent : knows ≡ true

-- whether the leader knows the name of the process's parent matters once it has left
pub data Way (script : Script) (pids : ℕ → ℕ) (c : ℕ) (knows : Bool) (x : WaySight) : Type 0 where
  here : IsHere x → Way script pids c knows x
  tells : TellsEnd script pids c x → Way script pids c knows x
  collected : IsCollected knows x → Way script pids c knows x
  over : HandsOver knows x → Way script pids c knows x
  gone : IsGone knows x → Way script pids c knows x

-- ---- parcels

-- The parcel of node c's process: its own deed, which says that it lives, and those of its ended children, by rising
-- number; and the call that ends it, which its row allows.
pub record IsParcelOf (script : Script) (pids : ℕ → ℕ) (c : ℕ) (call : Call) (parcel : Parcel) : Type 0 where
  pub pid : parcel.pid ≡ pids c
  pub parent : parcel.parent ≡ pids (forker script c)
  pub call_is : parcel.call ≡ call
  pub bodies : Numbered Body
  pub packed : parcel.deeds ≡ pack_all Proc bodies
  pub ordered : IsRising bodies
  pub row : Row
  pub own : get bodies (pids c) ≡ Some (LivingBody row)
  pub allowed : may_end_with row call ≡ true
  pub others : AllByRecursion (λ (e : ℕ × Body). is_over_but_for (pids c) e ≡ true) bodies

-- the parcels that there are: in the streams to and from the leader, in its lists, and in its hand
pub data IsParcelIn (w : World) (hand : List Held) (parcel : Parcel) : Type 0 where
  left : (c : ℕ) → Contains (frames_to w 1 c) (frames.Left parcel) → IsParcelIn w hand parcel
  sent : (x : ℕ) → Contains (frames_to w x 1) (frames.ExitTo parcel) → IsParcelIn w hand parcel
  kept : (pid : ℕ) → Contains (held_for (directory_of w) (Proc pid)) (Ending parcel) → IsParcelIn w hand parcel
  at_hand : Contains hand (Ending parcel) → IsParcelIn w hand parcel

-- each is of a node that has left, with the call that is still under way there
abbrev pub under_way_of : World → ℕ → Option Call
under_way_of w p =
    let n : Node = node_of w p
    in n.caller.under_way

pub record HasSender (script : Script) (pids : ℕ → ℕ) (stages : ℕ → Stage) (under_way : ℕ → Option Call)
    (parcel : Parcel) : Type 0 where
  pub node : ℕ
  pub call : Call
  pub stage : stages node ≡ Left
  pub ends_by : under_way node ≡ Some call
  pub is_of : IsParcelOf script pids node call parcel
