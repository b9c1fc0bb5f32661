-- The leader sends an end to the parent's node, or carries it out; then it releases what was held for the names.
use Rattle.std.specs.Prelude.{ℕ, Bool, false, ◌&&◌, nat_eq, List, [], ◌∷◌, map, fold, if◌then◌else◌, Option, Some, None}
use Rattle.std.specs.List.{flat_map}
use Rattle.std.specs.Option.{option_map, option_map_or}
use Rattle.pico_base.specs.declared.call.Call.{Call}
use Rattle.pico_base.specs.declared.call.Call.TheVariants as calls
use Rattle.pico_base.specs.declared.numbers.Name.{Name}
use Rattle.pico_base.specs.declared.numbers.Name.TheVariants.{Proc}
use Rattle.pico_base.specs.declared.reply.Reply.TheVariants as replies
use Rattle.pico_base.specs.declared.script.Script.{Script}
use Rattle.rpc_frame.specs.declared.deed.Parcel.{Parcel}
use Rattle.rpc_frame.specs.declared.frame.Frame.TheVariants as frames
use Rattle.number_maps.specs.Maps.{Numbered}
use Rattle.waiting_model.specs.declared.callers.Wake.{Wake}
use Rattle.node_model.specs.declared.held.Held.{Held}
use Rattle.node_model.specs.declared.held.Held.TheVariants.{Ending}
use Rattle.node_model.specs.Kinds.{get_named, put_all}
use Rattle.node_model.specs.Directory.{Directory, Place, At, Coming, place_of, held_for, arrive}
use Rattle.node_model.specs.Bodies.{Body}
use Rattle.node_model.specs.Entries.{outcome_with}
use Rattle.node_model.specs.Serving.{child_strikes}
use Rattle.node_model.specs.Parcels.{Committed, fitting_bodies, commit_exit}
use Rattle.world_model.specs.Node.{Node, own_row}
use Rattle.world_model.specs.Step.{Step, with_node, with_deeds, with_directory, with_strike, send, enter_with, reply_here}
use Rattle.world_model.specs.Routes.{hold_item}

-- the names of a parcel
abbrev pub names_in : Parcel → List Name
names_in parcel = map (λ deed. deed.name) parcel.deeds

-- what is held for these names, in order
abbrev pub held_for_all : Directory → List Name → List Held
held_for_all d names = flat_map (held_for d) names

abbrev pub arrive_at : ℕ → Directory → Name → Directory
arrive_at node d name = arrive d name node

-- these names are at this node, and nothing is held for them any more
abbrev pub arrive_all : Directory → List Name → ℕ → Directory
arrive_all d names node = fold (arrive_at node) d names

-- what an end comes to: it is held for the parent; or it is carried out or sent on, and these items are to be released
pub data AfterEnd : Type 0 where
  IsHeld : (step : Step) → AfterEnd
  Releases : (step : Step) (items : List Held) → AfterEnd

abbrev pub release_names : Parcel → ℕ → Step → AfterEnd
release_names parcel node step =
    let d : Directory = step.node.leader.directory
    in Releases (with_node step (with_directory step.node (arrive_all d (names_in parcel) node)))
    (held_for_all d (names_in parcel))

-- The call in which the parent is parked, where the parent is this node's own process: a `waitpid` without WNOHANG that
-- is under way here waits here.
abbrev pub waits_for_child : Option Call → Option Call
waits_for_child (Some (calls.WaitPid child false)) = Some (calls.WaitPid child false)
waits_for_child under_way = None

abbrev pub parked_parent : Node → ℕ → Option Call
parked_parent n parent = if nat_eq parent n.pid then waits_for_child n.caller.under_way else None

-- who is woken by an end is the parent, whose call ends at once
abbrev pub answer_own : Script → Step → List Wake → Step
answer_own script step [] = step
answer_own script step (w ∷ wakes) =
    answer_own script (reply_here script step w.reply step.node.caller.under_way) wakes

-- the end of this node's own child, by which a signal strikes its process
abbrev pub is_struck_by_end : Node → ℕ → Bool
is_struck_by_end n parent = nat_eq parent n.pid && option_map_or child_strikes (own_row n) false

-- the exit is carried out here
abbrev pub enter_exit : Script → Step → Parcel → Committed → Step
enter_exit script step parcel c =
    let struck : Step = with_strike step (is_struck_by_end step.node parcel.parent)
    in answer_own script
    (enter_with (with_deeds struck (put_all step.node.deeds c.changes)) parcel.pid parcel.call
    (outcome_with (Some replies.Ended) c.wakes))
    c.wakes

abbrev pub exit_with : Script → Step → Parcel → Option (Numbered Body) → Option Body → Option Step
exit_with script step parcel (Some bodies) (Some parent) =
    option_map (enter_exit script step parcel)
    (commit_exit parcel bodies (parked_parent step.node parcel.parent) parent)
exit_with script step parcel _ _ = None

abbrev pub exit_here : Script → Step → Parcel → Option Step
exit_here script step parcel =
    exit_with script step parcel (fitting_bodies step.node.deeds parcel)
    (get_named step.node.deeds (Proc parcel.parent))

-- the end rule, by the parent's place
abbrev pub end_by : Script → Step → Parcel → Option Place → Option AfterEnd
end_by script step parcel None = None
end_by script step parcel (Some (At node)) =
    if nat_eq node step.node.number
    then option_map (release_names parcel node) (exit_here script step parcel)
    else Some (release_names parcel node (send step node (frames.ExitTo parcel)))
end_by script step parcel (Some (Coming to items)) =
    Some (IsHeld (hold_item step (Proc parcel.parent) (Ending parcel)))

abbrev pub end_process : Script → Step → Parcel → Option AfterEnd
end_process script step parcel = end_by script step parcel (place_of step.node.leader.directory (Proc parcel.parent))
