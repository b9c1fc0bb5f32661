-- What a process hands over at its end, and what its end does to the deeds of who takes it.
use Rattle.std.specs.Prelude.{ℕ, ◌%◌, Bool, true, false, ◌&&◌, ◌||◌, nat_eq, nat_lt, List, [], ◌∷◌, ◌++◌, map, if◌then◌else◌, Option, Some, None, is_none}
use Rattle.std.specs.List.{list_all}
use Rattle.std.specs.Option.{option_map, option_and_then}
use Rattle.pico_base.specs.declared.call.Call.{Call}
use Rattle.pico_base.specs.declared.call.Call.TheVariants as calls
use Rattle.pico_base.specs.declared.numbers.Name.{Name}
use Rattle.pico_base.specs.declared.numbers.Name.TheVariants.{Proc, Msg, Sem}
use Rattle.pico_base.specs.declared.reply.Ending.{Ending}
use Rattle.pico_base.specs.declared.reply.Ending.TheVariants as endings
use Rattle.pico_base.specs.declared.reply.Reply.{Reply}
use Rattle.pico_base.specs.declared.reply.Reply.TheVariants as replies
use Rattle.rpc_frame.specs.declared.deed.PackedDeed.{PackedDeed}
use Rattle.rpc_frame.specs.declared.deed.Parcel.{Parcel}
use Rattle.rpc_frame.specs.declared.frame.Frame.{Frame}
use Rattle.rpc_frame.specs.declared.frame.Frame.TheVariants as frames
use Rattle.number_maps.specs.Maps.{Numbered, get}
use Rattle.kernel_model.specs.Row.{Row, lists}
use Rattle.kernel_model.specs.Transition.{is_doomed_by}
use Rattle.waiting_model.specs.declared.callers.Wake.{Wake}
use Rattle.waiting_model.specs.Marks.{Alive, new_marks}
use Rattle.waiting_model.specs.Kernel.{Kernel, Parent}
use Rattle.waiting_model.specs.ProcessCalls.{end_under, wakes_under}
use Rattle.node_model.specs.Bodies.{Body, Living, Gone, Deeds, empty_kernel, is_over_body}
use Rattle.node_model.specs.Spelling.{pack, read_deed}
use Rattle.node_model.specs.Serving.{parts_in}

-- ---- to hand over

abbrev pub pack_all : (ℕ → Name) → Numbered Body → List PackedDeed
pack_all name bodies = map (λ e. pack (name e.0) e.1) bodies

abbrev pub give_back : PackedDeed → Frame
give_back deed = frames.GiveBack deed

abbrev pub parcel_of : Deeds → ℕ → ℕ → Call → Parcel
parcel_of deeds pid parent call =
    record { pid = pid; parent = parent; call = call; deeds = pack_all Proc deeds.processes }

-- a GiveBack for each queue and then for each set, and then all process deeds in a parcel
abbrev pub give_all : Deeds → ℕ → ℕ → Call → List Frame
give_all deeds pid parent call =
    map give_back (pack_all Msg deeds.queues ++ pack_all Sem deeds.sets)
    ++ frames.Left (parcel_of deeds pid parent call) ∷ []

-- ---- a parcel that can be taken

-- a process's deed with its number, where its bytes are those of a body
abbrev pub numbered_body : PackedDeed → Name → Option (ℕ × Body)
numbered_body deed (Proc pid) = option_map (λ body. (pid, body)) (read_deed deed)
numbered_body deed name = None

abbrev pub with_body : Option (Numbered Body) → ℕ × Body → Option (Numbered Body)
with_body None e = None
with_body (Some bodies) e = Some (e ∷ bodies)

-- all are process deeds with bodies
abbrev pub read_deeds : List PackedDeed → Option (Numbered Body)
read_deeds [] = Some []
read_deeds (deed ∷ deeds) = option_and_then (with_body (read_deeds deeds)) (numbered_body deed deed.name)

abbrev pub are_rising : Numbered Body → Bool
are_rising [] = true
are_rising (e ∷ []) = true
are_rising (e ∷ f ∷ bodies) = nat_lt e.0 f.0 && are_rising (f ∷ bodies)

abbrev pub is_over_but_for : ℕ → ℕ × Body → Bool
is_over_but_for pid e = nat_eq e.0 pid || is_over_body e.1

-- the call that ends a process may: `exit`, or `killed` by its doom
abbrev pub may_end_with : Row → Call → Bool
may_end_with row (calls.Exit status) = true
may_end_with row (calls.Killed sig) = is_doomed_by row.signals.doom sig
may_end_with row call = false

abbrev pub has_own_row : Call → Option Body → Bool
has_own_row call (Some (Living row)) = may_end_with row call
has_own_row call _ = false

-- The deeds stand by rising number. The process's own says that it lives, and each other one that its process has
-- ended or is gone. None is held here.
abbrev pub is_held_none : Deeds → ℕ × Body → Bool
is_held_none deeds e = is_none (get deeds.processes e.0)

abbrev pub fits_bodies : Deeds → Parcel → Numbered Body → Bool
fits_bodies deeds parcel bodies =
    are_rising bodies
    && (has_own_row parcel.call (get bodies parcel.pid)
    && (list_all (is_over_but_for parcel.pid) bodies && list_all (is_held_none deeds) bodies))

abbrev pub fits_if : Deeds → Parcel → Numbered Body → Option (Numbered Body)
fits_if deeds parcel bodies = if fits_bodies deeds parcel bodies then Some bodies else None

-- the bodies of a parcel that fits a node with these deeds
abbrev pub fitting_bodies : Deeds → Parcel → Option (Numbered Body)
fitting_bodies deeds parcel = option_and_then (fits_if deeds parcel) (read_deeds parcel.deeds)

-- ---- to end a process (POSIX.1-2017: exit)

abbrev pub ending_of : Call → Ending
ending_of (calls.Killed sig) = endings.Killed sig
ending_of (calls.Exit status) = endings.Exited (status % 256)
ending_of call = endings.Exited 0

-- A parent that lives keeps the ending or forgets it; one that has ended knows nothing of it. It may be parked in a
-- `waitpid`, which its row doesn't tell.
abbrev pub parked_in : Option Call → Row → Alive
parked_in waits row = record { row = row; marks = record new_marks { parked = waits } }

abbrev pub parent_with : ℕ → Option Call → Body → Option Parent
parent_with parent waits (Living row) = Some (record { pid = parent; alive = parked_in waits row })
parent_with parent waits _ = None

-- a living parent has to list the child
abbrev pub lets_end : ℕ → Body → Bool
lets_end child (Living row) = lists row.family child
lets_end child _ = true

abbrev pub kernel_after_end : ℕ → ℕ → Option Call → Body → Ending → Kernel
kernel_after_end pid parent waits body ending =
    record empty_kernel { processes = end_under [] pid ending (parent_with parent waits body) }

-- the child with which a parent is woken is gone
abbrev pub found_in : Reply → List Name
found_in (replies.Child child ending) = Proc child ∷ []
found_in reply = []

abbrev pub found_names : List Wake → List Name
found_names [] = []
found_names (w ∷ wakes) = found_in w.reply ++ found_names wakes

abbrev pub names_after_end : ℕ → ℕ → List Wake → Body → List Name
names_after_end pid parent wakes (Living row) = Proc pid ∷ Proc parent ∷ found_names wakes
names_after_end pid parent wakes body = Proc pid ∷ []

-- processes of these numbers are gone
abbrev pub all_gone : List ℕ → List (Name × Body)
all_gone pids = map (λ pid. (Proc pid, Gone)) pids

-- what an end comes to: the bodies that are other ones, and the parent's reply where its `waitpid` has one now
pub record Committed : Type 0 where
  pub changes : List (Name × Body)
  pub wakes : List Wake

abbrev pub committed : Parcel → Numbered Body → Option Call → Body → List Wake → Committed
committed parcel bodies waits parent wakes =
    record {
      changes =
          all_gone (map (λ e. e.0) bodies)
          ++ parts_in (kernel_after_end parcel.pid parcel.parent waits parent (ending_of parcel.call))
          (names_after_end parcel.pid parcel.parent wakes parent);
      wakes = wakes;
    }

-- An end is carried out where the parent's deed is, which has this body: all ended processes of the parcel are gone,
-- and the process and its parent are as after an end in the kernel, where the parent may be parked in `waitpid`. None
-- where a living parent doesn't list the child.
abbrev pub commit_exit : Parcel → Numbered Body → Option Call → Body → Option Committed
commit_exit parcel bodies waits parent =
    if lets_end parcel.pid parent
    then Some (committed parcel bodies waits parent
    (wakes_under parcel.pid (ending_of parcel.call) (parent_with parcel.parent waits parent)))
    else None

-- process 1 ends, which no process is the parent of, and with it what it keeps of its children
abbrev pub end_first : ℕ → Row → List (Name × Body)
end_first pid row = all_gone (map (λ e. e.pid) row.family.ended ++ pid ∷ [])
