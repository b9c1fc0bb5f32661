-- The projection of a world to a kernel: what the nodes hold, what is on its way and what the leader holds for later is
-- that kernel, in parts. Each deed is the kernel's part of its name, each number is free in one place or used, and each
-- call under way is in one place until it is carried out.
use Rattle.std.specs.Prelude.{◌≡◌, ◌≢◌, ◌⊎◌, ◌≤◌, ℕ, ◌+◌, Bool, true, false, not, ◌&&◌, nat_eq, List, [], ◌∷◌, Option, Some, None, Contains, sum_by, count_by}
use Rattle.std.specs.List.{list_any}
use Rattle.std.specs.Option.{option_map}
use Rattle.pico_base.specs.declared.call.Call.{Call}
use Rattle.pico_base.specs.declared.numbers.Kind.{Kind}
use Rattle.pico_base.specs.declared.numbers.Name.{Name}
use Rattle.pico_base.specs.declared.numbers.Name.TheVariants.{Proc}
use Rattle.pico_base.specs.declared.reply.Ending.{Ending}
use Rattle.pico_base.specs.declared.reply.Reply.{Reply}
use Rattle.key_table.specs.declared.Bound.{Bound}
use Rattle.rpc_frame.specs.declared.asked.Asked.{Asked}
use Rattle.rpc_frame.specs.declared.deed.PackedDeed.{PackedDeed}
use Rattle.rpc_frame.specs.declared.deed.Parcel.{Parcel}
use Rattle.rpc_frame.specs.declared.frame.Frame.{Frame}
use Rattle.rpc_frame.specs.declared.frame.Frame.TheVariants as frames
use Rattle.number_maps.specs.Maps.{Numbered, get, is_used}
use Rattle.kernel_model.specs.Row.{Free, One, ended_child}
use Rattle.kernel_model.specs.Footprint.{used_of}
use Rattle.kernel_model.specs.Fitting.{Place, is_killed, place_after}
use Rattle.waiting_model.specs.declared.callers.Waiting.{Waiting}
use Rattle.waiting_model.specs.Calls.{is_withdrawal, may_park, waits_at}
use Rattle.waiting_model.specs.Marks.{Alive}
use Rattle.waiting_model.specs.Kernel.{Kernel, living_at}
use Rattle.waiting_model.specs.Kernel as kernel
use Rattle.waiting_model.specs.Plain.{plain_kernel}
use Rattle.waiting_model.specs.SetCalls.{set_size}
use Rattle.waiting_model.specs.Fitting.{FitsFrom, Places, opening_places}
use Rattle.node_model.specs.declared.held.Held.{Held}
use Rattle.node_model.specs.declared.held.Held.TheVariants.{Request, Ending as EndingOf}
use Rattle.node_model.specs.Bodies.{Body, whole_in, erase, waiters_of}
use Rattle.node_model.specs.Serving.{waiting_as}
use Rattle.node_model.specs.Caller.{caller_place}
use Rattle.node_model.specs.Directory.{Place as NamePlace, has_deed_of, held_for, is_known, is_parcel, items_of, maker_in, stays}
use Rattle.node_model.specs.Kinds.{Named, for_kind, get_named, is_same_kind, none_named}
use Rattle.node_model.specs.Leases.{lease_of, takes_number}
use Rattle.node_model.specs.Spelling.{pack, read_deed}
use Rattle.world_model.specs.Census.{one_if}
use Rattle.world_model.specs.Lives.{is_end}
use Rattle.world_model.specs.Node.{Leader, Node, asked_here, holds, is_leaving_stage}
use Rattle.world_model.specs.World.{World, node_at, numbers, size, stream}

-- ---- where to look: at nodes, in streams, and in the lists that the leader holds

-- node p of the world is this one
pub record HasNode (w : World) (p : ℕ) (n : Node) : Type 0 where
  pub number : 1 ≤ p
  pub there : node_at w p ≡ Some n

-- a frame is on its way to a node from a node
pub record IsOnWay (w : World) (to sender : ℕ) (frame : Frame) : Type 0 where
  pub receiver : 1 ≤ to
  pub sender_is : 1 ≤ sender
  pub there : Contains (stream w to sender) frame

-- the leader holds an item for a name
pub record IsHeldFor (w : World) (name : Name) (item : Held) : Type 0 where
  pub leader : Node
  pub is_leader : HasNode w 1 leader
  pub there : Contains (held_for leader.leader.directory name) item

-- a parcel is on its way to the leader or from it, or the leader holds it
pub data IsParcel (w : World) (parcel : Parcel) : Type 0 where
  left : (to sender : ℕ) → IsOnWay w to sender (frames.Left parcel) → IsParcel w parcel
  sent : (to sender : ℕ) → IsOnWay w to sender (frames.ExitTo parcel) → IsParcel w parcel
  held : (name : Name) → IsHeldFor w name (EndingOf parcel) → IsParcel w parcel

-- ---- how many there are

abbrev pub nodes_of : World → List ℕ
nodes_of w = numbers 1 (size w)

-- the frames on their way that pass a test, which knows where they go and where they come from
abbrev pub frames_that : World → (ℕ → ℕ → Frame → Bool) → ℕ
frames_that w test =
    sum_by (λ to. sum_by (λ sender. count_by (test to sender) (stream w to sender)) (nodes_of w)) (nodes_of w)

-- the items in the lists that the leader holds
abbrev pub places_by : Option Node → Named NamePlace
places_by None = none_named
places_by (Some n) = n.leader.directory.places

abbrev pub items_in : (Held → Bool) → Numbered NamePlace → ℕ
items_in test places = sum_by (λ e. count_by test (items_of (Some e.1))) places

abbrev pub items_that : World → (Held → Bool) → ℕ
items_that w test =
    let places : Named NamePlace = places_by (node_at w 1)
    in items_in test places.processes + (items_in test places.queues + items_in test places.sets)

-- ---- deeds

-- the deeds that a frame brings, alone or in a parcel
abbrev pub deeds_in : Frame → List PackedDeed
deeds_in (frames.Checkpoint pid parent deed vars) = deed ∷ []
deeds_in (frames.GiveBack deed) = deed ∷ []
deeds_in (frames.Grant deed) = deed ∷ []
deeds_in (frames.Left parcel) = parcel.deeds
deeds_in (frames.ExitTo parcel) = parcel.deeds
deeds_in frame = []

-- and those that the leader holds
abbrev pub deeds_held : Held → List PackedDeed
deeds_held (Request asked) = []
deeds_held (EndingOf parcel) = parcel.deeds

-- A body is the kernel's part of a name but for the nodes and tickets of those who wait there: a row without its marks,
-- an ending, that the process is gone, a queue, a set, or that it was removed.
abbrev pub IsBodyOf : Kernel → Name → Body → Type 0
IsBodyOf k name body = erase body ≡ whole_in k name

-- a deed on its way spells a body that is its name's, and is read back as that
pub record IsPart (k : Kernel) (deed : PackedDeed) : Type 0 where
  pub body : Body
  pub is : IsBodyOf k deed.name body
  pub spelled : deed ≡ pack deed.name body
  pub read : read_deed deed ≡ Some body

-- Each deed's body, wherever the deed is, is the kernel's part of its name.
pub record DeedsAreParts (w : World) (k : Kernel) : Type 0 where
  pub in_tables : (p : ℕ) (n : Node) (name : Name) (body : Body) → HasNode w p n → get_named n.deeds name ≡ Some body
      → IsBodyOf k name body
  pub on_way : (to sender : ℕ) (frame : Frame) (deed : PackedDeed) → IsOnWay w to sender frame
      → Contains (deeds_in frame) deed → IsPart k deed
  pub held : (name : Name) (item : Held) (deed : PackedDeed) → IsHeldFor w name item
      → Contains (deeds_held item) deed → IsPart k deed

-- a body of this name, in a node's table or in a deed on its way
pub data IsSomewhere (w : World) (name : Name) (body : Body) : Type 0 where
  table : (p : ℕ) (n : Node) → HasNode w p n → get_named n.deeds name ≡ Some body → IsSomewhere w name body
  on_way : (to sender : ℕ) (frame : Frame) (deed : PackedDeed) → IsOnWay w to sender frame
      → Contains (deeds_in frame) deed → deed.name ≡ name → read_deed deed ≡ Some body → IsSomewhere w name body

-- ---- keys

abbrev pub bound_to : ℕ → ℕ → Bound
bound_to id count = record { id = id; count = count }

-- The leader's tables of keys are the kernel's, with each set's size.
pub record KeysAreTheKernels (leader : Leader) (k : Kernel) : Type 0 where
  pub queues : (key : ℕ) → get leader.queue_keys key ≡ option_map (λ id. bound_to id 0) (get k.queue_keys key)
  pub sets : (key : ℕ)
      → get leader.set_keys key ≡ option_map (λ id. bound_to id (set_size k id)) (get k.set_keys key)

-- ---- numbers

-- how often a number is still to be taken: from a node's lease, or from a Lease on its way to a node
abbrev pub in_leases : World → Kind → ℕ → ℕ
in_leases w kind number = sum_by (λ n. count_by (nat_eq number) (for_kind n.leases kind)) w.nodes

abbrev pub brings_number : Kind → ℕ → Frame → Bool
brings_number kind number (frames.Lease other first) =
    is_same_kind kind other && list_any (nat_eq number) (lease_of first)
brings_number kind number frame = false

abbrev pub still_to_take : World → Kind → ℕ → ℕ
still_to_take w kind number = in_leases w kind number + frames_that w (λ to sender. brings_number kind number)

-- A number that is still to be taken is unused in the kernel, and is so in one place alone. One that is used is in a
-- range that was given out.
pub record NumberIsApart (w : World) (k : Kernel) (kind : Kind) (number : ℕ) : Type 0 where
  pub once : still_to_take w kind number ≤ 1
  pub unused : 1 ≤ still_to_take w kind number → is_used (used_of (plain_kernel k) kind) number ≡ false
  pub given : is_used (used_of (plain_kernel k) kind) number ≡ true → (n : Node) → HasNode w 1 n
      → (owner : ℕ) × (maker_in (for_kind n.leader.directory.ranges kind) number ≡ Some owner)

-- ---- families

-- two deeds stand in the same table, or in the same parcel
pub data AreTogether (w : World) (a b : Name) : Type 0 where
  in_table : (p : ℕ) (n : Node) → HasNode w p n → holds n a ≡ true → holds n b ≡ true → AreTogether w a b
  in_parcel : (parcel : Parcel) → IsParcel w parcel → has_deed_of a parcel ≡ true → has_deed_of b parcel ≡ true
      → AreTogether w a b

-- An ended process is kept by a living one, and the two deeds are together.
pub record IsWithItsParent (w : World) (k : Kernel) (pid : ℕ) (ending : Ending) : Type 0 where
  pub parent : ℕ
  pub alive : Alive
  pub lives : living_at k parent ≡ Some alive
  pub kept : Contains alive.row.family.ended (ended_child pid ending)
  pub together : AreTogether w (Proc pid) (Proc parent)

-- ---- calls

-- how far the journal has a process: at this place of its block, where its call waits or not
pub record HasComeSo (w : World) (pid : ℕ) (place : Place) (parked : Bool) : Type 0 where
  pub places : Places
  pub fits : FitsFrom w.script (opening_places w.script) w.journal places
  pub there : get places pid ≡ Some (record { place = place; parked = parked })

abbrev pub HasComeTo : World → ℕ → Place → Type 0
HasComeTo w pid place = HasComeSo w pid place false

-- the call under way at node p isn't carried out: the journal has its process where the node is
abbrev pub IsToBeMade : World → ℕ → Node → Type 0
IsToBeMade w p n = HasComeTo w n.pid (caller_place w.script p n.caller)

-- it is parked: the journal has its process where the node is, with the call that waits
abbrev pub IsParked : World → ℕ → Node → Type 0
IsParked w p n = HasComeSo w n.pid (caller_place w.script p n.caller) true

-- it is carried out, with this reply: the journal has its process where the node will be
abbrev pub IsMade : World → ℕ → Node → Call → Reply → Type 0
IsMade w p n call reply = HasComeTo w n.pid (place_after (caller_place w.script p n.caller) call (Some reply))

-- a frame to a node from a node has the call of node p, whose process has this number, and it isn't carried out
abbrev pub has_call : ℕ → ℕ → ℕ → ℕ → Frame → Bool
has_call p pid to sender (frames.LeaseAsk kind) = nat_eq sender p
has_call p pid to sender (frames.Lease kind first) = nat_eq to p
has_call p pid to sender (frames.Ask ticket caller call) = nat_eq sender p
has_call p pid to sender (frames.Request ticket caller call) = nat_eq sender p
has_call p pid to sender (frames.NotOwner ticket) = nat_eq to p
has_call p pid to sender (frames.Forward asked) = nat_eq asked.caller p
has_call p pid to sender (frames.Bounce asked) = nat_eq asked.caller p
has_call p pid to sender (frames.Left parcel) = nat_eq parcel.pid pid
has_call p pid to sender (frames.ExitTo parcel) = nat_eq parcel.pid pid
has_call p pid to sender frame = false

abbrev pub item_has_call : ℕ → ℕ → Held → Bool
item_has_call p pid (Request asked) = nat_eq asked.caller p && not (is_withdrawal asked.call)
item_has_call p pid (EndingOf parcel) = nat_eq parcel.pid pid

-- it is the call that was asked
abbrev pub IsOf : Asked → Frame → Type 0
IsOf asked (frames.LeaseAsk kind) = takes_number kind asked.call ≡ true
IsOf asked (frames.Lease kind first) = takes_number kind asked.call ≡ true
IsOf asked (frames.Ask ticket pid call) = (ticket ≡ asked.ticket) × (pid ≡ asked.pid) × (call ≡ asked.call)
IsOf asked (frames.Request ticket pid call) = (ticket ≡ asked.ticket) × (pid ≡ asked.pid) × (call ≡ asked.call)
IsOf asked (frames.NotOwner ticket) = ticket ≡ asked.ticket
IsOf asked (frames.Forward other) = other ≡ asked
IsOf asked (frames.Bounce other) = other ≡ asked
IsOf asked (frames.Left parcel) = parcel.call ≡ asked.call
IsOf asked (frames.ExitTo parcel) = parcel.call ≡ asked.call
IsOf asked frame = ⊥

abbrev pub IsItemOf : Asked → Held → Type 0
IsItemOf asked (Request other) = other ≡ asked
IsItemOf asked (EndingOf parcel) = parcel.call ≡ asked.call

abbrev pub is_parcel_frame : Frame → Bool
is_parcel_frame (frames.Left parcel) = true
is_parcel_frame (frames.ExitTo parcel) = true
is_parcel_frame frame = false

-- how many places there are with it: frames, items that the leader holds, and, for the end of a process, the node
-- itself until it hands over what it has
abbrev pub places_with : World → ℕ → Node → ℕ
places_with w p n =
    frames_that w (has_call p n.pid) + (items_that w (item_has_call p n.pid) + one_if (is_leaving_stage n.stage))

-- and how many replies are on their way to the node
abbrev pub is_answer_to : ℕ → ℕ → ℕ → Frame → Bool
is_answer_to p to sender (frames.Answer ticket reply) = nat_eq to p
is_answer_to p to sender frame = false

abbrev pub answers_to : World → ℕ → ℕ
answers_to w p = frames_that w (is_answer_to p)

-- It is in one place, and no reply is on its way. One that ends its process is at its node or in a parcel, and no other
-- is.
pub record IsInOnePlace (w : World) (p : ℕ) (n : Node) (call : Call) : Type 0 where
  pub one : places_with w p n ≡ 1
  pub unanswered : answers_to w p ≡ 0
  pub leaves : is_leaving_stage n.stage ≡ true → is_end call ≡ true
  pub frame : (to sender : ℕ) (frame : Frame) → IsOnWay w to sender frame → has_call p n.pid to sender frame ≡ true
      → IsOf (asked_here n call) frame × (is_parcel_frame frame ≡ is_end call)
  pub item : (name : Name) (item : Held) → IsHeldFor w name item → item_has_call p n.pid item ≡ true
      → IsItemOf (asked_here n call) item × (is_parcel item ≡ is_end call)

-- one reply is on its way, this one to this call, which is in no place
pub record HasOneAnswer (w : World) (p : ℕ) (n : Node) (reply : Reply) : Type 0 where
  pub one : answers_to w p ≡ 1
  pub is : (sender ticket : ℕ) (other : Reply) → IsOnWay w p sender (frames.Answer ticket other)
      → (ticket ≡ n.caller.ticket) × (other ≡ reply)
  pub nowhere : places_with w p n ≡ 0

-- how often a call of node p is among those who wait: in nodes' tables, and in deeds on their way
abbrev pub waiters_in : ℕ → Body → ℕ
waiters_in p body = count_by (λ (v : Waiting). nat_eq v.caller p) (waiters_of body)

abbrev pub waiters_in_bodies : ℕ → Numbered Body → ℕ
waiters_in_bodies p bodies = sum_by (λ e. waiters_in p e.1) bodies

abbrev pub waiters_at : ℕ → Node → ℕ
waiters_at p n = waiters_in_bodies p n.deeds.queues + waiters_in_bodies p n.deeds.sets

abbrev pub waiters_in_deed : ℕ → Option Body → ℕ
waiters_in_deed p None = 0
waiters_in_deed p (Some body) = waiters_in p body

abbrev pub waiters_on_way : ℕ → Frame → ℕ
waiters_on_way p frame = sum_by (λ deed. waiters_in_deed p (read_deed deed)) (deeds_in frame)

abbrev pub waiting_places : World → ℕ → ℕ
waiting_places w p =
    sum_by (waiters_at p) w.nodes
    + sum_by (λ to. sum_by (λ sender. sum_by (waiters_on_way p) (stream w to sender)) (nodes_of w)) (nodes_of w)

-- It is nowhere else: in no frame, in no list, and no reply is on its way.
pub record IsInNoPlace (w : World) (p : ℕ) (n : Node) : Type 0 where
  pub nowhere : places_with w p n ≡ 0
  pub unanswered : answers_to w p ≡ 0

-- A call that is parked is a `waitpid` at its caller, or waits at one queue or set, wherever the deed of that is.
pub data WaitsSomewhere (w : World) (p : ℕ) (n : Node) (call : Call) : Type 0 where
  here : waits_at n.pid call ≡ Proc n.pid → waiting_places w p ≡ 0 → WaitsSomewhere w p n call
  there : (name : Name) (body : Body) → waits_at n.pid call ≡ name → IsSomewhere w name body
      → Contains (waiters_of body) (waiting_as (asked_here n call)) → waiting_places w p ≡ 1
      → WaitsSomewhere w p n call

-- A call under way that isn't carried out is in exactly one place. One that is parked waits. One that is carried out
-- and ends nothing has exactly one Answer on its way. One that is carried out and ended its process is nowhere.
pub data IsUnderWay (w : World) (k : Kernel) (p : ℕ) (n : Node) (call : Call) : Type 0 where
  waits : IsToBeMade w p n → IsInOnePlace w p n call → waiting_places w p ≡ 0 → IsUnderWay w k p n call
  parked : IsParked w p n → may_park call ≡ true → IsInNoPlace w p n → WaitsSomewhere w p n call
      → IsUnderWay w k p n call
  answered : (reply : Reply) → is_end call ≡ false → IsMade w p n call reply → HasOneAnswer w p n reply
      → waiting_places w p ≡ 0 → IsUnderWay w k p n call
  ended : (last : Place) → is_end call ≡ true → HasComeTo w n.pid last → last.left ≡ []
      → living_at k n.pid ≡ None → places_with w p n ≡ 0 → answers_to w p ≡ 0 → IsUnderWay w k p n call

-- each who waits is a call under way that is parked
pub record WaitersAreCalls (w : World) (k : Kernel) : Type 0 where
  pub are : (name : Name) (body : Body) (v : Waiting) → IsSomewhere w name body → Contains (waiters_of body) v
      → (n : Node) × (call : Call) × HasNode w v.caller n × (n.caller.under_way ≡ Some call)
      × (v ≡ waiting_as (asked_here n call)) × IsParked w v.caller n

-- ---- withdrawals

abbrev pub cancels_call : Node → Frame → Bool
cancels_call n (frames.Cancel asked) = nat_eq asked.caller n.number && nat_eq asked.ticket n.caller.ticket
cancels_call n frame = false

abbrev pub item_cancels : Node → Held → Bool
item_cancels n (Request asked) =
    nat_eq asked.caller n.number && (nat_eq asked.ticket n.caller.ticket && is_withdrawal asked.call)
item_cancels n (EndingOf parcel) = false

-- how many withdrawals of the call under way there are
abbrev pub cancels_of : World → Node → ℕ
cancels_of w n = frames_that w (λ to sender. cancels_call n) + items_that w (item_cancels n)

-- The call goes to a node that leaves, on a name that the leader doesn't know: it will not wait there, since its number
-- is still that node's to give.
pub record GoesToNobody (w : World) (n : Node) (call : Call) : Type 0 where
  pub node : ℕ
  pub on_way : IsOnWay w node 1 (frames.Forward (asked_here n call))
  pub leader : Node
  pub is_leader : HasNode w 1 leader
  pub leaves : stays leader.leader.directory node ≡ false
  pub unknown : is_known leader.leader.directory (waits_at n.pid call) ≡ false

-- A call without a reply that may have to wait: each withdrawal of it is of a process that a signal has struck; and of
-- a process that is doomed there is exactly one, or none is needed. (A `waitpid` is interrupted at its caller, without
-- any.)
pub record IsInterruptedRightly (w : World) (k : Kernel) (n : Node) (call : Call) (alive : Alive) : Type 0 where
  pub struck : 1 ≤ cancels_of w n → alive.marks.struck ≡ true
  pub one : alive.row.signals.doom ≢ None → (cancels_of w n ≡ 1) ⊎ GoesToNobody w n call

abbrev pub WithdrawalsFit : World → Kernel → Type 0
WithdrawalsFit w k =
    (p : ℕ) (n : Node) (call : Call) (alive : Alive) → HasNode w p n → n.caller.under_way ≡ Some call
    → may_park call ≡ true → answers_to w p ≡ 0 → living_at k n.pid ≡ Some alive
    → IsInterruptedRightly w k n call alive

-- ---- what a doomed process may still do

-- A process that isn't doomed is free to act. One that is doomed and has a call under way that is to be made, and
-- doesn't end it as doomed, may make this one.
pub record AllowancesFit (w : World) (k : Kernel) : Type 0 where
  pub free : (pid : ℕ) (alive : Alive) → living_at k pid ≡ Some alive → alive.row.signals.doom ≡ None
      → alive.marks.allowance ≡ Free
  pub one : (p : ℕ) (n : Node) (call : Call) (alive : Alive) → HasNode w p n → n.caller.under_way ≡ Some call
      → is_killed call ≡ false → IsToBeMade w p n → living_at k n.pid ≡ Some alive
      → alive.row.signals.doom ≢ None → alive.marks.allowance ≡ One

-- ---- the projection

-- The world projects to the kernel.
pub record Projects (w : World) (k : Kernel) : Type 0 where
  pub deeds : DeedsAreParts w k
  pub keys : (n : Node) → HasNode w 1 n → KeysAreTheKernels n.leader k
  pub numbers : (kind : Kind) (number : ℕ) → NumberIsApart w k kind number
  pub ended : (pid : ℕ) (ending : Ending) → get k.processes pid ≡ Some (kernel.Ended ending)
      → IsWithItsParent w k pid ending
  pub calls : (p : ℕ) (n : Node) (call : Call) → HasNode w p n → n.caller.under_way ≡ Some call
      → IsUnderWay w k p n call
  pub waiters : WaitersAreCalls w k
  pub withdrawals : WithdrawalsFit w k
  pub allowances : AllowancesFit w k
