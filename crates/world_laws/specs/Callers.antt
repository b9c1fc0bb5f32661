-- What holds of one node's call: it is in one place, is the call due there, and may be made.
use Rattle.std.specs.Prelude.{◌≡◌, ◌≢◌, ◌⊎◌, ◌≤◌, ℕ, ◌+◌, Bool, true, false, not, ◌&&◌, ◌||◌, nat_eq, List, [], ◌∷◌, Option, Some, None, take, slice_get, sum_by}
use Rattle.std.specs.List.{filter, AllByRecursion}
use Rattle.pico_base.specs.declared.call.Call.{Call}
use Rattle.pico_base.specs.declared.call.Home.{Home}
use Rattle.pico_base.specs.declared.call.Home.TheVariants as homes
use Rattle.pico_base.specs.declared.numbers.Kind.{Kind}
use Rattle.pico_base.specs.declared.numbers.Name.{Name}
use Rattle.pico_base.specs.declared.reply.Reply.{Reply}
use Rattle.pico_base.specs.declared.script.Line.{Line}
use Rattle.pico_base.specs.declared.script.Script.{Script}
use Rattle.pico_base.specs.Home.{home_of}
use Rattle.rpc_frame.specs.declared.asked.Asked.{Asked}
use Rattle.rpc_frame.specs.declared.frame.Frame.{Frame}
use Rattle.rpc_frame.specs.declared.frame.Frame.TheVariants as frames
use Rattle.number_maps.specs.Maps.{get}
use Rattle.waiting_model.specs.declared.callers.Waiting.{Waiting}
use Rattle.waiting_model.specs.Calls.{is_withdrawal, may_park}
use Rattle.kernel_model.specs.Row.{Alive}
use Rattle.kernel_model.specs.Kernel.{living_at}
use Rattle.kernel_model.specs.Transition.{may_make}
use Rattle.kernel_model.specs.Fitting.{Place, IsDue, place_after}
use Rattle.node_model.specs.declared.held.Held.{Held}
use Rattle.node_model.specs.declared.held.Held.TheVariants.{Request, Ending}
use Rattle.node_model.specs.Kinds.{for_kind, is_object, is_same_name}
use Rattle.node_model.specs.Bodies.{waiters_of}
use Rattle.node_model.specs.Carrying.{is_own_home}
use Rattle.node_model.specs.Serving.{waiting_as}
use Rattle.node_model.specs.Directory.{held_for}
use Rattle.node_model.specs.Leases.{Leases, takes_number}
use Rattle.node_model.specs.Caller.{Caller, caller_place, lines_of}
use Rattle.world_model.specs.Node.{Node, Stage, Unborn, Living, Leaving, Left, Over}
use Rattle.world_model.specs.Calls.{is_on_name, is_on_name_or_removal, is_for_others}
use Rattle.world_model.specs.World.{World}
use Rattle.world_laws.specs.Places.{CallPlace, Idle, AsksLease, HasLease, InAsk, InRequest, InNotOwner, SentByPlace, SentByRange, InBounce, IsHeld, IsInHand, Parked, Waits, InAnswer, Ends, Beside}
use Rattle.world_laws.specs.Sights.{node_of, frames_to, directory_of}

-- ---- what there is to see of a node's call

-- a frame, on its way to a node from a node, is about the call under way at p
abbrev pub is_about : ℕ → ℕ → ℕ → Frame → Bool
is_about p to sender (frames.Ask ticket pid call) = nat_eq sender p
is_about p to sender (frames.Request ticket pid call) = nat_eq sender p
is_about p to sender (frames.Forward asked) = nat_eq asked.caller p
is_about p to sender (frames.Bounce asked) = nat_eq asked.caller p
is_about p to sender (frames.Answer ticket reply) = nat_eq to p
is_about p to sender (frames.NotOwner ticket) = nat_eq to p
is_about p to sender (frames.LeaseAsk kind) = nat_eq sender p
is_about p to sender (frames.Lease kind first) = nat_eq to p
is_about p to sender frame = false

-- a withdrawal of a call isn't the call
abbrev pub is_item_about : ℕ → Held → Bool
is_item_about p (Request asked) = nat_eq asked.caller p && not (is_withdrawal asked.call)
is_item_about p (Ending parcel) = false

pub record CallSight : Type 0 where
  -- what the node has of it
  pub number : ℕ
  pub pid : ℕ
  pub stage : Stage
  pub caller : Caller
  pub leases : Leases
  -- its process in the history and in the kernel
  pub place : Option Place
  pub alive : Option Alive
  pub call : CallPlace
  pub frames_about : ℕ → ℕ → List Frame
  pub held : Name → List Held
  pub hand : List Held
  pub waiters : Name → List Waiting

-- a waiter is of node p
abbrev pub is_waiter_of : ℕ → Waiting → Bool
is_waiter_of p w = nat_eq w.caller p

abbrev pub call_sight : World → List Held → Beside → ℕ → CallSight
call_sight w hand b p =
    let n : Node = node_of w p
    in record {
      number = n.number;
      pid = n.pid;
      stage = n.stage;
      caller = n.caller;
      leases = n.leases;
      place = get b.places (b.pids p);
      alive = living_at b.kernel (b.pids p);
      call = b.call p;
      frames_about = λ to sender. filter (is_about p to sender) (frames_to w to sender);
      held = λ name. filter (is_item_about p) (held_for (directory_of w) name);
      hand = filter (is_item_about p) hand;
      waiters = λ name. filter (is_waiter_of p) (waiters_of (b.body name));
    }

-- the call, as others are asked for it
abbrev pub asked_of : CallSight → Call → Asked
asked_of x call = record { caller = x.number; ticket = x.caller.ticket; pid = x.pid; call = call }

-- ---- where it is

abbrev pub only_if : {A : Type 0} → Bool → A → List A
only_if true x = x ∷ []
only_if false x = []

-- it is in the stream to a node from another
abbrev pub is_in_stream : CallPlace → ℕ → ℕ → ℕ → Bool
is_in_stream (AsksLease kind) p to sender = nat_eq to 1 && nat_eq sender p
is_in_stream (HasLease kind first) p to sender = nat_eq to p && nat_eq sender 1
is_in_stream InAsk p to sender = nat_eq to 1 && nat_eq sender p
is_in_stream (InRequest h) p to sender = nat_eq to h && nat_eq sender p
is_in_stream (InNotOwner h) p to sender = nat_eq to p && nat_eq sender h
is_in_stream (SentByPlace h) p to sender = nat_eq to h && nat_eq sender 1
is_in_stream (SentByRange h) p to sender = nat_eq to h && nat_eq sender 1
is_in_stream (InBounce h) p to sender = nat_eq to 1 && nat_eq sender h
is_in_stream (InAnswer h reply) p to sender = nat_eq to p && nat_eq sender h
is_in_stream place p to sender = false

abbrev pub frame_at : CallPlace → Asked → Frame
frame_at (AsksLease kind) asked = frames.LeaseAsk kind
frame_at (HasLease kind first) asked = frames.Lease kind first
frame_at InAsk asked = frames.Ask asked.ticket asked.pid asked.call
frame_at (InRequest h) asked = frames.Request asked.ticket asked.pid asked.call
frame_at (InNotOwner h) asked = frames.NotOwner asked.ticket
frame_at (SentByPlace h) asked = frames.Forward asked
frame_at (SentByRange h) asked = frames.Forward asked
frame_at (InBounce h) asked = frames.Bounce asked
frame_at (InAnswer h reply) asked = frames.Answer asked.ticket reply
frame_at place asked = frames.RecallAll

abbrev pub is_held_at : CallPlace → Name → Bool
is_held_at (IsHeld name) other = is_same_name name other
is_held_at place other = false

abbrev pub is_in_hand : CallPlace → Bool
is_in_hand IsInHand = true
is_in_hand place = false

abbrev pub is_waiting_at : CallPlace → Name → Bool
is_waiting_at (Waits name) other = is_same_name name other
is_waiting_at place other = false

-- the call is in its place, and nowhere else
pub record IsJustThere (p : ℕ) (x : CallSight) (asked : Asked) : Type 0 where
  pub in_streams : (to sender : ℕ)
      → x.frames_about to sender ≡ only_if (is_in_stream x.call p to sender) (frame_at x.call asked)
  pub held_for_names : (name : Name) → x.held name ≡ only_if (is_held_at x.call name) (Request asked)
  pub in_hand : x.hand ≡ only_if (is_in_hand x.call) (Request asked)
  pub waiting : (name : Name) → x.waiters name ≡ only_if (is_waiting_at x.call name) (waiting_as asked)

pub record IsNowhere (x : CallSight) : Type 0 where
  pub in_streams : (to sender : ℕ) → x.frames_about to sender ≡ []
  pub held_for_names : (name : Name) → x.held name ≡ []
  pub in_hand : x.hand ≡ []
  pub waiting : (name : Name) → x.waiters name ≡ []

-- ---- which calls go where

abbrev pub is_call_of_kind : Kind → Home → Call → Bool
is_call_of_kind kind homes.Own call = takes_number kind call
is_call_of_kind kind home call = false

abbrev pub is_on : Name → Home → Bool
is_on name (homes.At other) = is_same_name name other
is_on name (homes.Removal other) = is_same_name name other
is_on name home = false

abbrev pub is_removal_home : Home → Bool
is_removal_home (homes.Removal name) = true
is_removal_home home = false

-- on a process, which may have left the node that its number's range belongs to
abbrev pub is_on_process : Home → Bool
is_on_process (homes.At name) = not (is_object name)
is_on_process home = false

-- A call that may have to wait is asked of the leader alone, and never comes back from where that sent it.
abbrev pub may_be_in : CallPlace → Home → Call → Bool
may_be_in Idle home call = false
may_be_in (AsksLease kind) home call = is_call_of_kind kind home call
may_be_in (HasLease kind first) home call = is_call_of_kind kind home call
may_be_in InAsk home call = is_for_others home
may_be_in (InRequest h) home call = is_on_name home && not (may_park call)
may_be_in (InNotOwner h) home call = is_on_name home && not (may_park call)
may_be_in (SentByPlace h) home call = is_on_name home
may_be_in (SentByRange h) home call = is_on_name_or_removal home
may_be_in (InBounce h) home call = is_removal_home home || is_on_process home
may_be_in (IsHeld name) home call = is_on name home
may_be_in IsInHand home call = is_for_others home
may_be_in Parked home call = is_own_home home && may_park call
may_be_in (Waits name) home call = is_on name home && may_park call
may_be_in (InAnswer h reply) home call = is_for_others home
may_be_in Ends homes.Parent call = true
may_be_in Ends home call = false

-- a number is asked for and comes where none of the kind is left
abbrev pub lease_is_over : CallPlace → Leases → Type 0
lease_is_over (AsksLease kind) leases = for_kind leases kind ≡ []
lease_is_over (HasLease kind first) leases = for_kind leases kind ≡ []
lease_is_over place leases = Unit {0}

-- who asks is another node than the leader, and who is asked, or answers, is born
abbrev pub IsBetween : ℕ → (ℕ → Bool) → CallPlace → Type 0
IsBetween p born (AsksLease kind) = p ≢ 1
IsBetween p born (HasLease kind first) = p ≢ 1
IsBetween p born InAsk = p ≢ 1
IsBetween p born (InRequest h) = (born h ≡ true) × (h ≢ p)
IsBetween p born (InNotOwner h) = h ≢ p
IsBetween p born (SentByPlace h) = h ≢ 1
IsBetween p born (SentByRange h) = h ≢ 1
IsBetween p born (InBounce h) = h ≢ 1
IsBetween p born (InAnswer h reply) = (born h ≡ true) × (h ≢ p)
IsBetween p born place = Unit {0}

-- ---- how far it is

-- the calls started so far are no more than the tries of the lines passed, with those made of the line reached
abbrev pub tries_made : Script → ℕ → Caller → ℕ
tries_made script p c = sum_by (λ line. line.tries) (take c.line (lines_of script p)) + c.tried

-- the line reached may be tried once more
abbrev pub HasTryLeft : Script → ℕ → Caller → Type 0
HasTryLeft script p c = (line : Line) → slice_get (lines_of script p) c.line ≡ Some line → c.tried + 1 ≤ line.tries

-- each line of the script is tried once at least
abbrev pub HasTries : Script → Type 0
HasTries script = (p : ℕ) → AllByRecursion (λ line. 1 ≤ line.tries) (lines_of script p)

-- Not carried out, or parked, which in line is the same: the history is at the node's place, where the call is due, and
-- its process may make it.
pub record IsToBeMade (script : Script) (p : ℕ) (x : CallSight) (call : Call) : Type 0 where
  pub there : x.place ≡ Some (caller_place script p x.caller)
  pub due : IsDue (caller_place script p x.caller) call
  pub alive : Alive
  pub lives : x.alive ≡ Some alive
  pub may : may_make alive call ≡ true

-- carried out, with this reply: the history is where the node will be
pub record IsMade (script : Script) (p : ℕ) (x : CallSight) (call : Call) (reply : Reply) : Type 0 where
  pub there : x.place ≡ Some (place_after (caller_place script p x.caller) call (Some reply))
  pub due : IsDue (caller_place script p x.caller) call
  pub alive : Alive
  pub lives : x.alive ≡ Some alive

-- its process has made its last call
pub record HasEnded (x : CallSight) : Type 0 where
  pub last : Place
  pub there : x.place ≡ Some last
  pub over : last.left ≡ []
  pub dead : x.alive ≡ None

-- a node has a call under way while its process makes calls, and once it leaves
abbrev pub is_at_work : Stage → Bool
is_at_work Unborn = false
is_at_work Over = false
is_at_work stage = true

abbrev pub IsSoFar : Script → ℕ → CallSight → Call → CallPlace → Type 0
IsSoFar script p x call (InAnswer h reply) = IsMade script p x call reply
IsSoFar script p x call Ends = IsToBeMade script p x call ⊎ HasEnded x
IsSoFar script p x call place = IsToBeMade script p x call

pub record HasCall (script : Script) (p : ℕ) (born : ℕ → Bool) (x : CallSight) (call : Call) : Type 0 where
  pub just_there : IsJustThere p x (asked_of x call)
  pub home : may_be_in x.call (home_of x.pid call) call ≡ true
  pub used_up : lease_is_over x.call x.leases
  pub between : IsBetween p born x.call
  pub so_far : IsSoFar script p x call x.call
  pub at_work : is_at_work x.stage ≡ true
  pub started : 1 ≤ x.caller.ticket
  pub tickets : x.caller.ticket ≤ tries_made script p x.caller + 1
  pub try_left : HasTryLeft script p x.caller

-- no call is under way: the process may go on, or it has ended, or it isn't there yet
pub record IsFree (script : Script) (p : ℕ) (x : CallSight) : Type 0 where
  pub there : x.place ≡ Some (caller_place script p x.caller)
  pub alive : Alive
  pub lives : x.alive ≡ Some alive
  pub tickets : x.caller.ticket ≤ tries_made script p x.caller
  pub try_left : HasTryLeft script p x.caller

abbrev pub FreeIn : Script → ℕ → CallSight → Stage → Type 0
FreeIn script p x Unborn = Unit {0}
FreeIn script p x Living = IsFree script p x
FreeIn script p x Leaving = ⊥
FreeIn script p x Left = ⊥
FreeIn script p x Over = HasEnded x

pub record HasNoCall (script : Script) (p : ℕ) (x : CallSight) : Type 0 where
  pub nowhere : IsNowhere x
  pub idle : x.call ≡ Idle
  pub free : FreeIn script p x x.stage

-- a call that ends its process is under way exactly where the process leaves or has left
abbrev pub is_end_place : CallPlace → Bool
is_end_place Ends = true
is_end_place place = false

abbrev pub is_end_stage : Stage → Bool
is_end_stage Leaving = true
is_end_stage Left = true
is_end_stage stage = false

abbrev pub HasCallOrNone : Script → ℕ → (ℕ → Bool) → CallSight → Option Call → Type 0
HasCallOrNone script p born x None = HasNoCall script p x
HasCallOrNone script p born x (Some call) = HasCall script p born x call

pub record CallHolds (script : Script) (p : ℕ) (born : ℕ → Bool) (x : CallSight) : Type 0 where
  pub call : HasCallOrNone script p born x x.caller.under_way
  pub ends : is_end_place x.call ≡ is_end_stage x.stage
