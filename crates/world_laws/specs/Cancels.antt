-- What holds of the withdrawal of one node's call: there is one at most, it stands behind its call, and a process that
-- a signal has struck while its call waits is interrupted.
use Rattle.std.specs.Prelude.{◌≡◌, ◌≢◌, ◌≤◌, ℕ, Bool, true, false, ◌&&◌, nat_eq, List, ◌++◌, Option, Some, None, is_some}
use Rattle.std.specs.List.{filter, AllByRecursion}
use Rattle.pico_base.specs.declared.call.Call.{Call}
use Rattle.pico_base.specs.declared.call.Call.TheVariants as calls
use Rattle.pico_base.specs.declared.numbers.Name.{Name}
use Rattle.rpc_frame.specs.declared.asked.Asked.{Asked}
use Rattle.rpc_frame.specs.declared.frame.Frame.{Frame}
use Rattle.rpc_frame.specs.declared.frame.Frame.TheVariants as frames
use Rattle.waiting_model.specs.Calls.{is_withdrawal, may_park, waits_at, withdrawn_from}
use Rattle.waiting_model.specs.Marks.{Alive}
use Rattle.waiting_model.specs.Kernel.{living_at}
use Rattle.node_model.specs.declared.held.Held.{Held}
use Rattle.node_model.specs.declared.held.Held.TheVariants.{Request, Ending}
use Rattle.node_model.specs.Kinds.{is_object, is_same_name}
use Rattle.node_model.specs.Directory.{Directory, held_for, is_known, stays}
use Rattle.node_model.specs.Caller.{Caller}
use Rattle.world_model.specs.Node.{Node}
use Rattle.world_model.specs.World.{World}
use Rattle.world_laws.specs.Places.{CallPlace, InAsk, SentByPlace, SentByRange, IsHeld, IsInHand, Parked, Waits, InAnswer, CancelPlace, NoCancel, ToLeader, SentTo, CancelHeld, CancelInHand, Beside}
use Rattle.world_laws.specs.Sights.{node_of, frames_to, directory_of}
use Rattle.world_laws.specs.Callers.{frame_at, is_about, is_held_at, is_in_hand, is_in_stream, only_if}

-- ---- what there is to see of it

-- a withdrawal of a call of node p, of whichever: old ones are of calls that have their reply
abbrev pub is_cancel_of : ℕ → Frame → Bool
is_cancel_of p (frames.Cancel asked) = nat_eq asked.caller p
is_cancel_of p frame = false

abbrev pub is_held_cancel_of : ℕ → Held → Bool
is_held_cancel_of p (Request asked) = nat_eq asked.caller p && is_withdrawal asked.call
is_held_cancel_of p (Ending parcel) = false

-- the call under way at p, or its withdrawal, which has the same ticket
abbrev pub is_of_call : ℕ → ℕ → ℕ → ℕ → Frame → Bool
is_of_call p ticket to sender (frames.Cancel asked) = nat_eq asked.caller p && nat_eq asked.ticket ticket
is_of_call p ticket to sender frame = is_about p to sender frame

abbrev pub is_held_of_call : ℕ → ℕ → Held → Bool
is_held_of_call p ticket (Request asked) = nat_eq asked.caller p && nat_eq asked.ticket ticket
is_held_of_call p ticket (Ending parcel) = false

pub record CancelSight : Type 0 where
  pub number : ℕ
  pub pid : ℕ
  pub caller : Caller
  pub alive : Option Alive
  pub call : CallPlace
  pub cancel : CancelPlace
  -- all withdrawals, and the call under way with its own
  pub cancels : ℕ → ℕ → List Frame
  pub held_cancels : Name → List Held
  pub hand_cancels : List Held
  pub of_call : ℕ → ℕ → List Frame
  pub held_of_call : Name → List Held
  pub hand_of_call : List Held
  -- whether a node stays, and whether the leader knows a name
  pub stays : ℕ → Bool
  pub knows : Name → Bool

abbrev pub cancel_sight : World → List Held → Beside → ℕ → CancelSight
cancel_sight w hand b p =
    let n : Node = node_of w p
    in let d : Directory = directory_of w
    in record {
      number = n.number;
      pid = n.pid;
      caller = n.caller;
      alive = living_at b.whole (b.pids p);
      call = b.call p;
      cancel = b.cancel p;
      cancels = λ to sender. filter (is_cancel_of p) (frames_to w to sender);
      held_cancels = λ name. filter (is_held_cancel_of p) (held_for d name);
      hand_cancels = filter (is_held_cancel_of p) hand;
      of_call = λ to sender. filter (is_of_call p n.caller.ticket to sender) (frames_to w to sender);
      held_of_call = λ name. filter (is_held_of_call p n.caller.ticket) (held_for d name);
      hand_of_call = filter (is_held_of_call p n.caller.ticket) hand;
      stays = stays d;
      knows = is_known d;
    }

-- ---- where it is

abbrev pub cancel_in_stream : CancelPlace → ℕ → ℕ → ℕ → Bool
cancel_in_stream ToLeader p to sender = nat_eq to 1 && nat_eq sender p
cancel_in_stream (SentTo h) p to sender = nat_eq to h && nat_eq sender 1
cancel_in_stream place p to sender = false

abbrev pub cancel_held_at : CancelPlace → Name → Bool
cancel_held_at (CancelHeld name) other = is_same_name name other
cancel_held_at place other = false

abbrev pub cancel_in_hand : CancelPlace → Bool
cancel_in_hand CancelInHand = true
cancel_in_hand place = false

-- the call and its withdrawal are where they are said to be, and where they are together the call is in front
pub record FollowsItsCall (p : ℕ) (x : CancelSight) (call cancel : Asked) : Type 0 where
  pub in_streams : (to sender : ℕ)
      → x.of_call to sender
      ≡ only_if (is_in_stream x.call p to sender) (frame_at x.call call)
      ++ only_if (cancel_in_stream x.cancel p to sender) (frames.Cancel cancel)
  pub held_for_names : (name : Name)
      → x.held_of_call name
      ≡ only_if (is_held_at x.call name) (Request call) ++ only_if (cancel_held_at x.cancel name) (Request cancel)
  pub in_hand : x.hand_of_call
      ≡ only_if (is_in_hand x.call) (Request call) ++ only_if (cancel_in_hand x.cancel) (Request cancel)

-- Where the withdrawal may be by where its call is: it goes the same way behind it.
abbrev pub may_follow : CancelPlace → CallPlace → Bool
may_follow NoCancel call = true
may_follow ToLeader InAsk = true
may_follow ToLeader (SentByPlace h) = true
may_follow ToLeader (SentByRange h) = true
may_follow ToLeader (IsHeld name) = true
may_follow ToLeader IsInHand = true
may_follow ToLeader (Waits name) = true
may_follow (SentTo to) (SentByPlace h) = nat_eq to h
may_follow (SentTo to) (SentByRange h) = nat_eq to h
may_follow (SentTo to) (Waits name) = true
may_follow (CancelHeld name) (IsHeld other) = is_same_name name other
may_follow (CancelHeld name) (SentByPlace h) = true
may_follow (CancelHeld name) (SentByRange h) = true
may_follow (CancelHeld name) (Waits other) = true
may_follow CancelInHand IsInHand = true
may_follow CancelInHand (IsHeld name) = true
may_follow CancelInHand (SentByPlace h) = true
may_follow CancelInHand (SentByRange h) = true
may_follow CancelInHand (Waits name) = true
may_follow elsewhere call = false

-- ---- what holds of it

-- The call goes to a node that leaves, on a name that nobody has: its number is that node's to give, so that the call
-- doesn't wait there, and its withdrawal may be nowhere.
pub record LeadsNowhere (x : CancelSight) (name : Name) : Type 0 where
  pub node : ℕ
  pub is : x.call ≡ SentByRange node
  pub leaves : x.stays node ≡ false
  pub unknown : x.knows name ≡ false

-- What is still to come in an event: nothing; that a signal interrupts a call of this node; or that some are woken,
-- whose calls are in hand until then.
pub data Owing : Type 0 where
  Nothing : Owing
  AStrike : (node : ℕ) → Owing
  Wakes : Owing

-- by what a step says at its end
abbrev pub owing_of : ℕ → Bool → Owing
owing_of p false = Nothing
owing_of p true = AStrike p

abbrev pub is_owed : Owing → ℕ → Bool
is_owed Nothing p = false
is_owed (AStrike q) p = nat_eq q p
is_owed Wakes p = false

abbrev pub is_struck : Option Alive → Bool
is_struck None = false
is_struck (Some alive) = alive.marks.struck

abbrev pub is_doomed : Option Alive → Bool
is_doomed None = false
is_doomed (Some alive) = is_some alive.row.signals.doom

abbrev pub asked_as : CancelSight → Call → Asked
asked_as x call = record { caller = x.number; ticket = x.caller.ticket; pid = x.pid; call = call }

-- of a call on a queue or a set that may have to wait and has no reply
pub record CallMayWait (p : ℕ) (owed : Bool) (x : CancelSight) (call : Call) (name : Name) : Type 0 where
  pub follows : FollowsItsCall p x (asked_as x call) (asked_as x (calls.Withdraw name))
  pub pair : may_follow x.cancel x.call ≡ true
  -- a strike makes the only one, of a process that it has struck
  pub noted : x.cancel ≢ NoCancel → x.caller.noted ≡ true
  pub struck : x.cancel ≢ NoCancel → is_struck x.alive ≡ true
  pub nowhere : x.caller.noted ≡ true → x.cancel ≡ NoCancel → LeadsNowhere x name
  -- a process that is doomed was interrupted
  pub interrupted : owed ≡ false → is_doomed x.alive ≡ true → x.caller.noted ≡ true

-- of a `waitpid` that is parked: a strike ends it at once
pub record WaitsForChild (owed : Bool) (x : CancelSight) : Type 0 where
  pub unnoted : x.caller.noted ≡ false
  pub undoomed : owed ≡ false → is_doomed x.alive ≡ false

abbrev pub has_reply : CallPlace → Bool
has_reply (InAnswer h reply) = true
has_reply place = false

abbrev pub MayBeInterrupted : ℕ → Bool → CancelSight → Call → Name → Bool → Bool → Type 0
MayBeInterrupted p owed x call name true false = CallMayWait p owed x call name
MayBeInterrupted p owed x call name object replied = x.cancel ≡ NoCancel

abbrev pub OfCall : ℕ → Bool → CancelSight → CallPlace → Option Call → Type 0
OfCall p owed x place None = x.cancel ≡ NoCancel
OfCall p owed x Parked (Some call) = (x.cancel ≡ NoCancel) × WaitsForChild owed x
OfCall p owed x place (Some call) =
    MayBeInterrupted p owed x call (waits_at x.pid call) (may_park call
    && is_object (waits_at x.pid call)) (has_reply place)

-- each withdrawal of p, also an old one, is of p's process, at a queue or a set, and of a call that was started
pub record IsCancelOf (x : CancelSight) (asked : Asked) : Type 0 where
  pub process : asked.pid ≡ x.pid
  pub low : 1 ≤ asked.ticket
  pub high : asked.ticket ≤ x.caller.ticket
  pub name : Name
  pub withdraws : withdrawn_from asked.call ≡ Some name
  pub object : is_object name ≡ true
  -- and where that call is still under way, it waits at one
  pub current : asked.ticket ≡ x.caller.ticket → (call : Call) → x.caller.under_way ≡ Some call
      → is_object (waits_at x.pid call) ≡ true

abbrev pub IsCancelFrame : CancelSight → Frame → Type 0
IsCancelFrame x (frames.Cancel asked) = IsCancelOf x asked
IsCancelFrame x frame = ⊥

abbrev pub IsCancelItem : CancelSight → Held → Type 0
IsCancelItem x (Request asked) = IsCancelOf x asked
IsCancelItem x (Ending parcel) = ⊥

pub record CancelHolds (p : ℕ) (owes : Owing) (x : CancelSight) : Type 0 where
  pub of_call : OfCall p (is_owed owes p) x x.call x.caller.under_way
  pub frames : (to sender : ℕ) → AllByRecursion (IsCancelFrame x) (x.cancels to sender)
  pub held : (name : Name) → AllByRecursion (IsCancelItem x) (x.held_cancels name)
  pub hand : AllByRecursion (IsCancelItem x) x.hand_cancels
  -- a process that is owed a strike was struck by the event
  pub owed : is_owed owes p ≡ true → is_some x.caller.under_way ≡ true → is_struck x.alive ≡ true

-- While some are still to be woken nothing is said of withdrawals, which don't follow a call into another hand.
abbrev pub CancelIf : ℕ → Owing → CancelSight → Type 0
CancelIf p Nothing x = CancelHolds p Nothing x
CancelIf p (AStrike node) x = CancelHolds p (AStrike node) x
CancelIf p Wakes x = Unit {0}
