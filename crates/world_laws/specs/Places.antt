-- Where a name's deed is, where a call under way is, and what stands beside a world: the kernel and the places of its
-- journal, the number of each node's process, and these two. All but the kernel and the places can be read off the
-- world; written beside it they spare every "exactly one".
use Rattle.std.specs.Prelude.{ℕ, nat_eq, List, if◌then◌else◌}
use Rattle.pico_base.specs.declared.numbers.Kind.{Kind}
use Rattle.pico_base.specs.declared.numbers.Name.{Name}
use Rattle.pico_base.specs.declared.reply.Entry.{Entry}
use Rattle.pico_base.specs.declared.reply.Reply.{Reply}
use Rattle.kernel_model.specs.Kernel.{Kernel}
use Rattle.kernel_model.specs.Fitting.{Places}
use Rattle.waiting_model.specs.Kernel as whole_kernels
use Rattle.node_model.specs.Kinds.{is_same_name}
use Rattle.node_model.specs.Bodies.{Body}

-- A deed is nowhere while nothing has the name's number; in a node's table; in a frame to or from a node; or in the
-- parcel of a node's process: on its way to the leader, held for the parent, in the leader's hand in the middle of an
-- event, or on its way to a node.
pub data DeedPlace : Type 0 where
  Unmade : DeedPlace
  InTable : (node : ℕ) → DeedPlace
  InCheckpoint : (to : ℕ) → DeedPlace
  InGrant : (to : ℕ) → DeedPlace
  InGiveBack : («from» : ℕ) → DeedPlace
  InLeft : (of : ℕ) → DeedPlace
  InKept : (of : ℕ) → DeedPlace
  InHand : (of : ℕ) → DeedPlace
  InExitTo : (of : ℕ) (to : ℕ) → DeedPlace

-- A call is under way nowhere; at its caller while numbers are asked for and come; in a frame to or from a node; held
-- for a name; in the leader's hand; parked, at its caller or among those who wait at a queue or a set, wherever the
-- deed of that is; carried out, with its reply on its way; or it ends its process.
pub data CallPlace : Type 0 where
  Idle : CallPlace
  AsksLease : (kind : Kind) → CallPlace
  HasLease : (kind : Kind) (first : ℕ) → CallPlace
  InAsk : CallPlace
  InRequest : (to : ℕ) → CallPlace
  InNotOwner : («from» : ℕ) → CallPlace
  SentByPlace : (to : ℕ) → CallPlace
  SentByRange : (to : ℕ) → CallPlace
  InBounce : («from» : ℕ) → CallPlace
  IsHeld : (name : Name) → CallPlace
  IsInHand : CallPlace
  Parked : CallPlace
  Waits : (name : Name) → CallPlace
  InAnswer : («from» : ℕ) (reply : Reply) → CallPlace
  Ends : CallPlace

-- The withdrawal of a call that a signal has interrupted and that has no reply: there is none; it is on its way to the
-- leader, or from the leader to a node; held for the name; or in the leader's hand.
pub data CancelPlace : Type 0 where
  NoCancel : CancelPlace
  ToLeader : CancelPlace
  SentTo : (to : ℕ) → CancelPlace
  CancelHeld : (name : Name) → CancelPlace
  CancelInHand : CancelPlace

-- the deed, or the call, is in another place now
abbrev pub deed_in : (Name → DeedPlace) → Name → DeedPlace → Name → DeedPlace
deed_in deed name place other = if is_same_name name other then place else deed other

abbrev pub call_in : (ℕ → CallPlace) → ℕ → CallPlace → ℕ → CallPlace
call_in call p place other = if nat_eq p other then place else call other

abbrev pub cancel_in : (ℕ → CancelPlace) → ℕ → CancelPlace → ℕ → CancelPlace
cancel_in cancel p place other = if nat_eq p other then place else cancel other

-- the body of a name is another one now
abbrev pub body_put : (Name → Body) → Name → Body → Name → Body
body_put bodies name body other = if is_same_name name other then body else bodies other

pub record Beside : Type 0 where
  -- what was carried out, in line: each call that has its reply, where it has it; and where that leads to
  pub lines : List Entry
  pub kernel : Kernel
  pub places : Places
  -- where the journal leads to, with those who wait
  pub whole : whole_kernels.Kernel
  -- 0 where the node's process isn't forked
  pub pids : ℕ → ℕ
  pub deed : Name → DeedPlace
  pub call : ℕ → CallPlace
  -- each name's body, with the nodes and tickets of those who wait there
  pub body : Name → Body
  pub cancel : ℕ → CancelPlace
