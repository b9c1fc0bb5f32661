-- What holds of a node's state so that all that it sends is within the limits of frames. Nothing is said of other
-- nodes, of what is on its way, or of the kernel.
use Rattle.std.specs.List.{AllByRecursion}
use Rattle.std.specs.Prelude.{◌≡◌, ◌<◌, ◌≤◌, ℕ, true, false, List, length, Option, Some, None}
use Rattle.frame_bytes.specs.Limits.{is_frame, is_reply}
use Rattle.frame_bytes.specs.Replies.{reply_bytes}
use Rattle.kernel_model.specs.Fitting.{is_killed}
use Rattle.kernel_model.specs.Script.{Vars}
use Rattle.limit_laws.specs.Bodies.{IsFamilyWithin, IsQueueWithin, IsSetWithin}
use Rattle.node_model.specs.Bodies.{Body, Deeds, Living, Ended, Gone, AQueue, ASet, Removed}
use Rattle.node_model.specs.Caller.{Caller, lines_of}
use Rattle.node_model.specs.Directory.{Directory, Place, At, Coming}
use Rattle.node_model.specs.Kinds.{Named, for_kind, number_of}
use Rattle.node_model.specs.declared.held.Held.TheVariants.{Request, Ending}
use Rattle.node_model.specs.declared.held.Held.{Held}
use Rattle.number_maps.specs.Rising.{IsRising}
use Rattle.pico_base.specs.Home.{home_of}
use Rattle.pico_base.specs.declared.call.Call.{Call}
use Rattle.pico_base.specs.declared.numbers.Kind.{Kind}
use Rattle.pico_base.specs.declared.numbers.Name.TheVariants.{Proc, Msg, Sem}
use Rattle.pico_base.specs.declared.numbers.Name.{Name}
use Rattle.pico_base.specs.declared.reply.Reply.{Reply}
use Rattle.pico_base.specs.declared.script.Script.{Script}
use Rattle.rpc_frame.specs.declared.asked.Asked.{Asked}
use Rattle.rpc_frame.specs.declared.frame.Frame.TheVariants as frames
use Rattle.rpc_frame.specs.declared.frame.Frame.{Frame}
use Rattle.waiting_model.specs.declared.callers.Wake.{Wake}
use Rattle.waiting_model.specs.Calls.{withdrawn_from}
use Rattle.world_model.specs.Calls.{is_for_others}
use Rattle.world_model.specs.Node.{Node}
use Rattle.world_model.specs.Step.{Step}

-- ---- what it holds

-- The only process here that lives is this node's own, with at most so many children; queues and sets are within the
-- kernel's limits, and so are those who wait there.
abbrev pub IsBodyWithin : ℕ → ℕ → Name → Body → Type 0
IsBodyWithin own most (Proc pid) (Living row) = (pid ≡ own) × IsFamilyWithin most row.family
IsBodyWithin own most (Proc pid) (Ended ending) = Unit {0}
IsBodyWithin own most (Proc pid) Gone = Unit {0}
IsBodyWithin own most (Msg id) (AQueue queue) = IsQueueWithin queue
IsBodyWithin own most (Msg id) Removed = Unit {0}
IsBodyWithin own most (Sem id) (ASet set) = IsSetWithin set
IsBodyWithin own most (Sem id) Removed = Unit {0}
IsBodyWithin own most name body = ⊥

-- a deed that is held is of a number that is at least 1
abbrev pub IsDeedWithin : ℕ → ℕ → Name → Body → Type 0
IsDeedWithin own most name body = (1 ≤ number_of name) × IsBodyWithin own most name body

-- what holds of each name's value in a map from names
pub record AllNamed {V : Type 0} (P : Name → V → Type 0) (m : Named V) : Type 0 where
  pub processes : AllByRecursion (λ (e : ℕ × V). P (Proc e.0) e.1) m.processes
  pub queues : AllByRecursion (λ (e : ℕ × V). P (Msg e.0) e.1) m.queues
  pub sets : AllByRecursion (λ (e : ℕ × V). P (Sem e.0) e.1) m.sets

-- deeds of processes stand by rising number
pub record AreDeedsWithin (own most : ℕ) (deeds : Deeds) : Type 0 where
  pub rising : IsRising deeds.processes
  pub each : AllNamed (IsDeedWithin own most) deeds

-- ---- its caller

-- variables by rising number
pub record AreVariables (vars : Vars) : Type 0 where
  pub rising : IsRising vars
  pub each : AllByRecursion (λ (v : ℕ × ℕ). v.0 ≤ 2885) vars

-- the call under way of a node with this number and this process, as others are asked for it
abbrev pub asked_of : ℕ → ℕ → Caller → Call → Asked
asked_of number pid c call = record { caller = number; ticket = c.ticket; pid = pid; call = call }

-- It has a ticket, which isn't 0. One that others carry out fits a frame, also where it is sent on. One that doesn't
-- end its process by a signal is a line's of its block.
pub record IsUnderWayWithin (script : Script) (number pid : ℕ) (c : Caller) (call : Call) : Type 0 where
  pub ticket : 1 ≤ c.ticket
  pub others : is_for_others (home_of pid call) ≡ true
      → is_frame (frames.Forward (asked_of number pid c call)) ≡ true
  pub line : is_killed call ≡ false → c.line < length (lines_of script number)

-- ---- what the leader knows

-- A call that is held can be sent on, and so can the end of a wait and the end of a process.

abbrev pub CanGoOn : Asked → Option Name → Type 0
CanGoOn asked None = is_frame (frames.Forward asked) ≡ true
CanGoOn asked (Some name) = is_frame (frames.Cancel asked) ≡ true

abbrev pub IsItemWithin : Held → Type 0
IsItemWithin (Request asked) = CanGoOn asked (withdrawn_from asked.call)
IsItemWithin (Ending parcel) = is_frame (frames.ExitTo parcel) ≡ true

-- all that is held for a name
abbrev pub AreItemsWithin : List Held → Type 0
AreItemsWithin items = AllByRecursion IsItemWithin items

-- a known name has a number that is at least 1
abbrev pub IsPlaceWithin : Name → Place → Type 0
IsPlaceWithin name (At node) = 1 ≤ number_of name
IsPlaceWithin name (Coming to items) = (1 ≤ number_of name) × AreItemsWithin items

-- so it is with each name
abbrev pub IsDirectoryWithin : Directory → Type 0
IsDirectoryWithin d = AllNamed IsPlaceWithin d.places

-- ---- a node

-- Its process's children are no more than the lines that its block has passed, since each fork is a line's.
pub record IsNodeWithin (script : Script) (n : Node) : Type 0 where
  pub vars : AreVariables n.caller.vars
  pub line : n.caller.line ≤ length (lines_of script n.number)
  pub under_way : (call : Call) → n.caller.under_way ≡ Some call
      → IsUnderWayWithin script n.number n.pid n.caller call
  pub deeds : AreDeedsWithin n.pid n.caller.line n.deeds
  -- the numbers that it may give are at least 1
  pub leases : (kind : Kind) → AllByRecursion (λ (number : ℕ). 1 ≤ number) (for_kind n.leases kind)
  pub directory : IsDirectoryWithin n.leader.directory

-- ---- a frame

-- What a frame says besides: the variables that a new process begins with are variables, and a call that is asked for
-- still fits a frame as the leader sends it on, which has a byte more, for the node that asks.
abbrev pub SaysWithin : Frame → Type 0
SaysWithin (frames.Checkpoint pid parent deed vars) = AllByRecursion (λ (v : ℕ × ℕ). v.0 ≤ 2885) vars
SaysWithin (frames.Ask ticket pid call) =
    is_frame (frames.Forward (record { caller = 1; ticket = ticket; pid = pid; call = call })) ≡ true
SaysWithin frame = Unit {0}

-- within the limits of frames, and of what it says
pub record IsFrameWithin (frame : Frame) : Type 0 where
  pub limits : is_frame frame ≡ true
  pub says : SaysWithin frame

-- ---- a step

-- a frame with its receiver
abbrev pub IsSentWithin : ℕ × Frame → Type 0
IsSentWithin sent = IsFrameWithin sent.1

-- what a turn does
pub record IsStepWithin (script : Script) (s : Step) : Type 0 where
  pub node : IsNodeWithin script s.node
  pub sends : AllByRecursion IsSentWithin s.sends

-- ---- replies

-- a reply that an Answer has room for
pub record IsReplyShort (reply : Reply) : Type 0 where
  pub within : is_reply reply ≡ true
  pub short : length (reply_bytes reply) ≤ 8300

-- one who is woken has such a reply, under a ticket
pub record IsWakeWithin (w : Wake) : Type 0 where
  pub ticket : 1 ≤ w.ticket
  pub reply : IsReplyShort w.reply
