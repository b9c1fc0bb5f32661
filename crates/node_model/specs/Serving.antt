-- A call is carried out on the deeds that a node holds: it does what the kernel does, on a kernel that has just the
-- name of the call.
use Rattle.std.specs.Prelude.{ℕ, pos, Bool, true, false, not, ◌&&◌, ◌||◌, nat_eq, nat_lt, List, [], ◌∷◌, ◌++◌, length, map, int_lt, if◌then◌else◌, Option, Some, None}
use Rattle.std.specs.List.{filter, list_any}
use Rattle.std.specs.Option.{option_map, option_and_then}
use Rattle.pico_base.specs.declared.call.Call.{Call}
use Rattle.pico_base.specs.declared.call.Call.TheVariants as calls
use Rattle.pico_base.specs.declared.call.Home.{Home}
use Rattle.pico_base.specs.declared.call.Home.TheVariants as homes
use Rattle.pico_base.specs.declared.call.SemStep.{SemStep}
use Rattle.pico_base.specs.declared.numbers.Name.{Name}
use Rattle.pico_base.specs.declared.numbers.Name.TheVariants.{Proc, Msg, Sem}
use Rattle.pico_base.specs.declared.reply.Errno.{Errno}
use Rattle.pico_base.specs.declared.reply.Errno.TheVariants.{Esrch, Einval}
use Rattle.pico_base.specs.declared.reply.Reply.{Reply}
use Rattle.pico_base.specs.declared.reply.Reply.TheVariants as replies
use Rattle.pico_base.specs.declared.signal.Sig.TheVariants.{Chld}
use Rattle.pico_base.specs.declared.signal.SigArg.TheVariants.{Is}
use Rattle.pico_base.specs.Home.{home_of}
use Rattle.rpc_frame.specs.declared.asked.Asked.{Asked}
use Rattle.kernel_model.specs.Row.{Row, new_row, ignores_children}
use Rattle.waiting_model.specs.declared.callers.Waiting.{Waiting}
use Rattle.waiting_model.specs.declared.callers.Wake.{Wake}
use Rattle.waiting_model.specs.Waiters.{Awaited}
use Rattle.waiting_model.specs.Marks.{Alive, strikes}
use Rattle.waiting_model.specs.Kernel.{Kernel}
use Rattle.waiting_model.specs.Effect.{Effect}
use Rattle.waiting_model.specs.ProcessCalls.{parent_after_fork, new_child}
use Rattle.waiting_model.specs.Transition.{effect}
use Rattle.waiter_fields.specs.Waiters.{max_waiters}
use Rattle.waiter_fields.specs.Settling.{is_waiter}
use Rattle.node_model.specs.Kinds.{get_named}
use Rattle.node_model.specs.Bodies.{Body, Living, AQueue, ASet, Deeds, whole_in, kernel_with, free_to_act, waiters_of}
use Rattle.node_model.specs.Carrying.{is_removal}

-- a call that was asked for, as its caller would wait with it
abbrev pub waiting_as : Asked → Waiting
waiting_as asked = record { caller = asked.caller; ticket = asked.ticket; pid = asked.pid; call = asked.call }

-- the name on which a call is carried out, where it isn't one of the keys' or an end
abbrev pub name_in : ℕ → Home → Option Name
name_in caller homes.Own = Some (Proc caller)
name_in caller homes.Keys = None
name_in caller (homes.At name) = Some name
name_in caller (homes.Removal name) = Some name
name_in caller homes.Parent = None

abbrev pub name_for : ℕ → Call → Option Name
name_for caller call = name_in caller (home_of caller call)

-- The names that may have another body afterwards: the one that the call is carried out on, and the child that a
-- `waitpid` found.
abbrev pub changed_names : Name → Option Reply → List Name
changed_names name (Some (replies.Child child ending)) = name ∷ Proc child ∷ []
changed_names name own = name ∷ []

-- these names, each with its part of the kernel
abbrev pub parts_in : Kernel → List Name → List (Name × Body)
parts_in k names = map (λ name. (name, whole_in k name)) names

-- The calls that the watch over a name counts: a receive that gave a message, and a `semop` that took from a semaphore.

abbrev pub takes_away : SemStep → Bool
takes_away step = int_lt step.add (pos 0)

abbrev pub has_read : Call → Reply → Bool
has_read (calls.MsgRcv id class size noerror nowait) (replies.Message message_class text) = true
has_read (calls.SemOp id steps) (replies.Num n) = list_any takes_away steps
has_read call reply = false

-- a call that has to wait reads nothing as yet
abbrev pub has_read_if : Call → Option Reply → Bool
has_read_if call None = false
has_read_if call (Some reply) = has_read call reply

-- who is woken with a reply reads where the call with which it waited does
abbrev pub woken_reads : List Waiting → Wake → Bool
woken_reads waiters w = list_any (λ waiter. nat_eq waiter.pid w.pid && has_read waiter.call w.reply) waiters

-- The nodes that the name's watch is to note: the caller's where its call reads, and then those of the woken whose
-- calls read, in order.
abbrev pub caller_if : Bool → ℕ → List ℕ
caller_if true caller = caller ∷ []
caller_if false caller = []

abbrev pub readers_of : Body → Waiting → Effect → List ℕ
readers_of body who e =
    caller_if (has_read_if who.call e.own) who.caller
    ++ map (λ w. w.caller) (filter (woken_reads (waiters_of body)) e.wakes)

-- the bodies that are other ones once a call is carried out; its reply, none where its caller has to wait; those who
-- are woken, in order; and the nodes that read
pub record Served : Type 0 where
  pub changes : List (Name × Body)
  pub own : Option Reply
  pub wakes : List Wake
  pub readers : List ℕ

abbrev pub serve_by : Name → Body → Waiting → Effect → Served
serve_by name body who e =
    record {
      changes = parts_in e.kernel (changed_names name e.own);
      own = e.own;
      wakes = e.wakes;
      readers = readers_of body who e;
    }

-- a process acts on its own row; for a call on any other name its row doesn't matter
abbrev pub actor : Body → Alive
actor (Living row) = free_to_act row
actor _ = free_to_act new_row

-- what the kernel does for a call of this process on a name with this body, or for its own call
abbrev pub serve_on : Name → Body → Waiting → Option Served
serve_on name body who = option_map (serve_by name body who) (effect (kernel_with name body) who (actor body) 0)

abbrev pub makes_something : Call → Bool
makes_something (calls.Fork block) = true
makes_something (calls.MsgGet key create excl) = true
makes_something (calls.SemGet key count create excl) = true
makes_something call = false

-- the same by the deed that is held; nothing where it isn't, nor for a call on no name: by a key, or an end
abbrev pub serve_at : Deeds → Waiting → Option Name → Option Served
serve_at deeds who None = None
serve_at deeds who (Some name) = option_and_then (λ body. serve_on name body who) (get_named deeds name)

-- the same; nothing for a call that makes something
abbrev pub serve : Deeds → Waiting → Option Served
serve deeds who = if makes_something who.call then None else serve_at deeds who (name_for who.pid who.call)

-- a fork: the parent lists the new child, which has a row of its own
abbrev pub parent_body : Row → ℕ → Body
parent_body row child =
    let parent : Alive = parent_after_fork (free_to_act row) child
    in Living parent.row

abbrev pub child_body : Row → Body
child_body row =
    let child : Alive = new_child (free_to_act row)
    in Living child.row

-- a call on a number that names nothing
abbrev pub no_such_name : Name → Errno
no_such_name (Proc pid) = Esrch
no_such_name (Msg id) = Einval
no_such_name (Sem id) = Einval

-- ---- who may wait there, and who waits no more

-- At most so many callers wait at a queue or a set as a body has room for, and none waits there twice (profile: each
-- process has one call under way, and there are at most 32).
abbrev pub waits_in : Body → ℕ → Bool
waits_in body pid = list_any (λ w. nat_eq pid w.pid) (waiters_of body)

-- A call of this process can be served on the body, also where it may have to wait. A removal always can.
abbrev pub admits : Body → Waiting → Bool
admits body who =
    is_removal who.call || (nat_lt (length (waiters_of body)) max_waiters && not (waits_in body who.pid))

-- A withdrawal takes out the waiter with this process and this ticket, and nothing else (System Interfaces 2.4: a
-- signal interrupts a call that waits).

abbrev pub has_waiter : Body → ℕ → ℕ → Bool
has_waiter body pid ticket = list_any (is_waiter pid ticket) (waiters_of body)

abbrev pub without_caller : {T : Type 0} → ℕ → ℕ → Awaited T → Awaited T
without_caller pid ticket object =
    record object { waiters = filter (λ w. not (is_waiter pid ticket w)) object.waiters }

abbrev pub body_without : ℕ → ℕ → Body → Body
body_without pid ticket (AQueue queue) = AQueue (without_caller pid ticket queue)
body_without pid ticket (ASet set) = ASet (without_caller pid ticket set)
body_without pid ticket body = body

-- what a withdrawal comes to: the deed isn't held; it is held without this waiter; or the waiter is taken out
pub data Withdrawn : Type 0 where
  Leaves : (body : Body) → Withdrawn
  NotThere : Withdrawn
  NotHeld : Withdrawn

abbrev pub withdraw_in : ℕ → ℕ → Option Body → Withdrawn
withdraw_in pid ticket None = NotHeld
withdraw_in pid ticket (Some body) =
    if has_waiter body pid ticket then Leaves (body_without pid ticket body) else NotThere

abbrev pub withdraw : Deeds → Name → ℕ → ℕ → Withdrawn
withdraw deeds name pid ticket = withdraw_in pid ticket (get_named deeds name)

-- ---- signals that interrupt a wait

-- the call sends a signal that strikes the process with this row
abbrev pub signal_strikes : Row → Call → Bool
signal_strikes row (calls.Kill target (Is g)) = strikes row.signals g
signal_strikes row call = false

-- the end of a child strikes its parent with this row, where that doesn't ignore its children
abbrev pub child_strikes : Row → Bool
child_strikes row = not (ignores_children row) && strikes row.signals Chld
