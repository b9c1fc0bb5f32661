-- Worked examples of calls that have their reply at once on a name at which nobody waits, computed by the checker.
use Rattle.std.specs.Prelude.{◌≡◌, ℕ, pos, negsuc, Bool, true, false, List, [], ◌∷◌, Some, None, refl, codes}
use Rattle.std.specs.List.{list_any}
use Rattle.pico_base.specs.declared.call.Call.{Call}
use Rattle.pico_base.specs.declared.call.Call.TheVariants as calls
use Rattle.pico_base.specs.declared.numbers.Name.{Name}
use Rattle.pico_base.specs.declared.numbers.Name.TheVariants.{Proc, Msg, Sem}
use Rattle.pico_base.specs.declared.reply.Errno.TheVariants.{Eagain, Enomsg}
use Rattle.pico_base.specs.declared.reply.Reply.{Reply}
use Rattle.pico_base.specs.declared.reply.Reply.TheVariants.{Num, Message, Fail}
use Rattle.kernel_model.specs.Examples.{step}
use Rattle.kernel_model.specs.Queue.{Queue, empty_queue}
use Rattle.kernel_model.specs.SemaphoreSet.{SemaphoreSet, set_of}
use Rattle.kernel_model.specs.Waiting.{may_wait}
use Rattle.waiting_model.specs.Queue.{try_queue}
use Rattle.waiting_model.specs.SemaphoreSet.{try_set}
use Rattle.waiting_model.specs.Waiters.{unawaited, waiter}
use Rattle.node_model.specs.Kinds.{none_named, put_named}
use Rattle.node_model.specs.Serving as definition
use Rattle.node_model.specs.Serving.{name_for}
use Rattle.node_serve.specs.declared.body.Body.{Body}
use Rattle.node_serve.specs.declared.body.Body.TheVariants as bodies
use Rattle.node_serve.specs.Bodies.{body_of}
use Rattle.node_serve.specs.Prompt.{AnswersOr}

-- ---- what is held

-- queue 1 with one message, which process 2 sent, or which process 3 has got
abbrev pub sent_by_2 : Queue
sent_by_2 = record empty_queue { messages = record { class = pos 1; text = codes "hi" } ∷ []; last_sender = 2 }

abbrev pub got_by_3 : Queue
got_by_3 = record empty_queue { last_sender = 2; last_receiver = 3 }

-- set 1 of one semaphore with this value, on which this process operated last
abbrev pub set_with : ℕ → ℕ → SemaphoreSet
set_with value last = set_of (record { value = value; last = last } ∷ [])

abbrev pub queue : Queue → Body
queue q = bodies.Queue (unawaited q)

abbrev pub set : SemaphoreSet → Body
set s = bodies.Set (unawaited s)

abbrev pub sends : Call
sends = calls.MsgSnd 1 (pos 1) (codes "hi") true

-- a receive of queue 1, with IPC_NOWAIT or without
abbrev pub receives : Bool → Call
receives nowait = calls.MsgRcv 1 (pos 0) 8 false nowait

-- a semop on the first semaphore of set 1 that adds 1, and one that takes 1 away
abbrev pub gives_back : Call
gives_back = calls.SemOp 1 (step 0 (pos 1) false ∷ [])

abbrev pub takes : Bool → Call
takes nowait = calls.SemOp 1 (step 0 (negsuc 0) nowait ∷ [])

-- ---- calls that go on

-- Process `pid` has this reply to its call on the one name that is held, whose body becomes this one. It reads or
-- doesn't.
abbrev pub Has : Name → Body → ℕ → Call → Body → Reply → Bool → Type 0
Has name old pid call new reply reads =
    AnswersOr (put_named none_named name old) name (waiter pid call) (put_named none_named name new)
    (Some (record { reply = reply; reads = reads }))

-- what the definition says is served then
abbrev pub serving : Name → Body → Reply → List ℕ → definition.Served
serving name new reply readers =
    record { changes = (name, body_of new) ∷ []; own = Some reply; wakes = []; readers = readers }

sends_a_message : Has (Msg 1) (queue empty_queue) 2 sends (queue sent_by_2) (Num 0) false
sends_a_message = record {
  served = serving (Msg 1) (queue sent_by_2) (Num 0) [];
  admitted = refl;
  is = refl;
  after = refl;
  replies = refl;
  woken = refl;
  read = refl;
}

-- who gets a message has read, at its node, which is number 0 for a waiter of the kernel's
receives_a_message : Has (Msg 1) (queue sent_by_2) 3 (receives false) (queue got_by_3)
    (Message (pos 1) (codes "hi")) true
receives_a_message = record {
  served = serving (Msg 1) (queue got_by_3) (Message (pos 1) (codes "hi")) (0 ∷ []);
  admitted = refl;
  is = refl;
  after = refl;
  replies = refl;
  woken = refl;
  read = refl;
}

-- with IPC_NOWAIT a receive that finds nothing is refused, and so needn't wait
receives_none : Has (Msg 1) (queue empty_queue) 3 (receives true) (queue empty_queue) (Fail Enomsg) false
receives_none = record {
  served = serving (Msg 1) (queue empty_queue) (Fail Enomsg) [];
  admitted = refl;
  is = refl;
  after = refl;
  replies = refl;
  woken = refl;
  read = refl;
}

-- a semop that adds reads nothing, and one that takes away reads
adds_to_a_semaphore : Has (Sem 1) (set (set_with 0 0)) 2 gives_back (set (set_with 1 2)) (Num 0) false
adds_to_a_semaphore = record {
  served = serving (Sem 1) (set (set_with 1 2)) (Num 0) [];
  admitted = refl;
  is = refl;
  after = refl;
  replies = refl;
  woken = refl;
  read = refl;
}

takes_from_a_semaphore : Has (Sem 1) (set (set_with 1 2)) 3 (takes true) (set (set_with 0 3)) (Num 0) true
takes_from_a_semaphore = record {
  served = serving (Sem 1) (set (set_with 0 3)) (Num 0) (0 ∷ []);
  admitted = refl;
  is = refl;
  after = refl;
  replies = refl;
  woken = refl;
  read = refl;
}

takes_from_none : Has (Sem 1) (set (set_with 0 2)) 3 (takes true) (set (set_with 0 2)) (Fail Eagain) false
takes_from_none = record {
  served = serving (Sem 1) (set (set_with 0 2)) (Fail Eagain) [];
  admitted = refl;
  is = refl;
  after = refl;
  replies = refl;
  woken = refl;
  read = refl;
}

-- ---- calls that are left to others

-- nothing has changed then
abbrev pub IsLeft : Name → Body → ℕ → Call → Type 0
IsLeft name body pid call =
    AnswersOr (put_named none_named name body) name (waiter pid call) (put_named none_named name body) None

receive_is_left : IsLeft (Msg 1) (queue empty_queue) 3 (receives false)
receive_is_left = refl

-- a receive that finds nothing, and a semop that finds 0, come to nothing here: they have to wait
receive_has_to_wait : try_queue empty_queue 3 (receives false) ≡ None
receive_has_to_wait = refl

semop_has_to_wait : try_set (set_with 0 2) 3 (takes false) ≡ None
semop_has_to_wait = refl

-- a semop that may wait is left, also where it could go on
may_have_to_wait : list_any may_wait (step 0 (negsuc 0) false ∷ []) ≡ true
may_have_to_wait = refl

-- a call on another queue's number, or on its caller's own row, isn't one on this name
another_queue : name_for 2 (calls.MsgStat 2) ≡ Some (Msg 2)
another_queue = refl

own_row : name_for 2 calls.GetPid ≡ Some (Proc 2)
own_row = refl
