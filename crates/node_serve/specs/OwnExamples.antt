-- Worked examples of calls of a process on its own row, computed by the checker.
use Rattle.std.specs.Prelude.{◌≡◌, true, false, [], ◌∷◌, Option, Some, None, refl}
use Rattle.pico_base.specs.declared.call.Call.{Call}
use Rattle.pico_base.specs.declared.call.Call.TheVariants as calls
use Rattle.pico_base.specs.declared.numbers.Name.TheVariants.{Proc}
use Rattle.pico_base.specs.declared.reply.Ending.TheVariants.{Exited}
use Rattle.pico_base.specs.declared.reply.Errno.TheVariants.{Einval, Echild}
use Rattle.pico_base.specs.declared.reply.Reply.{Reply}
use Rattle.pico_base.specs.declared.reply.Reply.TheVariants.{Num, Child, Bits, Fail}
use Rattle.pico_base.specs.declared.signal.Act.TheVariants.{Catch}
use Rattle.pico_base.specs.declared.signal.How.TheVariants.{Block, Unblock}
use Rattle.pico_base.specs.declared.signal.Sig.TheVariants.{Kill, Usr1}
use Rattle.pico_base.specs.declared.signal.SigArg.TheVariants.{Is, Bad}
use Rattle.kernel_model.specs.Examples.{only_usr1}
use Rattle.kernel_model.specs.Row.{Family, ended_child, no_family}
use Rattle.kernel_model.specs.Signals.{Signals, new_signals, raise, with_action, with_mask}
use Rattle.waiting_model.specs.Waiters.{waiter}
use Rattle.node_model.specs.Bodies as model
use Rattle.node_model.specs.Kinds.{Named, none_named, put_named}
use Rattle.node_serve.specs.declared.body.Body.{Body}
use Rattle.node_serve.specs.declared.body.Body.TheVariants.{Living, Ended, Gone}
use Rattle.node_serve.specs.declared.body.Row.{Row}
use Rattle.node_serve.specs.Bodies.{body_of}
use Rattle.node_serve.specs.Own.{AnswersOwnOr, own_reply}

-- ---- what is held

-- a process that catches USR1, holds it off, and has it pending
abbrev pub held_off : Signals
held_off = raise (with_mask (with_action new_signals Usr1 Catch) Block only_usr1) Usr1

-- child 3 has exited with 7, and child 9 lives
abbrev pub two_children : Family
two_children = record { living = 9 ∷ []; ended = ended_child 3 (Exited 7) ∷ [] }

abbrev pub row_with : Signals → Family → Row
row_with signals family = record { signals = signals; family = family }

abbrev pub parent : Body
parent = Living (row_with held_off two_children)

abbrev pub holding : Body → Named Body
holding body = put_named none_named (Proc 2) body

-- the reply that process 2 is due, by what is held of it
abbrev pub reply_at : Body → Call → Option Reply
reply_at body call = own_reply (holding body) (waiter 2 call)

-- ---- each kind of call

says_its_number : reply_at parent calls.GetPid ≡ Some (Num 2)
unfolding own_reply Rattle.node_serve.specs.Own.reply_on_body
says_its_number = refl

-- kill on itself, by a signal's number and by one that is no signal's
signals_itself : reply_at parent (calls.Kill 2 (Is Usr1)) ≡ Some (Num 0)
unfolding own_reply Rattle.node_serve.specs.Own.reply_on_body
signals_itself = refl

no_such_signal : reply_at parent (calls.Kill 2 Bad) ≡ Some (Fail Einval)
unfolding own_reply Rattle.node_serve.specs.Own.reply_on_body
no_such_signal = refl

takes_an_action : reply_at parent (calls.SigAction (Is Usr1) Catch) ≡ Some (Num 0)
unfolding own_reply Rattle.node_serve.specs.Own.reply_on_body
takes_an_action = refl

kill_takes_none : reply_at parent (calls.SigAction (Is Kill) Catch) ≡ Some (Fail Einval)
unfolding own_reply Rattle.node_serve.specs.Own.reply_on_body
kill_takes_none = refl

-- the mask as it was
says_the_old_mask : reply_at parent (calls.SigProcMask Unblock only_usr1) ≡ Some (Bits only_usr1)
unfolding own_reply Rattle.node_serve.specs.Own.reply_on_body
says_the_old_mask = refl

has_it_pending : reply_at parent calls.SigPending ≡ Some (Bits only_usr1)
unfolding own_reply Rattle.node_serve.specs.Own.reply_on_body
has_it_pending = refl

-- a pending signal isn't caught as yet
has_caught_none : reply_at parent (calls.Handled Usr1) ≡ Some (Num 0)
unfolding own_reply Rattle.node_serve.specs.Own.reply_on_body
has_caught_none = refl

-- ---- waitpid

finds_an_ended_child : reply_at parent (calls.WaitPid None false) ≡ Some (Child 3 (Exited 7))
unfolding own_reply Rattle.node_serve.specs.Own.reply_on_body
finds_an_ended_child = refl

-- the one that lives hasn't ended: 0 with WNOHANG, and else the caller has to wait
finds_a_living_one : reply_at parent (calls.WaitPid (Some 9) true) ≡ Some (Num 0)
unfolding own_reply Rattle.node_serve.specs.Own.reply_on_body
finds_a_living_one = refl

has_to_wait : reply_at parent (calls.WaitPid (Some 9) false) ≡ None
unfolding own_reply Rattle.node_serve.specs.Own.reply_on_body
has_to_wait = refl

has_no_such_child : reply_at parent (calls.WaitPid (Some 4) false) ≡ Some (Fail Echild)
unfolding own_reply Rattle.node_serve.specs.Own.reply_on_body
has_no_such_child = refl

-- ---- calls that have no reply here

-- the process is gone, has ended, isn't held, or is among its own children
is_gone : reply_at Gone calls.GetPid ≡ None
unfolding own_reply Rattle.node_serve.specs.Own.reply_on_body
is_gone = refl

has_ended : reply_at (Ended (Exited 0)) calls.GetPid ≡ None
unfolding own_reply Rattle.node_serve.specs.Own.reply_on_body
has_ended = refl

is_elsewhere : own_reply (holding parent) (waiter 5 calls.GetPid) ≡ None
unfolding own_reply
is_elsewhere = refl

abbrev pub own_child : Body
own_child = Living (row_with new_signals (record { living = 2 ∷ []; ended = [] }))

is_its_own_child : reply_at own_child calls.GetPid ≡ None
unfolding own_reply Rattle.node_serve.specs.Own.reply_on_body
is_its_own_child = refl

-- a call on another's row, on a queue, and one that ends its process
signals_another : reply_at parent (calls.Kill 9 (Is Usr1)) ≡ None
unfolding own_reply
signals_another = refl

looks_at_a_queue : reply_at parent (calls.MsgStat 1) ≡ None
unfolding own_reply
looks_at_a_queue = refl

exits : reply_at parent (calls.Exit 0) ≡ None
unfolding own_reply
exits = refl

-- ---- what they leave

-- nothing has changed where the caller has to wait
stays : AnswersOwnOr (holding parent) (waiter 2 (calls.WaitPid (Some 9) false)) (holding parent) None
stays = refl

-- the child that was found isn't waited for any more, and is gone
abbrev pub childless : Body
childless = Living (row_with held_off (record two_children { ended = [] }))

found_child_is_gone : AnswersOwnOr (holding parent) (waiter 2 (calls.WaitPid None false))
    (put_named (holding childless) (Proc 3) Gone) (Some (Child 3 (Exited 7)))
found_child_is_gone = record {
  served = record {
    changes = (Proc 2, body_of childless) ∷ (Proc 3, model.Gone) ∷ [];
    own = Some (Child 3 (Exited 7));
    wakes = [];
    readers = [];
  };
  admitted = refl;
  is = refl;
  after = refl;
  replies = refl;
  woken = refl;
  read = refl;
}

-- a signal that a process sends itself and doesn't hold off is caught
abbrev pub with_handled : Signals
with_handled = raise (with_action new_signals Usr1 Catch) Usr1

signal_is_caught : AnswersOwnOr (holding (Living (row_with (with_action new_signals Usr1 Catch) no_family)))
    (waiter 2 (calls.Kill 2 (Is Usr1))) (holding (Living (row_with with_handled no_family))) (Some (Num 0))
signal_is_caught = record {
  served = record {
    changes = (Proc 2, body_of (Living (row_with with_handled no_family))) ∷ [];
    own = Some (Num 0);
    wakes = [];
    readers = [];
  };
  admitted = refl;
  is = refl;
  after = refl;
  replies = refl;
  woken = refl;
  read = refl;
}
