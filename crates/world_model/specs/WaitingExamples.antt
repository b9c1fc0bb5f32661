-- Worked examples of callers that wait, computed by the checker: a script, events, and the journal of the run, or what
-- is on its way then.
use Rattle.std.specs.Prelude.{◌≡◌, ℕ, pos, negsuc, Bool, true, false, List, [], ◌∷◌, Option, Some, None, is_some, refl, codes}
use Rattle.std.specs.Option.{option_map}
use Rattle.pico_base.specs.declared.call.Call.TheVariants as calls
use Rattle.pico_base.specs.declared.numbers.Kind.TheVariants as kinds
use Rattle.pico_base.specs.declared.numbers.Name.{Name}
use Rattle.pico_base.specs.declared.numbers.Name.TheVariants.{Proc, Msg, Sem}
use Rattle.pico_base.specs.declared.reply.Errno.TheVariants.{Eintr}
use Rattle.pico_base.specs.declared.reply.Reply.TheVariants.{Num, Child, Message, Ended, Fail}
use Rattle.pico_base.specs.declared.reply.Ending.TheVariants.{Exited}
use Rattle.pico_base.specs.declared.signal.Sig.TheVariants.{Kill, Usr1}
use Rattle.pico_base.specs.declared.signal.SigArg.TheVariants.{Is as IsSig}
use Rattle.pico_base.specs.declared.signal.Act.TheVariants.{Catch}
use Rattle.pico_base.specs.declared.script.Script.{Script}
use Rattle.pico_base.specs.declared.script.Event.{Event}
use Rattle.pico_base.specs.declared.script.Event.TheVariants.{Run, Take}
use Rattle.rpc_frame.specs.declared.asked.Asked.{Asked}
use Rattle.rpc_frame.specs.declared.frame.Frame.{Frame}
use Rattle.rpc_frame.specs.declared.frame.Frame.TheVariants as frames
use Rattle.body_fields.specs.Fields.{byte_upto, number_upto}
use Rattle.signal_state.specs.Spelling.{signal_bytes}
use Rattle.fork_wait.specs.Spelling.{family_bytes}
use Rattle.fork_wait.specs.Reading.{family_at, numbers_at, all_ended_at, ended_at}
use Rattle.frame_bytes.specs.Readers.{many}
use Rattle.frame_bytes.specs.Fields.{positive_at, count_at, signed_at, node_at, flag_at, text_at}
use Rattle.frame_bytes.specs.Calls.{asked_call_at, step_at, steps_at}
use Rattle.frame_bytes.specs.Frames.{asked_at}
use Rattle.waiter_fields.specs.Waiters.{head_at, waiter_at, waiters_at}
use Rattle.sysv_msg.specs.Reading.{class_at, short_at, message_at, messages_at, call_at as queue_call_at, state_at as queue_state_at, settled_at, fields_at as queue_fields_at, queue_at}
use Rattle.sysv_sem.specs.Reading.{semaphore_at, row_at, waiter_at as set_waiter_at, waiters_at as set_waiters_at, fields_at as set_fields_at, set_at}
use Rattle.kernel_model.specs.Queue.{empty_queue}
use Rattle.kernel_model.specs.Row.{new_row}
use Rattle.kernel_model.specs.SemaphoreSet.{set_of}
use Rattle.waiting_model.specs.declared.callers.Waiting.{Waiting}
use Rattle.waiting_model.specs.Waiters.{awaited}
use Rattle.node_model.specs.declared.held.Held.{Held}
use Rattle.node_model.specs.declared.held.Held.TheVariants.{Request}
use Rattle.node_model.specs.Directory.{held_for}
use Rattle.node_model.specs.Bodies.{AQueue, ASet, Living as LivingBody}
use Rattle.node_model.specs.Entries.{entry_by, entry_with}
use Rattle.node_model.specs.Spelling.{pack, read_deed, read_body, body_bytes, row_bytes, read_process, read_row, read_signals, read_family, read_queue, read_set}
use Rattle.world_model.specs.Node.{Node, first_node, unborn_node}
use Rattle.world_model.specs.Step.{Step}
use Rattle.world_model.specs.Lives.{be_born}
use Rattle.world_model.specs.Turn.{may_come, take_frame}
use Rattle.world_model.specs.World.{World, opening_world, node_at as node_in, stream}
use Rattle.world_model.specs.Example.{line, block, script, after_events, at_rest_journal, journal_of}

-- the frames on their way to a node from a node
abbrev pub frames_on_way : ℕ → ℕ → Option World → Option (List Frame)
frames_on_way to «from» w = option_map (λ (v : World). stream v to «from») w

-- what the leader holds for a name
abbrev pub held_by : Name → Option Node → List Held
held_by name None = []
held_by name (Some n) = held_for n.leader.directory name

abbrev pub held_in : Name → Option World → Option (List Held)
held_in name w = option_map (λ (v : World). held_by name (node_in v 1)) w

-- a call of process 1 that waits for more than is there
abbrev pub waits_in_set : Waiting
waits_in_set =
    record {
      caller = 1;
      ticket = 5;
      pid = 1;
      call = calls.SemOp 1 (record { num = 0; add = negsuc 8; nowait = false }
          ∷ []);
    }

-- nobody sends: the process is parked, and the world is at rest
abbrev pub waits_for_good : Script
waits_for_good = script (
    block (codes "main") (
    line (Some 1776) 1 None (calls.MsgGet None false false)
    ∷ line None 1 (Some 1776) (calls.MsgRcv 0 (pos 0) 8 false false)
    ∷ [])
    ∷ [])

abbrev pub waits_for_good_events : List Event
waits_for_good_events = Run 1 ∷ Run 1 ∷ []

pub waits_for_good_journal : at_rest_journal (opening_world waits_for_good) waits_for_good_events ≡ Some (
    entry_by 1 1 (calls.MsgGet None false false) (Num 1)
    ∷ entry_with 1 1 (calls.MsgRcv 1 (pos 0) 8 false false) (record { own = None; woken = ([]) })
    ∷ [])
unfolding may_come read_deed read_body body_bytes row_bytes read_process read_row read_signals
    read_family read_queue read_set signal_bytes family_bytes family_at numbers_at all_ended_at ended_at
    byte_upto number_upto many positive_at count_at signed_at node_at flag_at text_at step_at steps_at asked_call_at
    asked_at head_at waiter_at waiters_at class_at short_at message_at messages_at queue_call_at queue_state_at
    settled_at queue_fields_at queue_at semaphore_at row_at set_waiter_at set_waiters_at set_fields_at set_at
waits_for_good_journal = refl

-- a send wakes who waits for it, at the owner of the queue
abbrev pub woken_by_a_send : Script
woken_by_a_send = script (
    block (codes "main") (
    line (Some 1776) 1 None (calls.MsgGet None false false)
    ∷ line None 1 None (calls.Fork 2)
    ∷ line None 1 (Some 1776) (calls.MsgRcv 0 (pos 0) 8 false false)
    ∷ [])
    ∷ block (codes "child") (
    line None 1 (Some 1776) (calls.MsgSnd 0 (pos 1) (codes "hi") false)
    ∷ [])
    ∷ [])

abbrev pub woken_by_a_send_events : List Event
woken_by_a_send_events = Run 1 ∷ Run 1 ∷ Take 2 1 ∷ Run 1 ∷ Run 2 ∷ Take 1 2 ∷ Take 2 1 ∷ Run 1 ∷ Run 2 ∷ Take 1 2
    ∷ Take 2 1 ∷ Take 1 2 ∷ []

pub woken_by_a_send_journal : at_rest_journal (opening_world woken_by_a_send) woken_by_a_send_events ≡ Some (
    entry_by 1 1 (calls.MsgGet None false false) (Num 1)
    ∷ entry_by 1 1 (calls.Fork 2) (Num 2)
    ∷ entry_with 1 1 (calls.MsgRcv 1 (pos 0) 8 false false) (record { own = None; woken = ([]) })
    ∷ entry_with 1 2 (calls.MsgSnd 1 (pos 1) (codes "hi") false) (record {
      own = (Some (Num 0));
      woken =
          ((1, (Message (pos 1) (codes "hi"))) ∷ []);
    })
    ∷ entry_by 1 1 (calls.Exit 0) Ended
    ∷ entry_by 1 2 (calls.Exit 0) Ended
    ∷ [])
unfolding may_come read_deed read_body body_bytes row_bytes read_process read_row read_signals
    read_family read_queue read_set signal_bytes family_bytes family_at numbers_at all_ended_at ended_at
    byte_upto number_upto many positive_at count_at signed_at node_at flag_at text_at step_at steps_at asked_call_at
    asked_at head_at waiter_at waiters_at class_at short_at message_at messages_at queue_call_at queue_state_at
    settled_at queue_fields_at queue_at semaphore_at row_at set_waiter_at set_waiters_at set_fields_at set_at
woken_by_a_send_journal = refl

-- an end wakes the parent, which waits at its own node
abbrev pub waits_for_a_child : Script
waits_for_a_child = script (
    block (codes "main") (
    line None 1 None (calls.Fork 2)
    ∷ line None 1 None (calls.WaitPid None false)
    ∷ [])
    ∷ block (codes "child") ([])
    ∷ [])

abbrev pub waits_for_a_child_events : List Event
waits_for_a_child_events = Run 1 ∷ Take 2 1 ∷ Run 1 ∷ Run 2 ∷ Take 1 2 ∷ Take 2 1 ∷ Take 1 2 ∷ Run 1 ∷ []

pub waits_for_a_child_journal : at_rest_journal (opening_world waits_for_a_child) waits_for_a_child_events ≡ Some (
    entry_by 1 1 (calls.Fork 2) (Num 2)
    ∷ entry_with 1 1 (calls.WaitPid None false) (record { own = None; woken = ([]) })
    ∷ entry_with 1 2 (calls.Exit 0) (record { own = (Some Ended); woken = ((1, (Child 2 (Exited 0))) ∷ []) })
    ∷ entry_by 1 1 (calls.Exit 0) Ended
    ∷ [])
unfolding may_come read_deed read_body body_bytes row_bytes read_process read_row read_signals
    read_family read_queue read_set signal_bytes family_bytes family_at numbers_at all_ended_at ended_at
    byte_upto number_upto many positive_at count_at signed_at node_at flag_at text_at step_at steps_at asked_call_at
    asked_at head_at waiter_at waiters_at class_at short_at message_at messages_at queue_call_at queue_state_at
    settled_at queue_fields_at queue_at semaphore_at row_at set_waiter_at set_waiters_at set_fields_at set_at
waits_for_a_child_journal = refl

-- a signal that is caught interrupts the wait: the withdrawal goes over the leader to where the call waits
abbrev pub interrupted_by_a_signal : Script
interrupted_by_a_signal = script (
    block (codes "main") (
    line (Some 1776) 1 None (calls.MsgGet None false false)
    ∷ line (Some 222) 1 None (calls.Fork 2)
    ∷ line None 1 (Some 222) (calls.Kill 0 (IsSig Usr1))
    ∷ [])
    ∷ block (codes "child") (
    line None 1 None (calls.SigAction (IsSig Usr1) Catch)
    ∷ line None 1 (Some 1776) (calls.MsgRcv 0 (pos 0) 8 false false)
    ∷ [])
    ∷ [])

abbrev pub interrupted_by_a_signal_events : List Event
interrupted_by_a_signal_events = Run 1 ∷ Run 1 ∷ Take 2 1 ∷ Run 2 ∷ Run 2 ∷ Take 1 2 ∷ Run 1 ∷ Take 2 1 ∷ Take 1 2
    ∷ Take 1 2 ∷ Take 2 1 ∷ []

pub interrupted_by_a_signal_journal : journal_of
    (opening_world interrupted_by_a_signal) interrupted_by_a_signal_events ≡ Some (
    entry_by 1 1 (calls.MsgGet None false false) (Num 1)
    ∷ entry_by 1 1 (calls.Fork 2) (Num 2)
    ∷ entry_by 2 2 (calls.SigAction (IsSig Usr1) Catch) (Num 0)
    ∷ entry_with 1 2 (calls.MsgRcv 1 (pos 0) 8 false false) (record { own = None; woken = ([]) })
    ∷ entry_by 2 1 (calls.Kill 2 (IsSig Usr1)) (Num 0)
    ∷ entry_by 1 2 (calls.Withdraw (Msg 1)) (Fail Eintr)
    ∷ [])
unfolding may_come read_deed read_body body_bytes row_bytes read_process read_row read_signals
    read_family read_queue read_set signal_bytes family_bytes family_at numbers_at all_ended_at ended_at
    byte_upto number_upto many positive_at count_at signed_at node_at flag_at text_at step_at steps_at asked_call_at
    asked_at head_at waiter_at waiters_at class_at short_at message_at messages_at queue_call_at queue_state_at
    settled_at queue_fields_at queue_at semaphore_at row_at set_waiter_at set_waiters_at set_fields_at set_at
interrupted_by_a_signal_journal = refl

-- and one that ends the process does, too
abbrev pub killed_while_it_waits : Script
killed_while_it_waits = script (
    block (codes "main") (
    line (Some 1776) 1 None (calls.MsgGet None false false)
    ∷ line (Some 222) 1 None (calls.Fork 2)
    ∷ line None 1 (Some 222) (calls.Kill 0 (IsSig Kill))
    ∷ [])
    ∷ block (codes "child") (
    line None 1 None (calls.SigAction (IsSig Usr1) Catch)
    ∷ line None 1 (Some 1776) (calls.MsgRcv 0 (pos 0) 8 false false)
    ∷ [])
    ∷ [])

abbrev pub killed_while_it_waits_events : List Event
killed_while_it_waits_events = Run 1 ∷ Run 1 ∷ Take 2 1 ∷ Run 2 ∷ Run 2 ∷ Take 1 2 ∷ Run 1 ∷ Take 2 1 ∷ Take 1 2
    ∷ Take 1 2 ∷ Take 2 1 ∷ Run 2 ∷ Take 1 2 ∷ Take 2 1 ∷ Take 1 2 ∷ []

pub killed_while_it_waits_journal : journal_of (opening_world killed_while_it_waits) killed_while_it_waits_events
    ≡ Some (
    entry_by 1 1 (calls.MsgGet None false false) (Num 1)
    ∷ entry_by 1 1 (calls.Fork 2) (Num 2)
    ∷ entry_by 2 2 (calls.SigAction (IsSig Usr1) Catch) (Num 0)
    ∷ entry_with 1 2 (calls.MsgRcv 1 (pos 0) 8 false false) (record { own = None; woken = ([]) })
    ∷ entry_by 2 1 (calls.Kill 2 (IsSig Kill)) (Num 0)
    ∷ entry_by 1 2 (calls.Withdraw (Msg 1)) (Fail Eintr)
    ∷ entry_by 1 2 (calls.Killed Kill) Ended
    ∷ [])
unfolding may_come read_deed read_body body_bytes row_bytes read_process read_row read_signals
    read_family read_queue read_set signal_bytes family_bytes family_at numbers_at all_ended_at ended_at
    byte_upto number_upto many positive_at count_at signed_at node_at flag_at text_at step_at steps_at asked_call_at
    asked_at head_at waiter_at waiters_at class_at short_at message_at messages_at queue_call_at queue_state_at
    settled_at queue_fields_at queue_at semaphore_at row_at set_waiter_at set_waiters_at set_fields_at set_at
killed_while_it_waits_journal = refl

-- a withdrawal stands behind its call, on the way to the node that may have given the queue's number out
abbrev pub cancel_behind_a_call : Script
cancel_behind_a_call = script (
    block (codes "main") (
    line None 1 None (calls.Fork 2)
    ∷ line (Some 222) 1 None (calls.Fork 3)
    ∷ line None 1 (Some 222) (calls.Kill 0 (IsSig Kill))
    ∷ [])
    ∷ block (codes "a") (
    line None 1 None (calls.MsgGet None false false)
    ∷ [])
    ∷ block (codes "b") (
    line None 1 None (calls.MsgRcv 2 (pos 0) 8 false false)
    ∷ [])
    ∷ [])

abbrev pub cancel_behind_a_call_events : List Event
cancel_behind_a_call_events = Run 1 ∷ Run 1 ∷ Run 1 ∷ Take 2 1 ∷ Run 2 ∷ Take 1 2 ∷ Take 3 1 ∷ Run 3 ∷ Take 1 3
    ∷ Take 3 1 ∷ Take 1 3 ∷ Take 1 3 ∷ []

pub cancel_behind_a_call_frames : frames_on_way 2 1 (after_events
    (opening_world cancel_behind_a_call) cancel_behind_a_call_events) ≡ Some (
    frames.Lease kinds.Msg 1
    ∷ frames.Forward (record { caller = 3; ticket = 1; pid = 3; call = calls.MsgRcv 2 (pos 0) 8 false false })
    ∷ frames.Cancel (record { caller = 3; ticket = 1; pid = 3; call = calls.Withdraw (Msg 2) })
    ∷ [])
unfolding may_come read_deed read_body body_bytes row_bytes read_process read_row read_signals
    read_family read_queue read_set signal_bytes family_bytes family_at numbers_at all_ended_at ended_at
    byte_upto number_upto many positive_at count_at signed_at node_at flag_at text_at step_at steps_at asked_call_at
    asked_at head_at waiter_at waiters_at class_at short_at message_at messages_at queue_call_at queue_state_at
    settled_at queue_fields_at queue_at semaphore_at row_at set_waiter_at set_waiters_at set_fields_at set_at
cancel_behind_a_call_frames = refl

-- the node that the call was sent to leaves, and nobody has the queue: the withdrawal goes nowhere, and the call
-- doesn't wait there either
abbrev pub cancel_of_nobody : Script
cancel_of_nobody = script (
    block (codes "main") (
    line None 1 None (calls.Fork 2)
    ∷ line (Some 222) 1 None (calls.Fork 3)
    ∷ line None 1 (Some 222) (calls.Kill 0 (IsSig Kill))
    ∷ [])
    ∷ block (codes "a") (
    line None 1 None (calls.MsgGet None false false)
    ∷ [])
    ∷ block (codes "b") (
    line None 1 None (calls.MsgRcv 2 (pos 0) 8 false false)
    ∷ [])
    ∷ [])

abbrev pub cancel_of_nobody_events : List Event
cancel_of_nobody_events = Run 1 ∷ Run 1 ∷ Run 1 ∷ Take 2 1 ∷ Run 2 ∷ Take 1 2 ∷ Take 2 1 ∷ Take 1 2 ∷ Run 2 ∷ Take 3 1
    ∷ Run 3 ∷ Take 1 3 ∷ Take 1 2 ∷ Take 3 1 ∷ Take 1 3 ∷ Take 1 3 ∷ []

pub cancel_of_nobody_frames : frames_on_way 2 1 (after_events
    (opening_world cancel_of_nobody) cancel_of_nobody_events) ≡ Some (
    frames.Forward (record { caller = 3; ticket = 1; pid = 3; call = calls.MsgRcv 2 (pos 0) 8 false false })
    ∷ frames.RecallAll
    ∷ [])
unfolding may_come read_deed read_body body_bytes row_bytes read_process read_row read_signals
    read_family read_queue read_set signal_bytes family_bytes family_at numbers_at all_ended_at ended_at
    byte_upto number_upto many positive_at count_at signed_at node_at flag_at text_at step_at steps_at asked_call_at
    asked_at head_at waiter_at waiters_at class_at short_at message_at messages_at queue_call_at queue_state_at
    settled_at queue_fields_at queue_at semaphore_at row_at set_waiter_at set_waiters_at set_fields_at set_at
cancel_of_nobody_frames = refl

-- node 1's own process is struck, whose call waits at node 2
abbrev pub own_wait_elsewhere : Script
own_wait_elsewhere = script (
    block (codes "main") (
    line None 1 None (calls.Fork 2)
    ∷ line None 1 None (calls.MsgRcv 1 (pos 0) 8 false false)
    ∷ [])
    ∷ block (codes "a") (
    line None 1 None (calls.MsgGet None false false)
    ∷ line None 1 None (calls.Kill 1 (IsSig Kill))
    ∷ [])
    ∷ [])

abbrev pub own_wait_elsewhere_events : List Event
own_wait_elsewhere_events = Run 1 ∷ Take 2 1 ∷ Run 2 ∷ Take 1 2 ∷ Run 1 ∷ Take 2 1 ∷ Take 1 2 ∷ Take 2 1 ∷ Run 2
    ∷ Take 1 2 ∷ []

pub own_wait_elsewhere_frames : frames_on_way 2 1 (after_events
    (opening_world own_wait_elsewhere) own_wait_elsewhere_events) ≡ Some (
    frames.Answer 2 (Num 0)
    ∷ frames.Cancel (record { caller = 1; ticket = 2; pid = 1; call = calls.Withdraw (Msg 1) })
    ∷ [])
unfolding may_come read_deed read_body body_bytes row_bytes read_process read_row read_signals
    read_family read_queue read_set signal_bytes family_bytes family_at numbers_at all_ended_at ended_at
    byte_upto number_upto many positive_at count_at signed_at node_at flag_at text_at step_at steps_at asked_call_at
    asked_at head_at waiter_at waiters_at class_at short_at message_at messages_at queue_call_at queue_state_at
    settled_at queue_fields_at queue_at semaphore_at row_at set_waiter_at set_waiters_at set_fields_at set_at
own_wait_elsewhere_frames = refl

-- who waits travels with the set: node 1's own call waits in a Grant to node 2
abbrev pub waiter_in_a_grant : Script
waiter_in_a_grant = script (
    block (codes "main") (
    line (Some 1998) 1 None (calls.SemGet None 1 false false)
    ∷ line None 1 (Some 1998) (calls.SemSetVal 0 0 8)
    ∷ line None 1 None (calls.Fork 2)
    ∷ line None 1 None (calls.Fork 3)
    ∷ line None 1 (Some 1998) (calls.SemOp 0 (record { num = 0; add = (negsuc 8); nowait = false }
    ∷ []))
    ∷ [])
    ∷ block (codes "a") (
    line None 1 None (calls.SemOp 1 (record { num = 0; add = (negsuc 0); nowait = true }
    ∷ []))
    ∷ line None 1 None (calls.SemOp 1 (record { num = 0; add = (negsuc 0); nowait = true }
    ∷ []))
    ∷ line None 1 None (calls.SemOp 1 (record { num = 0; add = (negsuc 0); nowait = true }
    ∷ []))
    ∷ line None 1 None (calls.SemOp 1 (record { num = 0; add = (negsuc 0); nowait = true }
    ∷ []))
    ∷ [])
    ∷ block (codes "b") (
    line None 1 None (calls.SemOp 1 (record { num = 0; add = (negsuc 0); nowait = true }
    ∷ []))
    ∷ line None 1 None (calls.SemOp 1 (record { num = 0; add = (negsuc 0); nowait = true }
    ∷ []))
    ∷ line None 1 None (calls.SemOp 1 (record { num = 0; add = (negsuc 0); nowait = true }
    ∷ []))
    ∷ line None 1 None (calls.SemOp 1 (record { num = 0; add = (negsuc 0); nowait = true }
    ∷ []))
    ∷ [])
    ∷ [])

abbrev pub waiter_in_a_grant_events : List Event
waiter_in_a_grant_events = Run 1 ∷ Run 1 ∷ Run 1 ∷ Run 1 ∷ Run 1 ∷ Take 2 1 ∷ Run 2 ∷ Take 1 2 ∷ Take 2 1 ∷ Run 2
    ∷ Take 1 2 ∷ Take 2 1 ∷ Run 2 ∷ Take 1 2 ∷ Take 2 1 ∷ Run 2 ∷ Take 1 2 ∷ []

pub waiter_in_a_grant_frames : frames_on_way 2 1 (after_events
    (opening_world waiter_in_a_grant) waiter_in_a_grant_events) ≡ Some (
    frames.Answer 4 (Num 0)
    ∷ frames.Grant (pack (Sem 1) (ASet (awaited (set_of (record { value = 4; last = 2 } ∷ [])) (waits_in_set ∷ []))))
    ∷ [])
unfolding may_come read_deed read_body body_bytes row_bytes read_process read_row read_signals
    read_family read_queue read_set signal_bytes family_bytes family_at numbers_at all_ended_at ended_at
    byte_upto number_upto many positive_at count_at signed_at node_at flag_at text_at step_at steps_at asked_call_at
    asked_at head_at waiter_at waiters_at class_at short_at message_at messages_at queue_call_at queue_state_at
    settled_at queue_fields_at queue_at semaphore_at row_at set_waiter_at set_waiters_at set_fields_at set_at
waiter_in_a_grant_frames = refl

-- both the call and its withdrawal are held while the queue comes home, in order
abbrev pub cancel_is_held : Script
cancel_is_held = script (
    block (codes "main") (
    line None 1 None (calls.Fork 2)
    ∷ line (Some 222) 1 None (calls.Fork 3)
    ∷ line None 1 (Some 222) (calls.Kill 0 (IsSig Kill))
    ∷ [])
    ∷ block (codes "a") (
    line None 1 None (calls.MsgGet None false false)
    ∷ [])
    ∷ block (codes "b") (
    line None 1 None (calls.MsgRcv 1 (pos 0) 8 false false)
    ∷ [])
    ∷ [])

abbrev pub cancel_is_held_events : List Event
cancel_is_held_events = Run 1 ∷ Run 1 ∷ Run 1 ∷ Take 2 1 ∷ Run 2 ∷ Take 1 2 ∷ Take 2 1 ∷ Take 1 2 ∷ Run 2 ∷ Take 1 2
    ∷ Take 3 1 ∷ Run 3 ∷ Take 1 3 ∷ Take 3 1 ∷ Take 1 3 ∷ Take 1 3 ∷ []

pub cancel_is_held_items : held_in (Msg 1) (after_events (opening_world cancel_is_held) cancel_is_held_events) ≡ Some (
    Request (record { caller = 3; ticket = 1; pid = 3; call = calls.MsgRcv 1 (pos 0) 8 false false })
    ∷ Request (record { caller = 3; ticket = 1; pid = 3; call = calls.Withdraw (Msg 1) })
    ∷ [])
unfolding may_come read_deed read_body body_bytes row_bytes read_process read_row read_signals
    read_family read_queue read_set signal_bytes family_bytes family_at numbers_at all_ended_at ended_at
    byte_upto number_upto many positive_at count_at signed_at node_at flag_at text_at step_at steps_at asked_call_at
    asked_at head_at waiter_at waiters_at class_at short_at message_at messages_at queue_call_at queue_state_at
    settled_at queue_fields_at queue_at semaphore_at row_at set_waiter_at set_waiters_at set_fields_at set_at
cancel_is_held_items = refl

-- ---- frames that no run brings

-- node 2, once it is born
abbrev pub born_second : Node
born_second = be_born (unborn_node 2) 1 2 1 [] (LivingBody new_row)

abbrev pub receives_at : ℕ → ℕ → Waiting
receives_at node pid =
    record { caller = node; ticket = 1; pid = pid; call = calls.MsgRcv 1 (pos 0) 8 false false }

abbrev pub granted_with : List Waiting → Option Step
granted_with waiters =
    take_frame woken_by_a_send born_second 1 (frames.Grant (pack (Msg 1) (AQueue (awaited empty_queue waiters))))

abbrev pub is_taken : Option Step → Bool
is_taken s = is_some s

-- a queue comes with those who wait there
waiters_come : is_taken (granted_with (receives_at 1 1 ∷ receives_at 2 2 ∷ [])) ≡ true
unfolding may_come read_deed read_body body_bytes row_bytes read_process read_row read_signals
    read_family read_queue read_set signal_bytes family_bytes family_at numbers_at all_ended_at ended_at
    byte_upto number_upto many positive_at count_at signed_at node_at flag_at text_at step_at steps_at asked_call_at
    asked_at head_at waiter_at waiters_at class_at short_at message_at messages_at queue_call_at queue_state_at
    settled_at queue_fields_at queue_at semaphore_at row_at set_waiter_at set_waiters_at set_fields_at set_at
waiters_come = refl

-- whose nodes are the script's, which has two
no_node_of_the_script : is_taken (granted_with (receives_at 3 1 ∷ [])) ≡ false
unfolding may_come read_deed read_body body_bytes row_bytes read_process read_row read_signals
    read_family read_queue read_set signal_bytes family_bytes family_at numbers_at all_ended_at ended_at
    byte_upto number_upto many positive_at count_at signed_at node_at flag_at text_at step_at steps_at asked_call_at
    asked_at head_at waiter_at waiters_at class_at short_at message_at messages_at queue_call_at queue_state_at
    settled_at queue_fields_at queue_at semaphore_at row_at set_waiter_at set_waiters_at set_fields_at set_at
no_node_of_the_script = refl

-- each of another process
twice_the_same_process : is_taken (granted_with (receives_at 1 1 ∷ receives_at 2 1 ∷ [])) ≡ false
unfolding may_come read_deed read_body body_bytes row_bytes read_process read_row read_signals
    read_family read_queue read_set signal_bytes family_bytes family_at numbers_at all_ended_at ended_at
    byte_upto number_upto many positive_at count_at signed_at node_at flag_at text_at step_at steps_at asked_call_at
    asked_at head_at waiter_at waiters_at class_at short_at message_at messages_at queue_call_at queue_state_at
    settled_at queue_fields_at queue_at semaphore_at row_at set_waiter_at set_waiters_at set_fields_at set_at
twice_the_same_process = refl

-- in a call that has to wait
not_a_call_that_waits : is_taken (granted_with (record (receives_at 1 1) {
  call =
      calls.MsgRcv 1 (pos 0) 8 false true;
} ∷ [])) ≡ false
unfolding may_come read_deed read_body body_bytes row_bytes read_process read_row read_signals
    read_family read_queue read_set signal_bytes family_bytes family_at numbers_at all_ended_at ended_at
    byte_upto number_upto many positive_at count_at signed_at node_at flag_at text_at step_at steps_at asked_call_at
    asked_at head_at waiter_at waiters_at class_at short_at message_at messages_at queue_call_at queue_state_at
    settled_at queue_fields_at queue_at semaphore_at row_at set_waiter_at set_waiters_at set_fields_at set_at
not_a_call_that_waits = refl

-- a withdrawal finds nobody where none waits, and one of a number that nobody here has to give goes to the leader
abbrev pub cancels : ℕ → Asked
cancels ticket = record { caller = 1; ticket = ticket; pid = 1; call = calls.Withdraw (Msg 1) }

abbrev pub sends_in : Option Step → Option (List (ℕ × Frame))
sends_in s = option_map (λ (t : Step). t.sends) s

goes_to_the_leader : sends_in (take_frame woken_by_a_send born_second 1 (frames.Cancel (cancels 3)))
    ≡ Some ((1, frames.Cancel (cancels 3)) ∷ [])
unfolding may_come read_deed read_body body_bytes row_bytes read_process read_row read_signals
    read_family read_queue read_set signal_bytes family_bytes family_at numbers_at all_ended_at ended_at
    byte_upto number_upto many positive_at count_at signed_at node_at flag_at text_at step_at steps_at asked_call_at
    asked_at head_at waiter_at waiters_at class_at short_at message_at messages_at queue_call_at queue_state_at
    settled_at queue_fields_at queue_at semaphore_at row_at set_waiter_at set_waiters_at set_fields_at set_at
goes_to_the_leader = refl

not_before_its_birth : is_taken (take_frame woken_by_a_send (unborn_node 2) 1 (frames.Cancel (cancels 3))) ≡ false
unfolding may_come read_deed read_body body_bytes row_bytes read_process read_row read_signals
    read_family read_queue read_set signal_bytes family_bytes family_at numbers_at all_ended_at ended_at
    byte_upto number_upto many positive_at count_at signed_at node_at flag_at text_at step_at steps_at asked_call_at
    asked_at head_at waiter_at waiters_at class_at short_at message_at messages_at queue_call_at queue_state_at
    settled_at queue_fields_at queue_at semaphore_at row_at set_waiter_at set_waiters_at set_fields_at set_at
not_before_its_birth = refl

nobody_at_the_leader : sends_in (take_frame woken_by_a_send first_node 2 (frames.Cancel (cancels 3))) ≡ Some []
unfolding may_come read_deed read_body body_bytes row_bytes read_process read_row read_signals
    read_family read_queue read_set signal_bytes family_bytes family_at numbers_at all_ended_at ended_at
    byte_upto number_upto many positive_at count_at signed_at node_at flag_at text_at step_at steps_at asked_call_at
    asked_at head_at waiter_at waiters_at class_at short_at message_at messages_at queue_call_at queue_state_at
    settled_at queue_fields_at queue_at semaphore_at row_at set_waiter_at set_waiters_at set_fields_at set_at
nobody_at_the_leader = refl

-- no frame has the withdrawal of a wait for children, nor one under no ticket
of_no_object : is_taken (take_frame woken_by_a_send first_node 2 (frames.Cancel (record (cancels 3) {
  call =
      calls.Withdraw (Proc 1);
}))) ≡ false
unfolding may_come
of_no_object = refl

under_no_ticket : is_taken (take_frame woken_by_a_send first_node 2 (frames.Cancel (cancels 0))) ≡ false
unfolding may_come
under_no_ticket = refl
