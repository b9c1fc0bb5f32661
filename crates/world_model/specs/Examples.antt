-- Worked examples, computed by the checker: a script, events, and the journal of the run.
use Rattle.std.specs.Prelude.{◌≡◌, ℕ, pos, true, false, List, [], ◌∷◌, Some, None, refl, codes}
use Rattle.pico_base.specs.declared.call.Call.TheVariants as calls
use Rattle.pico_base.specs.declared.reply.Errno.TheVariants.{Einval, Enoent, Enomsg, Esrch}
use Rattle.pico_base.specs.declared.reply.Reply.TheVariants.{Num, Child, Message, Ended, Fail}
use Rattle.pico_base.specs.declared.reply.Ending.TheVariants.{Exited}
use Rattle.pico_base.specs.declared.signal.SigArg.TheVariants.{Zero}
use Rattle.pico_base.specs.declared.script.Script.{Script}
use Rattle.pico_base.specs.declared.script.Event.{Event}
use Rattle.pico_base.specs.declared.script.Event.TheVariants.{Run, Take}
use Rattle.pico_base.specs.declared.numbers.Name.TheVariants.{Msg}
use Rattle.rpc_frame.specs.declared.frame.Frame.{Frame}
use Rattle.rpc_frame.specs.declared.frame.Frame.TheVariants as frames
use Rattle.kernel_model.specs.Queue.{empty_queue}
use Rattle.waiting_model.specs.Waiters.{unawaited}
use Rattle.node_model.specs.Bodies.{Body, AQueue, Removed}
use Rattle.node_model.specs.Directory.{place_name}
use Rattle.world_model.specs.Node.{Leader, Node, first_node, opening_leader}
use Rattle.world_model.specs.Keys.{bind}
use Rattle.world_model.specs.Step.{step_to, with_directory, with_leader}
use Rattle.world_model.specs.Turn.{may_come}
use Rattle.world_model.specs.World.{opening_world}
use Rattle.world_model.specs.Example.{line, block, script, entries_after, journal_of, at_rest_journal}
use Rattle.node_model.specs.Spelling.{pack, read_deed, read_body, body_bytes, row_bytes, read_process, read_row, read_signals, read_family, read_queue, read_set}
use Rattle.node_model.specs.Entries.{entry_by}
use Rattle.signal_state.specs.Spelling.{signal_bytes}
use Rattle.fork_wait.specs.Spelling.{family_bytes}
use Rattle.fork_wait.specs.Reading.{family_at, numbers_at, all_ended_at, ended_at}
use Rattle.body_fields.specs.Fields.{byte_upto, number_upto}
use Rattle.frame_bytes.specs.Readers.{many}
use Rattle.frame_bytes.specs.Fields.{positive_at, count_at, signed_at, node_at, flag_at, text_at}
use Rattle.frame_bytes.specs.Calls.{asked_call_at, step_at, steps_at}
use Rattle.frame_bytes.specs.Frames.{asked_at}
use Rattle.waiter_fields.specs.Waiters.{head_at, waiter_at, waiters_at}
use Rattle.sysv_msg.specs.Reading.{class_at, short_at, message_at, messages_at, call_at as queue_call_at, state_at as queue_state_at, settled_at, fields_at as queue_fields_at, queue_at}
use Rattle.sysv_sem.specs.Reading.{semaphore_at, row_at, waiter_at as set_waiter_at, waiters_at as set_waiters_at, fields_at as set_fields_at, set_at}

-- a queue at node 1, and a child that asks for it there
abbrev pub both_find_nothing : Script
both_find_nothing = script (
    block (codes "main") (
    line (Some 1776) 1 None (calls.MsgGet None false false)
    ∷ line None 1 (Some 1776) (calls.MsgRcv 0 (pos 0) 8 false true)
    ∷ line None 1 None (calls.Fork 2)
    ∷ [])
    ∷ block (codes "child") (
    line None 1 (Some 1776) (calls.MsgRcv 0 (pos 0) 8 false true)
    ∷ [])
    ∷ [])

abbrev pub both_find_nothing_events : List Event
both_find_nothing_events =
    Run 1 ∷ Run 1 ∷ Run 1 ∷ Take 2 1 ∷ Run 1 ∷ Run 2 ∷ Take 1 2 ∷ Take 2 1 ∷ Run 2 ∷ Take 1 2 ∷ Take 2 1 ∷
    Take 1 2 ∷ []

pub both_find_nothing_journal : at_rest_journal (opening_world both_find_nothing) both_find_nothing_events ≡ Some (
    entry_by 1 1 (calls.MsgGet None false false) (Num 1)
    ∷ entry_by 1 1 (calls.MsgRcv 1 (pos 0) 8 false true) (Fail Enomsg)
    ∷ entry_by 1 1 (calls.Fork 2) (Num 2)
    ∷ entry_by 1 1 (calls.Exit 0) Ended
    ∷ entry_by 1 2 (calls.MsgRcv 1 (pos 0) 8 false true) (Fail Enomsg)
    ∷ entry_by 1 2 (calls.Exit 0) Ended
    ∷ [])
unfolding may_come read_deed read_body body_bytes row_bytes read_process read_row read_signals
    read_family read_queue read_set signal_bytes family_bytes family_at numbers_at all_ended_at ended_at
    byte_upto number_upto many positive_at count_at signed_at node_at flag_at text_at step_at steps_at asked_call_at
    asked_at head_at waiter_at waiters_at class_at short_at message_at messages_at queue_call_at queue_state_at
    settled_at queue_fields_at queue_at semaphore_at row_at set_waiter_at set_waiters_at set_fields_at set_at
both_find_nothing_journal = refl

-- the fourth receive in a row by one node moves the queue there
abbrev pub queue_moves : Script
queue_moves = script (
    block (codes "main") (
    line (Some 1776) 1 None (calls.MsgGet None false false)
    ∷ line None 1 (Some 1776) (calls.MsgSnd 0 (pos 1) (codes "a") true)
    ∷ line None 1 (Some 1776) (calls.MsgSnd 0 (pos 1) (codes "b") true)
    ∷ line None 1 (Some 1776) (calls.MsgSnd 0 (pos 1) (codes "c") true)
    ∷ line None 1 (Some 1776) (calls.MsgSnd 0 (pos 1) (codes "d") true)
    ∷ line None 1 (Some 1776) (calls.MsgSnd 0 (pos 1) (codes "e") true)
    ∷ line None 1 None (calls.Fork 2)
    ∷ [])
    ∷ block (codes "child") (
    line None 1 (Some 1776) (calls.MsgRcv 0 (pos 0) 8 false true)
    ∷ line None 1 (Some 1776) (calls.MsgRcv 0 (pos 0) 8 false true)
    ∷ line None 1 (Some 1776) (calls.MsgRcv 0 (pos 0) 8 false true)
    ∷ line None 1 (Some 1776) (calls.MsgRcv 0 (pos 0) 8 false true)
    ∷ line None 1 (Some 1776) (calls.MsgRcv 0 (pos 0) 8 false true)
    ∷ [])
    ∷ [])

abbrev pub queue_moves_events : List Event
queue_moves_events =
    Run 1 ∷ Run 1 ∷ Run 1 ∷ Run 1 ∷ Run 1 ∷ Run 1 ∷ Run 1 ∷ Take 2 1 ∷ Run 1 ∷ Run 2 ∷ Take 1 2 ∷ Take 2 1 ∷
    Run 2 ∷ Take 1 2 ∷ Take 2 1 ∷ Run 2 ∷ Take 1 2 ∷ Take 2 1 ∷ Run 2 ∷ Take 1 2 ∷ Take 2 1 ∷ Take 2 1 ∷ Run 2 ∷
    Run 2 ∷ Take 1 2 ∷ Take 2 1 ∷ Take 1 2 ∷ Take 1 2 ∷ []

pub queue_moves_journal : at_rest_journal (opening_world queue_moves) queue_moves_events ≡ Some (
    entry_by 1 1 (calls.MsgGet None false false) (Num 1)
    ∷ entry_by 1 1 (calls.MsgSnd 1 (pos 1) (codes "a") true) (Num 0)
    ∷ entry_by 1 1 (calls.MsgSnd 1 (pos 1) (codes "b") true) (Num 0)
    ∷ entry_by 1 1 (calls.MsgSnd 1 (pos 1) (codes "c") true) (Num 0)
    ∷ entry_by 1 1 (calls.MsgSnd 1 (pos 1) (codes "d") true) (Num 0)
    ∷ entry_by 1 1 (calls.MsgSnd 1 (pos 1) (codes "e") true) (Num 0)
    ∷ entry_by 1 1 (calls.Fork 2) (Num 2)
    ∷ entry_by 1 1 (calls.Exit 0) Ended
    ∷ entry_by 1 2 (calls.MsgRcv 1 (pos 0) 8 false true) (Message (pos 1) (codes "a"))
    ∷ entry_by 1 2 (calls.MsgRcv 1 (pos 0) 8 false true) (Message (pos 1) (codes "b"))
    ∷ entry_by 1 2 (calls.MsgRcv 1 (pos 0) 8 false true) (Message (pos 1) (codes "c"))
    ∷ entry_by 1 2 (calls.MsgRcv 1 (pos 0) 8 false true) (Message (pos 1) (codes "d"))
    ∷ entry_by 2 2 (calls.MsgRcv 1 (pos 0) 8 false true) (Message (pos 1) (codes "e"))
    ∷ entry_by 1 2 (calls.Exit 0) Ended
    ∷ [])
unfolding may_come read_deed read_body body_bytes row_bytes read_process read_row read_signals
    read_family read_queue read_set signal_bytes family_bytes family_at numbers_at all_ended_at ended_at
    byte_upto number_upto many positive_at count_at signed_at node_at flag_at text_at step_at steps_at asked_call_at
    asked_at head_at waiter_at waiters_at class_at short_at message_at messages_at queue_call_at queue_state_at
    settled_at queue_fields_at queue_at semaphore_at row_at set_waiter_at set_waiters_at set_fields_at set_at
queue_moves_journal = refl

-- the owner of a queue leaves while a send to it is held
abbrev pub owner_exits : Script
owner_exits = script (
    block (codes "main") (
    line None 1 None (calls.Fork 2)
    ∷ [])
    ∷ block (codes "a") (
    line (Some 1776) 1 None (calls.MsgGet None false false)
    ∷ line None 1 None (calls.Fork 3)
    ∷ [])
    ∷ block (codes "b") (
    line None 1 (Some 1776) (calls.MsgSnd 0 (pos 1) (codes "x") true)
    ∷ [])
    ∷ [])

abbrev pub owner_exits_events : List Event
owner_exits_events =
    Run 1 ∷ Take 2 1 ∷ Run 2 ∷ Take 1 2 ∷ Take 2 1 ∷ Run 2 ∷ Take 1 2 ∷ Take 1 2 ∷ Take 2 1 ∷ Take 3 2 ∷ Run 2 ∷
    Take 1 2 ∷ Take 1 2 ∷ Run 3 ∷ Take 1 3 ∷ Take 2 1 ∷ Take 1 2 ∷ Take 1 2 ∷ Take 3 1 ∷ Run 3 ∷ Take 1 3 ∷
    Take 3 1 ∷ Take 1 3 ∷ Run 1 ∷ []

pub owner_exits_journal : at_rest_journal (opening_world owner_exits) owner_exits_events ≡ Some (
    entry_by 1 1 (calls.Fork 2) (Num 2)
    ∷ entry_by 2 2 (calls.MsgGet None false false) (Num 1)
    ∷ entry_by 2 2 (calls.Fork 3) (Num 9)
    ∷ entry_by 1 9 (calls.MsgSnd 1 (pos 1) (codes "x") true) (Num 0)
    ∷ entry_by 1 2 (calls.Exit 0) Ended
    ∷ entry_by 1 9 (calls.Exit 0) Ended
    ∷ entry_by 1 1 (calls.Exit 0) Ended
    ∷ [])
unfolding may_come read_deed read_body body_bytes row_bytes read_process read_row read_signals
    read_family read_queue read_set signal_bytes family_bytes family_at numbers_at all_ended_at ended_at
    byte_upto number_upto many positive_at count_at signed_at node_at flag_at text_at step_at steps_at asked_call_at
    asked_at head_at waiter_at waiters_at class_at short_at message_at messages_at queue_call_at queue_state_at
    settled_at queue_fields_at queue_at semaphore_at row_at set_waiter_at set_waiters_at set_fields_at set_at
owner_exits_journal = refl

-- a queue is removed while it moves, and its key is bound anew
abbrev pub removal_during_a_move : Script
removal_during_a_move = script (
    block (codes "main") (
    line (Some 1776) 1 None (calls.MsgGet (Some 7) true false)
    ∷ line None 1 (Some 1776) (calls.MsgSnd 0 (pos 1) (codes "x") true)
    ∷ line None 1 (Some 1776) (calls.MsgSnd 0 (pos 1) (codes "x") true)
    ∷ line None 1 (Some 1776) (calls.MsgSnd 0 (pos 1) (codes "x") true)
    ∷ line None 1 (Some 1776) (calls.MsgSnd 0 (pos 1) (codes "x") true)
    ∷ line None 1 None (calls.Fork 2)
    ∷ line None 1 None (calls.Fork 3)
    ∷ [])
    ∷ block (codes "a") (
    line None 1 (Some 1776) (calls.MsgRcv 0 (pos 0) 8 false true)
    ∷ line None 1 (Some 1776) (calls.MsgRcv 0 (pos 0) 8 false true)
    ∷ line None 1 (Some 1776) (calls.MsgRcv 0 (pos 0) 8 false true)
    ∷ line None 1 (Some 1776) (calls.MsgRcv 0 (pos 0) 8 false true)
    ∷ [])
    ∷ block (codes "b") (
    line None 1 (Some 1776) (calls.MsgRmid 0)
    ∷ line None 1 None (calls.MsgGet (Some 7) true false)
    ∷ [])
    ∷ [])

abbrev pub removal_during_a_move_events : List Event
removal_during_a_move_events =
    Run 1 ∷ Run 1 ∷ Run 1 ∷ Run 1 ∷ Run 1 ∷ Run 1 ∷ Run 1 ∷ Take 2 1 ∷ Take 3 1 ∷ Run 2 ∷ Take 1 2 ∷ Take 2 1 ∷
    Run 2 ∷ Take 1 2 ∷ Take 2 1 ∷ Run 2 ∷ Take 1 2 ∷ Take 2 1 ∷ Run 2 ∷ Take 1 2 ∷ Take 2 1 ∷ Run 3 ∷ Take 1 3 ∷
    Take 2 1 ∷ Take 2 1 ∷ Take 1 2 ∷ Take 3 1 ∷ Run 3 ∷ Take 1 3 ∷ []

pub removal_during_a_move_journal : journal_of (opening_world removal_during_a_move) removal_during_a_move_events
    ≡ Some (
    entry_by 1 1 (calls.MsgGet (Some 7) true false) (Num 1)
    ∷ entry_by 1 1 (calls.MsgSnd 1 (pos 1) (codes "x") true) (Num 0)
    ∷ entry_by 1 1 (calls.MsgSnd 1 (pos 1) (codes "x") true) (Num 0)
    ∷ entry_by 1 1 (calls.MsgSnd 1 (pos 1) (codes "x") true) (Num 0)
    ∷ entry_by 1 1 (calls.MsgSnd 1 (pos 1) (codes "x") true) (Num 0)
    ∷ entry_by 1 1 (calls.Fork 2) (Num 2)
    ∷ entry_by 1 1 (calls.Fork 3) (Num 3)
    ∷ entry_by 1 2 (calls.MsgRcv 1 (pos 0) 8 false true) (Message (pos 1) (codes "x"))
    ∷ entry_by 1 2 (calls.MsgRcv 1 (pos 0) 8 false true) (Message (pos 1) (codes "x"))
    ∷ entry_by 1 2 (calls.MsgRcv 1 (pos 0) 8 false true) (Message (pos 1) (codes "x"))
    ∷ entry_by 1 2 (calls.MsgRcv 1 (pos 0) 8 false true) (Message (pos 1) (codes "x"))
    ∷ entry_by 1 3 (calls.MsgRmid 1) (Num 0)
    ∷ entry_by 1 3 (calls.MsgGet (Some 7) true false) (Num 2)
    ∷ [])
unfolding may_come read_deed read_body body_bytes row_bytes read_process read_row read_signals
    read_family read_queue read_set signal_bytes family_bytes family_at numbers_at all_ended_at ended_at
    byte_upto number_upto many positive_at count_at signed_at node_at flag_at text_at step_at steps_at asked_call_at
    asked_at head_at waiter_at waiters_at class_at short_at message_at messages_at queue_call_at queue_state_at
    settled_at queue_fields_at queue_at semaphore_at row_at set_waiter_at set_waiters_at set_fields_at set_at
removal_during_a_move_journal = refl

-- the owner that a cache names has given the queue away
abbrev pub cache_is_stale : Script
cache_is_stale = script (
    block (codes "main") (
    line (Some 1776) 1 None (calls.MsgGet None false false)
    ∷ line None 1 (Some 1776) (calls.MsgSnd 0 (pos 1) (codes "x") true)
    ∷ line None 1 (Some 1776) (calls.MsgSnd 0 (pos 1) (codes "x") true)
    ∷ line None 1 (Some 1776) (calls.MsgSnd 0 (pos 1) (codes "x") true)
    ∷ line None 1 (Some 1776) (calls.MsgSnd 0 (pos 1) (codes "x") true)
    ∷ line None 1 None (calls.Fork 2)
    ∷ line None 1 None (calls.Fork 3)
    ∷ [])
    ∷ block (codes "a") (
    line None 1 (Some 1776) (calls.MsgRcv 0 (pos 0) 8 false true)
    ∷ line None 1 (Some 1776) (calls.MsgRcv 0 (pos 0) 8 false true)
    ∷ line None 1 (Some 1776) (calls.MsgRcv 0 (pos 0) 8 false true)
    ∷ line None 1 (Some 1776) (calls.MsgRcv 0 (pos 0) 8 false true)
    ∷ [])
    ∷ block (codes "b") (
    line None 1 (Some 1776) (calls.MsgSnd 0 (pos 1) (codes "y") true)
    ∷ line None 1 (Some 1776) (calls.MsgSnd 0 (pos 1) (codes "y") true)
    ∷ [])
    ∷ [])

abbrev pub cache_is_stale_events : List Event
cache_is_stale_events =
    Run 1 ∷ Run 1 ∷ Run 1 ∷ Run 1 ∷ Run 1 ∷ Run 1 ∷ Run 1 ∷ Take 2 1 ∷ Take 3 1 ∷ Run 3 ∷ Take 1 3 ∷ Take 3 1 ∷
    Run 2 ∷ Take 1 2 ∷ Take 2 1 ∷ Run 2 ∷ Take 1 2 ∷ Take 2 1 ∷ Run 2 ∷ Take 1 2 ∷ Take 2 1 ∷ Run 2 ∷ Take 1 2 ∷
    Take 2 1 ∷ Run 3 ∷ Take 1 3 ∷ Take 3 1 ∷ Take 1 3 ∷ Take 2 1 ∷ Take 2 1 ∷ Take 3 2 ∷ []

pub cache_is_stale_journal : journal_of (opening_world cache_is_stale) cache_is_stale_events ≡ Some (
    entry_by 1 1 (calls.MsgGet None false false) (Num 1)
    ∷ entry_by 1 1 (calls.MsgSnd 1 (pos 1) (codes "x") true) (Num 0)
    ∷ entry_by 1 1 (calls.MsgSnd 1 (pos 1) (codes "x") true) (Num 0)
    ∷ entry_by 1 1 (calls.MsgSnd 1 (pos 1) (codes "x") true) (Num 0)
    ∷ entry_by 1 1 (calls.MsgSnd 1 (pos 1) (codes "x") true) (Num 0)
    ∷ entry_by 1 1 (calls.Fork 2) (Num 2)
    ∷ entry_by 1 1 (calls.Fork 3) (Num 3)
    ∷ entry_by 1 3 (calls.MsgSnd 1 (pos 1) (codes "y") true) (Num 0)
    ∷ entry_by 1 2 (calls.MsgRcv 1 (pos 0) 8 false true) (Message (pos 1) (codes "x"))
    ∷ entry_by 1 2 (calls.MsgRcv 1 (pos 0) 8 false true) (Message (pos 1) (codes "x"))
    ∷ entry_by 1 2 (calls.MsgRcv 1 (pos 0) 8 false true) (Message (pos 1) (codes "x"))
    ∷ entry_by 1 2 (calls.MsgRcv 1 (pos 0) 8 false true) (Message (pos 1) (codes "x"))
    ∷ entry_by 2 3 (calls.MsgSnd 1 (pos 1) (codes "y") true) (Num 0)
    ∷ [])
unfolding may_come read_deed read_body body_bytes row_bytes read_process read_row read_signals
    read_family read_queue read_set signal_bytes family_bytes family_at numbers_at all_ended_at ended_at
    byte_upto number_upto many positive_at count_at signed_at node_at flag_at text_at step_at steps_at asked_call_at
    asked_at head_at waiter_at waiters_at class_at short_at message_at messages_at queue_call_at queue_state_at
    settled_at queue_fields_at queue_at semaphore_at row_at set_waiter_at set_waiters_at set_fields_at set_at
cache_is_stale_journal = refl

-- a signal to a child whose place the leader does not know yet, and one to a number that is nobody's
abbrev pub new_numbers : Script
new_numbers = script (
    block (codes "main") (
    line None 1 None (calls.Fork 2)
    ∷ line None 1 None (calls.Kill 9 Zero)
    ∷ line None 1 None (calls.Kill 10 Zero)
    ∷ [])
    ∷ block (codes "child") (
    line None 1 None (calls.Fork 3)
    ∷ [])
    ∷ block (codes "grand") (
    [])
    ∷ [])

abbrev pub new_numbers_events : List Event
new_numbers_events =
    Run 1 ∷ Take 2 1 ∷ Run 2 ∷ Take 1 2 ∷ Take 2 1 ∷ Run 1 ∷ Take 2 1 ∷ Take 1 2 ∷ Take 1 2 ∷ Take 3 2 ∷ Take 3 1 ∷
    Take 1 3 ∷ Run 1 ∷ Take 2 1 ∷ Take 1 2 ∷ []

pub new_numbers_journal : journal_of (opening_world new_numbers) new_numbers_events ≡ Some (
    entry_by 1 1 (calls.Fork 2) (Num 2)
    ∷ entry_by 2 2 (calls.Fork 3) (Num 9)
    ∷ entry_by 3 1 (calls.Kill 9 Zero) (Num 0)
    ∷ entry_by 2 1 (calls.Kill 10 Zero) (Fail Esrch)
    ∷ [])
unfolding may_come read_deed read_body body_bytes row_bytes read_process read_row read_signals
    read_family read_queue read_set signal_bytes family_bytes family_at numbers_at all_ended_at ended_at
    byte_upto number_upto many positive_at count_at signed_at node_at flag_at text_at step_at steps_at asked_call_at
    asked_at head_at waiter_at waiters_at class_at short_at message_at messages_at queue_call_at queue_state_at
    settled_at queue_fields_at queue_at semaphore_at row_at set_waiter_at set_waiters_at set_fields_at set_at
new_numbers_journal = refl

-- ends of grandchildren, before and after that of their parent
abbrev pub grandchildren : Script
grandchildren = script (
    block (codes "main") (
    line None 1 None (calls.Fork 2)
    ∷ line None 1 None (calls.Kill 10 Zero)
    ∷ line None 1 None (calls.Kill 9 Zero)
    ∷ line None 1 None (calls.WaitPid None true)
    ∷ [])
    ∷ block (codes "a") (
    line None 1 None (calls.Fork 3)
    ∷ line None 1 None (calls.Fork 4)
    ∷ [])
    ∷ block (codes "b") (
    [])
    ∷ block (codes "c") (
    [])
    ∷ [])

abbrev pub grandchildren_events : List Event
grandchildren_events =
    Run 1 ∷ Take 2 1 ∷ Run 2 ∷ Take 1 2 ∷ Take 2 1 ∷ Run 2 ∷ Take 3 2 ∷ Take 4 2 ∷ Run 4 ∷ Take 1 4 ∷ Take 4 1 ∷
    Take 1 4 ∷ Take 2 1 ∷ Run 2 ∷ Take 1 2 ∷ Take 1 2 ∷ Take 1 2 ∷ Take 2 1 ∷ Take 1 2 ∷ Run 1 ∷ Run 3 ∷ Take 1 3 ∷
    Take 3 1 ∷ Take 1 3 ∷ Run 1 ∷ Run 1 ∷ []

pub grandchildren_journal : journal_of (opening_world grandchildren) grandchildren_events ≡ Some (
    entry_by 1 1 (calls.Fork 2) (Num 2)
    ∷ entry_by 2 2 (calls.Fork 3) (Num 9)
    ∷ entry_by 2 2 (calls.Fork 4) (Num 10)
    ∷ entry_by 2 10 (calls.Exit 0) Ended
    ∷ entry_by 1 2 (calls.Exit 0) Ended
    ∷ entry_by 1 1 (calls.Kill 10 Zero) (Fail Esrch)
    ∷ entry_by 1 9 (calls.Exit 0) Ended
    ∷ entry_by 1 1 (calls.Kill 9 Zero) (Fail Esrch)
    ∷ entry_by 1 1 (calls.WaitPid None true) (Child 2 (Exited 0))
    ∷ [])
unfolding may_come read_deed read_body body_bytes row_bytes read_process read_row read_signals
    read_family read_queue read_set signal_bytes family_bytes family_at numbers_at all_ended_at ended_at
    byte_upto number_upto many positive_at count_at signed_at node_at flag_at text_at step_at steps_at asked_call_at
    asked_at head_at waiter_at waiters_at class_at short_at message_at messages_at queue_call_at queue_state_at
    settled_at queue_fields_at queue_at semaphore_at row_at set_waiter_at set_waiters_at set_fields_at set_at
grandchildren_journal = refl

-- a node uses its lease up and gets the next one
abbrev pub nine_forks : Script
nine_forks = script (
    block (codes "main") (
    line None 1 None (calls.Fork 2)
    ∷ [])
    ∷ block (codes "a") (
    line None 1 None (calls.Fork 3)
    ∷ line None 1 None (calls.Fork 4)
    ∷ line None 1 None (calls.Fork 5)
    ∷ line None 1 None (calls.Fork 6)
    ∷ line None 1 None (calls.Fork 7)
    ∷ line None 1 None (calls.Fork 8)
    ∷ line None 1 None (calls.Fork 9)
    ∷ line None 1 None (calls.Fork 10)
    ∷ line None 1 None (calls.Fork 11)
    ∷ [])
    ∷ block (codes "b") (
    [])
    ∷ block (codes "c") (
    [])
    ∷ block (codes "d") (
    [])
    ∷ block (codes "e") (
    [])
    ∷ block (codes "f") (
    [])
    ∷ block (codes "g") (
    [])
    ∷ block (codes "h") (
    [])
    ∷ block (codes "i") (
    [])
    ∷ block (codes "j") (
    [])
    ∷ [])

abbrev pub nine_forks_events : List Event
nine_forks_events =
    Run 1 ∷ Take 2 1 ∷ Run 1 ∷ Run 2 ∷ Take 1 2 ∷ Take 2 1 ∷ Take 3 2 ∷ Take 1 2 ∷ Run 2 ∷ Run 3 ∷ Take 4 2 ∷
    Take 1 2 ∷ Run 2 ∷ Run 4 ∷ Take 5 2 ∷ Take 1 2 ∷ Run 2 ∷ Run 5 ∷ Take 6 2 ∷ Take 1 2 ∷ Run 2 ∷ Run 6 ∷
    Take 7 2 ∷ Take 1 2 ∷ Run 2 ∷ Run 7 ∷ Take 8 2 ∷ Take 1 2 ∷ Run 2 ∷ Run 8 ∷ Take 9 2 ∷ Take 1 2 ∷ Run 2 ∷
    Run 9 ∷ Take 10 2 ∷ Take 1 2 ∷ Run 2 ∷ Run 10 ∷ Take 1 2 ∷ Take 2 1 ∷ Take 11 2 ∷ Take 1 2 ∷ Run 2 ∷ Run 11 ∷
    Take 1 2 ∷ Take 2 1 ∷ Take 1 2 ∷ Take 1 3 ∷ Take 3 1 ∷ Take 1 3 ∷ Take 1 4 ∷ Take 4 1 ∷ Take 1 4 ∷ Take 1 5 ∷
    Take 5 1 ∷ Take 1 5 ∷ Take 1 6 ∷ Take 6 1 ∷ Take 1 6 ∷ Take 1 7 ∷ Take 7 1 ∷ Take 1 7 ∷ Take 1 8 ∷ Take 8 1 ∷
    Take 1 8 ∷ Take 1 9 ∷ Take 9 1 ∷ Take 1 9 ∷ Take 1 10 ∷ Take 10 1 ∷ Take 1 10 ∷ Take 1 11 ∷ Take 11 1 ∷
    Take 1 11 ∷ []

pub nine_forks_journal : at_rest_journal (opening_world nine_forks) nine_forks_events ≡ Some (
    entry_by 1 1 (calls.Fork 2) (Num 2)
    ∷ entry_by 1 1 (calls.Exit 0) Ended
    ∷ entry_by 2 2 (calls.Fork 3) (Num 9)
    ∷ entry_by 2 2 (calls.Fork 4) (Num 10)
    ∷ entry_by 2 2 (calls.Fork 5) (Num 11)
    ∷ entry_by 2 2 (calls.Fork 6) (Num 12)
    ∷ entry_by 2 2 (calls.Fork 7) (Num 13)
    ∷ entry_by 2 2 (calls.Fork 8) (Num 14)
    ∷ entry_by 2 2 (calls.Fork 9) (Num 15)
    ∷ entry_by 2 2 (calls.Fork 10) (Num 16)
    ∷ entry_by 2 2 (calls.Fork 11) (Num 17)
    ∷ entry_by 1 2 (calls.Exit 0) Ended
    ∷ entry_by 1 9 (calls.Exit 0) Ended
    ∷ entry_by 1 10 (calls.Exit 0) Ended
    ∷ entry_by 1 11 (calls.Exit 0) Ended
    ∷ entry_by 1 12 (calls.Exit 0) Ended
    ∷ entry_by 1 13 (calls.Exit 0) Ended
    ∷ entry_by 1 14 (calls.Exit 0) Ended
    ∷ entry_by 1 15 (calls.Exit 0) Ended
    ∷ entry_by 1 16 (calls.Exit 0) Ended
    ∷ entry_by 1 17 (calls.Exit 0) Ended
    ∷ [])
unfolding may_come read_deed read_body body_bytes row_bytes read_process read_row read_signals
    read_family read_queue read_set signal_bytes family_bytes family_at numbers_at all_ended_at ended_at
    byte_upto number_upto many positive_at count_at signed_at node_at flag_at text_at step_at steps_at asked_call_at
    asked_at head_at waiter_at waiters_at class_at short_at message_at messages_at queue_call_at queue_state_at
    settled_at queue_fields_at queue_at semaphore_at row_at set_waiter_at set_waiters_at set_fields_at set_at
nine_forks_journal = refl

-- a child that asks for its number
abbrev pub asks_its_number : Script
asks_its_number = script (
    block (codes "main") (
    line None 1 None (calls.Fork 2)
    ∷ [])
    ∷ block (codes "child") (
    line None 1 None calls.GetPid
    ∷ [])
    ∷ [])

abbrev pub asks_its_number_events : List Event
asks_its_number_events =
    Run 1 ∷ Run 1 ∷ Take 2 1 ∷ Run 2 ∷ Run 2 ∷ Take 1 2 ∷ Take 2 1 ∷ Take 1 2 ∷ []

pub asks_its_number_journal : at_rest_journal (opening_world asks_its_number) asks_its_number_events ≡ Some (
    entry_by 1 1 (calls.Fork 2) (Num 2)
    ∷ entry_by 1 1 (calls.Exit 0) Ended
    ∷ entry_by 2 2 calls.GetPid (Num 2)
    ∷ entry_by 1 2 (calls.Exit 0) Ended
    ∷ [])
unfolding may_come read_deed read_body body_bytes row_bytes read_process read_row read_signals
    read_family read_queue read_set signal_bytes family_bytes family_at numbers_at all_ended_at ended_at
    byte_upto number_upto many positive_at count_at signed_at node_at flag_at text_at step_at steps_at asked_call_at
    asked_at head_at waiter_at waiters_at class_at short_at message_at messages_at queue_call_at queue_state_at
    settled_at queue_fields_at queue_at semaphore_at row_at set_waiter_at set_waiters_at set_fields_at set_at
asks_its_number_journal = refl

-- the owner of a set exits, and node 1 has the set
abbrev pub set_goes_home : Script
set_goes_home = script (
    block (codes "main") (
    line None 1 None (calls.Fork 2)
    ∷ line None 1 None (calls.SemGetVal 1 1)
    ∷ [])
    ∷ block (codes "a") (
    line (Some 1998) 1 None (calls.SemGet None 2 false false)
    ∷ line None 1 (Some 1998) (calls.SemSetVal 0 1 5)
    ∷ [])
    ∷ [])

abbrev pub set_goes_home_events : List Event
set_goes_home_events =
    Run 1 ∷ Take 2 1 ∷ Run 2 ∷ Take 1 2 ∷ Take 2 1 ∷ Run 2 ∷ Run 2 ∷ Take 1 2 ∷ Take 1 2 ∷ Take 2 1 ∷ Take 1 2 ∷
    Take 1 2 ∷ Run 1 ∷ []

pub set_goes_home_journal : journal_of (opening_world set_goes_home) set_goes_home_events ≡ Some (
    entry_by 1 1 (calls.Fork 2) (Num 2)
    ∷ entry_by 2 2 (calls.SemGet None 2 false false) (Num 1)
    ∷ entry_by 2 2 (calls.SemSetVal 1 1 5) (Num 0)
    ∷ entry_by 1 2 (calls.Exit 0) Ended
    ∷ entry_by 1 1 (calls.SemGetVal 1 1) (Num 5)
    ∷ [])
unfolding may_come read_deed read_body body_bytes row_bytes read_process read_row read_signals
    read_family read_queue read_set signal_bytes family_bytes family_at numbers_at all_ended_at ended_at
    byte_upto number_upto many positive_at count_at signed_at node_at flag_at text_at step_at steps_at asked_call_at
    asked_at head_at waiter_at waiters_at class_at short_at message_at messages_at queue_call_at queue_state_at
    settled_at queue_fields_at queue_at semaphore_at row_at set_waiter_at set_waiters_at set_fields_at set_at
set_goes_home_journal = refl

-- Key 7 leads to queue 1, which node 2 owns by now. Node 3 removes it, and the deed comes back with this body.
abbrev pub moved_queue : Node
moved_queue =
    let l : Leader = record opening_leader { queue_keys = bind [] 7 1 0 }
    in with_directory (with_leader first_node l) (place_name l.directory (Msg 1) 2)

abbrev pub removes_and_gets : Body → List (ℕ × Frame)
removes_and_gets body =
    (3, frames.Ask 1 3 (calls.MsgRmid 1)) ∷ (2, frames.GiveBack (pack (Msg 1) body))
    ∷ (3, frames.Ask 2 3 (calls.MsgGet (Some 7) false false)) ∷ []

-- no key leads to what is removed
pub removed_queue_entries :
    entries_after both_find_nothing (step_to moved_queue) (removes_and_gets (AQueue (unawaited empty_queue))) ≡ Some (
    entry_by 1 3 (calls.MsgRmid 1) (Num 0)
    ∷ entry_by 1 3 (calls.MsgGet (Some 7) false false) (Fail Enoent)
    ∷ [])
unfolding may_come read_deed read_body body_bytes row_bytes read_process read_row read_signals
    read_family read_queue read_set signal_bytes family_bytes family_at numbers_at all_ended_at ended_at
    byte_upto number_upto many positive_at count_at signed_at node_at flag_at text_at step_at steps_at asked_call_at
    asked_at head_at waiter_at waiters_at class_at short_at message_at messages_at queue_call_at queue_state_at
    settled_at queue_fields_at queue_at semaphore_at row_at set_waiter_at set_waiters_at set_fields_at set_at
removed_queue_entries = refl

-- and a removal that is refused, which no run has, leaves the key
pub refused_removal_entries : entries_after both_find_nothing (step_to moved_queue) (removes_and_gets Removed)
    ≡ Some (
    entry_by 1 3 (calls.MsgRmid 1) (Fail Einval)
    ∷ entry_by 1 3 (calls.MsgGet (Some 7) false false) (Num 1)
    ∷ [])
unfolding may_come read_deed read_body body_bytes row_bytes read_process read_row read_signals
    read_family read_queue read_set signal_bytes family_bytes family_at numbers_at all_ended_at ended_at
    byte_upto number_upto many positive_at count_at signed_at node_at flag_at text_at step_at steps_at asked_call_at
    asked_at head_at waiter_at waiters_at class_at short_at message_at messages_at queue_call_at queue_state_at
    settled_at queue_fields_at queue_at semaphore_at row_at set_waiter_at set_waiters_at set_fields_at set_at
refused_removal_entries = refl
