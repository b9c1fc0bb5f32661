-- Worked examples, computed by the checker: what is where in a world that some events lead to.
use Rattle.std.specs.Prelude.{◌≡◌, ℕ, List, [], ◌∷◌, Option, Some, None, refl}
use Rattle.pico_base.specs.declared.numbers.Kind.{Kind}
use Rattle.pico_base.specs.declared.numbers.Kind.TheVariants as kinds
use Rattle.pico_base.specs.declared.script.Script.{Script}
use Rattle.pico_base.specs.declared.script.Event.{Event}
use Rattle.pico_base.specs.declared.script.Event.TheVariants.{Run, Take}
use Rattle.world_model.specs.Example.{after_events}
use Rattle.world_model.specs.Examples.{both_find_nothing, owner_exits}
use Rattle.world_model.specs.Node.{Node}
use Rattle.world_model.specs.Turn.{may_come}
use Rattle.world_model.specs.WaitingExamples.{interrupted_by_a_signal, waits_for_a_child, waits_for_good, waits_for_good_events}
use Rattle.world_model.specs.World.{World, node_at, opening_world}
use Rattle.projection_laws.specs.Projection.{answers_to, cancels_of, places_with, still_to_take, waiting_places}
use Rattle.node_model.specs.Spelling.{read_deed, read_body, body_bytes, row_bytes, read_process, read_row, read_signals, read_family, read_queue, read_set}
use Rattle.signal_state.specs.Spelling.{signal_bytes}
use Rattle.fork_wait.specs.Spelling.{family_bytes}
use Rattle.fork_wait.specs.Reading.{family_at, numbers_at, all_ended_at, ended_at}
use Rattle.body_fields.specs.Fields.{byte_upto, number_upto}
use Rattle.frame_bytes.specs.Readers.{many}
use Rattle.frame_bytes.specs.Fields.{positive_at, count_at, signed_at, node_at as node_number_at, flag_at, text_at}
use Rattle.frame_bytes.specs.Calls.{asked_call_at, step_at, steps_at}
use Rattle.frame_bytes.specs.Frames.{asked_at}
use Rattle.waiter_fields.specs.Waiters.{head_at, waiter_at, waiters_at}
use Rattle.sysv_msg.specs.Reading.{class_at, short_at, message_at, messages_at, call_at as queue_call_at, state_at as queue_state_at, settled_at, fields_at as queue_fields_at, queue_at}
use Rattle.sysv_sem.specs.Reading.{semaphore_at, row_at, waiter_at as set_waiter_at, waiters_at as set_waiters_at, fields_at as set_fields_at, set_at}

-- in how many places the call of a node is, and how many replies are on their way to it
pub record Counts : Type 0 where
  pub places : ℕ
  pub answers : ℕ

abbrev pub counts : ℕ → ℕ → Counts
counts places answers = record { places = places; answers = answers }

abbrev pub counts_at : World → ℕ → Option Node → Option Counts
counts_at w p None = None
counts_at w p (Some n) = Some (counts (places_with w p n) (answers_to w p))

abbrev pub counts_in : ℕ → Option World → Option Counts
counts_in p None = None
counts_in p (Some w) = counts_at w p (node_at w p)

abbrev pub counts_after : Script → List Event → ℕ → Option Counts
counts_after script events p = counts_in p (after_events (opening_world script) events)

-- among how many waiters it is, and how many withdrawals of it there are
pub record Waits : Type 0 where
  pub waiting : ℕ
  pub withdrawals : ℕ

abbrev pub waits : ℕ → ℕ → Waits
waits waiting withdrawals = record { waiting = waiting; withdrawals = withdrawals }

abbrev pub waits_at : World → ℕ → Option Node → Option Waits
waits_at w p None = None
waits_at w p (Some n) = Some (waits (waiting_places w p) (cancels_of w n))

abbrev pub waits_in : ℕ → Option World → Option Waits
waits_in p None = None
waits_in p (Some w) = waits_at w p (node_at w p)

abbrev pub waits_after : Script → List Event → ℕ → Option Waits
waits_after script events p = waits_in p (after_events (opening_world script) events)

-- and how often a number is still to be taken
abbrev pub free_in : Kind → ℕ → Option World → Option ℕ
free_in kind number None = None
free_in kind number (Some w) = Some (still_to_take w kind number)

abbrev pub free_after : Script → List Event → Kind → ℕ → Option ℕ
free_after script events kind number = free_in kind number (after_events (opening_world script) events)

-- ---- a call that the leader carries out: asked, answered, and over

abbrev pub asked_events : List Event
asked_events = Run 1 ∷ Run 1 ∷ Run 1 ∷ Take 2 1 ∷ Run 1 ∷ Run 2 ∷ []

abbrev pub answered_events : List Event
answered_events = Run 1 ∷ Run 1 ∷ Run 1 ∷ Take 2 1 ∷ Run 1 ∷ Run 2 ∷ Take 1 2 ∷ []

pub is_asked : counts_after both_find_nothing asked_events 2 ≡ Some (counts 1 0)
unfolding may_come read_deed read_body body_bytes row_bytes read_process read_row read_signals read_family read_queue
    read_set signal_bytes family_bytes family_at numbers_at all_ended_at ended_at byte_upto number_upto many
    positive_at count_at signed_at node_number_at flag_at text_at step_at steps_at asked_call_at asked_at head_at
    waiter_at waiters_at class_at short_at message_at messages_at queue_call_at queue_state_at settled_at
    queue_fields_at queue_at semaphore_at row_at set_waiter_at set_waiters_at set_fields_at set_at
is_asked = refl

pub is_answered : counts_after both_find_nothing answered_events 2 ≡ Some (counts 0 1)
unfolding may_come read_deed read_body body_bytes row_bytes read_process read_row read_signals read_family read_queue
    read_set signal_bytes family_bytes family_at numbers_at all_ended_at ended_at byte_upto number_upto many
    positive_at count_at signed_at node_number_at flag_at text_at step_at steps_at asked_call_at asked_at head_at
    waiter_at waiters_at class_at short_at message_at messages_at queue_call_at queue_state_at settled_at
    queue_fields_at queue_at semaphore_at row_at set_waiter_at set_waiters_at set_fields_at set_at
is_answered = refl

-- ---- a call that is held, and the end of a process

-- the owner of a queue leaves: a send to it is held, and its exit is in its parcel, which is on its way
abbrev pub held_events : List Event
held_events =
    Run 1 ∷ Take 2 1 ∷ Run 2 ∷ Take 1 2 ∷ Take 2 1 ∷ Run 2 ∷ Take 1 2 ∷ Take 1 2 ∷ Take 2 1 ∷ Take 3 2 ∷ Run 2 ∷
    Take 1 2 ∷ Take 1 2 ∷ Run 3 ∷ Take 1 3 ∷ Take 2 1 ∷ []

pub is_held : counts_after owner_exits held_events 3 ≡ Some (counts 1 0)
unfolding may_come read_deed read_body body_bytes row_bytes read_process read_row read_signals read_family read_queue
    read_set signal_bytes family_bytes family_at numbers_at all_ended_at ended_at byte_upto number_upto many
    positive_at count_at signed_at node_number_at flag_at text_at step_at steps_at asked_call_at asked_at head_at
    waiter_at waiters_at class_at short_at message_at messages_at queue_call_at queue_state_at settled_at
    queue_fields_at queue_at semaphore_at row_at set_waiter_at set_waiters_at set_fields_at set_at
is_held = refl

pub is_in_parcel : counts_after owner_exits held_events 2 ≡ Some (counts 1 0)
unfolding may_come read_deed read_body body_bytes row_bytes read_process read_row read_signals read_family read_queue
    read_set signal_bytes family_bytes family_at numbers_at all_ended_at ended_at byte_upto number_upto many
    positive_at count_at signed_at node_number_at flag_at text_at step_at steps_at asked_call_at asked_at head_at
    waiter_at waiters_at class_at short_at message_at messages_at queue_call_at queue_state_at settled_at
    queue_fields_at queue_at semaphore_at row_at set_waiter_at set_waiters_at set_fields_at set_at
is_in_parcel = refl

-- ---- calls that wait

-- a receive waits at its queue, and is nowhere else
pub is_parked : counts_after waits_for_good waits_for_good_events 1 ≡ Some (counts 0 0)
unfolding may_come read_deed read_body body_bytes row_bytes read_process read_row read_signals read_family read_queue
    read_set signal_bytes family_bytes family_at numbers_at all_ended_at ended_at byte_upto number_upto many
    positive_at count_at signed_at node_number_at flag_at text_at step_at steps_at asked_call_at asked_at head_at
    waiter_at waiters_at class_at short_at message_at messages_at queue_call_at queue_state_at settled_at
    queue_fields_at queue_at semaphore_at row_at set_waiter_at set_waiters_at set_fields_at set_at
is_parked = refl

pub is_among_waiters : waits_after waits_for_good waits_for_good_events 1 ≡ Some (waits 1 0)
unfolding may_come read_deed read_body body_bytes row_bytes read_process read_row read_signals read_family read_queue
    read_set signal_bytes family_bytes family_at numbers_at all_ended_at ended_at byte_upto number_upto many
    positive_at count_at signed_at node_number_at flag_at text_at step_at steps_at asked_call_at asked_at head_at
    waiter_at waiters_at class_at short_at message_at messages_at queue_call_at queue_state_at settled_at
    queue_fields_at queue_at semaphore_at row_at set_waiter_at set_waiters_at set_fields_at set_at
is_among_waiters = refl

-- a wait for a child is at its caller alone
pub is_at_its_caller : waits_after waits_for_a_child (Run 1 ∷ Take 2 1 ∷ Run 1 ∷ []) 1 ≡ Some (waits 0 0)
unfolding may_come read_deed read_body body_bytes row_bytes read_process read_row read_signals read_family read_queue
    read_set signal_bytes family_bytes family_at numbers_at all_ended_at ended_at byte_upto number_upto many
    positive_at count_at signed_at node_number_at flag_at text_at step_at steps_at asked_call_at asked_at head_at
    waiter_at waiters_at class_at short_at message_at messages_at queue_call_at queue_state_at settled_at
    queue_fields_at queue_at semaphore_at row_at set_waiter_at set_waiters_at set_fields_at set_at
is_at_its_caller = refl

-- a signal has struck the process of a receive that waits at another node: its withdrawal is on its way
abbrev pub struck_events : List Event
struck_events = Run 1 ∷ Run 1 ∷ Take 2 1 ∷ Run 2 ∷ Run 2 ∷ Take 1 2 ∷ Run 1 ∷ Take 2 1 ∷ []

pub is_withdrawn : waits_after interrupted_by_a_signal struck_events 2 ≡ Some (waits 1 1)
unfolding may_come read_deed read_body body_bytes row_bytes read_process read_row read_signals read_family read_queue
    read_set signal_bytes family_bytes family_at numbers_at all_ended_at ended_at byte_upto number_upto many
    positive_at count_at signed_at node_number_at flag_at text_at step_at steps_at asked_call_at asked_at head_at
    waiter_at waiters_at class_at short_at message_at messages_at queue_call_at queue_state_at settled_at
    queue_fields_at queue_at semaphore_at row_at set_waiter_at set_waiters_at set_fields_at set_at
is_withdrawn = refl

-- ---- numbers

-- number 2 is free in node 1's lease, until it is a child's; number 1 is that of process 1
pub two_is_free : free_after owner_exits [] kinds.Proc 2 ≡ Some 1
two_is_free = refl

pub two_is_taken : free_after owner_exits (Run 1 ∷ []) kinds.Proc 2 ≡ Some 0
two_is_taken = refl

pub one_is_taken : free_after owner_exits [] kinds.Proc 1 ≡ Some 0
one_is_taken = refl

-- a range of queues is on its way to the node that asked for it: its first number is taken once it has come
pub comes_in_lease : free_after owner_exits (Run 1 ∷ Take 2 1 ∷ Run 2 ∷ Take 1 2 ∷ []) kinds.Msg 1 ≡ Some 1
unfolding may_come read_deed read_body body_bytes row_bytes read_process read_row read_signals read_family read_queue
    read_set signal_bytes family_bytes family_at numbers_at all_ended_at ended_at byte_upto number_upto many
    positive_at count_at signed_at node_number_at flag_at text_at step_at steps_at asked_call_at asked_at head_at
    waiter_at waiters_at class_at short_at message_at messages_at queue_call_at queue_state_at settled_at
    queue_fields_at queue_at semaphore_at row_at set_waiter_at set_waiters_at set_fields_at set_at
comes_in_lease = refl
