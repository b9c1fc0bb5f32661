-- Worked examples, computed by the checker.
use Rattle.std.specs.Prelude.{◌≡◌, ℕ, pos, true, false, List, [], ◌∷◌, Option, Some, None, refl, codes}
use Rattle.std.specs.Option.{option_and_then}
use Rattle.pico_base.specs.declared.call.Call.TheVariants as calls
use Rattle.pico_base.specs.declared.numbers.Kind.TheVariants as kinds
use Rattle.pico_base.specs.declared.numbers.Name.{Name}
use Rattle.pico_base.specs.declared.numbers.Name.TheVariants.{Proc, Msg, Sem}
use Rattle.pico_base.specs.declared.reply.Ending.TheVariants.{Exited, Killed}
use Rattle.pico_base.specs.declared.reply.Reply.{Reply}
use Rattle.pico_base.specs.declared.reply.Reply.TheVariants.{Child, Message, Fail}
use Rattle.pico_base.specs.declared.reply.Errno.TheVariants.{Eidrm}
use Rattle.pico_base.specs.declared.signal.Sig.TheVariants.{Term, Usr1}
use Rattle.pico_base.specs.declared.signal.SigArg.TheVariants.{Is}
use Rattle.rpc_frame.specs.declared.deed.Parcel.{Parcel}
use Rattle.kernel_model.specs.Queue.{empty_queue}
use Rattle.kernel_model.specs.Signals.{raise}
use Rattle.kernel_model.specs.Row.{Row, new_row, ended_child}
use Rattle.waiting_model.specs.declared.callers.Waiting.{Waiting}
use Rattle.waiting_model.specs.declared.callers.Wake.{Wake}
use Rattle.waiting_model.specs.Waiters.{awaited, unawaited, waiter}
use Rattle.node_model.specs.declared.held.Held.{Held}
use Rattle.node_model.specs.declared.held.Held.TheVariants.{Request}
use Rattle.node_model.specs.declared.route.Route.TheVariants as routes
use Rattle.node_model.specs.Kinds.{none_named, put_named, put_all, get_named}
use Rattle.node_model.specs.Directory.{Directory, At, opening_directory, upcoming, with_range, route, place_name, recall, hold, held_for, bound_for, arrive, with_leaving, with_left, stays, place_of}
use Rattle.node_model.specs.Cache.{Cache, owner_in, learn, look, forget}
use Rattle.node_model.specs.Leases.{leader_leases, leases_hold}
use Rattle.node_model.specs.Bodies.{Body, Living, Ended, Gone, AQueue, Removed, Deeds}
use Rattle.node_model.specs.Spelling.{pack, body_bytes, read_body, read_deed}
use Rattle.node_model.specs.Serving.{Served, serve, Leaves, NotThere, NotHeld, withdraw}
use Rattle.node_model.specs.Parcels.{Committed, commit_exit}

-- ---- the directory

-- process 1 is at node 1, which has numbers 2 to 8; who asks next has 9 to 16
abbrev pub next_is_2s : Directory
next_is_2s = with_range opening_directory kinds.Proc 2

first_process : route opening_directory (Proc 1) ≡ routes.At 1
first_process = refl

next_range : upcoming opening_directory kinds.Proc ≡ 9
next_range = refl

first_queues : upcoming opening_directory kinds.Msg ≡ 1
first_queues = refl

-- an unknown number of node 1's range is nobody's, one of another node's may be given out there, and 0 names nothing
nobody : route next_is_2s (Proc 8) ≡ routes.Nobody
nobody = refl

in_a_range : route next_is_2s (Proc 16) ≡ routes.Range 2
in_a_range = refl

beyond_all_ranges : route next_is_2s (Proc 17) ≡ routes.Nobody
beyond_all_ranges = refl

zero_is_nobody : route next_is_2s (Proc 0) ≡ routes.Nobody
zero_is_nobody = refl

-- once node 2 leaves, its unknown numbers are nobody's, and what was there is coming
abbrev pub left_by_2 : Directory
left_by_2 = with_left (with_leaving (place_name next_is_2s (Proc 9) 2) 2) 2

unknown_there : route left_by_2 (Proc 10) ≡ routes.Nobody
unknown_there = refl

known_there : route left_by_2 (Proc 9) ≡ routes.Coming
known_there = refl

stays_no_more : stays left_by_2 2 ≡ false
stays_no_more = refl

-- a known name is left as it is
placed_once : place_name (place_name opening_directory (Msg 1) 1) (Msg 1) 2 ≡ place_name opening_directory (Msg 1) 1
placed_once = refl

-- a queue moves from node 1 to node 3 while two calls wait
abbrev pub an_item : ℕ → Held
an_item ticket = Request (record { caller = 2; ticket = ticket; pid = 9; call = calls.MsgRmid 1 })

abbrev pub moving : Directory
moving = hold (hold (recall (place_name opening_directory (Msg 1) 1) (Msg 1) (Some 3)) (Msg 1) (an_item 4)) (Msg 1)
    (an_item 5)

held_in_order : held_for moving (Msg 1) ≡ an_item 4 ∷ an_item 5 ∷ []
held_in_order = refl

destination : bound_for moving (Msg 1) ≡ Some 3
destination = refl

arrived_there : place_of (arrive moving (Msg 1) 3) (Msg 1) ≡ Some (At 3)
arrived_there = refl

-- ---- the cache

abbrev pub two_names : Cache
two_names = learn (learn [] (Msg 1) 2) (Proc 9) 3

last_first : two_names ≡ (Proc 9, 3) ∷ (Msg 1, 2) ∷ []
last_first = refl

learnt_anew : learn two_names (Msg 1) 4 ≡ (Msg 1, 4) ∷ (Proc 9, 3) ∷ []
learnt_anew = refl

looked_at : look two_names (Msg 1) ≡ (Msg 1, 2) ∷ (Proc 9, 3) ∷ []
looked_at = refl

set_1_is_another_name : owner_in two_names (Sem 1) ≡ None
set_1_is_another_name = refl

forgotten_name : forget two_names (Proc 9) ≡ (Msg 1, 2) ∷ []
forgotten_name = refl

-- ---- leases

eighth_is_held : leases_hold leader_leases (Proc 8) ≡ true
eighth_is_held = refl

ninth_is_not : leases_hold leader_leases (Proc 9) ≡ false
ninth_is_not = refl

-- ---- bodies

ended_bytes : body_bytes (Ended (Killed Term)) ≡ 2 ∷ 1 ∷ 9 ∷ []
unfolding body_bytes
ended_bytes = refl

removed_set : read_body (Sem 1) (6 ∷ []) ≡ Some Removed
unfolding read_body Rattle.node_model.specs.Spelling.read_set
removed_set = refl

-- a process has no Removed body
no_removed_process : read_body (Proc 1) (6 ∷ []) ≡ None
unfolding read_body Rattle.node_model.specs.Spelling.read_process
no_removed_process = refl

new_process_body : read_deed (pack (Proc 2) (Living new_row)) ≡ Some (Living new_row)
unfolding read_deed read_body body_bytes Rattle.node_model.specs.Spelling.row_bytes
    Rattle.node_model.specs.Spelling.read_process Rattle.node_model.specs.Spelling.read_row
    Rattle.node_model.specs.Spelling.read_signals Rattle.node_model.specs.Spelling.read_family
    Rattle.signal_state.specs.Spelling.signal_bytes Rattle.fork_wait.specs.Spelling.family_bytes
    Rattle.fork_wait.specs.Reading.family_at Rattle.fork_wait.specs.Reading.numbers_at
    Rattle.fork_wait.specs.Reading.all_ended_at Rattle.body_fields.specs.Fields.byte_upto
new_process_body = refl

-- ---- serving

abbrev pub holding_queue : Deeds
holding_queue = put_named none_named (Msg 1) (AQueue (unawaited empty_queue))

-- what is held afterwards, and the reply
abbrev pub deeds_after : Deeds → Option Served → Deeds
deeds_after deeds None = deeds
deeds_after deeds (Some s) = put_all deeds s.changes

abbrev pub reply_of : Option Served → Option Reply
reply_of s = option_and_then (λ (done : Served). done.own) s

-- a send and then a receive
abbrev pub holding_a_message : Deeds
holding_a_message =
    deeds_after holding_queue (serve holding_queue (waiter 2 (calls.MsgSnd 1 (pos 1) (codes "hi") true)))

received : reply_of (serve holding_a_message (waiter 3 (calls.MsgRcv 1 (pos 0) 8 false true)))
    ≡ Some (Message (pos 1) (codes "hi"))
received = refl

-- a removal leaves the deed, which answers for the name from now on
removed_queue : get_named (deeds_after holding_queue (serve holding_queue (waiter 2 (calls.MsgRmid 1)))) (Msg 1)
    ≡ Some Removed
removed_queue = refl

not_held : serve holding_queue (waiter 2 (calls.MsgStat 2)) ≡ None
not_held = refl

abbrev pub parent_row : Row
parent_row = record {
  signals = new_row.signals;
  family =
      record { living = 9 ∷ []; ended = ended_child 3 (Exited 7) ∷ [] };
}

abbrev pub with_family : Deeds
with_family = put_named (put_named none_named (Proc 2) (Living parent_row)) (Proc 3) (Ended (Exited 7))

-- the ended child is found, and is gone
waited : reply_of (serve with_family (waiter 2 (calls.WaitPid None true))) ≡ Some (Child 3 (Exited 7))
waited = refl

waited_child : get_named (deeds_after with_family (serve with_family (waiter 2 (calls.WaitPid None true)))) (Proc 3)
    ≡ Some Gone
waited_child = refl

-- a signal to another process that is held here
killed : get_named (deeds_after with_family (serve with_family (waiter 9 (calls.Kill 2 (Is Usr1))))) (Proc 2)
    ≡ Some (Living (record { signals = raise parent_row.signals Usr1; family = parent_row.family }))
killed = refl

-- ---- callers that wait

-- the process of node 3 waits for a message, and that of node 4 for a message of type 2
abbrev pub receives : ℕ → ℕ → ℕ → Waiting
receives node ticket class =
    record { caller = node; ticket = ticket; pid = node; call = calls.MsgRcv 1 (pos class) 8 false false }

abbrev pub awaited_queue : Deeds
awaited_queue =
    put_named none_named (Msg 1) (AQueue (awaited empty_queue (receives 3 5 0 ∷ receives 4 7 2 ∷ [])))

abbrev pub wakes_in : Option Served → List Wake
wakes_in None = []
wakes_in (Some s) = s.wakes

abbrev pub readers_in : Option Served → List ℕ
readers_in None = []
readers_in (Some s) = s.readers

-- a call that has to wait goes last among those who wait
parked_last : deeds_after awaited_queue (serve awaited_queue (receives 2 1 0))
    ≡ put_named none_named (Msg 1) (AQueue (awaited empty_queue (receives 3 5 0 ∷ receives 4 7 2 ∷ receives 2 1 0
    ∷ [])))
parked_last = refl

-- a send wakes the first whose call it lets go on, at that one's node and under its ticket; the woken node reads
abbrev pub sends_to_them : Option Served
sends_to_them = serve awaited_queue (waiter 2 (calls.MsgSnd 1 (pos 1) (codes "hi") false))

woken_first : wakes_in sends_to_them
    ≡ record { caller = 3; ticket = 5; pid = 3; reply = Message (pos 1) (codes "hi") } ∷ []
woken_first = refl

woken_reads : readers_in sends_to_them ≡ 3 ∷ []
woken_reads = refl

-- a removal wakes all, in order, and nobody has read
removal_wakes_all : wakes_in (serve awaited_queue (waiter 2 (calls.MsgRmid 1)))
    ≡ record { caller = 3; ticket = 5; pid = 3; reply = Fail Eidrm }
    ∷ record { caller = 4; ticket = 7; pid = 4; reply = Fail Eidrm }
    ∷ []
removal_wakes_all = refl

removal_reads_nothing : readers_in (serve awaited_queue (waiter 2 (calls.MsgRmid 1))) ≡ []
removal_reads_nothing = refl

-- a withdrawal takes out whom it names, by process and ticket
withdrawn : withdraw awaited_queue (Msg 1) 3 5 ≡ Leaves (AQueue (awaited empty_queue (receives 4 7 2 ∷ [])))
withdrawn = refl

of_an_earlier_call : withdraw awaited_queue (Msg 1) 3 4 ≡ NotThere
of_an_earlier_call = refl

at_another_node : withdraw awaited_queue (Msg 2) 3 5 ≡ NotHeld
at_another_node = refl

-- ---- an end

-- process 9 ends where its parent's deed is: the parent keeps its ending
abbrev pub parcel_of_9 : Parcel
parcel_of_9 = record { pid = 9; parent = 2; call = calls.Exit 300; deeds = pack (Proc 9) (Living new_row) ∷ [] }

abbrev pub changes_of : Option Committed → List (Name × Body)
changes_of None = []
changes_of (Some c) = c.changes

abbrev pub wakes_of : Option Committed → List Wake
wakes_of None = []
wakes_of (Some c) = c.wakes

ends_there : changes_of (commit_exit parcel_of_9 ((9, Living new_row) ∷ []) None (Living parent_row))
    ≡ (
    (Proc 9, Gone)
    ∷ (Proc 9, Ended (Exited 44))
    ∷ (
      Proc 2,
      Living (record {
        signals = parent_row.signals;
        family =
            record { living = []; ended = ended_child 3 (Exited 7) ∷ ended_child 9 (Exited 44) ∷ [] };
      }),
    )
    ∷ [])
ends_there = refl

-- a parent that waits for this child gets it, which is gone then
wakes_the_parent : wakes_of (commit_exit parcel_of_9 ((9, Living new_row)
    ∷ []) (Some (calls.WaitPid (Some 9) false)) (Living parent_row))
    ≡ record { caller = 0; ticket = 0; pid = 2; reply = Child 9 (Exited 44) } ∷ []
wakes_the_parent = refl

found_child_is_gone : put_all with_family (changes_of (commit_exit parcel_of_9 ((9, Living new_row)
    ∷ []) (Some (calls.WaitPid (Some 9) false)) (Living parent_row)))
    ≡ put_named (put_named with_family (Proc 9) Gone) (Proc 2)
    (Living (record {
      signals = parent_row.signals;
      family = record {
        living = [];
        ended = ended_child 3 (Exited 7)
            ∷ [];
      };
    }))
found_child_is_gone = refl
