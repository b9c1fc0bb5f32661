-- A node other than the leader stays one, and knows nothing of the leader's afterwards that it didn't know before: the
-- parts of its rules.
use Rattle.std.proofs.Common.{◌≡◌, ℕ, ◌+◌, true, false, not, ◌&&◌, nat_eq, List, [], ◌∷◌, fold, Option, Some, None, Result, Ok, Err, refl, ap, sym, ◌∙◌}
use Rattle.std.specs.Prelude.{if◌then◌else◌}
use Rattle.std.specs.Option.{option_and_then, option_map}
use Rattle.std.proofs.lemmas.Bool.{false≢true}
use Rattle.pico_base.specs.declared.call.Call.{Call}
use Rattle.pico_base.specs.declared.call.Call.TheVariants as calls
use Rattle.pico_base.specs.declared.call.Home.{Home}
use Rattle.pico_base.specs.declared.call.Home.TheVariants as homes
use Rattle.pico_base.specs.declared.numbers.Kind.{Kind}
use Rattle.pico_base.specs.declared.numbers.Kind.TheVariants as kinds
use Rattle.pico_base.specs.declared.numbers.Name.{Name}
use Rattle.pico_base.specs.declared.numbers.Name.TheVariants.{Proc, Msg, Sem}
use Rattle.pico_base.specs.declared.reply.Errno.{Errno}
use Rattle.pico_base.specs.declared.reply.Outcome.{Outcome}
use Rattle.pico_base.specs.declared.reply.Reply.{Reply}
use Rattle.pico_base.specs.declared.reply.Reply.TheVariants as replies
use Rattle.pico_base.specs.declared.script.Script.{Script}
use Rattle.pico_base.specs.Home.{home_of}
use Rattle.rpc_frame.specs.declared.asked.Asked.{Asked}
use Rattle.rpc_frame.specs.declared.frame.Frame.{Frame}
use Rattle.rpc_frame.specs.declared.frame.Frame.TheVariants as frames
use Rattle.kernel_laws.proofs.Plain.{Of, by_test, of-map, of-next, of-some, of-test}
use Rattle.kernel_model.specs.Effect.{reply_alone}
use Rattle.kernel_model.specs.Fitting.{child_vars}
use Rattle.kernel_model.specs.Numbers.{is_u32}
use Rattle.kernel_model.specs.Queue.{empty_queue}
use Rattle.kernel_model.specs.Row.{Row}
use Rattle.kernel_model.specs.SemaphoreSet.{SemaphoreSet, new_set}
use Rattle.waiting_model.specs.declared.callers.Wake.{Wake}
use Rattle.waiting_model.specs.Calls.{is_withdrawal, may_park}
use Rattle.waiting_model.specs.Waiters.{unawaited}
use Rattle.node_model.specs.Bodies.{AQueue, ASet, Body}
use Rattle.node_model.specs.Cache.{owner_in}
use Rattle.node_model.specs.Caller.{caller_place, due_call, start_call}
use Rattle.node_model.specs.Directory.{place_name, stays}
use Rattle.node_model.specs.Entries.{outcome_with}
use Rattle.node_model.specs.Kinds.{for_kind, put_all, put_named}
use Rattle.node_model.specs.Leases.{is_used_up}
use Rattle.node_model.specs.Serving.{Served, child_body, no_such_name, parent_body, serve, waiting_as}
use Rattle.node_model.specs.Spelling.{pack}
use Rattle.node_model.specs.Watches.{last_move, with_reads}
use Rattle.world_model.specs.Lives.{send_to_leader}
use Rattle.world_model.specs.Node.{Node, asked_here, can_run, holds, is_leader, own_row, under_way_as}
use Rattle.world_model.specs.Numbers.{Taken, fork_with, make, make_object, make_set, make_taken, make_with, take_from, take_from_next, take_number, tell_place}
use Rattle.world_model.specs.Routes.{route_call}
use Rattle.world_model.specs.Serving.{grant, has_room, is_struck, move_to, note_reads, serve_asked, serve_asked_with, serve_nobody}
use Rattle.world_model.specs.Starting.{act, ask, carry_out_own, end_leader, leave, request, run, start, start_at, start_by, start_due, start_end, start_making, start_own, start_set, with_look}
use Rattle.world_model.specs.Step.{Step, carry_out, carry_out_waking, enter_with, reply_at, reply_here, reply_if, send, step_to, wake_all, wake_one, with_deeds, with_directory, with_node, with_strike}

module _ (script : Script) (n : Node) (other : is_leader n ≡ false) where
  -- The step's node has the number of this one, and knows the same of the leader's.
  pub record IsFollower (s : Step) : Type 0 where
    pub leader : s.node.leader ≡ n.leader
    pub number : s.node.number ≡ n.number

  abbrev pub Follows : Option Step → Type 0
  Follows o = Of IsFollower o

  leads-not : (s : Step) → IsFollower s → is_leader s.node ≡ false
  leads-not s k = ap (λ m. nat_eq m 1) k.number ∙ other

  -- where the leader alone does something nothing is to show
  pub not-done : {A : Type 0} (s : Step) → IsFollower s → is_leader s.node ≡ true → A
  not-done s k e = absurd (false≢true (sym (leads-not s k) ∙ e))

  -- ---- what a step is made of

  -- the node itself, changed in what isn't the leader's
  pub from-it : (m : Node) → m.leader ≡ n.leader → m.number ≡ n.number → IsFollower (step_to m)
  from-it m leader number = record { leader = leader; number = number }

  -- a frame is sent
  pub sent-follows : (s : Step) (to : ℕ) (frame : Frame) → IsFollower s → IsFollower (send s to frame)
  sent-follows s to frame k = record { leader = k.leader; number = k.number }

  -- so are many to the leader
  pub all-sent-follow : (frames_sent : List Frame) (s : Step) → IsFollower s
      → IsFollower (fold send_to_leader s frames_sent)
  all-sent-follow [] s k = k
  all-sent-follow (f ∷ fs) s k = all-sent-follow fs (send_to_leader s f) (sent-follows s 1 f k)

  -- an entry is made
  pub entered-follows : (s : Step) (pid : ℕ) (call : Call) (outcome : Outcome) → IsFollower s
      → IsFollower (enter_with s pid call outcome)
  entered-follows s pid call outcome k = record { leader = k.leader; number = k.number }

  pub reply-here-follows : (s : Step) (reply : Reply) (o : Option Call) → IsFollower s
      → IsFollower (reply_here script s reply o)
  reply-here-follows s reply None k = k
  reply-here-follows s reply (Some call) k = record { leader = k.leader; number = k.number }

  reply-at-follows : (s : Step) (caller ticket : ℕ) (reply : Reply) → IsFollower s
      → IsFollower (reply_at script s caller ticket reply)
  reply-at-follows s caller ticket reply k =
      by_test IsFollower (nat_eq caller s.node.number) (reply_here script s reply (under_way_as s.node ticket))
      (send s caller (frames.Answer ticket reply))
      (λ _. reply-here-follows s reply (under_way_as s.node ticket) k)
      (λ _. sent-follows s caller (frames.Answer ticket reply) k)

  -- a call is carried out
  pub carry-out-follows : (s : Step) (asked : Asked) (reply : Reply) → IsFollower s
      → IsFollower (carry_out script s asked reply)
  carry-out-follows s asked reply k =
      reply-at-follows (enter_with s asked.pid asked.call (reply_alone reply)) asked.caller asked.ticket reply
      (entered-follows s asked.pid asked.call (reply_alone reply) k)

  -- also one that wakes others, or has no reply yet
  woken-follow : (wakes : List Wake) (s : Step) → IsFollower s → IsFollower (wake_all script s wakes)
  woken-follow [] s k = k
  woken-follow (w ∷ wakes) s k =
      woken-follow wakes (wake_one script s w) (reply-at-follows s w.caller w.ticket w.reply k)

  reply-if-follows : (s : Step) (asked : Asked) (own : Option Reply) → IsFollower s
      → IsFollower (reply_if script s asked own)
  reply-if-follows s asked None k = k
  reply-if-follows s asked (Some reply) k = reply-at-follows s asked.caller asked.ticket reply k

  waking-follows : (s : Step) (asked : Asked) (own : Option Reply) (wakes : List Wake) → IsFollower s
      → IsFollower (carry_out_waking script s asked own wakes)
  waking-follows s asked own wakes k =
      let entered : Step = enter_with s asked.pid asked.call (outcome_with own wakes)
      in woken-follow wakes (reply_if script entered asked own)
      (reply-if-follows entered asked own (entered-follows s asked.pid asked.call (outcome_with own wakes) k))

  -- ---- serving

  move-to-follows : (s : Step) (name : Name) (o : Option ℕ) → IsFollower s → IsFollower (move_to s name o)
  move-to-follows s name None k = k
  move-to-follows s name (Some to) k =
      by_test IsFollower (is_leader s.node) (if stays s.node.leader.directory to then grant s name to else s)
      (send s 1 (frames.Suggest name to)) (λ e. not-done s k e)
      (λ _. sent-follows s 1 (frames.Suggest name to) k)

  note-reads-follows : (s : Step) (name : Name) (readers : List ℕ) → IsFollower s
      → IsFollower (note_reads s name readers)
  note-reads-follows s name readers k =
      move-to-follows
      (with_node s (record s.node { watches = with_reads s.node.watches s.node.number name readers })) name
      (last_move s.node.watches s.node.number name readers) (record { leader = k.leader; number = k.number })

  serve-asked-with-follows : (s : Step) (name : Name) (asked : Asked) (served : Served) → IsFollower s
      → IsFollower (serve_asked_with script s name asked served)
  serve-asked-with-follows s name asked served k =
      let struck : Step = with_strike s (is_struck s.node name asked.call)
      in let held : Step = with_deeds struck (put_all s.node.deeds served.changes)
      in note-reads-follows (carry_out_waking script held asked served.own served.wakes) name served.readers
      (waking-follows held asked served.own served.wakes (record { leader = k.leader; number = k.number }))

  -- a call is served
  pub serve-asked-follows : (s : Step) (name : Name) (asked : Asked) → IsFollower s
      → Follows (serve_asked script s name asked)
  serve-asked-follows s name asked k =
      by_test Follows (has_room s name asked)
      (option_map (serve_asked_with script s name asked) (serve s.node.deeds (waiting_as asked))) (Some s)
      (λ _. of-map IsFollower (serve s.node.deeds (waiting_as asked)) (serve_asked_with script s name asked)
      (λ served _. serve-asked-with-follows s name asked served k))
      (λ _. k)

  -- or names nothing
  pub serve-nobody-follows : (s : Step) (name : Name) (asked : Asked) → IsFollower s
      → IsFollower (serve_nobody script s name asked)
  serve-nobody-follows s name asked k = carry-out-follows s asked (replies.Fail (no_such_name name)) k

  -- ---- new numbers

  record IsTakenThere (t : Taken) : Type 0 where
    leader : t.node.leader ≡ n.leader
    number : t.node.number ≡ n.number

  take-from-follows : (s : Step) (kind : Kind) (numbers : List ℕ) → IsFollower s
      → Of IsTakenThere (take_from s.node kind numbers)
  take-from-follows s kind (number ∷ numbers) k = record { leader = k.leader; number = k.number }
  take-from-follows s kind [] k =
      of-test IsTakenThere (is_leader s.node) (take_from_next s.node kind) (λ e. not-done s k e)

  tell-place-follows : (s : Step) (name : Name) (at : ℕ) → IsFollower s → IsFollower (tell_place s name at)
  tell-place-follows s name at k =
      by_test IsFollower (is_leader s.node)
      (with_node s (with_directory s.node (place_name s.node.leader.directory name at)))
      (send s 1 (frames.Placed name at)) (λ e. not-done s k e) (λ _. sent-follows s 1 (frames.Placed name at) k)

  fork-with-follows : (s : Step) (call : Call) (block child : ℕ) (row : Row) → IsFollower s
      → IsFollower (fork_with script s call block child row)
  fork-with-follows s call block child row k =
      let m : Node = s.node
      in let held : Step = with_deeds s (put_named m.deeds (Proc m.pid) (parent_body row child))
      in let done : Step = carry_out script held (asked_here m call) (replies.Num child)
      in let birth : Frame = frames.Checkpoint child m.pid (pack (Proc child) (child_body row))
      (child_vars (caller_place script m.number m.caller))
      in tell-place-follows (send done block birth) (Proc child) block
      (sent-follows done block birth
      (carry-out-follows held (asked_here m call) (replies.Num child)
      (record { leader = k.leader; number = k.number })))

  make-object-follows : (s : Step) (call : Call) (name : Name) (body : Body) (number : ℕ) → IsFollower s
      → IsFollower (make_object script s call name body number)
  make-object-follows s call name body number k =
      let m : Node = s.node
      in let held : Step = with_deeds s (put_named m.deeds name body)
      in tell-place-follows (carry_out script held (asked_here m call) (replies.Num number)) name m.number
      (carry-out-follows held (asked_here m call) (replies.Num number)
      (record { leader = k.leader; number = k.number }))

  make-set-follows : (s : Step) (call : Call) (number : ℕ) (r : Result SemaphoreSet Errno) → IsFollower s
      → Follows (make_set script s call number r)
  make-set-follows s call number (Err e) k = tt
  make-set-follows s call number (Ok set) k = make-object-follows s call (Sem number) (ASet (unawaited set)) number k

  make-with-follows : (s : Step) (call : Call) (number : ℕ) → IsFollower s
      → Follows (make_with script s call number)
  make-with-follows s (calls.Fork block) number k =
      of-map IsFollower (own_row s.node) (fork_with script s (calls.Fork block) block number)
      (λ row _. fork-with-follows s (calls.Fork block) block number row k)
  make-with-follows s (calls.MsgGet key create excl) number k =
      make-object-follows s (calls.MsgGet key create excl) (Msg number) (AQueue (unawaited empty_queue)) number k
  make-with-follows s (calls.SemGet key count create excl) number k =
      make-set-follows s (calls.SemGet key count create excl) number (new_set count) k
  make-with-follows s call number k = tt

  -- a call is carried out with the next number
  pub make-follows : (s : Step) (call : Call) (kind : Kind) → IsFollower s → Follows (make script s call kind)
  make-follows s call kind k =
      of-next IsFollower (take_number s.node kind) (make_taken script s call)
      (λ t is.
      let taken : IsTakenThere t =
      of-some IsTakenThere (take_number s.node kind) t (take-from-follows s kind (for_kind s.node.leases kind) k) is
      in make-with-follows (with_node s t.node) call t.number
      (record { leader = taken.leader; number = taken.number }))

  -- ---- a call is started

  act-follows : (s : Step) (call : Call) → IsFollower s → Follows (act script s call)
  act-follows s call k =
      of-map IsFollower (serve s.node.deeds (waiting_as (asked_here s.node call))) (carry_out_own script s call)
      (λ served _. waking-follows (with_deeds s (put_all s.node.deeds served.changes)) (asked_here s.node call)
      served.own served.wakes (record { leader = k.leader; number = k.number }))

  start-making-follows : (s : Step) (call : Call) (kind : Kind) → IsFollower s
      → Follows (start_making script s call kind)
  start-making-follows s call kind k =
      by_test Follows (is_used_up (for_kind s.node.leases kind) && not (is_leader s.node))
      (Some (send s 1 (frames.LeaseAsk kind))) (make script s call kind)
      (λ _. sent-follows s 1 (frames.LeaseAsk kind) k) (λ _. make-follows s call kind k)

  start-set-follows : (s : Step) (call : Call) (r : Result SemaphoreSet Errno) → IsFollower s
      → Follows (start_set script s call r)
  start-set-follows s call (Err e) k = carry-out-follows s (asked_here s.node call) (replies.Fail e) k
  start-set-follows s call (Ok set) k = start-making-follows s call kinds.Sem k

  start-own-follows : (s : Step) (call : Call) → IsFollower s → Follows (start_own script s call)
  start-own-follows s (calls.Fork block) k = start-making-follows s (calls.Fork block) kinds.Proc k
  start-own-follows s (calls.MsgGet key create excl) k =
      start-making-follows s (calls.MsgGet key create excl) kinds.Msg k
  start-own-follows s (calls.SemGet key count create excl) k =
      start-set-follows s (calls.SemGet key count create excl) (new_set count) k
  start-own-follows s call k = act-follows s call k

  -- the leader is asked
  pub ask-follows : (s : Step) (call : Call) → IsFollower s → Follows (ask script s call)
  ask-follows s call k =
      by_test Follows (is_leader s.node) (route_call script s (asked_here s.node call))
      (Some (send s 1 (frames.Ask s.node.caller.ticket s.node.pid call))) (λ e. not-done s k e)
      (λ _. sent-follows s 1 (frames.Ask s.node.caller.ticket s.node.pid call) k)

  request-follows : (s : Step) (call : Call) (o : Option ℕ) → IsFollower s → Follows (request script s call o)
  request-follows s call None k = ask-follows s call k
  request-follows s call (Some owner) k =
      by_test Follows (nat_eq owner s.node.number) (ask script s call)
      (Some (send s owner (frames.Request s.node.caller.ticket s.node.pid call))) (λ _. ask-follows s call k)
      (λ _. sent-follows s owner (frames.Request s.node.caller.ticket s.node.pid call) k)

  start-at-follows : (s : Step) (call : Call) (name : Name) → IsFollower s → Follows (start_at script s call name)
  start-at-follows s call name k =
      by_test Follows (holds s.node name) (serve_asked script s name (asked_here s.node call))
      (if may_park call then ask script s call
      else request script (with_node s (with_look s.node name)) call (owner_in s.node.cache name))
      (λ _. serve-asked-follows s name (asked_here s.node call) k)
      (λ _. by_test Follows (may_park call) (ask script s call)
      (request script (with_node s (with_look s.node name)) call (owner_in s.node.cache name))
      (λ _. ask-follows s call k)
      (λ _. request-follows (with_node s (with_look s.node name)) call (owner_in s.node.cache name)
      (record { leader = k.leader; number = k.number })))

  start-end-follows : (s : Step) (call : Call) (row : Row) → IsFollower s → IsFollower (start_end script s call row)
  start-end-follows s call row k =
      by_test IsFollower (is_leader s.node) (end_leader script s call row) (leave s) (λ e. not-done s k e)
      (λ _. record { leader = k.leader; number = k.number })

  start-by-follows : (s : Step) (call : Call) (row : Row) (home : Home) → IsFollower s
      → Follows (start_by script s call row home)
  start-by-follows s call row homes.Own k = start-own-follows s call k
  start-by-follows s call row (homes.At name) k = start-at-follows s call name k
  start-by-follows s call row homes.Keys k = ask-follows s call k
  start-by-follows s call row (homes.Removal name) k = ask-follows s call k
  start-by-follows s call row homes.Parent k = start-end-follows s call row k

  start-follows : (row : Row) (call : Call) → Follows (start script n row call)
  start-follows row call =
      by_test Follows (is_withdrawal call) None
      (start_by script (step_to (record n { caller = start_call n.caller call })) call row (home_of n.pid call))
      (λ _. tt)
      (λ _. start-by-follows (step_to (record n { caller = start_call n.caller call })) call row (home_of n.pid call)
      (record { leader = refl; number = refl }))

  -- A node that starts a call.
  pub run-follows : Follows (run script n)
  run-follows =
      of-test IsFollower (can_run n && is_u32 (n.caller.ticket + 1)) (option_and_then (start_due script n) (own_row n))
      (λ _. of-next IsFollower (own_row n) (start_due script n)
      (λ row _. of-next IsFollower (due_call script n.number n.caller row.signals.doom) (start script n row)
      (λ call _. start-follows row call)))
