-- What a step does to the node, and sends, keeps its bounds.
use Rattle.std.proofs.Common.{◌≡◌, ℕ, ◌+◌, Bool, true, false, nat_eq, [], ◌∷◌, Option, Some, None, Ok, refl, sym, ◌∙◌, arith, List}
use Rattle.std.specs.Prelude.{if◌then◌else◌, slice_get}
use Rattle.std.specs.List.{AllByRecursion}
use Rattle.std.specs.Option.{option_map}
use Rattle.pico_base.specs.declared.call.Call.{Call}
use Rattle.pico_base.specs.declared.call.Call.TheVariants as calls
use Rattle.pico_base.specs.declared.numbers.Name.{Name}
use Rattle.pico_base.specs.declared.reply.Reply.{Reply}
use Rattle.pico_base.specs.declared.reply.Reply.TheVariants as replies
use Rattle.pico_base.specs.declared.script.Line.{Line}
use Rattle.pico_base.specs.declared.script.Script.{Script}
use Rattle.pico_base.specs.declared.reply.Errno.TheVariants.{Eintr}
use Rattle.pico_base.specs.declared.reply.Outcome.{Outcome}
use Rattle.rpc_frame.specs.declared.asked.Asked.{Asked}
use Rattle.rpc_frame.specs.declared.frame.Frame.{Frame}
use Rattle.rpc_frame.specs.declared.frame.Frame.TheVariants as frames
use Rattle.kernel_model.specs.Fitting.{is_due_again, vars_after}
use Rattle.kernel_laws.proofs.Plain.{Of, by_test, not_some, of-map, of-some}
use Rattle.kernel_laws.proofs.Lists.{all-both}
use Rattle.kernel_model.specs.SemaphoreSet.{SemaphoreSet, new_set}
use Rattle.kernel_model.specs.Effect.{reply_alone}
use Rattle.waiting_model.specs.declared.callers.Wake.{Wake}
use Rattle.migrate.specs.Watching.{Watching, move_at, run_with}
use Rattle.node_model.specs.Bodies.{Body, Deeds}
use Rattle.node_model.specs.Cache.{Cache}
use Rattle.node_model.specs.Caller.{Caller, answer_at, answer_call, end_call, lines_of}
use Rattle.node_model.specs.Directory.{Directory, arrive, stays}
use Rattle.node_model.specs.Kinds.{get_named, put_all, without_named, put_named}
use Rattle.node_model.specs.Leases.{Leases}
use Rattle.node_model.specs.Serving.{Served, no_such_name, serve, NotHeld, NotThere, Withdrawn, body_without, has_waiter, waiting_as, withdraw_in, Leaves, withdraw}
use Rattle.node_model.specs.Spelling.{pack}
use Rattle.node_model.specs.Watches.{Watches, moves_to, unwatch, watch_over, with_read, last_move, later, with_reads}
use Rattle.node_model.specs.Entries.{outcome_with}
use Rattle.world_model.specs.Node.{Node, Stage, is_leader, under_way_as}
use Rattle.world_model.specs.Serving.{grant, grant_held, move_to, serve_asked, serve_asked_with, serve_nobody, without_deed, interrupted, has_room, is_struck, note_reads, withdraw_by, withdraw_here}
use Rattle.world_model.specs.Step.{Step, carry_out, enter, reply_here, send, step_to, with_deeds, with_directory, with_node, carry_out_waking, enter_with, reply_at, reply_if, wake_all, with_strike}
use Rattle.world_model.specs.World.{IsNode}
use Rattle.route_laws.specs.Watching.{AreWatchesOf}
use Rattle.bound_laws.specs.Bounded.{FrameNamesNodes, LeadsToNode, NamesNodes, NodeIsBounded, SendIsBounded, StepIsBounded, DeedsAreBounded, HeldNamesNodes, WaitersAreOfNodes}
use Rattle.bound_laws.proofs.Watched.{unwatched, reads-watched}
use Rattle.bound_laws.proofs.Parts.{arrive-names}
use Rattle.bound_laws.proofs.Waiters.{ServedNamesNodes, WokenAreOfNodes, body-without-names, put-deed-bounded, put-deeds-bounded, served-names, without-deed-bounded}

-- ---- a call that is answered is under way no more

answered-by : (c : Caller) (call : Call) (reply : Reply) (line : Line) (again : Bool)
    → (if again then record (end_call c) { tried = c.tried + 1 }
    else record (end_call c) { line = c.line + 1; tried = 0; vars = vars_after c.vars line.set reply }).under_way
    ≡ None
answered-by c call reply line true = refl
answered-by c call reply line false = refl

answered-at : (c : Caller) (call : Call) (reply : Reply) (o : Option Line) → (answer_at c call reply o).under_way ≡ None
answered-at c call reply None = refl
answered-at c call reply (Some line) =
    answered-by c call reply line (is_due_again call reply c.tried line.tries)

-- none is under way once the reply is here
pub answered-none : (script : Script) (block : ℕ) (c : Caller) (call : Call) (reply : Reply)
    → (answer_call script block c call reply).under_way ≡ None
answered-none script block c call reply = answered-at c call reply (slice_get (lines_of script block) c.line)

-- where none is, no call is
pub none-is : {A : Type 0} (o : Option Call) (call : Call) → o ≡ None → o ≡ Some call → A
none-is o call none some = not_some call (sym none ∙ some)

module _ (script : Script) where
  -- ---- a node

  -- another caller
  pub with-caller-bounded : (n : Node) (c : Caller) → NodeIsBounded script n
      → ((block : ℕ) → c.under_way ≡ Some (calls.Fork block) → IsNode script block)
      → ((count : ℕ) (create excl : Bool) → c.under_way ≡ Some (calls.SemGet None count create excl)
      → (set : SemaphoreSet) × (new_set count ≡ Ok set))
      → NodeIsBounded script (record n { caller = c })
  with-caller-bounded n c k forks sizes =
      record {
        number = k.number;
        parent_node = k.parent_node;
        fork = forks;
        size = sizes;
        deeds = k.deeds;
        watches = k.watches;
        cache = k.cache;
        directory = k.directory;
        queue_keys = k.queue_keys;
        set_keys = k.set_keys;
      }

  -- another directory
  pub with-directory-bounded : (n : Node) (d : Directory) → NodeIsBounded script n → NamesNodes script d
      → NodeIsBounded script (with_directory n d)
  with-directory-bounded n d k names =
      record {
        number = k.number;
        parent_node = k.parent_node;
        fork = k.fork;
        size = k.size;
        deeds = k.deeds;
        watches = k.watches;
        cache = k.cache;
        directory = names;
        queue_keys = k.queue_keys;
        set_keys = k.set_keys;
      }

  -- other deeds, watches and leases
  pub with-tables-bounded : (n : Node) (deeds : Deeds) (watches : Watches) (leases : Leases) (stage : Stage)
      → NodeIsBounded script n → DeedsAreBounded script deeds → AreWatchesOf n.number watches
      → NodeIsBounded script (record n { stage = stage; deeds = deeds; watches = watches; leases = leases })
  with-tables-bounded n deeds watches leases stage k held watched =
      record {
        number = k.number;
        parent_node = k.parent_node;
        fork = k.fork;
        size = k.size;
        deeds = held;
        watches = watched;
        cache = k.cache;
        directory = k.directory;
        queue_keys = k.queue_keys;
        set_keys = k.set_keys;
      }

  -- another cache
  pub with-cache-bounded : (n : Node) (cache : Cache) → NodeIsBounded script n
      → AllByRecursion (λ e. IsNode script e.1) cache → NodeIsBounded script (record n { cache = cache })
  with-cache-bounded n cache k names =
      record {
        number = k.number;
        parent_node = k.parent_node;
        fork = k.fork;
        size = k.size;
        deeds = k.deeds;
        watches = k.watches;
        cache = names;
        directory = k.directory;
        queue_keys = k.queue_keys;
        set_keys = k.set_keys;
      }

  -- ---- a step

  -- the first node is one of the script, as where any is
  pub first-is-node : (p : ℕ) → IsNode script p → IsNode script 1
  first-is-node p k =
      let low = k.low
      in let high = k.high
      in record { low = omega arith; high = omega (arith, low, high) }

  -- a step that has done nothing yet
  pub step-to-bounded : (n : Node) → NodeIsBounded script n → StepIsBounded script (step_to n)
  step-to-bounded n k = record { node = k; sends = tt }

  -- with another node
  pub with-node-bounded : (s : Step) (n : Node) → StepIsBounded script s → NodeIsBounded script n
      → StepIsBounded script (with_node s n)
  with-node-bounded s n k own = record { node = own; sends = k.sends }

  -- with other deeds
  pub with-deeds-bounded : (s : Step) (deeds : Deeds) → StepIsBounded script s
      → DeedsAreBounded script deeds
      → StepIsBounded script (with_deeds s deeds)
  with-deeds-bounded s deeds k held =
      with-node-bounded s (record s.node { deeds = deeds }) k
      (with-tables-bounded s.node deeds s.node.watches s.node.leases s.node.stage k.node held k.node.watches)

  -- with a further frame
  pub send-bounded : (s : Step) (to : ℕ) (frame : Frame) → StepIsBounded script s → IsNode script to
      → FrameNamesNodes script frame → StepIsBounded script (send s to frame)
  send-bounded s to frame k receiver says =
      record {
        node = k.node;
        sends = all-both (SendIsBounded script) s.sends ((to, frame) ∷ []) k.sends
            (record { receiver = receiver; says = says }, tt);
      }

  -- to the leader
  pub send-first-bounded : (s : Step) (frame : Frame) → StepIsBounded script s → FrameNamesNodes script frame
      → StepIsBounded script (send s 1 frame)
  send-first-bounded s frame k says = send-bounded s 1 frame k (first-is-node s.node.number k.node.number) says

  -- with a further entry
  pub enter-bounded : (s : Step) (pid : ℕ) (call : Call) (outcome : Outcome) → StepIsBounded script s
      → StepIsBounded script (enter_with s pid call outcome)
  enter-bounded s pid call outcome k = record { node = k.node; sends = k.sends }

  -- with a strike that is to come
  pub with-strike-bounded : (s : Step) (now : Bool) → StepIsBounded script s → StepIsBounded script (with_strike s now)
  with-strike-bounded s now k = record { node = k.node; sends = k.sends }

  -- the call under way, if it is this one, has its reply
  pub reply-here-bounded : (s : Step) (reply : Reply) (o : Option Call) → StepIsBounded script s
      → StepIsBounded script (reply_here script s reply o)
  reply-here-bounded s reply None k = k
  reply-here-bounded s reply (Some call) k =
      with-node-bounded s _ k
      (with-caller-bounded s.node (answer_call script s.node.number s.node.caller call reply) k.node
      (λ block. none-is (answer_call script s.node.number s.node.caller call reply).under_way (calls.Fork block)
      (answered-none script s.node.number s.node.caller call reply))
      (λ count create excl.
      none-is (answer_call script s.node.number s.node.caller call reply).under_way
      (calls.SemGet None count create excl) (answered-none script s.node.number s.node.caller call reply)))

  -- with a reply
  pub reply-at-bounded : (s : Step) (caller ticket : ℕ) (reply : Reply) → StepIsBounded script s
      → IsNode script caller → StepIsBounded script (reply_at script s caller ticket reply)
  reply-at-bounded s caller ticket reply k own =
      by_test (StepIsBounded script) (nat_eq caller s.node.number)
      (reply_here script s reply (under_way_as s.node ticket))
      (send s caller (frames.Answer ticket reply))
      (λ _. reply-here-bounded s reply (under_way_as s.node ticket) k)
      (λ _. send-bounded s caller (frames.Answer ticket reply) k own tt)

  -- A call of a node is carried out.
  pub carry-out-bounded : (s : Step) (asked : Asked) (reply : Reply) → StepIsBounded script s
      → IsNode script asked.caller → StepIsBounded script (carry_out script s asked reply)
  carry-out-bounded s asked reply k caller =
      reply-at-bounded (enter s asked.pid asked.call reply) asked.caller asked.ticket reply
      (enter-bounded s asked.pid asked.call (reply_alone reply) k) caller

  reply-if-bounded : (s : Step) (asked : Asked) (own : Option Reply) → StepIsBounded script s
      → IsNode script asked.caller → StepIsBounded script (reply_if script s asked own)
  reply-if-bounded s asked None k caller = k
  reply-if-bounded s asked (Some reply) k caller = reply-at-bounded s asked.caller asked.ticket reply k caller

  wake-all-bounded : (wakes : List Wake) (s : Step) → StepIsBounded script s → WokenAreOfNodes script wakes
      → StepIsBounded script (wake_all script s wakes)
  wake-all-bounded [] s k all = k
  wake-all-bounded (w ∷ wakes) s k all =
      wake-all-bounded wakes (reply_at script s w.caller w.ticket w.reply)
      (reply-at-bounded s w.caller w.ticket w.reply k all.0) all.1

  -- or it waits, and whoever it wakes has a reply
  pub carry-out-waking-bounded : (s : Step) (asked : Asked) (own : Option Reply) (wakes : List Wake)
      → StepIsBounded script s → IsNode script asked.caller → WokenAreOfNodes script wakes
      → StepIsBounded script (carry_out_waking script s asked own wakes)
  carry-out-waking-bounded s asked own wakes k caller all =
      wake-all-bounded wakes
      (reply_if script (enter_with s asked.pid asked.call (outcome_with own wakes)) asked own)
      (reply-if-bounded (enter_with s asked.pid asked.call (outcome_with own wakes)) asked own
      (enter-bounded s asked.pid asked.call (outcome_with own wakes) k) caller) all

  -- ---- serving

  grant-held-bounded : (s : Step) (name : Name) (to : ℕ) (o : Option Body) → StepIsBounded script s → IsNode script to
      → StepIsBounded script (grant_held s name to o)
  grant-held-bounded s name to None k receiver = k
  grant-held-bounded s name to (Some body) k receiver =
      send-bounded _ to (frames.Grant (pack name body))
      (with-node-bounded s _ k
      (with-directory-bounded (without_deed s.node name) (arrive s.node.leader.directory name to)
      (with-tables-bounded s.node (without_named s.node.deeds name) (unwatch s.node.watches name) s.node.leases
      s.node.stage k.node (without-deed-bounded script s.node.deeds name k.node.deeds)
      (unwatched s.node.number s.node.watches name k.node.watches))
      (arrive-names script s.node.leader.directory name to k.node.directory receiver))) receiver tt

  -- the leader grants a deed that it holds
  pub grant-bounded : (s : Step) (name : Name) (to : ℕ) → StepIsBounded script s → IsNode script to
      → StepIsBounded script (grant s name to)
  grant-bounded s name to k receiver =
      grant-held-bounded s name to (get_named s.node.deeds name) k receiver

  move-to-bounded : (s : Step) (name : Name) (o : Option ℕ) → StepIsBounded script s → LeadsToNode script o
      → StepIsBounded script (move_to s name o)
  move-to-bounded s name None k reader = k
  move-to-bounded s name (Some to) k reader =
      by_test (StepIsBounded script) (is_leader s.node)
      (if stays s.node.leader.directory to then grant s name to else s) (send s 1 (frames.Suggest name to))
      (λ _. by_test (StepIsBounded script) (stays s.node.leader.directory to) (grant s name to) s
      (λ _. grant-bounded s name to k reader) (λ _. k))
      (λ _. send-first-bounded s (frames.Suggest name to) k reader)

  -- a name moves to who read it, if at all
  reader-is-node : (w : Watching) (reader : ℕ) → IsNode script reader → LeadsToNode script (move_at w reader)
  reader-is-node w reader k =
      by_test (LeadsToNode script) (nat_eq (run_with w reader) 4) (Some reader) None (λ _. k) (λ _. tt)

  later-is-node : (last before : Option ℕ) → LeadsToNode script last → LeadsToNode script before
      → LeadsToNode script (later last before)
  later-is-node None before k own = own
  later-is-node (Some node) before k own = k

  -- or to the last of those who read it
  last-is-node : (watches : Watches) (owner : ℕ) (name : Name) (readers : List ℕ)
      → AllByRecursion (IsNode script) readers → LeadsToNode script (last_move watches owner name readers)
  last-is-node watches owner name [] all = tt
  last-is-node watches owner name (reader ∷ readers) all =
      later-is-node (last_move (with_read watches owner name reader) owner name readers)
      (moves_to watches owner name reader)
      (last-is-node (with_read watches owner name reader) owner name readers all.1)
      (reader-is-node (watch_over watches owner name) reader all.0)

  -- reads are noted
  pub note-reads-bounded : (s : Step) (name : Name) (readers : List ℕ) → StepIsBounded script s
      → AllByRecursion (IsNode script) readers → StepIsBounded script (note_reads s name readers)
  note-reads-bounded s name readers k all =
      move-to-bounded _ name (last_move s.node.watches s.node.number name readers)
      (with-node-bounded s _ k
      (with-tables-bounded s.node s.node.deeds (with_reads s.node.watches s.node.number name readers) s.node.leases
      s.node.stage k.node k.node.deeds (reads-watched s.node.number s.node.watches name readers k.node.watches)))
      (last-is-node s.node.watches s.node.number name readers all)

  serve-asked-with-bounded : (s : Step) (name : Name) (asked : Asked) (served : Served) → StepIsBounded script s
      → IsNode script asked.caller → ServedNamesNodes script served
      → StepIsBounded script (serve_asked_with script s name asked served)
  serve-asked-with-bounded s name asked served k caller names =
      let struck : Step = with_strike s (is_struck s.node name asked.call)
      in let held : Step = with_deeds struck (put_all s.node.deeds served.changes)
      in note-reads-bounded (carry_out_waking script held asked served.own served.wakes) name served.readers
      (carry-out-waking-bounded held asked served.own served.wakes
      (with-deeds-bounded struck (put_all s.node.deeds served.changes)
      (with-strike-bounded s (is_struck s.node name asked.call) k)
      (put-deeds-bounded script served.changes s.node.deeds k.node.deeds names.changes)) caller names.wakes)
      names.readers

  -- A call of a node is served.
  pub serve-asked-bounded : (s : Step) (name : Name) (asked : Asked) → StepIsBounded script s
      → IsNode script asked.caller → Of (StepIsBounded script) (serve_asked script s name asked)
  serve-asked-bounded s name asked k caller =
      by_test (Of (StepIsBounded script)) (has_room s name asked)
      (option_map (serve_asked_with script s name asked) (serve s.node.deeds (waiting_as asked))) (Some s)
      (λ _. of-map (StepIsBounded script) (serve s.node.deeds (waiting_as asked)) (serve_asked_with script s name asked)
      (λ served is. serve-asked-with-bounded s name asked served k caller
      (of-some (ServedNamesNodes script) (serve s.node.deeds (waiting_as asked)) served
      (served-names script s.node.deeds (waiting_as asked) k.node.deeds caller) is)))
      (λ _. k)

  -- so is one on a number that names nothing
  pub serve-nobody-bounded : (s : Step) (name : Name) (asked : Asked) → StepIsBounded script s
      → IsNode script asked.caller → StepIsBounded script (serve_nobody script s name asked)
  serve-nobody-bounded s name asked k caller =
      carry-out-bounded s asked (replies.Fail (no_such_name name)) k caller

  -- ---- a wait that ends

  -- what is left once a waiter is taken out
  abbrev pub LeavesNodes : Withdrawn → Type 0
  LeavesNodes (Leaves body) = WaitersAreOfNodes script body
  LeavesNodes NotThere = Unit {0}
  LeavesNodes NotHeld = Unit {0}

  withdrawn-in : (pid ticket : ℕ) (o : Option Body) → HeldNamesNodes script o → LeavesNodes (withdraw_in pid ticket o)
  withdrawn-in pid ticket None all = tt
  withdrawn-in pid ticket (Some body) all =
      by_test LeavesNodes (has_waiter body pid ticket) (Leaves (body_without pid ticket body)) NotThere
      (λ _. body-without-names script pid ticket body all) (λ _. tt)

  pub withdrawn-names : (deeds : Deeds) (name : Name) (pid ticket : ℕ) → DeedsAreBounded script deeds
      → LeavesNodes (withdraw deeds name pid ticket)
  withdrawn-names deeds name pid ticket k = withdrawn-in pid ticket (get_named deeds name) (k.waiters name)

  -- the call of a node that waited has EINTR
  pub interrupted-bounded : (s : Step) (name : Name) (asked : Asked) (body : Body) → StepIsBounded script s
      → IsNode script asked.caller → WaitersAreOfNodes script body
      → StepIsBounded script (interrupted script s name asked body)
  interrupted-bounded s name asked body k caller all =
      carry-out-bounded (with_deeds s (put_named s.node.deeds name body)) asked (replies.Fail Eintr)
      (with-deeds-bounded s (put_named s.node.deeds name body) k
      (put-deed-bounded script s.node.deeds name body k.node.deeds all)) caller

  withdraw-by-bounded : (s : Step) (name : Name) (asked : Asked) (w : Withdrawn) → StepIsBounded script s
      → IsNode script asked.caller → LeavesNodes w → StepIsBounded script (withdraw_by script s name asked w)
  withdraw-by-bounded s name asked (Leaves body) k caller all = interrupted-bounded s name asked body k caller all
  withdraw-by-bounded s name asked NotThere k caller all = k
  withdraw-by-bounded s name asked NotHeld k caller all = k

  -- A wait of a call of a node is withdrawn.
  pub withdraw-here-bounded : (s : Step) (name : Name) (asked : Asked) → StepIsBounded script s
      → IsNode script asked.caller → StepIsBounded script (withdraw_here script s name asked)
  withdraw-here-bounded s name asked k caller =
      withdraw-by-bounded s name asked (withdraw s.node.deeds name asked.pid asked.ticket) k caller
      (withdrawn-names s.node.deeds name asked.pid asked.ticket k.node.deeds)
