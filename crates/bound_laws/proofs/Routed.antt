-- The leader routes a call: bounds stay in every world in the middle of an event.
use Rattle.std.proofs.Common.{ℕ, Bool, true, false, not, nat_eq, length, Option, Some, None, Result, Ok, Err}
use Rattle.pico_base.specs.declared.call.Call.{Call}
use Rattle.pico_base.specs.declared.call.Call.TheVariants as calls
use Rattle.pico_base.specs.declared.call.Home.{Home}
use Rattle.pico_base.specs.declared.call.Home.TheVariants as homes
use Rattle.pico_base.specs.declared.numbers.Kind.TheVariants as kinds
use Rattle.pico_base.specs.declared.numbers.Name.{Name}
use Rattle.pico_base.specs.declared.numbers.Name.TheVariants.{Proc, Msg, Sem}
use Rattle.pico_base.specs.declared.reply.Errno.{Errno}
use Rattle.pico_base.specs.declared.reply.Reply.TheVariants as replies
use Rattle.pico_base.specs.declared.script.Script.{Script}
use Rattle.pico_base.specs.Home.{home_of}
use Rattle.key_table.specs.KeyMap.{key_answer}
use Rattle.key_table.specs.declared.KeyAnswer.{KeyAnswer}
use Rattle.key_table.specs.declared.KeyAnswer.TheVariants as answers
use Rattle.rpc_frame.specs.declared.asked.Asked.{Asked}
use Rattle.rpc_frame.specs.declared.frame.Frame.TheVariants as frames
use Rattle.number_maps.specs.Maps.{get}
use Rattle.number_maps.specs.Rising.{IsRising}
use Rattle.number_maps.proofs.Rising.{rising-filter, rising-put}
use Rattle.kernel_laws.proofs.Plain.{Of, by_test, of-map, of-some}
use Rattle.kernel_model.specs.Queue.{empty_queue}
use Rattle.kernel_model.specs.SemaphoreSet.{SemaphoreSet, new_set}
use Rattle.waiting_model.specs.Waiters.{unawaited}
use Rattle.waiting_model.specs.Calls.{withdrawn_from}
use Rattle.node_model.specs.declared.held.Held.{Held}
use Rattle.node_model.specs.declared.held.Held.TheVariants.{Request}
use Rattle.node_model.specs.declared.route.Route.{Route}
use Rattle.node_model.specs.declared.route.Route.TheVariants as routes
use Rattle.node_model.specs.Bodies.{AQueue, ASet, Body}
use Rattle.node_model.specs.Directory.{Directory, hold, place_name, recall, route}
use Rattle.node_model.specs.Kinds.{get_named, put_named}
use Rattle.world_model.specs.Keys.{bind, create_set, find_set, get_by_key, get_queue, get_set, make_bound, make_queue, make_set, without_key}
use Rattle.world_model.specs.Node.{Leader, Node}
use Rattle.world_model.specs.Numbers.{Taken, take_number}
use Rattle.world_model.specs.Routes.{forward, hold_item, keys_after, recall_and_hold, recall_from, remove_by, remove_here, route_by, route_call, route_home, unbind_name, was_removed, cancel, cancel_by, route_cancel, route_held, route_held_by}
use Rattle.world_model.specs.Serving.{serve_asked, withdraw_here}
use Rattle.world_model.specs.Step.{Step, with_directory, with_leader, with_node}
use Rattle.world_model.specs.World.{IsNode}
use Rattle.bound_laws.specs.Bounded.{ItemIsOfNode, LeadsToNode, NamesNodes, NodeIsBounded, StepIsBounded, WaitersAreOfNodes}
use Rattle.bound_laws.proofs.NewNames.{take-number-bounded}
use Rattle.bound_laws.proofs.Parts.{RouteNamesNode, hold-names, place-name-names, recall-names, route-is-node}
use Rattle.bound_laws.proofs.StepParts.{carry-out-bounded, send-bounded, serve-asked-bounded, serve-nobody-bounded, with-directory-bounded, with-node-bounded, send-first-bounded, withdraw-here-bounded}
use Rattle.bound_laws.proofs.Waiters.{put-deed-bounded}

module _ (script : Script) where
  -- the leader's tables
  record LeaderIsBounded (l : Leader) : Type 0 where
    directory : NamesNodes script l.directory
    queue_keys : IsRising l.queue_keys
    set_keys : IsRising l.set_keys

  leader-of : (n : Node) → NodeIsBounded script n → LeaderIsBounded n.leader
  leader-of n k = record { directory = k.directory; queue_keys = k.queue_keys; set_keys = k.set_keys }

  with-leader-bounded : (n : Node) (l : Leader) → NodeIsBounded script n → LeaderIsBounded l
      → NodeIsBounded script (with_leader n l)
  with-leader-bounded n l k own =
      record {
        number = k.number;
        parent_node = k.parent_node;
        fork = k.fork;
        size = k.size;
        deeds = k.deeds;
        watches = k.watches;
        cache = k.cache;
        directory = own.directory;
        queue_keys = own.queue_keys;
        set_keys = own.set_keys;
      }

  -- ---- the keys

  make-bound-bounded : (s : Step) (asked : Asked) (name : Name) (body : Body) (id : ℕ) (l : Leader)
      → StepIsBounded script s → LeaderIsBounded l → IsNode script asked.caller → WaitersAreOfNodes script body
      → StepIsBounded script (make_bound script s asked name body id l)
  make-bound-bounded s asked name body id l k own caller all =
      let n : Node = s.node
      in let made : Node = record n { deeds = put_named n.deeds name body; leader = l }
      in let d : Directory = place_name l.directory name n.number
      in carry-out-bounded script (with_node s (with_directory made d)) asked (replies.Num id)
      (with-node-bounded script s (with_directory made d) k
      (record {
        number = k.node.number;
        parent_node = k.node.parent_node;
        fork = k.node.fork;
        size = k.node.size;
        deeds = put-deed-bounded script n.deeds name body k.node.deeds all;
        watches = k.node.watches;
        cache = k.node.cache;
        directory = place-name-names script l.directory name n.number own.directory k.node.number;
        queue_keys = own.queue_keys;
        set_keys = own.set_keys;
      })) caller

  make-queue-bounded : (s : Step) (asked : Asked) (key : ℕ) (t : Taken) → StepIsBounded script s
      → NodeIsBounded script t.node → IsNode script asked.caller
      → StepIsBounded script (make_queue script s asked key t)
  make-queue-bounded s asked key t k taken caller =
      make-bound-bounded (with_node s t.node) asked (Msg t.number) (AQueue (unawaited empty_queue)) t.number
      (record t.node.leader { queue_keys = bind t.node.leader.queue_keys key t.number 0 })
      (with-node-bounded script s t.node k taken)
      (record {
        directory = taken.directory;
        queue_keys = rising-put t.node.leader.queue_keys key _ taken.queue_keys;
        set_keys = taken.set_keys;
      }) caller tt

  make-set-bounded : (s : Step) (asked : Asked) (key : ℕ) (set : SemaphoreSet) (t : Taken) → StepIsBounded script s
      → NodeIsBounded script t.node → IsNode script asked.caller
      → StepIsBounded script (make_set script s asked key set t)
  make-set-bounded s asked key set t k taken caller =
      make-bound-bounded (with_node s t.node) asked (Sem t.number) (ASet (unawaited set)) t.number
      (record t.node.leader { set_keys = bind t.node.leader.set_keys key t.number (length set.semaphores) })
      (with-node-bounded script s t.node k taken)
      (record {
        directory = taken.directory;
        queue_keys = taken.queue_keys;
        set_keys = rising-put t.node.leader.set_keys key _ taken.set_keys;
      }) caller tt

  get-queue-bounded : (s : Step) (asked : Asked) (key : ℕ) (answer : KeyAnswer) → StepIsBounded script s
      → IsNode script asked.caller → Of (StepIsBounded script) (get_queue script s asked key answer)
  get-queue-bounded s asked key (answers.Found id count) k caller =
      carry-out-bounded script s asked (replies.Num id) k caller
  get-queue-bounded s asked key answers.Create k caller =
      of-map (StepIsBounded script) (take_number s.node kinds.Msg) (make_queue script s asked key)
      (λ t is. make-queue-bounded s asked key t k
      (of-some _ (take_number s.node kinds.Msg) t (take-number-bounded script s.node kinds.Msg k.node) is) caller)
  get-queue-bounded s asked key (answers.Fail e) k caller =
      carry-out-bounded script s asked (replies.Fail e) k caller

  create-set-bounded : (s : Step) (asked : Asked) (key : ℕ) (r : Result SemaphoreSet Errno) → StepIsBounded script s
      → IsNode script asked.caller → Of (StepIsBounded script) (create_set script s asked key r)
  create-set-bounded s asked key (Err e) k caller = carry-out-bounded script s asked (replies.Fail e) k caller
  create-set-bounded s asked key (Ok set) k caller =
      of-map (StepIsBounded script) (take_number s.node kinds.Sem) (make_set script s asked key set)
      (λ t is. make-set-bounded s asked key set t k
      (of-some _ (take_number s.node kinds.Sem) t (take-number-bounded script s.node kinds.Sem k.node) is) caller)

  get-set-bounded : (s : Step) (asked : Asked) (key count : ℕ) (answer : KeyAnswer) → StepIsBounded script s
      → IsNode script asked.caller → Of (StepIsBounded script) (get_set script s asked key count answer)
  get-set-bounded s asked key count (answers.Found id size) k caller =
      carry-out-bounded script s asked (find_set id size count) k caller
  get-set-bounded s asked key count answers.Create k caller =
      create-set-bounded s asked key (new_set count) k caller
  get-set-bounded s asked key count (answers.Fail e) k caller =
      carry-out-bounded script s asked (replies.Fail e) k caller

  get-by-key-bounded : (s : Step) (asked : Asked) (call : Call) → StepIsBounded script s → IsNode script asked.caller
      → Of (StepIsBounded script) (get_by_key script s asked call)
  get-by-key-bounded s asked (calls.MsgGet (Some key) create excl) k caller =
      get-queue-bounded s asked key (key_answer (get s.node.leader.queue_keys key) create excl) k caller
  get-by-key-bounded s asked (calls.SemGet (Some key) count create excl) k caller =
      get-set-bounded s asked key count (key_answer (get s.node.leader.set_keys key) create excl) k caller
  get-by-key-bounded s asked (calls.MsgGet None create excl) k caller = tt
  get-by-key-bounded s asked (calls.SemGet None count create excl) k caller = tt
  get-by-key-bounded s asked call k caller = tt

  -- ---- calls on a name

  -- an item is held
  pub hold-item-bounded : (s : Step) (name : Name) (item : Held) → StepIsBounded script s → ItemIsOfNode script item
      → StepIsBounded script (hold_item s name item)
  hold-item-bounded s name item k own =
      with-node-bounded script s (with_directory s.node (hold s.node.leader.directory name item)) k
      (with-directory-bounded script s.node (hold s.node.leader.directory name item) k.node
      (hold-names script s.node.leader.directory name item k.node.directory own))

  -- a name is asked back from its owner
  pub recall-from-bounded : (s : Step) (name : Name) (to : Option ℕ) (owner : ℕ) → StepIsBounded script s
      → LeadsToNode script to → IsNode script owner → StepIsBounded script (recall_from s name to owner)
  recall-from-bounded s name to owner k own receiver =
      send-bounded script (with_node s (with_directory s.node (recall s.node.leader.directory name to))) owner
      (frames.Recall name)
      (with-node-bounded script s (with_directory s.node (recall s.node.leader.directory name to)) k
      (with-directory-bounded script s.node (recall s.node.leader.directory name to) k.node
      (recall-names script s.node.leader.directory name to k.node.directory own))) receiver tt

  recall-and-hold-bounded : (s : Step) (name : Name) (item : Held) (owner : ℕ) → StepIsBounded script s
      → ItemIsOfNode script item → IsNode script owner → StepIsBounded script (recall_and_hold s name item owner)
  recall-and-hold-bounded s name item owner k own receiver =
      let d : Directory = hold (recall s.node.leader.directory name None) name item
      in send-bounded script (with_node s (with_directory s.node d)) owner (frames.Recall name)
      (with-node-bounded script s (with_directory s.node d) k
      (with-directory-bounded script s.node d k.node
      (hold-names script (recall s.node.leader.directory name None) name item
      (recall-names script s.node.leader.directory name None k.node.directory tt) own))) receiver tt

  without-key-bounded : (l : Leader) (name : Name) → LeaderIsBounded l → LeaderIsBounded (without_key l name)
  without-key-bounded l (Proc pid) k = k
  without-key-bounded l (Msg id) k =
      record {
        directory = k.directory;
        queue_keys = rising-filter (λ e. not (nat_eq e.1.id id)) l.queue_keys k.queue_keys;
        set_keys = k.set_keys;
      }
  without-key-bounded l (Sem id) k =
      record {
        directory = k.directory;
        queue_keys = k.queue_keys;
        set_keys = rising-filter (λ e. not (nat_eq e.1.id id)) l.set_keys k.set_keys;
      }

  keys-after-bounded : (refused : Bool) (l : Leader) (name : Name) → LeaderIsBounded l
      → LeaderIsBounded (keys_after refused l name)
  keys-after-bounded true l name k = k
  keys-after-bounded false l name k = without-key-bounded l name k

  unbind-name-bounded : (refused : Bool) (name : Name) (s : Step) → StepIsBounded script s
      → StepIsBounded script (unbind_name refused name s)
  unbind-name-bounded refused name s k =
      with-node-bounded script s (with_leader s.node (keys_after refused s.node.leader name)) k
      (with-leader-bounded s.node (keys_after refused s.node.leader name) k.node
      (keys-after-bounded refused s.node.leader name (leader-of s.node k.node)))

  forward-bounded : (s : Step) (to : ℕ) (asked : Asked) → StepIsBounded script s → IsNode script to
      → IsNode script asked.caller → StepIsBounded script (forward s to asked)
  forward-bounded s to asked k receiver caller = send-bounded script s to (frames.Forward asked) k receiver caller

  route-by-bounded : (s : Step) (name : Name) (asked : Asked) (r : Route) → StepIsBounded script s
      → RouteNamesNode script r → IsNode script asked.caller
      → Of (StepIsBounded script) (route_by script s name asked r)
  route-by-bounded s name asked (routes.At node) k at caller =
      by_test (Of (StepIsBounded script)) (nat_eq node s.node.number) (serve_asked script s name asked)
      (Some (forward s node asked)) (λ _. serve-asked-bounded script s name asked k caller)
      (λ _. forward-bounded s node asked k at caller)
  route-by-bounded s name asked routes.Coming k at caller = hold-item-bounded s name (Request asked) k caller
  route-by-bounded s name asked (routes.Range node) k at caller = forward-bounded s node asked k at caller
  route-by-bounded s name asked routes.Nobody k at caller = serve-nobody-bounded script s name asked k caller

  remove-by-bounded : (s : Step) (name : Name) (asked : Asked) (r : Route) → StepIsBounded script s
      → RouteNamesNode script r → IsNode script asked.caller
      → Of (StepIsBounded script) (remove_by script s name asked r)
  remove-by-bounded s name asked (routes.At node) k at caller =
      by_test (Of (StepIsBounded script)) (nat_eq node s.node.number)
      (remove_here script s name asked)
      (Some (recall_and_hold s name (Request asked) node))
      (λ _. of-map (StepIsBounded script) (serve_asked script s name asked)
      (unbind_name (was_removed (get_named s.node.deeds name)) name)
      (λ next is. unbind-name-bounded (was_removed (get_named s.node.deeds name)) name next
      (of-some (StepIsBounded script) (serve_asked script s name asked) next
      (serve-asked-bounded script s name asked k caller) is)))
      (λ _. recall-and-hold-bounded s name (Request asked) node k caller at)
  remove-by-bounded s name asked routes.Coming k at caller =
      route-by-bounded s name asked routes.Coming k at caller
  remove-by-bounded s name asked (routes.Range node) k at caller =
      route-by-bounded s name asked (routes.Range node) k at caller
  remove-by-bounded s name asked routes.Nobody k at caller =
      route-by-bounded s name asked routes.Nobody k at caller

  route-home-bounded : (s : Step) (asked : Asked) (home : Home) → StepIsBounded script s → IsNode script asked.caller
      → Of (StepIsBounded script) (route_home script s asked home)
  route-home-bounded s asked homes.Own k caller = tt
  route-home-bounded s asked homes.Keys k caller = get-by-key-bounded s asked asked.call k caller
  route-home-bounded s asked (homes.At name) k caller =
      route-by-bounded s name asked (route s.node.leader.directory name) k
      (route-is-node script s.node.leader.directory name k.node.directory) caller
  route-home-bounded s asked (homes.Removal name) k caller =
      remove-by-bounded s name asked (route s.node.leader.directory name) k
      (route-is-node script s.node.leader.directory name k.node.directory) caller
  route-home-bounded s asked homes.Parent k caller = tt

  -- A call of a node is routed.
  pub route-call-bounded : (s : Step) (asked : Asked) → StepIsBounded script s → IsNode script asked.caller
      → Of (StepIsBounded script) (route_call script s asked)
  route-call-bounded s asked k caller = route-home-bounded s asked (home_of asked.pid asked.call) k caller

  -- ---- withdrawals

  cancel-bounded : (s : Step) (to : ℕ) (asked : Asked) → StepIsBounded script s → IsNode script to
      → IsNode script asked.caller → StepIsBounded script (cancel s to asked)
  cancel-bounded s to asked k receiver caller = send-bounded script s to (frames.Cancel asked) k receiver caller

  -- to the leader
  pub cancel-first-bounded : (s : Step) (asked : Asked) → StepIsBounded script s → IsNode script asked.caller
      → StepIsBounded script (cancel s 1 asked)
  cancel-first-bounded s asked k caller = send-first-bounded script s (frames.Cancel asked) k caller

  cancel-by-bounded : (s : Step) (name : Name) (asked : Asked) (r : Route) → StepIsBounded script s
      → RouteNamesNode script r → IsNode script asked.caller → StepIsBounded script (cancel_by script s name asked r)
  cancel-by-bounded s name asked (routes.At node) k at caller =
      by_test (StepIsBounded script) (nat_eq node s.node.number) (withdraw_here script s name asked)
      (cancel s node asked) (λ _. withdraw-here-bounded script s name asked k caller)
      (λ _. cancel-bounded s node asked k at caller)
  cancel-by-bounded s name asked routes.Coming k at caller = hold-item-bounded s name (Request asked) k caller
  cancel-by-bounded s name asked (routes.Range node) k at caller = cancel-bounded s node asked k at caller
  cancel-by-bounded s name asked routes.Nobody k at caller = k

  -- A withdrawal of a call of a node is routed.
  pub route-cancel-bounded : (s : Step) (name : Name) (asked : Asked) → StepIsBounded script s
      → IsNode script asked.caller → StepIsBounded script (route_cancel script s name asked)
  route-cancel-bounded s name asked k caller =
      cancel-by-bounded s name asked (route s.node.leader.directory name) k
      (route-is-node script s.node.leader.directory name k.node.directory) caller

  route-held-by-bounded : (s : Step) (asked : Asked) (o : Option Name) → StepIsBounded script s
      → IsNode script asked.caller → Of (StepIsBounded script) (route_held_by script s asked o)
  route-held-by-bounded s asked None k caller = route-call-bounded s asked k caller
  route-held-by-bounded s asked (Some name) k caller = route-cancel-bounded s name asked k caller

  -- What was held, a call or its withdrawal, is routed.
  pub route-held-bounded : (s : Step) (asked : Asked) → StepIsBounded script s → IsNode script asked.caller
      → Of (StepIsBounded script) (route_held script s asked)
  route-held-bounded s asked k caller = route-held-by-bounded s asked (withdrawn_from asked.call) k caller
