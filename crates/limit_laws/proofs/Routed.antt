-- The leader routes a call within limits.
use Rattle.std.proofs.Common.{◌≡◌, Option, Some, None, Result, Err, Ok, ℕ, Bool, true, false, not, ◌&&◌, nat_eq, refl, ◌≤◌, length, ◌||◌}
use Rattle.std.specs.Prelude.{nat_le}
use Rattle.frame_bytes.specs.Limits.{is_frame, is_nonzero}
use Rattle.kernel_laws.proofs.Plain.{by_test, Of, of-map, of-some}
use Rattle.kernel_laws.specs.Sets.{IsSetWithinLimits}
use Rattle.kernel_model.specs.Queue.{empty_queue}
use Rattle.kernel_model.specs.Script.{IsSoundScript}
use Rattle.kernel_model.specs.SemaphoreSet.{SemaphoreSet, new_set}
use Rattle.key_table.specs.KeyMap.{key_answer}
use Rattle.key_table.specs.declared.KeyAnswer.TheVariants as answers
use Rattle.key_table.specs.declared.KeyAnswer.{KeyAnswer}
use Rattle.limit_laws.proofs.Frames.{cancelled-has-ticket, cancelled-is-held, forwarded-has-ticket, forwarded-is-held, recall-is-frame}
use Rattle.kernel_laws.proofs.QueueLaws.{queue-within-rule}
use Rattle.kernel_laws.proofs.SetLaws.{set-within-rule}
use Rattle.limit_laws.proofs.Named.{deeds-get, deeds-put, without-caller-within}
use Rattle.limit_laws.proofs.NewNames.{IsTakenWithin, take-number-within}
use Rattle.limit_laws.proofs.Replies.{fail-is-short, num-is-short}
use Rattle.limit_laws.proofs.Steps.{IsCalledOn, at-name, at-removal, tables-within, leader-within, with-node-within, with-deeds-within, with-directory-step, send-within, carry-out-within, placed-within, recalled-within, hold-within, known-has-number, serve-asked-within, serve-nobody-within}
use Rattle.limit_laws.proofs.Waking.{unawaited-within}
use Rattle.limit_laws.specs.Within.{CanGoOn, IsDeedWithin, IsReplyShort, IsItemWithin, IsDirectoryWithin, IsNodeWithin, IsStepWithin}
use Rattle.node_model.specs.Bodies.{Body, AQueue, ASet}
use Rattle.node_model.specs.Directory.{Directory, Place, Coming, place_of, place_name, route, recall, hold, maker, maker_stays, route_by as place_route, route_by_maker, At}
use Rattle.node_model.specs.Kinds.{number_of, get_named, put_named}
use Rattle.node_model.specs.Serving.{Withdrawn, Leaves, NotThere, NotHeld, body_without, has_waiter, withdraw, withdraw_in}
use Rattle.node_model.specs.declared.held.Held.TheVariants.{Request}
use Rattle.node_model.specs.declared.held.Held.{Held}
use Rattle.node_model.specs.declared.route.Route.TheVariants as routes
use Rattle.node_model.specs.declared.route.Route.{Route}
use Rattle.number_maps.specs.Maps.{get}
use Rattle.pico_base.specs.Home.{home_of}
use Rattle.pico_base.specs.declared.call.Call.TheVariants as calls
use Rattle.pico_base.specs.declared.call.Call.{Call}
use Rattle.pico_base.specs.declared.call.Home.TheVariants as homes
use Rattle.pico_base.specs.declared.call.Home.{Home}
use Rattle.pico_base.specs.declared.numbers.Kind.TheVariants as kinds
use Rattle.pico_base.specs.declared.numbers.Name.TheVariants.{Proc, Msg, Sem}
use Rattle.pico_base.specs.declared.numbers.Name.{Name}
use Rattle.pico_base.specs.declared.reply.Errno.TheVariants.{Einval, Eintr}
use Rattle.pico_base.specs.declared.reply.Errno.{Errno}
use Rattle.pico_base.specs.declared.reply.Reply.TheVariants as replies
use Rattle.pico_base.specs.declared.reply.Reply.{Reply}
use Rattle.pico_base.specs.declared.script.Script.{Script}
use Rattle.rpc_frame.specs.declared.asked.Asked.{Asked}
use Rattle.rpc_frame.specs.declared.frame.Frame.TheVariants as frames
use Rattle.waiting_model.specs.Calls.{withdrawn_from}
use Rattle.waiting_model.specs.Waiters.{unawaited}
use Rattle.world_model.specs.Node.{Node, Leader}
use Rattle.world_model.specs.Numbers.{Taken, take_number}
use Rattle.world_model.specs.Keys.{find_set, bind, create_set, get_queue, get_set, make_set, get_by_key, make_bound, make_queue, without_key}
use Rattle.world_model.specs.Routes.{cancel, cancel_by, route_cancel, route_held, route_held_by, route_by, recall_from, route_call, was_removed, hold_item, forward, recall_and_hold, remove_by, remove_here, route_home, unbind_name, keys_after}
use Rattle.world_model.specs.Serving.{interrupted, serve_asked, withdraw_by, withdraw_here}
use Rattle.world_model.specs.Step.{Step, with_deeds, with_directory, with_node, carry_out, with_leader}

-- where a call goes by a name's place, the name has a number
abbrev IsRouteWithin : Name → Route → Type 0
IsRouteWithin name (routes.At node) = 1 ≤ number_of name
IsRouteWithin name routes.Coming = Unit {0}
IsRouteWithin name (routes.Range node) = Unit {0}
IsRouteWithin name routes.Nobody = Unit {0}

module _ (script : Script) (sound : IsSoundScript script) where
  abbrev NodeIs : Node → Type 0
  NodeIs n = IsNodeWithin script n

  abbrev StepIs : Step → Type 0
  StepIs s = IsStepWithin script s

  -- a call that others carry out, and that can be sent on
  abbrev CanRoute : Asked → Type 0
  CanRoute asked = is_frame (frames.Forward asked) ≡ true

  -- ---- the keys

  make-bound-within : (s : Step) (asked : Asked) (name : Name) (body : Body) (id : ℕ) (l : Leader) → StepIs s
      → CanRoute asked → IsDirectoryWithin l.directory → IsDeedWithin s.node.pid s.node.caller.line name body
      → StepIs (make_bound script s asked name body id l)
  make-bound-within s asked name body id l k can places deed =
      let n : Node = s.node
      in let d : Directory = place_name l.directory name n.number
      in let kept : Node = record n { deeds = put_named n.deeds name body }
      in let kept_within : NodeIs kept =
      tables-within script sound n n.stage (put_named n.deeds name body) n.watches n.leases n.cache k.node
      (deeds-put n.pid n.caller.line n.deeds name body k.node.deeds deed) k.node.leases
      in let made : Node = record n { deeds = put_named n.deeds name body; leader = l }
      in carry-out-within script sound (with_node s (with_directory made d)) asked (replies.Num id)
      (with-node-within script sound s (with_directory made d) k
      (leader-within script sound kept (record l { directory = d }) kept_within
      (placed-within script sound l.directory name n.number places deed.0)))
      (forwarded-has-ticket asked can) (λ _. num-is-short id)

  make-queue-within : (s : Step) (asked : Asked) (key : ℕ) (t : Taken) → StepIs s → CanRoute asked
      → IsTakenWithin script s.node t → StepIs (make_queue script s asked key t)
  make-queue-within s asked key t k can taken =
      make-bound-within (with_node s t.node) asked (Msg t.number) (AQueue (unawaited empty_queue)) t.number
      (record t.node.leader { queue_keys = bind t.node.leader.queue_keys key t.number 0 })
      (with-node-within script sound s t.node k taken.node) can taken.node.directory
      (taken.low, unawaited-within queue-within-rule.new)

  make-set-within : (s : Step) (asked : Asked) (key : ℕ) (set : SemaphoreSet) (t : Taken) → StepIs s → CanRoute asked
      → IsSetWithinLimits set → IsTakenWithin script s.node t → StepIs (make_set script s asked key set t)
  make-set-within s asked key set t k can fits taken =
      make-bound-within (with_node s t.node) asked (Sem t.number) (ASet (unawaited set)) t.number
      (record t.node.leader { set_keys = bind t.node.leader.set_keys key t.number (length set.semaphores) })
      (with-node-within script sound s t.node k taken.node) can taken.node.directory (taken.low, unawaited-within fits)

  reply-within : (s : Step) (asked : Asked) (reply : Reply) → StepIs s → CanRoute asked → IsReplyShort reply
      → StepIs (carry_out script s asked reply)
  reply-within s asked reply k can short =
      carry-out-within script sound s asked reply k (forwarded-has-ticket asked can) (λ _. short)

  get-queue-within : (s : Step) (asked : Asked) (key : ℕ) (answer : KeyAnswer) → StepIs s → CanRoute asked
      → Of StepIs (get_queue script s asked key answer)
  get-queue-within s asked key (answers.Found id count) k can =
      reply-within s asked (replies.Num id) k can (num-is-short id)
  get-queue-within s asked key answers.Create k can =
      of-map StepIs (take_number s.node kinds.Msg) (make_queue script s asked key)
      (λ t is. make-queue-within s asked key t k can
      (of-some (IsTakenWithin script s.node) (take_number s.node kinds.Msg) t
      (take-number-within script sound s.node kinds.Msg k.node) is))
  get-queue-within s asked key (answers.Fail e) k can =
      reply-within s asked (replies.Fail e) k can (fail-is-short e)

  create-set-within : (s : Step) (asked : Asked) (key : ℕ) (r : Result SemaphoreSet Errno) → StepIs s
      → CanRoute asked → ((set : SemaphoreSet) → r ≡ Ok set → IsSetWithinLimits set)
      → Of StepIs (create_set script s asked key r)
  create-set-within s asked key (Err e) k can fits = reply-within s asked (replies.Fail e) k can (fail-is-short e)
  create-set-within s asked key (Ok set) k can fits =
      of-map StepIs (take_number s.node kinds.Sem) (make_set script s asked key set)
      (λ t is. make-set-within s asked key set t k can (fits set refl)
      (of-some (IsTakenWithin script s.node) (take_number s.node kinds.Sem) t
      (take-number-within script sound s.node kinds.Sem k.node) is))

  find-set-is-short : (id size count : ℕ) → IsReplyShort (find_set id size count)
  find-set-is-short id size count =
      by_test IsReplyShort (nat_eq count 0 || nat_le count size) (replies.Num id) (replies.Fail Einval)
      (λ _. num-is-short id) (λ _. fail-is-short Einval)

  get-set-within : (s : Step) (asked : Asked) (key count : ℕ) (answer : KeyAnswer) → StepIs s → CanRoute asked
      → Of StepIs (get_set script s asked key count answer)
  get-set-within s asked key count (answers.Found id size) k can =
      reply-within s asked (find_set id size count) k can (find-set-is-short id size count)
  get-set-within s asked key count answers.Create k can =
      create-set-within s asked key (new_set count) k can (set-within-rule.new count)
  get-set-within s asked key count (answers.Fail e) k can =
      reply-within s asked (replies.Fail e) k can (fail-is-short e)

  get-by-key-within : (s : Step) (asked : Asked) (call : Call) → StepIs s → CanRoute asked
      → Of StepIs (get_by_key script s asked call)
  get-by-key-within s asked (calls.MsgGet (Some key) create excl) k can =
      get-queue-within s asked key (key_answer (get s.node.leader.queue_keys key) create excl) k can
  get-by-key-within s asked (calls.SemGet (Some key) count create excl) k can =
      get-set-within s asked key count (key_answer (get s.node.leader.set_keys key) create excl) k can
  get-by-key-within s asked (calls.MsgGet None create excl) k can = tt
  get-by-key-within s asked (calls.SemGet None count create excl) k can = tt
  get-by-key-within s asked call k can = tt

  -- ---- calls on a name

  -- an item is held
  pub hold-item-within : (s : Step) (name : Name) (item : Held) → StepIs s → IsItemWithin item
      → StepIs (hold_item s name item)
  hold-item-within s name item k own =
      with-directory-step script sound s (hold s.node.leader.directory name item) k
      (hold-within script sound s.node.leader.directory name item k.node.directory own)

  -- a name is asked back from its owner
  pub recall-from-within : (s : Step) (name : Name) (to : Option ℕ) (owner : ℕ) → StepIs s → 1 ≤ number_of name
      → StepIs (recall_from s name to owner)
  recall-from-within s name to owner k low =
      send-within script sound (with_node s (with_directory s.node (recall s.node.leader.directory name to))) owner
      (frames.Recall name)
      (with-directory-step script sound s (recall s.node.leader.directory name to) k
      (recalled-within script sound s.node.leader.directory name to k.node.directory low)) (recall-is-frame name low) tt

  recall-and-hold-within : (s : Step) (name : Name) (item : Held) (owner : ℕ) → StepIs s → 1 ≤ number_of name
      → IsItemWithin item → StepIs (recall_and_hold s name item owner)
  recall-and-hold-within s name item owner k low own =
      let d : Directory = hold (recall s.node.leader.directory name None) name item
      in send-within script sound (with_node s (with_directory s.node d)) owner (frames.Recall name)
      (with-directory-step script sound s d k
      (hold-within script sound (recall s.node.leader.directory name None) name item
      (recalled-within script sound s.node.leader.directory name None k.node.directory low) own))
      (recall-is-frame name low) tt

  without-key-within : (l : Leader) (name : Name) → IsDirectoryWithin l.directory
      → IsDirectoryWithin (without_key l name).directory
  without-key-within l (Proc pid) k = k
  without-key-within l (Msg id) k = k
  without-key-within l (Sem id) k = k

  keys-after-within : (refused : Bool) (l : Leader) (name : Name) → IsDirectoryWithin l.directory
      → IsDirectoryWithin (keys_after refused l name).directory
  keys-after-within true l name k = k
  keys-after-within false l name k = without-key-within l name k

  unbind-name-within : (refused : Bool) (name : Name) (s : Step) → StepIs s → StepIs (unbind_name refused name s)
  unbind-name-within refused name s k =
      with-node-within script sound s (with_leader s.node (keys_after refused s.node.leader name)) k
      (leader-within script sound s.node (keys_after refused s.node.leader name) k.node
      (keys-after-within refused s.node.leader name k.node.directory))

  forward-within : (s : Step) (to : ℕ) (asked : Asked) → StepIs s → CanRoute asked → StepIs (forward s to asked)
  forward-within s to asked k can = send-within script sound s to (frames.Forward asked) k can tt

  maker-route : (name : Name) (stays_there : Bool) (made_by : Option ℕ)
      → IsRouteWithin name (route_by_maker stays_there made_by)
  maker-route name stays_there None = tt
  maker-route name stays_there (Some node) =
      by_test (IsRouteWithin name) (stays_there && not (nat_eq node 1)) (routes.Range node) routes.Nobody (λ _. tt)
      (λ _. tt)

  place-route : (d : Directory) (name : Name) (o : Option Place) (stays_there : Bool) (made_by : Option ℕ)
      → IsDirectoryWithin d → place_of d name ≡ o → IsRouteWithin name (place_route o stays_there made_by)
  place-route d name None stays_there made_by k is = maker-route name stays_there made_by
  place-route d name (Some (At node)) stays_there made_by k is =
      known-has-number script sound d name (At node) k is
  place-route d name (Some (Coming to items)) stays_there made_by k is = tt

  route-within : (d : Directory) (name : Name) → IsDirectoryWithin d → IsRouteWithin name (route d name)
  route-within d name k =
      place-route d name (place_of d name) (maker_stays d (maker d name)) (maker d name) k refl

  route-by-within : (s : Step) (name : Name) (asked : Asked) (r : Route) → StepIs s → CanRoute asked
      → IsCalledOn name asked → IsRouteWithin name r → Of StepIs (route_by script s name asked r)
  route-by-within s name asked (routes.At node) k can on at =
      by_test (Of StepIs) (nat_eq node s.node.number) (serve_asked script s name asked)
      (Some (forward s node asked))
      (λ _. serve-asked-within script sound s name asked k (forwarded-has-ticket asked can) on at)
      (λ _. forward-within s node asked k can)
  route-by-within s name asked routes.Coming k can on at =
      hold-item-within s name (Request asked) k (forwarded-is-held asked can)
  route-by-within s name asked (routes.Range node) k can on at = forward-within s node asked k can
  route-by-within s name asked routes.Nobody k can on at =
      serve-nobody-within script sound s name asked k (forwarded-has-ticket asked can)

  remove-by-within : (s : Step) (name : Name) (asked : Asked) (r : Route) → StepIs s → CanRoute asked
      → IsCalledOn name asked → IsRouteWithin name r → Of StepIs (remove_by script s name asked r)
  remove-by-within s name asked (routes.At node) k can on at =
      by_test (Of StepIs) (nat_eq node s.node.number) (remove_here script s name asked)
      (Some (recall_and_hold s name (Request asked) node))
      (λ _. of-map StepIs (serve_asked script s name asked)
      (unbind_name (was_removed (get_named s.node.deeds name)) name)
      (λ next is. unbind-name-within (was_removed (get_named s.node.deeds name)) name next
      (of-some StepIs (serve_asked script s name asked) next
      (serve-asked-within script sound s name asked k (forwarded-has-ticket asked can) on at) is)))
      (λ _. recall-and-hold-within s name (Request asked) node k at (forwarded-is-held asked can))
  remove-by-within s name asked routes.Coming k can on at = route-by-within s name asked routes.Coming k can on at
  remove-by-within s name asked (routes.Range node) k can on at =
      route-by-within s name asked (routes.Range node) k can on at
  remove-by-within s name asked routes.Nobody k can on at = route-by-within s name asked routes.Nobody k can on at

  route-home-within : (s : Step) (asked : Asked) (home : Home) → home_of asked.pid asked.call ≡ home → StepIs s
      → CanRoute asked → Of StepIs (route_home script s asked home)
  route-home-within s asked homes.Own is k can = tt
  route-home-within s asked homes.Keys is k can = get-by-key-within s asked asked.call k can
  route-home-within s asked (homes.At name) is k can =
      route-by-within s name asked (route s.node.leader.directory name) k can (at-name asked name is)
      (route-within s.node.leader.directory name k.node.directory)
  route-home-within s asked (homes.Removal name) is k can =
      remove-by-within s name asked (route s.node.leader.directory name) k can (at-removal asked name is)
      (route-within s.node.leader.directory name k.node.directory)
  route-home-within s asked homes.Parent is k can = tt

  -- A call that can be sent on is routed.
  pub route-call-within : (s : Step) (asked : Asked) → StepIs s → CanRoute asked
      → Of StepIs (route_call script s asked)
  route-call-within s asked k can = route-home-within s asked (home_of asked.pid asked.call) refl k can

  -- ---- the ends of waits

  -- the end of a wait that can be sent on
  abbrev CanCancel : Asked → Type 0
  CanCancel asked = is_frame (frames.Cancel asked) ≡ true

  -- it is sent on
  pub cancel-within : (s : Step) (to : ℕ) (asked : Asked) → StepIs s → CanCancel asked → StepIs (cancel s to asked)
  cancel-within s to asked k can = send-within script sound s to (frames.Cancel asked) k can tt

  -- who waited doesn't wait any more
  pub interrupted-within : (s : Step) (name : Name) (asked : Asked) (body : Body) → StepIs s
      → is_nonzero asked.ticket ≡ true → IsDeedWithin s.node.pid s.node.caller.line name body
      → StepIs (interrupted script s name asked body)
  interrupted-within s name asked body k ticket deed =
      let n : Node = s.node
      in carry-out-within script sound (with_deeds s (put_named n.deeds name body)) asked (replies.Fail Eintr)
      (with-deeds-within script sound s (put_named n.deeds name body) k
      (deeds-put n.pid n.caller.line n.deeds name body k.node.deeds deed)) ticket (λ _. fail-is-short Eintr)

  -- what a withdrawal leaves of a deed that is held
  abbrev pub LeavesWithin : Step → Name → Withdrawn → Type 0
  LeavesWithin s name (Leaves body) = IsDeedWithin s.node.pid s.node.caller.line name body
  LeavesWithin s name NotThere = Unit {0}
  LeavesWithin s name NotHeld = Unit {0}

  left-within : (s : Step) (name : Name) (pid ticket : ℕ) (o : Option Body) → StepIs s
      → get_named s.node.deeds name ≡ o → LeavesWithin s name (withdraw_in pid ticket o)
  left-within s name pid ticket None k is = tt
  left-within s name pid ticket (Some body) k is =
      let n : Node = s.node
      in let deed = deeds-get n.pid n.caller.line n.deeds name body k.node.deeds is
      in by_test (LeavesWithin s name) (has_waiter body pid ticket) (Leaves (body_without pid ticket body)) NotThere
      (λ _. (deed.0, without-caller-within n.pid n.caller.line name body pid ticket deed.1)) (λ _. tt)

  -- it is within the limits
  pub withdrawn-within : (s : Step) (name : Name) (pid ticket : ℕ) → StepIs s
      → LeavesWithin s name (withdraw s.node.deeds name pid ticket)
  withdrawn-within s name pid ticket k = left-within s name pid ticket (get_named s.node.deeds name) k refl

  withdraw-by-within : (s : Step) (name : Name) (asked : Asked) (w : Withdrawn) → StepIs s
      → is_nonzero asked.ticket ≡ true → LeavesWithin s name w → StepIs (withdraw_by script s name asked w)
  withdraw-by-within s name asked (Leaves body) k ticket deed = interrupted-within s name asked body k ticket deed
  withdraw-by-within s name asked NotThere k ticket deed = k
  withdraw-by-within s name asked NotHeld k ticket deed = k

  cancel-by-within : (s : Step) (name : Name) (asked : Asked) (r : Route) → StepIs s → CanCancel asked
      → withdrawn_from asked.call ≡ Some name → StepIs (cancel_by script s name asked r)
  cancel-by-within s name asked (routes.At node) k can is =
      by_test StepIs (nat_eq node s.node.number) (withdraw_here script s name asked) (cancel s node asked)
      (λ _. withdraw-by-within s name asked (withdraw s.node.deeds name asked.pid asked.ticket) k
      (cancelled-has-ticket asked can) (withdrawn-within s name asked.pid asked.ticket k))
      (λ _. cancel-within s node asked k can)
  cancel-by-within s name asked routes.Coming k can is =
      hold-item-within s name (Request asked) k (cancelled-is-held asked name is can)
  cancel-by-within s name asked (routes.Range node) k can is = cancel-within s node asked k can
  cancel-by-within s name asked routes.Nobody k can is = k

  -- The end of a wait that can be sent on goes the way of its call.
  pub route-cancel-within : (s : Step) (name : Name) (asked : Asked) → StepIs s → CanCancel asked
      → withdrawn_from asked.call ≡ Some name → StepIs (route_cancel script s name asked)
  route-cancel-within s name asked k can is =
      cancel-by-within s name asked (route s.node.leader.directory name) k can is

  route-held-by : (s : Step) (asked : Asked) (o : Option Name) → StepIs s → withdrawn_from asked.call ≡ o
      → CanGoOn asked o → Of StepIs (route_held_by script s asked o)
  route-held-by s asked None k is can = route-call-within s asked k can
  route-held-by s asked (Some name) k is can = route-cancel-within s name asked k can is

  -- What was held is routed.
  pub route-held-within : (s : Step) (asked : Asked) → StepIs s → IsItemWithin (Request asked)
      → Of StepIs (route_held script s asked)
  route-held-within s asked k can = route-held-by s asked (withdrawn_from asked.call) k refl can
