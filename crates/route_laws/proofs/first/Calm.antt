-- A call of a node's own process that others may carry out is no signal to that process: its route strikes nobody anew.
use Rattle.std.proofs.Common.{◌≡◌, ℕ, Bool, true, false, ◌&&◌, ◌||◌, if◌then◌else◌, List, [], ◌∷◌, length, nat_eq, Option, Some, None, Result, Ok, Err, option_map, refl, ap, sym, subst, ◌∙◌, ◌==◌, inl, inr}
use Rattle.std.specs.Option.{option_map_or}
use Rattle.std.proofs.lemmas.Bool.{cases_Bool, eq-eqb, eqb-true, false≢true}
use Rattle.pico_base.specs.declared.call.Call.{Call}
use Rattle.pico_base.specs.declared.call.Call.TheVariants as calls
use Rattle.pico_base.specs.declared.call.Home.{Home}
use Rattle.pico_base.specs.declared.call.Home.TheVariants as homes
use Rattle.pico_base.specs.declared.numbers.Kind.TheVariants as kinds
use Rattle.pico_base.specs.declared.numbers.Name.{Name}
use Rattle.pico_base.specs.declared.numbers.Name.TheVariants.{Proc, Msg, Sem}
use Rattle.pico_base.specs.declared.reply.Errno.{Errno}
use Rattle.pico_base.specs.declared.reply.Reply.{Reply}
use Rattle.pico_base.specs.declared.reply.Reply.TheVariants as replies
use Rattle.pico_base.specs.declared.script.Script.{Script}
use Rattle.pico_base.specs.declared.signal.SigArg.TheVariants.{Zero, Is, Bad}
use Rattle.pico_base.specs.Home.{home_of, home_of_get, home_of_withdrawal}
use Rattle.rpc_frame.specs.declared.asked.Asked.{Asked}
use Rattle.rpc_frame.specs.declared.frame.Frame.TheVariants as frames
use Rattle.key_table.specs.KeyMap.{key_answer}
use Rattle.key_table.specs.declared.KeyAnswer.{KeyAnswer}
use Rattle.key_table.specs.declared.KeyAnswer.TheVariants as answers
use Rattle.number_maps.specs.Maps.{get}
use Rattle.kernel_laws.proofs.Plain.{Of, by_test, of-map, of-some}
use Rattle.kernel_model.specs.Queue.{empty_queue}
use Rattle.kernel_model.specs.SemaphoreSet.{SemaphoreSet, new_set}
use Rattle.waiting_model.specs.Waiters.{unawaited}
use Rattle.waiting_model.specs.declared.callers.Wake.{Wake}
use Rattle.node_model.specs.declared.held.Held.TheVariants.{Request}
use Rattle.node_model.specs.declared.route.Route.{Route}
use Rattle.node_model.specs.declared.route.Route.TheVariants as routes
use Rattle.node_model.specs.Bodies.{AQueue, ASet, Body}
use Rattle.node_model.specs.Directory.{place_name, route, stays}
use Rattle.node_model.specs.Entries.{outcome_with}
use Rattle.node_model.specs.Kinds.{get_named, is_same_name, put_all, put_named}
use Rattle.node_model.specs.Serving.{serve, signal_strikes, waiting_as}
use Rattle.node_model.specs.Watches.{last_move, with_reads}
use Rattle.world_model.specs.Keys.{bind, create_set, get_by_key, get_queue, get_set, make_bound, make_queue, make_set}
use Rattle.world_model.specs.Node.{Leader, Node, is_leader, own_row}
use Rattle.world_model.specs.Numbers.{take_number}
use Rattle.world_model.specs.Routes.{forward, recall_and_hold, remove_by, remove_here, route_by, route_call, route_home, unbind_name, was_removed}
use Rattle.world_model.specs.Serving.{grant, grant_held, has_room, is_struck, move_to, note_reads, serve_asked, serve_asked_with}
use Rattle.world_model.specs.Step.{Step, carry_out, carry_out_waking, enter, enter_with, reply_at, reply_if, send, wake_all, with_deeds, with_directory, with_node, with_strike}
use Rattle.entry_laws.proofs.Names.{same-name, same-name-is}
use Rattle.world_laws.specs.Callers.{is_on}
use Rattle.route_laws.proofs.served.Steps.{reply-stays}

-- ---- no signal to itself

-- others carry out none of a process's own affairs
on-self-by : (pid other : ℕ) (t : Bool) → (other == pid) ≡ t
    → is_on (Proc pid) (if t then homes.Own else homes.At (Proc other)) ≡ false
on-self-by pid other true is = refl
on-self-by pid other false is =
    elim (cases_Bool (nat_eq pid other)) [
      | inr f ↦ f
      | inl t ↦ absurd (false≢true (sym is ∙ eq-eqb other pid (sym (eqb-true pid other t))))
    ]

on-self-get : (pid : ℕ) (key : Option ℕ) → is_on (Proc pid) (home_of_get key) ≡ false
on-self-get pid None = refl
on-self-get pid (Some key) = refl

on-self-withdrawal : (pid : ℕ) (name : Name) → is_on (Proc pid) (home_of_withdrawal pid name) ≡ false
on-self-withdrawal pid (Proc other) = on-self-by pid other (other == pid) refl
on-self-withdrawal pid (Msg id) = refl
on-self-withdrawal pid (Sem id) = refl

on-self : (pid : ℕ) (call : Call) → is_on (Proc pid) (home_of pid call) ≡ false
on-self pid (calls.Kill other Bad) = refl
on-self pid (calls.Kill other Zero) = on-self-by pid other (other == pid) refl
on-self pid (calls.Kill other (Is sig)) = on-self-by pid other (other == pid) refl
on-self pid (calls.MsgGet key create excl) = on-self-get pid key
on-self pid (calls.SemGet key count create excl) = on-self-get pid key
on-self pid (calls.Withdraw name) = on-self-withdrawal pid name
on-self pid call = refl

-- so none is a signal that strikes the node's process
pub own-strikes-not : (n : Node) (name : Name) (call : Call) → is_on name (home_of n.pid call) ≡ true
    → is_struck n name call ≡ false
own-strikes-not n name call on =
    elim (cases_Bool (is_same_name name (Proc n.pid))) [
      | inr f ↦ ap (λ t. t && option_map_or (λ row. signal_strikes row call) (own_row n) false) f
      | inl t ↦
          absurd (false≢true (sym (on-self n.pid call)
          ∙ subst (λ m. is_on m (home_of n.pid call) ≡ true) (same-name-is name (Proc n.pid) t) on))
    ]

-- ---- what a step does besides

-- it owes no strike that the step before doesn't
abbrev pub OwesAs : Step → Step → Type 0
OwesAs s t = t.strikes ≡ s.strikes

carried-calm : (script : Script) (s : Step) (asked : Asked) (reply : Reply)
    → OwesAs s (carry_out script s asked reply)
carried-calm script s asked reply =
    (reply-stays script (enter s asked.pid asked.call reply) asked.caller asked.ticket reply).strikes

wakes-calm : (script : Script) (s : Step) (wakes : List Wake) → OwesAs s (wake_all script s wakes)
wakes-calm script s [] = refl
wakes-calm script s (z ∷ wakes) =
    wakes-calm script (reply_at script s z.caller z.ticket z.reply) wakes
    ∙ (reply-stays script s z.caller z.ticket z.reply).strikes

replied-calm : (script : Script) (s : Step) (asked : Asked) (own : Option Reply)
    → OwesAs s (reply_if script s asked own)
replied-calm script s asked None = refl
replied-calm script s asked (Some reply) = (reply-stays script s asked.caller asked.ticket reply).strikes

waking-calm : (script : Script) (s : Step) (asked : Asked) (own : Option Reply) (wakes : List Wake)
    → OwesAs s (carry_out_waking script s asked own wakes)
waking-calm script s asked own wakes =
    wakes-calm script (reply_if script entered asked own) wakes ∙ replied-calm script entered asked own
  where
    entered : Step
    entered = enter_with s asked.pid asked.call (outcome_with own wakes)

granted-calm : (s : Step) (name : Name) (to : ℕ) (o : Option Body) → OwesAs s (grant_held s name to o)
granted-calm s name to None = refl
granted-calm s name to (Some body) = refl

moved-calm : (s : Step) (name : Name) (o : Option ℕ) → OwesAs s (move_to s name o)
moved-calm s name None = refl
moved-calm s name (Some to) =
    by_test (OwesAs s) (is_leader s.node) (if stays s.node.leader.directory to then grant s name to else s)
    (send s 1 (frames.Suggest name to))
    (λ leads. by_test (OwesAs s) (stays s.node.leader.directory to) (grant s name to) s
    (λ there. granted-calm s name to (get_named s.node.deeds name)) (λ leaves. refl)) (λ follows. refl)

-- reads are noted
pub noted-calm : (s : Step) (name : Name) (readers : List ℕ) → OwesAs s (note_reads s name readers)
noted-calm s name readers =
    let n : Node = s.node
    in moved-calm (with_node s (record n { watches = with_reads n.watches n.number name readers })) name
    (last_move n.watches n.number name readers)

or-none : (a c : Bool) → c ≡ false → (a || c) ≡ a
or-none true c h = refl
or-none false c h = h

-- ---- the routes

module _ (script : Script) (s : Step) (asked : Asked) where
  abbrev Calm : Option Step → Type 0
  Calm o = Of (OwesAs s) o

  pub served-calm : (name : Name) → is_struck s.node name asked.call ≡ false → Calm (serve_asked script s name asked)
  served-calm name none =
      by_test Calm (has_room s name asked)
      (option_map (serve_asked_with script s name asked) (serve s.node.deeds (waiting_as asked))) (Some s)
      (λ room. of-map (OwesAs s) (serve s.node.deeds (waiting_as asked)) (serve_asked_with script s name asked)
      (λ x is.
      noted-calm
      (carry_out_waking script (with_deeds struck (put_all s.node.deeds x.changes)) asked x.own x.wakes) name x.readers
      ∙ waking-calm script (with_deeds struck (put_all s.node.deeds x.changes)) asked x.own x.wakes
      ∙ or-none s.strikes (is_struck s.node name asked.call) none))
      (λ full. refl)
    where
      struck : Step
      struck = with_strike s (is_struck s.node name asked.call)

  -- keys

  bound-calm : (step : Step) (name : Name) (body : Body) (id : ℕ) (leader : Leader)
      → OwesAs step (make_bound script step asked name body id leader)
  bound-calm step name body id leader =
      let n : Node = step.node
      in carried-calm script
      (with_node step
      (with_directory (record n { deeds = put_named n.deeds name body; leader = leader })
      (place_name leader.directory name n.number))) asked (replies.Num id)

  queue-calm : (key : ℕ) (answer : KeyAnswer) → Calm (get_queue script s asked key answer)
  queue-calm key (answers.Found id count) = carried-calm script s asked _
  queue-calm key (answers.Fail error) = carried-calm script s asked _
  queue-calm key answers.Create =
      of-map (OwesAs s) (take_number s.node kinds.Msg) (make_queue script s asked key)
      (λ t is. let l : Leader = t.node.leader in
      bound-calm (with_node s t.node) (Msg t.number) (AQueue (unawaited empty_queue)) t.number
      (record l { queue_keys = bind l.queue_keys key t.number 0 }))

  made-calm : (key : ℕ) (r : Result SemaphoreSet Errno) → Calm (create_set script s asked key r)
  made-calm key (Err error) = carried-calm script s asked _
  made-calm key (Ok set) =
      of-map (OwesAs s) (take_number s.node kinds.Sem) (make_set script s asked key set)
      (λ t is. let l : Leader = t.node.leader in
      bound-calm (with_node s t.node) (Sem t.number) (ASet (unawaited set)) t.number
      (record l { set_keys = bind l.set_keys key t.number (length set.semaphores) }))

  set-calm : (key count : ℕ) (answer : KeyAnswer) → Calm (get_set script s asked key count answer)
  set-calm key count (answers.Found id size) = carried-calm script s asked _
  set-calm key count (answers.Fail error) = carried-calm script s asked _
  set-calm key count answers.Create = made-calm key (new_set count)

  keys-calm : (call : Call) → Calm (get_by_key script s asked call)
  keys-calm (calls.MsgGet (Some key) create excl) =
      queue-calm key (key_answer (get s.node.leader.queue_keys key) create excl)
  keys-calm (calls.SemGet (Some key) count create excl) =
      set-calm key count (key_answer (get s.node.leader.set_keys key) create excl)
  keys-calm (calls.MsgGet None create excl) = tt
  keys-calm (calls.SemGet None count create excl) = tt
  keys-calm call = tt

  -- names

  module _ (name : Name) (none : is_struck s.node name asked.call ≡ false) where
    at-calm : (r : Route) → Calm (route_by script s name asked r)
    at-calm (routes.At node) =
        by_test Calm (nat_eq node s.node.number) (serve_asked script s name asked) (Some (forward s node asked))
        (λ here. served-calm name none) (λ away. refl)
    at-calm routes.Coming = refl
    at-calm (routes.Range node) = refl
    at-calm routes.Nobody = carried-calm script s asked _

    removed-here-calm : Calm (remove_here script s name asked)
    removed-here-calm =
        of-map (OwesAs s) (serve_asked script s name asked)
        (unbind_name (was_removed (get_named s.node.deeds name)) name)
        (λ t is. of-some (OwesAs s) (serve_asked script s name asked) t (served-calm name none) is)

    removal-calm : (r : Route) → Calm (remove_by script s name asked r)
    removal-calm (routes.At node) =
        by_test Calm (nat_eq node s.node.number) (remove_here script s name asked)
        (Some (recall_and_hold s name (Request asked) node)) (λ here. removed-here-calm) (λ away. refl)
    removal-calm routes.Coming = refl
    removal-calm (routes.Range node) = refl
    removal-calm routes.Nobody = carried-calm script s asked _

  home-calm : ((name : Name) → is_on name (home_of asked.pid asked.call) ≡ true
      → is_struck s.node name asked.call ≡ false) → (home : Home) → home_of asked.pid asked.call ≡ home
      → Calm (route_home script s asked home)
  home-calm none homes.Own is = tt
  home-calm none homes.Keys is = keys-calm asked.call
  home-calm none homes.Parent is = tt
  home-calm none (homes.At name) is =
      at-calm name (none name (ap (is_on name) is ∙ same-name name)) (route s.node.leader.directory name)
  home-calm none (homes.Removal name) is =
      removal-calm name (none name (ap (is_on name) is ∙ same-name name)) (route s.node.leader.directory name)

-- The route of a call of the node's own process owes no further strike.
pub own-route-calm : (script : Script) (s next : Step) (asked : Asked) → asked.pid ≡ s.node.pid
    → route_call script s asked ≡ Some next → next.strikes ≡ s.strikes
own-route-calm script s next asked own is =
    of-some (OwesAs s) (route_call script s asked) next
    (home-calm script s asked
    (λ name on. own-strikes-not s.node name asked.call
    (subst (λ pid. is_on name (home_of pid asked.call) ≡ true) own on)) (home_of asked.pid asked.call) refl) is
