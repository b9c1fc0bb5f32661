-- Whether the leader can route a call that is asked for doesn't depend on its own caller or its cache.
use Rattle.std.proofs.Common.{◌≡◌, ℕ, Bool, true, false, nat_eq, Some, None, Result, Ok, Err, refl}
use Rattle.std.specs.Prelude.{if◌then◌else◌}
use Rattle.std.specs.Option.{option_map}
use Rattle.pico_base.specs.declared.call.Call.{Call}
use Rattle.pico_base.specs.declared.call.Call.TheVariants as calls
use Rattle.pico_base.specs.declared.call.Home.{Home}
use Rattle.pico_base.specs.declared.call.Home.TheVariants as homes
use Rattle.pico_base.specs.declared.numbers.Kind.TheVariants as kinds
use Rattle.pico_base.specs.declared.numbers.Name.{Name}
use Rattle.pico_base.specs.declared.reply.Errno.{Errno}
use Rattle.pico_base.specs.declared.script.Script.{Script}
use Rattle.pico_base.specs.Home.{home_of}
use Rattle.rpc_frame.specs.declared.asked.Asked.{Asked}
use Rattle.key_table.specs.KeyMap.{key_answer}
use Rattle.key_table.specs.declared.KeyAnswer.{KeyAnswer}
use Rattle.key_table.specs.declared.KeyAnswer.TheVariants as answers
use Rattle.number_maps.specs.Maps.{get}
use Rattle.kernel_model.specs.SemaphoreSet.{SemaphoreSet, new_set}
use Rattle.node_model.specs.declared.route.Route.{Route}
use Rattle.node_model.specs.declared.route.Route.TheVariants as routes
use Rattle.node_model.specs.Cache.{Cache}
use Rattle.node_model.specs.Caller.{Caller}
use Rattle.node_model.specs.Directory.{route}
use Rattle.node_model.specs.Kinds.{get_named}
use Rattle.node_model.specs.Serving.{serve, waiting_as}
use Rattle.world_model.specs.Keys.{create_set, get_by_key, get_queue, get_set, make_queue, make_set}
use Rattle.world_model.specs.Numbers.{take_number}
use Rattle.world_model.specs.Routes.{remove_by, remove_here, route_by, route_call, route_home, unbind_name, was_removed}
use Rattle.world_model.specs.Serving.{has_room, serve_asked, serve_asked_with}
use Rattle.world_model.specs.Step.{Step}
use Rattle.start_rules.specs.Started.{aside}
use Rattle.start_rules.proofs.Numbers.{no-map, no-number}

module _ (script : Script) (step : Step) (caller : Caller) (cache : Cache) (asked : Asked) where
  -- by a key
  no_queue : (key : ℕ) (answer : KeyAnswer) → get_queue script step asked key answer ≡ None
      → get_queue script (aside step caller cache) asked key answer ≡ None
  no_queue key (answers.Found id count) none = absurd (cc)
  no_queue key (answers.Fail e) none = absurd (cc)
  no_queue key answers.Create none =
      no-map (make_queue script step asked key) (make_queue script (aside step caller cache) asked key)
      (take_number step.node kinds.Msg) (take_number (aside step caller cache).node kinds.Msg)
      (no-number step.node caller cache kinds.Msg) none

  no_new_set : (key : ℕ) (made : Result SemaphoreSet Errno) → create_set script step asked key made ≡ None
      → create_set script (aside step caller cache) asked key made ≡ None
  no_new_set key (Err e) none = absurd (cc)
  no_new_set key (Ok set) none =
      no-map (make_set script step asked key set) (make_set script (aside step caller cache) asked key set)
      (take_number step.node kinds.Sem) (take_number (aside step caller cache).node kinds.Sem)
      (no-number step.node caller cache kinds.Sem) none

  no_set : (key count : ℕ) (answer : KeyAnswer) → get_set script step asked key count answer ≡ None
      → get_set script (aside step caller cache) asked key count answer ≡ None
  no_set key count (answers.Found id size) none = absurd (cc)
  no_set key count (answers.Fail e) none = absurd (cc)
  no_set key count answers.Create none = no_new_set key (new_set count) none

  -- what a key leads to, or the call is about no key
  no_key : (call : Call) → get_by_key script step asked call ≡ None
      → get_by_key script (aside step caller cache) asked call ≡ None
  no_key (calls.MsgGet (Some key) create excl) none =
      no_queue key (key_answer (get step.node.leader.queue_keys key) create excl) none
  no_key (calls.SemGet (Some key) count create excl) none =
      no_set key count (key_answer (get step.node.leader.set_keys key) create excl) none
  no_key call none = refl

  -- on a name, by whether there is room for one more who waits there
  unserved_where : (name : Name) (room : Bool)
      → (if room
      then option_map (serve_asked_with script step name asked) (serve step.node.deeds (waiting_as asked))
      else Some step) ≡ None
      → (if room
      then option_map (serve_asked_with script (aside step caller cache) name asked)
      (serve step.node.deeds (waiting_as asked))
      else Some (aside step caller cache)) ≡ None
  unserved_where name true none =
      no-map (serve_asked_with script step name asked) (serve_asked_with script (aside step caller cache) name asked)
      (serve step.node.deeds (waiting_as asked)) (serve step.node.deeds (waiting_as asked)) (λ is. is) none
  unserved_where name false none = absurd (cc)

  unserved : (name : Name) → serve_asked script step name asked ≡ None
      → serve_asked script (aside step caller cache) name asked ≡ None
  unserved name none = unserved_where name (has_room step name asked) none

  unserved_here : (name : Name) (here : Bool) (sent : Step) (instead : Step)
      → (if here then serve_asked script step name asked else Some sent) ≡ None
      → (if here then serve_asked script (aside step caller cache) name asked else Some instead) ≡ None
  unserved_here name true sent instead none = unserved name none
  unserved_here name false sent instead none = absurd (cc)

  no_route_by : (name : Name) (way : Route) → route_by script step name asked way ≡ None
      → route_by script (aside step caller cache) name asked way ≡ None
  no_route_by name (routes.At node) none = unserved_here name (nat_eq node step.node.number) _ _ none
  no_route_by name routes.Coming none = absurd (cc)
  no_route_by name (routes.Range node) none = absurd (cc)
  no_route_by name routes.Nobody none = absurd (cc)

  unremoved : (name : Name) → remove_here script step name asked ≡ None
      → remove_here script (aside step caller cache) name asked ≡ None
  unremoved name none =
      no-map (unbind_name (was_removed (get_named step.node.deeds name)) name)
      (unbind_name (was_removed (get_named step.node.deeds name)) name) (serve_asked script step name asked)
      (serve_asked script (aside step caller cache) name asked) (unserved name) none

  unremoved_here : (name : Name) (here : Bool) (sent : Step) (instead : Step)
      → (if here then remove_here script step name asked else Some sent) ≡ None
      → (if here then remove_here script (aside step caller cache) name asked else Some instead) ≡ None
  unremoved_here name true sent instead none = unremoved name none
  unremoved_here name false sent instead none = absurd (cc)

  no_removal : (name : Name) (way : Route) → remove_by script step name asked way ≡ None
      → remove_by script (aside step caller cache) name asked way ≡ None
  no_removal name (routes.At node) none = unremoved_here name (nat_eq node step.node.number) _ _ none
  no_removal name routes.Coming none = absurd (cc)
  no_removal name (routes.Range node) none = absurd (cc)
  no_removal name routes.Nobody none = absurd (cc)

  -- by home
  no_home : (home : Home) → route_home script step asked home ≡ None
      → route_home script (aside step caller cache) asked home ≡ None
  no_home homes.Own none = refl
  no_home homes.Parent none = refl
  no_home homes.Keys none = no_key asked.call none
  no_home (homes.At name) none = no_route_by name (route step.node.leader.directory name) none
  no_home (homes.Removal name) none = no_removal name (route step.node.leader.directory name) none

  -- a call that can't be routed can't be with another caller and another cache either
  pub no-route : route_call script step asked ≡ None → route_call script (aside step caller cache) asked ≡ None
  no-route none = no_home (home_of asked.pid asked.call) none
