-- Rules that serve a call, end a child or take a withdrawal leave their node's stage: a node that is born stays so.
use Rattle.std.proofs.Common.{◌≡◌, ℕ, not, ◌&&◌, if◌then◌else◌, List, [], ◌∷◌, nat_eq, Option, Some, None, option_map, refl}
use Rattle.std.specs.List.{list_any}
use Rattle.pico_base.specs.declared.call.Call.{Call}
use Rattle.pico_base.specs.declared.call.Home.{Home}
use Rattle.pico_base.specs.declared.call.Home.TheVariants as homes
use Rattle.pico_base.specs.declared.numbers.Name.{Name}
use Rattle.pico_base.specs.declared.numbers.Name.TheVariants.{Proc}
use Rattle.pico_base.specs.declared.reply.Errno.TheVariants.{Eintr}
use Rattle.pico_base.specs.declared.reply.Reply.{Reply}
use Rattle.pico_base.specs.declared.reply.Reply.TheVariants as replies
use Rattle.pico_base.specs.declared.script.Script.{Script}
use Rattle.pico_base.specs.Home.{home_of}
use Rattle.rpc_frame.specs.declared.asked.Asked.{Asked}
use Rattle.rpc_frame.specs.declared.deed.Parcel.{Parcel}
use Rattle.rpc_frame.specs.declared.frame.Frame.TheVariants as frames
use Rattle.kernel_laws.proofs.Plain.{Of, by_test, of-map, of-test, of_choice}
use Rattle.number_maps.specs.Maps.{Numbered}
use Rattle.waiting_model.specs.Calls.{is_withdrawal, withdrawn_from}
use Rattle.waiting_model.specs.declared.callers.Wake.{Wake}
use Rattle.node_model.specs.Bodies.{Body}
use Rattle.node_model.specs.declared.route.Route.{Route}
use Rattle.node_model.specs.declared.route.Route.TheVariants as routes
use Rattle.node_model.specs.Directory.{route, stays}
use Rattle.node_model.specs.Entries.{outcome_with}
use Rattle.node_model.specs.Kinds.{get_named, put_all, put_named}
use Rattle.node_model.specs.Leases.{leases_hold}
use Rattle.node_model.specs.Parcels.{Committed, commit_exit, fitting_bodies}
use Rattle.node_model.specs.Serving.{Leaves, NotHeld, NotThere, Served, Withdrawn, no_such_name, serve, waiting_as, withdraw}
use Rattle.node_model.specs.Watches.{last_move, with_reads}
use Rattle.world_model.specs.Calls.{bounce, bounce_or_nobody, forwarded_by, is_from_leader, requested_by, take_forward, take_request}
use Rattle.world_model.specs.Ends.{answer_own, enter_exit, exit_with, is_struck_by_end, names_in, parked_parent}
use Rattle.world_model.specs.Lives.{take_exit}
use Rattle.world_model.specs.Node.{Node, Stage, holds as node_holds, is_born, is_leader, is_node, under_way_as}
use Rattle.world_model.specs.Routes.{cancel, cancel_by, route_cancel}
use Rattle.world_model.specs.Serving.{grant, grant_held, has_room, interrupted, is_struck, move_to, serve_asked, serve_asked_with, serve_nobody, withdraw_by, withdraw_here}
use Rattle.world_model.specs.Step.{Step, carry_out, enter_with, reply_at, reply_here, reply_if, send, step_to, wake_all, with_deeds, with_node, with_strike}
use Rattle.world_model.specs.Strikes.{cancelled, cancelled_at, take_cancel}

-- its node is in this stage
abbrev pub StageIs : Stage → Step → Type 0
StageIs stage s = let n : Node = s.node in n.stage ≡ stage

module _ (script : Script) (stage : Stage) where
  abbrev Is : Step → Type 0
  Is s = StageIs stage s

  -- ---- replies

  here-is : (s : Step) (reply : Reply) (o : Option Call) → Is s → Is (reply_here script s reply o)
  here-is s reply None h = h
  here-is s reply (Some call) h = h

  reply-is : (s : Step) (caller ticket : ℕ) (reply : Reply) → Is s → Is (reply_at script s caller ticket reply)
  reply-is s caller ticket reply h =
      by_test Is (nat_eq caller s.node.number) (reply_here script s reply (under_way_as s.node ticket))
      (send s caller (frames.Answer ticket reply)) (λ e. here-is s reply (under_way_as s.node ticket) h) (λ e. h)

  woken-is : (wakes : List Wake) (s : Step) → Is s → Is (wake_all script s wakes)
  woken-is [] s h = h
  woken-is (w ∷ wakes) s h =
      woken-is wakes (reply_at script s w.caller w.ticket w.reply) (reply-is s w.caller w.ticket w.reply h)

  replied-is : (s : Step) (asked : Asked) (own : Option Reply) → Is s → Is (reply_if script s asked own)
  replied-is s asked None h = h
  replied-is s asked (Some reply) h = reply-is s asked.caller asked.ticket reply h

  carried-is : (s : Step) (asked : Asked) (reply : Reply) → Is s → Is (carry_out script s asked reply)
  carried-is s asked reply h = reply-is _ asked.caller asked.ticket reply h

  -- ---- serving

  granted-is : (s : Step) (name : Name) (to : ℕ) (o : Option Body) → Is s → Is (grant_held s name to o)
  granted-is s name to None h = h
  granted-is s name to (Some body) h = h

  moved-is : (s : Step) (name : Name) (o : Option ℕ) → Is s → Is (move_to s name o)
  moved-is s name None h = h
  moved-is s name (Some to) h =
      by_test Is (is_leader s.node) (if stays s.node.leader.directory to then grant s name to else s)
      (send s 1 (frames.Suggest name to))
      (λ e. by_test Is (stays s.node.leader.directory to) (grant s name to) s
      (λ t. granted-is s name to (get_named s.node.deeds name) h) (λ t. h)) (λ e. h)

  served-is : (s : Step) (name : Name) (asked : Asked) (served : Served) → Is s
      → Is (serve_asked_with script s name asked served)
  served-is s name asked served h =
      let struck : Step = with_strike s (is_struck s.node name asked.call)
      in let entered : Step =
      enter_with (with_deeds struck (put_all s.node.deeds served.changes)) asked.pid asked.call
      (outcome_with served.own served.wakes)
      in let carried : Step = wake_all script (reply_if script entered asked served.own) served.wakes
      in moved-is
      (let n : Node = carried.node
      in with_node carried (record n { watches = with_reads n.watches n.number name served.readers })) name
      (let n : Node = carried.node in last_move n.watches n.number name served.readers)
      (woken-is served.wakes (reply_if script entered asked served.own) (replied-is entered asked served.own h))

  serve-is : (s : Step) (name : Name) (asked : Asked) → Is s → Of Is (serve_asked script s name asked)
  serve-is s name asked h =
      of_choice Is (has_room s name asked)
      (option_map (serve_asked_with script s name asked) (serve s.node.deeds (waiting_as asked))) (Some s)
      (of-map Is (serve s.node.deeds (waiting_as asked)) (serve_asked_with script s name asked)
      (λ served is. served-is s name asked served h)) h

module _ (script : Script) (n : Node) where
  -- the node's stage
  abbrev Stays : Step → Type 0
  Stays s = StageIs n.stage s

  -- ---- a call that is asked for

  or-nobody : (asked : Asked) (name : Name) → Stays (bounce_or_nobody script n asked name)
  or-nobody asked name =
      by_test Stays (leases_hold n.leases name) (serve_nobody script (step_to n) name asked) (bounce n asked)
      (λ e. carried-is script n.stage (step_to n) asked (replies.Fail (no_such_name name)) refl) (λ e. refl)

  forwarded-stays : (asked : Asked) (home : Home) → Of Stays (forwarded_by script n asked home)
  forwarded-stays asked (homes.At name) =
      of_choice Stays (node_holds n name) (serve_asked script (step_to n) name asked)
      (Some (bounce_or_nobody script n asked name)) (serve-is script n.stage (step_to n) name asked refl)
      (or-nobody asked name)
  forwarded-stays asked (homes.Removal name) =
      of_choice Stays (node_holds n name) (Some (bounce n asked)) (Some (bounce_or_nobody script n asked name)) refl
      (or-nobody asked name)
  forwarded-stays asked home = tt

  pub forward-stays : (sender : ℕ) (asked : Asked) → Of Stays (take_forward script n sender asked)
  forward-stays sender asked =
      of-test Stays (is_from_leader n sender && (is_node script asked.caller && not (is_withdrawal asked.call)))
      (forwarded_by script n asked (home_of asked.pid asked.call))
      (λ e. forwarded-stays asked (home_of asked.pid asked.call))

  requested-stays : (asked : Asked) (home : Home) → Of Stays (requested_by script n asked home)
  requested-stays asked (homes.At name) =
      of_choice Stays (node_holds n name) (serve_asked script (step_to n) name asked)
      (Some (send (step_to n) asked.caller (frames.NotOwner asked.ticket)))
      (serve-is script n.stage (step_to n) name asked refl) refl
  requested-stays asked home = tt

  pub request-stays : (sender ticket pid : ℕ) (call : Call) → Of Stays (take_request script n sender ticket pid call)
  request-stays sender ticket pid call =
      of-test Stays ((is_born n && not (nat_eq sender n.number)) && not (is_withdrawal call))
      (requested_by script n (record { caller = sender; ticket = ticket; pid = pid; call = call }) (home_of pid call))
      (λ e. requested-stays (record { caller = sender; ticket = ticket; pid = pid; call = call }) (home_of pid call))

  -- ---- the end of a child

  answered-is : (wakes : List Wake) (s : Step) → Stays s → Stays (answer_own script s wakes)
  answered-is [] s h = h
  answered-is (w ∷ wakes) s h =
      answered-is wakes (reply_here script s w.reply s.node.caller.under_way)
      (here-is script n.stage s w.reply s.node.caller.under_way h)

  entered-stays : (parcel : Parcel) (c : Committed) → Stays (enter_exit script (step_to n) parcel c)
  entered-stays parcel c =
      answered-is c.wakes
      (enter_with
      (with_deeds (with_strike (step_to n) (is_struck_by_end n parcel.parent)) (put_all n.deeds c.changes)) parcel.pid
      parcel.call (outcome_with (Some replies.Ended) c.wakes)) refl

  exited-stays : (parcel : Parcel) (bodies : Option (Numbered Body)) (parent : Option Body)
      → Of Stays (exit_with script (step_to n) parcel bodies parent)
  exited-stays parcel (Some bodies) (Some parent) =
      of-map Stays (commit_exit parcel bodies (parked_parent n parcel.parent) parent)
      (enter_exit script (step_to n) parcel) (λ c is. entered-stays parcel c)
  exited-stays parcel (Some bodies) None = tt
  exited-stays parcel None parent = tt

  pub exit-stays : (sender : ℕ) (parcel : Parcel) → Of Stays (take_exit script n sender parcel)
  exit-stays sender parcel =
      of-test Stays (is_from_leader n sender && not (list_any (leases_hold n.leases) (names_in parcel)))
      (exit_with script (step_to n) parcel (fitting_bodies n.deeds parcel) (get_named n.deeds (Proc parcel.parent)))
      (λ e. exited-stays parcel (fitting_bodies n.deeds parcel) (get_named n.deeds (Proc parcel.parent)))

  -- ---- a withdrawal

  interrupted-stays : (name : Name) (asked : Asked) (body : Body)
      → Stays (interrupted script (step_to n) name asked body)
  interrupted-stays name asked body =
      carried-is script n.stage (with_deeds (step_to n) (put_named n.deeds name body)) asked (replies.Fail Eintr) refl

  withdrawn-stays : (name : Name) (asked : Asked) (x : Withdrawn) → Stays (withdraw_by script (step_to n) name asked x)
  withdrawn-stays name asked (Leaves body) = interrupted-stays name asked body
  withdrawn-stays name asked NotThere = refl
  withdrawn-stays name asked NotHeld = refl

  routed-stays : (name : Name) (asked : Asked) (r : Route) → Stays (cancel_by script (step_to n) name asked r)
  routed-stays name asked (routes.At node) =
      by_test Stays (nat_eq node n.number) (withdraw_here script (step_to n) name asked)
      (cancel (step_to n) node asked)
      (λ e. withdrawn-stays name asked (withdraw n.deeds name asked.pid asked.ticket)) (λ e. refl)
  routed-stays name asked routes.Coming = refl
  routed-stays name asked (routes.Range node) = refl
  routed-stays name asked routes.Nobody = refl

  taken-stays : (name : Name) (asked : Asked) (x : Withdrawn) → Stays (cancelled_at script n name asked x)
  taken-stays name asked (Leaves body) = interrupted-stays name asked body
  taken-stays name asked NotThere = refl
  taken-stays name asked NotHeld =
      by_test Stays (leases_hold n.leases name) (step_to n) (cancel (step_to n) 1 asked) (λ e. refl) (λ e. refl)

  cancelled-stays : (asked : Asked) (name : Name) → Stays (cancelled script n asked name)
  cancelled-stays asked name =
      by_test Stays (is_leader n) (route_cancel script (step_to n) name asked)
      (cancelled_at script n name asked (withdraw n.deeds name asked.pid asked.ticket))
      (λ e. routed-stays name asked (route n.leader.directory name))
      (λ e. taken-stays name asked (withdraw n.deeds name asked.pid asked.ticket))

  pub cancel-stays : (asked : Asked) → Of Stays (take_cancel script n asked)
  cancel-stays asked =
      of-test Stays (is_born n && is_node script asked.caller)
      (option_map (cancelled script n asked) (withdrawn_from asked.call))
      (λ e. of-map Stays (withdrawn_from asked.call) (cancelled script n asked)
      (λ name is. cancelled-stays asked name))
