-- A call or a withdrawal that is routed leaves no more parcels held than there were.
use Rattle.std.proofs.Common.{◌≡◌, ◌∙◌, ℕ, ◌≤◌, Bool, true, false, ◌&&◌, not, if◌then◌else◌, List, [], ◌∷◌, ◌++◌, length, nat_eq, Option, Some, None, option_map, Result, Ok, Err, refl, ap, sym, subst, arith}
use Rattle.pico_base.specs.declared.call.Call.{Call}
use Rattle.pico_base.specs.declared.call.Call.TheVariants as calls
use Rattle.pico_base.specs.declared.call.Home.{Home}
use Rattle.pico_base.specs.declared.call.Home.TheVariants as homes
use Rattle.pico_base.specs.declared.numbers.Kind.{Kind}
use Rattle.pico_base.specs.declared.numbers.Kind.TheVariants as kinds
use Rattle.pico_base.specs.declared.numbers.Name.{Name}
use Rattle.pico_base.specs.declared.numbers.Name.TheVariants.{Proc, Msg, Sem}
use Rattle.pico_base.specs.declared.reply.Errno.{Errno}
use Rattle.pico_base.specs.declared.reply.Reply.{Reply}
use Rattle.pico_base.specs.declared.reply.Reply.TheVariants as replies
use Rattle.pico_base.specs.declared.script.Script.{Script}
use Rattle.pico_base.specs.Home.{home_of}
use Rattle.rpc_frame.specs.declared.asked.Asked.{Asked}
use Rattle.rpc_frame.specs.declared.frame.Frame.TheVariants as frames
use Rattle.key_table.specs.KeyMap.{key_answer}
use Rattle.key_table.specs.declared.KeyAnswer.{KeyAnswer}
use Rattle.key_table.specs.declared.KeyAnswer.TheVariants as answers
use Rattle.number_maps.specs.Maps.{get}
use Rattle.kernel_model.specs.Queue.{empty_queue}
use Rattle.kernel_model.specs.SemaphoreSet.{SemaphoreSet, new_set}
use Rattle.waiting_model.specs.declared.callers.Wake.{Wake}
use Rattle.waiting_model.specs.Calls.{withdrawn_from}
use Rattle.waiting_model.specs.Waiters.{unawaited}
use Rattle.node_model.specs.declared.held.Held.TheVariants.{Request}
use Rattle.node_model.specs.declared.route.Route.{Route}
use Rattle.node_model.specs.declared.route.Route.TheVariants as routes
use Rattle.node_model.specs.Kinds.{Named, get_named, for_kind, put_named, put_all}
use Rattle.node_model.specs.Bodies.{Body, AQueue, ASet}
use Rattle.node_model.specs.Directory.{Directory, Place, At, Coming, place_of, with_place, place_name, is_known, hold_at, recall, items_of, parcels_in, parcels_held, route, stays, has_more, upcoming}
use Rattle.node_model.specs.Leases.{lease_of}
use Rattle.node_model.specs.Entries.{outcome_with}
use Rattle.node_model.specs.Serving.{Leaves, NotHeld, NotThere, Served, Withdrawn, serve, waiting_as, withdraw}
use Rattle.node_model.specs.Watches.{last_move, with_reads}
use Rattle.world_model.specs.Node.{Node, Leader, is_leader, under_way_as}
use Rattle.world_model.specs.Step.{Step, with_node, with_deeds, with_directory, with_strike, send, enter, enter_with, reply_at, reply_here, reply_if, carry_out, carry_out_waking, wake_all, wake_one}
use Rattle.world_model.specs.Numbers.{Taken, take_first, take_from, take_from_next, take_number, with_next_range, knows_any}
use Rattle.world_model.specs.Serving.{grant_held, grant, has_room, is_struck, move_to, note_reads, serve_asked, serve_asked_with, withdraw_by, withdraw_here}
use Rattle.world_model.specs.Keys.{bind, make_bound, make_queue, make_set, get_queue, get_set, create_set, get_by_key}
use Rattle.world_model.specs.Routes.{cancel, cancel_by, hold_item, recall_and_hold, unbind_name, forward, route_by, remove_by, remove_here, route_held, route_held_by, route_home, route_call, was_removed}
use Rattle.route_laws.proofs.release.Parcels.{PlacesRise, parcels_among, among-both, no-more-held, with-place-rises}

-- the leader's directory in a step
abbrev pub directory_in : Step → Directory
directory_in s =
    let n : Node = s.node
    in n.leader.directory

-- no more parcels are held in the second step than in the first
abbrev pub HoldsNoMore : Step → Step → Type 0
HoldsNoMore s t = parcels_held (directory_in t) ≤ parcels_held (directory_in s)

-- where there is a second step
abbrev pub NoMoreIn : Step → Option Step → Type 0
NoMoreIn s None = Unit {0}
NoMoreIn s (Some t) = HoldsNoMore s t

same-is-no-more : (s t : Step) → directory_in t ≡ directory_in s → HoldsNoMore s t
same-is-no-more s t e = omega (arith, ap parcels_held e)

map-no-more : {A : Type 0} (s : Step) (f : A → Step) → ((x : A) → HoldsNoMore s (f x)) → (o : Option A)
    → NoMoreIn s (option_map f o)
map-no-more s f all None = tt
map-no-more s f all (Some x) = all x

-- ---- a call is carried out

reply-here-same : (script : Script) (s : Step) (reply : Reply) (o : Option Call)
    → directory_in (reply_here script s reply o) ≡ directory_in s
reply-here-same script s reply None = refl
reply-here-same script s reply (Some call) = refl

reply-at-same : (script : Script) (s : Step) (caller ticket : ℕ) (reply : Reply)
    → directory_in (reply_at script s caller ticket reply) ≡ directory_in s
reply-at-same script s caller ticket reply = by-test (nat_eq caller s.node.number)
  where
    by-test : (t : Bool)
        → directory_in
        (if t then reply_here script s reply (under_way_as s.node ticket)
        else send s caller (frames.Answer ticket reply))
        ≡ directory_in s
    by-test true = reply-here-same script s reply (under_way_as s.node ticket)
    by-test false = refl

carried-same : (script : Script) (s : Step) (asked : Asked) (reply : Reply)
    → directory_in (carry_out script s asked reply) ≡ directory_in s
carried-same script s asked reply =
    reply-at-same script (enter s asked.pid asked.call reply) asked.caller asked.ticket reply

reply-if-same : (script : Script) (s : Step) (asked : Asked) (own : Option Reply)
    → directory_in (reply_if script s asked own) ≡ directory_in s
reply-if-same script s asked None = refl
reply-if-same script s asked (Some reply) = reply-at-same script s asked.caller asked.ticket reply

wakes-same : (script : Script) (s : Step) (wakes : List Wake)
    → directory_in (wake_all script s wakes) ≡ directory_in s
wakes-same script s [] = refl
wakes-same script s (w ∷ wakes) =
    wakes-same script (wake_one script s w) wakes ∙ reply-at-same script s w.caller w.ticket w.reply

woken-same : (script : Script) (s : Step) (asked : Asked) (own : Option Reply) (wakes : List Wake)
    → directory_in (carry_out_waking script s asked own wakes) ≡ directory_in s
woken-same script s asked own wakes =
    let entered : Step = enter_with s asked.pid asked.call (outcome_with own wakes)
    in wakes-same script (reply_if script entered asked own) wakes ∙ reply-if-same script entered asked own

carried-no-more : (script : Script) (s : Step) (asked : Asked) (reply : Reply)
    → HoldsNoMore s (carry_out script s asked reply)
carried-no-more script s asked reply =
    same-is-no-more s (carry_out script s asked reply) (carried-same script s asked reply)

-- ---- a name moves to who has read it

grant-no-more : (s : Step) (name : Name) (to : ℕ) (o : Option Body) → PlacesRise (directory_in s)
    → HoldsNoMore s (grant_held s name to o)
grant-no-more s name to None r = omega arith
grant-no-more s name to (Some body) r = no-more-held (directory_in s) name (At to) r (omega arith)

move-no-more : (s : Step) (name : Name) (o : Option ℕ) → PlacesRise (directory_in s) → HoldsNoMore s (move_to s name o)
move-no-more s name None r = omega arith
move-no-more s name (Some to) r = by-tests (is_leader s.node) (stays (directory_in s) to)
  where
    by-tests : (t u : Bool)
        → HoldsNoMore s
        (if t then if u then grant s name to else s else send s 1 (frames.Suggest name to))
    by-tests true true = grant-no-more s name to (get_named s.node.deeds name) r
    by-tests true false = omega arith
    by-tests false u = omega arith

reads-no-more : (s : Step) (name : Name) (readers : List ℕ) → PlacesRise (directory_in s)
    → HoldsNoMore s (note_reads s name readers)
reads-no-more s name readers r =
    let n : Node = s.node
    in move-no-more (with_node s (record n { watches = with_reads n.watches n.number name readers })) name
    (last_move n.watches n.number name readers) r

-- ---- a call is served

abbrev done_with : Script → Step → Name → Asked → Served → Step
done_with script s name asked served =
    carry_out_waking script
    (with_deeds (with_strike s (is_struck s.node name asked.call)) (put_all s.node.deeds served.changes)) asked
    served.own served.wakes

done-same : (script : Script) (s : Step) (name : Name) (asked : Asked) (served : Served)
    → directory_in (done_with script s name asked served) ≡ directory_in s
done-same script s name asked served =
    woken-same script
    (with_deeds (with_strike s (is_struck s.node name asked.call)) (put_all s.node.deeds served.changes)) asked
    served.own served.wakes

served-no-more : (script : Script) (s : Step) (name : Name) (asked : Asked) (served : Served)
    → PlacesRise (directory_in s) → HoldsNoMore s (serve_asked_with script s name asked served)
served-no-more script s name asked served r =
    let done : Step = done_with script s name asked served
    in let same : directory_in done ≡ directory_in s = done-same script s name asked served
    in omega (
      arith,
      reads-no-more done name served.readers (subst (λ (d : Directory). PlacesRise d) (sym same) r),
      ap parcels_held same,
    )

serve-no-more : (script : Script) (s : Step) (name : Name) (asked : Asked) → PlacesRise (directory_in s)
    → NoMoreIn s (serve_asked script s name asked)
serve-no-more script s name asked r = by-test (has_room s name asked)
  where
    by-test : (t : Bool)
        → NoMoreIn s
        (if t then option_map (serve_asked_with script s name asked) (serve s.node.deeds (waiting_as asked))
        else Some s)
    by-test true =
        map-no-more s (serve_asked_with script s name asked)
        (λ served. served-no-more script s name asked served r) (serve s.node.deeds (waiting_as asked))
    by-test false = omega arith

unbind-same : (refused : Bool) (name : Name) (t : Step)
    → directory_in (unbind_name refused name t) ≡ directory_in t
unbind-same true name t = refl
unbind-same false (Proc pid) t = refl
unbind-same false (Msg id) t = refl
unbind-same false (Sem id) t = refl

unbind-no-more : (s : Step) (refused : Bool) (name : Name) (o : Option Step) → NoMoreIn s o
    → NoMoreIn s (option_map (unbind_name refused name) o)
unbind-no-more s refused name None h = tt
unbind-no-more s refused name (Some t) h = omega (arith, ap parcels_held (unbind-same refused name t), h)

-- ---- a call is held

hold-no-more : (d : Directory) (name : Name) (asked : Asked) (o : Option Place) → place_of d name ≡ o → PlacesRise d
    → parcels_held (hold_at d name (Request asked) o) ≤ parcels_held d
hold-no-more d name asked None e r = omega arith
hold-no-more d name asked (Some (At node)) e r = omega arith
hold-no-more d name asked (Some (Coming to items)) e r =
    no-more-held d name (Coming to (items ++ Request asked ∷ [])) r
    (omega (arith, among-both items (Request asked ∷ []), ap (λ o. parcels_among (items_of o)) e))

held-no-more : (s : Step) (name : Name) (asked : Asked) → PlacesRise (directory_in s)
    → HoldsNoMore s (hold_item s name (Request asked))
held-no-more s name asked r =
    hold-no-more (directory_in s) name asked (place_of (directory_in s) name) refl r

recalled-no-more : (s : Step) (name : Name) (asked : Asked) (owner : ℕ) → PlacesRise (directory_in s)
    → HoldsNoMore s (recall_and_hold s name (Request asked) owner)
recalled-no-more s name asked owner r =
    let d : Directory = recall (directory_in s) name None
    in omega (
      arith,
      no-more-held (directory_in s) name (Coming None []) r (omega arith),
      hold-no-more d name asked (place_of d name) refl (with-place-rises (directory_in s) name (Coming None []) r),
    )

-- ---- by where it goes

routed-no-more : (script : Script) (s : Step) (name : Name) (asked : Asked) (to : Route) → PlacesRise (directory_in s)
    → NoMoreIn s (route_by script s name asked to)
routed-no-more script s name asked (routes.At node) r = by-test (nat_eq node s.node.number)
  where
    by-test : (t : Bool) → NoMoreIn s (if t then serve_asked script s name asked else Some (forward s node asked))
    by-test true = serve-no-more script s name asked r
    by-test false = omega arith
routed-no-more script s name asked routes.Coming r = held-no-more s name asked r
routed-no-more script s name asked (routes.Range node) r = omega arith
routed-no-more script s name asked routes.Nobody r = carried-no-more script s asked _

removed-no-more : (script : Script) (s : Step) (name : Name) (asked : Asked) (to : Route) → PlacesRise (directory_in s)
    → NoMoreIn s (remove_by script s name asked to)
removed-no-more script s name asked (routes.At node) r = by-test (nat_eq node s.node.number)
  where
    by-test : (t : Bool)
        → NoMoreIn s
        (if t then remove_here script s name asked
        else Some (recall_and_hold s name (Request asked) node))
    by-test true =
        unbind-no-more s (was_removed (get_named s.node.deeds name)) name (serve_asked script s name asked)
        (serve-no-more script s name asked r)
    by-test false = recalled-no-more s name asked node r
removed-no-more script s name asked routes.Coming r = held-no-more s name asked r
removed-no-more script s name asked (routes.Range node) r = omega arith
removed-no-more script s name asked routes.Nobody r = carried-no-more script s asked _

-- ---- keys

-- where there is a number, the leader's places are as they were
abbrev TakenLeaves : Node → Option Taken → Type 0
TakenLeaves n None = Unit {0}
TakenLeaves n (Some t) = t.node.leader.directory.places ≡ n.leader.directory.places

first-leaves : (n m : Node) (kind : Kind) (numbers : List ℕ)
    → m.leader.directory.places ≡ n.leader.directory.places → TakenLeaves n (take_first m kind numbers)
first-leaves n m kind [] e = tt
first-leaves n m kind (number ∷ numbers) e = e

next-leaves : (n : Node) (kind : Kind) → TakenLeaves n (take_from_next n kind)
next-leaves n kind =
    let d : Directory = n.leader.directory
    in by-test (has_more d kind && not (knows_any d kind (lease_of (upcoming d kind))))
  where
    by-test : (t : Bool)
        → TakenLeaves n
        (if t then take_first (with_next_range n kind) kind (lease_of (upcoming n.leader.directory kind)) else None)
    by-test true =
        first-leaves n (with_next_range n kind) kind (lease_of (upcoming n.leader.directory kind)) refl
    by-test false = tt

from-leaves : (n : Node) (kind : Kind) (numbers : List ℕ) → TakenLeaves n (take_from n kind numbers)
from-leaves n kind (number ∷ numbers) = first-leaves n n kind (number ∷ numbers) refl
from-leaves n kind [] = by-test (is_leader n)
  where
    by-test : (t : Bool) → TakenLeaves n (if t then take_from_next n kind else None)
    by-test true = next-leaves n kind
    by-test false = tt

taken-no-more : (s : Step) (f : Taken → Step) → ((t : Taken) → t.node.leader.directory.places
    ≡ s.node.leader.directory.places → HoldsNoMore s (f t)) → (o : Option Taken) → TakenLeaves s.node o
    → NoMoreIn s (option_map f o)
taken-no-more s f all None e = tt
taken-no-more s f all (Some t) e = all t e

queue-placed : (d : Directory) (id node : ℕ) → parcels_held (place_name d (Msg id) node) ≡ parcels_held d
queue-placed d id node = by-test (is_known d (Msg id))
  where
    by-test : (t : Bool) → parcels_held (if t then d else with_place d (Msg id) (At node)) ≡ parcels_held d
    by-test true = refl
    by-test false = refl

set-placed : (d : Directory) (id node : ℕ) → parcels_held (place_name d (Sem id) node) ≡ parcels_held d
set-placed d id node = by-test (is_known d (Sem id))
  where
    by-test : (t : Bool) → parcels_held (if t then d else with_place d (Sem id) (At node)) ≡ parcels_held d
    by-test true = refl
    by-test false = refl

abbrev leader_in : Node → Leader
leader_in n = n.leader

abbrev placed_in : Step → Name → Body → Leader → Step
placed_in s name body leader =
    let n : Node = s.node
    in with_node s
    (with_directory (record n { deeds = put_named n.deeds name body; leader = leader })
    (place_name leader.directory name n.number))

bound-made : (script : Script) (s : Step) (asked : Asked) (name : Name) (body : Body) (id : ℕ) (leader : Leader)
    → directory_in (make_bound script s asked name body id leader)
    ≡ place_name leader.directory name s.node.number
bound-made script s asked name body id leader =
    carried-same script (placed_in s name body leader) asked (replies.Num id)

queue-made : (script : Script) (s : Step) (asked : Asked) (key : ℕ) (t : Taken)
    → t.node.leader.directory.places ≡ s.node.leader.directory.places
    → HoldsNoMore s (make_queue script s asked key t)
queue-made script s asked key t e =
    omega (
      arith,
      ap parcels_held (bound-made script (with_node s t.node) asked (Msg t.number) (AQueue (unawaited empty_queue))
          t.number
          (record (leader_in t.node) { queue_keys = bind (leader_in t.node).queue_keys key t.number 0 })),
      queue-placed t.node.leader.directory t.number t.node.number,
      ap (λ (p : Named Place). parcels_in p.processes) e,
    )

set-made : (script : Script) (s : Step) (asked : Asked) (key : ℕ) (set : SemaphoreSet) (t : Taken)
    → t.node.leader.directory.places ≡ s.node.leader.directory.places
    → HoldsNoMore s (make_set script s asked key set t)
set-made script s asked key set t e =
    omega (
      arith,
      ap parcels_held (bound-made script (with_node s t.node) asked (Sem t.number) (ASet (unawaited set)) t.number
          (record (leader_in t.node) {
            set_keys = bind (leader_in t.node).set_keys key t.number (length set.semaphores);
          })),
      set-placed t.node.leader.directory t.number t.node.number,
      ap (λ (p : Named Place). parcels_in p.processes) e,
    )

queue-no-more : (script : Script) (s : Step) (asked : Asked) (key : ℕ) (a : KeyAnswer)
    → NoMoreIn s (get_queue script s asked key a)
queue-no-more script s asked key (answers.Found id count) = carried-no-more script s asked _
queue-no-more script s asked key answers.Create =
    taken-no-more s (make_queue script s asked key) (queue-made script s asked key) (take_number s.node kinds.Msg)
    (from-leaves s.node kinds.Msg (for_kind s.node.leases kinds.Msg))
queue-no-more script s asked key (answers.Fail e) = carried-no-more script s asked _

created-no-more : (script : Script) (s : Step) (asked : Asked) (key : ℕ) (a : Result SemaphoreSet Errno)
    → NoMoreIn s (create_set script s asked key a)
created-no-more script s asked key (Err e) = carried-no-more script s asked _
created-no-more script s asked key (Ok set) =
    taken-no-more s (make_set script s asked key set) (set-made script s asked key set) (take_number s.node kinds.Sem)
    (from-leaves s.node kinds.Sem (for_kind s.node.leases kinds.Sem))

set-no-more : (script : Script) (s : Step) (asked : Asked) (key count : ℕ) (a : KeyAnswer)
    → NoMoreIn s (get_set script s asked key count a)
set-no-more script s asked key count (answers.Found id size) = carried-no-more script s asked _
set-no-more script s asked key count answers.Create = created-no-more script s asked key (new_set count)
set-no-more script s asked key count (answers.Fail e) = carried-no-more script s asked _

by-key-no-more : (script : Script) (s : Step) (asked : Asked) (call : Call)
    → NoMoreIn s (get_by_key script s asked call)
by-key-no-more script s asked (calls.MsgGet (Some key) create excl) =
    queue-no-more script s asked key (key_answer (get s.node.leader.queue_keys key) create excl)
by-key-no-more script s asked (calls.SemGet (Some key) count create excl) =
    set-no-more script s asked key count (key_answer (get s.node.leader.set_keys key) create excl)
by-key-no-more script s asked call = tt

-- ---- any call

home-no-more : (script : Script) (s : Step) (asked : Asked) (home : Home) → PlacesRise (directory_in s)
    → NoMoreIn s (route_home script s asked home)
home-no-more script s asked homes.Own r = tt
home-no-more script s asked homes.Keys r = by-key-no-more script s asked asked.call
home-no-more script s asked (homes.At name) r = routed-no-more script s name asked (route (directory_in s) name) r
home-no-more script s asked (homes.Removal name) r =
    removed-no-more script s name asked (route (directory_in s) name) r
home-no-more script s asked homes.Parent r = tt

call-no-more : (script : Script) (s : Step) (asked : Asked) → PlacesRise (directory_in s)
    → NoMoreIn s (route_call script s asked)
call-no-more script s asked r = home-no-more script s asked (home_of asked.pid asked.call) r

-- ---- a withdrawal

withdrawn-no-more : (script : Script) (s : Step) (name : Name) (asked : Asked) (w : Withdrawn)
    → HoldsNoMore s (withdraw_by script s name asked w)
withdrawn-no-more script s name asked (Leaves body) =
    same-is-no-more s (withdraw_by script s name asked (Leaves body)) (carried-same script _ asked _)
withdrawn-no-more script s name asked NotThere = omega arith
withdrawn-no-more script s name asked NotHeld = omega arith

cancelled-no-more : (script : Script) (s : Step) (name : Name) (asked : Asked) (to : Route)
    → PlacesRise (directory_in s) → HoldsNoMore s (cancel_by script s name asked to)
cancelled-no-more script s name asked (routes.At node) r = by-test (nat_eq node s.node.number)
  where
    by-test : (t : Bool)
        → HoldsNoMore s (if t then withdraw_here script s name asked else cancel s node asked)
    by-test true = withdrawn-no-more script s name asked (withdraw s.node.deeds name asked.pid asked.ticket)
    by-test false = omega arith
cancelled-no-more script s name asked routes.Coming r = held-no-more s name asked r
cancelled-no-more script s name asked (routes.Range node) r = omega arith
cancelled-no-more script s name asked routes.Nobody r = omega arith

-- ---- what was held

by-withdrawal : (script : Script) (s : Step) (asked : Asked) (o : Option Name) → PlacesRise (directory_in s)
    → NoMoreIn s (route_held_by script s asked o)
by-withdrawal script s asked None r = call-no-more script s asked r
by-withdrawal script s asked (Some name) r =
    cancelled-no-more script s name asked (route (directory_in s) name) r

-- A call or a withdrawal that was held and is routed leaves no more parcels held.
pub route-holds-no-more : (script : Script) (s next : Step) (asked : Asked) → PlacesRise (directory_in s)
    → route_held script s asked ≡ Some next → HoldsNoMore s next
route-holds-no-more script s next asked r e =
    subst (NoMoreIn s) e (by-withdrawal script s asked (withdrawn_from asked.call) r)
