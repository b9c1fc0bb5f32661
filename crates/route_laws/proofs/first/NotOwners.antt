-- Node 1 takes the word that its cache was out of date: its process's call is in the leader's hand, and is routed.
use Rattle.std.proofs.Common.{◌≡◌, ◌≢◌, ℕ, true, false, not, if◌then◌else◌, List, [], ◌∷◌, filter, Contains, Some, None, refl, ap, sym, subst, ◌∙◌}
use Rattle.std.specs.Option.{option_and_then}
use Rattle.std.proofs.lemmas.Bool.{and_parts, eq-eqb, ne_eqb, false≢true}
use Rattle.std.proofs.lemmas.List.Elements.{All-filter, All-weaker, All-contains, All-contains_itself}
use Rattle.pico_base.specs.declared.call.Call.{Call}
use Rattle.pico_base.specs.declared.call.Home.{Home}
use Rattle.pico_base.specs.declared.call.Home.TheVariants as homes
use Rattle.pico_base.specs.declared.numbers.Name.{Name}
use Rattle.pico_base.specs.declared.script.Script.{Script}
use Rattle.pico_base.specs.Home.{home_of}
use Rattle.rpc_frame.specs.declared.asked.Asked.{Asked}
use Rattle.rpc_frame.specs.declared.frame.Frame.{Frame}
use Rattle.rpc_frame.specs.declared.frame.Frame.TheVariants as frames
use Rattle.waiting_model.specs.Calls.{is_withdrawal, may_park}
use Rattle.node_model.specs.declared.held.Held.TheVariants.{Request}
use Rattle.kernel_laws.proofs.Plain.{from_some}
use Rattle.node_model.specs.Cache.{forget}
use Rattle.node_model.specs.Kinds.{is_same_name}
use Rattle.world_model.specs.Calls.{ask_after, is_for_others, is_on_name, take_not_owner, with_forgotten}
use Rattle.world_model.specs.Node.{Node, Stage, Unborn, Living, Leaving, Left, Over, asked_here, under_way_as}
use Rattle.world_model.specs.Routes.{route_call}
use Rattle.world_model.specs.Step.{send, step_to}
use Rattle.world_model.specs.World.{World, world_after}
use Rattle.world_laws.specs.Places.{Beside, CallPlace, IsInHand, call_in}
use Rattle.world_laws.specs.Sights.{is_born_in, node_of}
use Rattle.world_laws.specs.Callers.{CallHolds, CallSight, HasCall, IsJustThere, IsSoFar, IsToBeMade, asked_of, call_sight, frame_at, is_about, is_at_work, is_end_place, is_held_at, is_in_stream, is_waiting_at, may_be_in, only_if}
use Rattle.world_laws.specs.Families.{HoldsIn, NodeHolds, is_first_stage}
use Rattle.world_laws.specs.Invariant.{Holds}
use Rattle.world_laws.specs.Ranges.{has_lease}
use Rattle.world_laws.proofs.Heads.{head-is}
use Rattle.world_laws.proofs.Pairs.{goes_on}
use Rattle.world_laws.proofs.Wholes.{is_to_be_made}
use Rattle.world_laws.proofs.Steps.{Heads, world_without}
use Rattle.rule_laws.proofs.Answers.{Found, find}
use Rattle.rule_laws.proofs.CallFrames.{IsNotOwnerOf, not-owner-of}
use Rattle.rule_laws.proofs.own.Moved.{IsMoved, moved-twice}
use Rattle.route_laws.proofs.Owed.{IsServedPlace, RuleKeeps, has_reply, waits_there}
use Rattle.route_laws.proofs.hand.Asks.{NeverWithdraws}
use Rattle.route_laws.proofs.hand.ReadRoutes.{HasRoute, PlaceFits, goes_by_range, goes_to_owner, is_asked_back, is_carried_out, is_held, is_served_here}
use Rattle.route_laws.proofs.hand.Takings.{IsSameLeader, IsTakenUp, name-not-taken, taken-keeps}
use Rattle.route_laws.proofs.hand.HandRoutes.{has-route}
use Rattle.route_laws.proofs.served.Turns.{node-at}
use Rattle.route_laws.specs.Ready.{HasFewNodes, IsReady}

-- node 1 makes calls while one of it is under way
living-at-work : (stage : Stage) → is_at_work stage ≡ true → is_first_stage stage ≡ true → stage ≡ Living
living-at-work Living work h = refl
living-at-work Unborn work h = absurd (false≢true work)
living-at-work Over work h = absurd (false≢true work)
living-at-work Leaving work h = absurd (false≢true h)
living-at-work Left work h = absurd (false≢true h)

-- a call on a name has that name
on-some-name : (home : Home) → is_on_name home ≡ true → (name : Name) × (home ≡ homes.At name)
on-some-name (homes.At name) h = (name, refl)
on-some-name homes.Own h = absurd (false≢true h)
on-some-name homes.Keys h = absurd (false≢true h)
on-some-name (homes.Removal name) h = absurd (false≢true h)
on-some-name homes.Parent h = absurd (false≢true h)

-- where the call under way at node 1 is once the leader has routed it
abbrev pub IsRoutedAgain : World → CallPlace → Type 0
IsRoutedAgain w place =
    (call : Call) → (let n : Node = node_of w 1 in n.caller.under_way ≡ Some call)
    → PlaceFits (node_of w 1) (asked_here (node_of w 1) call) place

-- what the cache says doesn't matter for that
served-whatever-cached : (n : Node) (name : Name) (asked : Asked) (place : CallPlace)
    → IsServedPlace (with_forgotten n name) asked place → IsServedPlace n asked place
served-whatever-cached n name asked place (has_reply over) = has_reply over
served-whatever-cached n name asked place (waits_there other is unread) = waits_there other is unread

fits-whatever-cached : (n : Node) (name : Name) (asked : Asked) (place : CallPlace)
    → PlaceFits (with_forgotten n name) asked place → PlaceFits n asked place
fits-whatever-cached n name asked place (is_carried_out over) = is_carried_out over
fits-whatever-cached n name asked place (is_served_here other served on at) =
    is_served_here other (served-whatever-cached n name asked place served) on at
fits-whatever-cached n name asked place (goes_to_owner other node is on at away) =
    goes_to_owner other node is on at away
fits-whatever-cached n name asked place (goes_by_range other node is on goes) = goes_by_range other node is on goes
fits-whatever-cached n name asked place (is_held other to items is on at) = is_held other to items is on at
fits-whatever-cached n name asked place (is_asked_back other node is on at away) =
    is_asked_back other node is on at away

module _ (script : Script) (w : World) (b : Beside) (holds : Holds script w [] b) (q ticket : ℕ) (rest : List Frame)
    (h : Heads script w 1 q (frames.NotOwner ticket) rest) (never : NeverWithdraws script) where
  abbrev frame : Frame
  frame = frames.NotOwner ticket

  abbrev n : Node
  n = node_of w 1

  abbrev x : CallSight
  x = call_sight w [] b 1

  abbrev v : World
  v = world_without w 1 q rest

  call-holds : CallHolds script 1 (is_born_in w) x
  call-holds = holds.calls 1 h.low h.high

  node-was : NodeHolds script b.pids (is_born_in w) 1 n
  node-was = holds.nodes 1 h.low h.high

  about-first : x.frames_about 1 q ≡ frame ∷ filter (is_about 1 1 q) rest
  about-first = ap (filter (is_about 1 1 q)) (head-is script w 1 q frame rest h)

  found : Found script 1 (is_born_in w) x
  found =
      find script 1 (is_born_in w) x 1 q frame (filter (is_about 1 1 q) rest) about-first x.caller.under_way refl
      call-holds.call

  abbrev call : Call
  call = found.call

  has : HasCall script 1 (is_born_in w) x call
  has = found.has

  just-there : IsJustThere 1 x (asked_of x call)
  just-there = has.just_there

  is-not-owner : IsNotOwnerOf x.call (asked_of x call) q ticket (filter (is_about 1 1 q) rest)
  is-not-owner =
      not-owner-of (asked_of x call) 1 1 q ticket (filter (is_about 1 1 q) rest) x.call
      (sym (just-there.in_streams 1 q) ∙ about-first)

  on-name : (name : Name) × (home_of n.pid call ≡ homes.At name)
  on-name =
      on-some-name (home_of n.pid call)
      (and_parts (is_on_name (home_of n.pid call)) (not (may_park call))
      (sym (ap (λ y. may_be_in y (home_of n.pid call) call) is-not-owner.place_is) ∙ has.home)).0

  abbrev name : Name
  name = on-name.0

  abbrev asked : Asked
  asked = record { caller = 1; ticket = ticket; pid = n.pid; call = call }

  asked-is : asked ≡ asked_of x call
  asked-is = λ i. record {
    caller = sym node-was.number i;
    ticket = is-not-owner.ticket_is i;
    pid = n.pid;
    call = call;
  }

  to-be-made : IsToBeMade script 1 x call
  to-be-made = subst (λ y. IsSoFar script 1 x call y) is-not-owner.place_is has.so_far

  is-call : is_withdrawal call ≡ false
  is-call = never 1 x.caller call to-be-made.due

  taken-up : IsTakenUp script w b q frame asked
  taken-up =
      record {
        low = h.low;
        high = h.high;
        call = call;
        is = found.is;
        has = has;
        asked_is = asked-is;
        for_others = ap is_for_others on-name.1;
        to_be_made = to-be-made;
        is_call = is-call;
        goes = ap (λ y. goes_on y IsInHand) is-not-owner.place_is;
        is_made_yet = ap is_to_be_made is-not-owner.place_is;
        no_waiter = λ m. ap (λ y. is_waiting_at y m) is-not-owner.place_is;
        not_end = ap is_end_place is-not-owner.place_is;
        no_lease = λ kind. ap (has_lease kind) is-not-owner.place_is;
        no_item = λ m. ap (λ z. is_held_at z m) is-not-owner.place_is;
        there = λ to sender.
            ap (λ z. only_if (is_in_stream z 1 to sender) (frame_at z asked)) is-not-owner.place_is;
        about = refl;
        of_no_other = λ y d. ne_eqb 1 y (λ e. d (sym e));
        plain = refl;
        no_birth = refl;
        no_cancel = λ y. refl;
        brings_no_lease = λ kind. refl;
      }

  abbrev after : Node
  after = with_forgotten n name

  living : n.stage ≡ Living
  living = living-at-work n.stage has.at_work (node-was.first refl)

  abbrev IsOwner : Name × ℕ → Type 0
  IsOwner e = (is_born_in w e.1 ≡ true) × (e.1 ≢ 1)

  owners-now : (m : Name) (owner : ℕ) → Contains (forget n.cache name) (m, owner)
      → (is_born_in w owner ≡ true) × (owner ≢ 1)
  owners-now m owner there =
      All-contains IsOwner (forget n.cache name) (m, owner)
      (All-filter (λ e. not (is_same_name name e.0)) IsOwner n.cache
      (All-weaker (Contains n.cache) IsOwner (λ e found. node-was.owners e.0 e.1 found) n.cache
      (All-contains_itself n.cache))) there

  same-leader : IsSameLeader script w b after
  same-leader =
      record {
        caller = record { number = refl; pid = refl; stage = refl; caller = refl; leases = refl };
        deeds = refl;
        leader = refl;
        node = record {
          number = node-was.number;
          holds = subst (λ (stage : Stage). HoldsIn 1 after stage) (sym living)
              (subst (λ (stage : Stage). HoldsIn 1 n stage) living node-was.holds);
          birth = node-was.birth;
          first = node-was.first;
          others = node-was.others;
          rows = node-was.rows;
          owners = owners-now;
        };
      }

  abbrev in-hand : Beside
  in-hand = record b { call = call_in b.call 1 IsInHand }

  -- the call is in the leader's hand
  not-owner-in-hand : Holds script (world_after v 1 (step_to after)) (Request asked ∷ []) in-hand
  not-owner-in-hand =
      taken-keeps script w b holds q frame rest h asked taken-up after same-leader
      (λ m. name-not-taken script w b holds q frame rest h asked taken-up after same-leader m refl)

  asked-here-is : asked_here after call ≡ asked
  asked-here-is = λ i. record {
    caller = node-was.number i;
    ticket = sym is-not-owner.ticket_is i;
    pid = n.pid;
    call = call;
  }

  under-way : under_way_as n ticket ≡ Some call
  under-way =
      ap (λ t. elim t [ true ↦ n.caller.under_way | false ↦ None ])
      (eq-eqb ticket n.caller.ticket is-not-owner.ticket_is)
      ∙ found.is

  -- the rule applies, and routes it
  not-owner-is-routed : take_not_owner script n ticket ≡ route_call script (step_to after) asked
  not-owner-is-routed =
      ap (option_and_then (λ c. ask_after script n c (home_of n.pid c))) under-way
      ∙ ap (ask_after script n call) on-name.1
      ∙ ap (λ t. if t then route_call script (step_to after) (asked_here after call)
      else Some (send (step_to after) 1 (frames.Ask n.caller.ticket n.pid call))) (eq-eqb n.number 1 node-was.number)
      ∙ ap (route_call script (step_to after)) asked-here-is

  here : node_of (world_after v 1 (step_to after)) 1 ≡ after
  here =
      node-at script v 1 (step_to after) not-owner-in-hand.shape h.low h.high

  -- So its rule has a step at node 1, and keeps all, but for the strike that is owed then.
  pub not-owner-has-step : HasFewNodes script → IsReady n
      → RuleKeeps script w 1 q frame rest (λ after. IsMoved b.call after 1 (IsRoutedAgain w))
  not-owner-has-step few ready =
      let r : HasRoute script v (step_to after) asked [] in-hand =
      has-route script v (step_to after) asked [] in-hand not-owner-in-hand
      (record { low = h.low; high = h.high; is_call = is-call }) few
      (subst (λ (m : Node). IsReady m) (sym here)
      (record {
        watches = ready.watches;
        queues = ready.queues;
        sets = ready.sets;
        nodes = ready.nodes;
        numbers = ready.numbers;
      }))
      in let moved : IsMoved b.call r.beside.call 1 (PlaceFits after asked) =
      moved-twice b.call r.beside.call 1 IsInHand (PlaceFits after asked) r.moved
      in record {
        beside = r.beside;
        keeps = record {
          step = r.keeps.next;
          is_step = not-owner-is-routed ∙ r.keeps.is_route;
          holds = r.keeps.holds;
        };
        after = record {
          place = moved.place;
          calls = moved.calls;
          fits = λ other is. subst (λ (c : Call). PlaceFits n (asked_here n c) moved.place)
              (from_some call other (sym found.is ∙ is))
              (fits-whatever-cached n name (asked_here n call) moved.place
              (subst (λ (a : Asked). PlaceFits after a moved.place) (sym asked-here-is) moved.fits));
        };
      }
