-- A node other than the leader is told that the node that it asked doesn't own the name of its call: it asks the
-- leader.
use Rattle.std.proofs.Common.{◌≡◌, ◌≢◌, ℕ, true, false, ◌&&◌, not, cond, if◌then◌else◌, List, [], ◌∷◌, filter, nat_eq, Contains, Some, None, option_and_then, refl, ap, sym, subst, ◌∙◌, All, arith}
use Rattle.std.proofs.lemmas.Bool.{eq-eqb, ne_eqb}
use Rattle.std.proofs.lemmas.List.Elements.{All-contains, All-contains_itself, All-filter, All-weaker}
use Rattle.pico_base.specs.declared.call.Call.{Call}
use Rattle.pico_base.specs.declared.numbers.Name.{Name}
use Rattle.pico_base.specs.declared.script.Event.TheVariants as events
use Rattle.pico_base.specs.declared.script.Script.{Script}
use Rattle.pico_base.specs.Home.{home_of}
use Rattle.rpc_frame.specs.declared.asked.Asked.{Asked}
use Rattle.rpc_frame.specs.declared.frame.Frame.{Frame}
use Rattle.rpc_frame.specs.declared.frame.Frame.TheVariants as frames
use Rattle.node_model.specs.declared.held.Held.TheVariants.{Request}
use Rattle.node_model.specs.Cache.{forget}
use Rattle.node_model.specs.Kinds.{is_same_name}
use Rattle.world_model.specs.Calls.{ask_after, is_on_name, take_not_owner, with_forgotten}
use Rattle.world_model.specs.Node.{Node, asked_here, under_way_as}
use Rattle.world_model.specs.Routes.{route_call}
use Rattle.world_model.specs.Step.{Step, send, step_to}
use Rattle.world_model.specs.World.{World, world_after}
use Rattle.world_laws.specs.Places.{InAsk, IsInHand, Beside, call_in}
use Rattle.world_laws.specs.Sights.{node_of, is_born_in, is_born_stage}
use Rattle.world_laws.specs.Callers.{CallHolds, CallSight, HasCall, IsJustThere, IsSoFar, IsToBeMade, asked_of, call_sight, frame_at, is_about, is_end_place, is_held_at, is_in_stream, is_waiting_at, may_be_in, only_if}
use Rattle.world_laws.specs.Families.{NodeHolds}
use Rattle.world_laws.specs.Invariant.{Holds}
use Rattle.world_laws.specs.Ranges.{has_lease}
use Rattle.world_laws.proofs.Changes.{Changes}
use Rattle.world_laws.proofs.Heads.{head-is}
use Rattle.world_laws.proofs.Middles.{changes-further}
use Rattle.world_laws.proofs.Steps.{Heads, take-steps, world_without}
use Rattle.world_laws.proofs.Cancels.{may_be_withdrawn}
use Rattle.world_laws.proofs.Wholes.{is_to_be_made}
use Rattle.rule_laws.proofs.Answers.{Found, find}
use Rattle.rule_laws.proofs.CallFrames.{IsNotOwnerOf, not-owner-of}
use Rattle.rule_laws.proofs.own.Moved.{IsMoved, is_still, moved-twice}
use Rattle.rule_laws.proofs.own.OwnCases.{Keeps}
use Rattle.waiting_model.specs.Calls.{is_withdrawal, may_park}
use Rattle.route_laws.proofs.hand.Answering.{at-work-born}
use Rattle.route_laws.proofs.hand.Asks.{NeverWithdraws}
use Rattle.route_laws.proofs.sent.Brought.{IsBrought, brought_world, brought-keeps, brought-nodes, cancel-brought, name-not-brought}
use Rattle.route_laws.proofs.sent.InHand.{HasInHand}
use Rattle.route_laws.proofs.sent.Requests.{IsAtName, at-name, first-true, for-others}
use Rattle.route_laws.proofs.sent.SameNodes.{node-with}
use Rattle.route_laws.proofs.sent.Sent.{GoesOn, name-not-sent, sent-keeps}
use Rattle.route_laws.proofs.sent.Uncancelled.{never-waits}
use Rattle.route_laws.proofs.served.Turns.{node-at}

module _ (script : Script) (w : World) (b : Beside) (holds : Holds script w [] b) (p q ticket : ℕ)
    (rest : List Frame) (h : Heads script w p q (frames.NotOwner ticket) rest) (other : p ≢ 1)
    (never : NeverWithdraws script) where
  abbrev frame : Frame
  frame = frames.NotOwner ticket

  abbrev n : Node
  n = node_of w p

  abbrev x : CallSight
  x = call_sight w [] b p

  abbrev v : World
  v = world_without w p q rest

  abbrev middle : World
  middle = brought_world w p q rest

  abbrev moved : Beside
  moved = record b { call = call_in b.call p IsInHand }

  call-holds : CallHolds script p (is_born_in w) x
  call-holds = holds.calls p h.low h.high

  about-first : x.frames_about p q ≡ frame ∷ filter (is_about p p q) rest
  about-first =
      ap (filter (is_about p p q)) (head-is script w p q frame rest h)
      ∙ ap (λ t. cond t (frame ∷ filter (is_about p p q) rest) (filter (is_about p p q) rest)) (eq-eqb p p refl)

  found : Found script p (is_born_in w) x
  found =
      find script p (is_born_in w) x p q frame (filter (is_about p p q) rest) about-first x.caller.under_way refl
      call-holds.call

  abbrev call : Call
  call = found.call

  has : HasCall script p (is_born_in w) x call
  has = found.has

  just-there : IsJustThere p x (asked_of x call)
  just-there = has.just_there

  is-told : IsNotOwnerOf x.call (asked_of x call) q ticket (filter (is_about p p q) rest)
  is-told =
      not-owner-of (asked_of x call) p p q ticket (filter (is_about p p q) rest) x.call
      (sym (just-there.in_streams p q) ∙ about-first)

  abbrev asked : Asked
  asked = record { caller = p; ticket = n.caller.ticket; pid = n.pid; call = call }

  node-holds : NodeHolds script b.pids (is_born_in w) p n
  node-holds = holds.nodes p h.low h.high

  asked-is : asked ≡ asked_of x call
  asked-is = λ i. record {
    caller = sym node-holds.number i;
    ticket = n.caller.ticket;
    pid = n.pid;
    call = call;
  }

  to-be-made : IsToBeMade script p x call
  to-be-made = subst (λ y. IsSoFar script p x call y) is-told.place_is has.so_far

  home-is : (is_on_name (home_of n.pid call) && not (may_park call)) ≡ true
  home-is = sym (ap (λ y. may_be_in y (home_of n.pid call) call) is-told.place_is) ∙ has.home

  on-a-name : is_on_name (home_of n.pid call) ≡ true
  on-a-name = first-true (is_on_name (home_of n.pid call)) (not (may_park call)) home-is

  -- so it never waits
  cannot : may_be_withdrawn n.pid call ≡ false
  cannot = never-waits n.pid (home_of n.pid call) call home-is

  is-call : is_withdrawal call ≡ false
  is-call = never p x.caller call to-be-made.due

  abbrev on : IsAtName (home_of n.pid call)
  on = at-name (home_of n.pid call) on-a-name

  abbrev name : Name
  name = on.name

  abbrev brought : IsBrought script w b p q frame asked
  brought =
      record {
        low = h.low;
        high = h.high;
        call = call;
        is = found.is;
        has = has;
        asked_is = asked-is;
        for_others = for-others (home_of n.pid call) on-a-name;
        to_be_made = to-be-made;
        is_call = is-call;
        is_made_yet = ap is_to_be_made is-told.place_is;
        no_waiter = λ m. ap (λ z. is_waiting_at z m) is-told.place_is;
        not_end = ap is_end_place is-told.place_is;
        no_lease = λ kind. ap (has_lease kind) is-told.place_is;
        no_item = λ m. ap (λ z. is_held_at z m) is-told.place_is;
        there = λ to sender. ap (λ z. only_if (is_in_stream z p to sender) (frame_at z asked)) is-told.place_is
            ∙ ap (λ k. only_if (nat_eq to p && nat_eq sender q) (frames.NotOwner k)) (sym is-told.ticket_is);
        about = eq-eqb p p refl;
        of_no_other = λ y d. ne_eqb p y (λ e. d (sym e));
        plain = refl;
        no_birth = refl;
        no_cancel = λ y. refl;
        brings_no_lease = λ kind. refl;
      }

  g : HasInHand script middle moved p asked
  g =
      record {
        low_node = h.low;
        high_node = h.high;
        asks = record { low = h.low; high = h.high; is_call = is-call };
        holds = brought-keeps script w b holds p q frame rest h asked brought false
            (cancel-brought script w b holds p q frame rest h asked brought false cannot false)
            (λ m. name-not-brought script w b holds p q frame rest h asked brought false m refl);
      }

  middle-holds : Holds script middle (Request asked ∷ []) moved
  middle-holds = g.holds

  -- ---- the node forgets the owner, and asks the leader

  abbrev asks : Frame
  asks = frames.Ask n.caller.ticket n.pid call

  abbrev after : Step
  after = send (step_to (with_forgotten n name)) 1 asks

  under-way : under_way_as n ticket ≡ Some call
  under-way =
      ap (λ t. elim t [ true ↦ n.caller.under_way | false ↦ None ])
      (eq-eqb ticket n.caller.ticket is-told.ticket_is) ∙ found.is

  rule : take_not_owner script n ticket ≡ Some after
  rule =
      ap (option_and_then (λ c. ask_after script n c (home_of n.pid c))) under-way
      ∙ ap (ask_after script n call) on.is
      ∙ ap (λ t. if t then route_call script (step_to (with_forgotten n name)) (asked_here (with_forgotten n name) call)
      else Some after) (ne_eqb n.number 1 (λ e. other (sym node-holds.number ∙ e)))

  abbrev m : Node
  m = node_of middle p

  node-was : NodeHolds script b.pids (is_born_in middle) p m
  node-was = middle-holds.nodes p h.low h.high

  born : is_born_in middle p ≡ true
  born =
      ap (λ (z : Node). is_born_stage z.stage) (brought-nodes script w b holds p q frame rest h asked brought false p)
      ∙ at-work-born n.stage has.at_work

  abbrev IsOwner : Name × ℕ → Type 0
  IsOwner e = (is_born_in middle e.1 ≡ true) × (e.1 ≢ p)

  owners-now : All IsOwner (forget m.cache name)
  owners-now =
      All-filter (λ e. not (is_same_name name e.0)) IsOwner m.cache
      (All-weaker (Contains m.cache) IsOwner (λ e there. node-was.owners e.0 e.1 there) m.cache
      (All-contains_itself m.cache))

  goes-to-leader : GoesOn script middle moved p asked InAsk 1 asks (record m { cache = forget m.cache name })
  goes-to-leader =
      record {
        on_way = refl;
        frame_is = refl;
        in_stream = λ t s. refl;
        home = for-others (home_of n.pid call) on-a-name;
        between = other;
        never = cannot;
        other = λ e. other (sym e);
        about = eq-eqb p p refl;
        about_none = λ y d. ne_eqb p y (λ e. d (sym e));
        plain = refl;
        no_birth = refl;
        no_cancel = λ y. refl;
        no_lease = λ kind. refl;
        may_be = refl;
        caller = record { number = refl; pid = refl; stage = refl; caller = refl; leases = refl };
        deeds = refl;
        leader = refl;
        node = node-with script b.pids (is_born_in middle) p m (record m { cache = forget m.cache name }) born node-was
            (λ y owner there. All-contains IsOwner (forget m.cache name) (y, owner) owners-now there);
      }

  changes : Changes script p middle (world_after v p after) (record m { cache = forget m.cache name }) []
      ((1, asks) ∷ []) []
  changes =
      let low = h.low
      in let high = h.high
      in subst (λ (z : Node). Changes script p middle (world_after v p after) z [] ((1, asks) ∷ []) [])
      (ap (λ (z : Node). with_forgotten z name) (sym (node-at script v p (step_to n) middle-holds.shape h.low h.high)))
      (changes-further script v p (step_to n) after ((1, asks) ∷ []) [] middle-holds.shape h.low h.high
      (record { low = omega arith; high = omega (arith, low, high) }, tt)
      (record { sends_are = refl; entries_are = refl }))

  -- The event has a step, and all holds after it, with the call in an Ask.
  pub not-owner-taken : Keeps script w (events.Take p q) (λ a. IsMoved b.call a p (λ place. place ≡ InAsk))
  not-owner-taken =
      record {
        beside = told;
        keeps = record {
          next = world_after v p after;
          is_step = take-steps script w p q frame rest after holds.shape h rule refl;
          holds = sent-keeps script middle moved p asked g InAsk 1 asks (record m { cache = forget m.cache name })
              goes-to-leader (world_after v p after) changes
              (λ y. name-not-sent script middle moved p asked g InAsk 1 asks
              (record m { cache = forget m.cache name }) goes-to-leader (world_after v p after) changes y refl);
        };
        after = moved-twice b.call told.call p IsInHand (λ place. place ≡ InAsk)
            (record { place = InAsk; calls = λ y. is_still refl; fits = refl });
      }
    where
      told : Beside
      told = record moved { call = call_in moved.call p InAsk }
