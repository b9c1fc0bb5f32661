-- A node other than the leader takes a Forward: the withdrawal of its call stays behind it, and all holds of
-- withdrawals in the world before. A call that comes to wait there may have been sent by the name's place as well.
use Rattle.std.proofs.Common.{◌≡◌, ◌≢◌, ℕ, ◌≤◌, Bool, true, false, not, if◌then◌else◌, List, [], ◌∷◌, nat_eq, Option, Some, None, is_none, refl, ap, sym, subst, ◌∙◌, inl, inr}
use Rattle.std.proofs.lemmas.Bool.{cases_eq, eq-eqb, ne_eqb, false≢true}
use Rattle.pico_base.specs.declared.call.Call.{Call}
use Rattle.pico_base.specs.declared.call.Home.{Home}
use Rattle.pico_base.specs.declared.call.Home.TheVariants as homes
use Rattle.pico_base.specs.declared.numbers.Name.{Name}
use Rattle.pico_base.specs.declared.script.Script.{Script}
use Rattle.pico_base.specs.Home.{home_of}
use Rattle.rpc_frame.specs.declared.asked.Asked.{Asked}
use Rattle.rpc_frame.specs.declared.frame.Frame.{Frame}
use Rattle.rpc_frame.specs.declared.frame.Frame.TheVariants as frames
use Rattle.waiting_model.specs.Calls.{waits_at}
use Rattle.entry_laws.specs.Entering.{is_used_name}
use Rattle.node_model.specs.declared.held.Held.TheVariants.{Request}
use Rattle.node_model.specs.Directory.{Place, maker, place_of, stays}
use Rattle.node_model.specs.Serving.{waiting_as}
use Rattle.world_model.specs.Calls.{is_on_name}
use Rattle.world_model.specs.Step.{Step, step_to}
use Rattle.world_model.specs.World.{World, node_count}
use Rattle.world_laws.specs.Places.{Beside, CallPlace, IsInHand, SentByPlace, SentByRange, Waits, call_in}
use Rattle.world_laws.specs.Sights.{node_of, directory_of, is_born_in}
use Rattle.world_laws.specs.Names.{HasMakerThatStays, NameHolds, name_sight}
use Rattle.world_laws.specs.Callers.{CallHolds, CallSight, HasCall, HasCallOrNone, IsJustThere, IsToBeMade, asked_of, call_sight, frame_at, is_end_place, is_held_at, is_in_hand, is_in_stream, is_waiting_at, only_if}
use Rattle.world_laws.specs.Cancels.{CancelHolds, CancelIf, CancelSight, LeadsNowhere, Nothing, Wakes, cancel_sight}
use Rattle.world_laws.specs.Invariant.{Holds}
use Rattle.world_laws.proofs.Cancels.{may_be_withdrawn}
use Rattle.world_laws.proofs.Following.{WaitsAt, waits-at}
use Rattle.world_laws.proofs.Pairs.{goes_on, lands}
use Rattle.world_laws.proofs.Steps.{Heads, world_without}
use Rattle.route_laws.proofs.hand.Asks.{NeverWithdraws}
use Rattle.route_laws.proofs.hand.Forwards.{sent_as}
use Rattle.route_laws.proofs.sent.Brought.{brought_world}
use Rattle.route_laws.proofs.sent.Forwarded.{asked-found, call-holds, forward-changes, forward-waking, forward-whole, found, is-at-maker, made-later, not-leader, same-nodes}
use Rattle.route_laws.proofs.served.AsPlaced.{as-placed, ranged}
use Rattle.route_laws.proofs.served.Before.{GoesToWait, IsInHandAt, MayWaitAt, WasBefore, changes-on}

some-call : (a c : Call) → Some a ≡ Some c → a ≡ c
some-call a c h = cc

same-node : (m n : ℕ) → SentByRange m ≡ SentByRange n → m ≡ n
same-node m n h = cc

same-at : (m n : Name) → homes.At m ≡ homes.At n → m ≡ n
same-at m n h = cc

not-known : (o : Option Place) → not (is_none o) ≡ false → o ≡ None
not-known None h = refl
not-known (Some place) h = absurd (false≢true (sym h))

some-node : (m n : ℕ) → Some m ≡ Some n → m ≡ n
some-node m n h = cc

-- sent by range it is where it would be, had it been sent by place
same-stream : (by : Bool) (p caller : ℕ) (asked : Asked) (to sender : ℕ)
    → only_if (is_in_stream (sent_as by p) caller to sender) (frame_at (sent_as by p) asked)
    ≡ only_if (is_in_stream (SentByPlace p) caller to sender) (frame_at (SentByPlace p) asked)
same-stream true p caller asked to sender = refl
same-stream false p caller asked to sender = refl

not-held : (by : Bool) (p : ℕ) (name : Name) → is_held_at (sent_as by p) name ≡ false
not-held true p name = refl
not-held false p name = refl

not-in-hand : (by : Bool) (p : ℕ) → is_in_hand (sent_as by p) ≡ false
not-in-hand true p = refl
not-in-hand false p = refl

sent-no-end-place : (by : Bool) (p : ℕ) → is_end_place (sent_as by p) ≡ false
sent-no-end-place true p = refl
sent-no-end-place false p = refl

not-waiting : (by : Bool) (p : ℕ) (name : Name) → is_waiting_at (sent_as by p) name ≡ false
not-waiting true p name = refl
not-waiting false p name = refl

module _ (script : Script) (w : World) (b : Beside) (holds : Holds script w [] b) (p : ℕ) (asked : Asked)
    (rest : List Frame) (h : Heads script w p 1 (frames.Forward asked) rest) (low : 1 ≤ asked.caller)
    (high : asked.caller ≤ node_count script) (by : Bool) (at : b.call asked.caller ≡ sent_as by p)
    (never : NeverWithdraws script) where
  abbrev caller : ℕ
  caller = asked.caller

  abbrev frame : Frame
  frame = frames.Forward asked

  abbrev v : World
  v = world_without w p 1 rest

  abbrev s : Step
  s = step_to (node_of w p)

  abbrev moved : Beside
  moved = record b { call = call_in b.call caller IsInHand }

  pub in-hand-elsewhere : (y : ℕ) → y ≢ caller → moved.call y ≡ b.call y
  in-hand-elsewhere y d = ap (λ t. if t then IsInHand else b.call y) (ne_eqb caller y (λ e. d (sym e)))

  -- the world before, with the call in such a place
  abbrev pub before-with : (call : ℕ → CallPlace) → ((y : ℕ) → y ≢ caller → call y ≡ b.call y)
      → ((y : ℕ) → 1 ≤ y → y ≤ node_count script
      → CancelIf y Nothing (cancel_sight w [] (record moved { call = call }) y))
      → WasBefore script v p s asked [] moved
  before-with call others cancels =
      record {
        world = w;
        hand = [];
        call = call;
        takes = (1, frame) ∷ [];
        cancels = cancels;
        nodes = same-nodes script w b holds p asked rest h low high by at never;
        others = λ y d. in-hand-elsewhere y d ∙ sym (others y d);
        items = λ y d. refl;
        cancel_items = λ y. refl;
        of_no_other = λ y d. (ne_eqb caller y (λ e. d (sym e)), tt);
        no_cancel = λ y. (refl, tt);
        changes = λ w' n sends entries c. changes-on script p w (brought_world w p 1 rest) w' (node_of w p) n
            ((1, frame) ∷ []) sends entries (forward-changes script w b holds p asked rest h low high by at never) c;
      }

  -- where it was
  pub sent-before : WasBefore script v p s asked [] moved
  sent-before = before-with b.call (λ y d. refl) (λ y low_y high_y. holds.cancels y low_y high_y)

  -- All holds with the call in hand, and its withdrawal behind it.
  pub forward-at : IsInHandAt script v p s asked [] moved
  forward-at =
      record {
        owed = Wakes;
        holds = forward-waking script w b holds p asked rest h low high by at never;
        whole = forward-whole script w b holds p asked rest h low high by at never;
        before = sent-before;
      }

  -- ---- the call may wait there

  module _ (name : Name) (home : home_of asked.pid asked.call ≡ homes.At name)
      (used : is_used_name b.kernel name ≡ true) where
    abbrev placed-calls : ℕ → CallPlace
    placed-calls = call_in b.call caller (SentByPlace p)

    placed-here : placed-calls caller ≡ SentByPlace p
    placed-here = ap (λ t. if t then SentByPlace p else b.call caller) (eq-eqb caller caller refl)

    pub placed-elsewhere : (y : ℕ) → y ≢ caller → placed-calls y ≡ b.call y
    placed-elsewhere y d = ap (λ t. if t then SentByPlace p else b.call y) (ne_eqb caller y (λ e. d (sym e)))

    abbrev x : CallSight
    x = call_sight w [] b caller

    abbrev z : CancelSight
    z = cancel_sight w [] b caller

    abbrev f : HasCall script caller (is_born_in w) x (found script w b holds p asked rest h low high).call
    f = (found script w b holds p asked rest h low high).has

    abbrev call : Call
    call = (found script w b holds p asked rest h low high).call

    asked-is : asked ≡ asked_of x call
    asked-is = asked-found script w b holds p asked rest h low high

    home-is : home_of x.pid call ≡ homes.At name
    home-is = ap (λ (a : Asked). home_of a.pid a.call) (sym asked-is) ∙ home

    name-holds : NameHolds script b.pids (is_born_in w) name (name_sight script w [] b name)
    name-holds = holds.names name

    -- it doesn't lead nowhere, as its name is used
    somewhere : by ≡ false → (under_way : Call) → z.caller.under_way ≡ Some under_way
        → may_be_withdrawn z.pid under_way ≡ true
        → LeadsNowhere (ranged caller Nothing z p) (waits_at z.pid under_way) → ⊥
    somewhere by_range under_way is may l =
        let same : call ≡ under_way =
        some-call call under_way (sym (found script w b holds p asked rest h low high).is ∙ is)
        in let there : WaitsAt z.pid under_way = waits-at z.pid under_way may
        in let same-name : waits_at z.pid under_way ≡ name =
        same-at (waits_at z.pid under_way) name
        (sym there.home ∙ ap (home_of z.pid) (sym same) ∙ home-is)
        in let unknown : place_of (directory_of w) name ≡ None =
        not-known (place_of (directory_of w) name)
        (subst (λ m. not (is_none (place_of (directory_of w) m)) ≡ false) same-name l.unknown)
        in let m : HasMakerThatStays (maker (directory_of w) name) (stays (directory_of w)) =
        name-holds.unplaced used unknown
        in let node : m.node ≡ l.node =
        some-node m.node l.node
        (sym m.makes ∙ is-at-maker script w b holds p asked rest h low high by at name (inl home) by_range
        ∙ ap Some (same-node p l.node l.is))
        in false≢true (sym l.leaves ∙ ap (stays (directory_of w)) (sym node) ∙ m.stays)

    at-caller : CancelHolds caller Nothing (record z { call = SentByPlace p })
    at-caller = by-way by refl
      where
        was : CancelHolds caller Nothing z
        was = holds.cancels caller low high

        sent : (t : Bool) → by ≡ t → CancelHolds caller Nothing (record z { call = sent_as t p })
        sent t e =
            subst (λ place. CancelHolds caller Nothing (record z { call = place })) (at ∙ ap (λ u. sent_as u p) e) was

        by-way : (t : Bool) → by ≡ t → CancelHolds caller Nothing (record z { call = SentByPlace p })
        by-way true e = sent true e
        by-way false e = as-placed caller Nothing z p (somewhere e) (sent false e)

    pub placed-cancels : (y : ℕ) → 1 ≤ y → y ≤ node_count script
        → CancelIf y Nothing (cancel_sight w [] (record moved { call = placed-calls }) y)
    placed-cancels y low_y high_y =
        elim (cases_eq y caller) [
          | inl e ↦
              subst (λ q. CancelHolds q Nothing (cancel_sight w [] (record moved { call = placed-calls }) q)) (sym e)
              (subst (λ place. CancelHolds caller Nothing (record z { call = place })) (sym placed-here) at-caller)
          | inr d ↦
              subst (λ place. CancelHolds y Nothing (record (cancel_sight w [] b y) { call = place }))
              (sym (placed-elsewhere y d)) (holds.cancels y low_y high_y)
        ]

    abbrev pub placed-before : WasBefore script v p s asked [] moved
    placed-before = before-with placed-calls placed-elsewhere placed-cancels

    abbrev placed : CallSight
    placed = record x { call = SentByPlace p }

    made-placed : IsToBeMade script caller placed call
    made-placed =
        let m : IsToBeMade script caller x call = made-later script w b holds p asked rest h low high by at
        in record { there = m.there; due = m.due; alive = m.alive; lives = m.lives; may = m.may }

    call-placed : CallHolds script caller (is_born_in w) placed
    call-placed =
        let just-there : IsJustThere caller x (asked_of x call) = f.just_there
        in let old : CallHolds script caller (is_born_in w) x = call-holds script w b holds p asked rest h low high
        in record {
          call = subst (λ u. HasCallOrNone script caller (is_born_in w) placed u)
              (sym (found script w b holds p asked rest h low high).is)
              (record {
                just_there = record {
                  in_streams = λ to sender. just-there.in_streams to sender
                      ∙ ap (λ place. only_if (is_in_stream place caller to sender) (frame_at place (asked_of x call)))
                      at
                      ∙ same-stream by p caller (asked_of x call) to sender;
                  held_for_names = λ m. just-there.held_for_names m
                      ∙ ap (λ place. only_if (is_held_at place m) (Request (asked_of x call))) at
                      ∙ ap (λ t. only_if t (Request (asked_of x call))) (not-held by p m);
                  in_hand = just-there.in_hand
                      ∙ ap (λ place. only_if (is_in_hand place) (Request (asked_of x call))) at
                      ∙ ap (λ t. only_if t (Request (asked_of x call))) (not-in-hand by p);
                  waiting = λ m. just-there.waiting m
                      ∙ ap (λ place. only_if (is_waiting_at place m) (waiting_as (asked_of x call))) at
                      ∙ ap (λ t. only_if t (waiting_as (asked_of x call))) (not-waiting by p m);
                };
                home = ap is_on_name home-is;
                used_up = tt;
                between = not-leader script w b holds p asked rest h low high;
                so_far = made-placed;
                at_work = f.at_work;
                started = f.started;
                tickets = f.tickets;
                try_left = f.try_left;
              });
          ends = sym (sent-no-end-place by p) ∙ ap is_end_place (sym at) ∙ old.ends;
        }

    -- it goes to wait from there
    pub placed-goes : GoesToWait script v p s asked [] moved placed-before
    placed-goes =
        record {
          caller = subst (λ place. CallHolds script caller (is_born_in w) (record x { call = place })) (sym placed-here)
              call-placed;
          goes = λ m. ap (λ place. goes_on place (Waits m)) placed-here;
          lands_not = λ m. ap (λ place. lands place (Waits m)) placed-here;
        }

    -- All holds with the call in hand, from where it may come to wait.
    pub forward-may-wait : MayWaitAt script v p s asked [] moved
    forward-may-wait =
        record {
          in_hand = record {
            owed = Wakes;
            holds = forward-waking script w b holds p asked rest h low high by at never;
            whole = forward-whole script w b holds p asked rest h low high by at never;
            before = placed-before;
          };
          goes = placed-goes;
        }
