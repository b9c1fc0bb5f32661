-- The first call of the hand has to wait at a name that the node holds: it is among those who wait there then, behind
-- them.
use Rattle.std.proofs.Common.{◌≡◌, ℕ, Bool, true, false, ◌&&◌, cond, if◌then◌else◌, List, [], ◌∷◌, ◌++◌, filter, refl, ap, sym, subst, ◌∙◌, inl, inr, append-nil}
use Rattle.std.specs.List.{AllByRecursion}
use Rattle.std.specs.Prelude.{nat_le}
use Rattle.std.proofs.lemmas.Bool.{eq-eqb, le-leb, ne_eqb}
use Rattle.std.proofs.lemmas.List.Elements.{Contains-append_right, filter-append}
use Rattle.pico_base.specs.declared.numbers.Name.{Name}
use Rattle.pico_base.specs.declared.script.Script.{Script}
use Rattle.pico_base.specs.Home.{home_of}
use Rattle.rpc_frame.specs.declared.asked.Asked.{Asked}
use Rattle.waiting_model.specs.declared.callers.Waiting.{Waiting}
use Rattle.waiting_model.specs.Calls.{may_park}
use Rattle.node_model.specs.declared.held.Held.{Held}
use Rattle.node_model.specs.declared.held.Held.TheVariants.{Request, Ending}
use Rattle.node_model.specs.Bodies.{Body, Deeds, bare, body_in, is_living_body, waiters_of}
use Rattle.node_model.specs.Serving.{waiting_as}
use Rattle.world_model.specs.Node.{is_node}
use Rattle.world_model.specs.World.{World, node_count}
use Rattle.entry_laws.proofs.Names.{other-name, same-name}
use Rattle.world_laws.specs.Places.{InTable, Waits, Beside, body_put, call_in}
use Rattle.world_laws.specs.Sights.{node_of, is_born_in}
use Rattle.world_laws.specs.Names.{NameHolds, name_sight}
use Rattle.world_laws.specs.Callers.{CallHolds, CallSight, HasCall, HasCallOrNone, IsSoFar, IsToBeMade, asked_of, call_sight, is_end_place, is_item_about, is_on, is_waiter_of, only_if}
use Rattle.world_laws.specs.Cancels.{Wakes}
use Rattle.world_laws.specs.Invariant.{HoldsOwing}
use Rattle.world_laws.specs.Ranges.{has_lease}
use Rattle.world_laws.proofs.Cancels.{is_item_of}
use Rattle.world_laws.proofs.Changes.{Changes}
use Rattle.world_laws.proofs.Named.{name-cases}
use Rattle.rule_laws.proofs.own.Rebodied.{IsBodyOf}
use Rattle.route_laws.proofs.hand.HandMoves.{IsCallOf, IsFirst, first, held-for-none, in-no-stream, placed_at, waits-nowhere}
use Rattle.route_laws.proofs.served.Nodes.{PutsBody, bare-lives, node_with}
use Rattle.route_laws.proofs.served.Rebodies.{MovesThere, rebodies-keeps}
use Rattle.route_laws.proofs.served.Replies.{IsAtWork}
use Rattle.node_model.specs.Kinds.{is_same_name}

both : (a c : Bool) → a ≡ true → c ≡ true → (a && c) ≡ true
both true c h g = g
both false c h g = h

all-behind : (P : Waiting → Type 0) (ws : List Waiting) (v : Waiting) → AllByRecursion P ws → P v
    → AllByRecursion P (ws ++ v ∷ [])
all-behind P [] v h own = (own, tt)
all-behind P (w ∷ ws) v h own = (h.0, all-behind P ws v h.1 own)

module _ (script : Script) (w : World) (p : ℕ) (at : IsAtWork script w p) (asked : Asked) (rest : List Held)
    (b : Beside)
    (holds : HoldsOwing script w (Request asked ∷ rest) Wakes b) (asks : IsCallOf script asked) (name : Name)
    (here : b.deed name ≡ InTable p) (on : is_on name (home_of asked.pid asked.call) ≡ true)
    (parks : may_park asked.call ≡ true) (body : Body) (same_bare : bare body ≡ bare (b.body name))
    (behind : waiters_of body ≡ waiters_of (b.body name) ++ waiting_as asked ∷ []) (deeds : Deeds)
    (puts : PutsBody (node_of w p).deeds deeds name body) (w' : World)
    (c : Changes script p w w' (node_with (node_of w p) (node_of w p).caller deeds (node_of w p).leader) [] [] []) where
  abbrev x : ℕ
  x = asked.caller

  abbrev hand : List Held
  hand = Request asked ∷ rest

  abbrev ws : List Waiting
  ws = waiters_of (b.body name)

  abbrev sight : CallSight
  sight = call_sight w hand b x

  is-first : IsFirst script x (is_born_in w) sight asked (filter (is_item_about x) rest)
  is-first = first script w asked rest b holds asks

  has : HasCall script x (is_born_in w) sight is-first.call
  has = is-first.has

  call-holds : CallHolds script x (is_born_in w) sight
  call-holds = holds.calls x asks.low asks.high

  to-be-made : IsToBeMade script x sight is-first.call
  to-be-made = subst (λ z. IsSoFar script x sight is-first.call z) is-first.place_is has.so_far

  abbrev placed : CallSight
  placed = placed_at sight x (Waits name) (asked_of sight is-first.call)

  placed-holds : CallHolds script x (is_born_in w) placed
  placed-holds =
      record {
        call = subst (λ o. HasCallOrNone script x (is_born_in w) placed o) (sym is-first.is)
            (record {
              just_there = record {
                in_streams = λ to sender. refl;
                held_for_names = λ other. refl;
                in_hand = refl;
                waiting = λ other. refl;
              };
              home = subst (λ (a : Asked). (is_on name (home_of a.pid a.call) && may_park a.call) ≡ true)
                  is-first.asked_is
                  (both (is_on name (home_of asked.pid asked.call)) (may_park asked.call) on parks);
              used_up = tt;
              between = tt;
              so_far = record {
                there = to-be-made.there;
                due = to-be-made.due;
                alive = to-be-made.alive;
                lives = to-be-made.lives;
                may = to-be-made.may;
              };
              at_work = has.at_work;
              started = has.started;
              tickets = has.tickets;
              try_left = has.try_left;
            });
        ends = sym (ap is_end_place is-first.place_is) ∙ call-holds.ends;
      }

  waiting-of : (y : ℕ) → filter (is_waiter_of y) (waiters_of body)
      ≡ filter (is_waiter_of y) ws ++ filter (is_waiter_of y) (waiting_as asked ∷ [])
  waiting-of y = ap (filter (is_waiter_of y)) behind ∙ filter-append (is_waiter_of y) ws (waiting_as asked ∷ [])

  moves : MovesThere script w hand rest b name body x (Waits name) asked
  moves =
      record {
        call = subst (λ a. CallHolds script x (is_born_in w) (placed_at sight x (Waits name) a)) (sym is-first.asked_is)
            placed-holds;
        no_stream = in-no-stream script w asked rest b holds asks;
        none_held = held-for-none script w asked rest b holds asks;
        out_of_streams = λ to sender. refl;
        not_held = λ other. refl;
        no_lease = λ kind. sym (ap (has_lease kind) is-first.place_is);
        hand_is = is-first.alone;
        hand_of_others = λ y d. sym (ap (λ t. cond t (Request asked ∷ filter (is_item_of y) rest)
            (filter (is_item_of y) rest)) (ne_eqb x y (λ e. d (sym e))));
        parcels_at_hand = λ parcel at. Contains-append_right (Request asked ∷ []) rest (Ending parcel) at;
        parcels_with = λ other. refl;
        waiters_are = λ other. elim (name-cases other name) [
          | inl e ↦
              ap (λ z. filter (is_waiter_of x) (waiters_of (body_put b.body name body z))) e
              ∙ ap (λ t. filter (is_waiter_of x) (waiters_of (if t then body else b.body name))) (same-name name)
              ∙ waiting-of x
              ∙ ap (λ us. us ++ filter (is_waiter_of x) (waiting_as asked ∷ []))
              (waits-nowhere script w asked rest b holds asks name)
              ∙ ap (λ t. cond t (waiting_as asked ∷ []) []) (eq-eqb x x refl)
              ∙ sym (ap (λ t. only_if t (waiting_as asked)) (ap (is_same_name name) e ∙ same-name name))
          | inr d ↦
              ap (λ t. filter (is_waiter_of x) (waiters_of (if t then body else b.body other)))
              (other-name name other d)
              ∙ waits-nowhere script w asked rest b holds asks other
              ∙ sym (ap (λ t. only_if t (waiting_as asked)) (other-name name other d))
        ];
        waiters_of_others = λ y d. waiting-of y
            ∙ ap (λ t. filter (is_waiter_of y) ws ++ cond t (waiting_as asked ∷ []) []) (ne_eqb x y (λ e. d (sym e)))
            ∙ append-nil (filter (is_waiter_of y) ws);
      }

  is-of-script : is_node script x ≡ true
  is-of-script =
      both (nat_le 1 x) (nat_le x (node_count script)) (le-leb 1 x asks.low) (le-leb x (node_count script) asks.high)

  body-of : IsBodyOf script (body_in b.kernel name) body
  body-of =
      let old : NameHolds script b.pids (is_born_in w) name (name_sight script w hand b name) = holds.names name
      in record {
        parts = same_bare ∙ old.parts;
        callers = subst (λ us. AllByRecursion (λ u. is_node script u.caller ≡ true) us) (sym behind)
            (all-behind (λ u. is_node script u.caller ≡ true) ws (waiting_as asked) old.callers is-of-script);
      }

  lives : is_living_body body ≡ is_living_body (b.body name)
  lives = sym (bare-lives body) ∙ ap is_living_body same_bare ∙ bare-lives (b.body name)

  -- what stands beside the world then
  abbrev pub parked_beside : Beside
  parked_beside = record b { call = call_in b.call x (Waits name); body = body_put b.body name body }

  -- All holds with the call among those who wait.
  pub parks-there : HoldsOwing script w' rest Wakes parked_beside
  parks-there =
      rebodies-keeps script w w' p at hand rest b holds name here body body-of lives deeds puts x (Waits name) asked
      moves c
