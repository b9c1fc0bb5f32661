-- The first call of the hand has a route that keeps all: by its home, the name's place, and who has its number's range.
use Rattle.std.proofs.Common.{◌≡◌, ◌≢◌, ◌⊎◌, ℕ, ◌≤◌, Bool, true, false, ◌&&◌, not, if◌then◌else◌, List, ◌∷◌, nat_eq, Option, Some, None, refl, ap, sym, subst, ◌∙◌, inl, inr, arith}
use Rattle.std.proofs.lemmas.Bool.{cases_eq, eq-eqb, false≢true}
use Rattle.pico_base.specs.declared.call.Home.{Home}
use Rattle.pico_base.specs.declared.call.Home.TheVariants as homes
use Rattle.pico_base.specs.declared.numbers.Name.{Name}
use Rattle.pico_base.specs.declared.script.Script.{Script}
use Rattle.pico_base.specs.Home.{home_of}
use Rattle.rpc_frame.specs.declared.asked.Asked.{Asked}
use Rattle.node_model.specs.declared.held.Held.{Held}
use Rattle.node_model.specs.declared.held.Held.TheVariants.{Request}
use Rattle.node_model.specs.declared.route.Route.TheVariants as routes
use Rattle.node_model.specs.Directory.{Directory, Place, At, Coming, place_of, maker, maker_stays, stays, route, route_by}
use Rattle.world_model.specs.Calls.{is_for_others}
use Rattle.world_model.specs.Node.{Node}
use Rattle.world_model.specs.Step.{Step}
use Rattle.world_model.specs.World.{World, node_count, world_after}
use Rattle.world_laws.specs.Places.{CallPlace, SentByPlace, SentByRange, IsHeld, Beside, call_in}
use Rattle.world_laws.specs.Sights.{directory_of, is_born_in, node_of}
use Rattle.world_laws.specs.Families.{NodeHolds}
use Rattle.rule_laws.proofs.Nodes.{leader-stage}
use Rattle.rule_laws.proofs.own.Moved.{moved-alone}
use Rattle.route_laws.specs.Ready.{HasFewNodes, IsReady}
use Rattle.route_laws.specs.Watching.{WatchesAsOwner}
use Rattle.route_laws.proofs.Owed.{HoldsAt}
use Rattle.route_laws.proofs.hand.HandMoves.{IsCallOf, in-hand-for-others}
use Rattle.route_laws.proofs.hand.NobodyRoutes.{route-to-nobody}
use Rattle.route_laws.proofs.hand.ReadRoutes.{HasRoute, PlaceFits, goes_by_range, goes_to_owner, is_asked_back, is_held}
use Rattle.route_laws.proofs.hand.Routes.{IsOn, RouteKeeps, leader-here, range-is, route-by-range, route-to-held, route-to-owner, route-to-recall}
use Rattle.route_laws.proofs.hand.ServedRoutes.{route-to-leader}
use Rattle.route_laws.proofs.keys.KeyRoutes.{route-to-keys}
use Rattle.route_laws.proofs.keys.RemovalRoutes.{route-to-removal}
use Rattle.route_laws.proofs.keys.Removals.{AreRising}
use Rattle.route_laws.proofs.served.Replies.{IsAtWork}

module _ (script : Script) (v : World) (s : Step) (asked : Asked) (rest : List Held) (b : Beside)
    (holds : HoldsAt script v 1 s (Request asked ∷ rest) b) (asks : IsCallOf script asked) (few : HasFewNodes script)
    (ready : IsReady (node_of (world_after v 1 s) 1)) where
  abbrev w : World
  w = world_after v 1 s

  abbrev d : Directory
  d = directory_of w

  abbrev home : Home
  home = home_of asked.pid asked.call

  high-one : 1 ≤ node_count script
  high-one = let low = asks.low in let high = asks.high in omega (arith, low, high)

  here : node_of w 1 ≡ s.node
  here = leader-here script v s asked rest b holds asks

  -- the leader is at work
  at : IsAtWork script w 1
  at =
      let old : NodeHolds script b.pids (is_born_in w) 1 (node_of w 1) = holds.nodes 1 (omega arith) high-one
      in record {
        low = omega arith;
        high = high-one;
        born = (leader-stage script b.pids (is_born_in w) 1 (node_of w 1) refl old).0;
      }

  watches : WatchesAsOwner s.node
  watches = subst (λ (m : Node). WatchesAsOwner m) here ready.watches

  rising : (let n : Node = node_of w 1 in AreRising n.leader)
  rising = record { queues = ready.queues; sets = ready.sets }

  there : (name : Name) (o : Option Place) → place_of d name ≡ o → place_of s.node.leader.directory name ≡ o
  there name o place = ap (λ (m : Node). place_of m.leader.directory name) (sym here) ∙ place

  routed : (place : CallPlace) → PlaceFits s.node asked place
      → RouteKeeps script v s asked rest (record b { call = call_in b.call asked.caller place })
      → HasRoute script v s asked rest b
  routed place fits keeps =
      record {
        beside = record b { call = call_in b.call asked.caller place };
        keeps = keeps;
        moved = moved-alone b.call (call_in b.call asked.caller place) asked.caller (PlaceFits s.node asked) place
            (λ y. refl) fits;
      }

  by-maker : (name : Name) → IsOn name home → place_of d name ≡ None → (m : Option ℕ) → maker d name ≡ m
      → HasRoute script v s asked rest b
  by-maker name on place None made =
      route-to-nobody script v s asked rest b holds at asks name on place
      (ap (λ o. route_by o (maker_stays d (maker d name)) (maker d name)) place
      ∙ ap (λ m. route_by None (maker_stays d m) m) made)
  by-maker name on place (Some h) made = by-tests (stays d h) refl (cases_eq h 1)
    where
      goes : route d name ≡ (if stays d h && not (nat_eq h 1) then routes.Range h else routes.Nobody)
      goes =
          ap (λ o. route_by o (maker_stays d (maker d name)) (maker d name)) place
          ∙ ap (λ m. route_by None (maker_stays d m) m) made

      by-tests : (t : Bool) → stays d h ≡ t → (h ≡ 1) ⊎ (h ≢ 1) → HasRoute script v s asked rest b
      by-tests true e (inr away) =
          routed (SentByRange h)
          (goes_by_range name h refl on
          (ap (λ (m : Node). route m.leader.directory name) (sym here)
          ∙ range-is script v s asked rest b holds asks name h place made e away))
          (route-by-range script v s asked rest b holds asks name h on place made e away)
      by-tests true e (inl first) =
          route-to-nobody script v s asked rest b holds at asks name on place
          (goes ∙ ap (λ t. if t && not (nat_eq h 1) then routes.Range h else routes.Nobody) e
          ∙ ap (λ t. if not t then routes.Range h else routes.Nobody) (eq-eqb h 1 first))
      by-tests false e first =
          route-to-nobody script v s asked rest b holds at asks name on place
          (goes ∙ ap (λ t. if t && not (nat_eq h 1) then routes.Range h else routes.Nobody) e)

  on-name : (name : Name) → home ≡ homes.At name → (o : Option Place) → place_of d name ≡ o
      → HasRoute script v s asked rest b
  on-name name on None place = by-maker name (inl on) place (maker d name) refl
  on-name name on (Some (Coming to items)) place =
      routed (IsHeld name) (is_held name to items refl (inl on) (there name (Some (Coming to items)) place))
      (route-to-held script v s asked rest b holds asks name to items (inl on) place)
  on-name name on (Some (At node)) place =
      elim (cases_eq node 1) [
        | inl e ↦
            route-to-leader script v s asked rest b holds at asks few watches name on
            (place ∙ ap (λ y. Some (At y)) e)
        | inr away ↦
            routed (SentByPlace node) (goes_to_owner name node refl on (there name (Some (At node)) place) away)
            (route-to-owner script v s asked rest b holds asks name node on place
            (ready.nodes name node place) away)
      ]

  removes : (name : Name) → home ≡ homes.Removal name → (o : Option Place) → place_of d name ≡ o
      → HasRoute script v s asked rest b
  removes name on None place = by-maker name (inr on) place (maker d name) refl
  removes name on (Some (Coming to items)) place =
      routed (IsHeld name) (is_held name to items refl (inr on) (there name (Some (Coming to items)) place))
      (route-to-held script v s asked rest b holds asks name to items (inr on) place)
  removes name on (Some (At node)) place =
      elim (cases_eq node 1) [
        | inl e ↦ route-to-removal script v s asked rest b holds at asks few rising name on
            (place ∙ ap (λ y. Some (At y)) e)
        | inr away ↦
            routed (IsHeld name) (is_asked_back name node refl on (there name (Some (At node)) place) away)
            (route-to-recall script v s asked rest b holds asks name node on place
            (ready.nodes name node place) away)
      ]

  by-home : (h : Home) → home ≡ h → is_for_others h ≡ true → HasRoute script v s asked rest b
  by-home (homes.At name) on h = on-name name on (place_of d name) refl
  by-home (homes.Removal name) on h = removes name on (place_of d name) refl
  by-home homes.Keys on h = route-to-keys script v s asked rest b holds at asks on ready.numbers
  by-home homes.Own on h = absurd (false≢true h)
  by-home homes.Parent on h = absurd (false≢true h)

  -- The call has a route, which keeps all.
  pub has-route : HasRoute script v s asked rest b
  has-route = by-home home refl (in-hand-for-others script w asked rest b holds asks)
