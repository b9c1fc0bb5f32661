-- In the middle of an event: a call that has a route, and a parcel that comes to its end, with all that holds and the
-- calls in their places, leave the leader's step no heavier.
use Rattle.std.proofs.Common.{◌≡◌, ◌≤◌, List, ◌∷◌, ◌++◌, Some, ap, sym, subst, arith}
use Rattle.std.specs.List.{AllByRecursion}
use Rattle.pico_base.specs.declared.call.Home.TheVariants as homes
use Rattle.pico_base.specs.declared.numbers.Name.{Name}
use Rattle.pico_base.specs.declared.script.Script.{Script}
use Rattle.pico_base.specs.Home.{home_of}
use Rattle.rpc_frame.specs.declared.asked.Asked.{Asked}
use Rattle.rpc_frame.specs.declared.deed.Parcel.{Parcel}
use Rattle.node_model.specs.declared.held.Held.{Held}
use Rattle.node_model.specs.declared.held.Held.TheVariants.{Request, Ending}
use Rattle.node_model.specs.Directory.{Directory, held_for}
use Rattle.world_model.specs.Census.{one_if}
use Rattle.world_model.specs.Ends.{AfterEnd, IsHeld, Releases, end_process, names_in}
use Rattle.world_model.specs.Node.{Node}
use Rattle.world_model.specs.Step.{Step}
use Rattle.world_model.specs.World.{World, node_count, world_after}
use Rattle.world_laws.specs.Callers.{is_held_at}
use Rattle.world_laws.specs.Cancels.{Owing}
use Rattle.world_laws.specs.Families.{PidsHold}
use Rattle.world_laws.specs.Invariant.{HoldsOwing, IsLeading}
use Rattle.world_laws.specs.Names.{NameHolds, name_sight}
use Rattle.world_laws.specs.Places.{Beside, CallPlace, call_in}
use Rattle.world_laws.specs.Sights.{directory_of, is_born_in}
use Rattle.rule_laws.proofs.own.Moved.{AreStill, IsMoved}
use Rattle.route_laws.proofs.Owed.{HoldsAt, nobody_reads}
use Rattle.route_laws.proofs.hand.HandMoves.{IsCallOf, first}
use Rattle.route_laws.proofs.hand.Routes.{RouteKeeps, leader-number}
use Rattle.route_laws.proofs.hand.ReadRoutes.{HasRoute, PlaceFits}
use Rattle.route_laws.proofs.release.Rounds.{first-is-packed, leader-in-step}
use Rattle.route_laws.proofs.exits.Released.{call_released}
use Rattle.route_laws.proofs.release.RoutedParcels.{directory_in}
use Rattle.weight_laws.specs.Weights.{call_weight, middle_weight}
use Rattle.weight_laws.proofs.Arrivals.{ItemsFit}
use Rattle.weight_laws.proofs.CallHeads.{may-end-if}
use Rattle.weight_laws.proofs.Costs.{MayEndIf}
use Rattle.weight_laws.proofs.Counts.{IsOfNode, held-count, over, requests_in}
use Rattle.weight_laws.proofs.Hand.{RemovalsAreOf, RemovesOnly, first-goes}
use Rattle.weight_laws.proofs.HandEnds.{EndLowers, IsTended, end-lowers}
use Rattle.weight_laws.proofs.Routes.{place_limit, placed-light, route-lowers}
use Rattle.weight_laws.proofs.Sums.{calls-woken}

-- what a call's route allows it to weigh where it is then
abbrev pub IsRoutedBy : Step → Asked → CallPlace → Type 0
IsRoutedBy s asked place =
    call_weight place ≤ place_limit (nobody_reads s.node asked) (directory_in s) (home_of asked.pid asked.call)

-- the call has a route that keeps all, and then it is in another place, which weighs no more than its route says, and
-- others may be woken
pub record LightRoute (script : Script) (v : World) (s : Step) (asked : Asked) (rest : List Held) (b : Beside) : Type 0
  where
    pub beside : Beside
    pub keeps : RouteKeeps script v s asked rest beside
    pub moved : IsMoved b.call beside.call asked.caller (IsRoutedBy s asked)

-- what is in hand and held is of nodes of the script
pub record IsOfNodes (script : Script) (s : Step) (hand : List Held) : Type 0 where
  pub in_hand : AllByRecursion (IsOfNode script) hand
  pub held : (m : Name) → AllByRecursion (IsOfNode script) (held_for (directory_in s) m)

module _ (script : Script) (v : World) (s : Step) (hand : List Held) {owes : Owing} (b : Beside)
    (holds : HoldsOwing script (world_after v 1 s) hand owes b) where
  same-directory : directory_of (world_after v 1 s) ≡ directory_in s
  same-directory = ap (λ (n : Node). n.leader.directory) (leader-in-step script v s hand b holds)

  -- a call that is under way at the leader may be answered
  pub may-end : MayEndIf script s.node
  may-end =
      subst (MayEndIf script) (leader-in-step script v s hand b holds)
      (may-end-if script (world_after v 1 s) hand b holds 1 (omega arith) high-one)
    where
      high-one : 1 ≤ node_count script
      high-one =
          let pids : PidsHold script b.pids b.places b.kernel = holds.pids
          in let both = pids.nodes 1 (λ e. omega (arith, e, pids.first))
          in both.1

  -- the leader knows each name once
  pub leading-in-step : IsLeading (directory_in s)
  leading-in-step = subst IsLeading same-directory holds.leading

  -- what is held for a name is on it
  pub items-fit : ItemsFit (directory_in s)
  items-fit =
      subst ItemsFit same-directory
      (λ m. let its : NameHolds script b.pids (is_born_in (world_after v 1 s)) m
      (name_sight script (world_after v 1 s) hand b m) = holds.names m
      in its.items)

  -- what the end of a parcel takes of it
  pub tended-in-step : IsOfNodes script s hand → IsTended script b.call (directory_in s)
  tended-in-step of_nodes =
      record {
        leads = leading-in-step;
        fit = items-fit;
        counted = λ m.
            subst (λ (d : Directory). AllByRecursion (IsOfNode script) (held_for d m)
            → over (λ p. one_if (is_held_at (b.call p) m)) 1 (node_count script) ≡ requests_in (held_for d m))
            same-directory (held-count script (world_after v 1 s) hand b holds m) (of_nodes.held m);
      }

-- ---- a call

-- a route says that
pub light-route : (script : Script) (v : World) (s : Step) (asked : Asked) (rest : List Held) (b : Beside)
    → HasRoute script v s asked rest b → LightRoute script v s asked rest b
light-route script v s asked rest b r =
    let after : Beside = r.beside
    in let m : IsMoved b.call after.call asked.caller (PlaceFits s.node asked) = r.moved
    in record {
      beside = r.beside;
      keeps = r.keeps;
      moved = record { place = m.place; calls = m.calls; fits = placed-light s.node asked m.place m.fits };
    }

module _ (script : Script) (v : World) (s : Step) (asked : Asked) (rest : List Held) (b : Beside)
    (holds : HoldsAt script v 1 s (Request asked ∷ rest) b) (asks : IsCallOf script asked)
    (name : Name) (only : RemovalsAreOf name (Request asked ∷ rest)) where
  abbrev w : World
  w = world_after v 1 s

  number : (let n : Node = s.node in n.number ≡ 1)
  number = leader-number script v s asked rest b holds asks

  removal-only : (other : Name) → home_of asked.pid asked.call ≡ homes.Removal other → RemovalsAreOf other rest
  removal-only other on =
      let same : other ≡ name = subst (RemovesOnly name) on only.0
      in subst (λ m. RemovalsAreOf m rest) (sym same) only.1

  -- With the call where it is then, the step weighs no more.
  pub route-is-light : (r : LightRoute script v s asked rest b)
      → (let k : RouteKeeps script v s asked rest r.beside = r.keeps
      in let after : Beside = r.beside
      in middle_weight script k.next rest after.call ≤ middle_weight script s (Request asked ∷ rest) b.call)
  route-is-light r =
      let k : RouteKeeps script v s asked rest r.beside = r.keeps
      in let after : Beside = r.beside
      in let m : IsMoved b.call after.call asked.caller (IsRoutedBy s asked) = r.moved
      in let it = first script w asked rest b holds asks
      in let cost = route-lowers script s asked rest number
      (leading-in-step script v s (Request asked ∷ rest) b holds) (may-end script v s (Request asked ∷ rest) b holds)
      asks.is_call k.next m.place removal-only m.fits
      k.is_route
      in let less = first-goes script s k.next asked rest b.call m.place asks.low asks.high it.place_is cost
      in let fewer = calls-woken script (call_in b.call asked.caller m.place) after.call m.calls
      in omega (arith, less, fewer)

-- ---- a parcel

module _ (script : Script) (v : World) (s : Step) (parcel : Parcel) (rest : List Held) {owes : Owing} (b : Beside)
    (holds : HoldsOwing script (world_after v 1 s) (Ending parcel ∷ rest) owes b)
    (of_nodes : IsOfNodes script s (Ending parcel ∷ rest)) where
  lowers : (after : AfterEnd) → end_process script s parcel ≡ Some after
      → EndLowers script b.call parcel
      (first-is-packed script (world_after v 1 s) parcel rest b holds) rest s after
  lowers after is =
      end-lowers script b.call parcel (first-is-packed script (world_after v 1 s) parcel rest b holds) rest s
      (may-end script v s (Ending parcel ∷ rest) b holds) after
      (tended-in-step script v s (Ending parcel ∷ rest) b holds of_nodes) is

  -- Where it is held, the step weighs no more.
  pub held-is-light : (next : Step) (beside : Beside) → end_process script s parcel ≡ Some (IsHeld next)
      → AreStill b.call beside.call
      → middle_weight script next rest beside.call ≤ middle_weight script s (Ending parcel ∷ rest) b.call
  held-is-light next beside is still =
      let low = lowers (IsHeld next) is
      in let fewer = calls-woken script b.call beside.call still
      in omega (arith, low, fewer)

  -- Nor where it is gone, with what was held for its names in hand.
  pub freed-is-light : (next : Step) (items : List Held) (beside : Beside)
      → end_process script s parcel ≡ Some (Releases next items)
      → AreStill (λ p. call_released (names_in parcel) (b.call p)) beside.call
      → middle_weight script next (items ++ rest) beside.call ≤ middle_weight script s (Ending parcel ∷ rest) b.call
  freed-is-light next items beside is still =
      let low = lowers (Releases next items) is
      in let fewer = calls-woken script (λ p. call_released (names_in parcel) (b.call p)) beside.call still
      in omega (arith, low, fewer)
