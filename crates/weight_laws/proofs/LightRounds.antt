-- The leader's hand is emptied, and the step weighs no more: where each call first in it has a route, and each parcel
-- comes to its end, with the calls in their places.
use Rattle.std.proofs.Common.{◌≡◌, ℕ, Bool, true, false, zero, suc, ◌≤◌, ◌<◌, List, [], ◌∷◌, ◌++◌, Option, Some, option_and_then, refl, ap, subst, ◌∙◌, arith}
use Rattle.pico_base.specs.declared.numbers.Name.{Name}
use Rattle.pico_base.specs.declared.script.Script.{Script}
use Rattle.rpc_frame.specs.declared.asked.Asked.{Asked}
use Rattle.rpc_frame.specs.declared.deed.Parcel.{Parcel}
use Rattle.node_model.specs.declared.held.Held.{Held}
use Rattle.node_model.specs.declared.held.Held.TheVariants.{Request, Ending}
use Rattle.world_model.specs.Ends.{IsHeld, Releases, end_process}
use Rattle.world_model.specs.Releases.{go_on_after, no_round, release, release_round, release_rounds}
use Rattle.world_model.specs.Routes.{route_held}
use Rattle.world_model.specs.Step.{Step}
use Rattle.world_model.specs.World.{World, world_after}
use Rattle.world_laws.specs.Places.{Beside}
use Rattle.route_laws.proofs.Owed.{HoldsAt}
use Rattle.route_laws.proofs.hand.HandMoves.{IsCallOf}
use Rattle.route_laws.proofs.hand.Routes.{RouteKeeps}
use Rattle.route_laws.proofs.release.EndedParcels.{EndLeaves, end-leaves}
use Rattle.route_laws.proofs.release.Parcels.{among-behind-call, among-behind-parcel, among-both}
use Rattle.route_laws.proofs.release.RoutedParcels.{HoldsNoMore, route-holds-no-more}
use Rattle.route_laws.proofs.release.Rounds.{first-is-packed, parcels_left, places-rise}
use Rattle.weight_laws.specs.Weights.{middle_weight}
use Rattle.rule_laws.proofs.own.Moved.{AreStill}
use Rattle.waiting_model.specs.Calls.{is_withdrawal}
use Rattle.weight_laws.proofs.Cancels.{LeadsRightly, held-call, held-cancel-lowers}
use Rattle.weight_laws.proofs.Sums.{calls-woken}
use Rattle.weight_laws.proofs.Hand.{RemovalsAreOf}
use Rattle.weight_laws.proofs.HandSteps.{IsOfNodes, LightRoute, freed-is-light, held-is-light, may-end, route-is-light}
use Rattle.route_laws.proofs.exits.HandEnds.{HasEnd, frees, keeps_it}

-- the withdrawal first in hand goes on, or ends its call
pub record CancelGoes (script : Script) (v : World) (s : Step) (asked : Asked) (rest : List Held) (b : Beside) : Type 0
  where
    pub next : Step
    pub is_route : route_held script s asked ≡ Some next
    pub beside : Beside
    pub holds : HoldsAt script v 1 next rest beside
    pub calls : AreStill b.call beside.call

-- A step from a world with this in hand is good by what its rules ask besides the invariant. Then what is first in hand
-- goes on, with its call in its place, to a step that is good again. Removals in a good hand are of the one name.
pub record RoutesLightly (script : Script) (name : Name) (Good : World → Step → List Held → Type 0) : Type 0 where
  pub routes : (v : World) (s : Step) (asked : Asked) (rest : List Held) (b : Beside)
      → HoldsAt script v 1 s (Request asked ∷ rest) b → Good v s (Request asked ∷ rest)
      → is_withdrawal asked.call ≡ false → LightRoute script v s asked rest b
  pub cancels : (v : World) (s : Step) (asked : Asked) (rest : List Held) (b : Beside)
      → HoldsAt script v 1 s (Request asked ∷ rest) b → Good v s (Request asked ∷ rest)
      → is_withdrawal asked.call ≡ true → CancelGoes script v s asked rest b
  pub ends : (v : World) (s : Step) (parcel : Parcel) (rest : List Held) (b : Beside)
      → HoldsAt script v 1 s (Ending parcel ∷ rest) b → Good v s (Ending parcel ∷ rest)
      → HasEnd script v s parcel rest b
  pub good_routed : (v : World) (s next : Step) (asked : Asked) (rest : List Held) → Good v s (Request asked ∷ rest)
      → route_held script s asked ≡ Some next → Good v next rest
  pub good_held : (v : World) (s next : Step) (parcel : Parcel) (rest : List Held) → Good v s (Ending parcel ∷ rest)
      → end_process script s parcel ≡ Some (IsHeld next) → Good v next rest
  pub good_released : (v : World) (s next : Step) (parcel : Parcel) (items rest : List Held) (b : Beside)
      → HoldsAt script v 1 s (Ending parcel ∷ rest) b → Good v s (Ending parcel ∷ rest)
      → end_process script s parcel ≡ Some (Releases next items)
      → Good v next (items ++ rest)
  pub of_nodes : (v : World) (s : Step) (hand : List Held) → Good v s hand → IsOfNodes script s hand
  pub is_call : (v : World) (s : Step) (asked : Asked) (rest : List Held) → Good v s (Request asked ∷ rest)
      → is_withdrawal asked.call ≡ false → IsCallOf script asked
  pub names_nodes : (v : World) (s : Step) (hand : List Held) (b : Beside) → HoldsAt script v 1 s hand b
      → Good v s hand → LeadsRightly s.node
  pub one_name : (v : World) (s : Step) (hand : List Held) → Good v s hand → RemovalsAreOf name hand

-- the rounds come to a step that weighs no more, after which all holds with nothing in hand
pub record EmptiesLightly (script : Script) (Good : World → Step → List Held → Type 0) (v : World) (from_weight : ℕ)
    (came_to : Option Step) : Type 0 where
  pub last : Step
  pub is_last : came_to ≡ Some last
  pub beside : Beside
  pub holds : HoldsAt script v 1 last [] beside
  pub good : Good v last []
  pub lower : middle_weight script last [] beside.call ≤ from_weight

module _ (script : Script) (name : Name) (Good : World → Step → List Held → Type 0)
    (all : RoutesLightly script name Good) (v : World) where
  -- with so many parcels at most the hand is emptied
  abbrev EmptiesWith : (List Held → Step → Option Step) → ℕ → Type 0
  EmptiesWith does limit =
      (items : List Held) (s : Step) (b : Beside) → HoldsAt script v 1 s items b
      → Good v s items → parcels_left items s ≤ limit
      → EmptiesLightly script Good v (middle_weight script s items b.call) (does items s)

  -- and with fewer
  abbrev EmptiesBelow : (List Held → Step → Option Step) → ℕ → Type 0
  EmptiesBelow does limit =
      (items : List Held) (s : Step) (b : Beside) → HoldsAt script v 1 s items b
      → Good v s items → parcels_left items s < limit
      → EmptiesLightly script Good v (middle_weight script s items b.call) (does items s)

  -- a parcel has come to its end: the round goes on, or the next begins
  by-end : (does : List Held → Step → Option Step) (limit : ℕ) (parcel : Parcel) (rest : List Held) (s : Step)
      (b : Beside) → HoldsAt script v 1 s (Ending parcel ∷ rest) b → Good v s (Ending parcel ∷ rest)
      → parcels_left (Ending parcel ∷ rest) s ≤ limit
      → EmptiesBelow does limit
      → ((t : Step) (b' : Beside) → HoldsAt script v 1 t rest b' → Good v t rest
      → parcels_left rest t ≤ limit
      → EmptiesLightly script Good v (middle_weight script t rest b'.call) (release_round script does rest t))
      → HasEnd script v s parcel rest b
      → EmptiesLightly script Good v (middle_weight script s (Ending parcel ∷ rest) b.call)
      (release_round script does (Ending parcel ∷ rest) s)
  by-end does limit parcel rest s b holds good few below later (keeps_it next is after) =
      let left : EndLeaves s (Some (IsHeld next)) =
      subst (EndLeaves s) is
      (end-leaves script s parcel (first-is-packed script (world_after v 1 s) parcel rest b holds)
      (places-rise script v s (Ending parcel ∷ rest) b holds))
      in let light = held-is-light script v s parcel rest b holds
      (all.of_nodes v s (Ending parcel ∷ rest) good) next after.beside is after.calls
      in let kept : Beside = after.beside
      in let e : EmptiesLightly script Good v (middle_weight script next rest kept.call)
      (release_round script does rest next) =
      later next after.beside after.holds (all.good_held v s next parcel rest good is)
      (omega (arith, few, left, among-behind-parcel parcel rest))
      in let low = e.lower
      in record {
        last = e.last;
        is_last = ap (option_and_then (go_on_after does (release_round script does rest) rest)) is ∙ e.is_last;
        beside = e.beside;
        holds = e.holds;
        good = e.good;
        lower = omega (arith, low, light);
      }
  by-end does limit parcel rest s b holds good few below later (frees next items is after) =
      let left : EndLeaves s (Some (Releases next items)) =
      subst (EndLeaves s) is
      (end-leaves script s parcel (first-is-packed script (world_after v 1 s) parcel rest b holds)
      (places-rise script v s (Ending parcel ∷ rest) b holds))
      in let light = freed-is-light script v s parcel rest b holds
      (all.of_nodes v s (Ending parcel ∷ rest) good) next items after.beside is after.calls
      in let freed : Beside = after.beside
      in let e : EmptiesLightly script Good v (middle_weight script next (items ++ rest) freed.call)
      (does (items ++ rest) next) =
      below (items ++ rest) next after.beside after.holds
      (all.good_released v s next parcel items rest b holds good is)
      (omega (arith, few, left, among-behind-parcel parcel rest, among-both items rest))
      in let low = e.lower
      in record {
        last = e.last;
        is_last = ap (option_and_then (go_on_after does (release_round script does rest) rest)) is ∙ e.is_last;
        beside = e.beside;
        holds = e.holds;
        good = e.good;
        lower = omega (arith, low, light);
      }

  -- the first item in hand, a call or a withdrawal, goes on to a step that weighs no more
  record GoesOnLightly (s : Step) (asked : Asked) (rest : List Held) (b : Beside) : Type 0 where
    next : Step
    is_route : route_held script s asked ≡ Some next
    after : Beside
    holds : HoldsAt script v 1 next rest after
    good : Good v next rest
    fewer : parcels_left rest next ≤ parcels_left (Request asked ∷ rest) s
    light : middle_weight script next rest after.call ≤ middle_weight script s (Request asked ∷ rest) b.call

  no-more : (s next : Step) (asked : Asked) (rest : List Held) (b : Beside)
      → HoldsAt script v 1 s (Request asked ∷ rest) b → route_held script s asked ≡ Some next
      → parcels_left rest next ≤ parcels_left (Request asked ∷ rest) s
  no-more s next asked rest b holds is =
      let no_more : HoldsNoMore s next =
      route-holds-no-more script s next asked (places-rise script v s (Request asked ∷ rest) b holds) is
      in omega (arith, no_more, among-behind-call asked rest)

  call-goes-on : (s : Step) (asked : Asked) (rest : List Held) (b : Beside)
      → HoldsAt script v 1 s (Request asked ∷ rest) b → Good v s (Request asked ∷ rest)
      → is_withdrawal asked.call ≡ false → GoesOnLightly s asked rest b
  call-goes-on s asked rest b holds good e =
      let has : LightRoute script v s asked rest b = all.routes v s asked rest b holds good e
      in let r : RouteKeeps script v s asked rest has.beside = has.keeps
      in let is : route_held script s asked ≡ Some r.next = held-call script s asked e ∙ r.is_route
      in record {
        next = r.next;
        is_route = is;
        after = has.beside;
        holds = r.holds;
        good = all.good_routed v s r.next asked rest good is;
        fewer = no-more s r.next asked rest b holds is;
        light = route-is-light script v s asked rest b holds (all.is_call v s asked rest good e) name
            (all.one_name v s (Request asked ∷ rest) good) has;
      }

  cancel-goes-on : (s : Step) (asked : Asked) (rest : List Held) (b : Beside)
      → HoldsAt script v 1 s (Request asked ∷ rest) b → Good v s (Request asked ∷ rest)
      → is_withdrawal asked.call ≡ true → GoesOnLightly s asked rest b
  cancel-goes-on s asked rest b holds good e =
      let goes : CancelGoes script v s asked rest b = all.cancels v s asked rest b holds good e
      in let after : Beside = goes.beside
      in let low = held-cancel-lowers script s asked rest goes.next
      (all.names_nodes v s (Request asked ∷ rest) b holds good) (may-end script v s (Request asked ∷ rest) b holds) e
      goes.is_route
      in let calls = calls-woken script b.call after.call goes.calls
      in record {
        next = goes.next;
        is_route = goes.is_route;
        after = goes.beside;
        holds = goes.holds;
        good = all.good_routed v s goes.next asked rest good goes.is_route;
        fewer = no-more s goes.next asked rest b holds goes.is_route;
        light = omega (arith, low, calls);
      }

  -- and the round goes on from there
  first-goes-on : (does : List Held → Step → Option Step) (limit : ℕ) (asked : Asked) (rest : List Held) (s : Step)
      (b : Beside) → GoesOnLightly s asked rest b
      → ((t : Step) (b' : Beside) → HoldsAt script v 1 t rest b' → Good v t rest → parcels_left rest t ≤ limit
      → EmptiesLightly script Good v (middle_weight script t rest b'.call) (release_round script does rest t))
      → parcels_left (Request asked ∷ rest) s ≤ limit
      → EmptiesLightly script Good v (middle_weight script s (Request asked ∷ rest) b.call)
      (release_round script does (Request asked ∷ rest) s)
  first-goes-on does limit asked rest s b g later few =
      let after : Beside = g.after
      in let fewer = g.fewer
      in let e : EmptiesLightly script Good v (middle_weight script g.next rest after.call)
      (release_round script does rest g.next) =
      later g.next g.after g.holds g.good (omega (arith, few, fewer))
      in let low = e.lower
      in let light = g.light
      in record {
        last = e.last;
        is_last = ap (option_and_then (release_round script does rest)) g.is_route ∙ e.is_last;
        beside = e.beside;
        holds = e.holds;
        good = e.good;
        lower = omega (arith, low, light);
      }

  -- a round empties the hand where those after it do with fewer parcels
  round-does : (does : List Held → Step → Option Step) (limit : ℕ) → EmptiesBelow does limit
      → EmptiesWith (release_round script does) limit
  round-does does limit below [] s b holds good few =
      record { last = s; is_last = refl; beside = b; holds = holds; good = good; lower = omega arith }
  round-does does limit below (Request asked ∷ rest) s b holds good few =
      first-goes-on does limit asked rest s b (by-item (is_withdrawal asked.call) refl)
      (λ t b'. round-does does limit below rest t b') few
    where
      by-item : (t : Bool) → is_withdrawal asked.call ≡ t → GoesOnLightly s asked rest b
      by-item false e = call-goes-on s asked rest b holds good e
      by-item true e = cancel-goes-on s asked rest b holds good e
  round-does does limit below (Ending parcel ∷ rest) s b holds good few =
      by-end does limit parcel rest s b holds good few below (λ t b'. round-does does limit below rest t b')
      (all.ends v s parcel rest b holds good)

  -- so many rounds do for so many parcels
  rounds-do : (rounds : ℕ) → EmptiesWith (release_rounds rounds script) rounds
  rounds-do zero = round-does no_round 0 (λ items s b holds good few. absurd (omega (arith, few)))
  rounds-do (suc rounds) =
      round-does (release_rounds rounds script) (suc rounds)
      (λ items s b holds good few. rounds-do rounds items s b holds good (omega (arith, few)))

  -- What is in hand is released: it comes to a step that weighs no more, and all holds after it with nothing in hand.
  pub release-is-light : (items : List Held) (s : Step) (b : Beside) → HoldsAt script v 1 s items b
      → Good v s items → EmptiesLightly script Good v (middle_weight script s items b.call) (release script items s)
  release-is-light items s b holds good =
      rounds-do (parcels_left items s) items s b holds good (omega arith)
