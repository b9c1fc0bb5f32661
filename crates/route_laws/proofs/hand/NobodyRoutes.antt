-- The leader routes a call on a name that nothing has.
use Rattle.std.proofs.Common.{◌≡◌, Bool, true, false, ◌&&◌, not, if◌then◌else◌, List, ◌∷◌, nat_eq, None, Some, refl, ap, sym, ◌∙◌, inl, inr}
use Rattle.std.proofs.lemmas.Bool.{cases_eq, ne_eqb, false≢true}
use Rattle.pico_base.specs.declared.call.Home.{Home}
use Rattle.pico_base.specs.declared.numbers.Name.{Name}
use Rattle.pico_base.specs.declared.script.Script.{Script}
use Rattle.pico_base.specs.Home.{home_of}
use Rattle.rpc_frame.specs.declared.asked.Asked.{Asked}
use Rattle.node_model.specs.declared.held.Held.{Held}
use Rattle.node_model.specs.declared.held.Held.TheVariants.{Request}
use Rattle.node_model.specs.declared.route.Route.{Route}
use Rattle.node_model.specs.declared.route.Route.TheVariants as routes
use Rattle.node_model.specs.Directory.{Directory, place_of, maker, maker_stays, route, route_by}
use Rattle.world_model.specs.Step.{Step}
use Rattle.world_model.specs.World.{World, world_after}
use Rattle.entry_laws.specs.Entering.{is_used_name}
use Rattle.world_laws.specs.Places.{Beside}
use Rattle.world_laws.specs.Sights.{directory_of, is_born_in}
use Rattle.world_laws.specs.Callers.{is_on}
use Rattle.world_laws.specs.Cancels.{Owing}
use Rattle.world_laws.specs.Plays.{believed, placed_in, told}
use Rattle.world_laws.specs.Names.{NameSight, name_sight, NameHolds, HasMakerThatStays, belief_of, maker_tells, is_nowhere}
use Rattle.world_laws.specs.Invariant.{HoldsOwing}
use Rattle.world_laws.proofs.Named.{same-name}
use Rattle.route_laws.proofs.Owed.{HoldsAt}
use Rattle.route_laws.proofs.hand.HandMoves.{IsCallOf}
use Rattle.route_laws.proofs.hand.ReadRoutes.{HasRoute, is_carried_out}
use Rattle.route_laws.proofs.hand.Routes.{IsOn, routed-elsewhere}
use Rattle.route_laws.proofs.served.Before.{IsInHandAt, in-hand-at}
use Rattle.route_laws.proofs.served.Nobody.{nobody_beside, nobody-keeps, plain-call, refused, refusal, whole-step}
use Rattle.route_laws.proofs.served.Replies.{IsAtWork}
use Rattle.route_laws.proofs.served.Unchanged.{is-carried, one_step, one-carried, one-moved}

-- a call on a name is on it
pub on-it : (name : Name) (home : Home) → IsOn name home → is_on name home ≡ true
on-it name home (inl e) = ap (is_on name) e ∙ same-name name name refl
on-it name home (inr e) = ap (is_on name) e ∙ same-name name name refl

-- ---- a name that goes nowhere is unused

abbrev is_nobody : Route → Bool
is_nobody routes.Nobody = true
is_nobody r = false

module _ (script : Script) (w : World) (hand : List Held) {owes : Owing} (b : Beside)
    (holds : HoldsOwing script w hand owes b) (name : Name)
    (place : place_of (directory_of w) name ≡ None) (nowhere : route (directory_of w) name ≡ routes.Nobody) where
  abbrev d : Directory
  d = directory_of w

  abbrev x : NameSight
  x = name_sight script w hand b name

  name-holds : NameHolds script b.pids (is_born_in w) name x
  name-holds = holds.names name

  told-nothing : maker d name ≡ Some 1 → is_nowhere (belief_of x) ≡ true
  told-nothing made =
      ap (λ m. is_nowhere (believed x.place (maker_tells x m))) made
      ∙ ap (λ o. is_nowhere (believed o (x.placed 1))) place
      ∙ ap (λ fs. is_nowhere (told (placed_in name fs))) (let fit = holds.frames_fit in fit.none_to_itself 1)

  by-maker : x.used ≡ true → HasMakerThatStays x.maker x.stays → ⊥
  by-maker used m =
      elim (cases_eq m.node 1) [
        | inl e ↦
            false≢true
            (sym (name-holds.believed used) ∙ told-nothing (m.makes ∙ ap Some e))
        | inr other ↦
            false≢true
            (sym (ap is_nobody (ap (λ o. route_by o (maker_stays d (maker d name)) (maker d name)) place
            ∙ ap (λ k. route_by None (maker_stays d k) k) m.makes
            ∙ ap (λ t. if t && not (nat_eq m.node 1) then routes.Range m.node else routes.Nobody) m.stays
            ∙ ap (λ t. if not t then routes.Range m.node else routes.Nobody) (ne_eqb m.node 1 other)))
            ∙ ap is_nobody nowhere)
      ]

  -- A name that the leader sends to nobody is unused.
  pub nobody-unused : is_used_name b.kernel name ≡ false
  nobody-unused = by-test (is_used_name b.kernel name) refl
    where
      by-test : (t : Bool) → is_used_name b.kernel name ≡ t → is_used_name b.kernel name ≡ false
      by-test true e = absurd (by-maker e (name-holds.unplaced e place))
      by-test false e = e

-- ---- the route

module _ (script : Script) (v : World) (s : Step) (asked : Asked) (rest : List Held) (b : Beside)
    (holds : HoldsAt script v 1 s (Request asked ∷ rest) b) (at : IsAtWork script (world_after v 1 s) 1)
    (asks : IsCallOf script asked) (name : Name) (on : IsOn name (home_of asked.pid asked.call))
    (place : place_of (directory_of (world_after v 1 s)) name ≡ None)
    (nowhere : route (directory_of (world_after v 1 s)) name ≡ routes.Nobody) where
  abbrev hand : List Held
  hand = Request asked ∷ rest

  in_hand : IsInHandAt script v 1 s asked rest b
  in_hand = in-hand-at script v 1 s asked rest b holds asks

  unused : is_used_name b.kernel name ≡ false
  unused = nobody-unused script (world_after v 1 s) hand b holds name place nowhere

  on-name : is_on name (home_of asked.pid asked.call) ≡ true
  on-name = on-it name (home_of asked.pid asked.call) on

  -- A call on a number that names nothing is refused.
  pub route-to-nobody : HasRoute script v s asked rest b
  route-to-nobody =
      record {
        beside = nobody_beside script v 1 s asked rest b in_hand at asks name on-name unused;
        keeps = record {
          next = one_step script v 1 s asked rest b in_hand at asks
              (refusal script v 1 s asked rest b in_hand at asks name on-name unused);
          is_route = routed-elsewhere script v s asked rest b holds asks name routes.Nobody refl on nowhere
              ∙ ap Some (one-carried script v 1 s asked rest b in_hand at asks
              (refusal script v 1 s asked rest b in_hand at asks name on-name unused));
          holds = nobody-keeps script v 1 s asked rest b in_hand at asks name on-name unused;
        };
        moved = one-moved script v 1 s asked rest b in_hand at asks
            (refusal script v 1 s asked rest b in_hand at asks name on-name unused)
            (refused script v 1 s asked rest b in_hand at asks name on-name unused)
            (plain-call script v 1 s asked rest b in_hand at asks name on-name unused)
            (whole-step script v 1 s asked rest b in_hand at asks name on-name unused) _
            (is_carried_out (is-carried 1 asked.caller
            (refusal script v 1 s asked rest b in_hand at asks name on-name unused)));
      }
