-- The leader routes a removal of a name that it holds: it serves the call, and no key leads to the name any more.
use Rattle.std.proofs.Common.{◌≡◌, Bool, true, if◌then◌else◌, List, ◌∷◌, option_map, Some, refl, ap, sym, subst, ◌∙◌, inr}
use Rattle.std.proofs.lemmas.Bool.{eq-eqb}
use Rattle.pico_base.specs.declared.call.Home.TheVariants as homes
use Rattle.pico_base.specs.declared.numbers.Name.{Name}
use Rattle.pico_base.specs.declared.script.Script.{Script}
use Rattle.pico_base.specs.Home.{home_of}
use Rattle.rpc_frame.specs.declared.asked.Asked.{Asked}
use Rattle.node_model.specs.declared.held.Held.{Held}
use Rattle.node_model.specs.declared.held.Held.TheVariants.{Request}
use Rattle.node_model.specs.Directory.{Directory, At, place_of, maker, maker_stays, route, route_by}
use Rattle.node_model.specs.Kinds.{get_named}
use Rattle.node_model.specs.Serving.{waiting_as}
use Rattle.world_model.specs.Node.{Leader, Node}
use Rattle.world_model.specs.Routes.{keys_after, recall_and_hold, remove_by, remove_here, route_call, route_home, unbind_name, was_removed}
use Rattle.world_model.specs.Serving.{note_reads}
use Rattle.world_model.specs.Step.{Step, with_leader, with_node}
use Rattle.world_model.specs.World.{World, world_after}
use Rattle.entry_laws.specs.Entering.{MayMake}
use Rattle.world_laws.specs.Places.{Beside}
use Rattle.world_laws.specs.Sights.{node_of, directory_of, is_born_in}
use Rattle.world_laws.specs.Callers.{is_on}
use Rattle.world_laws.specs.Names.{NameHolds, name_sight}
use Rattle.world_laws.specs.Ranges.{KeysHold}
use Rattle.rule_laws.proofs.own.Moved.{IsMoved}
use Rattle.route_laws.specs.Ready.{HasFewNodes}
use Rattle.route_laws.proofs.Owed.{HoldsAt, IsServedPlace}
use Rattle.route_laws.proofs.hand.Answering.{may-make-in-hand}
use Rattle.route_laws.proofs.hand.HandMoves.{IsCallOf}
use Rattle.route_laws.proofs.hand.NobodyRoutes.{on-it}
use Rattle.route_laws.proofs.hand.ReadRoutes.{HasRoute, is_served_here}
use Rattle.route_laws.proofs.hand.Routes.{leader-here, leader-number}
use Rattle.route_laws.proofs.hand.Served.{IsAtLeader, at-leader}
use Rattle.route_laws.proofs.keys.Removals.{AreRising, Removes, is-removal, keys-removed, removal, removal-replies, same-directory-after}
use Rattle.route_laws.proofs.served.Before.{MayWaitAt, may-wait-at}
use Rattle.route_laws.proofs.served.Carried.{HasServed, carried-deeds, carried-leader, carried_step, deeds_then, removal-unread, serve-rule, serves-with, they_follow}
use Rattle.route_laws.proofs.served.Replies.{IsAtWork}
use Rattle.route_laws.proofs.served.Steps.{with_tables}

module _ (script : Script) (v : World) (s : Step) (asked : Asked) (rest : List Held) (b : Beside)
    (holds : HoldsAt script v 1 s (Request asked ∷ rest) b) (at : IsAtWork script (world_after v 1 s) 1)
    (asks : IsCallOf script asked) (few : HasFewNodes script)
    (rising : let n : Node = node_of (world_after v 1 s) 1 in AreRising n.leader) (name : Name)
    (on : home_of asked.pid asked.call ≡ homes.Removal name)
    (place : place_of (directory_of (world_after v 1 s)) name ≡ Some (At 1)) where
  abbrev w : World
  w = world_after v 1 s

  abbrev d : Directory
  d = directory_of w

  abbrev hand : List Held
  hand = Request asked ∷ rest

  removes : Removes asked.call name
  removes = removal asked.pid asked.call name on

  table : IsAtLeader w b name
  table = at-leader script w hand b name holds place

  on-name : is_on name (home_of asked.pid asked.call) ≡ true
  on-name = on-it name (home_of asked.pid asked.call) (inr on)

  here : node_of w 1 ≡ s.node
  here = leader-here script v s asked rest b holds asks

  number : s.node.number ≡ 1
  number = leader-number script v s asked rest b holds asks

  held : get_named s.node.deeds name ≡ Some (b.body name)
  held = ap (λ (m : Node). get_named m.deeds name) (sym here) ∙ table.held

  may_wait : MayWaitAt script v 1 s asked rest b
  may_wait = may-wait-at script v 1 s asked rest b holds asks

  -- whether it was removed already
  abbrev refused : Bool
  refused = was_removed (get_named s.node.deeds name)

  -- the leader, without keys of the name
  abbrev leader : Leader
  leader = keys_after refused s.node.leader name

  abbrev done : Step
  done = carried_step script v 1 s asked rest b may_wait at asks name on-name table.deed_is

  abbrev next : Step
  next = with_tables done (deeds_then script v 1 s asked rest b may_wait at asks name on-name table.deed_is) leader

  name-holds : NameHolds script b.pids (is_born_in w) name (name_sight script w hand b name)
  name-holds = holds.names name

  may : MayMake b.kernel asked.pid asked.call
  may = may-make-in-hand script w asked rest b holds asks

  has-served : HasServed script v 1 s next asked rest b
  has-served =
      serves-with script v 1 s asked rest b may_wait at asks name on-name table.deed_is leader
      (same-directory-after refused s.node.leader name)
      (they_follow refl
      (keys-removed s.node.leader b.kernel asked.call name (b.body name) may.valid removes
      (subst (λ (m : Node). AreRising m.leader) here rising)
      (subst (λ (m : Node). KeysHold m.leader b.kernel) here holds.keys) name-holds.parts refused
      (sym (ap was_removed held))))
      (λ none. absurd (removal-replies name (b.body name) (waiting_as asked) removes none))

  -- it takes the keys away behind the call
  unbound : unbind_name refused name done ≡ next
  unbound =
      ap (λ l. with_node done (with_leader done.node (keys_after refused l name)))
      (carried-leader script v 1 s asked rest b may_wait at asks name on-name table.deed_is)
      ∙ ap (λ deeds. with_tables done deeds leader)
      (carried-deeds script v 1 s asked rest b may_wait at asks name on-name table.deed_is)

  removal-route : route_call script s asked ≡ Some next
  removal-route =
      ap (route_home script s asked) on
      ∙ ap (λ (m : Node). remove_by script s name asked (route m.leader.directory name)) (sym here)
      ∙ ap (λ o. remove_by script s name asked (route_by o (maker_stays d (maker d name)) (maker d name))) place
      ∙ ap (λ t. if t then remove_here script s name asked
      else Some (recall_and_hold s name (Request asked) 1)) (eq-eqb 1 s.node.number (sym number))
      ∙ ap (option_map (unbind_name refused name))
      (serve-rule script v 1 s asked rest b may_wait at asks name on-name table.deed_is few)
      ∙ ap (λ readers. Some (unbind_name refused name (note_reads done name readers)))
      (removal-unread script v 1 s asked rest b may_wait at asks name on-name table.deed_is
      (is-removal asked.call name removes))
      ∙ ap Some unbound

  -- A removal of a name that the leader holds has a route that keeps all.
  pub route-to-removal : HasRoute script v s asked rest b
  route-to-removal =
      let moved : IsMoved b.call (has-served.beside).call asked.caller (IsServedPlace s.node asked) = has-served.moved
      in record {
        beside = has-served.beside;
        keeps = record { next = next; is_route = removal-route; holds = has-served.holds };
        moved = record {
          place = moved.place;
          calls = moved.calls;
          fits = is_served_here name moved.fits (inr on)
              (ap (λ (m : Node). place_of m.leader.directory name) (sym here) ∙ place);
        };
      }
