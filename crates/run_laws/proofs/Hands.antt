-- In the middle of an event of the leader each call first in its hand has a route, and each parcel comes to its end,
-- where the step on the way is good.
use Rattle.std.proofs.Common.{◌≡◌, true, false, List, [], ◌∷◌, Option, Some, None, is_some, refl, ap, sym, subst, arith}
use Rattle.std.specs.List.{AllByRecursion}
use Rattle.pico_base.specs.declared.numbers.Name.{Name}
use Rattle.node_model.specs.Directory.{held_for}
use Rattle.world_model.specs.Node.{Node}
use Rattle.std.proofs.lemmas.Bool.{false≢true}
use Rattle.pico_base.specs.declared.script.Script.{Script}
use Rattle.rpc_frame.specs.declared.asked.Asked.{Asked}
use Rattle.kernel_model.specs.Script.{IsSoundScript}
use Rattle.node_model.specs.declared.held.Held.{Held}
use Rattle.node_model.specs.declared.held.Held.TheVariants.{Request, Ending}
use Rattle.world_model.specs.Step.{Step}
use Rattle.world_model.specs.World.{World, world_after}
use Rattle.world_laws.specs.Invariant.{HoldsOwing}
use Rattle.world_laws.specs.Places.{Beside}
use Rattle.waiting_model.specs.Calls.{is_withdrawal, withdrawn_from}
use Rattle.world_model.specs.Routes.{route_cancel, route_held_by}
use Rattle.world_laws.specs.Cancels.{owing_of}
use Rattle.route_laws.proofs.Owed.{HoldsAt}
use Rattle.route_laws.proofs.cancels.Taken.{cancel-keeps-strikes}
use Rattle.route_laws.proofs.cancels.Routed.{CancelRouted, cancel-has-route}
use Rattle.weight_laws.proofs.Cancels.{LeadsRightly}
use Rattle.route_laws.proofs.hand.ReadRoutes.{HasRoute}
use Rattle.route_laws.proofs.served.Turns.{node-at}
use Rattle.route_laws.proofs.hand.HandRoutes.{has-route}
use Rattle.route_laws.proofs.release.Rounds.{first-is-packed}
use Rattle.weight_laws.proofs.Counts.{IsOfNode}
use Rattle.weight_laws.proofs.Frees.{frees-no-removal, removals-both}
use Rattle.weight_laws.proofs.Hand.{RemovalsAreOf}
use Rattle.weight_laws.proofs.HandSteps.{IsOfNodes, items-fit, light-route, may-end}
use Rattle.weight_laws.proofs.LightRounds.{CancelGoes, RoutesLightly}
use Rattle.route_laws.proofs.exits.HandEnds.{hand-has-end}
use Rattle.bound_laws.specs.Bounded.{IsGood, ItemIsOfNode, ItemsAreOfNodes, NodeIsBounded, StepIsBounded}
use Rattle.bound_laws.proofs.Parts.{held-are-of-nodes}
use Rattle.bound_laws.proofs.Ranges.{few-blocks, some-blocks}
use Rattle.run_laws.proofs.Middle.{leader-is-ready, leader-leads, ready-at}
use Rattle.bound_laws.proofs.Ready.{Ready, good-held, good-released, good-routed}

module _ (script : Script) (sound : IsSoundScript script) where
  -- ---- a call, or a withdrawal

  call-has-route : (v : World) (s : Step) (asked : Asked) (rest : List Held) (b : Beside)
      → HoldsAt script v 1 s (Request asked ∷ rest) b → IsGood script v s (Request asked ∷ rest)
      → is_withdrawal asked.call ≡ false → HasRoute script v s asked rest b
  call-has-route v s asked rest b holds good is_call =
      let ready : Ready script (world_after v 1 s) (Request asked ∷ rest) b =
      ready-at script sound v s (Request asked ∷ rest) b holds good
      in let own = good.items.0
      in has-route script v s asked rest b holds
      (record { low = own.low; high = own.high; is_call = is_call }) (few-blocks script sound)
      (leader-is-ready script sound (world_after v 1 s) (Request asked ∷ rest) b ready)

  cancel-goes : (v : World) (s : Step) (asked : Asked) (rest : List Held) (b : Beside)
      → HoldsAt script v 1 s (Request asked ∷ rest) b → IsGood script v s (Request asked ∷ rest)
      → is_withdrawal asked.call ≡ true → CancelGoes script v s asked rest b
  cancel-goes v s asked rest b holds good withdraws = by-name (withdrawn_from asked.call) refl withdraws
    where
      by-name : (o : Option Name) → withdrawn_from asked.call ≡ o → is_some o ≡ true
          → CancelGoes script v s asked rest b
      by-name None of h = absurd (false≢true h)
      by-name (Some name) of h =
          let own = good.items.0
          in let next : Step = route_cancel script s name asked
          in let goes : CancelRouted script v next rest (owing_of 1 s.strikes) b =
          cancel-has-route script v s asked rest b holds
          (let ready : Ready script (world_after v 1 s) (Request asked ∷ rest) b =
          ready-at script sound v s (Request asked ∷ rest) b holds good
          in ready.at_nodes)
          own.low own.high name of
          in record {
            next = route_cancel script s name asked;
            is_route = ap (route_held_by script s asked) of;
            beside = goes.beside;
            holds = subst (λ t. HoldsOwing script (world_after v 1 next) rest (owing_of 1 t) goes.beside)
                (sym (cancel-keeps-strikes script s name asked)) goes.holds;
            calls = goes.calls;
          }

  -- the leader in the middle of its event
  leads-rightly : (v : World) (s : Step) (hand : List Held) (b : Beside) → HoldsAt script v 1 s hand b
      → IsGood script v s hand → LeadsRightly s.node
  leads-rightly v s hand b holds good =
      subst (λ (m : Node). LeadsRightly m)
      (node-at script v 1 s holds.shape (omega arith) (some-blocks script sound))
      (leader-leads script sound (world_after v 1 s) hand (owing_of 1 s.strikes) b holds
      (ready-at script sound v s hand b holds good))

  -- ---- all

  of-node : (item : Held) → ItemIsOfNode script item → IsOfNode script item
  of-node (Request asked) own = (own.low, own.high)
  of-node (Ending parcel) own = tt

  -- items of nodes of the script
  pub of-nodes : (items : List Held) → ItemsAreOfNodes script items → AllByRecursion (IsOfNode script) items
  of-nodes [] all = tt
  of-nodes (item ∷ items) all = (of-node item all.0, of-nodes items all.1)

  are-of-nodes : (v : World) (s : Step) (hand : List Held) → IsGood script v s hand → IsOfNodes script s hand
  are-of-nodes v s hand good =
      let step : StepIsBounded script s = good.step_is
      in let n : Node = s.node
      in let own : NodeIsBounded script n = step.node
      in record {
        in_hand = of-nodes hand good.items;
        held = λ m. of-nodes (held_for n.leader.directory m)
            (held-are-of-nodes script n.leader.directory m own.directory);
      }

  -- the step is good, and the removals in hand are of the name
  abbrev pub IsGoodFor : Name → World → Step → List Held → Type 0
  IsGoodFor name v s hand = IsGood script v s hand × RemovalsAreOf name hand

  -- In the middle of an event of the leader each call in hand goes on, and so does each parcel.
  pub hand-goes-on : (name : Name) → RoutesLightly script name (IsGoodFor name)
  hand-goes-on name =
      record {
        routes = λ v s asked rest b holds good is_call.
            light-route script v s asked rest b (call-has-route v s asked rest b holds good.0 is_call);
        cancels = λ v s asked rest b holds good withdraws. cancel-goes v s asked rest b holds good.0 withdraws;
        is_call = λ v s asked rest good is_call.
            let own = good.0.items.0 in record { low = own.low; high = own.high; is_call = is_call };
        names_nodes = λ v s hand b holds good. leads-rightly v s hand b holds good.0;
        ends = λ v s parcel rest b holds good.
            let ready : Ready script (world_after v 1 s) (Ending parcel ∷ rest) b =
            ready-at script sound v s (Ending parcel ∷ rest) b holds good.0
            in hand-has-end script v s parcel rest b holds ready.reads ready.at_nodes;
        good_routed = λ v s next asked rest good is.
            (good-routed script v s next asked rest good.0 is, good.1.1);
        good_held = λ v s next parcel rest good is.
            (good-held script v s next parcel rest good.0 is, good.1.1);
        good_released = λ v s next parcel items rest b holds good is. (
          good-released script v s next parcel items rest good.0 is,
          removals-both name items rest
              (frees-no-removal script name parcel
              (first-is-packed script (world_after v 1 s) parcel rest b holds) s
              (items-fit script v s (Ending parcel ∷ rest) b holds)
              (may-end script v s (Ending parcel ∷ rest) b holds) next items is) good.1.1,
        );
        of_nodes = λ v s hand good. are-of-nodes v s hand good.0;
        one_name = λ v s hand good. good.1;
      }
