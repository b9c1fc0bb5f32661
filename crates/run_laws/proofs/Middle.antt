-- In the middle of an event: the world then has what the rules ask of it.
use Rattle.std.proofs.Common.{ℕ, Bool, true, false, List, [], arith}
use Rattle.pico_base.specs.declared.script.Script.{Script}
use Rattle.kernel_model.specs.Script.{IsSoundScript}
use Rattle.node_model.specs.declared.held.Held.{Held}
use Rattle.world_model.specs.Step.{Step}
use Rattle.world_model.specs.World.{IsNode, World, world_after}
use Rattle.world_laws.specs.Cancels.{Owing, owing_of}
use Rattle.world_laws.specs.Families.{NodeHolds}
use Rattle.world_laws.specs.Invariant.{HoldsOwing, IsShaped}
use Rattle.world_laws.specs.Places.{Beside}
use Rattle.world_laws.specs.Sights.{is_born_in, node_of}
use Rattle.world_laws.specs.Wholes.{HasWhole, WholeIf}
use Rattle.route_laws.specs.Ready.{IsReady}
use Rattle.route_laws.proofs.Owed.{HoldsAt}
use Rattle.route_laws.proofs.hand.Owners.{maker-in-range}
use Rattle.weight_laws.proofs.Cancels.{LeadsRightly}
use Rattle.bound_laws.specs.Bounded.{IsBounded, IsGood, StepIsBounded}
use Rattle.bound_laws.proofs.Ranges.{some-blocks}
use Rattle.bound_laws.proofs.Ready.{Ready, good-is-ready, owing-is-ready}
use Rattle.bound_laws.proofs.Worlds.{middle-is-bounded}

-- the world in the middle of an event stands for the whole kernel, also where a strike is owed
whole-owing : (p : ℕ) (strikes : Bool) (w : World) (b : Beside) → WholeIf (owing_of p strikes) w b → HasWhole w b
whole-owing p true w b h = h
whole-owing p false w b h = h

module _ (script : Script) (sound : IsSoundScript script) where
  -- ---- the leader

  -- It is ready for each call,
  pub leader-is-ready : (w : World) (hand : List Held) (b : Beside) → Ready script w hand b → IsReady (node_of w 1)
  leader-is-ready w hand b ready =
      record {
        watches = ready.watches 1 (omega arith) (some-blocks script sound);
        queues = ready.queue_keys;
        sets = ready.set_keys;
        nodes = ready.at_nodes;
        numbers = ready.enough;
      }

  -- and its directory names nodes of the script.
  pub leader-leads : (w : World) (hand : List Held) (owes : Owing) (b : Beside) → HoldsOwing script w hand owes b
      → Ready script w hand b → LeadsRightly (node_of w 1)
  leader-leads w hand owes b holds ready =
      let n : NodeHolds script b.pids (is_born_in w) 1 (node_of w 1) =
      holds.nodes 1 (omega arith) (some-blocks script sound)
      in record {
        number = n.number;
        leading = holds.leading;
        nodes = record {
          places = ready.at_nodes;
          makers = λ name node e. (maker-in-range script w hand b holds name node e).0;
        };
      }

  -- ---- behind a step

  -- of the leader, with something in hand
  pub ready-at : (v : World) (s : Step) (hand : List Held) (b : Beside) → HoldsAt script v 1 s hand b
      → IsGood script v s hand → Ready script (world_after v 1 s) hand b
  ready-at v s hand b holds good =
      good-is-ready script v sound s hand (owing_of 1 s.strikes) b good holds
      (whole-owing 1 s.strikes (world_after v 1 s) b holds.whole)

  -- and of any node, with nothing
  pub ready-behind : (v : World) (p : ℕ) (s : Step) (b : Beside) → IsNode script p → IsShaped script v
      → IsBounded script v [] → StepIsBounded script s → HoldsAt script v p s [] b
      → Ready script (world_after v p s) [] b
  ready-behind v p s b own shape bounded step holds =
      owing-is-ready script sound (world_after v p s) [] (owing_of p s.strikes) b holds
      (whole-owing p s.strikes (world_after v p s) b holds.whole)
      (middle-is-bounded script v [] [] p s shape bounded own step tt)
