-- A wait of a node's call is withdrawn, by a Cancel or by a signal: bounds stay.
use Rattle.std.proofs.Common.{None, Option, Some, ◌&&◌}
use Rattle.std.specs.Option.{option_map}
use Rattle.pico_base.specs.declared.call.Call.{Call}
use Rattle.pico_base.specs.declared.reply.Errno.TheVariants.{Eintr}
use Rattle.pico_base.specs.declared.numbers.Name.TheVariants.{Msg, Proc, Sem}
use Rattle.pico_base.specs.declared.numbers.Name.{Name}
use Rattle.pico_base.specs.declared.script.Script.{Script}
use Rattle.pico_base.specs.declared.reply.Reply.TheVariants as replies
use Rattle.rpc_frame.specs.declared.asked.Asked.{Asked}
use Rattle.kernel_laws.proofs.Plain.{Of, by_test, of-map, of-test}
use Rattle.waiting_model.specs.Calls.{waits_at, withdrawn_from}
use Rattle.world_model.specs.World.{IsNode}
use Rattle.world_model.specs.Node.{Node, is_born, is_leader, is_node}
use Rattle.world_model.specs.Step.{Step, step_to, with_node}
use Rattle.world_model.specs.Routes.{cancel, route_cancel}
use Rattle.world_model.specs.Strikes.{cancelled, cancelled_at, strike, strike_at, strike_call, strike_object, take_cancel, tell_leader, withdrawing}
use Rattle.node_model.specs.Serving.{Leaves, NotHeld, NotThere, Withdrawn, withdraw}
use Rattle.node_model.specs.Leases.{leases_hold}
use Rattle.node_model.specs.Caller.{note_cancel, to_cancel}
use Rattle.bound_laws.proofs.StepParts.{LeavesNodes, carry-out-bounded, interrupted-bounded, step-to-bounded, with-caller-bounded, with-node-bounded, withdrawn-names}
use Rattle.bound_laws.specs.Bounded.{NodeIsBounded, StepIsBounded}
use Rattle.bound_laws.proofs.Routed.{cancel-first-bounded, route-cancel-bounded}

module _ (script : Script) where
  -- ---- the strike

  tell-leader-bounded : (s : Step) (name : Name) (asked : Asked) → StepIsBounded script s → IsNode script asked.caller
      → StepIsBounded script (tell_leader script s name asked)
  tell-leader-bounded s name asked k caller =
      by_test (StepIsBounded script) (is_leader s.node) (route_cancel script s name asked) (cancel s 1 asked)
      (λ _. route-cancel-bounded script s name asked k caller) (λ _. cancel-first-bounded script s asked k caller)

  strike-object-bounded : (s : Step) (name : Name) (asked : Asked) (w : Withdrawn) → StepIsBounded script s
      → IsNode script asked.caller → LeavesNodes script w → StepIsBounded script (strike_object script s name asked w)
  strike-object-bounded s name asked (Leaves body) k caller all =
      interrupted-bounded script s name asked body k caller all
  strike-object-bounded s name asked NotThere k caller all = tell-leader-bounded s name asked k caller
  strike-object-bounded s name asked NotHeld k caller all = tell-leader-bounded s name asked k caller

  strike-at-bounded : (s : Step) (asked : Asked) (name : Name) → StepIsBounded script s → IsNode script asked.caller
      → StepIsBounded script (strike_at script s asked name)
  strike-at-bounded s asked (Proc pid) k caller = carry-out-bounded script s asked (replies.Fail Eintr) k caller
  strike-at-bounded s asked (Msg id) k caller =
      strike-object-bounded s (Msg id) asked (withdraw s.node.deeds (Msg id) asked.pid asked.ticket) k caller
      (withdrawn-names script s.node.deeds (Msg id) asked.pid asked.ticket k.node.deeds)
  strike-at-bounded s asked (Sem id) k caller =
      strike-object-bounded s (Sem id) asked (withdraw s.node.deeds (Sem id) asked.pid asked.ticket) k caller
      (withdrawn-names script s.node.deeds (Sem id) asked.pid asked.ticket k.node.deeds)

  strike-call-bounded : (s : Step) (o : Option Call) → StepIsBounded script s
      → StepIsBounded script (strike_call script s o)
  strike-call-bounded s None k = k
  strike-call-bounded s (Some call) k =
      let n : Node = s.node
      in let noted : Node = record n { caller = note_cancel n.caller }
      in strike-at-bounded (with_node s noted) (withdrawing n call) (waits_at n.pid call)
      (with-node-bounded script s noted k
      (with-caller-bounded script n (note_cancel n.caller) k.node k.node.fork k.node.size)) k.node.number

  -- A node whose process is struck stays bounded, and so is what it sends.
  pub strike-bounded : (s : Step) → StepIsBounded script s → StepIsBounded script (strike script s)
  strike-bounded s k =
      by_test (StepIsBounded script) s.strikes (strike_call script s (to_cancel s.node.caller)) s
      (λ _. strike-call-bounded s (to_cancel s.node.caller) k) (λ _. k)

  -- ---- a Cancel

  cancelled-at-bounded : (n : Node) (name : Name) (asked : Asked) (w : Withdrawn) → NodeIsBounded script n
      → IsNode script asked.caller → LeavesNodes script w
      → StepIsBounded script (cancelled_at script n name asked w)
  cancelled-at-bounded n name asked (Leaves body) k caller all =
      interrupted-bounded script (step_to n) name asked body (step-to-bounded script n k) caller all
  cancelled-at-bounded n name asked NotThere k caller all = step-to-bounded script n k
  cancelled-at-bounded n name asked NotHeld k caller all =
      by_test (StepIsBounded script) (leases_hold n.leases name) (step_to n) (cancel (step_to n) 1 asked)
      (λ _. step-to-bounded script n k)
      (λ _. cancel-first-bounded script (step_to n) asked (step-to-bounded script n k) caller)

  cancelled-bounded : (n : Node) (asked : Asked) (name : Name) → NodeIsBounded script n → IsNode script asked.caller
      → StepIsBounded script (cancelled script n asked name)
  cancelled-bounded n asked name k caller =
      by_test (StepIsBounded script) (is_leader n) (route_cancel script (step_to n) name asked)
      (cancelled_at script n name asked (withdraw n.deeds name asked.pid asked.ticket))
      (λ _. route-cancel-bounded script (step_to n) name asked (step-to-bounded script n k) caller)
      (λ _. cancelled-at-bounded n name asked (withdraw n.deeds name asked.pid asked.ticket) k caller
      (withdrawn-names script n.deeds name asked.pid asked.ticket k.deeds))

  -- So does one that takes a Cancel.
  pub take-cancel-bounded : (n : Node) (asked : Asked) → NodeIsBounded script n → IsNode script asked.caller
      → Of (StepIsBounded script) (take_cancel script n asked)
  take-cancel-bounded n asked k caller =
      of-test (StepIsBounded script) (is_born n && is_node script asked.caller)
      (option_map (cancelled script n asked) (withdrawn_from asked.call))
      (λ _. of-map (StepIsBounded script) (withdrawn_from asked.call) (cancelled script n asked)
      (λ name _. cancelled-bounded n asked name k caller))
