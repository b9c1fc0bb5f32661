-- A signal strikes a node's process, and the end of a wait comes, within limits.
use Rattle.std.proofs.Common.{◌≡◌, Option, Some, None, Bool, true, false, ◌&&◌, refl}
use Rattle.std.specs.Option.{option_and_then, option_map}
use Rattle.std.specs.Prelude.{if◌then◌else◌}
use Rattle.frame_bytes.specs.Calls.{is_object}
use Rattle.frame_bytes.specs.Limits.{is_frame, is_nonzero}
use Rattle.kernel_laws.proofs.Plain.{by_test, Of, not_some, of-map, of-test}
use Rattle.kernel_model.specs.Script.{IsSoundScript}
use Rattle.limit_laws.proofs.Frames.{cancelled-has-ticket, withdrawal-is-frame}
use Rattle.limit_laws.proofs.Plain.{some-nonzero}
use Rattle.limit_laws.proofs.Replies.{fail-is-short}
use Rattle.limit_laws.proofs.Routed.{LeavesWithin, cancel-within, interrupted-within, route-cancel-within, withdrawn-within}
use Rattle.limit_laws.proofs.Steps.{carry-out-within, step-to-within, with-node-within}
use Rattle.limit_laws.specs.Within.{IsNodeWithin, IsStepWithin, IsUnderWayWithin}
use Rattle.node_model.specs.Caller.{Caller, if_it_waits, note_cancel, to_cancel}
use Rattle.node_model.specs.Leases.{leases_hold}
use Rattle.node_model.specs.Serving.{Withdrawn, Leaves, NotThere, NotHeld, withdraw}
use Rattle.pico_base.specs.declared.call.Call.{Call}
use Rattle.pico_base.specs.declared.numbers.Name.TheVariants.{Proc, Msg, Sem}
use Rattle.pico_base.specs.declared.numbers.Name.{Name}
use Rattle.pico_base.specs.declared.reply.Errno.TheVariants.{Eintr}
use Rattle.pico_base.specs.declared.reply.Reply.TheVariants as replies
use Rattle.pico_base.specs.declared.script.Script.{Script}
use Rattle.rpc_frame.specs.declared.asked.Asked.{Asked}
use Rattle.rpc_frame.specs.declared.frame.Frame.TheVariants as frames
use Rattle.waiting_model.specs.Calls.{may_park, waits_at, withdrawn_from}
use Rattle.world_model.specs.Node.{Node, is_born, is_leader, is_node}
use Rattle.world_model.specs.Routes.{cancel, route_cancel}
use Rattle.world_model.specs.Step.{Step, step_to, with_node}
use Rattle.world_model.specs.Strikes.{cancelled, cancelled_at, strike, strike_at, strike_call, strike_object, take_cancel, tell_leader, withdrawing}

-- the call that a signal interrupts is under way
waiting-is-under-way : (under_way : Option Call) (call : Call) → option_and_then if_it_waits under_way ≡ Some call
    → under_way ≡ Some call
waiting-is-under-way None call is = not_some call is
waiting-is-under-way (Some other) call is = by (may_park other) is
  where
    by : (waits : Bool) → (if waits then Some other else None) ≡ Some call → Some other ≡ Some call
    by true h = h
    by false h = not_some call h

cancelled-is-under-way : (c : Caller) (call : Call) → to_cancel c ≡ Some call → c.under_way ≡ Some call
cancelled-is-under-way c call is = by c.noted is
  where
    by : (noted : Bool) → (if noted then None else option_and_then if_it_waits c.under_way) ≡ Some call
        → c.under_way ≡ Some call
    by true h = not_some call h
    by false h = waiting-is-under-way c.under_way call h

module _ (script : Script) (sound : IsSoundScript script) where
  abbrev NodeIs : Node → Type 0
  NodeIs n = IsNodeWithin script n

  abbrev StepIs : Step → Type 0
  StepIs s = IsStepWithin script s

  -- the end of a wait that can be sent on
  abbrev CanCancel : Asked → Type 0
  CanCancel asked = is_frame (frames.Cancel asked) ≡ true

  -- ---- a strike

  noted-within : (n : Node) → NodeIs n → NodeIs (record n { caller = note_cancel n.caller })
  noted-within n k =
      record {
        vars = k.vars;
        line = k.line;
        under_way = λ call is.
            let under : IsUnderWayWithin script n.number n.pid n.caller call = k.under_way call is
            in record { ticket = under.ticket; others = under.others; line = under.line };
        deeds = k.deeds;
        leases = k.leases;
        directory = k.directory;
      }

  tell-leader-within : (s : Step) (name : Name) (asked : Asked) → StepIs s → CanCancel asked
      → withdrawn_from asked.call ≡ Some name → StepIs (tell_leader script s name asked)
  tell-leader-within s name asked k can is =
      by_test StepIs (is_leader s.node) (route_cancel script s name asked) (cancel s 1 asked)
      (λ _. route-cancel-within script sound s name asked k can is) (λ _. cancel-within script sound s 1 asked k can)

  strike-object-within : (s : Step) (name : Name) (asked : Asked) (w : Withdrawn) → StepIs s → CanCancel asked
      → withdrawn_from asked.call ≡ Some name → LeavesWithin script sound s name w
      → StepIs (strike_object script s name asked w)
  strike-object-within s name asked (Leaves body) k can is deed =
      interrupted-within script sound s name asked body k (cancelled-has-ticket asked can) deed
  strike-object-within s name asked NotThere k can is deed = tell-leader-within s name asked k can is
  strike-object-within s name asked NotHeld k can is deed = tell-leader-within s name asked k can is

  strike-at-within : (s : Step) (asked : Asked) (name : Name) → StepIs s → is_nonzero asked.ticket ≡ true
      → withdrawn_from asked.call ≡ Some name → (is_object name ≡ true → CanCancel asked)
      → StepIs (strike_at script s asked name)
  strike-at-within s asked (Proc pid) k ticket is can =
      carry-out-within script sound s asked (replies.Fail Eintr) k ticket (λ _. fail-is-short Eintr)
  strike-at-within s asked (Msg id) k ticket is can =
      strike-object-within s (Msg id) asked (withdraw s.node.deeds (Msg id) asked.pid asked.ticket) k (can refl) is
      (withdrawn-within script sound s (Msg id) asked.pid asked.ticket k)
  strike-at-within s asked (Sem id) k ticket is can =
      strike-object-within s (Sem id) asked (withdraw s.node.deeds (Sem id) asked.pid asked.ticket) k (can refl) is
      (withdrawn-within script sound s (Sem id) asked.pid asked.ticket k)

  strike-call-within : (s : Step) (o : Option Call) → StepIs s → to_cancel s.node.caller ≡ o
      → StepIs (strike_call script s o)
  strike-call-within s None k is = k
  strike-call-within s (Some call) k is =
      let n : Node = s.node
      in let under : IsUnderWayWithin script n.number n.pid n.caller call =
      k.node.under_way call (cancelled-is-under-way n.caller call is)
      in let noted : Node = record n { caller = note_cancel n.caller }
      in strike-at-within (with_node s noted) (withdrawing n call) (waits_at n.pid call)
      (with-node-within script sound s noted k (noted-within n k.node)) (some-nonzero n.caller.ticket under.ticket) refl
      (λ object. withdrawal-is-frame n.number n.caller.ticket n.pid (waits_at n.pid call) under.ticket object)

  -- A strike leaves a step within limits.
  pub strike-within : (s : Step) → StepIs s → StepIs (strike script s)
  strike-within s k =
      by_test StepIs s.strikes (strike_call script s (to_cancel s.node.caller)) s
      (λ _. strike-call-within s (to_cancel s.node.caller) k refl) (λ _. k)

  -- ---- the Cancel rule

  cancelled-at-within : (n : Node) (name : Name) (asked : Asked) (w : Withdrawn) → NodeIs n → CanCancel asked
      → LeavesWithin script sound (step_to n) name w → StepIs (cancelled_at script n name asked w)
  cancelled-at-within n name asked (Leaves body) k can deed =
      interrupted-within script sound (step_to n) name asked body (step-to-within script sound n k)
      (cancelled-has-ticket asked can) deed
  cancelled-at-within n name asked NotThere k can deed = step-to-within script sound n k
  cancelled-at-within n name asked NotHeld k can deed =
      by_test StepIs (leases_hold n.leases name) (step_to n) (cancel (step_to n) 1 asked)
      (λ _. step-to-within script sound n k)
      (λ _. cancel-within script sound (step_to n) 1 asked (step-to-within script sound n k) can)

  cancelled-within : (n : Node) (asked : Asked) (name : Name) → NodeIs n → CanCancel asked
      → withdrawn_from asked.call ≡ Some name → StepIs (cancelled script n asked name)
  cancelled-within n asked name k can is =
      by_test StepIs (is_leader n) (route_cancel script (step_to n) name asked)
      (cancelled_at script n name asked (withdraw n.deeds name asked.pid asked.ticket))
      (λ _. route-cancel-within script sound (step_to n) name asked (step-to-within script sound n k) can is)
      (λ _. cancelled-at-within n name asked (withdraw n.deeds name asked.pid asked.ticket) k can
      (withdrawn-within script sound (step_to n) name asked.pid asked.ticket (step-to-within script sound n k)))

  -- The end of a wait that comes is taken.
  pub take-cancel-within : (n : Node) (asked : Asked) → NodeIs n → CanCancel asked
      → Of StepIs (take_cancel script n asked)
  take-cancel-within n asked k can =
      of-test StepIs (is_born n && is_node script asked.caller)
      (option_map (cancelled script n asked) (withdrawn_from asked.call))
      (λ _. of-map StepIs (withdrawn_from asked.call) (cancelled script n asked)
      (λ name is. cancelled-within n asked name k can is))
