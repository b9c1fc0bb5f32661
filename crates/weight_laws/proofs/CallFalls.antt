-- Events of frames about calls, where the leader routes nothing, lower the weight: by the places of the call before and
-- after.
use Rattle.std.proofs.Common.{◌≡◌, ◌≢◌, ℕ, ◌+◌, ◌≤◌, ◌<◌, List, [], refl, sym, ◌∙◌, inl, inr, arith, ap}
use Rattle.std.proofs.lemmas.Bool.{eq-eqb, ne_eqb}
use Rattle.pico_base.specs.declared.call.Call.{Call}
use Rattle.pico_base.specs.declared.numbers.Kind.{Kind}
use Rattle.pico_base.specs.declared.reply.Reply.{Reply}
use Rattle.pico_base.specs.declared.script.Script.{Script}
use Rattle.pico_base.specs.Home.{home_of}
use Rattle.rpc_frame.specs.declared.asked.Asked.{Asked}
use Rattle.rpc_frame.specs.declared.frame.Frame.{Frame}
use Rattle.rpc_frame.specs.declared.frame.Frame.TheVariants as frames
use Rattle.world_model.specs.Node.{Node, is_leader}
use Rattle.world_model.specs.World.{World, node_count}
use Rattle.world_laws.specs.Places.{Beside, CallPlace, AsksLease, HasLease, Idle, InAnswer, InAsk, InBounce, InNotOwner, InRequest, SentByPlace, SentByRange, call_in}
use Rattle.world_laws.specs.Sights.{node_of, is_born_in}
use Rattle.world_laws.specs.Families.{NodeHolds}
use Rattle.world_laws.specs.Invariant.{Holds}
use Rattle.world_laws.proofs.Steps.{Heads}
use Rattle.weight_laws.specs.Weights.{call_weight}
use Rattle.weight_laws.proofs.CallHeads.{answer-place, forward-place, lease-ask-place, lease-place, may-end, not-owner-place, request-place, may-end-if}
use Rattle.rule_laws.proofs.own.Moved.{IsNotServed}
use Rattle.weight_laws.proofs.Costs.{RisesBesides, MayEndIf, read_cost}
use Rattle.weight_laws.proofs.Events.{TakesLower}
use Rattle.weight_laws.proofs.NodeCalls.{answer-costs, bounced-costs, forward-costs, lease-ask-costs, lease-costs, lowers-by-cost, not-owner-costs, refused-costs, request-costs, read-is-cheap}
use Rattle.weight_laws.proofs.Routes.{carried-light}
use Rattle.route_laws.proofs.Owed.{IsServedPlace, has_reply, nobody_reads, waits_there}

module _ (script : Script) (w : World) (b : Beside) (holds : Holds script w [] b) (p q : ℕ) (rest : List Frame) where
  abbrev n : Node
  n = node_of w p

  number-is : 1 ≤ p → p ≤ node_count script → (let m : Node = n in m.number ≡ p)
  number-is low high = let m : NodeHolds script b.pids (is_born_in w) p n = holds.nodes p low high in m.number

  -- Numbers are asked for: they are on their way.
  pub lease-ask-falls : (kind : Kind) (first : ℕ) → Heads script w p q (frames.LeaseAsk kind) rest
      → TakesLower script w p q (frames.LeaseAsk kind) b.call (call_in b.call q (HasLease kind first))
  lease-ask-falls kind first h =
      λ s rule. lowers-by-cost script n s 0 0 b.call q (AsksLease kind) (HasLease kind first) h.low_from h.high_from
      (lease-ask-place script w b holds p q rest kind h) (lease-ask-costs script n q kind s rule) (omega arith)

  -- Numbers come, and one is given to what the call makes.
  pub lease-falls : (kind : Kind) (first : ℕ) → Heads script w p q (frames.Lease kind first) rest
      → TakesLower script w p q (frames.Lease kind first) b.call (call_in b.call p Idle)
  lease-falls kind first h =
      let f : Frame = frames.Lease kind first
      in λ s rule. lowers-by-cost script n s 0 2 b.call p (HasLease kind first) Idle h.low h.high
      (lease-place script w b holds p q rest kind first h)
      (lease-costs script n q kind first s
      (may-end script w b holds p h.low h.high p q f rest h (eq-eqb p p refl)) rule) (omega arith)

  -- The reply comes.
  pub answer-falls : (ticket : ℕ) (reply : Reply) → Heads script w p q (frames.Answer ticket reply) rest
      → TakesLower script w p q (frames.Answer ticket reply) b.call (call_in b.call p Idle)
  answer-falls ticket reply h =
      let f : Frame = frames.Answer ticket reply
      in λ s rule. lowers-by-cost script n s 0 0 b.call p (InAnswer q reply) Idle h.low h.high
      (answer-place script w b holds p q rest ticket reply h)
      (answer-costs script n q ticket reply s
      (may-end script w b holds p h.low h.high p q f rest h (eq-eqb p p refl)) rule) (omega arith)

  -- A node that isn't the owner says so, and the leader is asked.
  pub not-owner-falls : (ticket : ℕ) → Heads script w p q (frames.NotOwner ticket) rest → p ≢ 1
      → TakesLower script w p q (frames.NotOwner ticket) b.call (call_in b.call p InAsk)
  not-owner-falls ticket h other =
      λ s rule. lowers-by-cost script n s 0 0 b.call p (InNotOwner q) InAsk h.low h.high
      (not-owner-place script w b holds p q rest ticket h)
      (not-owner-costs script n ticket s (ne_eqb n.number 1 (λ e. other (sym (number-is h.low h.high) ∙ e))) rule)
      (omega arith)

  -- ---- a call that was sent to an owner

  module _ (ticket pid : ℕ) (call : Call) (h : Heads script w p q (frames.Request ticket pid call) rest)
      (rises : RisesBesides n) where
    may : MayEndIf script n
    may = may-end-if script w [] b holds p h.low h.high

    -- A Request is served: its reply is on its way.
    pub request-falls : (place : CallPlace) → call_weight place ≤ 7
        → TakesLower script w p q (frames.Request ticket pid call) b.call (call_in b.call q place)
    request-falls place light s rule =
        lowers-by-cost script n s 0 5 b.call q (InRequest p) place h.low_from h.high_from
        (request-place script w b holds p q rest ticket pid call h)
        (request-costs script n q ticket pid call s may rises rule) (omega (arith, light))

    -- Or it is refused.
    pub refused-falls : IsNotServed n (home_of pid call)
        → TakesLower script w p q (frames.Request ticket pid call) b.call (call_in b.call q (InNotOwner p))
    refused-falls lacks s rule =
        lowers-by-cost script n s 0 0 b.call q (InRequest p) (InNotOwner p) h.low_from h.high_from
        (request-place script w b holds p q rest ticket pid call h)
        (refused-costs script n q ticket pid call s may rises lacks rule) (omega arith)

  -- ---- a call that the leader has sent

  module _ (asked : Asked) (h : Heads script w p q (frames.Forward asked) rest) (low : 1 ≤ asked.caller)
      (high : asked.caller ≤ node_count script) (rises : RisesBesides n) where
    may-end-here : MayEndIf script n
    may-end-here = may-end-if script w [] b holds p h.low h.high

    forwarded-falls : (was place : CallPlace) (cost : ℕ) → b.call asked.caller ≡ was
        → read_cost (nobody_reads n asked) (is_leader n) ≤ cost → call_weight place + cost < call_weight was
        → TakesLower script w p q (frames.Forward asked) b.call (call_in b.call asked.caller place)
    forwarded-falls was place cost is few light s rule =
        let costs = forward-costs script n asked may-end-here rises q s rule
        in lowers-by-cost script n s 0 cost b.call asked.caller was place low high is (omega (arith, costs, few))
        (omega (arith, light))

    -- its place is light, or nobody reads
    served-falls : (place : CallPlace) (cost : ℕ) → read_cost (nobody_reads n asked) (is_leader n) ≤ cost
        → call_weight place + cost ≤ 6
        → TakesLower script w p q (frames.Forward asked) b.call (call_in b.call asked.caller place)
    served-falls place cost few light =
        elim (forward-place script w b holds p q rest asked h low high) [
          | inl is ↦ forwarded-falls (SentByPlace p) place cost is few (omega (arith, light))
          | inr is ↦ forwarded-falls (SentByRange p) place cost is few (omega (arith, light))
        ]

    -- It is carried out: its reply is on its way, or it is over. Or it waits there, and nobody reads.
    pub forward-falls : (place : CallPlace) → IsServedPlace n asked place
        → TakesLower script w p q (frames.Forward asked) b.call (call_in b.call asked.caller place)
    forward-falls place (has_reply over) =
        let light = carried-light place over
        in served-falls place 5 (read-is-cheap (nobody_reads n asked) (is_leader n)) (omega (arith, light))
    forward-falls place (waits_there name is nobody) =
        let six = ap call_weight is
        in let none : read_cost (nobody_reads n asked) (is_leader n) ≡ 0 =
        ap (λ t. read_cost t (is_leader n)) nobody
        in served-falls place 0 (omega (arith, none)) (omega (arith, six))

    -- One that was sent by range may come back.
    pub bounced-falls : b.call asked.caller ≡ SentByRange p
        → IsNotServed n (home_of asked.pid asked.call)
        → TakesLower script w p q (frames.Forward asked) b.call (call_in b.call asked.caller (InBounce p))
    bounced-falls is lacks s rule =
        lowers-by-cost script n s 0 0 b.call asked.caller (SentByRange p) (InBounce p) low high is
        (bounced-costs script n asked may-end-here rises q s lacks rule) (omega arith)
