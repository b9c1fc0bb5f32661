-- The rules of frames about calls, where the leader routes nothing: what each step costs.
use Rattle.std.proofs.Common.{◌≡◌, ◌≢◌, ℕ, ◌+◌, ◌≤◌, ◌<◌, Bool, true, false, if◌then◌else◌, Option, Some, None, option_and_then, refl, ap, sym, subst, ◌∙◌, arith}
use Rattle.std.proofs.lemmas.Bool.{false≢true}
use Rattle.pico_base.specs.declared.call.Call.{Call}
use Rattle.pico_base.specs.declared.call.Home.{Home}
use Rattle.pico_base.specs.declared.call.Home.TheVariants as homes
use Rattle.pico_base.specs.declared.numbers.Kind.{Kind}
use Rattle.pico_base.specs.declared.numbers.Name.{Name}
use Rattle.pico_base.specs.declared.reply.Reply.{Reply}
use Rattle.pico_base.specs.declared.script.Script.{Script}
use Rattle.pico_base.specs.Home.{home_of}
use Rattle.rpc_frame.specs.declared.asked.Asked.{Asked}
use Rattle.rpc_frame.specs.declared.frame.Frame.TheVariants as frames
use Rattle.kernel_laws.proofs.Plain.{from_some, not_some}
use Rattle.node_model.specs.Caller.{Caller, answer_call}
use Rattle.node_model.specs.Directory.{upcoming, with_range}
use Rattle.node_model.specs.Leases.{leases_hold, refill, takes_number}
use Rattle.world_model.specs.Node.{Node, asked_here, holds, is_leader, under_way_as}
use Rattle.world_model.specs.Step.{Step, send, step_to, with_directory}
use Rattle.world_model.specs.Calls.{answered_by, ask_after, bounce, bounce_or_nobody, end_with_reply, forwarded_by, requested_by, take_answer, take_forward, take_not_owner, take_request, with_forgotten, with_learnt}
use Rattle.world_model.specs.Numbers.{make}
use Rattle.world_model.specs.Ranges.{go_on_with, take_lease, take_lease_ask}
use Rattle.world_model.specs.Routes.{route_call}
use Rattle.world_model.specs.Serving.{serve_asked, serve_nobody}
use Rattle.world_model.specs.World.{node_count}
use Rattle.world_laws.specs.Places.{CallPlace, call_in}
use Rattle.rule_laws.proofs.own.Moved.{IsNotServed}
use Rattle.weight_laws.specs.Weights.{call_weight, left_to_start, node_weight, strike_weight}
use Rattle.weight_laws.proofs.Costs.{MayEnd, RisesBesides, nobody-costs, served-costs, stage-below, step_weight, under-way-at, MayEndIf, answered-quiet, read_cost}
use Rattle.weight_laws.proofs.Events.{Lowers, lowers-moved}
use Rattle.weight_laws.proofs.Lines.{answer-below}
use Rattle.weight_laws.proofs.Made.{made-costs}
use Rattle.weight_laws.proofs.Parts.{passed}
use Rattle.route_laws.proofs.Owed.{nobody_reads}

-- a step that costs so much, and a call that goes from a place to another
pub lowers-by-cost : (script : Script) (n : Node) (s : Step) (taken more : ℕ) (call : ℕ → CallPlace) (p : ℕ)
    (was place : CallPlace) → 1 ≤ p → p ≤ node_count script → call p ≡ was
    → step_weight script s ≤ node_weight script n + more → call_weight place + more < call_weight was + taken
    → Lowers script n taken call (call_in call p place) s
lowers-by-cost script n s taken more call p was place low high is cost less =
    lowers-moved script n taken call p was place s low high is (omega (arith, cost, less))

-- a name that moves to who reads it costs 5 at most
pub read-is-cheap : (nobody leads : Bool) → read_cost nobody leads ≤ 5
read-is-cheap true leads = omega arith
read-is-cheap false true = omega arith
read-is-cheap false false = omega arith

module _ (script : Script) (n : Node) where
  -- a step from this node that costs so much
  abbrev pub CostsAtMost : ℕ → Step → Type 0
  CostsAtMost more s = step_weight script s ≤ node_weight script n + more

  -- one of the two, where both cost no more
  either : (more : ℕ) (t : Bool) (x y : Step) → CostsAtMost more x → CostsAtMost more y
      → CostsAtMost more (if t then x else y)
  either more true x y a c = a
  either more false x y a c = c

  -- ---- LeaseAsk

  pub lease-ask-costs : (from : ℕ) (kind : Kind) (s : Step) → take_lease_ask n from kind ≡ Some s → CostsAtMost 0 s
  lease-ask-costs from kind s h =
      let m : Step =
      send (step_to (with_directory n (with_range n.leader.directory kind from))) from
      (frames.Lease kind (upcoming n.leader.directory kind))
      in let cost : CostsAtMost 0 m = omega arith
      in subst (CostsAtMost 0) (from_some m s (passed _ _ s h).1) cost

  -- ---- Answer

  ended-costs : (home : Home) (from : ℕ) (c : Caller)
      → left_to_start script n.number c ≤ left_to_start script n.number n.caller → strike_weight c ≡ 0
      → CostsAtMost 0 (step_to (record (with_learnt n from home) { caller = c }))
  ended-costs (homes.At name) from c h quiet =
      let start = stage-below script n.number n.caller c n.stage h in omega (arith, start, quiet)
  ended-costs (homes.Removal name) from c h quiet =
      let start = stage-below script n.number n.caller c n.stage h in omega (arith, start, quiet)
  ended-costs homes.Own from c h quiet =
      let start = stage-below script n.number n.caller c n.stage h in omega (arith, start, quiet)
  ended-costs homes.Keys from c h quiet =
      let start = stage-below script n.number n.caller c n.stage h in omega (arith, start, quiet)
  ended-costs homes.Parent from c h quiet =
      let start = stage-below script n.number n.caller c n.stage h in omega (arith, start, quiet)

  answer-by : (from ticket : ℕ) (reply : Reply) (s : Step) (o : Option Call) → under_way_as n ticket ≡ o
      → MayEnd script n → option_and_then (answered_by script n from reply) o ≡ Some s → CostsAtMost 0 s
  answer-by from ticket reply s None e may h = not_some s h
  answer-by from ticket reply s (Some call) e may h =
      let below : left_to_start script n.number (answer_call script n.number n.caller call reply)
      ≤ left_to_start script n.number n.caller =
      answer-below script n.number may.tries n.caller call call reply (under-way-at n ticket call e) may.left
      in let m : Step = step_to (end_with_reply script n from call reply)
      in let cost : CostsAtMost 0 m =
      ended-costs (home_of n.pid call) from (answer_call script n.number n.caller call reply) below
      (answered-quiet script n.number n.caller call reply)
      in subst (CostsAtMost 0) (from_some m s (passed _ _ s h).1) cost

  pub answer-costs : (from ticket : ℕ) (reply : Reply) (s : Step) → MayEnd script n
      → take_answer script n from ticket reply ≡ Some s → CostsAtMost 0 s
  answer-costs from ticket reply s may h = answer-by from ticket reply s (under_way_as n ticket) refl may h

  -- ---- calls that are served

  module _ (asked : Asked) (may : MayEndIf script n) (rises : RisesBesides n) where
    -- what serving the call may cost
    abbrev most : ℕ
    most = read_cost (nobody_reads n asked) (is_leader n)

    serve-costs : (name : Name) (s : Step) → serve_asked script (step_to n) name asked ≡ Some s → CostsAtMost most s
    serve-costs name s h =
        let cost = served-costs script (step_to n) s name asked may rises h in omega (arith, cost)

    nothing-costs : (name : Name) → CostsAtMost 0 (serve_nobody script (step_to n) name asked)
    nothing-costs name =
        let cost = nobody-costs script (step_to n) name asked may in omega (arith, cost)

    bounce-costs : CostsAtMost 0 (bounce n asked)
    bounce-costs = omega arith

    unserved-costs : (name : Name) → CostsAtMost 0 (bounce_or_nobody script n asked name)
    unserved-costs name =
        either 0 (leases_hold n.leases name) (serve_nobody script (step_to n) name asked) (bounce n asked)
        (nothing-costs name) bounce-costs

    more-is-fine : (s : Step) → CostsAtMost 0 s → CostsAtMost most s
    more-is-fine s h = omega (arith, h)

    -- ---- Forward

    forward-at : (name : Name) (s : Step) (t : Bool)
        → (if t then serve_asked script (step_to n) name asked
        else Some (bounce_or_nobody script n asked name)) ≡ Some s
        → CostsAtMost most s
    forward-at name s true h = serve-costs name s h
    forward-at name s false h =
        subst (CostsAtMost most) (from_some _ _ h)
        (more-is-fine (bounce_or_nobody script n asked name) (unserved-costs name))

    forward-removal : (name : Name) (s : Step) (t : Bool)
        → (if t then Some (bounce n asked) else Some (bounce_or_nobody script n asked name)) ≡ Some s
        → CostsAtMost 0 s
    forward-removal name s true h = subst (CostsAtMost 0) (from_some _ _ h) bounce-costs
    forward-removal name s false h = subst (CostsAtMost 0) (from_some _ _ h) (unserved-costs name)

    forward-home : (s : Step) (home : Home) → forwarded_by script n asked home ≡ Some s → CostsAtMost most s
    forward-home s (homes.At name) h = forward-at name s (holds n name) h
    forward-home s (homes.Removal name) h = more-is-fine s (forward-removal name s (holds n name) h)
    forward-home s homes.Own h = not_some s h
    forward-home s homes.Keys h = not_some s h
    forward-home s homes.Parent h = not_some s h

    -- in whatever way it ends
    pub forward-costs : (from : ℕ) (s : Step) → take_forward script n from asked ≡ Some s → CostsAtMost most s
    forward-costs from s h = forward-home s (home_of asked.pid asked.call) (passed _ _ s h).1

    unserved-home : (s : Step) (home : Home) → IsNotServed n home → forwarded_by script n asked home ≡ Some s
        → CostsAtMost 0 s
    unserved-home s (homes.At name) lacks h =
        subst (CostsAtMost 0) (from_some _ _
        (sym (ap (λ t. if t then serve_asked script (step_to n) name asked
        else Some (bounce_or_nobody script n asked name)) lacks) ∙ h)) (unserved-costs name)
    unserved-home s (homes.Removal name) lacks h = forward-removal name s (holds n name) h
    unserved-home s homes.Own lacks h = not_some s h
    unserved-home s homes.Keys lacks h = not_some s h
    unserved-home s homes.Parent lacks h = not_some s h

    -- then it costs nothing
    pub bounced-costs : (from : ℕ) (s : Step) → IsNotServed n (home_of asked.pid asked.call)
        → take_forward script n from asked ≡ Some s → CostsAtMost 0 s
    bounced-costs from s lacks h = unserved-home s (home_of asked.pid asked.call) lacks (passed _ _ s h).1

    -- ---- Request

    abbrev refusal : Step
    refusal = send (step_to n) asked.caller (frames.NotOwner asked.ticket)

    request-at : (name : Name) (s : Step) (t : Bool)
        → (if t then serve_asked script (step_to n) name asked else Some refusal) ≡ Some s → CostsAtMost most s
    request-at name s true h = serve-costs name s h
    request-at name s false h =
        let cost : CostsAtMost 0 refusal = omega arith
        in subst (CostsAtMost most) (from_some refusal s h) (more-is-fine refusal cost)

    request-home : (s : Step) (home : Home) → requested_by script n asked home ≡ Some s → CostsAtMost most s
    request-home s (homes.At name) h = request-at name s (holds n name) h
    request-home s (homes.Removal name) h = not_some s h
    request-home s homes.Own h = not_some s h
    request-home s homes.Keys h = not_some s h
    request-home s homes.Parent h = not_some s h

    refused-home : (s : Step) (home : Home) → IsNotServed n home → requested_by script n asked home ≡ Some s
        → CostsAtMost 0 s
    refused-home s (homes.At name) lacks h =
        let cost : CostsAtMost 0 refusal = omega arith
        in subst (CostsAtMost 0) (from_some refusal s
        (sym (ap (λ t. if t then serve_asked script (step_to n) name asked else Some refusal) lacks) ∙ h)) cost
    refused-home s (homes.Removal name) lacks h = not_some s h
    refused-home s homes.Own lacks h = not_some s h
    refused-home s homes.Keys lacks h = not_some s h
    refused-home s homes.Parent lacks h = not_some s h

  -- a Request in whatever way it ends
  pub request-costs : (from ticket pid : ℕ) (call : Call) (s : Step) → MayEndIf script n → RisesBesides n
      → take_request script n from ticket pid call ≡ Some s → CostsAtMost 5 s
  request-costs from ticket pid call s may rises h =
      let asked : Asked = record { caller = from; ticket = ticket; pid = pid; call = call }
      in let cost = request-home asked may rises s (home_of pid call) (passed _ _ s h).1
      in let cheap = read-is-cheap (nobody_reads n asked) (is_leader n)
      in omega (arith, cost, cheap)

  -- and one that is refused
  pub refused-costs : (from ticket pid : ℕ) (call : Call) (s : Step) → MayEndIf script n → RisesBesides n
      → IsNotServed n (home_of pid call)
      → take_request script n from ticket pid call ≡ Some s → CostsAtMost 0 s
  refused-costs from ticket pid call s may rises lacks h =
      refused-home (record { caller = from; ticket = ticket; pid = pid; call = call }) may rises s (home_of pid call)
      lacks (passed _ _ s h).1

  -- ---- NotOwner

  asked-costs : (name : Name) (call : Call) (s : Step) (t : Bool) → t ≡ false
      → (let m : Node = with_forgotten n name in if t
      then route_call script (step_to m) (asked_here m call)
      else Some (send (step_to m) 1 (frames.Ask m.caller.ticket m.pid call))) ≡ Some s
      → CostsAtMost 0 s
  asked-costs name call s true other h = absurd (false≢true (sym other))
  asked-costs name call s false other h =
      let m : Step = send (step_to (with_forgotten n name)) 1 (frames.Ask n.caller.ticket n.pid call)
      in let cost : CostsAtMost 0 m = omega arith
      in subst (CostsAtMost 0) (from_some m s h) cost

  not-owner-home : (call : Call) (s : Step) (home : Home) → is_leader n ≡ false
      → ask_after script n call home ≡ Some s → CostsAtMost 0 s
  not-owner-home call s (homes.At name) other h = asked-costs name call s (is_leader n) other h
  not-owner-home call s (homes.Removal name) other h = not_some s h
  not-owner-home call s homes.Own other h = not_some s h
  not-owner-home call s homes.Keys other h = not_some s h
  not-owner-home call s homes.Parent other h = not_some s h

  not-owner-by : (s : Step) (o : Option Call) → is_leader n ≡ false
      → option_and_then (λ call. ask_after script n call (home_of n.pid call)) o ≡ Some s → CostsAtMost 0 s
  not-owner-by s None other h = not_some s h
  not-owner-by s (Some call) other h = not-owner-home call s (home_of n.pid call) other h

  -- another node asks the leader
  pub not-owner-costs : (ticket : ℕ) (s : Step) → is_leader n ≡ false → take_not_owner script n ticket ≡ Some s
      → CostsAtMost 0 s
  not-owner-costs ticket s other h = not-owner-by s (under_way_as n ticket) other h

  -- ---- Lease

  lease-by : (kind : Kind) (first : ℕ) (s : Step) (o : Option Call) → MayEnd script n
      → option_and_then (go_on_with script n kind first) o ≡ Some s → CostsAtMost 2 s
  lease-by kind first s None may h = not_some s h
  lease-by kind first s (Some call) may h =
      let refilled : Step = step_to (record n { leases = refill n.leases kind first })
      in let cost = made-costs script refilled s call kind (record { tries = may.tries; left = may.left })
      (passed (takes_number kind call) (make script refilled call kind) s h).1
      in omega (arith, cost)

  -- a number comes, and is given to something
  pub lease-costs : (from : ℕ) (kind : Kind) (first : ℕ) (s : Step) → MayEnd script n
      → take_lease script n from kind first ≡ Some s → CostsAtMost 2 s
  lease-costs from kind first s may h = lease-by kind first s n.caller.under_way may (passed _ _ s h).1
