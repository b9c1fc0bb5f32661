-- Events in which the leader takes a call into its hand and routes it lower the weight.
use Rattle.std.proofs.Common.{◌≡◌, ◌≢◌, ℕ, ◌+◌, ◌≤◌, Bool, ◌&&◌, true, false, not, if◌then◌else◌, List, [], ◌∷◌, nat_eq, is_none, Option, Some, None, is_some, option_and_then, refl, ap, sym, ◌∙◌, arith}
use Rattle.std.proofs.lemmas.Bool.{false≢true}
use Rattle.pico_base.specs.declared.call.Call.{Call}
use Rattle.pico_base.specs.declared.call.Home.{Home}
use Rattle.pico_base.specs.declared.call.Home.TheVariants as homes
use Rattle.pico_base.specs.declared.numbers.Name.{Name}
use Rattle.pico_base.specs.declared.script.Script.{Script}
use Rattle.pico_base.specs.Home.{home_of}
use Rattle.rpc_frame.specs.declared.asked.Asked.{Asked}
use Rattle.rpc_frame.specs.declared.frame.Frame.{Frame}
use Rattle.rpc_frame.specs.declared.frame.Frame.TheVariants as frames
use Rattle.kernel_laws.proofs.Plain.{not_some}
use Rattle.node_model.specs.Directory.{Place, place_of}
use Rattle.node_model.specs.declared.held.Held.TheVariants.{Request}
use Rattle.world_model.specs.Calls.{ask_after, asks_as, is_for_others, is_on_name_or_removal, is_to_leader, take_ask, take_bounce, take_not_owner, with_forgotten}
use Rattle.world_model.specs.Node.{Node, asked_here, is_leader, is_node, under_way_as}
use Rattle.world_model.specs.Routes.{route_call}
use Rattle.world_model.specs.Step.{Step, send, step_to}
use Rattle.world_model.specs.World.{World, node_count}
use Rattle.world_laws.specs.Families.{NodeHolds}
use Rattle.world_laws.specs.Invariant.{Holds, IsLeading}
use Rattle.world_laws.specs.Places.{Beside, CallPlace, InAsk, InBounce, InNotOwner, call_in}
use Rattle.world_laws.specs.Plays.{is_call_on, is_home_on}
use Rattle.world_laws.specs.Sights.{directory_of, is_born_in, node_of}
use Rattle.world_laws.proofs.Steps.{Heads}
use Rattle.world_laws.proofs.Named.{same-name}
use Rattle.waiting_model.specs.Calls.{is_withdrawal}
use Rattle.route_laws.proofs.Owed.{nobody_reads}
use Rattle.route_laws.proofs.hand.Bounces.{bounced-known}
use Rattle.weight_laws.specs.Weights.{call_weight, hand_weight, node_weight}
use Rattle.weight_laws.proofs.CallHeads.{ask-place, bounce-place, may-end-if, not-owner-place}
use Rattle.weight_laws.proofs.Costs.{MayEndIf, step_weight, under-way-at}
use Rattle.weight_laws.proofs.Events.{Lowers, TakesLower, lowers-moved}
use Rattle.weight_laws.proofs.Parts.{and-right, passed}
use Rattle.weight_laws.proofs.Routes.{place_limit, route-lowers}
use Rattle.weight_laws.proofs.Starts.{NameIsKnown, hand-cost, known-hand-cost}
use Rattle.route_laws.proofs.hand.Asks.{NeverWithdraws}

is-not : (t : Bool) → not t ≡ true → t ≡ false
is-not true h = absurd (false≢true h)
is-not false h = refl

-- ---- a call alone in the leader's hand

module _ (script : Script) (n : Node) (number : n.number ≡ 1) (leading : IsLeading n.leader.directory) (asked : Asked)
    (may : MayEndIf script n) (is_call : is_withdrawal asked.call ≡ false) (place : CallPlace)
    (light : call_weight place
    ≤ place_limit (nobody_reads n asked) n.leader.directory (home_of asked.pid asked.call)) where
  -- is routed
  pub alone-costs : (s : Step) → route_call script (step_to n) asked ≡ Some s
      → step_weight script s + call_weight place
      ≤ node_weight script n + hand_weight n.leader.directory (Request asked ∷ [])
  alone-costs s h =
      let route = route-lowers script (step_to n) asked [] number leading may is_call s place (λ name e. tt) light h
      in omega (arith, route)

-- ---- the events

module _ (script : Script) (w : World) (b : Beside) (holds : Holds script w [] b) (q : ℕ) (rest : List Frame) where
  abbrev n : Node
  n = node_of w 1

  number-is : 1 ≤ node_count script → (let m : Node = n in m.number ≡ 1)
  number-is high = let m : NodeHolds script b.pids (is_born_in w) 1 n = holds.nodes 1 (omega arith) high in m.number

  -- the place that a call alone in hand may go to
  abbrev pub IsRoutedTo : Asked → CallPlace → Type 0
  IsRoutedTo asked place =
      call_weight place ≤ place_limit (nobody_reads n asked) (directory_of w) (home_of asked.pid asked.call)

  -- ---- an Ask

  module _ (ticket pid : ℕ) (call : Call) (h : Heads script w 1 q (frames.Ask ticket pid call) rest)
      (place : CallPlace) where
    abbrev pub asked_by : Asked
    asked_by = record { caller = q; ticket = ticket; pid = pid; call = call }

    ask-lowers : IsRoutedTo asked_by place → (s : Step) → take_ask script n q ticket pid call ≡ Some s
        → Lowers script n 0 b.call (call_in b.call q place) s
    ask-lowers light s rule =
        let routed = passed (is_to_leader n q && asks_as is_for_others pid call)
        (route_call script (step_to n) asked_by) s rule
        in let cost = alone-costs script n (number-is h.high) holds.leading asked_by
        (may-end-if script w [] b holds 1 h.low h.high)
        (is-not (is_withdrawal call) (and-right _ _ (and-right _ _ routed.0))) place light s routed.1
        in let hand = hand-cost n.leader.directory asked_by
        in lowers-moved script n 0 b.call q InAsk place s h.low_from h.high_from
        (ask-place script w b holds 1 q rest ticket pid call h) (omega (arith, cost, hand))

    -- It is routed.
    pub ask-falls : IsRoutedTo asked_by place
        → TakesLower script w 1 q (frames.Ask ticket pid call) b.call (call_in b.call q place)
    ask-falls light = ask-lowers light

  -- ---- a Bounce

  module _ (asked : Asked) (h : Heads script w 1 q (frames.Bounce asked) rest) (low : 1 ≤ asked.caller)
      (high : asked.caller ≤ node_count script) (never : NeverWithdraws script) where
    some-known : (o : Option Place) → is_some o ≡ true → not (is_none o) ≡ true
    some-known None e = e
    some-known (Some place) e = refl

    on-it : (name : Name) → is_call_on name asked ≡ true → not (is_none (place_of (directory_of w) name)) ≡ true
    on-it name on =
        some-known (place_of (directory_of w) name)
        (bounced-known script w b holds q asked rest h low high never name on)

    known-at : (home : Home) → home_of asked.pid asked.call ≡ home → NameIsKnown (directory_of w) home
    known-at (homes.At name) e = on-it name (ap (is_home_on name) e ∙ same-name name name refl)
    known-at (homes.Removal name) e = on-it name (ap (is_home_on name) e ∙ same-name name name refl)
    known-at homes.Own e = tt
    known-at homes.Keys e = tt
    known-at homes.Parent e = tt

    asked-by-call : (is_to_leader n q && (is_node script asked.caller
        && asks_as is_on_name_or_removal asked.pid asked.call)) ≡ true
        → not (is_withdrawal asked.call) ≡ true
    asked-by-call h =
        and-right (is_on_name_or_removal (home_of asked.pid asked.call)) (not (is_withdrawal asked.call))
        (and-right (is_node script asked.caller) (asks_as is_on_name_or_removal asked.pid asked.call)
        (and-right (is_to_leader n q)
        (is_node script asked.caller && asks_as is_on_name_or_removal asked.pid asked.call) h))

    bounce-lowers : (place : CallPlace) → IsRoutedTo asked place → (s : Step) → take_bounce script n q asked ≡ Some s
        → Lowers script n 0 b.call (call_in b.call asked.caller place) s
    bounce-lowers place light s rule =
        let routed = passed
        (is_to_leader n q && (is_node script asked.caller && asks_as is_on_name_or_removal asked.pid asked.call))
        (route_call script (step_to n) asked) s rule
        in let cost = alone-costs script n (number-is h.high) holds.leading asked
        (may-end-if script w [] b holds 1 h.low h.high)
        (is-not (is_withdrawal asked.call) (asked-by-call routed.0)) place light s routed.1
        in let hand = known-hand-cost (directory_of w) asked (known-at (home_of asked.pid asked.call) refl)
        in lowers-moved script n 0 b.call asked.caller (InBounce q) place s low high
        (bounce-place script w b holds 1 q rest asked h low high) (omega (arith, cost, hand))

    -- It is routed again, and its name is known.
    pub bounce-falls : (place : CallPlace) → IsRoutedTo asked place
        → TakesLower script w 1 q (frames.Bounce asked) b.call (call_in b.call asked.caller place)
    bounce-falls place light = bounce-lowers place light

  -- ---- a NotOwner of the leader's own call

  module _ (ticket : ℕ) (h : Heads script w 1 q (frames.NotOwner ticket) rest) (place : CallPlace)
      (is_call : (call : Call) → n.caller.under_way ≡ Some call → is_withdrawal call ≡ false)
      (light : (call : Call) → n.caller.under_way ≡ Some call → IsRoutedTo (asked_here n call) place) where
    first-may-end : MayEndIf script n
    first-may-end = may-end-if script w [] b holds 1 h.low h.high

    asks-again : (call : Call) (name : Name) (s : Step) (t : Bool) → is_leader n ≡ t
        → n.caller.under_way ≡ Some call
        → (let m : Node = with_forgotten n name in if t then route_call script (step_to m) (asked_here m call)
        else Some (send (step_to m) 1 (frames.Ask m.caller.ticket m.pid call))) ≡ Some s
        → step_weight script s + call_weight place ≤ node_weight script n + 10
    asks-again call name s true leads is g =
        let m : Node = with_forgotten n name
        in let cost = alone-costs script m (number-is h.high) holds.leading (asked_here m call)
        (λ there. let may = first-may-end there in record { tries = may.tries; left = may.left }) (is_call call is)
        place
        (light call is) s g
        in let hand = hand-cost m.leader.directory (asked_here m call)
        in omega (arith, cost, hand)
    asks-again call name s false leads is g =
        absurd (false≢true (sym leads ∙ ap (λ x. nat_eq x 1) (number-is h.high)))

    by-home : (call : Call) (s : Step) (home : Home) → n.caller.under_way ≡ Some call
        → ask_after script n call home ≡ Some s
        → step_weight script s + call_weight place ≤ node_weight script n + 10
    by-home call s (homes.At name) is g = asks-again call name s (is_leader n) refl is g
    by-home call s (homes.Removal name) is g = not_some s g
    by-home call s homes.Own is g = not_some s g
    by-home call s homes.Keys is g = not_some s g
    by-home call s homes.Parent is g = not_some s g

    by-call : (s : Step) (o : Option Call) → under_way_as n ticket ≡ o
        → option_and_then (λ call. ask_after script n call (home_of n.pid call)) o ≡ Some s
        → step_weight script s + call_weight place ≤ node_weight script n + 10
    by-call s None e g = not_some s g
    by-call s (Some call) e g = by-home call s (home_of n.pid call) (under-way-at n ticket call e) g

    not-owner-lowers : (s : Step) → take_not_owner script n ticket ≡ Some s
        → Lowers script n 0 b.call (call_in b.call 1 place) s
    not-owner-lowers s rule =
        let cost = by-call s (under_way_as n ticket) refl rule
        in lowers-moved script n 0 b.call 1 (InNotOwner q) place s h.low h.high
        (not-owner-place script w b holds 1 q rest ticket h) (omega (arith, cost))

    -- It is routed.
    pub first-not-owner-falls : TakesLower script w 1 q (frames.NotOwner ticket) b.call (call_in b.call 1 place)
    first-not-owner-falls = not-owner-lowers
