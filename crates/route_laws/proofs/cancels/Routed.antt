-- The leader routes the withdrawal that is first in its hand, by the place of its name.
use Rattle.std.proofs.Common.{Bool, List, None, Option, Some, [], ap, append-nil, arith, false, if◌then◌else◌, inl, inr, is_some, not, refl, subst, sym, true, ℕ, ◌&&◌, ◌++◌, ◌∙◌, ◌∷◌, ◌≡◌, ◌≢◌, ◌≤◌}
use Rattle.std.proofs.lemmas.Bool.{cases_eq, eq-eqb, false≢true, ne_eqb}
use Rattle.pico_base.specs.declared.call.Call.{Call}
use Rattle.pico_base.specs.declared.numbers.Name.{Name}
use Rattle.pico_base.specs.declared.script.Script.{Script}
use Rattle.rpc_frame.specs.declared.asked.Asked.{Asked}
use Rattle.rpc_frame.specs.declared.frame.Frame.TheVariants as frames
use Rattle.rpc_frame.specs.declared.frame.Frame.{Frame}
use Rattle.waiting_model.specs.Calls.{is_withdrawal, waits_at, withdrawn_from}
use Rattle.node_model.specs.Bodies.{Body}
use Rattle.node_model.specs.Directory.{At, Coming, Directory, Place, hold, hold_at, maker, maker_stays, place_of, route, route_by, stays, with_place}
use Rattle.node_model.specs.Kinds.{get_named, is_object}
use Rattle.node_model.specs.Serving.{Leaves, NotThere, Withdrawn, body_without, has_waiter, withdraw, withdraw_in}
use Rattle.node_model.specs.declared.held.Held.TheVariants.{Request}
use Rattle.node_model.specs.declared.held.Held.{Held}
use Rattle.node_model.specs.declared.route.Route.TheVariants as routes
use Rattle.world_model.specs.Node.{Node}
use Rattle.world_model.specs.Routes.{cancel, cancel_by, hold_item, route_cancel}
use Rattle.world_model.specs.Serving.{interrupted, withdraw_by, withdraw_here}
use Rattle.world_model.specs.Step.{Step, with_directory}
use Rattle.world_model.specs.World.{World, node_count, world_after}
use Rattle.kernel_laws.proofs.Plain.{from_some, not_some}
use Rattle.rule_laws.proofs.own.Moved.{AreStill, is_still}
use Rattle.world_laws.proofs.Cancels.{may_be_withdrawn}
use Rattle.world_laws.proofs.Changes.{Changes}
use Rattle.world_laws.proofs.Middles.{GrowsBy, changes-further}
use Rattle.world_laws.proofs.Sends.{AreToNodes}
use Rattle.world_laws.specs.Cancels.{IsCancelOf, LeadsNowhere, Owing, cancel_sight, may_follow, owing_of}
use Rattle.world_laws.specs.Families.{NodeHolds}
use Rattle.world_laws.specs.Invariant.{HoldsOwing}
use Rattle.world_laws.specs.Names.{NameHolds, name_sight}
use Rattle.world_laws.specs.Places.{Beside, CancelHeld, CancelInHand}
use Rattle.world_laws.specs.Sights.{directory_of, is_born_in, node_of}
use Rattle.route_laws.proofs.cancels.Beliefs.{IsNobodys, maker-believed, owner-believed}
use Rattle.route_laws.proofs.cancels.Borns.{believed-is-born}
use Rattle.route_laws.proofs.cancels.Current.{IsCurrent}
use Rattle.route_laws.proofs.cancels.Found.{follows-to-held, follows-to-maker, follows-to-owner, goes-nowhere}
use Rattle.route_laws.proofs.cancels.InHand.{current-is-out, current-name, is-of-caller, is_waking}
use Rattle.route_laws.proofs.cancels.Missing.{leader-holds, waits-at-leader}
use Rattle.route_laws.proofs.cancels.ToHeld.{cancel-held}
use Rattle.route_laws.proofs.cancels.ToNobody.{gone-to-nobody}
use Rattle.route_laws.proofs.cancels.ToNode.{sent-to-node}
use Rattle.route_laws.proofs.cancels.Travels.{HoldsStill}
use Rattle.route_laws.proofs.cancels.BrokenWhole.{IsBroken, IsCleared, WaitEnds, broken-off, cleared}
use Rattle.route_laws.proofs.cancels.Cleared.{cleared-in-hand}
use Rattle.route_laws.proofs.cancels.Interrupted.{waiter-broken}
use Rattle.route_laws.proofs.cancels.Waiter.{TakesOut, takes-out}
use Rattle.route_laws.proofs.served.Replies.{IsAtWork}
use Rattle.route_laws.proofs.served.Turns.{node-at}
use Rattle.route_laws.proofs.Owed.{HoldsAt}
use Rattle.rule_laws.proofs.Nodes.{leader-stage}
use Rattle.rule_laws.proofs.ends.Directories.{KnowsNodes}
use Rattle.world_laws.proofs.NameFacts.{IsHeldAt, held-there}
use Rattle.route_laws.proofs.hand.Holdings.{held-also}
use Rattle.route_laws.proofs.hand.Owners.{maker-in-range, maker-is-born, owner-in-range}

-- The step behind this one, after which all holds with these items in hand; each call is where it was, or has its
-- reply.
pub record CancelRouted (script : Script) (v : World) (next : Step) (rest : List Held) (owes : Owing)
    (b : Beside) : Type 0 where
  pub beside : Beside
  pub holds : HoldsOwing script (world_after v 1 next) rest owes beside
  pub calls : AreStill b.call beside.call

-- with all calls where they were
routed-still : (script : Script) (v : World) (next : Step) (rest : List Held) (owes : Owing) (b : Beside)
    → HoldsStill script (world_after v 1 next) rest owes b → CancelRouted script v next rest owes b
routed-still script v next rest owes b h =
    record { beside = record b { cancel = h.cancels }; holds = h.holds; calls = λ y. is_still refl }

some-name : (a c : Name) → Some a ≡ Some c → a ≡ c
some-name a c h = cc

module _ (script : Script) (v : World) (s : Step) (it : Asked) (rest : List Held) (owes : Owing) (b : Beside)
    (holds : HoldsOwing script (world_after v 1 s) (Request it ∷ rest) owes b) (calm : is_waking owes ≡ false)
    (low : 1 ≤ it.caller) (high : it.caller ≤ node_count script) (name : Name)
    (withdraws : withdrawn_from it.call ≡ Some name) where
  abbrev w : World
  w = world_after v 1 s

  abbrev d : Directory
  d = directory_of w

  abbrev hand : List Held
  hand = Request it ∷ rest

  abbrev p : ℕ
  p = it.caller

  high-one : 1 ≤ node_count script
  high-one = omega (arith, low, high)

  is-cancel : is_withdrawal it.call ≡ true
  is-cancel = ap is_some withdraws

  of : IsCancelOf (cancel_sight w hand b p) it
  of = is-of-caller script w it rest owes b holds calm low high is-cancel

  object : is_object name ≡ true
  object = ap is_object (some-name name of.name (sym withdraws ∙ of.withdraws)) ∙ of.object

  changes-now : (t : Step) (sends : List (ℕ × Frame)) → GrowsBy s t sends [] → AreToNodes (node_count script) sends
      → Changes script 1 w (world_after v 1 t) t.node [] sends []
  changes-now t sends grows to_nodes =
      changes-further script v 1 s t sends [] holds.shape (omega arith) high-one to_nodes grows

  -- the world shows the node of the step
  leader-here : node_of w 1 ≡ s.node
  leader-here =
      let c : Changes script 1 w w s.node [] [] [] =
      changes-now s [] (record { sends_are = sym (append-nil s.sends); entries_are = sym (append-nil s.entries) }) tt
      in c.here

  leader-number : s.node.number ≡ 1
  leader-number =
      let n : NodeHolds script b.pids (is_born_in w) 1 (node_of w 1) = holds.nodes 1 (omega arith) high-one
      in sym (ap (λ (m : Node). m.number) leader-here) ∙ n.number

  directory : s.node.leader.directory ≡ d
  directory = sym (ap (λ (m : Node). m.leader.directory) leader-here)

  -- it goes by the place that the leader knows
  by-place : (o : Option Place) → place_of d name ≡ o
      → route_cancel script s name it
      ≡ cancel_by script s name it (route_by o (maker_stays d (maker d name)) (maker d name))
  by-place o e =
      ap (λ z. cancel_by script s name it (route z name)) directory
      ∙ ap (λ z. cancel_by script s name it (route_by z (maker_stays d (maker d name)) (maker d name))) e

  -- ---- to a node

  to-node-changes : (h : ℕ) → 1 ≤ h → h ≤ node_count script
      → Changes script 1 w (world_after v 1 (cancel s h it)) (node_of w 1) [] ((h, frames.Cancel it) ∷ []) []
  to-node-changes h low_to high_to =
      subst (λ (m : Node). Changes script 1 w (world_after v 1 (cancel s h it)) m [] ((h, frames.Cancel it) ∷ []) [])
      (sym leader-here)
      (changes-now (cancel s h it) ((h, frames.Cancel it) ∷ [])
      (record { sends_are = refl; entries_are = sym (append-nil s.entries) })
      (record { low = low_to; high = high_to }, tt))

  to-owner : (h : ℕ) → 1 ≤ h → h ≢ 1 → place_of d name ≡ Some (At h)
      → CancelRouted script v (cancel s h it) rest owes b
  to-owner h low_to other place =
      let low_owner : 2 ≤ h = omega (arith, low_to, other)
      in let high_to = owner-in-range script w hand b holds name h place low_owner
      in let believed = owner-believed script w hand owes b holds name object h place
      in routed-still script v (cancel s h it) rest owes b
      (sent-to-node script w (world_after v 1 (cancel s h it)) it rest owes b holds calm low high is-cancel name
      withdraws h low_owner
      (believed-is-born script w hand owes b holds name object h low_owner high_to believed)
      (to-node-changes h low_to high_to) (λ used. believed)
      (λ unused. absurd (false≢true (sym unused ∙ known.known (ap is_some place))))
      (λ call under_way waits at out.
      follows-to-owner script w hand owes b holds p low high call under_way waits h low_to
      (ap (place_of d) at ∙ place) out))
    where
      known : NameHolds script b.pids (is_born_in (world_after v 1 s)) name
          (name_sight script (world_after v 1 s) (Request it ∷ rest) b name)
      known = holds.names name

  to-maker : (h : ℕ) → h ≢ 1 → place_of d name ≡ None → maker d name ≡ Some h
      → CancelRouted script v (cancel s h it) rest owes b
  to-maker h other place makes =
      let range = maker-in-range script w hand b holds name h makes
      in let low_to : 1 ≤ h = range.0
      in let low_maker : 2 ≤ h = omega (arith, low_to, other)
      in routed-still script v (cancel s h it) rest owes b
      (sent-to-node script w (world_after v 1 (cancel s h it)) it rest owes b holds calm low high is-cancel name
      withdraws h low_maker (maker-is-born script w hand b holds name h makes)
      (to-node-changes h low_to range.1)
      (λ used. maker-believed script w hand owes b holds name object h place makes used) (λ unused. makes)
      (λ call under_way waits at out.
      follows-to-maker script w hand owes b holds p low high call under_way waits h low_to
      (ap (place_of d) at ∙ place) (ap (maker d) at ∙ makes) out))

  -- ---- to what is held, and to nobody

  to-held : (to : Option ℕ) (items : List Held) → place_of d name ≡ Some (Coming to items)
      → CancelRouted script v (hold_item s name (Request it)) rest owes b
  to-held to items place =
      routed-still script v after rest owes b
      (cancel-held script w (world_after v 1 after) it rest owes b holds calm low high is-cancel name withdraws object
      to
      items place _ (held-also d name it to items holds.leading place)
      (subst (λ (m : Node). Changes script 1 w (world_after v 1 after) m [] [] []) node-is
      (changes-now after []
      (record { sends_are = sym (append-nil s.sends); entries_are = sym (append-nil s.entries) }) tt))
      (λ call under_way waits at out.
      subst (λ m. may_follow (CancelHeld m) (b.call p) ≡ true) at
      (follows-to-held script w hand owes b holds p low high call under_way waits out)))
    where
      after : Step
      after = hold_item s name (Request it)

      node-is : after.node
          ≡ with_directory (node_of (world_after v 1 s) 1)
          (with_place (directory_of (world_after v 1 s)) name (Coming to (items ++ Request it ∷ [])))
      node-is =
          ap (λ (m : Node). with_directory m (hold m.leader.directory name (Request it))) (sym leader-here)
          ∙ ap (λ o. with_directory (node_of (world_after v 1 s) 1)
          (hold_at (directory_of (world_after v 1 s)) name (Request it) o)) place

  -- nothing is sent
  unchanged : Changes script 1 w w (node_of w 1) [] [] []
  unchanged =
      subst (λ (m : Node). Changes script 1 w w m [] [] []) (sym leader-here)
      (changes-now s [] (record { sends_are = sym (append-nil s.sends); entries_are = sym (append-nil s.entries) }) tt)

  to-nobody : ((call : Call) → (node_of w p).caller.under_way ≡ Some call
      → may_be_withdrawn (node_of w p).pid call ≡ true → IsCurrent p (cancel_sight w hand b p) call it CancelInHand
      → LeadsNowhere (cancel_sight w hand b p) (waits_at (node_of w p).pid call))
      → CancelRouted script v s rest owes b
  to-nobody leads =
      routed-still script v s rest owes b
      (gone-to-nobody script w w it rest owes b holds calm low high is-cancel unchanged leads)

  nobodys : IsNobodys d name → CancelRouted script v s rest owes b
  nobodys nobody =
      to-nobody
      (λ call under_way waits cur.
      let at = current-name p (cancel_sight w hand b p) call it CancelInHand name cur withdraws
      in goes-nowhere script w hand owes b holds p low high call under_way waits
      (subst (λ m. IsNobodys d m) (sym at) nobody) (current-is-out p (cancel_sight w hand b p) call it cur))

  -- ---- here

  abbrev found : Withdrawn
  found = withdraw s.node.deeds name it.pid it.ticket

  -- where nobody waits under its ticket it is an old one
  not-found : place_of d name ≡ Some (At 1)
      → ((body : Body) → get_named (node_of w 1).deeds name ≡ Some body → has_waiter body it.pid it.ticket ≡ false)
      → CancelRouted script v s rest owes b
  not-found place nobody =
      to-nobody
      (λ call under_way waits cur.
      let at = current-name p (cancel_sight w hand b p) call it CancelInHand name cur withdraws
      in let out = current-is-out p (cancel_sight w hand b p) call it cur
      in let here = ap (place_of d) at ∙ place
      in let there = waits-at-leader script w hand owes b holds p low high call under_way waits here out
      in let held = leader-holds script w hand owes b holds p low high call under_way waits here
      in absurd
      (false≢true
      (sym (nobody (b.body (waits_at (node_of w p).pid call))
      (ap (get_named (node_of w 1).deeds) (sym at) ∙ held))
      ∙ ap (λ (a : Asked). has_waiter (b.body (waits_at (node_of w p).pid call)) a.pid a.ticket) cur.is
      ∙ there)))

  module _ (low_owner : (node : ℕ) → place_of d name ≡ Some (At node) → 1 ≤ node)
      (interrupts : (body : Body) → get_named (node_of w 1).deeds name ≡ Some body
      → has_waiter body it.pid it.ticket ≡ true
      → CancelRouted script v (interrupted script s name it (body_without it.pid it.ticket body)) rest owes b) where
    abbrev Routed : Step → Type 0
    Routed next = CancelRouted script v next rest owes b

    at-body : place_of d name ≡ Some (At 1) → (o : Option Body) → get_named (node_of w 1).deeds name ≡ o
        → Routed (withdraw_by script s name it (withdraw_in it.pid it.ticket o))
    at-body place None e = not-found place (λ body is. absurd (not_some body (sym e ∙ is)))
    at-body place (Some body) e = by (has_waiter body it.pid it.ticket) refl
      where
        by : (t : Bool) → has_waiter body it.pid it.ticket ≡ t
            → Routed (withdraw_by script s name it
            (if t then Leaves (body_without it.pid it.ticket body) else NotThere))
        by true there = interrupts body e there
        by false away =
            not-found place
            (λ other is. ap (λ z. has_waiter z it.pid it.ticket) (from_some other body (sym is ∙ e)) ∙ away)

    here : place_of d name ≡ Some (At 1) → Routed (route_cancel script s name it)
    here place =
        subst Routed
        (sym (by-place (Some (At 1)) place
        ∙ ap (λ t. if t then withdraw_here script s name it else cancel s 1 it)
        (eq-eqb 1 s.node.number (sym leader-number))
        ∙ ap (λ (m : Node). withdraw_by script s name it
        (withdraw_in it.pid it.ticket (get_named m.deeds name))) (sym leader-here)))
        (at-body place (get_named (node_of w 1).deeds name) refl)

    elsewhere : (h : ℕ) → h ≢ 1 → place_of d name ≡ Some (At h) → Routed (route_cancel script s name it)
    elsewhere h other place =
        subst Routed
        (sym (by-place (Some (At h)) place
        ∙ ap (λ t. if t then withdraw_here script s name it else cancel s h it)
        (ne_eqb h s.node.number (λ e. other (e ∙ leader-number)))))
        (to-owner h (low_owner h place) other place)

    some-same : (a c : ℕ) → Some a ≡ Some c → a ≡ c
    some-same a c h = cc

    by-maker : (o : Option ℕ) → maker d name ≡ o → place_of d name ≡ None → (t : Bool) → maker_stays d o ≡ t
        → Routed (cancel_by script s name it (route_by None t o))
    by-maker None makes place true stay =
        nobodys (record { place = place; makes = λ node e there. absurd (not_some node (sym makes ∙ e)) })
    by-maker None makes place false stay =
        nobodys (record { place = place; makes = λ node e there. absurd (not_some node (sym makes ∙ e)) })
    by-maker (Some h) makes place false stay =
        nobodys
        (record {
          place = place;
          makes = λ node e there. absurd (false≢true (sym stay
              ∙ ap (stays d) (some-same h node (sym makes ∙ e)) ∙ there));
        })
    by-maker (Some h) makes place true stay =
        elim (cases_eq h 1) [
          | inl e ↦
              subst (λ t. Routed (cancel_by script s name it (if true && not t then routes.Range h else routes.Nobody)))
              (sym (eq-eqb h 1 e))
              (nobodys
              (record { place = place; makes = λ node is there. some-same node h (sym is ∙ makes) ∙ e }))
          | inr other ↦
              subst (λ t. Routed (cancel_by script s name it (if true && not t then routes.Range h else routes.Nobody)))
              (sym (ne_eqb h 1 other)) (to-maker h other place makes)
        ]

    -- All holds once it has been routed.
    pub cancel-routed : CancelRouted script v (route_cancel script s name it) rest owes b
    cancel-routed = by (place_of d name) refl
      where
        by : (o : Option Place) → place_of (directory_of (world_after v 1 s)) name ≡ o
            → CancelRouted script v (route_cancel script s name it) rest owes b
        by (Some (At h)) place =
            elim (cases_eq h 1) [
              | inl e ↦ here (place ∙ ap (λ z. Some (At z)) e)
              | inr other ↦ elsewhere h other place
            ]
        by (Some (Coming to items)) place =
            subst Routed (sym (by-place (Some (Coming to items)) place)) (to-held to items place)
        by None place =
            subst Routed (sym (by-place None place))
            (by-maker (maker d name) refl place (maker_stays d (maker d name)) refl)

-- ---- in a step of the leader

calm-at : (p : ℕ) (strikes : Bool) → is_waking (owing_of p strikes) ≡ false
calm-at p true = refl
calm-at p false = refl

module _ (script : Script) (v : World) (s : Step) (it : Asked) (rest : List Held) (strikes : Bool) (b : Beside)
    (holds : HoldsOwing script (world_after v 1 s) (Request it ∷ rest) (owing_of 1 strikes) b)
    (at_nodes : KnowsNodes (directory_of (world_after v 1 s))) (low : 1 ≤ it.caller)
    (high : it.caller ≤ node_count script) (name : Name) (withdraws : withdrawn_from it.call ≡ Some name) where
  abbrev w0 : World
  w0 = world_after v 1 s

  abbrev at_hand : List Held
  at_hand = Request it ∷ rest

  calm-now : is_waking (owing_of 1 strikes) ≡ false
  calm-now = calm-at 1 strikes

  its-cancel : is_withdrawal it.call ≡ true
  its-cancel = ap is_some withdraws

  its-of : IsCancelOf (cancel_sight w0 at_hand b it.caller) it
  its-of = is-of-caller script w0 it rest (owing_of 1 strikes) b holds calm-now low high its-cancel

  its-object : is_object name ≡ true
  its-object = ap is_object (some-name name its-of.name (sym withdraws ∙ its-of.withdraws)) ∙ its-of.object

  one-node : 1 ≤ node_count script
  one-node = omega (arith, low, high)

  leader-holds-all : NodeHolds script b.pids (is_born_in w0) 1 (node_of w0 1)
  leader-holds-all = holds.nodes 1 (omega arith) one-node

  leader-there : node_of w0 1 ≡ s.node
  leader-there = node-at script v 1 s holds.shape (omega arith) one-node

  nothing-changes : Changes script 1 w0 w0 (node_of w0 1) [] [] []
  nothing-changes =
      subst (λ (m : Node). Changes script 1 w0 w0 m [] [] []) (sym leader-there)
      (changes-further script v 1 s s [] [] holds.shape (omega arith) one-node tt
      (record { sends_are = sym (append-nil s.sends); entries_are = sym (append-nil s.entries) }))

  at-work : IsAtWork script w0 1
  at-work =
      record {
        low = omega arith;
        high = one-node;
        born = (leader-stage script b.pids (is_born_in w0) 1 (node_of w0 1) refl leader-holds-all).0;
      }

  module _ (body : Body) (held : get_named (node_of w0 1).deeds name ≡ Some body)
      (found : has_waiter body it.pid it.ticket ≡ true) where
    its-deed : IsHeldAt (b.deed name) (b.body name) 1 body
    its-deed =
        let known : NameHolds script b.pids (is_born_in w0) name (name_sight script w0 at_hand b name) = holds.names
        name
        in held-there (b.deed name) (b.body name) 1 body (sym (known.tables 1) ∙ held)

    found-there : has_waiter (b.body name) it.pid it.ticket ≡ true
    found-there = ap (λ z. has_waiter z it.pid it.ticket) (sym its-deed.body_is) ∙ found

    t : TakesOut script w0 b name it
    t =
        takes-out script w0 at_hand b holds it low high its-of.process its-of.low its-of.high name its-object
        found-there

    k : IsCleared script w0 at_hand strikes w0 1 rest strikes b it.caller
    k =
        cleared-in-hand script w0 it rest strikes b holds calm-now low high its-cancel nothing-changes name t

    broken : IsBroken script w0
        (world_after v 1 (interrupted script s name it (body_without it.pid it.ticket (b.body name)))) rest
        (cleared b it.caller) 1 it.caller it.call name
    broken =
        waiter-broken script v 1 s it rest (cleared b it.caller) k.holds at-work name low high its-of.process its-of.low
        its-of.high its-object its-deed.deed_is found-there

    ends : WaitEnds script v 1 (interrupted script s name it (body_without it.pid it.ticket (b.body name))) rest strikes
        b
    ends =
        broken-off script w0 at_hand strikes v 1 s
        (interrupted script s name it (body_without it.pid it.ticket (b.body name))) rest strikes b it.caller it.call
        name k broken low high withdraws

    ends-there : CancelRouted script v (interrupted script s name it (body_without it.pid it.ticket body)) rest
        (owing_of 1 strikes) b
    ends-there =
        subst (λ z. CancelRouted script v (interrupted script s name it (body_without it.pid it.ticket z)) rest
        (owing_of 1 strikes) b) (sym its-deed.body_is)
        (record { beside = ends.beside; holds = ends.holds; calls = ends.calls })

  -- The withdrawal has a route, and all holds once it has gone on, or has ended its call, whatever is owed then.
  pub cancel-routed-owing : CancelRouted script v (route_cancel script s name it) rest (owing_of 1 strikes) b
  cancel-routed-owing =
      cancel-routed script v s it rest (owing_of 1 strikes) b holds calm-now low high name withdraws
      (λ node place. at_nodes name node place) ends-there

-- So it is with what the step owes.
pub cancel-has-route : (script : Script) (v : World) (s : Step) (it : Asked) (rest : List Held) (b : Beside)
    → HoldsAt script v 1 s (Request it ∷ rest) b → KnowsNodes (directory_of (world_after v 1 s)) → 1 ≤ it.caller
    → it.caller ≤ node_count script → (name : Name) → withdrawn_from it.call ≡ Some name
    → CancelRouted script v (route_cancel script s name it) rest (owing_of 1 s.strikes) b
cancel-has-route script v s it rest b holds at_nodes low high name withdraws =
    cancel-routed-owing script v s it rest s.strikes b holds at_nodes low high name withdraws
