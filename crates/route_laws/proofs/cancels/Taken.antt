-- The Cancel rule: the leader sends a withdrawal on, or ends its call, and any other node takes out the call that waits
-- there, or drops an old one.
use Rattle.std.proofs.Common.{◌≡◌, ◌≢◌, ℕ, ◌≤◌, Bool, true, false, ◌&&◌, not, if◌then◌else◌, nat_eq, nat_le, List, [], ◌∷◌, ◌++◌, flat_map, Option, Some, None, is_some, option_map, Contains, refl, ap, sym, subst, ◌∙◌, inl, inr, arith}
use Rattle.std.specs.Option.{option_map_or}
use Rattle.std.proofs.lemmas.Bool.{cases_eq, eq-eqb, false≢true, le-leb, ne_eqb}
use Rattle.pico_base.specs.declared.call.Call.{Call}
use Rattle.pico_base.specs.declared.numbers.Name.{Name}
use Rattle.pico_base.specs.declared.reply.Errno.TheVariants.{Eintr}
use Rattle.pico_base.specs.declared.reply.Reply.{Reply}
use Rattle.pico_base.specs.declared.reply.Reply.TheVariants as replies
use Rattle.pico_base.specs.declared.script.Script.{Script}
use Rattle.rpc_frame.specs.declared.asked.Asked.{Asked}
use Rattle.rpc_frame.specs.declared.frame.Frame.{Frame}
use Rattle.rpc_frame.specs.declared.frame.Frame.TheVariants as frames
use Rattle.kernel_laws.proofs.Members.{contains-first}
use Rattle.entry_laws.specs.Entering.{is_used_name}
use Rattle.waiting_model.specs.Calls.{is_withdrawal, waits_at, withdrawn_from}
use Rattle.node_model.specs.declared.held.Held.TheVariants.{Request}
use Rattle.node_model.specs.declared.route.Route.{Route}
use Rattle.node_model.specs.declared.route.Route.TheVariants as routes
use Rattle.node_model.specs.Bodies.{Body}
use Rattle.node_model.specs.Directory.{maker, route}
use Rattle.node_model.specs.Kinds.{get_named, is_object, is_same_name, put_named}
use Rattle.node_model.specs.Leases.{leases_hold}
use Rattle.node_model.specs.Serving.{Leaves, NotHeld, NotThere, Withdrawn, body_without, has_waiter, withdraw, withdraw_in}
use Rattle.world_model.specs.Node.{Leaving, Left, Living, Node, Over, Stage, Unborn, is_born, is_leader, is_node, is_unborn, under_way_as}
use Rattle.world_model.specs.Routes.{cancel, cancel_by, route_cancel}
use Rattle.world_model.specs.Serving.{interrupted, withdraw_by, withdraw_here}
use Rattle.world_model.specs.Step.{Step, carry_out, enter, reply_here, send, step_to, with_deeds}
use Rattle.world_model.specs.Strikes.{cancelled, cancelled_at, take_cancel}
use Rattle.world_model.specs.World.{World, node_count, world_after}
use Rattle.world_laws.specs.Places.{Beside, SentTo}
use Rattle.world_laws.specs.Sights.{directory_of, frames_to, is_born_in, is_born_stage, node_of}
use Rattle.world_laws.specs.Cancels.{CancelHolds, IsCancelOf, Nothing, cancel_sight, owing_of}
use Rattle.world_laws.specs.Families.{NodeHolds}
use Rattle.world_laws.specs.Invariant.{Holds, HoldsOwing, MayBe}
use Rattle.world_laws.specs.Names.{IsSentThere, NameHolds, PlaysTo, held_at, leases_first, name_sight, range_steps_if, range_steps_of}
use Rattle.world_laws.specs.Plays.{IsNeeded, is_cancel_on, play, plays, steps_if}
use Rattle.world_laws.proofs.Cancels.{may_be_withdrawn}
use Rattle.world_laws.proofs.Changes.{Changes, read-same}
use Rattle.world_laws.proofs.Heads.{head-from-another, head-is, head-may-be}
use Rattle.world_laws.proofs.Named.{same-name}
use Rattle.world_laws.proofs.NameFacts.{IsHeldAt, held-there, play-needs}
use Rattle.world_laws.proofs.Steps.{Heads, changes-by-take, world_without}
use Rattle.rule_laws.proofs.Nodes.{leader-stage}
use Rattle.rule_laws.proofs.ends.Directories.{KnowsNodes}
use Rattle.rule_laws.proofs.own.Moved.{AreStill, is_still}
use Rattle.route_laws.proofs.Owed.{RuleKeeps}
use Rattle.route_laws.proofs.cancels.BrokenWhole.{IsBroken, IsCleared, WaitEnds, broken-off, cleared}
use Rattle.route_laws.proofs.cancels.Brought.{brought, first-of-caller}
use Rattle.route_laws.proofs.cancels.Cleared.{cleared-taken}
use Rattle.route_laws.proofs.cancels.Current.{IsCurrent}
use Rattle.route_laws.proofs.cancels.Deeds.{begins-held}
use Rattle.route_laws.proofs.cancels.Dropped.{cancel-dropped}
use Rattle.route_laws.proofs.cancels.InHand.{current-name}
use Rattle.route_laws.proofs.cancels.Interrupted.{waiter-broken}
use Rattle.route_laws.proofs.cancels.Missing.{node-holds, waits-at-node}
use Rattle.route_laws.proofs.cancels.Routed.{CancelRouted, cancel-routed-owing}
use Rattle.route_laws.proofs.cancels.Travels.{HoldsStill}
use Rattle.route_laws.proofs.cancels.Waiter.{TakesOut, takes-out}
use Rattle.route_laws.proofs.sent.Needed.{has_no_lease, none-leased-behind}
use Rattle.route_laws.proofs.sent.Unleased.{given-used}
use Rattle.route_laws.proofs.served.Replies.{IsAtWork}

-- The rule has a step that keeps all, and each call is where it was, or has its reply.
abbrev pub CancelIsTaken : Script → World → ℕ → ℕ → Asked → List Frame → Beside → Type 0
CancelIsTaken script w p q asked rest b = RuleKeeps script w p q (frames.Cancel asked) rest (AreStill b.call)

-- ---- what is owed stays

abbrev StrikesStay : Step → Step → Type 0
StrikesStay s t = t.strikes ≡ s.strikes

replied-stays : (script : Script) (s : Step) (asked : Asked) (reply : Reply)
    → StrikesStay s (carry_out script s asked reply)
replied-stays script s asked reply = by-test (nat_eq asked.caller s.node.number)
  where
    entered : Step
    entered = enter s asked.pid asked.call reply

    by-call : (o : Option Call) → StrikesStay s (reply_here script entered reply o)
    by-call None = refl
    by-call (Some call) = refl

    by-test : (t : Bool) → StrikesStay s (if t
        then reply_here script entered reply (under_way_as entered.node asked.ticket)
        else send entered asked.caller (frames.Answer asked.ticket reply))
    by-test true = by-call (under_way_as entered.node asked.ticket)
    by-test false = refl

interrupted-stays : (script : Script) (s : Step) (name : Name) (asked : Asked) (body : Body)
    → StrikesStay s (interrupted script s name asked body)
interrupted-stays script s name asked body =
    replied-stays script (with_deeds s (put_named s.node.deeds name body)) asked (replies.Fail Eintr)

-- A withdrawal that is routed, or ends its call, strikes nobody.
pub cancel-keeps-strikes : (script : Script) (s : Step) (name : Name) (asked : Asked)
    → (let t : Step = route_cancel script s name asked in t.strikes) ≡ s.strikes
cancel-keeps-strikes script s name asked = by-route (route s.node.leader.directory name)
  where
    by-withdrawn : (x : Withdrawn) → StrikesStay s (withdraw_by script s name asked x)
    by-withdrawn (Leaves body) = interrupted-stays script s name asked body
    by-withdrawn NotThere = refl
    by-withdrawn NotHeld = refl

    at-node : (node : ℕ) (t : Bool)
        → StrikesStay s (if t then withdraw_here script s name asked else cancel s node asked)
    at-node node true = by-withdrawn (withdraw s.node.deeds name asked.pid asked.ticket)
    at-node node false = refl

    by-route : (r : Route) → StrikesStay s (cancel_by script s name asked r)
    by-route (routes.At node) = at-node node (nat_eq node s.node.number)
    by-route routes.Coming = refl
    by-route (routes.Range node) = refl
    by-route routes.Nobody = refl

both : (a c : Bool) → a ≡ true → c ≡ true → (a && c) ≡ true
both a c e g = rw (e, g) refl

-- ---- the frame

module _ (script : Script) (w : World) (b : Beside) (holds : Holds script w [] b) (p q : ℕ) (asked : Asked)
    (rest : List Frame) (h : Heads script w p q (frames.Cancel asked) rest) (low : 1 ≤ asked.caller)
    (high : asked.caller ≤ node_count script) where
  abbrev n : Node
  n = node_of w p

  abbrev v : World
  v = world_without w p q rest

  front : frames_to w p q ≡ frames.Cancel asked ∷ rest
  front = head-is script w p q (frames.Cancel asked) rest h

  said : CancelHolds asked.caller Nothing (cancel_sight w [] b asked.caller)
  said = holds.cancels asked.caller low high

  of : IsCancelOf (cancel_sight w [] b asked.caller) asked
  of = first-of-caller w b [] asked.caller Nothing p q asked rest refl said front

  abbrev name : Name
  name = of.name

  is-cancel : is_withdrawal asked.call ≡ true
  is-cancel = ap is_some of.withdraws

  node-fits : NodeHolds script b.pids (is_born_in w) p n
  node-fits = holds.nodes p h.low h.high

  apart : q ≢ p
  apart = head-from-another script w p q (frames.Cancel asked) rest h (is_born_in w) holds.frames_fit

  may-be : MayBe script (is_born_in w) p q (frames.Cancel asked)
  may-be = head-may-be script w p q (frames.Cancel asked) rest h (is_born_in w) holds.frames_fit

  a-node : is_node script asked.caller ≡ true
  a-node =
      both (nat_le 1 asked.caller) (nat_le asked.caller (node_count script)) (le-leb 1 asked.caller low)
      (le-leb asked.caller (node_count script) high)

  -- the rule of a born node
  rule : is_born n ≡ true → (at : Name) → withdrawn_from asked.call ≡ Some at
      → take_cancel script n asked ≡ Some (cancelled script n asked at)
  rule born at withdraws =
      ap (λ t. if t then option_map (cancelled script n asked) (withdrawn_from asked.call) else None)
      (both (is_born n) (is_node script asked.caller) born a-node)
      ∙ ap (option_map (cancelled script n asked)) withdraws

  abbrev begun : World
  begun = world_after v p (step_to n)

  changes : Changes script p w begun n ((q, frames.Cancel asked) ∷ []) [] []
  changes = changes-by-take script w holds.shape p q (frames.Cancel asked) rest (step_to n) h tt

  -- another node than the leader takes it from the leader
  pub cancel-from : p ≢ 1 → (q ≡ 1) × (is_born_in w p ≡ true)
  cancel-from other = elim may-be [ inl e ↦ absurd (other e.0) | inr e ↦ e ]

  -- and the leader from its caller's node
  of-sender : p ≡ 1 → asked.caller ≡ q
  of-sender first = elim may-be [ inl e ↦ e.1 | inr e ↦ absurd (apart (e.0 ∙ sym first)) ]

  born-by : is_born_in w p ≡ true → is_born n ≡ true
  born-by born = by n.stage born
    where
      by : (stage : Stage) → is_born_stage stage ≡ true → not (is_unborn stage) ≡ true
      by Unborn e = e
      by Living e = refl
      by Leaving e = refl
      by Left e = refl
      by Over e = refl

-- ---- away from the leader

module _ (script : Script) (w : World) (b : Beside) (holds : Holds script w [] b) (p : ℕ) (asked : Asked)
    (rest : List Frame) (h : Heads script w p 1 (frames.Cancel asked) rest) (low : 1 ≤ asked.caller)
    (high : asked.caller ≤ node_count script) (other : p ≢ 1) where
  abbrev m : Node
  m = node_of w p

  abbrev u : World
  u = world_without w p 1 rest

  abbrev w1 : World
  w1 = world_after u p (step_to m)

  head : frames_to w p 1 ≡ frames.Cancel asked ∷ rest
  head = front script w b holds p 1 asked rest h low high

  pub its-of : IsCancelOf (cancel_sight w [] b asked.caller) asked
  its-of = of script w b holds p 1 asked rest h low high

  abbrev its_name : Name
  its_name = its-of.name

  its-cancel : is_withdrawal asked.call ≡ true
  its-cancel = is-cancel script w b holds p 1 asked rest h low high

  nothing-done : Changes script p w w1 m ((1, frames.Cancel asked) ∷ []) [] []
  nothing-done = changes script w b holds p 1 asked rest h low high

  two : 2 ≤ p
  two = let one = h.low in omega (arith, one, other)

  is-born : is_born_in w p ≡ true
  is-born = (cancel-from script w b holds p 1 asked rest h low high other).1

  known : NameHolds script b.pids (is_born_in w) its_name (name_sight script w [] b its_name)
  known = holds.names its_name

  -- ---- an old one is dropped

  -- where the node doesn't hold the deed, or nobody waits there as it says, no call that waits is its own
  abbrev IsEarlier : Type 0
  IsEarlier =
      (call : Call) → (node_of w asked.caller).caller.under_way ≡ Some call
      → may_be_withdrawn (node_of w asked.caller).pid call ≡ true
      → IsCurrent asked.caller (cancel_sight w [] b asked.caller) call asked (SentTo p) → ⊥

  module _ (call : Call) (under_way : (node_of w asked.caller).caller.under_way ≡ Some call)
      (may : may_be_withdrawn (node_of w asked.caller).pid call ≡ true)
      (cur : IsCurrent asked.caller (cancel_sight w [] b asked.caller) call asked (SentTo p)) where
    at-name : waits_at (node_of w asked.caller).pid call ≡ its_name
    at-name =
        current-name asked.caller (cancel_sight w [] b asked.caller) call asked (SentTo p) its_name cur its-of.withdraws

    withdraws-there : withdrawn_from asked.call ≡ Some (waits_at (node_of w asked.caller).pid call)
    withdraws-there = its-of.withdraws ∙ ap Some (sym at-name)

    current-held : get_named m.deeds its_name ≡ Some (b.body its_name)
    current-held =
        subst (λ x. held_at w x p ≡ Some (b.body x)) at-name
        (node-holds script w [] Nothing b holds asked.caller low high call under_way may p two asked rest head
        withdraws-there cur)

    current-waits : has_waiter (b.body its_name) asked.pid asked.ticket ≡ true
    current-waits =
        ap (λ (a : Asked). has_waiter (b.body its_name) a.pid a.ticket) cur.is
        ∙ subst (λ x. has_waiter (b.body x) (node_of w asked.caller).pid (node_of w asked.caller).caller.ticket ≡ true)
        at-name
        (waits-at-node script w [] Nothing b holds asked.caller low high call under_way may p two asked rest head
        withdraws-there cur)

  gone-holds : IsEarlier → HoldsStill script w1 [] Nothing b
  gone-holds earlier = cancel-dropped script w w1 b holds p asked rest h low high its-cancel nothing-done earlier

  step-of : (t : Step) → cancelled_at script m its_name asked (withdraw m.deeds its_name asked.pid asked.ticket) ≡ t
      → take_cancel script m asked ≡ Some t
  step-of t is =
      rule script w b holds p 1 asked rest h low high (born-by script w b holds p 1 asked rest h low high is-born)
      its_name its-of.withdraws
      ∙ ap (λ leads. Some (if leads then route_cancel script (step_to m) its_name asked
      else cancelled_at script m its_name asked (withdraw m.deeds its_name asked.pid asked.ticket)))
      (ne_eqb m.number 1 (λ e. other (sym (holds.nodes p h.low h.high).number ∙ e)))
      ∙ ap Some is

  taken-as : (t : Step) → cancelled_at script m its_name asked (withdraw m.deeds its_name asked.pid asked.ticket) ≡ t
      → t.strikes ≡ false → WaitEnds script u p t [] false b → CancelIsTaken script w p 1 asked rest b
  taken-as t is calm e =
      record {
        beside = e.beside;
        keeps = record {
          step = t;
          is_step = step-of t is;
          holds = subst (λ z. HoldsOwing script (world_after u p t) [] (owing_of p z) e.beside) (sym calm) e.holds;
        };
        after = e.calls;
      }

  old-taken : cancelled_at script m its_name asked (withdraw m.deeds its_name asked.pid asked.ticket) ≡ step_to m
      → IsEarlier → CancelIsTaken script w p 1 asked rest b
  old-taken is earlier =
      let gone : HoldsStill script w1 [] Nothing b = gone-holds earlier
      in taken-as (step_to m) is refl
      (record { beside = record b { cancel = gone.cancels }; holds = gone.holds; calls = λ y. is_still refl })

  -- ---- the number is still to be given out here

  steps-in-front : is_used_name b.kernel its_name ≡ true
      → plays true b.call its_name (frames_to w p 1) ≡ IsNeeded ∷ plays true b.call its_name rest
  steps-in-front used =
      ap (plays true b.call its_name) head
      ∙ ap (λ t. steps_if t IsNeeded ++ plays true b.call its_name rest) on-it
    where
      on-it : is_cancel_on its_name asked ≡ true
      on-it =
          both (is_object its_name) (option_map_or (is_same_name its_name) (withdrawn_from asked.call) false)
          its-of.object
          (ap (λ o. option_map_or (is_same_name its_name) o false) its-of.withdraws ∙ same-name its_name its_name refl)

  -- where the name is used the deed is here
  used-held : is_used_name b.kernel its_name ≡ true → is_some (get_named m.deeds its_name) ≡ true
  used-held used =
      let old : PlaysTo _ _ _ = known.plays p two
      in begins-held script w [] b its_name known its-of.object p
      (play-needs _ old.last (plays true b.call its_name rest)
      (ap (play _) (sym (ap (λ t. plays t b.call its_name (frames_to w p 1)) used ∙ steps-in-front used))
      ∙ old.plays)).0

  ranges-in-front : is_used_name b.kernel its_name ≡ false
      → flat_map (range_steps_of (is_used_name b.kernel its_name) b.call its_name) (frames_to w p 1)
      ≡ IsSentThere ∷ flat_map (range_steps_of (is_used_name b.kernel its_name) b.call its_name) rest
  ranges-in-front unused =
      ap (flat_map (range_steps_of (is_used_name b.kernel its_name) b.call its_name)) head
      ∙ ap (λ t. range_steps_if t IsSentThere
      ++ flat_map (range_steps_of (is_used_name b.kernel its_name) b.call its_name) rest)
      (both (not (is_used_name b.kernel its_name)) (is_cancel_on its_name asked) (ap not unused) on-it)
    where
      on-it : is_cancel_on its_name asked ≡ true
      on-it =
          both (is_object its_name) (option_map_or (is_same_name its_name) (withdrawn_from asked.call) false)
          its-of.object
          (ap (λ o. option_map_or (is_same_name its_name) o false) its-of.withdraws ∙ same-name its_name its_name refl)

  -- Where the node doesn't hold the deed, the number is still to be given out here.
  pub lacking-is-leased : get_named m.deeds its_name ≡ None → leases_hold m.leases its_name ≡ true
  lacking-is-leased none = by (leases_hold m.leases its_name) refl
    where
      unused : is_used_name b.kernel its_name ≡ false
      unused = by (is_used_name b.kernel its_name) refl
        where
          by : (t : Bool) → is_used_name b.kernel its_name ≡ t → is_used_name b.kernel its_name ≡ false
          by false is = is
          by true is = absurd (false≢true (sym (ap is_some none) ∙ used-held is))

      made : maker (directory_of w) its_name ≡ Some p
      made =
          known.ranged p
          (subst (λ rs. Contains rs IsSentThere) (sym (ranges-in-front unused)) (contains-first IsSentThere _))

      no-lease : has_no_lease
          (flat_map (range_steps_of (is_used_name b.kernel its_name) b.call its_name) (frames_to w p 1)) ≡ true
      no-lease =
          ap has_no_lease (ranges-in-front unused)
          ∙ none-leased-behind (flat_map (range_steps_of (is_used_name b.kernel its_name) b.call its_name) rest)
          (subst (λ rs. leases_first rs ≡ true) (ranges-in-front unused) (known.leased p two))

      by : (t : Bool) → leases_hold m.leases its_name ≡ t → leases_hold m.leases its_name ≡ true
      by true is = is
      by false is =
          absurd (false≢true
          (sym unused ∙ given-used script w [] b holds p its_name made is no-lease))

  -- ---- one that waits here

  module _ (body : Body) (held : get_named m.deeds its_name ≡ Some body)
      (found : has_waiter body asked.pid asked.ticket ≡ true) where
    its-deed : IsHeldAt (b.deed its_name) (b.body its_name) p body
    its-deed = held-there (b.deed its_name) (b.body its_name) p body (sym (known.tables p) ∙ held)

    found-there : has_waiter (b.body its_name) asked.pid asked.ticket ≡ true
    found-there = ap (λ z. has_waiter z asked.pid asked.ticket) (sym its-deed.body_is) ∙ found

    t : TakesOut script w b its_name asked
    t =
        takes-out script w [] b holds asked low high its-of.process its-of.low its-of.high its_name its-of.object
        found-there

    k : IsCleared script w [] false w1 p [] false b asked.caller
    k = cleared-taken script w w1 b holds p asked rest h low high its-cancel nothing-done other its_name t

    at-work : IsAtWork script w1 p
    at-work =
        record {
          low = h.low;
          high = h.high;
          born = ap (λ (z : Node). is_born_stage z.stage) nothing-done.here ∙ is-born;
        }

    read : {A : Type 0} (f : Node → A) → f (node_of w1 asked.caller) ≡ f (node_of w asked.caller)
    read f = read-same script p w w1 m ((1, frames.Cancel asked) ∷ []) [] [] nothing-done f refl asked.caller

    abbrev ends_by : Body → Step
    ends_by z = interrupted script (step_to m) its_name asked (body_without asked.pid asked.ticket z)

    broken : IsBroken script w1 (world_after u p (ends_by (b.body its_name))) [] (cleared b asked.caller) p asked.caller
        asked.call its_name
    broken =
        waiter-broken script u p (step_to m) asked [] (cleared b asked.caller) k.holds at-work its_name low high
        (its-of.process ∙ sym (read (λ (z : Node). z.pid))) its-of.low
        (let few = its-of.high in let same = read (λ (z : Node). z.caller.ticket) in omega (arith, few, same))
        its-of.object its-deed.deed_is found-there

    ends : WaitEnds script u p (ends_by body) [] false b
    ends =
        subst (λ z. WaitEnds script u p (ends_by z) [] false b) (sym its-deed.body_is)
        (broken-off script w [] false u p (step_to m) (ends_by (b.body its_name)) [] false b asked.caller asked.call
        its_name k broken low high its-of.withdraws)

    one-taken : CancelIsTaken script w p 1 asked rest b
    one-taken =
        taken-as (ends_by body)
        (ap (λ o. cancelled_at script m its_name asked (withdraw_in asked.pid asked.ticket o)) held
        ∙ ap (λ z. cancelled_at script m its_name asked (if z
        then Leaves (body_without asked.pid asked.ticket body) else NotThere)) found)
        (interrupted-stays script (step_to m) its_name asked (body_without asked.pid asked.ticket body)) ends

  -- ---- the rule

  -- It keeps all.
  node-takes-cancel : CancelIsTaken script w p 1 asked rest b
  node-takes-cancel = by-body (get_named m.deeds its_name) refl
    where
      none-some : {A : Type 0} (a : A) → None ≡ Some a → ⊥
      none-some a e = cc

      some-same : {A : Type 0} {a c : A} → Some a ≡ Some c → a ≡ c
      some-same e = cc

      by-body : (o : Option Body) → get_named m.deeds its_name ≡ o → CancelIsTaken script w p 1 asked rest b
      by-body None none =
          old-taken
          (ap (λ o. cancelled_at script m its_name asked (withdraw_in asked.pid asked.ticket o)) none
          ∙ ap (λ z. if z then step_to m else cancel (step_to m) 1 asked) (lacking-is-leased none))
          (λ call under_way may cur. none-some (b.body its_name)
          (sym none ∙ current-held call under_way may cur))
      by-body (Some body) held = by (has_waiter body asked.pid asked.ticket) refl
        where
          by : (z : Bool) → has_waiter body asked.pid asked.ticket ≡ z → CancelIsTaken script w p 1 asked rest b
          by true found = one-taken body held found
          by false away =
              old-taken
              (ap (λ o. cancelled_at script m its_name asked (withdraw_in asked.pid asked.ticket o)) held
              ∙ ap (λ z. cancelled_at script m its_name asked (if z
              then Leaves (body_without asked.pid asked.ticket body) else NotThere)) away)
              (λ call under_way may cur. false≢true
              (sym away
              ∙ ap (λ z. has_waiter z asked.pid asked.ticket)
              (some-same (sym held ∙ current-held call under_way may cur)) ∙ current-waits call under_way may cur))

-- ---- at the leader

module _ (script : Script) (w : World) (b : Beside) (holds : Holds script w [] b) (q : ℕ) (asked : Asked)
    (rest : List Frame) (h : Heads script w 1 q (frames.Cancel asked) rest) (low : 1 ≤ asked.caller)
    (high : asked.caller ≤ node_count script) (at_nodes : KnowsNodes (directory_of w)) where
  abbrev first : Node
  first = node_of w 1

  abbrev u1 : World
  u1 = world_without w 1 q rest

  abbrev begun_first : World
  begun_first = world_after u1 1 (step_to first)

  of-it : IsCancelOf (cancel_sight w [] b asked.caller) asked
  of-it = of script w b holds 1 q asked rest h low high

  same-nodes : Changes script 1 w begun_first first ((q, frames.Cancel asked) ∷ []) [] []
  same-nodes = changes script w b holds 1 q asked rest h low high

  in-hand : HoldsStill script begun_first (Request asked ∷ []) Nothing b
  in-hand =
      brought script w begun_first b holds q asked rest h (of-sender script w b holds 1 q asked rest h low high refl)
      (is-cancel script w b holds 1 q asked rest h low high) same-nodes

  abbrev routed_step : Step
  routed_step = route_cancel script (step_to first) of-it.name asked

  routed : CancelRouted script u1 routed_step [] Nothing (record b { cancel = in-hand.cancels })
  routed =
      cancel-routed-owing script u1 (step_to first) asked [] false (record b { cancel = in-hand.cancels }) in-hand.holds
      (subst KnowsNodes
      (sym (read-same script 1 w begun_first first ((q, frames.Cancel asked) ∷ []) [] [] same-nodes
      (λ (z : Node). z.leader.directory) refl 1)) at_nodes) low high of-it.name of-it.withdraws

  first-fits : NodeHolds script b.pids (is_born_in w) 1 first
  first-fits = holds.nodes 1 h.low h.high

  leads : is_leader first ≡ true
  leads = eq-eqb first.number 1 first-fits.number

  -- It routes it, and all holds.
  leader-takes-cancel : CancelIsTaken script w 1 q asked rest b
  leader-takes-cancel =
      record {
        beside = routed.beside;
        keeps = record {
          step = routed_step;
          is_step = rule script w b holds 1 q asked rest h low high
              (born-by script w b holds 1 q asked rest h low high
              (leader-stage script b.pids (is_born_in w) 1 first refl first-fits).0) of-it.name of-it.withdraws
              ∙ ap (λ z. Some (if z then routed_step else cancelled_at script first of-it.name asked
              (withdraw first.deeds of-it.name asked.pid asked.ticket))) leads;
          holds = subst (λ z. HoldsOwing script (world_after u1 1 routed_step) [] (owing_of 1 z) routed.beside)
              (sym (cancel-keeps-strikes script (step_to first) of-it.name asked)) routed.holds;
        };
        after = routed.calls;
      }

-- ---- at any node

module _ (script : Script) (w : World) (b : Beside) (holds : Holds script w [] b) (p q : ℕ) (asked : Asked)
    (rest : List Frame) (h : Heads script w p q (frames.Cancel asked) rest) (low : 1 ≤ asked.caller)
    (high : asked.caller ≤ node_count script) where
  -- Each node takes a withdrawal, and all holds.
  pub cancel-taken : KnowsNodes (directory_of w) → RuleKeeps script w p q (frames.Cancel asked) rest (AreStill b.call)
  cancel-taken at_nodes =
      elim (cases_eq p 1) [
        | inl first ↦
            subst (λ x. Heads script w x q (frames.Cancel asked) rest → CancelIsTaken script w x q asked rest b)
            (sym first) (λ g. leader-takes-cancel script w b holds q asked rest g low high at_nodes) h
        | inr other ↦
            subst (λ y. Heads script w p y (frames.Cancel asked) rest → CancelIsTaken script w p y asked rest b)
            (sym (cancel-from script w b holds p q asked rest h low high other).0)
            (λ g. node-takes-cancel script w b holds p asked rest g low high other) h
      ]

  some-name : (a c : Name) → Some a ≡ Some c → a ≡ c
  some-name a c e = cc

  not-held : (o : Option Body) → withdraw_in asked.pid asked.ticket o ≡ NotHeld → o ≡ None
  not-held None e = refl
  not-held (Some body) e = by (has_waiter body asked.pid asked.ticket) e
    where
      leaves-not : (left : Body) → Leaves left ≡ NotHeld → ⊥
      leaves-not left e = cc

      there-not : NotThere ≡ NotHeld → ⊥
      there-not e = cc

      by : (t : Bool) → (if t then Leaves (body_without asked.pid asked.ticket body) else NotThere) ≡ NotHeld
          → Some body ≡ None
      by true e = absurd (leaves-not (body_without asked.pid asked.ticket body) e)
      by false e = absurd (there-not e)

  -- It never goes back: where another node than the leader doesn't hold the deed, the number is this node's to give.
  pub never-goes-back : (name : Name) → withdrawn_from asked.call ≡ Some name
      → (let n : Node = node_of w p in (is_leader n ≡ false)
      → withdraw n.deeds name asked.pid asked.ticket ≡ NotHeld → leases_hold n.leases name ≡ true)
  never-goes-back name withdraws follows lacks =
      subst (λ y. Heads script w p y (frames.Cancel asked) rest → leases_hold (node_of w p).leases name ≡ true)
      (sym (cancel-from script w b holds p q asked rest h low high other).0)
      (λ g.
      let is = some-name name (its-of script w b holds p asked rest g low high other).name
      (sym withdraws ∙ (its-of script w b holds p asked rest g low high other).withdraws)
      in ap (leases_hold (node_of w p).leases) is
      ∙ lacking-is-leased script w b holds p asked rest g low high other
      (ap (get_named (node_of w p).deeds) (sym is) ∙ not-held (get_named (node_of w p).deeds name) lacks)) h
    where
      other : p ≢ 1
      other first =
          false≢true
          (sym follows ∙ eq-eqb (node_of w p).number 1 ((holds.nodes p h.low h.high).number ∙ first))
