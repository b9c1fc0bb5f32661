-- The whole law: each event lowers the weight, where each call is afterwards where its rule leaves it.
use Rattle.std.proofs.Common.{◌≡◌, ◌≢◌, ◌⊎◌, ℕ, ◌≤◌, false, List, [], Some, sym, subst, inl, inr, arith}
use Rattle.std.specs.List.{AllByRecursion}
use Rattle.pico_base.specs.declared.call.Call.{Call}
use Rattle.pico_base.specs.declared.numbers.Kind.{Kind}
use Rattle.pico_base.specs.declared.numbers.Name.{Name}
use Rattle.pico_base.specs.declared.script.Script.{Script}
use Rattle.pico_base.specs.declared.script.Event.TheVariants as events
use Rattle.pico_base.specs.Home.{home_of}
use Rattle.rpc_frame.specs.declared.asked.Asked.{Asked}
use Rattle.rpc_frame.specs.declared.frame.Frame.{Frame}
use Rattle.rpc_frame.specs.declared.frame.Frame.TheVariants as frames
use Rattle.node_model.specs.Directory.{held_for}
use Rattle.world_model.specs.Node.{Node, asked_here}
use Rattle.world_model.specs.Step.{Step}
use Rattle.world_model.specs.Turn.{take_by_kind}
use Rattle.world_model.specs.World.{World, node_count}
use Rattle.waiting_model.specs.Calls.{is_withdrawal}
use Rattle.world_laws.specs.Invariant.{Holds}
use Rattle.world_laws.specs.Places.{Beside, CallPlace, HasLease, Idle, InAsk, InBounce, InNotOwner, SentByRange, call_in}
use Rattle.world_laws.specs.Sights.{directory_of, is_born_in, node_of}
use Rattle.world_laws.proofs.Steps.{Heads}
use Rattle.world_laws.proofs.Heads.{head-may-be}
use Rattle.route_laws.proofs.Owed.{IsServedPlace, nobody_reads}
use Rattle.rule_laws.proofs.own.Moved.{AfterRun, AreStill, IsMoved, IsNotServed}
use Rattle.weight_laws.specs.Weights.{Falls, call_weight}
use Rattle.weight_laws.proofs.CallFalls.{answer-falls, bounced-falls, forward-falls, lease-ask-falls, lease-falls, not-owner-falls, refused-falls, request-falls}
use Rattle.weight_laws.proofs.Cancels.{CancelStays, cancel-falls}
use Rattle.weight_laws.proofs.Costs.{RisesBesides}
use Rattle.weight_laws.proofs.Counts.{IsOfNode}
use Rattle.weight_laws.proofs.Ends.{exit-falls}
use Rattle.weight_laws.proofs.Events.{StrikesLightly, TakesLower, falls-woken, take-falls, takes-woken}
use Rattle.weight_laws.proofs.GiveBacks.{ReleaseIsLight, give-back-falls}
use Rattle.weight_laws.proofs.LeftFalls.{EndIsLight, left-falls}
use Rattle.weight_laws.proofs.NameFalls.{checkpoint-falls, grant-falls, leaving-falls, placed-falls, recall-all-falls, recall-falls, suggest-falls}
use Rattle.weight_laws.proofs.RouteFalls.{ask-falls, bounce-falls, first-not-owner-falls}
use Rattle.weight_laws.proofs.Routes.{place_limit}
use Rattle.weight_laws.proofs.RunFalls.{run-falls-alone, run-falls-to}
use Rattle.route_laws.proofs.hand.Asks.{NeverWithdraws}

-- ---- where calls are after an event

-- what the route of a call in the leader's hand allows
abbrev pub IsWhereRouted : World → Asked → CallPlace → Type 0
IsWhereRouted w asked place =
    call_weight place ≤ place_limit (nobody_reads (node_of w 1) asked) (directory_of w) (home_of asked.pid asked.call)

-- a call that a node asked the wrong owner for: the leader is asked, which routes its own
abbrev pub IsAskedAgain : World → ℕ → CallPlace → Type 0
IsAskedAgain w p place =
    ((p ≢ 1) × (place ≡ InAsk))
    ⊎ ((p ≡ 1) × ((call : Call) → (let n : Node = node_of w 1 in n.caller.under_way ≡ Some call)
    → IsWhereRouted w (asked_here (node_of w 1) call) place))

-- it is served, or refused where it can't be
abbrev pub IsServedOr : World → ℕ → Asked → CallPlace → CallPlace → ℕ → Type 0
IsServedOr w p asked back place most =
    (call_weight place ≤ most) ⊎ ((place ≡ back) × IsNotServed (node_of w p) (home_of asked.pid asked.call))

-- where a frame's rule may leave the calls
abbrev pub AfterFrame : (script : Script) (w : World) (b : Beside) → Holds script w [] b → (p q : ℕ)
    → List Frame → Frame → (ℕ → CallPlace) → Type 0
AfterFrame script w b holds p q rest (frames.Ask ticket pid call) after =
    IsMoved b.call after q (IsWhereRouted w (record { caller = q; ticket = ticket; pid = pid; call = call }))
AfterFrame script w b holds p q rest (frames.Request ticket pid call) after =
    IsMoved b.call after q (λ place. IsServedOr w p (record { caller = q; ticket = ticket; pid = pid; call = call })
    (InNotOwner p) place 7)
AfterFrame script w b holds p q rest (frames.Forward asked) after =
    IsMoved b.call after asked.caller (λ place. IsServedPlace (node_of w p) asked place
    ⊎ ((place ≡ InBounce p) × ((b.call asked.caller ≡ SentByRange p)
    × IsNotServed (node_of w p) (home_of asked.pid asked.call))))
AfterFrame script w b holds p q rest (frames.Bounce asked) after =
    IsMoved b.call after asked.caller (IsWhereRouted w asked)
AfterFrame script w b holds p q rest (frames.Answer ticket reply) after =
    IsMoved b.call after p (λ place. place ≡ Idle)
AfterFrame script w b holds p q rest (frames.NotOwner ticket) after = IsMoved b.call after p (IsAskedAgain w p)
AfterFrame script w b holds p q rest (frames.LeaseAsk kind) after =
    IsMoved b.call after q (λ place. (first : ℕ) × (place ≡ HasLease kind first))
AfterFrame script w b holds p q rest (frames.Lease kind first) after = IsMoved b.call after p (λ place. place ≡ Idle)
AfterFrame script w b holds p q rest (frames.GiveBack packed) after =
    (h : Heads script w 1 q (frames.GiveBack packed) rest)
    (of_nodes : AllByRecursion (IsOfNode script) (held_for (directory_of w) packed.name))
    → ReleaseIsLight script w b holds q packed rest h of_nodes after
AfterFrame script w b holds p q rest (frames.Left parcel) after =
    (h : Heads script w 1 q (frames.Left parcel) rest) → EndIsLight script w b holds q parcel rest h after
AfterFrame script w b holds p q rest (frames.Cancel asked) after = AreStill b.call after × CancelStays w p asked
AfterFrame script w b holds p q rest frame after = AreStill b.call after

-- the caller of a frame is a node of the script
abbrev pub CallerIsNode : Script → Frame → Type 0
CallerIsNode script (frames.Forward asked) = (1 ≤ asked.caller) × (asked.caller ≤ node_count script)
CallerIsNode script (frames.Bounce asked) = (1 ≤ asked.caller) × (asked.caller ≤ node_count script)
CallerIsNode script frame = Unit {0}

-- what is taken of the world besides the invariant
pub record IsInOrder (script : Script) (w : World) : Type 0 where
  pub rises : (p : ℕ) → 1 ≤ p → p ≤ node_count script → RisesBesides (node_of w p)
  pub held : (m : Name) → AllByRecursion (IsOfNode script) (held_for (directory_of w) m)
  pub never : NeverWithdraws script
  pub is_call : (p : ℕ) → 1 ≤ p → p ≤ node_count script → (call : Call)
      → (let n : Node = node_of w p in n.caller.under_way ≡ Some call)
      → is_withdrawal call ≡ false

-- ---- a call is started

-- A node starts a call.
pub each-run-falls : (script : Script) (w : World) (b : Beside) → Holds script w [] b → IsInOrder script w → (p : ℕ)
    → 1 ≤ p → p ≤ node_count script → (after : ℕ → CallPlace) → AfterRun b p after
    → Falls script w (events.Run p) b.call after
each-run-falls script w b holds order p low high after (inl still) =
    falls-woken script w (events.Run p) b.call b.call after still
    (run-falls-alone script w b holds p low high (order.rises p low high))
each-run-falls script w b holds order p low high after (inr moved) =
    falls-woken script w (events.Run p) b.call (call_in b.call p moved.place) after moved.calls
    (run-falls-to script w b holds p low high (order.rises p low high) moved.place)

-- ---- a frame is taken

module _ (script : Script) (w : World) (b : Beside) (holds : Holds script w [] b) (order : IsInOrder script w)
    (p q : ℕ) (rest : List Frame) (after : ℕ → CallPlace) where
  -- the rule of this frame lowers the weight, with calls in these places then
  abbrev To : Frame → (ℕ → CallPlace) → Type 0
  To frame call = TakesLower script w p q frame b.call call

  still : (frame : Frame) → AreStill b.call after → To frame b.call → To frame after
  still frame same lowers = takes-woken script w p q frame b.call b.call after same lowers

  moved : (frame : Frame) (c : ℕ) (P : CallPlace → Type 0) → IsMoved b.call after c P
      → ((place : CallPlace) → P place → To frame (call_in b.call c place)) → To frame after
  moved frame c P m lowers =
      takes-woken script w p q frame b.call (call_in b.call c m.place) after m.calls (lowers m.place m.fits)

  -- a frame that goes to the leader alone
  at-leader : (frame : Frame) → p ≡ 1 → Heads script w p q frame rest
      → (Heads script w 1 q frame rest → TakesLower script w 1 q frame b.call after) → To frame after
  at-leader frame e h lowers =
      subst (λ y. TakesLower script w y q frame b.call after) (sym e)
      (lowers (subst (λ y. Heads script w y q frame rest) e h))

  placed-at : (frame : Frame) (c : ℕ) (place other : CallPlace) → place ≡ other → To frame (call_in b.call c other)
      → To frame (call_in b.call c place)
  placed-at frame c place other e lowers = subst (λ z. To frame (call_in b.call c z)) (sym e) lowers

  asked-again : (ticket : ℕ) (place : CallPlace) → Heads script w p q (frames.NotOwner ticket) rest
      → IsAskedAgain w p place → To (frames.NotOwner ticket) (call_in b.call p place)
  asked-again ticket place h (inl other) =
      placed-at (frames.NotOwner ticket) p place InAsk other.1
      (not-owner-falls script w b holds p q rest ticket h other.0)
  asked-again ticket place h (inr first) =
      subst (λ y. TakesLower script w y q (frames.NotOwner ticket) b.call (call_in b.call y place)) (sym first.0)
      (first-not-owner-falls script w b holds q rest ticket
      (subst (λ y. Heads script w y q (frames.NotOwner ticket) rest) first.0 h) place
      (order.is_call 1 (omega arith) (let low = h.low in let high = h.high in omega (arith, low, high))) first.1)

  requested : (ticket pid : ℕ) (call : Call) (place : CallPlace)
      → Heads script w p q (frames.Request ticket pid call) rest
      → IsServedOr w p (record { caller = q; ticket = ticket; pid = pid; call = call }) (InNotOwner p) place 7
      → To (frames.Request ticket pid call) (call_in b.call q place)
  requested ticket pid call place h (inl light) =
      request-falls script w b holds p q rest ticket pid call h (order.rises p h.low h.high) place light
  requested ticket pid call place h (inr refused) =
      placed-at (frames.Request ticket pid call) q place (InNotOwner p) refused.0
      (refused-falls script w b holds p q rest ticket pid call h (order.rises p h.low h.high) refused.1)

  forwarded : (asked : Asked) (place : CallPlace) → Heads script w p q (frames.Forward asked) rest
      → CallerIsNode script (frames.Forward asked)
      → IsServedPlace (node_of w p) asked place ⊎ ((place ≡ InBounce p) × ((b.call asked.caller ≡ SentByRange p)
      × IsNotServed (node_of w p) (home_of asked.pid asked.call)))
      → To (frames.Forward asked) (call_in b.call asked.caller place)
  forwarded asked place h of_node (inl light) =
      forward-falls script w b holds p q rest asked h of_node.0 of_node.1 (order.rises p h.low h.high) place light
  forwarded asked place h of_node (inr back) =
      placed-at (frames.Forward asked) asked.caller place (InBounce p) back.0
      (bounced-falls script w b holds p q rest asked h of_node.0 of_node.1 (order.rises p h.low h.high) back.1.0
      back.1.1)

  leased : (kind : Kind) (place : CallPlace) → Heads script w p q (frames.LeaseAsk kind) rest
      → ((first : ℕ) × (place ≡ HasLease kind first))
      → To (frames.LeaseAsk kind) (call_in b.call q place)
  leased kind place h given =
      placed-at (frames.LeaseAsk kind) q place (HasLease kind given.0) given.1
      (lease-ask-falls script w b holds p q rest kind given.0 h)

  -- The rule of each frame's kind lowers the weight.
  pub each-take-lowers : (frame : Frame) → Heads script w p q frame rest → CallerIsNode script frame
      → AfterFrame script w b holds p q rest frame after → To frame after
  each-take-lowers (frames.Ask ticket pid call) h of_node m =
      at-leader (frames.Ask ticket pid call)
      (head-may-be script w p q (frames.Ask ticket pid call) rest h (is_born_in w) holds.frames_fit) h
      (λ g. takes-woken script w 1 q (frames.Ask ticket pid call) b.call (call_in b.call q m.place) after m.calls
      (ask-falls script w b holds q rest ticket pid call g m.place m.fits))
  each-take-lowers (frames.Request ticket pid call) h of_node m =
      moved (frames.Request ticket pid call) q _ m (λ place fits. requested ticket pid call place h fits)
  each-take-lowers (frames.Forward asked) h of_node m =
      moved (frames.Forward asked) asked.caller _ m (λ place fits. forwarded asked place h of_node fits)
  each-take-lowers (frames.Bounce asked) h of_node m =
      at-leader (frames.Bounce asked)
      (head-may-be script w p q (frames.Bounce asked) rest h (is_born_in w) holds.frames_fit) h
      (λ g. takes-woken script w 1 q (frames.Bounce asked) b.call (call_in b.call asked.caller m.place) after m.calls
      (bounce-falls script w b holds q rest asked g of_node.0 of_node.1 order.never m.place m.fits))
  each-take-lowers (frames.Answer ticket reply) h of_node m =
      moved (frames.Answer ticket reply) p _ m (λ place fits. placed-at (frames.Answer ticket reply) p place Idle fits
      (answer-falls script w b holds p q rest ticket reply h))
  each-take-lowers (frames.NotOwner ticket) h of_node m =
      moved (frames.NotOwner ticket) p _ m (λ place fits. asked-again ticket place h fits)
  each-take-lowers (frames.LeaseAsk kind) h of_node m =
      moved (frames.LeaseAsk kind) q _ m (λ place fits. leased kind place h fits)
  each-take-lowers (frames.Lease kind first) h of_node m =
      moved (frames.Lease kind first) p _ m (λ place fits. placed-at (frames.Lease kind first) p place Idle fits
      (lease-falls script w b holds p q rest kind first h))
  each-take-lowers (frames.GiveBack packed) h of_node light =
      at-leader (frames.GiveBack packed)
      (head-may-be script w p q (frames.GiveBack packed) rest h (is_born_in w) holds.frames_fit) h
      (λ g. give-back-falls script w b holds q packed rest g (order.held packed.name) after
      (light g (order.held packed.name)))
  each-take-lowers (frames.Left parcel) h of_node light =
      at-leader (frames.Left parcel)
      (head-may-be script w p q (frames.Left parcel) rest h (is_born_in w) holds.frames_fit) h
      (λ g. left-falls script w b holds q parcel rest g after (light g))
  each-take-lowers (frames.Placed name node) h of_node same =
      still (frames.Placed name node) same (placed-falls script w b holds p q rest name node h)
  each-take-lowers (frames.Checkpoint pid parent deed vars) h of_node same =
      still (frames.Checkpoint pid parent deed vars) same
      (checkpoint-falls script w b holds p q rest pid parent deed vars h)
  each-take-lowers (frames.Suggest name node) h of_node same =
      still (frames.Suggest name node) same (suggest-falls script w b holds p q rest name node h)
  each-take-lowers (frames.Recall name) h of_node same =
      still (frames.Recall name) same (recall-falls script w b holds p q rest name h)
  each-take-lowers (frames.Grant packed) h of_node same =
      still (frames.Grant packed) same (grant-falls script w b holds p q rest packed h)
  each-take-lowers (frames.Leaving pid parent parent_node) h of_node same =
      still (frames.Leaving pid parent parent_node) same
      (leaving-falls script w b holds p q rest pid parent parent_node h)
  each-take-lowers frames.RecallAll h of_node same =
      still frames.RecallAll same (recall-all-falls script w b holds p q rest h)
  each-take-lowers (frames.ExitTo parcel) h of_node same =
      still (frames.ExitTo parcel) same (exit-falls script w b holds p q parcel rest h)
  each-take-lowers (frames.Cancel asked) h of_node fits =
      still (frames.Cancel asked) fits.0
      (cancel-falls script w b holds p q asked rest h (order.rises p h.low h.high) fits.1)

  -- A node takes a frame, and the strike behind its rule costs nothing.
  pub each-take-falls : (frame : Frame) (last : ℕ → CallPlace) → Heads script w p q frame rest
      → CallerIsNode script frame → AfterFrame script w b holds p q rest frame after
      → ((s : Step) → take_by_kind script (node_of w p) q frame ≡ Some s → StrikesLightly script s after last)
      → Falls script w (events.Take p q) b.call last
  each-take-falls frame last h of_node fits strikes =
      take-falls script w p q frame rest b.call after last holds.shape h (each-take-lowers frame h of_node fits) strikes
