-- A call comes back to the leader from a node that it was sent to: it is in the leader's hand, and is routed again.
use Rattle.std.proofs.Common.{◌≡◌, ◌≢◌, ℕ, ◌≤◌, Bool, true, false, ◌&&◌, not, cond, if◌then◌else◌, List, [], ◌∷◌, ◌++◌, length, filter, nat_eq, nat_le, None, is_some, refl, ap, sym, subst, ◌∙◌, arith}
use Rattle.std.proofs.lemmas.Bool.{eq-eqb, false≢true, le-leb, ne_eqb}
use Rattle.pico_base.specs.declared.call.Home.{Home}
use Rattle.pico_base.specs.declared.call.Home.TheVariants as homes
use Rattle.pico_base.specs.declared.numbers.Name.{Name}
use Rattle.pico_base.specs.declared.script.Script.{Script}
use Rattle.pico_base.specs.Home.{home_of}
use Rattle.rpc_frame.specs.declared.asked.Asked.{Asked}
use Rattle.rpc_frame.specs.declared.frame.Frame.{Frame}
use Rattle.rpc_frame.specs.declared.frame.Frame.TheVariants as frames
use Rattle.entry_laws.specs.Entering.{is_used_name}
use Rattle.node_model.specs.declared.held.Held.TheVariants.{Request}
use Rattle.node_model.specs.Directory.{maker, place_of}
use Rattle.world_model.specs.Node.{Node, is_leader, is_node}
use Rattle.world_model.specs.Step.{step_to}
use Rattle.world_model.specs.Calls.{is_for_others, is_on_name_or_removal, take_bounce}
use Rattle.world_model.specs.World.{World, node_count, world_after}
use Rattle.world_laws.specs.Places.{InBounce, IsInHand, Beside, call_in}
use Rattle.world_laws.specs.Sights.{node_of, directory_of, is_born_in}
use Rattle.world_laws.specs.Plays.{News, NeedsPlace, finds_place, is_call_on, news, news_if}
use Rattle.world_laws.specs.Names.{name_sight, NameHolds, is_maker}
use Rattle.world_laws.specs.Callers.{CallSight, call_sight, CallHolds, HasCall, IsToBeMade, IsJustThere, IsSoFar, asked_of, only_if, is_in_stream, frame_at, is_held_at, is_about, is_end_place, is_waiting_at, may_be_in}
use Rattle.world_laws.specs.Ranges.{has_lease}
use Rattle.world_laws.specs.Invariant.{Holds}
use Rattle.world_laws.proofs.Steps.{Heads, world_without}
use Rattle.world_laws.proofs.Heads.{head-is, head-from-another}
use Rattle.rule_laws.proofs.Answers.{Found, find}
use Rattle.rule_laws.proofs.CallFrames.{IsBounceOf, bounce-of}
use Rattle.route_laws.proofs.hand.Takings.{IsTakenUp, IsSameLeader, name-news-taken, name-not-taken, taken-keeps}
use Rattle.world_model.specs.Routes.{route_call}
use Rattle.waiting_model.specs.Calls.{is_withdrawal}
use Rattle.world_laws.specs.Families.{NodeHolds}
use Rattle.rule_laws.proofs.Nodes.{and-true}
use Rattle.route_laws.proofs.hand.Asks.{NeverWithdraws}
use Rattle.route_laws.proofs.hand.Routes.{RouteKeeps}
use Rattle.route_laws.proofs.Owed.{KeepsByRule}
use Rattle.world_laws.proofs.Pairs.{goes_on}
use Rattle.world_laws.proofs.Wholes.{is_to_be_made}
use Rattle.pico_base.specs.declared.call.Call.{Call}

for-others-too : (home : Home) → is_on_name_or_removal home ≡ true → is_for_others home ≡ true
for-others-too (homes.At name) h = refl
for-others-too (homes.Removal name) h = refl
for-others-too homes.Own h = absurd (false≢true h)
for-others-too homes.Keys h = absurd (false≢true h)
for-others-too homes.Parent h = absurd (false≢true h)

known-first : (known : Bool) (ns : List News) → finds_place known (NeedsPlace ∷ ns) ≡ true → known ≡ true
known-first true ns h = refl
known-first false ns h = absurd (false≢true h)

all-true : (leads from is_node on withdraws : Bool) → leads ≡ true → from ≡ false → is_node ≡ true → on ≡ true
    → withdraws ≡ false → ((leads && not from) && (is_node && (on && not withdraws))) ≡ true
all-true leads from is_node on withdraws a c d e f = rw (a, c, d, e, f) refl

-- what may come back is a removal, or a call on a process
came-back-on-name : (home : Home) (h : ℕ) (call : Call) → may_be_in (InBounce h) home call ≡ true
    → is_on_name_or_removal home ≡ true
came-back-on-name (homes.At name) h call may = refl
came-back-on-name (homes.Removal name) h call may = refl
came-back-on-name homes.Own h call may = absurd (false≢true may)
came-back-on-name homes.Keys h call may = absurd (false≢true may)
came-back-on-name homes.Parent h call may = absurd (false≢true may)

-- the caller is a node of the script
module _ (script : Script) (w : World) (b : Beside) (holds : Holds script w [] b) (q : ℕ) (asked : Asked)
    (rest : List Frame) (h : Heads script w 1 q (frames.Bounce asked) rest) (low : 1 ≤ asked.caller)
    (high : asked.caller ≤ node_count script) (never : NeverWithdraws script) where
  abbrev frame : Frame
  frame = frames.Bounce asked

  abbrev n : Node
  n = node_of w 1

  abbrev p : ℕ
  p = asked.caller

  abbrev x : CallSight
  x = call_sight w [] b p

  abbrev v : World
  v = world_without w 1 q rest

  other : q ≢ 1
  other = head-from-another script w 1 q frame rest h (is_born_in w) holds.frames_fit

  low-sender : 2 ≤ q
  low-sender = let low_q = h.low_from in omega (arith, low_q, other)

  call-holds : CallHolds script p (is_born_in w) x
  call-holds = holds.calls p low high

  about-first : x.frames_about 1 q ≡ frame ∷ filter (is_about p 1 q) rest
  about-first =
      ap (filter (is_about p 1 q)) (head-is script w 1 q frame rest h)
      ∙ ap (λ t. cond t (frame ∷ filter (is_about p 1 q) rest) (filter (is_about p 1 q) rest)) (eq-eqb p p refl)

  found : Found script p (is_born_in w) x
  found =
      find script p (is_born_in w) x 1 q frame (filter (is_about p 1 q) rest) about-first x.caller.under_way refl
      call-holds.call

  has : HasCall script p (is_born_in w) x found.call
  has = found.has

  just-there : IsJustThere p x (asked_of x found.call)
  just-there = has.just_there

  is-bounce : IsBounceOf x.call (asked_of x found.call) q asked (filter (is_about p 1 q) rest)
  is-bounce =
      bounce-of (asked_of x found.call) p 1 q asked (filter (is_about p 1 q) rest) x.call
      (sym (just-there.in_streams 1 q) ∙ about-first)

  on-name-too : is_on_name_or_removal (home_of asked.pid asked.call) ≡ true
  on-name-too =
      subst (λ (a : Asked). is_on_name_or_removal (home_of a.pid a.call) ≡ true) (sym is-bounce.asked_is)
      (came-back-on-name (home_of x.pid found.call) q found.call
      (sym (ap (λ y. may_be_in y (home_of x.pid found.call) found.call) is-bounce.place_is) ∙ has.home))

  for-others : is_for_others (home_of asked.pid asked.call) ≡ true
  for-others = for-others-too (home_of asked.pid asked.call) on-name-too

  to-be-made : IsToBeMade script p x found.call
  to-be-made = subst (λ y. IsSoFar script p x found.call y) is-bounce.place_is has.so_far

  pub is-call : is_withdrawal asked.call ≡ false
  is-call =
      ap (λ (a : Asked). is_withdrawal a.call) is-bounce.asked_is ∙ never p x.caller found.call to-be-made.due

  taken-up : IsTakenUp script w b q frame asked
  taken-up =
      record {
        low = low;
        high = high;
        call = found.call;
        is = found.is;
        has = has;
        asked_is = is-bounce.asked_is;
        for_others = for-others;
        to_be_made = to-be-made;
        is_call = is-call;
        goes = ap (λ y. goes_on y IsInHand) is-bounce.place_is;
        is_made_yet = ap is_to_be_made is-bounce.place_is;
        no_waiter = λ name. ap (λ y. is_waiting_at y name) is-bounce.place_is;
        not_end = ap is_end_place is-bounce.place_is;
        no_lease = λ kind. ap (has_lease kind) is-bounce.place_is;
        no_item = λ name. ap (λ z. is_held_at z name) is-bounce.place_is;
        there = λ to sender. ap (λ z. only_if (is_in_stream z p to sender) (frame_at z asked)) is-bounce.place_is;
        about = eq-eqb p p refl;
        of_no_other = λ y d. ne_eqb p y (λ e. d (sym e));
        plain = refl;
        no_birth = refl;
        no_cancel = λ y. refl;
        brings_no_lease = λ kind. refl;
      }

  same-leader : IsSameLeader script w b n
  same-leader =
      record {
        caller = record { number = refl; pid = refl; stage = refl; caller = refl; leases = refl };
        deeds = refl;
        leader = refl;
        node = holds.nodes 1 h.low h.high;
      }

  -- A name that a call comes back for is known.
  pub bounced-known : (m : Name) → is_call_on m asked ≡ true → is_some (place_of (directory_of w) m) ≡ true
  bounced-known m on =
      let s : NameHolds script b.pids (is_born_in w) m (name_sight script w [] b m) = holds.names m
      in let made : Bool = is_used_name b.kernel m && is_maker (maker (directory_of w) m) q
      in known-first (is_some (place_of (directory_of w) m)) (news m made rest)
      (sym (ap (λ ns. finds_place (is_some (place_of (directory_of w) m)) ns)
      (ap (λ fs. news m made fs) (head-is script w 1 q frame rest h)
      ∙ ap (λ t. news_if t NeedsPlace ++ news m made rest) on))
      ∙ s.found q low-sender)

  -- The call is in the leader's hand.
  pub bounce-in-hand : Holds script (world_after v 1 (step_to n)) (Request asked ∷ [])
      (record b { call = call_in b.call p IsInHand })
  bounce-in-hand =
      taken-keeps script w b holds q frame rest h asked taken-up n same-leader
      (λ m. by-test m (is_call_on m asked) refl)
    where
      by-test : (m : Name) (t : Bool) → is_call_on m asked ≡ t
          → NameHolds script b.pids (is_born_in (world_after v 1 (step_to n))) m
          (name_sight script (world_after v 1 (step_to n)) (Request asked ∷ [])
          (record b { call = call_in b.call p IsInHand }) m)
      by-test m true e =
          name-news-taken script w b holds q frame rest h asked taken-up n same-leader m (bounced-known m e)
          (record { no_deed = refl; no_checkpoint = refl; no_steps = refl; no_ranges = refl; no_place = refl })
      by-test m false e = name-not-taken script w b holds q frame rest h asked taken-up n same-leader m e

  -- The rule applies, and routes it.
  pub bounce-is-routed : take_bounce script n q asked ≡ route_call script (step_to n) asked
  bounce-is-routed =
      let m : NodeHolds script b.pids (is_born_in w) 1 n = holds.nodes 1 h.low h.high
      in ap (λ t. if t then route_call script (step_to n) asked else None)
      (all-true (is_leader n) (nat_eq q 1) (is_node script asked.caller)
      (is_on_name_or_removal (home_of asked.pid asked.call)) (is_withdrawal asked.call) (eq-eqb n.number 1 m.number)
      (ne_eqb q 1 other)
      (and-true (nat_le 1 p) (nat_le p (length script.blocks)) (le-leb 1 p low) (le-leb p (length script.blocks) high))
      on-name-too is-call)

  -- So the rule has a step wherever the call has a route, and keeps what the route keeps.
  pub bounce-keeps : (b' : Beside) → RouteKeeps script v (step_to n) asked [] b' → KeepsByRule script w 1 q frame rest
      b'
  bounce-keeps b' r = record { step = r.next; is_step = bounce-is-routed ∙ r.is_route; holds = r.holds }
