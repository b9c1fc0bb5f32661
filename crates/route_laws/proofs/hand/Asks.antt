-- A node asks the leader to have its call carried out: the call is in the leader's hand, and is routed.
use Rattle.std.proofs.Common.{◌≡◌, ◌≢◌, ℕ, Bool, true, false, ◌&&◌, not, cond, if◌then◌else◌, List, [], ◌∷◌, filter, nat_eq, None, refl, ap, sym, subst, ◌∙◌}
use Rattle.std.proofs.lemmas.Bool.{eq-eqb, ne_eqb}
use Rattle.pico_base.specs.declared.call.Call.{Call}
use Rattle.pico_base.specs.declared.script.Script.{Script}
use Rattle.pico_base.specs.Home.{home_of}
use Rattle.rpc_frame.specs.declared.asked.Asked.{Asked}
use Rattle.rpc_frame.specs.declared.frame.Frame.{Frame}
use Rattle.rpc_frame.specs.declared.frame.Frame.TheVariants as frames
use Rattle.waiting_model.specs.Calls.{is_withdrawal}
use Rattle.kernel_model.specs.Fitting.{IsDue}
use Rattle.node_model.specs.declared.held.Held.TheVariants.{Request}
use Rattle.node_model.specs.Caller.{Caller, caller_place}
use Rattle.world_model.specs.Node.{Node, is_leader}
use Rattle.world_model.specs.Step.{step_to}
use Rattle.world_model.specs.Calls.{take_ask, is_for_others}
use Rattle.world_model.specs.Routes.{route_call}
use Rattle.world_model.specs.World.{World, world_after}
use Rattle.world_laws.specs.Places.{IsInHand, Beside, call_in}
use Rattle.world_laws.specs.Sights.{node_of, is_born_in}
use Rattle.world_laws.specs.Callers.{CallSight, call_sight, CallHolds, HasCall, IsToBeMade, IsJustThere, IsSoFar, asked_of, only_if, is_in_stream, frame_at, is_held_at, is_about, is_end_place, is_waiting_at, may_be_in}
use Rattle.world_laws.specs.Ranges.{has_lease}
use Rattle.world_laws.specs.Families.{NodeHolds}
use Rattle.world_laws.specs.Invariant.{Holds}
use Rattle.world_laws.proofs.Steps.{Heads, world_without}
use Rattle.world_laws.proofs.Heads.{head-is, head-from-another}
use Rattle.rule_laws.proofs.Answers.{Found, find}
use Rattle.rule_laws.proofs.CallFrames.{IsAskOf, ask-of}
use Rattle.route_laws.proofs.hand.Takings.{IsTakenUp, IsSameLeader, name-not-taken, taken-keeps}
use Rattle.route_laws.proofs.hand.Routes.{RouteKeeps}
use Rattle.route_laws.proofs.Owed.{KeepsByRule}
use Rattle.world_laws.proofs.Pairs.{goes_on}
use Rattle.world_laws.proofs.Wholes.{is_to_be_made}

-- no call that a script makes is a withdrawal
abbrev pub NeverWithdraws : Script → Type 0
NeverWithdraws script =
    (p : ℕ) (c : Caller) (call : Call) → IsDue (caller_place script p c) call → is_withdrawal call ≡ false

all-true : (leads from others withdraws : Bool) → leads ≡ true → from ≡ false → others ≡ true → withdraws ≡ false
    → ((leads && not from) && (others && not withdraws)) ≡ true
all-true leads from others withdraws a c e f = rw (a, c, e, f) refl

module _ (script : Script) (w : World) (b : Beside) (holds : Holds script w [] b) (q ticket pid : ℕ) (call : Call)
    (rest : List Frame) (h : Heads script w 1 q (frames.Ask ticket pid call) rest) (never : NeverWithdraws script) where
  abbrev frame : Frame
  frame = frames.Ask ticket pid call

  abbrev n : Node
  n = node_of w 1

  abbrev x : CallSight
  x = call_sight w [] b q

  abbrev asked : Asked
  asked = record { caller = q; ticket = ticket; pid = pid; call = call }

  abbrev v : World
  v = world_without w 1 q rest

  other : q ≢ 1
  other = head-from-another script w 1 q frame rest h (is_born_in w) holds.frames_fit

  call-holds : CallHolds script q (is_born_in w) x
  call-holds = holds.calls q h.low_from h.high_from

  about-first : x.frames_about 1 q ≡ frame ∷ filter (is_about q 1 q) rest
  about-first =
      ap (filter (is_about q 1 q)) (head-is script w 1 q frame rest h)
      ∙ ap (λ t. cond t (frame ∷ filter (is_about q 1 q) rest) (filter (is_about q 1 q) rest)) (eq-eqb q q refl)

  found : Found script q (is_born_in w) x
  found =
      find script q (is_born_in w) x 1 q frame (filter (is_about q 1 q) rest) about-first x.caller.under_way refl
      call-holds.call

  has : HasCall script q (is_born_in w) x found.call
  has = found.has

  just-there : IsJustThere q x (asked_of x found.call)
  just-there = has.just_there

  is-ask : IsAskOf x.call (asked_of x found.call) ticket pid call (filter (is_about q 1 q) rest)
  is-ask =
      ask-of (asked_of x found.call) q 1 q ticket pid call (filter (is_about q 1 q) rest) x.call
      (sym (just-there.in_streams 1 q) ∙ about-first)

  number-is : q ≡ x.number
  number-is =
      let m : NodeHolds script b.pids (is_born_in w) q (node_of w q) = holds.nodes q h.low_from h.high_from
      in sym m.number

  asked-is : asked ≡ asked_of x found.call
  asked-is = λ i. record {
    caller = number-is i;
    ticket = is-ask.ticket_is i;
    pid = is-ask.pid_is i;
    call = is-ask.call_is i;
  }

  for-others : is_for_others (home_of pid call) ≡ true
  for-others =
      subst (λ (a : Asked). is_for_others (home_of a.pid a.call) ≡ true) (sym asked-is)
      (sym (ap (λ y. may_be_in y (home_of x.pid found.call) found.call) is-ask.place_is) ∙ has.home)

  to-be-made : IsToBeMade script q x found.call
  to-be-made = subst (λ y. IsSoFar script q x found.call y) is-ask.place_is has.so_far

  pub is-call : is_withdrawal call ≡ false
  is-call = ap is_withdrawal is-ask.call_is ∙ never q x.caller found.call to-be-made.due

  taken-up : IsTakenUp script w b q frame asked
  taken-up =
      record {
        low = h.low_from;
        high = h.high_from;
        call = found.call;
        is = found.is;
        has = has;
        asked_is = asked-is;
        for_others = for-others;
        to_be_made = to-be-made;
        is_call = is-call;
        goes = ap (λ y. goes_on y IsInHand) is-ask.place_is;
        is_made_yet = ap is_to_be_made is-ask.place_is;
        no_waiter = λ name. ap (λ y. is_waiting_at y name) is-ask.place_is;
        not_end = ap is_end_place is-ask.place_is;
        no_lease = λ kind. ap (has_lease kind) is-ask.place_is;
        no_item = λ name. ap (λ z. is_held_at z name) is-ask.place_is;
        there = λ to sender. ap (λ z. only_if (is_in_stream z q to sender) (frame_at z asked)) is-ask.place_is;
        about = eq-eqb q q refl;
        of_no_other = λ y d. ne_eqb q y (λ e. d (sym e));
        plain = refl;
        no_birth = refl;
        no_cancel = λ y. refl;
        brings_no_lease = λ kind. refl;
      }

  same-leader : IsSameLeader script w b n
  same-leader =
      record {
        caller = record { number = refl; pid = refl; stage = refl; caller = refl; leases = refl };
        deeds = refl;
        leader = refl;
        node = holds.nodes 1 h.low h.high;
      }

  -- The call is in the leader's hand.
  pub ask-in-hand : Holds script (world_after v 1 (step_to n)) (Request asked ∷ [])
      (record b { call = call_in b.call q IsInHand })
  ask-in-hand =
      taken-keeps script w b holds q frame rest h asked taken-up n same-leader
      (λ m. name-not-taken script w b holds q frame rest h asked taken-up n same-leader m refl)

  -- The rule applies, and routes it.
  pub ask-is-routed : take_ask script n q ticket pid call ≡ route_call script (step_to n) asked
  ask-is-routed =
      let m : NodeHolds script b.pids (is_born_in w) 1 n = holds.nodes 1 h.low h.high
      in ap (λ t. if t then route_call script (step_to n) asked else None)
      (all-true (is_leader n) (nat_eq q 1) (is_for_others (home_of pid call)) (is_withdrawal call)
      (eq-eqb n.number 1 m.number) (ne_eqb q 1 other) for-others is-call)

  -- So the rule has a step wherever the call has a route, and keeps what the route keeps.
  pub ask-keeps : (b' : Beside) → RouteKeeps script v (step_to n) asked [] b' → KeepsByRule script w 1 q frame rest b'
  ask-keeps b' r = record { step = r.next; is_step = ask-is-routed ∙ r.is_route; holds = r.holds }
